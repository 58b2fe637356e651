-- The lemmas that are the law.
use Rattle.tftp_ends.proofs.SenderRowLemmas.{newest_ack_sends, last_ack_completes, old_ack_is_nothing}
use Rattle.tftp_ends.proofs.SenderRowLemmas.{early_ack_is_illegal, error_closes_sender, oack_again_is_nothing}
use Rattle.tftp_ends.proofs.SenderRowLemmas.{sender_refuses_others, sender_refuses_malformed}
use Rattle.tftp_ends.proofs.laws.sender_rows.Goals as goal

pub returns-clause-newest_ack : goal.returns-clause-newest_ack
returns-clause-newest_ack g c = newest_ack_sends g.S.Source.meaning g.K.Sink.meaning

pub returns-clause-last_ack : goal.returns-clause-last_ack
returns-clause-last_ack g c = last_ack_completes g.S.Source.meaning g.K.Sink.meaning

pub returns-clause-old_ack : goal.returns-clause-old_ack
returns-clause-old_ack g c = old_ack_is_nothing g.S.Source.meaning g.K.Sink.meaning

pub returns-clause-early_ack : goal.returns-clause-early_ack
returns-clause-early_ack g c = early_ack_is_illegal g.S.Source.meaning g.K.Sink.meaning

pub returns-clause-error : goal.returns-clause-error
returns-clause-error g c = error_closes_sender g.S.Source.meaning g.K.Sink.meaning

pub returns-clause-oack : goal.returns-clause-oack
returns-clause-oack g c = oack_again_is_nothing g.S.Source.meaning g.K.Sink.meaning

pub returns-clause-others : goal.returns-clause-others
returns-clause-others g c = sender_refuses_others g.S.Source.meaning g.K.Sink.meaning

pub returns-clause-malformed : goal.returns-clause-malformed
returns-clause-malformed g c = sender_refuses_malformed g.S.Source.meaning g.K.Sink.meaning
