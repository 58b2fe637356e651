-- A datagram was handled, and then the clock was read.
use Rattle.std.proofs.Common.{rules}
use Rattle.tftp_client.proofs.transfer.conversation.Conversation.answer_datagram.Goals as goal

pub returns-clause-answers : goal.returns-clause-answers
returns-clause-answers g c = search rules
