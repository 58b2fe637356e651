-- A request opens an end of the server in any network, with its first datagram. For `a_request_opens_an_end` and the
-- crates tftp_player and tftp_promises.
use Rattle.tftp_rules.proofs.Common.{◌≡◌, refl, true, [], false, rules, ◌∷◌, arith, ◌++◌, ◌<◌, ◌≤◌, ◌^◌, Mode, Octet}
use Rattle.tftp_rules.proofs.Common.{Netascii, Oack, size, agreed_options, DEFAULT_BLOCK, block, block_count, wire_text}
use Rattle.tftp_rules.proofs.Common.{HeldBackFits, Network, Opens_with, Opens_plainly}
use Rattle.tftp_rules.specs.EndOpens.{ReadsOpen, WritesOpen, new_receiver}
use Rattle.tftp_rules.proofs.Actions.{opens}
use Rattle.tftp_rules.proofs.SaidLemmas.{own_oack}
use Rattle.tftp_rules.proofs.SourceMoves.{valid_data}
use Rattle.tftp_wire.specs.declared.packet.Packet.TheVariants.{Data, Ack}

-- an end that has received nothing holds nothing back, and has no text
pub nothing_held : (mode : Mode) → HeldBackFits mode []
nothing_held Octet = refl
nothing_held Netascii = tt

-- an empty file has an empty wire text
pub no_text : (mode : Mode) → wire_text mode [] ++ [] ≡ []
no_text Octet = refl
no_text Netascii = refl

module _ (network : Network) where
  -- a read request opens an end that sends
  pub opens_to_send : ReadsOpen network
  opens_to_send first views messages a from bytes request path file text [] retries shown place new come granted fits =
      let one : 1 ≤ block_count text DEFAULT_BLOCK = omega arith in
      record {
        packet = Data 1 (block text DEFAULT_BLOCK 1);
        valid = valid_data text _ 0 (omega arith) (omega arith) fits one;
        last_sent = refl;
        last_sent_to = refl;
        kept = search rules;
        side = refl;
        shown = opens network first views messages shown bytes (Opens_plainly a from false request text) tt (
          refl,
          place,
          come.sent,
          fits,
        ) new (come.spells, come.unanswered) refl;
      }
  opens_to_send first views messages a from bytes request path file text (k ∷ others) retries shown place new come
      granted fits =
      let agreed = k ∷ others in
      let now =
      opens network first views messages shown bytes (Opens_with a from false request text (size agreed)) tt (
        refl,
        place,
        come.sent,
        fits,
        granted.positive,
      ) new (come.spells, come.unanswered) refl in
      record {
        packet = Oack (agreed_options agreed);
        valid = granted.oack (λ e. cc);
        last_sent = refl;
        last_sent_to = refl;
        kept = search rules;
        side = refl;
        shown = search (rules, own_oack);
      }

  -- a write request opens an end that receives
  pub opens_to_store : WritesOpen network
  opens_to_store first views messages a from bytes request path [] retries shown place new come granted = record {
    packet = Ack 0;
    valid = let l : 0 < 2 ^ 16 = omega arith in l;
    last_sent = refl;
    last_sent_to = refl;
    kept = record { phase = (refl, refl); held_back = nothing_held request.mode; committed = λ _. refl };
    side = refl;
    shown = opens network first views messages shown bytes (Opens_plainly a from true request
        (wire_text request.mode [] ++ []))
        tt (refl, place, come.sent, no_text request.mode) new (come.spells, come.unanswered) refl;
  }
  opens_to_store first views messages a from bytes request path (k ∷ others) retries shown place new come granted =
      let agreed = k ∷ others in
      let x = new_receiver a bytes agreed from request.mode path retries in
      let now =
      opens network first views messages shown bytes
      (Opens_with a from true request (wire_text request.mode [] ++ []) (size agreed)) tt
      (refl, place, come.sent, no_text request.mode, granted.positive) new (come.spells, come.unanswered) refl in
      record {
        packet = Oack (agreed_options agreed);
        valid = granted.oack (λ e. cc);
        last_sent = refl;
        last_sent_to = refl;
        kept = record { phase = (refl, refl); held_back = nothing_held request.mode; committed = λ _. refl };
        side = refl;
        shown = search (rules, own_oack);
      }
