-- How many datagrams a server received and sent (ours).
use Rattle.std.specs.Prelude.{◌+◌, List, [], ◌∷◌}
use Rattle.tftp_sockets.specs.declared.receipt.Receipt.{Receipt}
use Rattle.tftp_sockets.specs.declared.receipt.Receipt.TheVariants.{Datagram}
use Rattle.tftp_status.specs.Counts.{saturated}
use Rattle.tftp_status.specs.StatusEvent.{StatusEvent}
use Rattle.tftp_status.specs.StatusEvent.StatusEvent.{Told, Moved, Handed}
use Rattle.tftp_status.specs.declared.datagrams.Datagrams.{Datagrams}
use Rattle.tftp_status.specs.declared.datagrams.Way.{Way}
use Rattle.tftp_status.specs.declared.datagrams.Way.TheVariants.{Received, Sent}

-- one datagram more
abbrev pub moved : Way → Datagrams → Datagrams
moved Received old = record old { received = saturated (1 + old.received) }
moved Sent old = record old { sent = saturated (1 + old.sent) }

-- the datagrams that were counted
abbrev pub datagrams_in : List StatusEvent → Datagrams
datagrams_in [] = record { received = 0; sent = 0 }
datagrams_in (Told entry ∷ before) = datagrams_in before
datagrams_in (Moved way ∷ before) = moved way (datagrams_in before)
datagrams_in (Handed text ∷ before) = datagrams_in before

-- what was counted, once a receive has ended so
abbrev pub with_receipt : Receipt → List StatusEvent → List StatusEvent
with_receipt (Datagram peer length) events = Moved Received ∷ events
with_receipt receipt events = events
