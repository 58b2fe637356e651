-- How a run over a capture ended, and the status for it.
use Rattle.std.specs.Prelude.{ℕ, Bool, if◌then◌else◌, ◌&&◌, is_none}
use Rattle.tftp_show.specs.declared.printer.Outcome.{Outcome}
use Rattle.tftp_show.specs.declared.task.Style.{Style}
use Rattle.tftp_show.specs.declared.task.Style.TheVariants.{Packets, Report, Follow, Json}

-- whether each datagram was as it should be, by what is printed: a packet, or of a transfer
abbrev pub whole_by : Style → Bool → Bool → Bool
whole_by Packets are_packets are_of_transfers = are_packets
whole_by Report are_packets are_of_transfers = are_of_transfers
whole_by Follow are_packets are_of_transfers = are_of_transfers
whole_by Json are_packets are_of_transfers = are_of_transfers

-- 0, if the capture was read to its end and each datagram was as it should be
abbrev pub outcome_status : Outcome → ℕ
outcome_status outcome = if is_none outcome.cut && outcome.is_whole then 0 else 1
