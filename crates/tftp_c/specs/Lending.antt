-- What a slot lends: what is behind its pointer, which it follows.
use Rattle.std.specs.Prelude.{Some}
use Rattle.std.specs.Borrow.{Lends, MutBor, Fml}
use Rattle.tftp_c.specs.declared.client.Client.{Client}
use Rattle.tftp_c.specs.declared.held_server.HeldServer.{HeldServer}
use Rattle.tftp_c.specs.declared.server_slot.ServerSlot.{ServerSlot}
use Rattle.tftp_c.specs.declared.slot.Slot.{Slot}
use Rattle.tftp_c.specs.contracts.client.Client as client
use Rattle.tftp_c.specs.contracts.held_server.HeldServer as server
use Rattle.tftp_c.specs.contracts.server_slot.ServerSlot as server_slot
use Rattle.tftp_c.specs.contracts.slot.Slot as slot

-- the slot with this client, and with this server
abbrev pub with_client : Slot → Client → Slot
with_client s c = record s { value = Some c }

abbrev pub with_server : ServerSlot → HeldServer → ServerSlot
with_server s h = record s { value = Some h }

-- the slot ends with what is left behind the reference
abbrev pub LendsClient : MutBor Slot → MutBor Client → Fml
LendsClient s r = Lends slot.the_row client.the_row s r (with_client s.now)

abbrev pub LendsServer : MutBor ServerSlot → MutBor HeldServer → Fml
LendsServer s r = Lends server_slot.the_row server.the_row s r (with_server s.now)
