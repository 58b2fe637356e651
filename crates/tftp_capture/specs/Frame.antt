-- The UDP datagram of a frame, layer by layer, or the first fault of the frame.
use Rattle.std.specs.Prelude.{ℕ, ◌≡◌, ◌+◌, ◌-◌, ◌*◌, ◌/◌, ◌%◌, ◌==◌, ◌&&◌, ◌||◌, not, nat_lt, Bool, if◌then◌else◌}
use Rattle.std.specs.Prelude.{List, [], ◌∷◌, length, take, drop, slice_index, Result, Ok, Err}
use Rattle.std.specs.Borrow.{Bor}
use Rattle.std.specs.Net.Addr.{ipv4_octets}
use Rattle.std.specs.Net.Socket.{v4_ip, v4_port}
use Rattle.byteorder.specs.Endian.{big_number}
use Rattle.tftp_capture.specs.declared.datagram.Datagram.{Datagram}
use Rattle.tftp_capture.specs.declared.fault.FrameFault.{FrameFault}
use Rattle.tftp_capture.specs.declared.fault.FrameFault.TheVariants as faults
use Rattle.tftp_capture.specs.declared.ip.Carried.{Carried}
use Rattle.tftp_capture.specs.declared.link.Link.{Link}
use Rattle.tftp_capture.specs.declared.link.Link.TheVariants.{Ethernet, Cooked, Cooked2, Raw, Loopback, Other}

-- a reader gives the value that is wanted, seen by `view`, or the fault that is
abbrev pub IsWanted : {T U E : Type 0} → (T → U) → Result U E → Result T E → Type 0
IsWanted view wanted (Ok x) = wanted ≡ Ok (view x)
IsWanted view wanted (Err e) = wanted ≡ Err e

-- the bytes behind a reference
abbrev pub borrowed : Bor (List ℕ) → List ℕ
borrowed bytes = bytes.now

-- the number in the two bytes at an offset, the high byte first
abbrev pub pair_at : ℕ → List ℕ → ℕ
pair_at at bytes = big_number 2 (drop at bytes)

-- the four bytes at an offset
abbrev pub octets_at : ℕ → List ℕ → List ℕ
octets_at at bytes =
    slice_index bytes at ∷ slice_index bytes (at + 1) ∷ slice_index bytes (at + 2)
    ∷ slice_index bytes (at + 3) ∷ []

-- the link of a number of tcpdump.org's list
abbrev pub link_of : ℕ → Link
link_of number =
    if number == 0 then Loopback
    else if number == 108 then Loopback
    else if number == 1 then Ethernet
    else if number == 12 then Raw
    else if number == 14 then Raw
    else if number == 101 then Raw
    else if number == 228 then Raw
    else if number == 113 then Cooked
    else if number == 276 then Cooked2
    else Other

-- the type of a VLAN tag
abbrev pub is_tag : ℕ → Bool
is_tag kind = kind == 0x8100 || kind == 0x88a8 || kind == 0x9100

-- the packet of this type
abbrev pub untagged : ℕ → List ℕ → Result (List ℕ) FrameFault
untagged kind rest = if kind == 0x0800 then Ok rest else Err faults.NotIpv4

-- after at most one tag: two bytes, and then the type of what follows
abbrev pub tagged : ℕ → List ℕ → Result (List ℕ) FrameFault
tagged kind rest =
    if not (is_tag kind) then untagged kind rest
    else if nat_lt (length rest) 4 then Err faults.Short
    else untagged (pair_at 2 rest) (drop 4 rest)

-- after at most two tags
abbrev pub twice_tagged : ℕ → List ℕ → Result (List ℕ) FrameFault
twice_tagged kind rest =
    if not (is_tag kind) then untagged kind rest
    else if nat_lt (length rest) 4 then Err faults.Short
    else tagged (pair_at 2 rest) (drop 4 rest)

-- a header of `start` bytes with a type at an offset
abbrev pub typed : ℕ → ℕ → List ℕ → Result (List ℕ) FrameFault
typed at start frame =
    if nat_lt (length frame) start then Err faults.Short
    else twice_tagged (pair_at at frame) (drop start frame)

-- the address family of IPv4, in either byte order
abbrev pub is_inet : ℕ → ℕ → Bool
is_inet first second = (first == 0 && (second == 2)) || (first == 0x0200 && (second == 0))

-- a header of an address family
abbrev pub family : List ℕ → Result (List ℕ) FrameFault
family frame =
    if nat_lt (length frame) 4 then Err faults.Short
    else if is_inet (pair_at 0 frame) (pair_at 2 frame) then Ok (drop 4 frame)
    else Err faults.NotIpv4

-- the IP packet in a frame
abbrev pub ip_packet : Link → List ℕ → Result (List ℕ) FrameFault
ip_packet Ethernet frame = typed 12 14 frame
ip_packet Cooked frame = typed 14 16 frame
ip_packet Cooked2 frame = typed 0 20 frame
ip_packet Raw frame = Ok frame
ip_packet Loopback frame = family frame
ip_packet Other frame = Err faults.Link

-- what a packet carries: its body, as far as the frame has it, and the body's size by the header
pub record Body : Type 0 where
  pub source : List ℕ
  pub target : List ℕ
  pub bytes : List ℕ
  pub size : ℕ
  pub goes_on : Bool

-- the length of a header of IPv4
abbrev pub header_of : List ℕ → ℕ
header_of packet = slice_index packet 0 % 16 * 4

-- the body of a packet whose headers have no fault
abbrev pub body_of : List ℕ → Body
body_of packet = record {
  source = octets_at 12 packet;
  target = octets_at 16 packet;
  bytes = take (pair_at 2 packet - header_of packet) (drop (header_of packet) packet);
  size = pair_at 2 packet - header_of packet;
  goes_on = pair_at 6 packet / 0x2000 % 2 == 1;
}

-- what a packet carries of UDP (RFC 791, section 3.1)
abbrev pub carried_of : List ℕ → Result Body FrameFault
carried_of packet =
    if nat_lt (length packet) 20 then Err faults.Short
    else if not (slice_index packet 0 / 16 == 4) then Err faults.NotIpv4
    else if nat_lt (header_of packet) 20 || nat_lt (pair_at 2 packet) (header_of packet) then Err faults.Header
    else if not (slice_index packet 9 == 17) then Err faults.NotUdp
    else if not (pair_at 6 packet % 0x2000 == 0) then Err faults.Fragment
    else if nat_lt (length packet) (header_of packet) then Err faults.Short
    else Ok (body_of packet)

-- a datagram: its endpoints, what the frame has of its payload, and the payload's length
pub record Udp : Type 0 where
  pub source : List ℕ
  pub source_port : ℕ
  pub target : List ℕ
  pub target_port : ℕ
  pub payload : List ℕ
  pub size : ℕ

-- the datagram of a body without a fault (RFC 768)
abbrev pub udp_in : Body → Udp
udp_in body = record {
  source = body.source;
  source_port = pair_at 0 body.bytes;
  target = body.target;
  target_port = pair_at 2 body.bytes;
  payload = take (pair_at 4 body.bytes - 8) (drop 8 body.bytes);
  size = pair_at 4 body.bytes - 8;
}

-- the datagram of a body; its length is within the body, if no fragment follows
abbrev pub udp_of : Body → Result Udp FrameFault
udp_of body =
    if nat_lt (length body.bytes) 8 then Err faults.Short
    else if nat_lt (pair_at 4 body.bytes) 8 then Err faults.Length
    else if not body.goes_on && nat_lt body.size (pair_at 4 body.bytes) then Err faults.Length
    else Ok (udp_in body)

-- the datagram of what a packet carries
abbrev pub carried_datagram : Result Body FrameFault → Result Udp FrameFault
carried_datagram (Ok body) = udp_of body
carried_datagram (Err fault) = Err fault

-- the datagram of a packet
abbrev pub packet_datagram : Result (List ℕ) FrameFault → Result Udp FrameFault
packet_datagram (Ok packet) = carried_datagram (carried_of packet)
packet_datagram (Err fault) = Err fault

-- the UDP datagram of a frame, or its first fault
abbrev pub datagram_of : Link → List ℕ → Result Udp FrameFault
datagram_of link frame = packet_datagram (ip_packet link frame)

-- what a reader of packets returns
abbrev pub carried_view : Carried → Body
carried_view carried = record {
  source = ipv4_octets carried.source;
  target = ipv4_octets carried.target;
  bytes = carried.body.now;
  size = carried.size;
  goes_on = carried.goes_on;
}

-- what a reader of frames returns
abbrev pub udp_view : Datagram → Udp
udp_view datagram = record {
  source = ipv4_octets (v4_ip datagram.from);
  source_port = v4_port datagram.from;
  target = ipv4_octets (v4_ip datagram.to);
  target_port = v4_port datagram.to;
  payload = datagram.payload.now;
  size = datagram.length;
}
