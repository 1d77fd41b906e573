-- What the bytes of a capture hold: its packets in order, up to the first refusal.
use Rattle.std.specs.Prelude.{ℕ, zero, suc, ◌+◌, ◌-◌, List, [], ◌∷◌, length, take, drop, Option, Some, None, Result, Ok, Err, ◌==◌, ◌&&◌, nat_lt, if◌then◌else◌}
use Rattle.pcap_files.specs.declared.order.Order.{Order}
use Rattle.pcap_files.specs.declared.error.PcapError.{PcapError}
use Rattle.pcap_files.specs.declared.error.PcapError.TheVariants.{Magic, NgFile, Version, Short, Empty, Long}
use Rattle.pcap_files.specs.Numbers.{number, magic_of, order_of}

-- ---- the header

-- what a header of a known order says
abbrev pub rest_of_header : Order → List ℕ → Result Order PcapError
rest_of_header order bytes =
    if nat_lt (length bytes) 24 then Err (Short 0)
    else if (number order 2 4 bytes == 2) && (number order 2 6 bytes == 4) then Ok order
    else Err (Version (number order 2 4 bytes) (number order 2 6 bytes))

abbrev pub header_by : ℕ → List ℕ → Option Order → Result Order PcapError
header_by magic bytes None = Err (Magic magic)
header_by magic bytes (Some order) = rest_of_header order bytes

-- the order of a capture's fields, or the first refusal of its header
unfoldable pub header_of : List ℕ → Result Order PcapError
header_of bytes =
    if nat_lt (length bytes) 4 then Err (Short 0)
    else if magic_of bytes == 0x0A0D0D0A then Err NgFile
    else header_by (magic_of bytes) bytes (order_of (magic_of bytes))

-- ---- the records

-- the place of a reader: the order, the largest packet, the record's number, its offset, and the bytes from there on
pub record Place : Type 0 where
  pub order : Order
  pub most : ℕ
  pub number : ℕ
  pub offset : ℕ
  pub rest : List ℕ

-- the captured length that the record at a place states
abbrev pub size_at : Place → ℕ
size_at p = number p.order 4 8 p.rest

-- the packet of the record at a place, none at the end of the bytes, or the refusal
unfoldable pub packet_at : Place → Result (Option (List ℕ)) PcapError
packet_at p =
    if length p.rest == 0 then Ok None
    else if nat_lt (length p.rest) 16 then Err (Short p.offset)
    else if size_at p == 0 then Err (Empty p.number)
    else if nat_lt p.most (size_at p) then Err (Long p.number (size_at p))
    else if nat_lt (length p.rest - 16) (size_at p) then Err (Short p.offset)
    else Ok (Some (take (size_at p) (drop 16 p.rest)))

-- the place after a record with a packet of this length
abbrev pub behind : Place → ℕ → Place
behind p size = record p { number = p.number + 1; offset = p.offset + (16 + size); rest = drop (16 + size) p.rest }

-- the packets up to the first refusal, and that refusal
pub record Packets : Type 0 where
  pub packets : List (List ℕ)
  pub refusal : Option PcapError

abbrev pub nothing : Packets
nothing = record { packets = []; refusal = None }

abbrev pub refused : PcapError → Packets
refused e = record { packets = []; refusal = Some e }

abbrev pub with_packet : List ℕ → Packets → Packets
with_packet packet more = record { packets = packet ∷ more.packets; refusal = more.refusal }

-- what a reader answers that has this left
abbrev pub answer_by : List (List ℕ) → Option PcapError → Result (Option (List ℕ)) PcapError
answer_by (packet ∷ more) refusal = Ok (Some packet)
answer_by [] None = Ok None
answer_by [] (Some e) = Err e

abbrev pub answer_of : Packets → Result (Option (List ℕ)) PcapError
answer_of p = answer_by p.packets p.refusal

-- what a place gives, if `more` gives what the place after its packet does
abbrev pub packets_by : (ℕ → Packets) → Result (Option (List ℕ)) PcapError → Packets
packets_by more (Ok None) = nothing
packets_by more (Ok (Some packet)) = with_packet packet (more (length packet))
packets_by more (Err e) = refused e

-- the packets from a place on, at most n of them
unfoldable pub packets_within : ℕ → Place → Packets
packets_within zero p = nothing
packets_within (suc n) p = packets_by (λ size. packets_within n (behind p size)) (packet_at p)

-- the packets from a place on: each takes at least one byte
abbrev pub packets_from : Place → Packets
packets_from p = packets_within (length p.rest + 1) p

-- ---- the whole

abbrev pub first_place : ℕ → List ℕ → Order → Place
first_place most bytes order = record { order = order; most = most; number = 0; offset = 24; rest = drop 24 bytes }

abbrev pub packets_behind : ℕ → List ℕ → Result Order PcapError → Packets
packets_behind most bytes (Ok order) = packets_from (first_place most bytes order)
packets_behind most bytes (Err e) = refused e

-- the packets of a capture's bytes up to the first refusal
abbrev pub reading_of : List ℕ → ℕ → Packets
reading_of bytes most = packets_behind most bytes (header_of bytes)

abbrev pub whole_by : List (List ℕ) → Option PcapError → Result (List (List ℕ)) PcapError
whole_by packets None = Ok packets
whole_by packets (Some e) = Err e

-- the packets of a capture, or its first refusal
abbrev pub capture_of : List ℕ → ℕ → Result (List (List ℕ)) PcapError
capture_of bytes most = whole_by (reading_of bytes most).packets (reading_of bytes most).refusal
