-- Where the records of a capture are: what makes a refusal the first one.
use Rattle.std.specs.Prelude.{ℕ, ◌+◌, ◌≤◌, ◌≡◌, List, ◌∷◌, ◌++◌, length, drop, sum_by, Option, Some, None, Result, Ok, Err}
use Rattle.pcap_files.specs.declared.order.Order.{Order}
use Rattle.pcap_files.specs.declared.error.PcapError.{PcapError}
use Rattle.pcap_files.specs.Capture.{Place, Packets, packet_at}

-- how many bytes the records of these packets take
abbrev pub space_of : List (List ℕ) → ℕ
space_of packets = sum_by (λ packet. 16 + length packet) packets

-- the place of a record, by the packets before it: their count is its number, and their records end at its offset
abbrev pub place_behind : Order → ℕ → List ℕ → List (List ℕ) → Place
place_behind order most bytes before = record { order = order; most = most; number = length before; offset = 24 + space_of before; rest = drop (24 + space_of before) bytes }

-- what is after the last packet: the end of the bytes, or the refusal
abbrev pub end_of : Option PcapError → Result (Option (List ℕ)) PcapError
end_of None = Ok None
end_of (Some e) = Err e

-- the packets are those of the records from the header on, and what is reported of the end is after the last of them
pub record AreRecords (order : Order) (most : ℕ) (bytes : List ℕ) (reading : Packets) : Type 0 where
  pub each : (before : List (List ℕ)) (packet : List ℕ) (more : List (List ℕ)) → reading.packets ≡ before ++ packet ∷ more → packet_at (place_behind order most bytes before) ≡ Ok (Some packet)
  pub end : packet_at (place_behind order most bytes reading.packets) ≡ end_of reading.refusal

-- a packet of an accepted capture
pub record IsWithin (most : ℕ) (packet : List ℕ) : Type 0 where
  pub least : 1 ≤ length packet
  pub largest : length packet ≤ most
