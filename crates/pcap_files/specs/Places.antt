-- Where the packets of a capture are in its bytes.
use Rattle.std.specs.Prelude.{ℕ, ◌+◌, ◌≤◌, List, length, take, drop}
use Rattle.pcap_files.specs.declared.place.PacketPlace.{PacketPlace}

-- the bytes that are there
abbrev pub bytes_at : List ℕ → PacketPlace → List ℕ
bytes_at bytes place = take place.size (drop place.start bytes)

-- a place within the bytes, of 1 to `most` of them
pub record IsPlace (most : ℕ) (bytes : List ℕ) (place : PacketPlace) : Type 0 where
  pub least : 1 ≤ place.size
  pub largest : place.size ≤ most
  pub inside : place.start + place.size ≤ length bytes
