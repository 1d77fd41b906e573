-- How a capture is written.
use Rattle.std.specs.Prelude.{ℕ, ◌<◌, ◌^◌, List, ◌++◌, length}
use Rattle.std.specs.List.{flat_map}
use Rattle.byteorder.specs.Endian.{little_bytes}
use Rattle.pcap_files.specs.Records.{IsWithin}

-- the header of 24 bytes: magic, version 2.4, zone, sigfigs, snaplen, link type
unfoldable pub header_bytes : ℕ → List ℕ
header_bytes link_type =
    little_bytes 4 0xA1B2C3D4 ++ little_bytes 2 2 ++ little_bytes 2 4 ++ little_bytes 4 0 ++ little_bytes 4 0
    ++ little_bytes 4 262144 ++ little_bytes 4 link_type

-- what is before a packet of this length: two stamps of 0 and both lengths
unfoldable pub record_head : ℕ → List ℕ
record_head size = little_bytes 4 0 ++ little_bytes 4 0 ++ little_bytes 4 size ++ little_bytes 4 size

-- a record
abbrev pub record_bytes : List ℕ → List ℕ
record_bytes packet = record_head (length packet) ++ packet

-- a capture of packets
abbrev pub capture_bytes : ℕ → List (List ℕ) → List ℕ
capture_bytes link_type packets = header_bytes link_type ++ flat_map record_bytes packets

-- a packet that can be written, and read up to a largest length
pub record Fits (most : ℕ) (packet : List ℕ) : Type 0 where
  pub within : IsWithin most packet
  pub fits : length packet < 2 ^ 32
