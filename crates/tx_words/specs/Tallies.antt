-- What is known of the channels while their packets are gone over.
use Rattle.std.specs.Prelude.{◌≡◌, ℕ, ◌+◌, ◌-◌, ◌<◌, nat_le, cond, ◌==◌, ◌&&◌, is_some, Bool, List, length, fold, count_by, slice_index_or}
use Rattle.stream_model.specs.BurstStream.{parts}
use Rattle.tx_words.specs.declared.counts.Tally.{Tally}
use Rattle.report_model.specs.declared.counts.SentCount.{SentCount}
use Rattle.tx_words.specs.declared.packet.Packet.{Packet}
use Rattle.tx_words.specs.declared.sent.Sent.{Sent}

-- this many bursts, and no packet yet
abbrev pub first_tally : ℕ → Tally
first_tally bursts = record { bursts = bursts; packets = 0; bytes = 0; left = 0 }

-- one more packet of this many bytes: it is sent where there are bursts for all its chunks
abbrev pub with_packet : ℕ → Tally → ℕ → Tally
with_packet most tally bytes =
    cond (nat_le (parts most bytes) tally.bursts)
    (record { bursts = tally.bursts - parts most bytes; packets = tally.packets + 1; bytes = tally.bytes + bytes; left = tally.left })
    (record { bursts = 0; packets = tally.packets; bytes = tally.bytes; left = tally.left + 1 })

-- the same, where the packet is one of this channel
abbrev pub with_packet_on : ℕ → ℕ → Tally → Packet → Tally
with_packet_on most channel tally packet =
    cond (packet.channel == channel) (with_packet most tally (length packet.bytes.now)) tally

-- with all of these packets that are of the channel
abbrev pub tally_of : ℕ → ℕ → ℕ → List Packet → Tally
tally_of most channel bursts packets = fold (with_packet_on most channel) (first_tally bursts) packets

-- the list has the tally of each number that a channel can have
pub record AreTallies (tally : ℕ → Tally) (tallies : List Tally) : Type 0 where
  pub len : length tallies ≡ 65536
  pub each : (channel : ℕ) (d : Tally) → channel < 65536 → slice_index_or tallies channel d ≡ tally channel

-- what a tally says of a channel
abbrev pub count_from : ℕ → Tally → SentCount
count_from channel tally = record { channel = channel; packets = tally.packets; bytes = tally.bytes; left = tally.left }

-- a listed packet of this channel that has its end word
abbrev pub is_ended_on : ℕ → Sent → Bool
is_ended_on channel s = (s.channel == channel) && is_some s.last

-- how many of them are listed
abbrev pub ended_in : ℕ → List Sent → ℕ
ended_in channel sent = count_by (is_ended_on channel) sent
