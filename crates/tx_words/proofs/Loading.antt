-- The packets that a scheduler has.
use Rattle.std.proofs.Common.{◌≡◌, ℕ, ◌+◌, ◌<◌, ◌≤◌, List, [], ◌∷◌, ◌++◌, length, take, get_or, sum_by, sym, ap, ◌∙◌, arith}
use Rattle.std.proofs.lemmas.List.{take-map, take_more, map-append}
use Rattle.std.proofs.lemmas.List.Sums.{sum_by-take-le}
use Rattle.stream_model.specs.BurstStream.{Source}
use Rattle.tx_words.specs.declared.packet.Packet.{Packet}
use Rattle.tx_words.specs.Sources.{packets_by}

-- the same source with these packets
abbrev pub having_packets : Source → List (ℕ × List ℕ) → Source
having_packets source packets = record { shape = source.shape; channels = source.channels; entries = source.entries; packets = packets; flow = source.flow; local = source.local }

-- the first packets have no more bytes than all
pub few : (packets : List Packet) (i n : ℕ) → sum_by (λ (p : ℕ × List ℕ). length p.1) (packets_by packets) < n → sum_by (λ (p : ℕ × List ℕ). length p.1) (packets_by (take i packets)) < n
few packets i n h =
    let part : sum_by (λ (p : ℕ × List ℕ). length p.1) (take i (packets_by packets)) ≤ sum_by (λ (p : ℕ × List ℕ). length p.1) (packets_by packets) = sum_by-take-le (λ (p : ℕ × List ℕ). length p.1) (packets_by packets) i in
    let same : sum_by (λ (p : ℕ × List ℕ). length p.1) (take i (packets_by packets)) ≡ sum_by (λ (p : ℕ × List ℕ). length p.1) (packets_by (take i packets)) = ap (sum_by (λ (p : ℕ × List ℕ). length p.1)) (take-map (λ (packet : Packet). (packet.channel, packet.bytes.now)) i packets) in
    omega arith

pub one_packet : (packets : List Packet) (i : ℕ) (d : Packet) → i < length packets → packets_by (take i packets) ++ ((get_or packets i d).channel, (get_or packets i d).bytes.now) ∷ [] ≡ packets_by (take (i + 1) packets)
one_packet packets i d h =
    sym (ap packets_by (take_more packets i d h) ∙ map-append (λ (packet : Packet). (packet.channel, packet.bytes.now)) (take i packets) (get_or packets i d ∷ []))
