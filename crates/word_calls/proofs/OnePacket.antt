-- One packet of 16 bytes on channel 1 has a stream, and this is sealed.
use Rattle.std.proofs.Common.{ℕ, zero, suc, ◌≡◌, ◌<◌, ◌≤◌, List, [], ◌∷◌, length, All, Contains, refl, sym, subst, arith}
use Rattle.std.specs.List.{AllPairs}
use Rattle.lk_base.specs.declared.word.Word.{Word}
use Rattle.stream_model.specs.BurstStream.{IsBurstStream, Source}
use Rattle.retransmit.specs.Pieces.{AreSealed}
use Rattle.retransmit.proofs.Cutting.{streams_are_sealed}
use Rattle.tx_words.specs.Sources.{IsKept}
use Rattle.tx_words.specs.declared.packet.Packet.{Packet}

differ : AllPairs {X = ℕ} (λ (x y : ℕ). x ≡ y → ⊥) (1 ∷ [])
differ zero zero d lt within same = omega arith
differ zero (suc j) d lt within same = omega arith
differ (suc i) zero d lt within same = omega arith
differ (suc i) (suc j) d lt within same = omega arith

among : All {X = ℕ} (Contains (1 ∷ [])) (1 ∷ [])
among zero d h = (0, omega arith, refl)
among (suc k) d h = absurd (omega arith)

pub kept : (p : Packet) → p.channel ≡ 1 → length p.bytes.now ≡ 16 → IsKept (1 ∷ []) (1 ∷ []) (p ∷ []) [] []
kept p channel long = record {
  channels_low = omega arith;
  channels_high = omega arith;
  distinct = differ;
  entries_low = omega arith;
  entries_high = omega arith;
  among = among;
  listed = listed;
  sized = sized;
  bytes = omega (arith, long);
  flow_in_order = λ i j d le lt. omega arith;
  flow_low = λ k d lt. omega arith;
  local_in_order = λ i j d le lt. omega arith;
}
  where
    listed : All (λ (q : Packet). Contains (1 ∷ []) q.channel) (p ∷ [])
    listed zero e h = rw channel (0, omega arith, refl)
    listed (suc k) e h = absurd (omega arith)

    sized : All (λ (q : Packet). (1 ≤ length q.bytes.now) × (length q.bytes.now ≤ 262144)) (p ∷ [])
    sized zero e h = (omega (arith, long), omega (arith, long))
    sized (suc k) e h = absurd (omega arith)

narrow : All {X = ℕ} (λ (c : ℕ). c < 256) (1 ∷ [])
narrow zero d h = omega arith
narrow (suc k) d h = absurd (omega arith)

pub sealed : (source : Source) (words : List Word) → source.channels ≡ 1 ∷ [] → IsBurstStream source words → AreSealed words
sealed source words is stream = streams_are_sealed source words (subst (All (λ (c : ℕ). c < 256)) (sym is) narrow) stream
