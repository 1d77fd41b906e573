-- The words that a scheduler gave are an open stream.
use Rattle.std.proofs.Common.{◌≡◌, inl, inr, ℕ, ◌+◌, ◌-◌, ◌<◌, ◌≤◌, List, length, map, take, sym, ap, ◌∙◌, arith, Some, true, false}
use Rattle.std.proofs.lemmas.List.{take_all, get_or-take, length-take-le}
use Rattle.lk_base.specs.Words.{word_at}
use Rattle.lk_base.specs.Fields.{burst_field}
use Rattle.lk_base.specs.declared.word.Word.{Word}
use Rattle.lk_base.specs.declared.word.Word.TheVariants.{Data, Control}
use Rattle.stream_model.specs.BurstStream.{Source, IsAt, StandsInBurst, data_words, warmup_slots, is_burst}
use Rattle.stream_model.proofs.Blocks.{bit_cases}
use Rattle.stream_model.proofs.OneStream.{burst_word}
use Rattle.duplex_model.specs.OpenStream.{IsOpenStream}
use Rattle.duplex_model.proofs.Fronts.{open_front}
use Rattle.duplex_model.proofs.Growth.{after_short}
use Rattle.duplex_model.proofs.Runs.{at_word, IsData, IsControl, word_cases}
use Rattle.burst_scheduler.specs.Asked.{Asked}
use Rattle.burst_scheduler.specs.Gives.{HasWords, IsRight, planned, to_come}
use Rattle.burst_scheduler.specs.declared.scheduler.Scheduler.{Scheduler}

-- a burst word at a slot stands after the warm-up
burst_warm : (source : Source) (w : List Word) (s : ℕ) → IsRight source w → s < length w → is_burst (word_at w s) ≡ true → warmup_slots source ≤ s
burst_warm source w s right within burst = elim (word_cases (word_at w s)) [
  | IsData x e ↦ (let none : false ≡ true = sym (ap is_burst e) ∙ burst in cc)
  | IsControl x e ↦ (
      let bursts : burst_field x ≡ 1 = burst_word x (sym (ap is_burst e) ∙ burst) in
      let warm : warmup_slots source ≤ length (take s w) = ((right.controls s x (at_word w s within ∙ ap Some e)).burst.0 bursts).0 in
      let long : length (take s w) ≡ s = length-take-le s w (omega (arith, within)) in
      omega (arith, warm, long))
]

idle_early : (source : Source) (w : List Word) (t : ℕ) → IsRight source w → t < length w → t < warmup_slots source → (x : ℕ) × IsAt w t (Control x) × (burst_field x ≡ 0)
idle_early source w t right within early = elim (word_cases (word_at w t)) [
  | IsData x e ↦ (
      let stands : StandsInBurst (take t w) = right.data_in_bursts t x (at_word w t within ∙ ap Some e) in
      let long : length (take t w) ≡ t = length-take-le t w (omega (arith, within)) in
      let low : stands.0 < length (take t w) = stands.1 in
      let below : stands.0 < t = omega (arith, low, long) in
      let warm = burst_warm source w stands.0 right (omega (arith, below, within)) (sym (ap is_burst (get_or-take t w stands.0 (Control 0) below)) ∙ stands.2) in
      absurd (omega (arith, warm, below, early)))
  | IsControl x e ↦ elim (bit_cases x) [
    | inl idle ↦ (x, at_word w t within ∙ ap Some e, idle)
    | inr burst ↦ (
        let warm : warmup_slots source ≤ length (take t w) = ((right.controls t x (at_word w t within ∙ ap Some e)).burst.0 burst).0 in
        let long : length (take t w) ≡ t = length-take-le t w (omega (arith, within)) in
        absurd (omega (arith, warm, long, early)))
  ]
]

open_of_right : (source : Source) (w : List Word) → IsRight source w → IsOpenStream source w
open_of_right source w right = record {
  sized = right.sized;
  data_in_bursts = right.data_in_bursts;
  warmup = λ t within early. idle_early source w t right within early;
  chunks = λ s x at burst.
      let c = right.chunks s x at burst in
      let short : length (data_words c.0.bytes) ≤ length w - (s + 1) = (let a = after_short w s in let e = ap length c.2 in omega (arith, a, e)) in
      (c.0, c.1, c.2 ∙ sym (take_all (length w - (s + 1)) (data_words c.0.bytes) short));
  controls = right.controls;
}

-- the rest of the burst under way is left out
pub words_are_open : (s : Scheduler) (a : Asked) → HasWords s a → IsOpenStream a.source a.words
words_are_open s a has = open_front a.source a.words (map Data (to_come s)) (open_of_right a.source (planned s a) has.holds.right)
