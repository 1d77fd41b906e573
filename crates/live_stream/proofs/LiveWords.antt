-- Right words are a live stream, and so is a front of one.
use Rattle.std.proofs.Common.{◌≡◌, inl, inr, ℕ, suc, ◌+◌, ◌-◌, ◌<◌, ◌≤◌, true, false, List, [], ◌∷◌, ◌++◌, length, map, take, drop, Some, refl, sym, ap, ap₂, subst, ◌∙◌, arith, length-append, length-drop}
use Rattle.std.proofs.lemmas.List.{take_all, get_or-take, length-take-le, take-append-le, take-take, drop-append-le}
use Rattle.std.proofs.lemmas.Option.{slice_get_within}
use Rattle.lk_base.specs.Words.{word_at}
use Rattle.lk_base.specs.Fields.{burst_field}
use Rattle.lk_base.specs.declared.word.Word.{Word}
use Rattle.lk_base.specs.declared.word.Word.TheVariants.{Data, Control}
use Rattle.stream_model.specs.BurstStream.{IsAt, StandsInBurst, IsRightControl, data_after, data_words, chunk_of_burst, is_burst}
use Rattle.stream_model.proofs.Blocks.{bit_cases}
use Rattle.stream_model.proofs.Growing.{at_more, at_front}
use Rattle.stream_model.proofs.OneStream.{burst_word, first_data, first-data, first-control}
use Rattle.duplex_model.proofs.Growth.{after_short}
use Rattle.duplex_model.proofs.Runs.{at_word, IsData, IsControl, word_cases}
use Rattle.live_stream.specs.LiveStream.{Given, source_at, warmup_of, IsLiveStream}
use Rattle.live_stream.specs.Gives.{AreRight, Gives, planned, to_come}
use Rattle.live_stream.specs.declared.scheduler.LiveScheduler.{LiveScheduler}

-- ---- no burst stands in the warm-up

burst_warm : (g : Given) (w : List Word) (s : ℕ) → AreRight g w → s < length w → is_burst (word_at w s) ≡ true → warmup_of g ≤ s
burst_warm g w s right within burst = elim (word_cases (word_at w s)) [
  | IsData x e ↦ (let none : false ≡ true = sym (ap is_burst e) ∙ burst in cc)
  | IsControl x e ↦ (
      let bursts : burst_field x ≡ 1 = burst_word x (sym (ap is_burst e) ∙ burst) in
      let warm : warmup_of g ≤ length (take s w) = ((right.controls s x (at_word w s within ∙ ap Some e)).burst.0 bursts).0 in
      let long : length (take s w) ≡ s = length-take-le s w (omega (arith, within)) in
      omega (arith, warm, long))
]

idle_early : (g : Given) (w : List Word) (t : ℕ) → AreRight g w → t < length w → t < warmup_of g → (x : ℕ) × IsAt w t (Control x) × (burst_field x ≡ 0)
idle_early g w t right within early = elim (word_cases (word_at w t)) [
  | IsData x e ↦ (
      let stands : StandsInBurst (take t w) = right.data_in_bursts t x (at_word w t within ∙ ap Some e) in
      let long : length (take t w) ≡ t = length-take-le t w (omega (arith, within)) in
      let low : stands.0 < length (take t w) = stands.1 in
      let below : stands.0 < t = omega (arith, low, long) in
      let warm = burst_warm g w stands.0 right (omega (arith, below, within)) (sym (ap is_burst (get_or-take t w stands.0 (Control 0) below)) ∙ stands.2) in
      absurd (omega (arith, warm, below, early)))
  | IsControl x e ↦ elim (bit_cases x) [
    | inl idle ↦ (x, at_word w t within ∙ ap Some e, idle)
    | inr burst ↦ (
        let warm : warmup_of g ≤ length (take t w) = ((right.controls t x (at_word w t within ∙ ap Some e)).burst.0 burst).0 in
        let long : length (take t w) ≡ t = length-take-le t w (omega (arith, within)) in
        absurd (omega (arith, warm, long, early)))
  ]
]

pub live_of_right : (g : Given) (w : List Word) → AreRight g w → IsLiveStream g w
live_of_right g w right = record {
  sized = right.sized;
  data_in_bursts = right.data_in_bursts;
  warmup = λ t within early. idle_early g w t right within early;
  chunks = λ s x at burst.
      let c = right.chunks s x at burst in
      let short : length (data_words c.0.bytes) ≤ length w - (s + 1) = (let a = after_short w s in let e = ap length c.2 in omega (arith, a, e)) in
      (c.0, c.1, c.2 ∙ sym (take_all (length w - (s + 1)) (data_words c.0.bytes) short));
  controls = right.controls;
}

-- ---- the front of a list

first_of_front : (p q : List Word) → first_data p ≡ take (length p) (first_data (p ++ q))
first_of_front [] q = refl
first_of_front (Data d ∷ p) q = first-data d p ∙ ap (λ ds. d ∷ ds) (first_of_front p q) ∙ sym (ap (take (suc (length p))) (first-data d (p ++ q)))
first_of_front (Control x ∷ p) q = first-control x p ∙ sym (ap (take (suc (length p))) (first-control x (p ++ q)))

after_in_front : (p q : List Word) (s : ℕ) → s < length p → data_after p s ≡ take (length p - (s + 1)) (data_after (p ++ q) s)
unfolding data_after
after_in_front p q s h =
    let after : drop (s + 1) (p ++ q) ≡ drop (s + 1) p ++ q = drop-append-le (s + 1) p q (omega arith) in
    first_of_front (drop (s + 1) p) q ∙ ap₂ (λ n ws. take n (first_data ws)) (length-drop (s + 1) p) (sym after)

pub live_front : (g : Given) (p q : List Word) → IsLiveStream g (p ++ q) → IsLiveStream g p
live_front g p q stream =
    let long : length (p ++ q) ≡ length p + length q = length-append p q in
    let within = λ (t : ℕ) (word : Word) (at : IsAt p t word). slice_get_within p t word at in
    let below = λ (t : ℕ) (h : t < length p). take-append-le t p q (omega arith) in
    record {
      sized = λ t word at. stream.sized t word (at_more p q t word at);
      data_in_bursts = λ t x at. subst (λ (v : List Word). StandsInBurst v) (below t (within t (Data x) at)) (stream.data_in_bursts t x (at_more p q t (Data x) at));
      warmup = λ t h early. let idle = stream.warmup t (omega (arith, long, h)) early in (idle.0, at_front p q t (Control idle.0) h idle.1, idle.2);
      chunks = λ s x at burst.
          let h : s < length p = within s (Control x) at in
          let carried = stream.chunks s x (at_more p q s (Control x) at) burst in (
            carried.0,
            ap (λ v. chunk_of_burst (source_at g s) v (Control x)) (sym (below s h)) ∙ carried.1,
            after_in_front p q s h ∙ ap (take (length p - (s + 1))) carried.2 ∙ take-take (length p - (s + 1)) (length (p ++ q) - (s + 1)) (data_words carried.0.bytes) (omega (arith, long)),
          );
      controls = λ t x at. subst (λ (v : List Word). IsRightControl (source_at g t) v x) (below t (within t (Control x) at)) (stream.controls t x (at_more p q t (Control x) at));
    }

-- the rest of the burst under way is left out
pub words_are_live : (s : LiveScheduler) (g : Given) (w : List Word) → Gives s g w → IsLiveStream g w
words_are_live s g w gives = live_front g w (map Data (to_come s)) (live_of_right g (planned s w) gives.words.right)
