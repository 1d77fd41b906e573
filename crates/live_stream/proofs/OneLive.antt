-- What was given has one live stream of each length, and one whole one.
use Rattle.std.proofs.Common.{◌≡◌, inl, inr, ℕ, suc, ◌+◌, ◌-◌, ◌*◌, ◌/◌, ◌<◌, List, [], ◌∷◌, ◌++◌, length, map, take, drop, Some, refl, sym, ap, ap₂, ◌∙◌, subst, arith, append_assoc, length-append}
use Rattle.std.proofs.lemmas.Bool.{cases_lt}
use Rattle.std.proofs.lemmas.List.{length-map, append_cancel_left, length_push, length-take-le, take-take, take-append-drop}
use Rattle.std.proofs.lemmas.Option.{slice_get_within}
use Rattle.std.proofs.Math.Seq.{take-append_seam}
use Rattle.lk_base.specs.Words.{block}
use Rattle.lk_base.specs.Fields.{burst_field}
use Rattle.lk_base.specs.Least.{IsLeast}
use Rattle.lk_base.specs.declared.word.Word.{Word}
use Rattle.lk_base.specs.declared.word.Word.TheVariants.{Data, Control}
use Rattle.stream_model.specs.BurstStream.{Chunk, IsAt, StandsInBurst, IsReady, IsRightControl, data_after, data_words, chunk_of_burst}
use Rattle.stream_model.proofs.Bursts.{at_seam, drop_seam}
use Rattle.stream_model.proofs.OneStream.{at_take, at_whole, first_data, first-data, first-control, first-run, EndsInBurst, ends_in_burst, same_control}
use Rattle.live_stream.specs.LiveStream.{Given, source_at, IsLiveStream, IsLiveEnding, IsWholeLiveStream}
use Rattle.live_stream.proofs.LiveWords.{live_front}

-- ---- the next word

-- a burst and one word after it: its data words so far, and this one if it is one, are the first of its chunk
behind_burst : (g : Given) (p : List Word) (x : ℕ) (ds : List ℕ) (a : Word) → IsLiveStream g ((p ++ block x ds) ++ a ∷ []) → burst_field x ≡ 1
    → (chunk : Chunk) × (chunk_of_burst (source_at g (length p)) p (Control x) ≡ Some chunk) × (ds ++ first_data (a ∷ []) ≡ take (length ds + 1) (data_words chunk.bytes))
unfolding data_after
behind_burst g p x ds a stream burst =
    let q : List Word = map Data ds ++ a ∷ [] in
    let w : List Word = p ++ Control x ∷ q in
    let whole : (p ++ block x ds) ++ a ∷ [] ≡ w = append_assoc p (block x ds) (a ∷ []) in
    let same_stream : IsLiveStream g w = subst (λ (v : List Word). IsLiveStream g v) whole stream in
    let carried = same_stream.chunks (length p) x (at_seam p (Control x) q) burst in
    let taken : take (length p) w ≡ p = take-append_seam p (Control x ∷ q) in
    let after : data_after w (length p) ≡ ds ++ first_data (a ∷ []) = ap first_data (drop_seam p (Control x) q) ∙ first-run ds (a ∷ []) in
    let short : length q ≡ length ds + 1 = length_push (map Data ds) a ∙ ap (λ n. n + 1) (length-map ds Data) in
    let long : length w ≡ length p + suc (length q) = length-append p (Control x ∷ q) in
    let left : length w - (length p + 1) ≡ length ds + 1 = omega (arith, short, long) in
    (carried.0, ap (λ v. chunk_of_burst (source_at g (length p)) v (Control x)) (sym taken) ∙ carried.1, sym after ∙ carried.2 ∙ ap (λ n. take n (data_words carried.0.bytes)) left)

same_behind : (g : Given) (p : List Word) (e : EndsInBurst p) (a b : Word) → IsLiveStream g (p ++ a ∷ []) → IsLiveStream g (p ++ b ∷ []) → first_data (a ∷ []) ≡ first_data (b ∷ [])
same_behind g p e a b one other =
    let front = behind_burst g e.before e.word e.run a (subst (λ (v : List Word). IsLiveStream g (v ++ a ∷ [])) e.is one) e.burst in
    let back = behind_burst g e.before e.word e.run b (subst (λ (v : List Word). IsLiveStream g (v ++ b ∷ [])) e.is other) e.burst in
    let same_chunk : front.0 ≡ back.0 = let s : Some front.0 ≡ Some back.0 = sym front.1 ∙ back.1 in cc in
    append_cancel_left e.run (first_data (a ∷ [])) (first_data (b ∷ [])) (front.2 ∙ ap (λ (k : Chunk). take (length e.run + 1) (data_words k.bytes)) same_chunk ∙ sym back.2)

data_behind : (g : Given) (p : List Word) (x : ℕ) (b : Word) → IsLiveStream g (p ++ Data x ∷ []) → IsLiveStream g (p ++ b ∷ []) → x ∷ [] ≡ first_data (b ∷ [])
data_behind g p x b one other =
    let stands : StandsInBurst p = subst (λ (v : List Word). StandsInBurst v) (take-append_seam p (Data x ∷ [])) (one.data_in_bursts (length p) x (at_seam p (Data x) [])) in
    sym (first-data x []) ∙ same_behind g p (ends_in_burst p stands.0 stands.1 stands.2 stands.3) (Data x) b one other

right_behind : (g : Given) (p : List Word) (x : ℕ) (q : List Word) → IsLiveStream g (p ++ Control x ∷ q) → IsRightControl (source_at g (length p)) p x
right_behind g p x q stream = subst (λ (v : List Word). IsRightControl (source_at g (length p)) v x) (take-append_seam p (Control x ∷ q)) (stream.controls (length p) x (at_seam p (Control x) q))

next_word : (g : Given) (p : List Word) (a b : Word) → IsLiveStream g (p ++ a ∷ []) → IsLiveStream g (p ++ b ∷ []) → a ≡ b
next_word g p (Data x) (Data y) one other =
    let e : x ∷ [] ≡ y ∷ [] = data_behind g p x (Data y) one other ∙ first-data y [] in
    let same_x : x ≡ y = cc in ap Data same_x
next_word g p (Data x) (Control y) one other = let e : x ∷ [] ≡ [] = data_behind g p x (Control y) one other ∙ first-control y [] in cc
next_word g p (Control x) (Data y) one other = let e : y ∷ [] ≡ [] = data_behind g p y (Control x) other one ∙ first-control x [] in cc
next_word g p (Control x) (Control y) one other =
    ap Control (same_control (source_at g (length p)) p x y (right_behind g p x [] one) (right_behind g p y [] other)
    (one.sized (length p) (Control x) (at_seam p (Control x) [])) (other.sized (length p) (Control y) (at_seam p (Control y) [])))

-- ---- all words

same_rest : (g : Given) (p q r : List Word) → IsLiveStream g (p ++ q) → IsLiveStream g (p ++ r) → length q ≡ length r → q ≡ r
same_rest g p [] [] one other long = refl
same_rest g p [] (b ∷ r) one other long = absurd (omega arith)
same_rest g p (a ∷ q) [] one other long = absurd (omega arith)
same_rest g p (a ∷ q) (b ∷ r) one other long =
    let first = λ (z : Word) (tail : List Word) (h : IsLiveStream g (p ++ z ∷ tail)). subst (λ (v : List Word). IsLiveStream g v) (sym (append_assoc p (z ∷ []) tail)) h in
    let same_word : a ≡ b = next_word g p a b (live_front g (p ++ a ∷ []) q (first a q one)) (live_front g (p ++ b ∷ []) r (first b r other)) in
    let other_too : IsLiveStream g ((p ++ a ∷ []) ++ r) = subst (λ (z : Word). IsLiveStream g ((p ++ z ∷ []) ++ r)) (sym same_word) (first b r other) in
    ap₂ (λ (z : Word) zs. z ∷ zs) same_word (same_rest g (p ++ a ∷ []) q r (first a q one) other_too (omega arith))

pub one_live_stream : (g : Given) (v w : List Word) → IsLiveStream g v → IsLiveStream g w → length v ≡ length w → v ≡ w
one_live_stream g v w one other long = same_rest g [] v w one other long

-- ---- the whole one

-- a list with the same words up to a slot has an ending there too
pub ending_moves : (g : Given) (closed : ℕ) (v w : List Word) (z : ℕ) → take (z + 1) v ≡ take (z + 1) w → IsLiveEnding g closed v z → IsLiveEnding g closed w z
ending_moves g closed v w z same e =
    let x : ℕ = e.control.0 in
    let one : take z v ≡ take z (take (z + 1) v) = sym (take-take z (z + 1) v (omega arith)) in
    let two : take z (take (z + 1) w) ≡ take z w = take-take z (z + 1) w (omega arith) in
    let below : take z v ≡ take z w = one ∙ ap (take z) same ∙ two in
    record {
      after = e.after;
      control = (x, at_whole w (z + 1) z (Control x) (subst (λ (u : List Word). IsAt u z (Control x)) same (at_take v (z + 1) z (Control x) (omega arith) e.control.1)));
      warm = e.warm;
      not_ready = λ c r. e.not_ready c (subst (λ (u : List Word). IsReady (source_at g z) u c) (sym below) r);
    }

live_take : (g : Given) (n : ℕ) (w : List Word) → IsLiveStream g w → IsLiveStream g (take n w)
live_take g n w live = live_front g (take n w) (drop n w) (subst (IsLiveStream g) (sym (take-append-drop n w)) live)

-- neither ending is before the other
not_before : (g : Given) (closed : ℕ) (v w : List Word) (y z : ℕ) → IsLiveStream g v → IsLiveStream g w → IsLeast (IsLiveEnding g closed v) y → IsLeast (IsLiveEnding g closed w) z → y < z → ⊥
not_before g closed v w y z one other f h below =
    let in_v : y < length v = slice_get_within v y (Control f.0.control.0) f.0.control.1 in
    let in_w : z < length w = slice_get_within w z (Control h.0.control.0) h.0.control.1 in
    let long_v : length (take (y + 1) v) ≡ y + 1 = length-take-le (y + 1) v (omega arith) in
    let long_w : length (take (y + 1) w) ≡ y + 1 = length-take-le (y + 1) w (omega arith) in
    h.1 y below (ending_moves g closed v w y (one_live_stream g (take (y + 1) v) (take (y + 1) w) (live_take g (y + 1) v one) (live_take g (y + 1) w other) (long_v ∙ sym long_w)) f.0)

same_ending : (g : Given) (closed : ℕ) (v w : List Word) (y z : ℕ) → IsLiveStream g v → IsLiveStream g w → IsLeast (IsLiveEnding g closed v) y → IsLeast (IsLiveEnding g closed w) z → y ≡ z
same_ending g closed v w y z one other f h = elim (cases_lt y z) [
  | inl l ↦ absurd (not_before g closed v w y z one other f h l)
  | inr k ↦ elim (cases_lt z y) [
    | inl l ↦ absurd (not_before g closed w v z y other one h f l)
    | inr l ↦ omega arith
  ]
]

pub one_whole_stream : (g : Given) (v w : List Word) → IsWholeLiveStream g v → IsWholeLiveStream g w → v ≡ w
one_whole_stream g v w one other =
    let a = one.finish in
    let b = other.finish in
    let closed : a.0 ≡ b.0 = (let e : Some a.0 ≡ Some b.0 = sym a.2 ∙ b.2 in cc) in
    let same : a.1 ≡ b.1 = same_ending g b.0 v w a.1 b.1 one.live other.live (subst (λ (c : ℕ). IsLeast (IsLiveEnding g c v) a.1) closed a.3) b.3 in
    one_live_stream g v w one.live other.live (a.4 ∙ ap (λ z. g.shape.group * (z / g.shape.group + 2)) same ∙ sym b.4)
