-- The places of the control words of a stream: the words before each, the latest first, and what its burst carries.
use Rattle.std.proofs.Common.{ℕ, ◌≡◌, ◌↔◌, inl, inr, ◌+◌, ◌<◌, true, List, [], ◌∷◌, ◌++◌, length, map, reverse, Some, slice_get, refl, sym, ap, subst, ◌∙◌, arith, append_assoc, eqb-true}
use Rattle.std.proofs.Math.Seq.{take-append_seam}
use Rattle.std.proofs.lemmas.Bool.{cases_lt}
use Rattle.std.proofs.lemmas.List.{length_push, length-reverse, nil_from_length}
use Rattle.lk_base.specs.Words.{is_data, word_at, block}
use Rattle.lk_base.specs.Fields.{burst_field, sop_field, eop_field, channel_number}
use Rattle.lk_base.specs.declared.word.Word.{Word}
use Rattle.lk_base.specs.declared.word.Word.TheVariants.{Data, Control}
use Rattle.lk_base.specs.declared.word.RxWord.{RxWord}
use Rattle.lk_base.specs.declared.word.RxWord.TheVariants as received
use Rattle.stream_model.specs.BurstStream.{Source, Chunk, is_burst, data_words, chunks_of, bursts_in, format_after, StandsInBurst, IsRightControl, IsBurstStream}
use Rattle.stream_model.proofs.Blocks.{end_format_block}
use Rattle.stream_model.proofs.Bursts.{is_carried, at_seam}
use Rattle.delivery_laws.proofs.Clean.{last_word_at}

-- ---- one control word

pub right_at : (source : Source) (p : List Word) (x : ℕ) (q : List Word) → IsBurstStream source (p ++ Control x ∷ q) → IsRightControl source p x
right_at source p x q stream = subst (λ (v : List Word). IsRightControl source v x) (take-append_seam p (Control x ∷ q)) (stream.controls (length p) x (at_seam p (Control x) q))

-- data stand after a burst word alone
pub data_after_burst : (source : Source) (p : List Word) (x d : ℕ) (q : List Word) → IsBurstStream source (p ++ Control x ∷ Data d ∷ q) → burst_field x ≡ 1
data_after_burst source p x d q stream =
    let front : List Word = p ++ Control x ∷ [] in
    let whole : front ++ Data d ∷ q ≡ p ++ Control x ∷ Data d ∷ q = append_assoc p (Control x ∷ []) (Data d ∷ q) in
    let same_stream : IsBurstStream source (front ++ Data d ∷ q) = subst (λ (v : List Word). IsBurstStream source v) (sym whole) stream in
    let stands : StandsInBurst front = subst (λ (v : List Word). StandsInBurst v) (take-append_seam front (Data d ∷ q)) (same_stream.data_in_bursts (length front) d (at_seam front (Data d) q)) in
    let long : length front ≡ length p + 1 = length_push p (Control x) in
    elim (cases_lt stands.0 (length p)) [
      | inl h ↦ (let e : is_data (word_at front (length p)) ≡ true = stands.3 (length p) h (omega arith) in
          let f : is_data (Control x) ≡ true = ap is_data (sym (last_word_at p x)) ∙ e in cc)
      | inr h ↦ (let below : stands.0 < length front = stands.1 in
          let at : stands.0 ≡ length p = omega arith in
          let e : is_burst (Control x) ≡ true = ap is_burst (sym (last_word_at p x)) ∙ ap (λ n. is_burst (word_at front n)) (sym at) ∙ stands.2 in
          eqb-true (burst_field x) 1 e)
    ]

-- ---- data words up to a control word

data_same : (d e : ℕ) → Data d ≡ Data e → d ≡ e
data_same d e h = cc

pub record SameRun (ds es : List ℕ) (x y : ℕ) : Type 0 where
  pub data_is : ds ≡ es
  pub control_is : x ≡ y

pub same_run : (ds es : List ℕ) (x y : ℕ) (q r : List Word) → map Data ds ++ Control x ∷ q ≡ map Data es ++ Control y ∷ r → SameRun ds es x y
same_run [] [] x y q r h = record { data_is = refl; control_is = cc }
same_run [] (e ∷ es) x y q r h = cc
same_run (d ∷ ds) [] x y q r h = cc
same_run (d ∷ ds) (e ∷ es) x y q r h =
    let first : d ≡ e = cc in
    let rest = same_run ds es x y q r (cc) in
    let tail : ds ≡ es = rest.data_is in
    record { data_is = cc; control_is = rest.control_is }

pub run_less : (ds es : List ℕ) (d y : ℕ) (q r : List Word) → map Data ds ++ Data d ∷ q ≡ map Data es ++ Control y ∷ r → length ds < length es
run_less [] [] d y q r h = cc
run_less [] (e ∷ es) d y q r h = omega arith
run_less (c ∷ ds) [] d y q r h = cc
run_less (c ∷ ds) (e ∷ es) d y q r h = let rest = run_less ds es d y q r (cc) in omega arith

-- ---- the blocks before a place

-- the burst of y after p holds these data words, the last first, and is closed by x
pub record Holds (source : Source) (p : List Word) (y : ℕ) (xs : List ℕ) (x : ℕ) : Type 0 where
  pub chunk : Chunk
  pub next : slice_get (chunks_of source (channel_number true y)) (bursts_in p (channel_number true y)) ≡ Some chunk
  pub words : reverse xs ≡ data_words chunk.bytes
  pub end : eop_field x ≡ format_after chunk
  pub start : (sop_field y ≡ 1) ↔ (chunk.is_first ≡ true)

-- a burst word comes with a chunk, and an idle with no data and no end after it
pub record IsClosed (source : Source) (p : List Word) (y : ℕ) (xs : List ℕ) (x : ℕ) : Type 0 where
  pub burst : burst_field y ≡ 1 → Holds source p y xs x
  pub idle : burst_field y ≡ 0 → (xs ≡ []) × (eop_field x ≡ 0)

-- the words before the control word y with these data words, the last first
abbrev pub behind : List ℕ → ℕ → List RxWord → List RxWord
behind xs y e = map received.Data xs ++ received.Control y ∷ e

-- the words p before the control word x, and e the same as they are received, the latest first
pub data Blocks (source : Source) : List Word → List RxWord → ℕ → Type 0 where
  Start : (x : ℕ) → IsRightControl source [] x → Blocks source [] [] x
  More : (p : List Word) (e : List RxWord) (y : ℕ) (xs : List ℕ) (x : ℕ) → Blocks source p e y → IsRightControl source (p ++ block y (reverse xs)) x → IsClosed source p y xs x
      → Blocks source (p ++ block y (reverse xs)) (behind xs y e) x

closed_burst : (source : Source) (p : List Word) (y : ℕ) (xs : List ℕ) (x : ℕ) (q : List Word) → IsBurstStream source (p ++ Control y ∷ (map Data (reverse xs) ++ Control x ∷ q)) → burst_field y ≡ 1 → Holds source p y xs x
closed_burst source p y xs x q stream burst =
    let c = is_carried source p y (map Data (reverse xs) ++ Control x ∷ q) stream burst in
    let same = same_run (reverse xs) (data_words c.chunk.bytes) x c.end_word q c.rest c.words in
    record { chunk = c.chunk; next = c.next; words = same.data_is; end = ap eop_field same.control_is ∙ c.end; start = c.start }

none_behind : (source : Source) (p : List Word) (y : ℕ) (ds : List ℕ) (q : List Word) → IsBurstStream source (p ++ Control y ∷ (map Data ds ++ q)) → burst_field y ≡ 0 → ds ≡ []
none_behind source p y [] q stream idle = refl
none_behind source p y (d ∷ ds) q stream idle = let burst = data_after_burst source p y d (map Data ds ++ q) stream in absurd (omega arith)

empty_behind : (xs : List ℕ) → reverse xs ≡ [] → xs ≡ []
empty_behind xs h = nil_from_length xs (let n : length (reverse xs) ≡ length xs = length-reverse xs in let z : length (reverse xs) ≡ 0 = ap length h in omega arith)

closed_idle : (source : Source) (p : List Word) (y : ℕ) (xs : List ℕ) (x : ℕ) (q : List Word) → IsBurstStream source (p ++ Control y ∷ (map Data (reverse xs) ++ Control x ∷ q)) → IsRightControl source (p ++ block y (reverse xs)) x
    → burst_field y ≡ 0 → (xs ≡ []) × (eop_field x ≡ 0)
closed_idle source p y xs x q stream right idle =
    (empty_behind xs (none_behind source p y (reverse xs) (Control x ∷ q) stream idle), right.end ∙ end_format_block source p y (reverse xs) ∙ rw idle refl)

-- a control word more
pub one_more : (source : Source) (p : List Word) (e : List RxWord) (y : ℕ) (xs : List ℕ) (x : ℕ) (q : List Word) → Blocks source p e y → IsBurstStream source (p ++ Control y ∷ (map Data (reverse xs) ++ Control x ∷ q))
    → Blocks source (p ++ block y (reverse xs)) (behind xs y e) x
one_more source p e y xs x q before stream =
    let whole : (p ++ block y (reverse xs)) ++ Control x ∷ q ≡ p ++ Control y ∷ (map Data (reverse xs) ++ Control x ∷ q) = append_assoc p (block y (reverse xs)) (Control x ∷ q) in
    let right : IsRightControl source (p ++ block y (reverse xs)) x = right_at source (p ++ block y (reverse xs)) x q (subst (λ (v : List Word). IsBurstStream source v) (sym whole) stream) in
    More p e y xs x before right (record {
      burst = closed_burst source p y xs x q stream;
      idle = closed_idle source p y xs x q stream right;
    })

pub right_of : (source : Source) (p : List Word) (e : List RxWord) (x : ℕ) → Blocks source p e x → IsRightControl source p x
right_of source _ _ _ (Start x right) = right
right_of source _ _ _ (More p e y xs x before right closed) = right
