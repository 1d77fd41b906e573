-- Each burst of a stream has the data that the rules ask for, and a word that ends or goes on with it.
use Rattle.std.proofs.Common.{ℕ, suc, ◌≡◌, ◌↔◌, inl, inr, ◌+◌, ◌-◌, ◌/◌, ◌%◌, ◌<◌, ◌≤◌, true, false, List, [], ◌∷◌, ◌++◌, length, map, reverse, Some, None, Option, is_some, ◌==◌, nat_lt, refl, ap, ◌∙◌, arith, eqb-true, eq-eqb}
use Rattle.std.specs.Option.{option_map_or}
use Rattle.std.proofs.lemmas.Bool.{ne_eqb, ltb-true, and_from, and_left, and_right, false_from_ne_true}
use Rattle.std.proofs.lemmas.List.{length-reverse}
use Rattle.lk_base.specs.Words.{as_sent, word_at}
use Rattle.lk_base.specs.Fields.{burst_field, sop_field, eop_field, has_burst, is_control_word}
use Rattle.lk_base.specs.declared.word.Word.{Word}
use Rattle.lk_base.specs.declared.word.Word.TheVariants.{Data, Control}
use Rattle.lk_base.specs.declared.word.RxWord.{RxWord}
use Rattle.stream_model.specs.BurstStream.{Source, Chunk, is_burst, data_words, data_since, parts, end_format, format_after, IsBurstStream}
use Rattle.stream_model.proofs.Blocks.{bit_cases}
use Rattle.stream_model.proofs.Bursts.{is_carried}
use Rattle.delivery_laws.proofs.Fill.{count_words}
use Rattle.receive_model.specs.Lists.{first_of}
use Rattle.receive_model.proofs.Cuts.{split}
use Rattle.word_rules.specs.declared.limits.WordLimits.{WordLimits}
use Rattle.word_rules.specs.Places.{is_burst_word, data_before, burst_before, words_since_burst}
use Rattle.word_rules.specs.Rules.{breaks_data, breaks_max, breaks_empty, is_next_control, breaks_short}
use Rattle.rule_laws.proofs.Pieces.{IsPiece, piece_at}
use Rattle.rule_laws.proofs.Places.{Blocks, Start, More, Holds, behind, right_of, data_after_burst, run_less}
use Rattle.rule_laws.proofs.Behind.{data_of, burst_of}
use Rattle.rule_laws.proofs.Facts.{accepted_at, all_known, since_at}

-- ---- a Data word

burst_before_data : (source : Source) (p : List Word) (y : ℕ) (ds : List ℕ) (d : ℕ) (q : List Word) → IsBurstStream source (p ++ Control y ∷ (map Data ds ++ Data d ∷ q)) → burst_field y ≡ 1
burst_before_data source p y [] d q stream = data_after_burst source p y d q stream
burst_before_data source p y (c ∷ ds) d q stream = data_after_burst source p y c (map Data ds ++ Data d ∷ q) stream

pub keeps_data : (source : Source) (p : List Word) (e : List RxWord) (y : ℕ) (xs : List ℕ) (d : ℕ) (q : List Word) → Blocks source p e y → IsBurstStream source (p ++ Control y ∷ (map Data (reverse xs) ++ Data d ∷ q)) → breaks_data (behind xs y e) ≡ false
keeps_data source p e y [] d q before stream =
    rw (accepted_at source p e y before, burst_before_data source p y [] d q stream) refl
keeps_data source p e y (x ∷ xs) d q before stream = refl

less_words : (size n most : ℕ) → size < parts 8 n → n ≤ most → most % 64 ≡ 0 → size ≡ most / 8 → ⊥
less_words size n most a b c e = omega arith

pub keeps_max : (source : Source) (s : WordLimits) (p : List Word) (e : List RxWord) (y : ℕ) (xs : List ℕ) (d : ℕ) (q : List Word) → s.burst_max ≡ source.shape.burst_max → IsBurstStream source (p ++ Control y ∷ (map Data (reverse xs) ++ Data d ∷ q)) → breaks_max s (behind xs y e) ≡ false
keeps_max source s p e y xs d q same stream =
    let c = is_carried source p y (map Data (reverse xs) ++ Data d ∷ q) stream (burst_before_data source p y (reverse xs) d q stream) in
    let less : length (reverse xs) < length (data_words c.chunk.bytes) = run_less (reverse xs) (data_words c.chunk.bytes) d c.end_word q c.rest c.words in
    let long : length (reverse xs) ≡ length xs = length-reverse xs in
    let count = count_words c.chunk.bytes in
    let piece : IsPiece source.shape c.chunk = piece_at source _ _ c.chunk c.next in
    let most = piece.most in
    let whole = source.shape.burst_max_whole in
    let below : (length xs == s.burst_max / 8) ≡ false = ne_eqb (length xs) (s.burst_max / 8) (λ at. less_words (length xs) (length c.chunk.bytes) s.burst_max (omega arith) (omega arith) (omega arith) at) in
    rw (data_of xs y e, below) (and_right (is_some (burst_before (behind xs y e))) false refl)

-- ---- a burst word

next_data : (ds : List ℕ) (x : ℕ) (rest : List Word) → 1 ≤ length ds → is_next_control (first_of (map as_sent (map Data ds ++ Control x ∷ rest))) ≡ false
next_data [] x rest h = absurd (omega arith)
next_data (d ∷ ds) x rest h = refl

pub keeps_empty : (source : Source) (p : List Word) (x : ℕ) (q : List Word) → IsBurstStream source (p ++ Control x ∷ q) → breaks_empty x (first_of (map as_sent q)) ≡ false
keeps_empty source p x q stream = split (has_burst x)
    (λ h.
    let c = is_carried source p x q stream (eqb-true (burst_field x) 1 h) in
    let piece : IsPiece source.shape c.chunk = piece_at source _ _ c.chunk c.next in
    let some = piece.some in
    let count = count_words c.chunk.bytes in
    let next : is_next_control (first_of (map as_sent q)) ≡ false = ap (λ (v : List Word). is_next_control (first_of (map as_sent v))) c.words ∙ next_data (data_words c.chunk.bytes) c.end_word c.rest (omega arith) in
    and_right (is_burst_word x) (is_next_control (first_of (map as_sent q))) next)
    (λ h. and_left (is_burst_word x) (is_next_control (first_of (map as_sent q))) (and_right (is_control_word x) (has_burst x) h))

pub keeps_short : (source : Source) (s : WordLimits) (p : List Word) (e : List RxWord) (x : ℕ) → s.burst_short ≡ source.shape.burst_short → Blocks source p e x → breaks_short s e x ≡ false
keeps_short source s p e x same before = split (has_burst x)
    (λ h. and_right (is_burst_word x) _ (rw (all_known source p e x before) (by (eqb-true (burst_field x) 1 h) (words_since_burst e) refl)))
    (λ h. and_left (is_burst_word x) _ (and_right (is_control_word x) (has_burst x) h))
  where
    by : burst_field x ≡ 1 → (o : Option ℕ) → words_since_burst e ≡ o → option_map_or (λ between. nat_lt between (s.burst_short / 8)) o false ≡ false
    by burst None at = refl
    by burst (Some k) at =
        let from = since_at source p e x k before at in
        let place : from.0 + suc k ≡ length p = from.1 in
        let spaced = ((right_of source p e x before).burst.0 burst).2 in
        false_from_ne_true (nat_lt k (s.burst_short / 8)) (λ t.
        let short : k < s.burst_short / 8 = ltb-true k (s.burst_short / 8) t in
        let eighth : s.burst_short / 8 ≡ source.shape.burst_short / 8 = ap (λ n. n / 8) same in
        let none : is_burst (word_at p from.0) ≡ false = spaced from.0 (omega arith) (omega arith) in
        let one : is_burst (word_at p from.0) ≡ true = from.2 in
        cc)

-- ---- the closing word of a burst

-- a burst is closed there, or no data and no end
pub data Closing (source : Source) (p : List Word) (e : List RxWord) (x : ℕ) : Type 0 where
  Burst : (chunk : Chunk) (y : ℕ) (xs : List ℕ) → IsPiece source.shape chunk → data_before e ≡ xs → burst_before e ≡ Some y → reverse xs ≡ data_words chunk.bytes → eop_field x ≡ format_after chunk
      → (sop_field y ≡ 1) ↔ (chunk.is_first ≡ true) → Closing source p e x
  Nothing : burst_before e ≡ None → data_before e ≡ [] → eop_field x ≡ 0 → Closing source p e x

no_end_first : (source : Source) → end_format source [] ≡ 0
no_end_first source = let none : 0 - length (data_since []) ≡ 0 = omega arith in rw none refl

pub closing : (source : Source) (p : List Word) (e : List RxWord) (x : ℕ) → Blocks source p e x → Closing source p e x
closing source _ _ _ (Start x right) = Nothing refl refl (right.end ∙ no_end_first source)
closing source _ _ _ (More p e y xs x before right closed) = elim (bit_cases y) [
  | inl idle ↦ (
      let word : is_burst_word y ≡ false = and_right (is_control_word y) (has_burst y) (rw idle refl) in
      let none = closed.idle idle in
      Nothing (burst_of xs y e ∙ rw word refl) (data_of xs y e ∙ none.0) none.1)
  | inr burst ↦ (
      let word : is_burst_word y ≡ true = and_from (is_control_word y) (has_burst y) (accepted_at source p e y before) (eq-eqb (burst_field y) 1 burst) in
      let h : Holds source p y xs x = closed.burst burst in
      Burst h.chunk y xs (piece_at source _ _ h.chunk h.next) (data_of xs y e) (burst_of xs y e ∙ rw word refl) h.words h.end h.start)
]
