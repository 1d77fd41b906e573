-- What is known of the words before each control word of a stream.
use Rattle.std.proofs.Common.{ℕ, zero, suc, ◌≡◌, ◌+◌, ◌<◌, true, false, cond, List, [], ◌∷◌, ◌++◌, length, map, reverse, Some, if◌then◌else◌, refl, ap, ◌∙◌, arith, length-append}
use Rattle.std.specs.List.{list_any}
use Rattle.std.proofs.Math.Seq.{get_or-append_seam}
use Rattle.std.proofs.lemmas.List.{length-map, length-reverse}
use Rattle.std.proofs.lemmas.List.Sums.{sum_by-append, sum_by-cons}
use Rattle.lk_base.specs.Words.{is_bad, is_control, word_at, block}
use Rattle.lk_base.specs.Fields.{is_control_word}
use Rattle.lk_base.specs.declared.word.Word.{Word}
use Rattle.lk_base.specs.declared.word.Word.TheVariants.{Data, Control}
use Rattle.lk_base.specs.declared.word.RxWord.{RxWord}
use Rattle.stream_model.specs.BurstStream.{Source, is_burst, is_burst_on, bursts_in, controls_in}
use Rattle.delivery_laws.proofs.Clean.{accepted}
use Rattle.word_rules.specs.Places.{known, words_since_burst}
use Rattle.rule_laws.proofs.Places.{Blocks, Start, More, behind, right_of}
use Rattle.rule_laws.proofs.Behind.{length_of, any_bad_of, known_of, Here, Before, since_burst_of}

-- ---- a block more

block_length : (p : List Word) (y : ℕ) (xs : List ℕ) → length (p ++ block y (reverse xs)) ≡ length p + suc (length xs)
block_length p y xs =
    let a : length (p ++ block y (reverse xs)) ≡ length p + suc (length (map Data (reverse xs))) = length-append p (block y (reverse xs)) in
    let b : length (map Data (reverse xs)) ≡ length (reverse xs) = length-map (reverse xs) Data in
    let c : length (reverse xs) ≡ length xs = length-reverse xs in
    omega arith

no_bursts : (channel : ℕ) (ds : List ℕ) → bursts_in (map Data ds) channel ≡ 0
no_bursts channel [] = refl
no_bursts channel (d ∷ ds) =
    let one : bursts_in (Data d ∷ map Data ds) channel ≡ 0 + bursts_in (map Data ds) channel = sum_by-cons (λ (v : Word). cond (is_burst_on channel v) 1 0) (Data d) (map Data ds) in
    let rest = no_bursts channel ds in
    omega arith

pub bursts_more : (p : List Word) (y : ℕ) (ds : List ℕ) (channel : ℕ) → bursts_in (p ++ block y ds) channel ≡ bursts_in p channel + (if is_burst_on channel (Control y) then 1 else 0)
bursts_more p y ds channel =
    let f : Word → ℕ = λ v. cond (is_burst_on channel v) 1 0 in
    let tail : bursts_in (block y ds) channel ≡ f (Control y) + bursts_in (map Data ds) channel = sum_by-cons f (Control y) (map Data ds) in
    let none = no_bursts channel ds in
    let joined : bursts_in (p ++ block y ds) channel ≡ bursts_in p channel + bursts_in (block y ds) channel = sum_by-append f p (block y ds) in
    omega arith

no_controls : (ds : List ℕ) → controls_in (map Data ds) ≡ 0
no_controls [] = refl
no_controls (d ∷ ds) =
    let one : controls_in (Data d ∷ map Data ds) ≡ 0 + controls_in (map Data ds) = sum_by-cons (λ (v : Word). cond (is_control v) 1 0) (Data d) (map Data ds) in
    let rest = no_controls ds in
    omega arith

pub controls_more : (p : List Word) (y : ℕ) (ds : List ℕ) → controls_in (p ++ block y ds) ≡ suc (controls_in p)
controls_more p y ds =
    let f : Word → ℕ = λ v. cond (is_control v) 1 0 in
    let tail : controls_in (block y ds) ≡ 1 + controls_in (map Data ds) = sum_by-cons f (Control y) (map Data ds) in
    let none = no_controls ds in
    let joined : controls_in (p ++ block y ds) ≡ controls_in p + controls_in (block y ds) = sum_by-append f p (block y ds) in
    omega arith

word_before : (p : List Word) (s : ℕ) (q : List Word) → s < length p → word_at (p ++ q) s ≡ word_at p s
word_before [] s q h = absurd (omega arith)
word_before (v ∷ p) zero q h = refl
word_before (v ∷ p) (suc s) q h = word_before p s q (omega arith)

-- ---- by the blocks

module _ (source : Source) where
  pub same_length : (p : List Word) (e : List RxWord) (x : ℕ) → Blocks source p e x → length e ≡ length p
  same_length _ _ _ (Start x right) = refl
  same_length _ _ _ (More p e y xs x before right closed) =
      let same = same_length p e y before in
      let a = length_of xs y e in
      let b = block_length p y xs in
      omega arith

  pub none_bad : (p : List Word) (e : List RxWord) (x : ℕ) → Blocks source p e x → list_any is_bad e ≡ false
  none_bad _ _ _ (Start x right) = refl
  none_bad _ _ _ (More p e y xs x before right closed) = any_bad_of xs y e ∙ none_bad p e y before

  pub all_known : (p : List Word) (e : List RxWord) (x : ℕ) → Blocks source p e x → known e ≡ e
  all_known _ _ _ (Start x right) = refl
  all_known _ _ _ (More p e y xs x before right closed) = known_of xs y e ∙ ap (behind xs y) (all_known p e y before)

  pub accepted_at : (p : List Word) (e : List RxWord) (x : ℕ) → Blocks source p e x → is_control_word x ≡ true
  accepted_at p e x before = accepted source p x (right_of source p e x before)

  -- the burst word from which the words are counted
  pub since_at : (p : List Word) (e : List RxWord) (x k : ℕ) → Blocks source p e x → words_since_burst e ≡ Some k → (s : ℕ) × (s + suc k ≡ length p) × (is_burst (word_at p s) ≡ true)
  since_at _ _ _ k (Start x right) h = cc
  since_at _ _ _ k (More p e y xs x before right closed) h =
      let r = since_burst_of xs y e k h in
      let size = block_length p y xs in
      elim r.2 [
        | Here is none ↦ (
          length p,
          (let a : k ≡ length xs + r.0 = r.1 in omega arith),
          ap is_burst (get_or-append_seam p (Control y) (map Data (reverse xs)) (Control 0)) ∙ rw (accepted_at p e y before) at is,
        )
        | Before j more there ↦ (
            let s = since_at p e y j before there in
            let at : s.0 + suc j ≡ length p = s.1 in
            let a : k ≡ length xs + r.0 = r.1 in
            (s.0, omega arith, ap is_burst (word_before p s.0 (block y (reverse xs)) (omega arith)) ∙ s.2))
      ]
