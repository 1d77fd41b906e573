-- Words that are as sent are taken where one comes that is not.
use Rattle.std.proofs.Common.{ℕ, ◌≡◌, refl, sym, ap, ◌∙◌, ◌+◌, ◌≤◌, ◌<◌, Bool, true, false, ◌&&◌, List, [], ◌∷◌, ◌++◌, length, map, min, take, drop, Option, Some, None, is_none, arith, eqb-true}
use Rattle.std.proofs.lemmas.Bool.{and_parts}
use Rattle.std.proofs.lemmas.List.{drop-append-le, get_or-take, length-take, length-take-le, map-append, take_more}
use Rattle.std.proofs.Math.ListN.{drop_of_length-le}
use Rattle.std.proofs.Math.Nat.{min-le_left}
use Rattle.lk_base.specs.declared.position.Pos.{Pos}
use Rattle.lk_base.specs.declared.word.Word.{Word}
use Rattle.lk_base.specs.declared.word.Word.TheVariants as sent
use Rattle.lk_base.specs.declared.word.RxWord.TheVariants as words
use Rattle.lk_base.specs.Words.{as_sent, payload, word_at}
use Rattle.receive_model.proofs.Cuts.{split}
use Rattle.receive_model.specs.Positions.{Placed}
use Rattle.receive_model.specs.Stretches.{Headed}
use Rattle.reassembly.specs.declared.stretch.Stretch.{Stretch as Checked}
use Rattle.reassembly.specs.declared.word_at.WordAt.{WordAt}
use Rattle.reassembly.specs.Folds.{with_all_data}
use Rattle.reassembly.specs.Steps as checks
use Rattle.link_laws.specs.Accidents.{is_same_word}
use Rattle.link_replay.specs.declared.alike.Alike.{Alike}
use Rattle.link_replay.specs.declared.alike.Alike.TheVariants as kinds
use Rattle.link_replay.specs.Places.{IsSlot}
use Rattle.link_replay.specs.Runs.{AreAlike, alike_after, first_of, goes_on}
use Rattle.link_replay.proofs.RunSteps.{drop-here}
use Rattle.link_replay.specs.Stretches.{IsBehind, Running, as_sent_so_far, caught_up, ends_from, ends_strange, is_alike, ready, with_bad, with_data}

all-on : (xs : List ℕ) (x : ℕ) (s : Checked) → with_all_data (xs ++ x ∷ []) s ≡ checks.with_data x (with_all_data xs s)
all-on [] x s = refl
all-on (y ∷ xs) x s = all-on xs x (checks.with_data y s)

all-opened : (xs : List ℕ) (s : Checked) → (with_all_data xs s).opened ≡ s.opened
all-opened [] s = refl
all-opened (x ∷ xs) s = all-opened xs (checks.with_data x s)

-- before the first control word of an epoch no word counts
off-one : (x : ℕ) (s : Checked) → s.opened ≡ None → checks.with_data x s ≡ s
off-one x s e = of s.opened s.register s.some s.bad e
  where
    of : (o : Option WordAt) (register : ℕ) (some bad : Bool) → o ≡ None → ◌≡◌ {A = Checked} (checks.with_data x (record { opened = o; register = register; some = some; bad = bad })) (record { opened = o; register = register; some = some; bad = bad })
    of None register true bad e = refl
    of None register false bad e = refl
    of (Some w) register some bad e = absurd (clash e)
      where
        clash : Some w ≡ None → ⊥
        clash e = cc

off-all : (xs : List ℕ) (s : Checked) → s.opened ≡ None → with_all_data xs s ≡ s
off-all [] s e = refl
off-all (x ∷ xs) s e = off-all xs (checks.with_data x s) e ∙ off-one x s e

module _ (ws : List Word) where
  -- the words from a slot on, with one more
  slots-on : (first n : ℕ) → first ≤ n → n < length ws → map payload (drop first (take (n + 1) ws)) ≡ map payload (drop first (take n ws)) ++ payload (word_at ws n) ∷ []
  slots-on first n le lt =
      let long : length (take n ws) ≡ n = length-take-le n ws (omega (arith, lt)) in
      ap (λ (xs : List Word). map payload (drop first xs)) (take_more ws n _ lt)
      ∙ ap (map payload) (drop-append-le first (take n ws) (word_at ws n ∷ []) (omega (arith, le, long)))
      ∙ map-append payload (drop first (take n ws)) (word_at ws n ∷ [])

  -- a list up to a place has no more than that
  pub least-length : (next : ℕ) → length (take next ws) ≡ min next (length ws)
  least-length next = length-take next ws

  -- the words that are left, with the first of them
  pub left-on : (n next : ℕ) → n < min next (length ws) → map payload (drop n (take next ws)) ≡ payload (word_at ws n) ∷ map payload (drop (n + 1) (take next ws))
  left-on n next lt =
      let few = least-length next in
      ap (map payload) (drop-here (take next ws) n (omega (arith, lt, few)))
      ∙ ap (λ (w : Word). payload w ∷ map payload (drop (n + 1) (take next ws))) (get_or-take next ws n (sent.Control 0) (let low = min-le_left next (length ws) in omega (arith, lt, low)))

  -- a word goes on with those before
  sent-on : (place : ℕ → Pos) (inner : List Placed) (a : Alike) (n : ℕ) → AreAlike place ws inner a → goes_on ws a n ≡ true → n < length ws →
      as_sent_so_far ws (kinds.Up (first_of a n) (n + 1)) ≡ as_sent_so_far ws a ++ payload (word_at ws n) ∷ []
  sent-on place inner kinds.Start n are on lt =
      let long : length (take n ws) ≡ n = length-take-le n ws (omega (arith, lt)) in
      slots-on n n (omega arith) lt ∙ ap (λ (xs : List Word). map payload xs ++ payload (word_at ws n) ∷ []) (drop_of_length-le (take n ws) (omega (arith, long)))
  sent-on place inner (kinds.Up first next) n are on lt =
      let e : n ≡ next = eqb-true n next on in
      let far = are.1 in
      slots-on first n (omega (arith, e, far)) lt ∙ ap (λ (k : ℕ). map payload (drop first (take k ws)) ++ payload (word_at ws n) ∷ []) e
  sent-on place inner kinds.Not n are on lt = absurd (clash on)
    where
      clash : false ≡ true → ⊥
      clash e = cc

  same-number : (x : ℕ) (w : Word) → is_same_word (words.Data x) (as_sent w) ≡ true → payload w ≡ x
  same-number x (sent.Data y) e = sym (eqb-true x y e)
  same-number x (sent.Control y) e = absurd (clash e)
    where
      clash : false ≡ true → ⊥
      clash e = cc

  bad-differs : (w : Word) → is_same_word words.Bad (as_sent w) ≡ false
  bad-differs (sent.Data y) = refl
  bad-differs (sent.Control y) = refl

  and-false : (b : Bool) → (b && false) ≡ false
  and-false true = refl
  and-false false = refl

  pub data-caught : (place : ℕ → Pos) (v : Running) (at : Pos) (x : ℕ) (slot : Option ℕ) (o : Option Headed) → IsSlot place (length ws) at slot → IsBehind place ws v o →
      let b = alike_after ws v.alike slot (words.Data x) in caught_up ws (with_data x b (ready ws b v)) ≡ checks.with_data x (caught_up ws v)
  data-caught place v at x None o slotted is = refl
  data-caught place v at x (Some n) o slotted is = split (goes_on ws v.alike n && is_same_word (words.Data x) (as_sent (word_at ws n)))
      (λ h. rw h (goes o is h))
      (λ h. rw h refl)
    where
      goes : (o : Option Headed) → IsBehind place ws v o → (goes_on ws v.alike n && is_same_word (words.Data x) (as_sent (word_at ws n))) ≡ true →
          with_all_data (as_sent_so_far ws (kinds.Up (first_of v.alike n) (n + 1))) v.checked ≡ checks.with_data x (caught_up ws v)
      goes None is h =
          let none : v.checked.opened ≡ None = sym (all-opened (as_sent_so_far ws v.alike) v.checked) ∙ ap (λ (c : Checked). c.opened) is.checked in
          off-all (as_sent_so_far ws (kinds.Up (first_of v.alike n) (n + 1))) v.checked none
          ∙ sym (off-one x v.checked none) ∙ ap (checks.with_data x) (sym (off-all (as_sent_so_far ws v.alike) v.checked none))
      goes (Some head) is h =
          let both = and_parts (goes_on ws v.alike n) (is_same_word (words.Data x) (as_sent (word_at ws n))) h in
          ap (λ (xs : List ℕ). with_all_data xs v.checked) (sent-on place head.following v.alike n is.alike.0 both.0 slotted.0)
          ∙ all-on (as_sent_so_far ws v.alike) (payload (word_at ws n)) v.checked
          ∙ ap (λ (k : ℕ). checks.with_data k (caught_up ws v)) (same-number x (word_at ws n) both.1)

  pub bad-caught : (v : Running) (slot : Option ℕ) → let b = alike_after ws v.alike slot words.Bad in caught_up ws (with_bad b (ready ws b v)) ≡ checks.with_bad (caught_up ws v)
  bad-caught v None = refl
  bad-caught v (Some n) =
      let none : (goes_on ws v.alike n && is_same_word words.Bad (as_sent (word_at ws n))) ≡ false = ap (λ b. goes_on ws v.alike n && b) (bad-differs (word_at ws n)) ∙ and-false (goes_on ws v.alike n) in
      rw none refl

  ends-none : (o : Option WordAt) (c : Checked) (x : ℕ) (b : Alike) → is_alike b ≡ true → ends_from o c x b ≡ false
  ends-none None c x b e = refl
  ends-none (Some w) c x b e = rw e (and-false (is_none (checks.fault_by c.bad w.number c.register c.some x)))

  -- of sent words nobody asks whether they pass
  pub ends-caught : (v : Running) (x : ℕ) (b : Alike) → ends_strange (ready ws b v).checked x b ≡ ends_strange (caught_up ws v) x b
  ends-caught v x b = split (is_alike b)
      (λ e. ends-none (ready ws b v).checked.opened (ready ws b v).checked x b e ∙ sym (ends-none (caught_up ws v).opened (caught_up ws v) x b e))
      (λ e. rw e refl)
