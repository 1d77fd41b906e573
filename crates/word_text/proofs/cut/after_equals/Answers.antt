use Rattle.std.proofs.Common.{◌≡◌, ◌<◌, ◌==◌, ℕ, zero, suc, List, [], ◌∷◌, true, false, length, drop, slice_index, refl, ap, ◌∙◌, arith, add-one}
use Rattle.std.proofs.lemmas.Bool.{false_from_ne_true}
use Rattle.word_text.specs.Read.{after_equals}
use Rattle.word_text.proofs.cut.after_equals.Goals as goal

-- the first "=" stands at place k
first-at : (text : List ℕ) (k : ℕ) → k < length text → (slice_index text k == 61) ≡ true → ((j : ℕ) → j < k → (slice_index text j == 61) ≡ true → ⊥) → drop (suc k) text ≡ after_equals text
unfolding after_equals
first-at [] k h e f = absurd (omega arith)
first-at (c ∷ cs) zero h e f = rw e refl
first-at (c ∷ cs) (suc k) h e f =
    let no : (c == 61) ≡ false = false_from_ne_true (c == 61) (f 0 (omega arith)) in
    rw no (first-at cs k (omega arith) e (λ j l. f (suc j) (omega arith)))

-- none stands anywhere
nowhere : (text : List ℕ) → ((j : ℕ) → j < length text → (slice_index text j == 61) ≡ true → ⊥) → [] ≡ after_equals text
unfolding after_equals
nowhere [] f = refl
nowhere (c ∷ cs) f =
    let no : (c == 61) ≡ false = false_from_ne_true (c == 61) (f 0 (omega arith)) in
    rw no (nowhere cs (λ j l. f (suc j) (omega arith)))

pub returns-in-Some : goal.returns-in-Some
returns-in-Some c =
    c.after.ensures ∙ ap (λ (n : ℕ). drop n c.args.text.now) (add-one c.in-Some.place)
    ∙ first-at c.args.text.now c.in-Some.place c.in-Some.ensures.0.high c.in-Some.ensures.1 (λ j l. c.in-Some.ensures.0.before j (omega arith) l)

pub returns-in-None : goal.returns-in-None
returns-in-None c = nowhere c.args.text.now (λ j l. c.in-None.ensures j (omega arith) l)
