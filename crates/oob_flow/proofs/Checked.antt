-- The least byte that is no sample.
use Rattle.std.proofs.Common.{◌≡◌, ℕ, zero, suc, ◌+◌, ◌<◌, Bool, true, false, List, [], ◌∷◌, length, get_or, Some, None, All, refl, sym, ap, ◌∙◌, arith}
use Rattle.std.specs.Bool.{IsTrue}
use Rattle.std.proofs.lemmas.List.Elements.{All-head, All-tail}
use Rattle.lk_base.specs.Least.{IsLeast}
use Rattle.oob_flow.specs.Samples.{is_sample, first_bad_from, first_bad}

none_bad : (n : ℕ) (bytes : List ℕ) → All (λ byte. IsTrue (is_sample byte)) bytes → first_bad_from n bytes ≡ None
none_bad n [] h = refl
none_bad n (b ∷ bytes) h = let here : is_sample b ≡ true = All-head (λ byte. IsTrue (is_sample byte)) b bytes h in rw here (none_bad (n + 1) bytes (All-tail (λ byte. IsTrue (is_sample byte)) b bytes h))

one_bad : (n : ℕ) (bytes : List ℕ) (i : ℕ) → i < length bytes → is_sample (get_or bytes i 0) ≡ false → ((k : ℕ) → k < i → is_sample (get_or bytes k 0) ≡ true) → first_bad_from n bytes ≡ Some (n + i)
one_bad n [] i l h before = absurd (omega arith)
one_bad n (b ∷ bytes) zero l h before = let e : n ≡ n + 0 = omega arith in rw h (ap Some e)
one_bad n (b ∷ bytes) (suc i) l h before =
    let here : is_sample b ≡ true = before 0 (omega arith) in
    let e : n + 1 + i ≡ n + suc i = omega arith in
    rw here (one_bad (n + 1) bytes i (omega arith) h (λ k m. before (suc k) (omega arith)) ∙ ap Some e)

pub no_place : (bytes : List ℕ) → All (λ byte. IsTrue (is_sample byte)) bytes → None ≡ first_bad bytes
no_place bytes h = sym (none_bad 0 bytes h)

pub the_place : (bytes : List ℕ) (place : ℕ) → IsLeast (λ i. (i < length bytes) × (is_sample (get_or bytes i 0) ≡ false)) place → Some place ≡ first_bad bytes
the_place bytes place h =
    let e : 0 + place ≡ place = omega arith in
    sym (one_bad 0 bytes place h.0.0 h.0.1 (λ k l. by k l (is_sample (get_or bytes k 0)) refl) ∙ ap Some e)
  where
    by : (k : ℕ) → k < place → (b : Bool) → is_sample (get_or bytes k 0) ≡ b → is_sample (get_or bytes k 0) ≡ true
    by k l true e = e
    by k l false e = absurd (h.1 k l (omega (arith, h.0.0), e))
