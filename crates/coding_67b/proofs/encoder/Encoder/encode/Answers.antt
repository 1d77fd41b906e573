-- The code and the disparity after it are those of the definition.
use Rattle.std.proofs.Common.{◌≡◌, ℕ, sym, ap, ◌∙◌, ◌<◌, ◌^◌, Bool, List, [], ◌∷◌, ◌++◌, to_z, of_z, w32, arith, if◌then◌else◌}
use Rattle.std.proofs.lemmas.Int.{ints}
use Rattle.std.specs.Prelude.{ℤ, pos, negsuc, ◌+ℤ◌, ◌-ℤ◌, ◌≤ℤ◌, ◌&&◌, ◌||◌, int_le, int_lt}
use Rattle.lk_base.specs.declared.word.Word.{Word}
use Rattle.lk_base.specs.Words.{payload as payload_of, as_sent}
use Rattle.lane_model.specs.Coding.{code_behind, code_of, disparity, is_inverted, next_disparity, weight, word_of_code}
use Rattle.lane_model.proofs.Codes.{word-code_of}
use Rattle.lane_model.proofs.Disparities.{bounds, disparity_runs}
use Rattle.coding_67b.proofs.encoder.Encoder.encode.Goals as goal

inverted_is : (r w : ℤ) (x : ℕ) (b : Bool) → w ≡ weight x → b ≡ ((int_le (pos 0) r && int_lt (pos 0) w) || (int_lt r (pos 0) && int_lt w (pos 0))) → b ≡ is_inverted r x
unfolding is_inverted
inverted_is r w x b e h = h ∙ ap (λ v. (int_le (pos 0) r && int_lt (pos 0) v) || (int_lt r (pos 0) && int_lt v (pos 0))) e

code_is : (r : ℤ) (word : Word) (b : Bool) (code : ℕ) → b ≡ is_inverted r (payload_of word) → code ≡ code_of b word → code ≡ code_of (is_inverted r (payload_of word)) word
code_is r word b code e h = h ∙ ap (λ v. code_of v word) e

next_is : (r w next : ℤ) (x : ℕ) (b : Bool) → w ≡ weight x → b ≡ is_inverted r x → next ≡ (if b then r -ℤ w else r +ℤ w) → next ≡ next_disparity r x
next_is r w next x b e f h = h ∙ ap (λ v. if b then r -ℤ v else r +ℤ v) e ∙ ap (λ v. if v then r -ℤ weight x else r +ℤ weight x) f

back : (r next : ℤ) (x : ℕ) → negsuc 64 ≤ℤ r → r ≤ℤ pos 64 → next ≡ next_disparity r x → to_z w32 (of_z w32 next) ≡ next
back r next x low high e =
    let b = bounds r x low high in
    let l : negsuc 64 ≤ℤ next = rw e b.0 in
    let h : next ≤ℤ pos 64 = rw e b.1 in
    omega (arith, ints, l, h)

codes_are : (r next : ℤ) (word : Word) (code : ℕ) → payload_of word < 2 ^ 64 → code ≡ code_of (is_inverted r (payload_of word)) word → next ≡ next_disparity r (payload_of word) →
    (before : List ℕ) → r ≡ disparity before → (code ≡ code_behind before word) × (next ≡ disparity (before ++ code ∷ []))
codes_are r next word code fits e f before h =
    let same : code ≡ code_behind before word = e ∙ ap (λ d. code_of (is_inverted d (payload_of word)) word) h in (
      same,
      f ∙ ap (λ d. next_disparity d (payload_of word)) h ∙ sym (disparity_runs.step before word fits) ∙ ap (λ n. disparity (before ++ n ∷ [])) (sym same),
    )

means : (word : Word) (b : Bool) (code : ℕ) → payload_of word < 2 ^ 64 → code ≡ code_of b word → word_of_code code ≡ as_sent word
means word b code fits e = ap word_of_code e ∙ word-code_of b word fits

-- ---- numbers of 32 bits keep what is small

kept : (r : ℤ) → negsuc 64 ≤ℤ r → r ≤ℤ pos 64 → to_z w32 (of_z w32 r) ≡ r
kept r low high = omega (arith, ints, low, high)

raised : (w : ℤ) → w ≤ℤ pos 63 → w ≤ℤ pos 64
raised w h = omega (arith, ints, h)

module _ (c : goal.After-code) where
  fits : payload_of c.args.word < 2 ^ 64
  fits = let e = c.number.ensures in let t = c.number.type_inv in omega (arith, e, t)

  weight_is : c.weight_of-weight.result ≡ weight (payload_of c.args.word)
  weight_is = c.weight_of-weight.ensures.value ∙ ap weight c.number.ensures

  disparity_kept : to_z w32 (of_z w32 c.self.inside.disparity) ≡ c.self.inside.disparity
  disparity_kept = kept c.self.inside.disparity c.self.invariant.0 c.self.invariant.1

  weight_kept : to_z w32 (of_z w32 c.weight_of-weight.result) ≡ c.weight_of-weight.result
  weight_kept = kept c.weight_of-weight.result c.weight_of-weight.ensures.low (raised c.weight_of-weight.result c.weight_of-weight.ensures.high)

  inverted : c.inverts-inverted.result ≡ is_inverted c.self.inside.disparity (payload_of c.args.word)
  inverted =
      inverted_is c.self.inside.disparity c.weight_of-weight.result (payload_of c.args.word) c.inverts-inverted.result weight_is
      (rw (disparity_kept, weight_kept) at c.inverts-inverted.ensures)

  value : c.code.result ≡ code_of (is_inverted c.self.inside.disparity (payload_of c.args.word)) c.args.word
  value = code_is c.self.inside.disparity c.args.word c.inverts-inverted.result c.code.result inverted c.code.ensures.value

  next : c.disparity_after-next.result ≡ next_disparity c.self.inside.disparity (payload_of c.args.word)
  next =
      next_is c.self.inside.disparity c.weight_of-weight.result c.disparity_after-next.result (payload_of c.args.word) c.inverts-inverted.result weight_is inverted
      (rw (disparity_kept, weight_kept) at c.disparity_after-next.ensures)

  after : to_z w32 (of_z w32 c.disparity_after-next.result) ≡ next_disparity c.self.inside.disparity (payload_of c.args.word)
  after = back c.self.inside.disparity c.disparity_after-next.result (payload_of c.args.word) c.self.invariant.0 c.self.invariant.1 next ∙ next

pub returns-clause-value : goal.returns-clause-value
returns-clause-value c = rw (← c.self.view_is) (value c)

pub returns-clause-disparity : goal.returns-clause-disparity
returns-clause-disparity c = rw (← c.self.view_is) (after c)

pub returns-clause-codes : goal.returns-clause-codes
returns-clause-codes c = rw (← c.self.view_is) (codes_are c.self.inside.disparity _ c.args.word c.code.result (fits c) (value c) (after c))

pub returns-clause-means : goal.returns-clause-means
returns-clause-means c = means c.args.word c.inverts-inverted.result c.code.result (fits c) c.code.ensures.value
