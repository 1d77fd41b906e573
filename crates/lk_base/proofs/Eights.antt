-- Eight bytes as a number.
use Rattle.std.proofs.Common.{ℕ, zero, suc, ◌≡◌, refl, sym, ap, ◌∙◌, subst, ◌+◌, ◌<◌, ◌≤◌, List, [], ◌∷◌, length, take, drop, get_or, arith}
use Rattle.std.specs.Int.{from_be_bytes, w64}
use Rattle.std.proofs.lemmas.List.{drop_more}
use Rattle.std.proofs.lemmas.Nat.{be_bytes_8}
use Rattle.lk_base.specs.Checksum.{bits_of, bits_of_bytes}
use Rattle.lk_base.proofs.Bits.{bits_of_bytes_high}

low-take : (n : ℕ) (bytes : List ℕ) (i : ℕ) → ((k : ℕ) → get_or bytes k 0 < 256) → get_or (take n bytes) i 0 < 256
low-take zero bytes i h = omega arith
low-take (suc n) [] i h = omega arith
low-take (suc n) (b ∷ bytes) zero h = h 0
low-take (suc n) (b ∷ bytes) (suc i) h = low-take n bytes i (λ k. h (suc k))

low-drop : (n : ℕ) (bytes : List ℕ) → ((k : ℕ) → get_or bytes k 0 < 256) → (k : ℕ) → get_or (drop n bytes) k 0 < 256
low-drop zero bytes h k = h k
low-drop (suc n) [] h k = omega arith
low-drop (suc n) (b ∷ bytes) h k = low-drop n bytes (λ i. h (suc i)) k

one-there : (bytes : List ℕ) (n p q : ℕ) → q ≡ p + 1 → p < length bytes → take (suc n) (drop p bytes) ≡ get_or bytes p 0 ∷ take n (drop q bytes)
one-there bytes n p q e lt = ap (take (suc n)) (drop_more bytes p 0 lt) ∙ ap (λ m. get_or bytes p 0 ∷ take n (drop m bytes)) (sym e)

module _ (bytes : List ℕ) (place n : ℕ) (there : place + 8 ≤ length bytes) (low : (k : ℕ) → get_or bytes k 0 < 256) where
  abbrev at : ℕ → ℕ
  at k = get_or bytes (place + k) 0

  abbrev eight : List ℕ
  eight = get_or bytes place 0 ∷ at 1 ∷ at 2 ∷ at 3 ∷ at 4 ∷ at 5 ∷ at 6 ∷ at 7 ∷ []

  eight_taken : take 8 (drop place bytes) ≡ eight
  eight_taken =
      one-there bytes 7 place (place + 1) refl (omega (arith, there))
      ∙ ap (λ r. get_or bytes place 0 ∷ r) (one-there bytes 6 (place + 1) (place + 2) (omega arith) (omega (arith, there))
      ∙ ap (λ r. at 1 ∷ r) (one-there bytes 5 (place + 2) (place + 3) (omega arith) (omega (arith, there))
      ∙ ap (λ r. at 2 ∷ r) (one-there bytes 4 (place + 3) (place + 4) (omega arith) (omega (arith, there))
      ∙ ap (λ r. at 3 ∷ r) (one-there bytes 3 (place + 4) (place + 5) (omega arith) (omega (arith, there))
      ∙ ap (λ r. at 4 ∷ r) (one-there bytes 2 (place + 5) (place + 6) (omega arith) (omega (arith, there))
      ∙ ap (λ r. at 5 ∷ r) (one-there bytes 1 (place + 6) (place + 7) (omega arith) (omega (arith, there))
      ∙ ap (λ r. at 6 ∷ r) (one-there bytes 0 (place + 7) (place + 8) (omega arith) (omega (arith, there)))))))))

  pub eight_there : n ≡ from_be_bytes w64 eight → bits_of 64 n ≡ bits_of_bytes (take 8 (drop place bytes))
  eight_there is =
      let small : (i : ℕ) → get_or eight i 0 < 256 =
      λ i. subst (λ (bs : List ℕ). get_or bs i 0 < 256) eight_taken (low-take 8 (drop place bytes) i (low-drop place bytes low)) in
      sym (bits_of_bytes_high 8 n) ∙ ap bits_of_bytes (be_bytes_8 eight n refl small is ∙ sym eight_taken)
