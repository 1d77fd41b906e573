-- An input that has no byte at its limit.
use Rattle.std.proofs.Common.{◌≡◌, refl, ℕ, ◌<◌, ◌≤◌, true, List, length, nat_lt, arith, inl, inr, Option, Some, None, IfSome, IsSomeAnd, Ok}
use Rattle.std.proofs.lemmas.Bool.{cases_Bool}
use Rattle.std.proofs.lemmas.Bool.Decides.{nat_tests}
use Rattle.lk_outside.specs.Files.{Files, file}
use Rattle.lk_outside.specs.Reads as lk_reads
use Rattle.run_stops.specs.Reading.{ReadsPiece, bytes_by, bytes_in}

module _ (name : List ℕ) (limit n : ℕ) (buf : List ℕ) (none : n ≡ 0) (room : 0 < length buf) where
  no_longer : (o : Option (List ℕ)) → IsSomeAnd o (λ bytes. lk_reads.Reads bytes limit n buf) → (bytes : List ℕ) × (bytes_by name limit o ≡ Ok bytes)
  no_longer None h = absurd h
  no_longer (Some bytes) h =
      let le : length bytes ≤ limit = h.stops none room in
      elim (cases_Bool (nat_lt limit (length bytes))) [
        | inl t ↦ absurd (below t le)
        | inr t ↦ (bytes, rw t refl)
      ]
    where
      below : nat_lt limit (length bytes) ≡ true → length bytes ≤ limit → ⊥
      below t le = grind (arith, nat_tests)

  pub no_byte_past : (x : Option Files) → IfSome x (ReadsPiece (Ok n) name limit buf) → IfSome x (λ files. (bytes : List ℕ) × (bytes_in files name limit ≡ Ok bytes))
  no_byte_past None h = tt
  no_byte_past (Some files) h = no_longer (file files name) h
