-- A reader takes one more sample.
use Rattle.std.proofs.Common.{◌≡◌, ◌≢◌, eq-eqb, ℕ, suc, ◌+◌, ◌%◌, ◌==◌, Bool, true, false, not, ◌&&◌, List, [], ◌∷◌, ◌++◌, length, refl, sym, ap, ◌∙◌, append_assoc, append-nil, arith}
use Rattle.std.proofs.lemmas.Nat.Bits.{bit_at_lowest}
use Rattle.std.proofs.lemmas.Bool.{ne_eqb}
use Rattle.oob_flow.specs.Samples.{clock_of, data_of, sync_of}
use Rattle.oob_flow.specs.Taken.{Taken, taken_at, taken_from, taken}
use Rattle.oob_flow.specs.Receiving.{StandsIn, clock_after}
use Rattle.oob_flow.specs.declared.incoming.OobIn.{OobIn}

from_push : (n : ℕ) (before : Bool) (samples : List ℕ) (sample : ℕ) → taken_from n before (samples ++ sample ∷ []) ≡ taken_from n before samples ++ taken_at (n + length samples) (clock_after before samples) sample
from_push n before [] sample = let e : n ≡ n + 0 = omega arith in append-nil (taken_at n before sample) ∙ ap (λ (m : ℕ). taken_at m before sample) e
from_push n before (s ∷ samples) sample =
    let e : n + 1 + length samples ≡ n + suc (length samples) = omega arith in
    ap (λ (bits : List Taken). taken_at n before s ++ bits) (from_push (n + 1) (clock_of s) samples sample ∙ ap (λ (m : ℕ). taken_from (n + 1) (clock_of s) samples ++ taken_at m (clock_after (clock_of s) samples) sample) e)
    ∙ sym (append_assoc (taken_at n before s) (taken_from (n + 1) (clock_of s) samples) (taken_at (n + suc (length samples)) (clock_after before (s ∷ samples)) sample))

pub taken_push : (samples : List ℕ) (sample : ℕ) → taken (samples ++ sample ∷ []) ≡ taken samples ++ taken_at (length samples) (clock_after false samples) sample
taken_push samples sample = let e : 0 + length samples ≡ length samples = omega arith in from_push 0 false samples sample ∙ ap (λ (m : ℕ). taken samples ++ taken_at m (clock_after false samples) sample) e

pub clock_push : (before : Bool) (samples : List ℕ) (sample : ℕ) → clock_after before (samples ++ sample ∷ []) ≡ clock_of sample
clock_push before [] sample = refl
clock_push before (s ∷ samples) sample = clock_push (clock_of s) samples sample

pub clock_is : (sample : ℕ) → (sample % 2 == 1) ≡ clock_of sample
clock_is sample = ap (λ (n : ℕ). n == 1) (sym (bit_at_lowest sample))

-- the bit of a sample
pub bit_of : ℕ → ℕ → Taken
bit_of number sample = record { number = number; state = data_of sample; sync = sync_of sample }

module _ (old : OobIn) (entries : ℕ) (samples : List ℕ) (sample : ℕ) (s : StandsIn old entries samples) where
  rises_at : (rises : Bool) → rises ≡ (clock_of sample && not old.clock) → rises ≡ (clock_of sample && not (clock_after false samples))
  rises_at rises h = h ∙ ap (λ (b : Bool). clock_of sample && not b) s.clock

  pub taken_one : (clock_of sample && not old.clock) ≡ true → taken (samples ++ sample ∷ []) ≡ taken samples ++ record { number = length samples; state = data_of sample; sync = sync_of sample } ∷ []
  taken_one h = taken_push samples sample ∙ rest
    where
      rest : taken samples ++ taken_at (length samples) (clock_after false samples) sample ≡ taken samples ++ record { number = length samples; state = data_of sample; sync = sync_of sample } ∷ []
      rest = let r : (clock_of sample && not (clock_after false samples)) ≡ true = sym (rises_at true (sym h)) in rw r refl

  pub taken_none : (clock_of sample && not old.clock) ≡ false → taken (samples ++ sample ∷ []) ≡ taken samples
  taken_none h = taken_push samples sample ∙ rest
    where
      rest : taken samples ++ taken_at (length samples) (clock_after false samples) sample ≡ taken samples
      rest = let r : (clock_of sample && not (clock_after false samples)) ≡ false = sym (rises_at false (sym h)) in rw r (append-nil (taken samples))

-- the clock was 0 and is 1
pub rises_on : (sample : ℕ) (before rises : Bool) → sample % 2 ≡ 1 → rises ≡ not before → (clock_of sample && not before) ≡ rises
rises_on sample before rises h e = ap (λ (b : Bool). b && not before) (sym (clock_is sample) ∙ eq-eqb (sample % 2) 1 h) ∙ sym e

pub rises_off : (sample : ℕ) (before rises : Bool) → sample % 2 ≢ 1 → rises ≡ (sample % 2 == 1) → (clock_of sample && not before) ≡ rises
rises_off sample before rises h e = ap (λ (b : Bool). b && not before) (sym (clock_is sample) ∙ ne_eqb (sample % 2) 1 h) ∙ sym (e ∙ ne_eqb (sample % 2) 1 h)
