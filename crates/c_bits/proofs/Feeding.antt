-- A lane is fed with the bytes that bits complete.
use Rattle.std.proofs.Common.{ℕ, ◌≡◌, refl, sym, ap, ◌∙◌, subst, ◌-◌, ◌*◌, ◌≤◌, ◌==◌, ◌++◌, Bool, List, [], length, set, Result, Ok}
use Rattle.std.specs.Prelude.{if◌then◌else◌}
use Rattle.lk_base.specs.Checksum.{bits_of}
use Rattle.lane_model.proofs.Numbers.{length-bits_of}
use Rattle.c_bits.specs.Bits.{AreFed, IsCut, part_of}

pub are_fed : {E : Type 0} (feeds : List ℕ → Result ℕ E → Type 0) (old new : List (List Bool)) (lane bits count : ℕ) (bytes piece : List ℕ) (part : List Bool) (n taken : ℕ) →
    IsCut (part_of lane old ++ bits_of count bits) bytes part → piece ≡ bytes → feeds piece (Ok n) → n ≤ length bytes →
    taken ≡ (if n == length bytes then count else 8 * n - length (part_of lane old)) →
    new ≡ set old lane (if n == length bytes then part else if n == 0 then part_of lane old else []) →
    AreFed feeds old new lane (bits_of count bits) (Ok taken)
are_fed feeds old new lane bits count bytes piece part n taken cut same fed within some left = (
  record { given = bits_of count bits; bytes = bytes; count = n; taken = taken },
  (if n == length bytes then part else if n == 0 then part_of lane old else []),
  subst (λ (b : List ℕ). feeds b (Ok n)) same fed,
  refl,
  refl,
  record {
    rest = part;
    cut = cut;
    within = within;
    taken = some ∙ ap (λ m. if n == length bytes then m else 8 * n - length (part_of lane old)) (sym (length-bits_of count bits));
    left = refl;
  },
  left,
)
