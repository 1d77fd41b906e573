-- The words of a group are at their places.
use Rattle.std.proofs.Common.{ℕ, ◌≡◌, ap, ◌*◌, ◌/◌, ◌%◌, length, get_or, arith}
use Rattle.lane_model.specs.Framing.{payloads}
use Rattle.epoch_model.specs.Groups.{no_sync}
use Rattle.c_plan.specs.Laws.{PlacesAreFound}

pub places_are_found : PlacesAreFound
places_are_found = record {
  found = λ s group index e. record {
    lane = ap (λ (n : ℕ). get_or group (index % n) no_sync) e;
    bit = let q : index / length group ≡ index / s.lanes = ap (λ (n : ℕ). index / n) e in omega (arith, q);
  };
  size = λ s group e. ap (λ (n : ℕ). n * payloads s) e;
}
