-- The tests on bit positions.
use Rattle.std.proofs.Common.{ℕ, ◌≡◌, ap, ◌+◌, ◌*◌, ◌==◌, true, not, Option, Some, None, is_none, arith, eq-eqb, eqb-true, sym}
use Rattle.std.specs.List.{range_with_len}
use Rattle.lk_base.proofs.Lists.{in_range, below_range}
use Rattle.receive_model.proofs.Cuts.{split}
use Rattle.link_replay.specs.Lanes.{is_sent_at}
use Rattle.link_replay.specs.Places.{IsNumber}
use Rattle.link_laws.proofs.Lists.{any-found, any-from}

pub strange-is : (L made skew at : ℕ) (o : Option ℕ) → IsNumber L made skew at o → is_none o ≡ not (is_sent_at L made skew at)
strange-is L made skew at (Some m) h =
    let found : is_sent_at L made skew at ≡ true = any-from (λ k. at == skew + 67 * (k * L)) (range_with_len 0 made) m (in_range 0 made m (omega arith) (omega (arith, h.0))) (eq-eqb at (skew + 67 * (m * L)) h.1) in
    ap not (sym found)
strange-is L made skew at None h =
    split (is_sent_at L made skew at)
    (λ e. absurd (let found = any-found (λ k. at == skew + 67 * (k * L)) (range_with_len 0 made) e in
    let below = below_range 0 made found.0 found.1 in
    h found.0 (omega (arith, below)) (eqb-true at (skew + 67 * (found.0 * L)) found.2)))
    (λ e. ap not (sym e))
