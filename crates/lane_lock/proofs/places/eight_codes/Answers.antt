-- One code more.
use Rattle.std.proofs.Common.{◌*◌, refl, sym, ap, subst, ◌∙◌, length-set, arith}
use Rattle.std.proofs.lemmas.List.{take_all}
use Rattle.lk_base.specs.Checksum.{bits_of_bytes}
use Rattle.lane_model.specs.LaneBits.{bits_of_codes}
use Rattle.coding_67b.proofs.Runs.{no_codes}
use Rattle.lane_lock.specs.Run.{are_codes}
use Rattle.lane_lock.proofs.Batches.{length-bytes}
use Rattle.lane_lock.proofs.CodesTaken.{first_more}
use Rattle.lane_lock.proofs.places.eight_codes.Goals as goal

pub loop-place-init : goal.loop-place-init
loop-place-init c = record { bits = no_codes; below = tt; long = refl }

pub loop-place-preserved : goal.loop-place-preserved
loop-place-preserved c =
    let k = c.loop-place.invariant in
    first_more c.loop-place.codes c.loop-place.place c.code_at.result (bits_of_bytes c.args.bytes.now) k c.loop-place-test.true c.code_at.ensures.below c.code_at.ensures.bits
    (length-set c.loop-place.codes c.loop-place.place c.code_at.result ∙ k.long)

pub returns-clause-bits : goal.returns-clause-bits
returns-clause-bits c =
    let k = c.loop-place.invariant in
    let long = k.long in
    let over = c.loop-place-test.false in
    let bytes = length-bytes c.args.bytes.now in
    let many = c.requires in
    ap bits_of_codes (sym (take_all c.loop-place.place c.loop-place.codes (omega (arith, long, over)))) ∙ k.bits
    ∙ take_all (67 * c.loop-place.place) (bits_of_bytes c.args.bytes.now) (omega (arith, bytes, many, over))

pub returns-clause-below : goal.returns-clause-below
returns-clause-below c =
    let long = c.loop-place.invariant.long in
    let over = c.loop-place-test.false in
    subst are_codes (take_all c.loop-place.place c.loop-place.codes (omega (arith, long, over))) c.loop-place.invariant.below
