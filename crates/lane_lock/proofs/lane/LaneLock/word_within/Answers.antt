-- The bits up to the last of the word, and the bits after it.
use Rattle.std.proofs.Common.{◌≡◌, ◌+◌, ◌-◌, ◌/◌, ◌^◌, ◌<◌, ◌==◌, ap, ◌∙◌, subst, refl, Bool, List, ℕ, replicate, arith}
use Rattle.std.specs.Int.{bit_at}
use Rattle.lk_base.specs.Checksum.{bits_of}
use Rattle.lk_base.specs.Link.{Settings}
use Rattle.lock_model.specs.declared.types.LaneStep.TheVariants as steps
use Rattle.lane_lock.specs.Bytes.{Brings, with_bits}
use Rattle.lane_lock.specs.Lane.{LaneView, with_bit}
use Rattle.lane_lock.specs.Standing.{Stands}
use Rattle.lane_lock.proofs.Cutting.{cut_brings, first_below, last_pushed}
use Rattle.lane_lock.proofs.lane.LaneLock.word_within.Goals as goal

pub returns-clause-stands : goal.returns-clause-stands
returns-clause-stands c =
    let v = c.args.self.now in
    let width = c.args.width in
    let all = c.args.bits in
    let place = c.saturating_sub-place.result in
    let behind = width - 1 - place in
    let last = bit_at all behind == 1 in
    let taken : c.self.inside.taken ≡ v.taken = ap (λ (x : LaneView). x.taken) c.self.view_is in
    let from : c.self.inside.at ≡ v.at = ap (λ (x : LaneView). x.at) c.self.view_is in
    let at : place ≡ v.at + 66 - v.taken = (let e = c.saturating_sub-place.ensures in omega (arith, e, taken, from)) in
    let lt : place < width = (let h = c.requires.ends in omega (arith, at, h)) in
    let before = with_bits v place (all / 2 ^ (width - place)) in
    let reached : c.shift.new.self ≡ with_bit before last =
    c.shift.ensures.value ∙ ap (with_bits v (place + 1)) c.first_bits.ensures.value ∙ last_pushed v width all place behind lt refl in
    cut_brings v c.watched-step.new.self c.rest.new.self width all place behind c.watched-step.result last c.requires.watching at refl lt
    (first_below all width place c.requires.bits (omega (arith, lt))) refl
    (λ (s : Settings) (bits : List Bool) (k : Stands before s bits). c.watched-step.ensures.stands before s bits last k reached c.requires.watching (omega (arith, at)))
    (subst (λ (n : ℕ). Brings c.watched-step.new.self c.rest.new.self (bits_of behind n) (replicate behind steps.Nothing)) c.last_bits.ensures.value c.rest.ensures.stands)
