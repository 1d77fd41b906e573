-- The slots of a group.
use Rattle.std.proofs.Common.{ℕ, ◌≡◌, sym, ap, ap₂, ◌∙◌, subst, ◌+◌, ◌*◌, ◌/◌, ◌%◌, ◌<◌, refl, Some, None, arith}
use Rattle.std.proofs.Math.Nat.{div-add-mod, mul_comm}
use Rattle.delivery_laws.specs.GroupPlaces.{group_place}
use Rattle.lk_base.specs.declared.position.Pos.{Pos}
use Rattle.lk_base.specs.Link.{Settings, IsLink, group_of}
use Rattle.link_laws.proofs.Follow.{some_words}
use Rattle.link_replay.specs.Places.{AreOwn, IsGroupSlot, IsSlot, place_of}
use Rattle.link_replay.proofs.Numbers.{places-own, slot-at, slot-below, slot-place, step-times, whole-below}

pub places_own : (s : Settings) (skew : ℕ) → IsLink s → AreOwn (place_of s skew)
places_own s skew link = (let long = link.metaframe.0 in places-own skew (67 * s.metaframe) (group_of s) (omega (arith, long)) (some_words s link))

pub slot_none : (s : Settings) (skew count : ℕ) (at : Pos) → IsLink s → count % group_of s ≡ 0 → IsGroupSlot s count skew at.group None → IsSlot (place_of s skew) count at None
slot_none s skew count at link whole none = λ n below e. (
    let w = whole-below (group_of s) count n (some_words s link) whole below in
    let g : at.group ≡ skew + 67 * s.metaframe * (n / group_of s) = ap (λ (p : Pos). p.group) e in
    none (n / group_of s) w.0 (g ∙ step-times skew (n / group_of s) s.metaframe))

pub slot_some : (s : Settings) (skew count first : ℕ) (at : Pos) → at.index < group_of s → IsGroupSlot s count skew at.group (Some first) → IsSlot (place_of s skew) count at (Some (first + at.index))
slot_some s skew count first at inside g =
    let m = g.0 in
    let e : first + at.index ≡ m * group_of s + at.index = ap (λ k. k + at.index) g.2 in (
      subst (λ k. k < count) (sym e) (slot-below (group_of s) count m at.index inside g.1.0),
      slot-at at skew s.metaframe (group_of s) (group_of s) m refl g.1.1 inside ∙ ap (place_of s skew) (sym e),
    )

-- the slot k words on, in the same group
pub slot_further : (s : Settings) (skew count n k : ℕ) (at : Pos) → IsLink s → count % group_of s ≡ 0 → at.index + k < group_of s → IsSlot (place_of s skew) count at (Some n) →
    IsSlot (place_of s skew) count (record { group = at.group; index = at.index + k }) (Some (n + k))
slot_further s skew count n k at link whole inside is =
    let size = group_of s in
    let step = 67 * s.metaframe in
    let q = n / size in
    let w = whole-below size count n (some_words s link) whole is.0 in
    let d = div-add-mod n size in
    let c = mul_comm size q in
    let group : at.group ≡ skew + step * q = ap (λ (p : Pos). p.group) is.1 in
    let index : at.index ≡ n % size = ap (λ (p : Pos). p.index) is.1 in
    let low : n % size + k < size = omega (arith, inside, index) in
    let here : q * size + (n % size + k) ≡ n + k = omega (arith, d, c) in (
      subst (λ m. m < count) here (slot-below size count q (n % size + k) low w.0),
      ap₂ (λ (g i : ℕ). let p : Pos = record { group = g; index = i } in p) group (ap (λ i. i + k) index)
          ∙ sym (slot-place skew step size q (n % size + k) low)
          ∙ ap (group_place skew step size) here,
    )
