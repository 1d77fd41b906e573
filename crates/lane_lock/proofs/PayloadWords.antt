-- How many payload words come next.
use Rattle.std.proofs.Common.{ℕ, ◌≡◌, refl, ◌∙◌, ◌+◌, ◌-◌, ◌<◌, ◌≤◌, cond, nat_le, Bool, true, false, arith}
use Rattle.std.proofs.lemmas.Bool.{le-leb, leb-true, ne_eqb}
use Rattle.lane_lock.specs.Inside.{InsideState, is_last, payload_number, payloads_left}
use Rattle.lane_lock.specs.Watch.{WatchState, payloads_ahead}

pub some_where : (b : Bool) (n : ℕ) → 1 ≤ cond b n 0 → (b ≡ true) × (1 ≤ n)
some_where true n h = (refl, h)
some_where false n h = absurd (omega (arith, h))

pub payload_place : (v : InsideState) → 1 ≤ payloads_left v → (v.settings.skips + 2 ≤ v.position) × (v.position + 1 < v.settings.metaframe)
payload_place v h =
    let p = some_where (nat_le (v.settings.skips + 2) v.position) (v.settings.metaframe - 1 - v.position) h in
    (leb-true (v.settings.skips + 2) v.position p.0, omega (arith, p.1))

-- after one of them
pub payload_moves : (v w : InsideState) → 1 ≤ payloads_left v → w.settings ≡ v.settings → w.position ≡ cond (is_last v) 0 (v.position + 1) → payloads_left v ≡ payloads_left w + 1
payload_moves v w h e f =
    let p = payload_place v h in
    let n = ne_eqb (v.position + 1) v.settings.metaframe (λ e. omega (arith, p.1, e)) in
    let g : w.position ≡ v.position + 1 = f ∙ rw n refl in
    let a = le-leb (v.settings.skips + 2) v.position p.0 in
    let b = le-leb (v.settings.skips + 2) (v.position + 1) (omega (arith, p.0)) in
    rw (e, g, a, b) (omega (arith, p.1))

pub payload_next : (v w : InsideState) → 1 ≤ payloads_left v → w.position ≡ cond (is_last v) 0 (v.position + 1) → w.position ≡ v.position + 1
payload_next v w h f =
    let p = payload_place v h in
    let n = ne_eqb (v.position + 1) v.settings.metaframe (λ e. omega (arith, p.1, e)) in
    f ∙ rw n refl

pub number_next : (v w : InsideState) → 1 ≤ payloads_left v → w.settings ≡ v.settings → w.position ≡ v.position + 1 → payload_number w ≡ payload_number v + 1
number_next v w h e f =
    let p = payload_place v h in
    rw (e, f) (omega (arith, p.0))

pub ahead_inside : (v : WatchState) → 1 ≤ payloads_ahead v → (v.declared ≡ true) × (1 ≤ payloads_left v.inside)
ahead_inside v h = some_where v.declared (payloads_left v.inside) h

pub ahead_moves : (v w : WatchState) → 1 ≤ payloads_ahead v → w.declared ≡ v.declared → payloads_left v.inside ≡ payloads_left w.inside + 1 → payloads_ahead v ≡ payloads_ahead w + 1
ahead_moves v w h e f =
    let p = ahead_inside v h in
    rw (e, p.0) f
