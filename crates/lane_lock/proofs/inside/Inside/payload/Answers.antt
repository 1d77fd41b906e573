-- A payload word.
use Rattle.std.proofs.Common.{◌≡◌, refl, sym, ap, ◌∙◌, ◌+◌, ◌-◌, ◌%◌, arith}
use Rattle.std.proofs.lemmas.Bool.{ne_eqb}
use Rattle.lk_base.specs.Link.{Settings}
use Rattle.lane_model.specs.declared.role.Role.TheVariants as roles
use Rattle.lane_model.specs.Framing.{role_of}
use Rattle.lock_model.proofs.Roles.{role_payload}
use Rattle.lane_lock.specs.Inside.{InsideState, payload_number}
use Rattle.lane_lock.proofs.PayloadWords.{payload_moves, payload_next, payload_place}
use Rattle.lane_lock.proofs.inside.Inside.payload.Goals as goal

pub returns-clause-left : goal.returns-clause-left
returns-clause-left c = payload_moves c.args.self.now c.keyed.new.self c.requires c.keyed.ensures.settings c.keyed.ensures.place

pub returns-clause-counts : goal.returns-clause-counts
returns-clause-counts c legal = c.keyed.ensures.counts legal refl

pub returns-clause-role : goal.returns-clause-role
returns-clause-role c =
    let position : c.self.inside.position ≡ c.args.self.now.position = ap (λ (x : InsideState). x.position) c.self.view_is in
    let skips : c.skips.result ≡ c.args.self.now.settings.skips = c.skips.ensures ∙ ap (λ (x : InsideState). x.settings.skips) c.self.view_is in
    let number : c.self.inside.position - (c.skips.result + 2) ≡ payload_number c.args.self.now = omega (arith, position, skips) in
    c.keyed.ensures.role ∙ ap roles.Payload number

pub returns-clause-moves : goal.returns-clause-moves
returns-clause-moves c = (c.keyed.ensures.settings, payload_next c.args.self.now c.keyed.new.self c.requires c.keyed.ensures.place)

pub returns-clause-passes : goal.returns-clause-passes
returns-clause-passes c s bits at r k is =
    let v : InsideState = c.args.self.now in
    let p = payload_place v c.requires in
    let place : v.position ≡ r % s.metaframe = k.place in
    let skips : v.settings.skips ≡ s.skips = ap (λ (x : Settings). x.skips) k.of_link in
    let metaframe : v.settings.metaframe ≡ s.metaframe = ap (λ (x : Settings). x.metaframe) k.of_link in
    let position : c.self.inside.position ≡ v.position = ap (λ (x : InsideState). x.position) c.self.view_is in
    let before : c.skips.result ≡ s.skips = c.skips.ensures ∙ ap (λ (x : InsideState). x.settings.skips) c.self.view_is ∙ skips in
    let number : c.self.inside.position - (c.skips.result + 2) ≡ r % s.metaframe - (s.skips + 2) = omega (arith, position, place, before) in
    let here : r % s.metaframe ≡ s.skips + 2 + (r % s.metaframe - (s.skips + 2)) = omega (arith, p.0, place, skips) in
    let role : role_of s (r % s.metaframe) ≡ roles.Payload (r % s.metaframe - (s.skips + 2)) =
    ap (role_of s) here ∙ role_payload s (r % s.metaframe - (s.skips + 2)) (omega (arith, p.0, p.1, place, skips, metaframe)) in
    let n = ne_eqb (r % s.metaframe) (s.metaframe - 1) (λ e. omega (arith, p.1, place, metaframe, e)) in
    c.keyed.ensures.passes s bits at r k (omega (arith, p.0, place)) (role ∙ ap roles.Payload (sym number)) (sym n) is
