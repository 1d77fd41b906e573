-- The lock takes the codes, and none unbalances it.
use Rattle.std.proofs.Common.{ℕ, ◌≡◌, ◌∙◌, sym, ap, subst, arith, Option, []}
use Rattle.std.specs.Prelude.{ℤ}
use Rattle.lane_model.specs.LaneBits.{bits_of_codes}
use Rattle.lane_events.specs.Balance.{balance_over}
use Rattle.lane_events.specs.Inspection.{GoesOn, InspectorView}
use Rattle.lane_events.specs.Steps.{unbalances}
use Rattle.lane_events.proofs.PassedCodes.{inspects_at, last_window, passes_all}
use Rattle.lane_events.proofs.inspector.LaneInspector.passes_codes.Goals as goal

pub returns-clause-goes_on : goal.returns-clause-goes_on
returns-clause-goes_on c is =
    let codes = c.args.codes.now in
    let i = c.self.inside in
    let l = c.take_codes.new.self in
    let value : c.balance_over-after.result ≡ balance_over i.balance codes = c.balance_over-after.ensures.value in
    let window = last_window codes 6 i.window (let n = c.told-codes in omega (arith, n)) ∙ sym c.last_of-self-inside.ensures in
    subst (λ (v : InspectorView). GoesOn v (inspects_at l c.last_of-self-inside.result c.balance_over-after.result i.counted) (bits_of_codes codes) []) c.self.view_is
    (subst (λ (b : Option ℤ). GoesOn (inspects_at i.lock i.window i.balance i.counted) (inspects_at l c.last_of-self-inside.result b i.counted) (bits_of_codes codes) []) (sym value)
    (subst (λ (x : ℕ). GoesOn (inspects_at i.lock i.window i.balance i.counted) (inspects_at l x (balance_over i.balance codes) i.counted) (bits_of_codes codes) []) window
    (passes_all codes i.lock l i.window i.balance i.counted (c.take_codes.ensures.stands c.if-not-take_codes.false) c.requires.codes (sym (ap (unbalances i.balance) value) ∙ sym c.unbalances.ensures ∙ c.if-unbalances.false))))
