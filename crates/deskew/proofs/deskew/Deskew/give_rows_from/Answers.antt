-- All rows that were counted.
use Rattle.std.proofs.Common.{ℕ, ◌≡◌, sym, ap, ◌∙◌, subst, ◌+◌, ◌*◌, ◌/◌, ◌%◌, false, List, arith}
use Rattle.deskew.specs.declared.phase.Phase.{Phase}
use Rattle.deskew.specs.declared.phase.Phase.TheVariants as phases
use Rattle.deskew.specs.States.{LaneState, State}
use Rattle.deskew.specs.Turns.{IsTurn}
use Rattle.deskew.specs.Blocks.{AllRows, IsCount, rows_at}
use Rattle.deskew.proofs.Rows.{all_rows, rows_place}
use Rattle.deskew.proofs.deskew.Deskew.give_rows_from.Goals as goal

pub invariant_of-self : goal.invariant_of-self
invariant_of-self c =
    let i = c.self.invariant in
    let link = c.self.inside.link in
    let index = c.args.index in
    let count = c.count_rows-count.result in
    let phase : c.self.inside.phase ≡ phases.Inside index = ap (λ (d : State). d.phase) c.self.view_is ∙ c.requires in
    let turns : IsTurn link (phases.Inside index) c.self.inside.turn c.self.inside.after = subst (λ (p : Phase). IsTurn link p c.self.inside.turn c.self.inside.after) phase i.4 in
    let behind : c.after_sync-after.result ≡ link.skips + 2 + index / link.lanes = c.after_sync-after.ensures ∙ ap (λ (d : State). d.settings.skips + 2 + index / d.settings.lanes) (sym c.self.view_is) in
    let next = rows_place index link.lanes count i.2 in
    let q = next.1 in
    let lanes = c.lanes.ensures in (
      i.0,
      i.1,
      i.2,
      i.3,
      (
        turns.0 ∙ sym next.0 ∙ ap (λ (n : ℕ). (index + count * n) % link.lanes) (sym lanes),
        (let e : c.after_sync-after.result + count ≡ link.skips + 2 + (index + count * link.lanes) / link.lanes = omega (arith, behind, q) in e)
            ∙ ap (λ (n : ℕ). link.skips + 2 + (index + count * n) / link.lanes) (sym lanes),
      ),
    )

pub returns-clause-rows : goal.returns-clause-rows
returns-clause-rows c =
    let i = c.self.invariant in
    let link = c.self.inside.link in
    let index = c.args.index in
    let count = c.count_rows-count.result in
    let none = c.if-count-eq0.false in
    let held : State = record { settings = link; lanes = c.self.inside.lanes.items; phase = c.self.inside.phase; settled = c.self.inside.settled } in
    let after : State = record { settings = link; lanes = c.self.inside.lanes.items; phase = phases.Inside (index + count * c.lanes.result); settled = false } in
    let phase : c.self.inside.phase ≡ phases.Inside index = ap (λ (d : State). d.phase) c.self.view_is ∙ c.requires in
    let behind : c.after_sync-after.result ≡ link.skips + 2 + index / link.lanes = c.after_sync-after.ensures ∙ ap (λ (d : State). d.settings.skips + 2 + index / d.settings.lanes) (sym c.self.view_is) in
    let counted : IsCount c.args.block.now.room count index held =
    subst (λ (n : ℕ). IsCount n count index held) c.room.ensures (subst (λ (d : State). IsCount c.room.result count index d) (sym c.self.view_is) c.count_rows-count.ensures.count) in
    let items : c.push_rows.new.block.words ≡ rows_at c.after_sync-after.result count c.self.inside.lanes.items =
    c.push_rows.ensures.words ∙ ap (λ (ls : List LaneState). rows_at c.after_sync-after.result count ls) c.deref.ensures.value in
    subst (λ (d : State). AllRows c.args.block.now.room d c.push_rows.new.block.words after) c.self.view_is
    (all_rows c.args.block.now.room count index c.after_sync-after.result held after c.push_rows.new.block.words phase i.0 i.2 behind counted (omega (arith, none)) items
    (ap (λ (n : ℕ). record { settings = link; lanes = c.self.inside.lanes.items; phase = phases.Inside (index + count * n); settled = false }) c.lanes.ensures))
