use Rattle.std.proofs.Common.{◌≡◌, ◌<◌, ◌≤◌, ℕ, Bool, List, length, take, get_or, sym, subst, inl, inr, arith}
use Rattle.std.proofs.lemmas.Bool.{cases_lt}
use Rattle.std.proofs.lemmas.List.{get_or_default}
use Rattle.stream_model.specs.declared.rows.LocalRow.{LocalRow}
use Rattle.calendar.specs.Outgoing.{last_local}
use Rattle.oob_flow.specs.Sending.{StandsOut}
use Rattle.oob_flow.proofs.Framing.{row_set}
use Rattle.oob_flow.proofs.frame_writer.set_rows.Goals as goal

pub loop-next-preserved : goal.loop-next-preserved
loop-next-preserved c =
    let n : ℕ = c.loop-next.next in
    let local : List LocalRow = c.args.local.now in
    let within : c.loop-next.next < length c.args.local.now = c.loop-next-test.true in
    let i = c.loop-next.invariant in
    record {
      further = omega (arith, i.further);
      within = omega arith;
      stands = λ entries shown s. subst (λ (f : ℕ → Bool). StandsOut c.set.new.self entries f shown 0) (row_set c.args.local.now c.loop-next.next _ within) (c.set.ensures entries (last_local (take c.loop-next.next c.args.local.now)) shown 0 (i.stands entries shown s));
      early = λ k d low high. elim (cases_lt k c.loop-next.next) [
        | inl l ↦ i.early k d low l
        | inr g ↦ (let same : k ≡ c.loop-next.next = omega arith in subst (λ (m : ℕ). (get_or c.args.local.now m d).slot ≤ c.args.begin) (sym same) (subst (λ (r : LocalRow). r.slot ≤ c.args.begin) (get_or_default c.args.local.now c.loop-next.next _ d within) c.if-row-begin.false))
      ];
    }
