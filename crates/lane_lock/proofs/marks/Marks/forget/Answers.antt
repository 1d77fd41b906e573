-- Positions whose marks are forgotten.
use Rattle.std.proofs.Common.{sym, subst, refl}
use Rattle.lane_lock.specs.Marks.{MarkList, Recalls}
use Rattle.lane_lock.proofs.MarkSteps.{recalls_none}
use Rattle.lane_lock.proofs.marks.Marks.forget.Goals as goal

pub returns : goal.returns
returns c given k =
    let v : MarkList = record { marks = c.self.inside.marks; phase = c.self.inside.phase } in
    let k' : Recalls v given = subst (λ (x : MarkList). Recalls x given) (sym c.self.view_is) k in
    recalls_none given c.args.count v _ k' refl refl
