use Rattle.std.proofs.Common.{◌*◌, length, sym, subst, refl}
use Rattle.link_plan.specs.ScheduleViews.{schedule_value}
use Rattle.damage_commands.specs.Damage.{IsArrived}
use Rattle.damage_commands.proofs.Arrived.{all_arrived}
use Rattle.damage_commands.proofs.lane_maker.received_lane.Goals as goal

pub told_of-told-requires-clause-received : goal.told_of-told-requires-clause-received
told_of-told-requires-clause-received c =
    let schedule = schedule_value c.args.schedule.now in
    let sent = c.args.sent.now in
    subst (IsArrived schedule c.args.number sent) (sym c.deref.ensures.value) (all_arrived schedule c.args.number sent c.in_ok-received.received.items (8 * length sent) refl c.in_ok-received.ensures)

pub returns-clause-arrived : goal.returns-clause-arrived
returns-clause-arrived c =
    let sent = c.args.sent.now in
    all_arrived (schedule_value c.args.schedule.now) c.args.number sent c.in_ok-received.received.items (8 * length sent) refl c.in_ok-received.ensures
