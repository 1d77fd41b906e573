use Rattle.std.proofs.Common.{◌∙◌, ap, sym, map}
use Rattle.std.specs.List.{list_all}
use Rattle.std.proofs.lemmas.List.{length-map}
use Rattle.link_plan.specs.ScheduleViews.{schedule_value}
use Rattle.lane_receipts.specs.Held.{vec_bytes}
use Rattle.link_commands.proofs.ReceivedLanes.{all_few, damaged_received, hold_codes, is_few}
use Rattle.link_commands.proofs.lanes.receive_lanes.Goals as goal

pub damage_all-requires-clause-few : goal.damage_all-requires-clause-few
damage_all-requires-clause-few c = all_few c.args.sent.items (ap (list_all is_few) (sym c.deref.ensures.value) ∙ sym c.are_few.ensures ∙ c.if-not-are_few.false)

pub damage_all-requires-clause-codes : goal.damage_all-requires-clause-codes
damage_all-requires-clause-codes c = let (stream, are) = c.requires.sent in hold_codes c.args.link.now stream c.args.sent.items are

pub damage_all-requires-clause-skews : goal.damage_all-requires-clause-skews
damage_all-requires-clause-skews c = let (stream, are) = c.requires.sent in c.requires.skews ∙ sym are.one_each ∙ length-map c.args.sent.items (λ file. file.items)

pub damage_all-requires-clause-lanes : goal.damage_all-requires-clause-lanes
damage_all-requires-clause-lanes c =
    let (stream, are) = c.requires.sent in
    sym (length-map c.args.sent.items (λ file. file.items)) ∙ are.one_each ∙ sym c.lanes.ensures

pub returns-clause-are : goal.returns-clause-are
returns-clause-are c stream are = damaged_received c.args.link.now (schedule_value c.args.schedule.now) stream (map vec_bytes c.args.sent.items) (map vec_bytes c.in_ok-received.received.items) are c.in_ok-received.ensures

pub returns-clause-few : goal.returns-clause-few
returns-clause-few c = all_few c.in_ok-received.received.items (ap (list_all is_few) (sym c.deref-2.ensures.value) ∙ sym c.are_few-2.ensures ∙ c.if-not-are_few-2.false)
