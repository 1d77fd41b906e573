use Rattle.std.proofs.Common.{◌∙◌, ap, length, arith}
use Rattle.link_plan.specs.Plan.{plan_of}
use Rattle.link_plan.specs.Schedules.{schedule_of}
use Rattle.link_cases.specs.Case.{case_of}
use Rattle.link_cases.proofs.Drawn.{case-fits}
use Rattle.link_cases.proofs.FilesRead.{plan-text, schedule-text, captures-read}
use Rattle.link_cases.proofs.PlanRead.{plan-read}
use Rattle.link_cases.proofs.ScheduleRead.{schedule-read}
use Rattle.link_cases.proofs.Sizes.{plan-long, schedule-long, all-long}
use Rattle.link_cases.proofs.laws.cases_are_accepted.Goals as goal

pub returns-clause-plan : goal.returns-clause-plan
returns-clause-plan c number prefix h =
    let case = case_of number in
    let f = case-fits number in
    ap plan_of (plan-text prefix case.numbers (length case.channels)) ∙ plan-read prefix case.numbers (length case.channels) h f.numbers f.channels.some f.channels.few

pub returns-clause-schedule : goal.returns-clause-schedule
returns-clause-schedule c number =
    let case = case_of number in
    let f = case-fits number in
    ap (schedule_of case.numbers.lanes) (schedule-text case.skews case.flips (let e = f.marks.each_lane in let some = f.numbers.some_lanes in omega arith))
    ∙ schedule-read case.numbers.lanes case.skews case.flips f.marks f.numbers.few_lanes

pub returns-clause-captures : goal.returns-clause-captures
returns-clause-captures c number = captures-read (case_of number).channels (case-fits number).channels.each

pub returns-clause-plan_size : goal.returns-clause-plan_size
returns-clause-plan_size c number prefix h =
    let case = case_of number in
    let f = case-fits number in
    let long = plan-long prefix case.numbers (length case.channels) h f.numbers f.channels.few in omega (arith, long)

pub returns-clause-schedule_size : goal.returns-clause-schedule_size
returns-clause-schedule_size c number =
    let case = case_of number in
    let f = case-fits number in
    let long = schedule-long case.numbers.lanes case.skews case.flips f.numbers.few_lanes f.marks in omega (arith, long)

pub returns-clause-captures_size : goal.returns-clause-captures_size
returns-clause-captures_size c number = let long = all-long (case_of number).channels (case-fits number).channels in omega (arith, long)

pub returns-clause-some_channels : goal.returns-clause-some_channels
returns-clause-some_channels c number = (case-fits number).channels.some

pub returns-clause-few_channels : goal.returns-clause-few_channels
returns-clause-few_channels c number = (case-fits number).channels.few
