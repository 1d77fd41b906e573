use Rattle.std.proofs.Common.{◌∙◌, ap, refl, map, replicate, string_bytes, Some}
use Rattle.std.proofs.lemmas.Result.{err_from_is_err_and}
use Rattle.link_plan.specs.Views.{plan_value}
use Rattle.lane_receipts.proofs.Beginnings.{names_count}
use Rattle.gather_commands.proofs.GatherRun.{broken, no_output, written}
use Rattle.gather_commands.proofs.gather.gather_open.Goals as goal

pub gather_all-requires-clause-names : goal.gather_all-requires-clause-names
gather_all-requires-clause-names g c =
    let plan = c.args.read.now.plan in
    let lanes = c.args.lanes.now.lanes in
    names_count string_bytes lanes.names.now (plan_value plan).out plan.link.lanes c.requires.names

pub gather_all-requires-clause-offsets : goal.gather_all-requires-clause-offsets
gather_all-requires-clause-offsets g c =
    let plan = c.args.read.now.plan in
    let lanes = c.args.lanes.now.lanes in
    c.requires.offsets ∙ ap (λ n. replicate n (Some 0)) (names_count string_bytes lanes.names.now (plan_value plan).out plan.link.lanes c.requires.names)

pub gather_all-requires-clause-apart : goal.gather_all-requires-clause-apart
gather_all-requires-clause-apart g c =
    let plan = c.args.read.now.plan in
    let lanes = c.args.lanes.now.lanes in
    let (was, at) = c.requires.gathering in
    no_output plan (plan_value plan).out was refl (map string_bytes lanes.names.now) c.requires.names lanes.buffers.items c.requires.buffers.many c.requires.fresh c.args.gatherer.now _ at

pub gather_all-requires-clause-gathering : goal.gather_all-requires-clause-gathering
gather_all-requires-clause-gathering g c =
    let (was, at) = c.requires.gathering in
    ((plan_value c.args.read.now.plan).out, was, at)

pub returns-in_err-text-clause-others : goal.returns-in_err-text-clause-others
returns-in_err-text-clause-others g c was at =
    let plan = c.args.read.now.plan in
    let lanes = c.args.lanes.now.lanes in
    (broken plan (plan_value plan).out was refl (map string_bytes lanes.names.now) c.requires.names lanes.buffers.items c.requires.buffers.many c.requires.fresh c.in_err-text.field-0.0 _ (c.in_err-text.ensures.takes (plan_value plan).out was at)).others

pub returns-in_err-text-clause-fills : goal.returns-in_err-text-clause-fills
returns-in_err-text-clause-fills g c =
    let plan = c.args.read.now.plan in
    let lanes = c.args.lanes.now.lanes in
    let p = err_from_is_err_and c.from_residual.result c.from_residual.ensures.1 in
    rw (p.1, p.2) (λ was at. (broken plan (plan_value plan).out was refl (map string_bytes lanes.names.now) c.requires.names lanes.buffers.items c.requires.buffers.many c.requires.fresh c.in_err-text.field-0.0 _ (c.in_err-text.ensures.takes (plan_value plan).out was at)).fills)

pub finish-requires-clause-has : goal.finish-requires-clause-has
finish-requires-clause-has g c =
    let (was, at) = c.requires.gathering in
    let out = (plan_value c.args.read.now.plan).out in
    let all = c.in_ok-text.ensures.takes out was at in
    (out, all.taken.items, was, all.taken.gathered)

pub returns-clause-others : goal.returns-clause-others
returns-clause-others g c was at =
    let plan = c.args.read.now.plan in
    let lanes = c.args.lanes.now.lanes in
    let out = (plan_value plan).out in
    let all = c.in_ok-text.ensures.takes out was at in
    let (reports, counted, text, each) = c.in_ok-text.ensures.lines in
    (written plan (plan_value plan).out was refl (map string_bytes lanes.names.now) c.requires.names lanes.buffers.items c.requires.buffers.many c.requires.fresh c.gather_all.new.gatherer _ all reports counted each
    c.in_ok-text.text.items c.finish.result _ text (c.finish.ensures.writes out all.taken.items was all.taken.gathered)).others

pub returns-clause-fills : goal.returns-clause-fills
returns-clause-fills g c was at =
    let plan = c.args.read.now.plan in
    let lanes = c.args.lanes.now.lanes in
    let out = (plan_value plan).out in
    let all = c.in_ok-text.ensures.takes out was at in
    let (reports, counted, text, each) = c.in_ok-text.ensures.lines in
    (written plan (plan_value plan).out was refl (map string_bytes lanes.names.now) c.requires.names lanes.buffers.items c.requires.buffers.many c.requires.fresh c.gather_all.new.gatherer _ all reports counted each
    c.in_ok-text.text.items c.finish.result _ text (c.finish.ensures.writes out all.taken.items was all.taken.gathered)).fills
