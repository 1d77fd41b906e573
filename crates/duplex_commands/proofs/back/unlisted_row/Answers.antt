use Rattle.std.proofs.Common.{Some, sym, ap, ◌∙◌, ◌+◌, cond, map, drop}
use Rattle.link_plan.specs.Listing.{numbers_of}
use Rattle.duplex_plan.specs.Views.{back_value}
use Rattle.duplex_commands.specs.Reading.{first_unlisted}
use Rattle.duplex_commands.proofs.Backs.{next_row, no_row}
use Rattle.duplex_commands.proofs.back.unlisted_row.Goals as goal

pub returns-then-not-is_one_of : goal.returns-then-not-is_one_of
returns-then-not-is_one_of c =
    sym (c.loop-row.invariant ∙ next_row (numbers_of c.args.channels.now) c.args.back.now c.loop-row.row-index c.row-item.result c.loop-row-test.true c.row-item.is
    ∙ ap (λ b. cond b (first_unlisted (numbers_of c.args.channels.now) (map back_value (drop (c.loop-row.row-index + 1) c.args.back.now))) (Some c.row-item.result.row)) (sym c.is_one_of.ensures ∙ c.if-not-is_one_of.true))

pub loop-row-preserved : goal.loop-row-preserved
loop-row-preserved c =
    c.loop-row.invariant ∙ next_row (numbers_of c.args.channels.now) c.args.back.now c.loop-row.row-index c.row-item.result c.loop-row-test.true c.row-item.is
    ∙ ap (λ b. cond b (first_unlisted (numbers_of c.args.channels.now) (map back_value (drop (c.loop-row.row-index + 1) c.args.back.now))) (Some c.row-item.result.row)) (sym c.is_one_of.ensures ∙ c.if-not-is_one_of.false)

pub returns : goal.returns
returns c = sym (c.loop-row.invariant ∙ no_row (numbers_of c.args.channels.now) c.args.back.now c.loop-row.row-index c.loop-row-test.false)
