use Rattle.std.proofs.Common.{sym, append-nil}
use Rattle.check_commands.proofs.Tallies.{line_more}
use Rattle.check_commands.proofs.tally.put_rules.Goals as goal

pub loop-rule-init : goal.loop-rule-init
loop-rule-init c = λ told are. sym (append-nil c.args.text.now.items)

pub loop-rule-preserved : goal.loop-rule-preserved
loop-rule-preserved c = λ told are.
    line_more told c.args.rules.now c.args.counts.now c.loop-rule.rule-index _ _ c.args.text.now.items c.loop-rule.text.items c.put_rule.new.text.items c.loop-rule-test.true are c.place.ensures.place (c.loop-rule.invariant told are) (c.in_ok-put_rule.ensures {u = tt})
