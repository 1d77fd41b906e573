use Rattle.std.proofs.Common.{refl, arith}
use Rattle.word_rules.proofs.Making.{unused_bursts, unused_listed}
use Rattle.word_rules.proofs.checker.Checker.new.Goals as goal

pub returns : goal.returns
returns c = record {
  limits = refl;
  entries = refl;
  few = c.requires;
  before = c.new-2.ensures;
  bads = omega arith;
  all = c.in_ok-kept.ensures.all;
  bursts = unused_bursts c.in_ok-kept.kept.items c.args.plan.now.channels.now c.args.plan.now.limits.max_packet c.args.plan.now.limits.wide c.in_ok-kept.ensures.fresh;
  listed = unused_listed c.in_ok-kept.kept.items c.args.plan.now.channels.now c.in_ok-kept.ensures.fresh;
  due = c.new-3.ensures;
  flow = c.in_ok-flow.ensures 0;
}
