use Rattle.std.proofs.Common.{[], refl, arith}
use Rattle.oob_flow.proofs.Steps.{at_start}
use Rattle.oob_flow.proofs.incoming.OobIn.new.Goals as goal

pub returns : goal.returns
returns c = record {
  clock = refl;
  bits = record {
    calendar = refl;
    low = c.requires.low;
    open_bits = [];
    block = c.new.ensures;
    within = omega arith;
    not_whole = omega arith;
    ahead = at_start c.args.entries;
  };
}
