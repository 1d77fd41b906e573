use Rattle.std.proofs.Common.{[], refl, arith}
use Rattle.stream_commands.proofs.words_maker.WordsMaker.new.Goals as goal

pub returns-clause-fresh : goal.returns-clause-fresh
returns-clause-fresh c =
    let m = c.in_ok-bytes.ensures.len in
    record {
      room = omega (arith, m);
      maker = c.in_ok-words.words;
      there = refl;
      made = [];
      streams = c.in_ok-words.ensures;
      is = refl;
    }
