use Rattle.interlaken.proofs.Lawful.{lawful}
use Rattle.interlaken.proofs.laws.one_outcome.Goals as goal

pub returns : goal.returns
returns c = record {
  one = λ words. (lawful words).one_outcome;
  some = λ words. (lawful words).some_outcome;
  cause = λ words. (lawful words).one_cause;
}
