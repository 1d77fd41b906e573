use Rattle.std.proofs.Common.{refl}
use Rattle.std.specs.Fmt.{digits}
use Rattle.join_commands.proofs.laws.output_names.Goals as goal

pub returns-clause-capture : goal.returns-clause-capture
unfolding digits
returns-clause-capture c = refl

pub returns-clause-two_digits : goal.returns-clause-two_digits
unfolding digits
returns-clause-two_digits c = refl

pub returns-clause-five_digits : goal.returns-clause-five_digits
unfolding digits
returns-clause-five_digits c = refl
