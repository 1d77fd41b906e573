use Rattle.std.proofs.Common.{refl}
use Rattle.std.specs.Fmt.{digits}
use Rattle.lk_base.specs.Hex.{hex}
use Rattle.word_text.specs.WordLines.{fields_text}
use Rattle.word_text.proofs.laws.examples.Goals as goal

pub returns-clause-flow : goal.returns-clause-flow
unfolding hex
returns-clause-flow c = refl

pub returns-clause-idle : goal.returns-clause-idle
unfolding hex fields_text digits
returns-clause-idle c = refl

pub returns-clause-burst : goal.returns-clause-burst
unfolding hex fields_text digits
returns-clause-burst c = refl
