use Rattle.std.proofs.Common.{refl}
use Rattle.oob_flow.proofs.Going.{zero_or_valid}
use Rattle.oob_flow.proofs.Invalid.{ends_counting}
use Rattle.oob_flow.proofs.laws.a_wrong_block_is_an_invalid_word.Goals as goal

pub returns-clause-invalid : goal.returns-clause-invalid
returns-clause-invalid c = refl

pub returns-clause-ends_counting : goal.returns-clause-ends_counting
returns-clause-ends_counting c = ends_counting

pub returns-clause-words : goal.returns-clause-words
returns-clause-words c = zero_or_valid
