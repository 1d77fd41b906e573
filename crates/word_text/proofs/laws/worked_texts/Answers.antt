use Rattle.word_text.proofs.WorkedTexts.{one-data-word, one-byte, nothing, second-spelling, one-sync}
use Rattle.word_text.proofs.laws.worked_texts.Goals as goal

pub returns-clause-one_data_word : goal.returns-clause-one_data_word
returns-clause-one_data_word c = one-data-word

pub returns-clause-one_byte : goal.returns-clause-one_byte
returns-clause-one_byte c = one-byte

pub returns-clause-nothing : goal.returns-clause-nothing
returns-clause-nothing c = nothing

pub returns-clause-second_spelling : goal.returns-clause-second_spelling
returns-clause-second_spelling c = second-spelling

pub returns-clause-one_sync : goal.returns-clause-one_sync
returns-clause-one_sync c = one-sync
