use Rattle.std.proofs.Common.{inl}
use Rattle.run_stops.specs.declared.input_error.InputError.TheVariants.{Words}
use Rattle.listing_commands.proofs.Given.{words-text, words-refused}
use Rattle.listing_commands.proofs.list_file.list_words_file.Goals as goal

pub returns-in-Ok-clause-answers : goal.returns-in-Ok-clause-answers
returns-in-Ok-clause-answers c =
    words-text c.args.bytes.now c.new-content.result.items c.list_words.new.out.items c.in_ok-count.field-0 c.in-Ok.count c.new-content.ensures.items c.in-Ok.is c.in_ok-count.ensures.answer

pub returns-in-Err-clause-answers : goal.returns-in-Err-clause-answers
returns-in-Err-clause-answers c =
    inl (Words c.in-Err.refusal, words-refused c.args.bytes.now c.new-content.result.items c.list_words.new.out.items c.in_ok-count.field-0 c.in-Err.refusal c.in-Err.is c.in_ok-count.ensures.answer, c.input_stop.ensures)
