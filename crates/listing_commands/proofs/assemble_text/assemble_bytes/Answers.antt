use Rattle.std.proofs.Common.{inl, refl}
use Rattle.run_stops.specs.declared.input_error.InputError.TheVariants.{Text}
use Rattle.listing_commands.proofs.Given.{text-refused}
use Rattle.listing_commands.proofs.assemble_text.assemble_bytes.Goals as goal

pub returns-in-Err-clause-answers : goal.returns-in-Err-clause-answers
returns-in-Err-clause-answers c =
    let refused = text-refused c.args.text.now c.new-content.result.items c.assemble.new.out.items c.in_ok-assemble.field-0 c.in-Err.refusal c.in-Err.is c.in_ok-assemble.ensures.answer in
    inl (Text c.in-Err.refusal, (c.in-Err.refusal, refused, refl), c.input_stop.ensures)
