use Rattle.std.proofs.Common.{subst, List, ℕ, Ok, Err}
use Rattle.std.proofs.lemmas.Result.{err_from_is_err_and}
use Rattle.listing_commands.specs.Conversion.{Gives}
use Rattle.listing_commands.specs.Assembling.{IsFileOfText, RefusesText, assembling_of}
use Rattle.listing_commands.proofs.Converting.{reading_stops, answer_stops, writes_comes, writes_leaves}
use Rattle.listing_commands.proofs.Conversions.{assembles, assemble_means}
use Rattle.listing_commands.proofs.assemble_text.AssembleTextFileCommand.obey.Goals as goal

pub returns-in_err-text-clause-lawful : goal.returns-in_err-text-clause-lawful
returns-in_err-text-clause-lawful g c = assemble_means c.args.file.now

pub returns-in_err-made-clause-lawful : goal.returns-in_err-made-clause-lawful
returns-in_err-made-clause-lawful g c = assemble_means c.args.file.now

pub returns-clause-lawful : goal.returns-clause-lawful
returns-clause-lawful g c = assemble_means c.args.file.now

pub returns-in_err-text-clause-comes : goal.returns-in_err-text-clause-comes
returns-in_err-text-clause-comes g c =
    let p = err_from_is_err_and c.from_residual.result c.from_residual.ensures.1 in
    rw (p.1, p.2) (reading_stops (assembling_of c.args.file.now) c.in_err-text.field-0.0 _ _ c.in_err-text.ensures.unchanged c.in_err-text.ensures.reads)

pub returns-in_err-made-clause-comes : goal.returns-in_err-made-clause-comes
returns-in_err-made-clause-comes g c =
    let name = c.args.file.now in
    let r = c.from_residual-in_err-made in
    let p = err_from_is_err_and r.result r.ensures.1 in
    rw (p.1, p.2) (answer_stops (assembling_of name) c.in_ok-text.text.items c.in_err-made.field-0.0 _ _ c.in_ok-text.ensures.unchanged c.in_ok-text.ensures.reads
    (subst (λ (bs : List ℕ). Gives name (IsFileOfText bs) (RefusesText bs) (Err c.in_err-made.field-0.0)) c.deref.ensures.value c.in_err-made.ensures.answers))

pub returns-clause-comes : goal.returns-clause-comes
returns-clause-comes g c =
    let name = c.args.file.now in
    let made = c.in_ok-made.made in
    writes_comes (assembling_of name) c.in_ok-text.text.items (assembles name) made.content.items made.count
    (subst (λ (bs : List ℕ). Gives name (IsFileOfText bs) (RefusesText bs) (Ok made)) c.deref.ensures.value c.in_ok-made.ensures.answers)
    c.write_made.result _ _ _ c.in_ok-text.ensures.unchanged c.in_ok-text.ensures.reads c.write_made.ensures.writes

pub returns-clause-others : goal.returns-clause-others
returns-clause-others g c =
    let name = c.args.file.now in
    let made = c.in_ok-made.made in
    writes_leaves (assembling_of name) c.in_ok-text.text.items (assembles name) made.content.items made.count
    (subst (λ (bs : List ℕ). Gives name (IsFileOfText bs) (RefusesText bs) (Ok made)) c.deref.ensures.value c.in_ok-made.ensures.answers)
    c.write_made.result _ _ _ c.in_ok-text.ensures.unchanged c.in_ok-text.ensures.reads c.write_made.ensures.writes
