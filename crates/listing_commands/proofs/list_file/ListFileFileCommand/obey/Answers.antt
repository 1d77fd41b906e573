use Rattle.std.proofs.Common.{subst, List, ℕ, Ok, Err}
use Rattle.std.proofs.lemmas.Result.{err_from_is_err_and}
use Rattle.listing_commands.specs.Conversion.{Gives}
use Rattle.listing_commands.specs.Listing.{is_words_name, IsTextOf, RefusesListed, listing_of}
use Rattle.listing_commands.proofs.Converting.{reading_stops, answer_stops, writes_comes, writes_leaves}
use Rattle.listing_commands.proofs.Conversions.{lists, list_means}
use Rattle.listing_commands.proofs.list_file.ListFileFileCommand.obey.Goals as goal

pub returns-in_err-bytes-clause-lawful : goal.returns-in_err-bytes-clause-lawful
returns-in_err-bytes-clause-lawful g c = list_means c.args.file.now

pub returns-in_err-made-clause-lawful : goal.returns-in_err-made-clause-lawful
returns-in_err-made-clause-lawful g c = list_means c.args.file.now

pub returns-clause-lawful : goal.returns-clause-lawful
returns-clause-lawful g c = list_means c.args.file.now

pub returns-in_err-bytes-clause-comes : goal.returns-in_err-bytes-clause-comes
returns-in_err-bytes-clause-comes g c =
    let p = err_from_is_err_and c.from_residual.result c.from_residual.ensures.1 in
    rw (p.1, p.2) (reading_stops (listing_of c.args.file.now) c.in_err-bytes.field-0.0 _ _ c.in_err-bytes.ensures.unchanged c.in_err-bytes.ensures.reads)

pub returns-in_err-made-clause-comes : goal.returns-in_err-made-clause-comes
returns-in_err-made-clause-comes g c =
    let name = c.args.file.now in
    let r = c.from_residual-in_err-made in
    let p = err_from_is_err_and r.result r.ensures.1 in
    rw (p.1, p.2) (answer_stops (listing_of name) c.in_ok-bytes.bytes.items c.in_err-made.field-0.0 _ _ c.in_ok-bytes.ensures.unchanged c.in_ok-bytes.ensures.reads
    (subst (λ (bs : List ℕ). Gives name (IsTextOf (is_words_name name) bs) (RefusesListed (is_words_name name) bs) (Err c.in_err-made.field-0.0)) c.deref.ensures.value c.in_err-made.ensures.answers))

pub returns-clause-comes : goal.returns-clause-comes
returns-clause-comes g c =
    let name = c.args.file.now in
    let made = c.in_ok-made.made in
    writes_comes (listing_of name) c.in_ok-bytes.bytes.items (lists name) made.content.items made.count
    (subst (λ (bs : List ℕ). Gives name (IsTextOf (is_words_name name) bs) (RefusesListed (is_words_name name) bs) (Ok made)) c.deref.ensures.value c.in_ok-made.ensures.answers)
    c.write_made.result _ _ _ c.in_ok-bytes.ensures.unchanged c.in_ok-bytes.ensures.reads c.write_made.ensures.writes

pub returns-clause-others : goal.returns-clause-others
returns-clause-others g c =
    let name = c.args.file.now in
    let made = c.in_ok-made.made in
    writes_leaves (listing_of name) c.in_ok-bytes.bytes.items (lists name) made.content.items made.count
    (subst (λ (bs : List ℕ). Gives name (IsTextOf (is_words_name name) bs) (RefusesListed (is_words_name name) bs) (Ok made)) c.deref.ensures.value c.in_ok-made.ensures.answers)
    c.write_made.result _ _ _ c.in_ok-bytes.ensures.unchanged c.in_ok-bytes.ensures.reads c.write_made.ensures.writes
