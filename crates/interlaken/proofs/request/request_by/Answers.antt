use Rattle.std.proofs.Common.{◌≡◌, ◌∙◌, sym, ap, Some}
use Rattle.command_words.specs.Table.{shown, rows, row_in}
use Rattle.command_words.specs.CommandLine.{arguments_in}
use Rattle.interlaken.proofs.Rules.{given_to}
use Rattle.interlaken.proofs.request.request_by.Goals as goal

pub request_for-requires : goal.request_for-requires
request_for-requires c =
    let word = c.args.line.now.command.now in
    let row : row_in rows word ≡ Some (shown c.in_ok-row.row) = sym (c.in_ok-row.ensures ∙ ap (λ table. row_in table word) c.rows.ensures) in
    given_to word (shown c.in_ok-row.row) (arguments_in c.args.line.now) c.in_ok-arguments.arguments row (sym c.in_ok-arguments.ensures)
