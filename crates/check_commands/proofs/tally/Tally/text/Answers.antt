use Rattle.check_commands.proofs.Tallies.{text_told}
use Rattle.check_commands.proofs.tally.Tally.text.Goals as goal

pub returns : goal.returns
returns c = λ told t.
    text_told told c.args.words _ _ _ _ _ c.new-text.ensures.items (c.in_ok-count_line.ensures {u = tt}).ok (c.in_ok-count_line-2.ensures {u = tt}).ok t.total (c.in_ok-put_rules.ensures {u = tt} told t.counts)
