-- The stretch goes on with the words.
use Rattle.std.proofs.Common.{sym, ◌∙◌}
use Rattle.reassembly.proofs.Folds.{data-off, data-on}
use Rattle.reassembly.proofs.stretch.Stretch.data_all.Goals as goal

pub returns-then-is_some : goal.returns-then-is_some
returns-then-is_some c =
    let s = c.args.self.now in
    rw (c.crc24_words-self.ensures, c.is_empty.ensures) (data-on c.args.words.now s.opened s.register s.some s.bad (sym c.is_some.ensures ∙ c.if-is_some.true))

pub returns-else-is_some : goal.returns-else-is_some
returns-else-is_some c = data-off c.args.words.now c.args.self.now (sym c.is_some.ensures ∙ c.if-is_some.false)
