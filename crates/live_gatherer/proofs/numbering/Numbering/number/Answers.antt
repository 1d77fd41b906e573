-- One item more is counted.
use Rattle.live_gatherer.proofs.Numberings.{counted_so, numbered_so}
use Rattle.live_gatherer.proofs.numbering.Numbering.number.Goals as goal

pub returns-clause-counts : goal.returns-clause-counts
returns-clause-counts c = λ items k. counted_so c.args.self.now items k c.args.item c.saturating_add-number.result c.saturating_add-self.result c.word_count.result c.is_break-self.result
    (numbered_so c.args.self.now items k _ c.saturating_add-number.result c.between_count.ensures c.saturating_add-number.ensures) c.word_count.ensures c.saturating_add-self.ensures c.is_break-self.ensures
