use Rattle.std.proofs.Common.{drop, sym, subst}
use Rattle.stream_model.specs.BurstStream.{Source, IsBurstStream}
use Rattle.tx_words.specs.Driving.{having_rows}
use Rattle.tx_words.proofs.Making.{few_made}
use Rattle.tx_words.proofs.Leftover.{asked, rows_left, source_again, all_given}
use Rattle.tx_words.proofs.word_maker.WordMaker.is_over.Goals as goal

pub is_over-requires : goal.is_over-requires
is_over-requires c =
    let (source, words, k) = c.requires in
    let m = c.args.self.now in
    (asked m.scheduler (having_rows source m.flow.now m.local.now) words m.flow_passed m.local_passed k.drives, k.drives.gives, few_made m source words k)

pub returns-clause-over : goal.returns-clause-over
returns-clause-over c source words k is =
    let m = c.args.self.now in
    let src = having_rows source m.flow.now m.local.now in
    let all = c.is_over.ensures.all (asked m.scheduler src words m.flow_passed m.local_passed k.drives) k.drives.gives is in
    subst (λ (q : Source). IsBurstStream q words) k.rows (all_given m.scheduler src words m.flow_passed m.local_passed k.drives all)

pub returns-clause-going : goal.returns-clause-going
returns-clause-going c source words k is stream =
    let m = c.args.self.now in
    let src = having_rows source m.flow.now m.local.now in
    let here = subst (λ (q : Source). IsBurstStream q words) (sym k.rows) stream in
    c.is_over.ensures.more (asked m.scheduler src words m.flow_passed m.local_passed k.drives) (drop m.flow_passed src.flow) (drop m.local_passed src.local) k.drives.gives is
    (rows_left m.scheduler src words m.flow_passed m.local_passed k.drives)
    (subst (λ (q : Source). IsBurstStream q words) (sym (source_again m.scheduler src words m.flow_passed m.local_passed k.drives)) here)
