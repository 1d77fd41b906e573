use Rattle.std.proofs.Common.{refl, subst, [], sym, false}
use Rattle.stream_model.specs.BurstStream.{Source}
use Rattle.burst_scheduler.specs.Gives.{Gives}
use Rattle.tx_words.specs.Driving.{driven}
use Rattle.tx_words.specs.Making.{GaveWords}
use Rattle.tx_words.specs.Sources.{source_by}
use Rattle.tx_words.proofs.Steps.{begun, timed_rows}
use Rattle.tx_words.proofs.word_maker.WordMaker.new.Goals as goal

pub returns : goal.returns
returns c =
    let s = c.source.inside in
    let k = c.source.invariant.0 in
    let source : Source = source_by s.shape s.channels.now s.entries.now s.packets.now s.flow.now s.local.now in
    let scheduler = c.in_ok-scheduler.scheduler in
    let gives = subst (λ (q : Source). Gives scheduler (driven q [] 0 0 0 false false)) (sym c.source.view_is) c.in_ok-scheduler.ensures in
    subst (λ (q : Source). GaveWords (record { scheduler = scheduler; flow = s.flow; local = s.local; flow_passed = 0; local_passed = 0 }) q []) c.source.view_is
    (record {
      rows = refl;
      drives = begun scheduler source gives;
      timed = timed_rows source k.flow_in_order k.flow_low k.local_in_order k.bytes;
    })
