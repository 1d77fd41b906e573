use Rattle.std.proofs.Common.{subst, List, take, arith}
use Rattle.std.proofs.lemmas.List.{length-take-le}
use Rattle.lk_base.specs.declared.word.Word.{Word}
use Rattle.stream_model.specs.BurstStream.{bursts_in}
use Rattle.tx_words.specs.Tallies.{AreTallies, first_tally}
use Rattle.word_list.proofs.Places.{next_is}
use Rattle.tx_words.proofs.counts.count_bursts.Goals as goal

pub count_burst-requires-clause-few : goal.count_burst-requires-clause-few
count_burst-requires-clause-few c =
    let w = c.args.words.now in
    let k = c.loop-slot.slot in
    let long = length-take-le k w (omega (arith, c.loop-slot-test.true, c.len-slot-end.ensures.value)) in
    (take k w, c.loop-slot.invariant.1, omega (arith, long, c.len-slot-end.ensures.few, c.loop-slot-test.true, c.len-slot-end.ensures.value))

pub loop-slot-preserved : goal.loop-slot-preserved
loop-slot-preserved c =
    let w = c.args.words.now in
    let k = c.loop-slot.slot in
    let next = next_is w k c.get.result (omega (arith, c.loop-slot-test.true, c.len-slot-end.ensures.value)) c.get.ensures in (
      c.count_burst.ensures.long,
      subst (λ (p : List Word). AreTallies (λ n. first_tally (bursts_in p n)) c.count_burst.new.tallies.items) next (c.count_burst.ensures.bursts (take k w) c.loop-slot.invariant.1),
    )
