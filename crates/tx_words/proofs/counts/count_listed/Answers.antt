use Rattle.std.proofs.Common.{◌≡◌, ◌∙◌, ℕ, List, map, sym, subst}
use Rattle.std.proofs.lemmas.Result.{IfOk-weaker}
use Rattle.lk_base.specs.declared.word.Word.{Word}
use Rattle.stream_model.specs.BurstStream.{Source, IsBurstStream}
use Rattle.tx_words.specs.Counts.{count_of}
use Rattle.tx_words.specs.Sent.{AreSent}
use Rattle.tx_words.specs.Sources.{source_by}
use Rattle.tx_words.specs.Tallies.{AreTallies, ended_in, tally_of}
use Rattle.tx_words.proofs.Counting.{all_counted, fit_packets}
use Rattle.tx_words.proofs.ListedCounts.{counted_listed, sent_low}
use Rattle.tx_words.proofs.counts.count_listed.Goals as goal

pub count_ended-requires : goal.count_ended-requires
count_ended-requires c = let (words, are) = c.requires in record { low = sent_low words c.args.sent.now are }

pub with_packets-tallies-requires-clause-fit : goal.with_packets-tallies-requires-clause-fit
with_packets-tallies-requires-clause-fit c = let a = c.source.inside in fit_packets a.channels.now a.packets.now c.source.invariant.1 c.source.invariant.0.listed

pub with_packets-tallies-requires-clause-bytes : goal.with_packets-tallies-requires-clause-bytes
with_packets-tallies-requires-clause-bytes c = c.source.invariant.0.bytes

pub with_packets-tallies-requires-clause-first : goal.with_packets-tallies-requires-clause-first
with_packets-tallies-requires-clause-first c = ((λ k. ended_in k c.args.sent.now), c.in_ok-ended.ensures.ended)

pub returns : goal.returns
returns c =
    let a = c.source.inside in
    let source : Source = source_by a.shape a.channels.now a.entries.now a.packets.now a.flow.now a.local.now in
    let sent = c.args.sent.now in
    let n : ℕ → ℕ = λ k. ended_in k sent in
    let are = subst (AreTallies (λ k. tally_of 262144 k (n k) a.packets.now)) (sym c.deref.ensures.value) (c.with_packets-tallies.ensures.tallies n c.in_ok-ended.ensures.ended) in
    IfOk-weaker c.counts_by.result _ _ (λ counts is. subst (λ (q : Source). (words : List Word) → IsBurstStream q words → AreSent words sent → counts.items ≡ map (count_of q words) q.channels) c.source.view_is
    (λ words stream listed.
    is ∙ all_counted source words (λ k. tally_of 262144 k (n k) a.packets.now) c.deref.result.now a.channels.now are c.source.invariant.1
    (λ k. counted_listed a.shape a.channels.now a.entries.now a.packets.now a.flow.now a.local.now words sent k c.source.invariant.0.sized stream listed))) c.counts_by.ensures
