use Rattle.std.proofs.Common.{◌≡◌, ◌∙◌, ℕ, List, map, sym, subst}
use Rattle.std.proofs.lemmas.Result.{IfOk-weaker}
use Rattle.lk_base.specs.declared.word.Word.{Word}
use Rattle.stream_model.specs.BurstStream.{Source, IsBurstStream, bursts_in}
use Rattle.tx_words.specs.Counts.{count_of}
use Rattle.tx_words.specs.Sources.{source_by}
use Rattle.tx_words.specs.Tallies.{AreTallies, first_tally, tally_of}
use Rattle.tx_words.proofs.Counting.{all_counted, counted, fit_packets}
use Rattle.tx_words.proofs.counts.count_bursts_by.Goals as goal

pub with_packets-tallies-requires-clause-fit : goal.with_packets-tallies-requires-clause-fit
with_packets-tallies-requires-clause-fit c = let a = c.source.inside in fit_packets a.channels.now a.packets.now c.source.invariant.1 c.source.invariant.0.listed

pub with_packets-tallies-requires-clause-bytes : goal.with_packets-tallies-requires-clause-bytes
with_packets-tallies-requires-clause-bytes c = c.source.invariant.0.bytes

pub with_packets-tallies-requires-clause-first : goal.with_packets-tallies-requires-clause-first
with_packets-tallies-requires-clause-first c = let (words, are) = c.requires.bursts in (bursts_in words, are)

pub returns : goal.returns
returns c =
    let a = c.source.inside in
    let source : Source = source_by a.shape a.channels.now a.entries.now a.packets.now a.flow.now a.local.now in
    IfOk-weaker c.counts_by.result _ _ (λ counts is. subst (λ (q : Source). (words : List Word) → AreTallies (λ n. first_tally (bursts_in words n)) c.args.bursts.items → IsBurstStream q words → counts.items ≡ map (count_of q words) q.channels) c.source.view_is
    (λ words bursts stream.
    let n : ℕ → ℕ = bursts_in words in
    let are = subst (AreTallies (λ k. tally_of a.shape.burst_max k (n k) a.packets.now)) (sym c.deref.ensures.value) (c.with_packets-tallies.ensures.tallies n bursts) in
    is ∙ all_counted source words (λ k. tally_of a.shape.burst_max k (n k) a.packets.now) c.deref.result.now a.channels.now are c.source.invariant.1
    (λ k. counted a.shape a.channels.now a.entries.now a.packets.now a.flow.now a.local.now words k c.source.invariant.0.sized stream))) c.counts_by.ensures
