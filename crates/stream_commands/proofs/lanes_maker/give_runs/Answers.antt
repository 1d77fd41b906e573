use Rattle.std.proofs.Common.{◌≡◌, ◌+◌, ◌∙◌, ℕ, length, take, refl, sym, subst, arith}
use Rattle.std.proofs.lemmas.List.{length-take-le}
use Rattle.tx_end.specs.Sending.{sending}
use Rattle.run_shell.specs.Rests.{join, rests_of}
use Rattle.run_shell.proofs.OutputNames.{as_many_opens}
use Rattle.run_shell.proofs.Rests.{join_given}
use Rattle.stream_commands.specs.Making.{GaveLanes, HasLanes}
use Rattle.stream_commands.proofs.LanesSent.{all_gave, run_gave}
use Rattle.stream_commands.proofs.lanes_maker.give_runs.Goals as goal

same_count : (n : ℕ) → n + 0 ≡ n
same_count n = omega arith

regroup : (n a b : ℕ) → n + a + b ≡ n + (a + b)
regroup n a b = omega arith

pub loop-count-init : goal.loop-count-init
loop-count-init c = record {
  names = refl;
  places = refl;
  has = λ s source n done h. subst (λ (m : ℕ). HasLanes c.args.transmitter.now m s source done c.args.outputs.now) (sym (same_count n)) h;
}

pub next_run-requires : goal.next_run-requires
next_run-requires c =
    let (s, source, n, done, h) = c.requires in
    let (long, g) = c.loop-count.invariant.has s source n done h in
    let places : length c.loop-count.block ≡ 4096 = c.loop-count.invariant.places in
    record { sends = (sending s source g.words g.outs, g.sends); room = omega (arith, places) }

pub returns-in_default-clause-none : goal.returns-in_default-clause-none
returns-in_default-clause-none c = λ s source n done h.
    let (long, g) = c.loop-count.invariant.has s source n done h in
    let all = c.next_run.ensures.none (sending s source g.words g.outs) g.sends c.in_default.is in
    all_gave c.loop-count.transmitter (n + c.loop-count.count) s source _ g c.next_run.new.self all.0 all.1 all.2

pub slice_bounds-block-end : goal.slice_bounds-block-end
slice_bounds-block-end c =
    let (s, source, n, done, h) = c.requires in
    let (long, g) = c.loop-count.invariant.has s source n done h in
    let next = c.in-Some.ensures.some (sending s source g.words g.outs) c.in-Some.taken g.sends refl in
    let most = next.2.2 in
    omega (arith, most, c.next_run.ensures.long)

pub slice_bounds-give-end : goal.slice_bounds-give-end
slice_bounds-give-end c =
    let (s, source, n, done, h) = c.requires in
    let (long, g) = c.loop-count.invariant.has s source n done h in
    let next = c.in-Some.ensures.some (sending s source g.words g.outs) c.in-Some.taken g.sends refl in
    let most = next.2.2 in
    sym (length-take-le c.in-Some.taken.count c.next_run.new.block (omega (arith, most, c.next_run.ensures.long)))

pub give-requires : goal.give-requires
give-requires c =
    let (s, source, n, done, h) = c.requires in
    let (long, g) = c.loop-count.invariant.has s source n done h in
    let next = c.in-Some.ensures.some (sending s source g.words g.outs) c.in-Some.taken g.sends refl in
    let there = next.2.0 in
    omega (arith, there, long)

pub overflow_add-count : goal.overflow_add-count
overflow_add-count c =
    let (s, source, n, done, h) = c.requires in
    let (long, g) = c.loop-count.invariant.has s source n done h in
    let next = c.in-Some.ensures.some (sending s source g.words g.outs) c.in-Some.taken g.sends refl in
    let most = next.2.2 in
    let places : length c.loop-count.block ≡ 4096 = c.loop-count.invariant.places in
    let low = c.loop-count-test.true in
    omega (arith, most, places, low)

pub loop-count-smaller : goal.loop-count-smaller
loop-count-smaller c =
    let (s, source, n, done, h) = c.requires in
    let (long, g) = c.loop-count.invariant.has s source n done h in
    let next = c.in-Some.ensures.some (sending s source g.words g.outs) c.in-Some.taken g.sends refl in
    let some = next.2.1 in
    let low = c.loop-count-test.true in
    omega (arith, some, low)

pub loop-count-preserved : goal.loop-count-preserved
loop-count-preserved c =
    let i = c.loop-count.invariant in
    record {
      names = (c.in_ok-give.ensures {u = tt}).names ∙ i.names;
      places = c.next_run.ensures.long ∙ i.places;
      has = λ s source n done h.
          let (long, g) = i.has s source n done h in
          let next = c.in-Some.ensures.some (sending s source g.words g.outs) c.in-Some.taken g.sends refl in (
            as_many_opens c.give.new.self c.loop-count.outputs c.give.ensures.names ∙ long,
            subst (λ (m : ℕ). GaveLanes c.next_run.new.self m s source (join done (rests_of c.give.new.self))) (regroup n c.loop-count.count c.in-Some.taken.count)
                (run_gave c.loop-count.transmitter (n + c.loop-count.count) s source _ g c.next_run.new.self next.0 c.in-Some.taken c.next_run.new.block _ _ next.1 next.2 c.next_run.ensures.long
                (join_given done (rests_of c.loop-count.outputs) _ c.in-Some.taken.lane (take c.in-Some.taken.count c.next_run.new.block) (c.in_ok-give.ensures {u = tt}).given)),
          );
    }
