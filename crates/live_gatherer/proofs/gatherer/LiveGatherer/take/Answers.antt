-- A lane that takes the piece is fed.
use Rattle.std.proofs.Common.{rules, refl, length}
use Rattle.std.proofs.Math.Logic.{∥∥₁_map}
use Rattle.live_gatherer.proofs.Feeding.{is_allowed, runs_fed_at, sum_fits, with_front}
use Rattle.live_gatherer.proofs.Standings.{changes}
use Rattle.live_gatherer.proofs.gatherer.LiveGatherer.take.Goals as goal

pub index_mut-requires : goal.index_mut-requires
index_mut-requires c =
    let counted = (is_allowed c.args.self.now.taker c.args.self.now.finished.items c.args.self.now.fed.items c.args.lane (length c.args.piece.now) c.args.self.now.runs c.requires).counted in
    search rules

pub overflow_add-index_mut : goal.overflow_add-index_mut
overflow_add-index_mut c = record {
  fits =
      sum_fits c.args.self.now.taker c.args.self.now.finished.items c.args.self.now.fed.items c.args.lane (length c.args.piece.now) c.index_mut.result.now c.feed-count.result _ _
      (is_allowed c.args.self.now.taker c.args.self.now.finished.items c.args.self.now.fed.items c.args.lane (length c.args.piece.now) c.args.self.now.runs c.requires)
      c.index_mut.ensures.value c.feed-count.ensures.count;
}

pub invariant_of-self : goal.invariant_of-self
invariant_of-self c =
    let allowed = is_allowed c.args.self.now.taker c.args.self.now.finished.items c.args.self.now.fed.items c.args.lane (length c.args.piece.now) c.args.self.now.runs c.requires in
    record {
      runs = ∥∥₁_map c.args.self.now.runs (λ k. runs_fed_at c.args.self.now.taker _ c.args.self.now.finished.items c.args.self.now.fed.items c.args.lane c.feed-count.result _ c.index_mut.result.now _ c.args.piece.now
          k c.feed-count.ensures.count (λ s fed given at. with_front c.args.self.now.taker _ s fed _ given refl refl (λ items t st. c.feed-count.ensures.stands s fed items t st) at) allowed.counted c.index_mut.ensures.value);
    }

pub returns : goal.returns
returns c =
    let allowed = is_allowed c.args.self.now.taker c.args.self.now.finished.items c.args.self.now.fed.items c.args.lane (length c.args.piece.now) c.args.self.now.runs c.requires in (
      c.requires,
      c.feed-count.ensures.count,
      changes _ c.args.lane c.args.self.now _ allowed.free refl (λ s fed given at. with_front c.args.self.now.taker _ s fed _ given refl refl (λ items t st. c.feed-count.ensures.stands s fed items t st) at),
      refl,
    )
