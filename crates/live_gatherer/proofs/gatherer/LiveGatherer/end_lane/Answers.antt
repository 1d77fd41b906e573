-- A lane that is not finished is finished.
use Rattle.std.proofs.Common.{rules, refl}
use Rattle.std.proofs.Math.Logic.{∥∥₁_map}
use Rattle.live_gatherer.proofs.Feeding.{end_is_allowed, runs_finished, with_front}
use Rattle.live_gatherer.proofs.Standings.{changes}
use Rattle.live_gatherer.proofs.gatherer.LiveGatherer.end_lane.Goals as goal

pub index_mut-requires : goal.index_mut-requires
index_mut-requires c =
    let within = (end_is_allowed c.args.self.now.taker c.args.self.now.finished.items c.args.self.now.fed.items c.args.lane c.args.self.now.runs c.requires).0 in
    search rules

pub finish-requires : goal.finish-requires
finish-requires c =
    (end_is_allowed c.args.self.now.taker c.args.self.now.finished.items c.args.self.now.fed.items c.args.lane c.args.self.now.runs c.requires).1

pub invariant_of-self : goal.invariant_of-self
invariant_of-self c = record {
  runs = ∥∥₁_map c.args.self.now.runs (λ k. runs_finished c.args.self.now.taker _ c.args.self.now.finished.items c.args.self.now.fed.items c.args.lane k
      (λ s fed given at. with_front c.args.self.now.taker _ s fed _ given refl refl (λ items t st. c.finish.ensures.stands s fed items t st) at));
}

pub returns : goal.returns
returns c = (
  c.requires,
  changes _ c.args.lane c.args.self.now _ (end_is_allowed c.args.self.now.taker c.args.self.now.finished.items c.args.self.now.fed.items c.args.lane c.args.self.now.runs c.requires).1 refl
      (λ s fed given at. with_front c.args.self.now.taker _ s fed _ given refl refl (λ items t st. c.finish.ensures.stands s fed items t st) at),
  refl,
)
