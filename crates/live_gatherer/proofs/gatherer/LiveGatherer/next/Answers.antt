-- The next word or break, the end, or none.
use Rattle.std.proofs.Common.{refl, sym, ◌∙◌}
use Rattle.std.proofs.Math.Logic.{∥∥₁_map}
use Rattle.live_gatherer.proofs.Feeding.{has_run, runs_next}
use Rattle.live_gatherer.proofs.Standings.{next_end, next_given, next_none}
use Rattle.live_gatherer.proofs.gatherer.LiveGatherer.next.Goals as goal

pub next-requires : goal.next-requires
next-requires c = ∥∥₁_map c.args.self.now.runs (λ k. has_run c.args.self.now.taker c.args.self.now.finished.items c.args.self.now.fed.items k)

pub invariant_of-self : goal.invariant_of-self
invariant_of-self c = record {
  runs = ∥∥₁_map c.args.self.now.runs (λ k. runs_next c.next.result c.args.self.now.taker c.next.new.self c.args.self.now.finished.items c.args.self.now.fed.items k c.next.ensures.gives);
}

pub returns-in-Some : goal.returns-in-Some
returns-in-Some c = next_given c.args.self.now _ c.in-Some.given c.if-self.false refl c.in-Some.ensures.gives

pub invariant_of-self-then-not-is_over : goal.invariant_of-self-then-not-is_over
invariant_of-self-then-not-is_over c = record {
  runs = ∥∥₁_map c.args.self.now.runs (λ k. runs_next c.next.result c.args.self.now.taker c.next.new.self c.args.self.now.finished.items c.args.self.now.fed.items k c.next.ensures.gives);
}

pub returns-then-not-is_over : goal.returns-then-not-is_over
returns-then-not-is_over c = next_none c.args.self.now _ c.if-self.false refl (sym c.is_over.ensures ∙ c.if-not-is_over.true) c.in-None.ensures.stuck c.in-None.ensures.gives

pub invariant_of-self-2 : goal.invariant_of-self-2
invariant_of-self-2 c = record {
  runs = ∥∥₁_map c.args.self.now.runs (λ k. runs_next c.next.result c.args.self.now.taker c.next.new.self c.args.self.now.finished.items c.args.self.now.fed.items k c.next.ensures.gives);
}

pub returns : goal.returns
returns c = next_end c.args.self.now _ c.if-self.false refl (sym c.is_over.ensures ∙ c.if-not-is_over.false) c.in-None.ensures.gives
