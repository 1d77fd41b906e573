-- A lane that is not finished is finished.
use Rattle.std.proofs.Common.{rules, ◌≡◌, sym, subst, true}
use Rattle.std.proofs.Math.Logic.{∥∥₁_map}
use Rattle.live_receiver.proofs.Feeding.{end_is_allowed, runs_finished}
use Rattle.live_receiver.proofs.session.Session.end.Goals as goal

pub index_mut-requires : goal.index_mut-requires
index_mut-requires c =
    let within = (end_is_allowed c.args.self.now.receiver c.args.self.now.finished.items c.args.self.now.fed.items c.args.lane c.args.self.now.runs c.requires).0 in
    search rules

pub finish-requires : goal.finish-requires
finish-requires c =
    (end_is_allowed c.args.self.now.receiver c.args.self.now.finished.items c.args.self.now.fed.items c.args.lane c.args.self.now.runs c.requires).1

pub invariant_of-self : goal.invariant_of-self
invariant_of-self c = record {
  runs = ∥∥₁_map c.args.self.now.runs (λ k. runs_finished c.args.self.now.receiver c.finish.new.self c.args.self.now.finished.items c.args.self.now.fed.items c.args.lane k c.finish.ensures.stands);
  lent = ∥∥₁_map c.args.self.now.lent (λ lent lends. subst (λ v. v.lending ≡ true) (sym c.finish.ensures.lent) (lent lends));
}
