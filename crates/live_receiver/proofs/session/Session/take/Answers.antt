-- A lane that takes the piece is fed.
use Rattle.std.proofs.Common.{rules, ◌≡◌, sym, subst, true, length}
use Rattle.std.proofs.Math.Logic.{∥∥₁_map}
use Rattle.live_receiver.proofs.Feeding.{is_allowed, runs_fed_at, sum_fits}
use Rattle.live_receiver.proofs.session.Session.take.Goals as goal

pub feed-count-requires-clause-unfinished : goal.feed-count-requires-clause-unfinished
feed-count-requires-clause-unfinished c =
    (is_allowed c.args.self.now.receiver c.args.self.now.finished.items c.args.self.now.fed.items c.args.lane (length c.args.piece.now) c.args.self.now.runs c.requires).free

pub feed-count-requires-clause-few : goal.feed-count-requires-clause-few
feed-count-requires-clause-few c =
    (is_allowed c.args.self.now.receiver c.args.self.now.finished.items c.args.self.now.fed.items c.args.lane (length c.args.piece.now) c.args.self.now.runs c.requires).fits

pub index_mut-requires : goal.index_mut-requires
index_mut-requires c =
    let counted = (is_allowed c.args.self.now.receiver c.args.self.now.finished.items c.args.self.now.fed.items c.args.lane (length c.args.piece.now) c.args.self.now.runs c.requires).counted in
    search rules

pub overflow_add-index_mut : goal.overflow_add-index_mut
overflow_add-index_mut c = record {
  fits =
      sum_fits c.args.self.now.receiver c.args.self.now.finished.items c.args.self.now.fed.items c.args.lane (length c.args.piece.now) c.index_mut.result.now c.feed-count.result _ _
      (is_allowed c.args.self.now.receiver c.args.self.now.finished.items c.args.self.now.fed.items c.args.lane (length c.args.piece.now) c.args.self.now.runs c.requires)
      c.index_mut.ensures.value c.feed-count.ensures.count;
}

pub invariant_of-self : goal.invariant_of-self
invariant_of-self c =
    let allowed = is_allowed c.args.self.now.receiver c.args.self.now.finished.items c.args.self.now.fed.items c.args.lane (length c.args.piece.now) c.args.self.now.runs c.requires in
    record {
      runs = ∥∥₁_map c.args.self.now.runs (λ k. runs_fed_at c.args.self.now.receiver c.feed-count.new.self c.args.self.now.finished.items c.args.self.now.fed.items c.args.lane c.feed-count.result _ c.index_mut.result.now _ c.args.piece.now
          k c.feed-count.ensures.count c.feed-count.ensures.stands allowed.counted c.index_mut.ensures.value);
      lent = ∥∥₁_map c.args.self.now.lent (λ lent lends. subst (λ v. v.lending ≡ true) (sym c.feed-count.ensures.lent) (lent lends));
    }
