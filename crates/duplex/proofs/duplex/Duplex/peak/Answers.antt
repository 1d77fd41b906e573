use Rattle.std.proofs.Common.{◌∙◌, ap, sym, subst}
use Rattle.duplex.specs.Queues.{queue_at, AreQueues}
use Rattle.duplex.proofs.Runs.{queue_at_end, are_queues}
use Rattle.duplex.proofs.duplex.Duplex.peak.Goals as goal

pub of-requires : goal.of-requires
of-requires c =
    let (settings, ends, slots, a, b, r, listed) = c.requires in
    subst (λ s. AreQueues s.queues) (sym c.side.ensures) (are_queues c.args.self.now c.args.end settings ends slots a b r)

pub returns : goal.returns
returns c settings ends slots a b r listed =
    let is = queue_at_end c.args.self.now c.args.end settings ends slots a b c.args.channel r c.ranges.channel.fits in
    ap (λ q. q.peak) c.of.ensures ∙ ap (λ s. (queue_at s.queues.by_channel.items c.args.channel).peak) c.side.ensures ∙ is.most
