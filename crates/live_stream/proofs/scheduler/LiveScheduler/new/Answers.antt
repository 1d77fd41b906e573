use Rattle.std.proofs.Common.{refl}
use Rattle.live_stream.proofs.Making.{nothing_yet}
use Rattle.live_stream.proofs.scheduler.LiveScheduler.new.Goals as goal

pub returns : goal.returns
returns c =
    nothing_yet _ c.args.shape c.args.max_packet c.args.channels.now c.args.entries.now
    (record { sizes = refl; short = refl; group = refl; warm = refl; slot = refl; free = refl; longest = refl; packets_closed = refl; closed = refl; finish = refl })
    c.in_ok-burst.ensures c.requires.distinct c.in_ok-incoming.ensures
    c.in_ok-turns.ensures.same c.in_ok-turns.ensures.rising c.in_ok-turns.ensures.empty
