use Rattle.duplex.specs.declared.duplex.End.TheVariants.{A, B}
use Rattle.duplex_commands.proofs.Kept.{keeps_at}
use Rattle.duplex_commands.proofs.captures.Captures.put.Goals as goal

pub returns-in-A-clause-keeps : goal.returns-in-A-clause-keeps
returns-in-A-clause-keeps g c b got_a got_b first last is =
    keeps_at b c.args.end A c.args.channel (record { bytes = c.args.packet.now; first = first; last = last }) got_a got_b _ _ _ c.in-A.is (c.put_a.ensures.keeps b got_a got_b first last is)

pub returns-in-B-clause-keeps : goal.returns-in-B-clause-keeps
returns-in-B-clause-keeps g c b got_a got_b first last is =
    keeps_at b c.args.end B c.args.channel (record { bytes = c.args.packet.now; first = first; last = last }) got_a got_b _ _ _ c.in-B.is (c.put_b.ensures.keeps b got_a got_b first last is)
