use Rattle.std.proofs.Common.{take}
use Rattle.lk_base.specs.Checksum.{bits_of_bytes}
use Rattle.link_replay.proofs.Whole.{sent-bits}
use Rattle.link_replay.proofs.damaging.damage_in_place.Goals as goal

pub change-requires-clause-file : goal.change-requires-clause-file
change-requires-clause-file c =
    (take c.args.bits (bits_of_bytes c.args.bytes.now.items), c.requires.file, sent-bits c.args.bytes.now.items c.args.bits c.requires.bits)

pub change-requires-clause-skew : goal.change-requires-clause-skew
change-requires-clause-skew c = c.requires.skew

pub returns-clause-damaged : goal.returns-clause-damaged
returns-clause-damaged c =
    c.in_ok-change.ensures.changed (take c.args.bits (bits_of_bytes c.args.bytes.now.items)) c.requires.file (sent-bits c.args.bytes.now.items c.args.bits c.requires.bits)
