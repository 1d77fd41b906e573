use Rattle.std.proofs.Common.{sym, take}
use Rattle.std.proofs.lemmas.List.{get_or_read}
use Rattle.lk_base.specs.Checksum.{bits_of_bytes}
use Rattle.link_replay.proofs.Whole.{sent-bits}
use Rattle.link_replay.proofs.damaging.put_damaged.Goals as goal

pub change-requires-clause-file : goal.change-requires-clause-file
change-requires-clause-file c =
    (take c.args.bits (bits_of_bytes c.args.sent.now), c.in_ok-put_skewed.ensures {u = tt}, sent-bits c.args.sent.now c.args.bits c.requires.bits)

pub change-requires-clause-skew : goal.change-requires-clause-skew
change-requires-clause-skew c = sym (get_or_read c.args.schedule.now.skews.items c.args.lane c.index-skew.result.now c.requires.lane c.index-skew.ensures 0)

pub returns : goal.returns
returns c =
    c.in_ok-change.ensures.changed (take c.args.bits (bits_of_bytes c.args.sent.now)) (c.in_ok-put_skewed.ensures {u = tt}) (sent-bits c.args.sent.now c.args.bits c.requires.bits)
