use Rattle.std.proofs.Common.{rules}
use Rattle.damage_commands.proofs.Bytes.{byte_between, whole_byte}
use Rattle.damage_commands.proofs.struck.byte_at.Goals as goal

pub returns-then-over-eq0 : goal.returns-then-over-eq0
returns-then-over-eq0 c = whole_byte c.args.bytes.now c.args.place c.requires c.if-over-eq0.true

pub returns : goal.returns
returns c =
    byte_between c.args.bytes.now c.args.place c.requires (search rules) (search rules) (search rules)
