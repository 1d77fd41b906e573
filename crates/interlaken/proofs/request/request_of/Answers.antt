use Rattle.std.proofs.Common.{◌∙◌, sym, map, string_bytes, Global}
use Rattle.interlaken.proofs.Accepting.{accepted}
use Rattle.interlaken.proofs.request.request_of.Goals as goal

pub read_line-requires : goal.read_line-requires
read_line-requires c = accepted (map (string_bytes {Z = Global}) c.args.words.now) (sym c.are_accepted.ensures ∙ c.if-not-are_accepted.false)
