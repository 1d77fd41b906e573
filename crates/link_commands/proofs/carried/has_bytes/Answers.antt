use Rattle.link_commands.proofs.OfBytes.{cut_bytes}
use Rattle.link_commands.proofs.carried.has_bytes.Goals as goal

pub returns : goal.returns
returns c = cut_bytes c.args.capture.now _ c.deref.ensures.value c.are_bytes.ensures
