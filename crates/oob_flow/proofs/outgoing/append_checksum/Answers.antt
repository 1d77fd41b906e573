use Rattle.oob_flow.proofs.Blocks.{four_pushed}
use Rattle.oob_flow.proofs.outgoing.append_checksum.Goals as goal

pub returns-clause-bits : goal.returns-clause-bits
returns-clause-bits c = four_pushed c.args.checksum c.args.frame.now.items c.push.new.self.items c.push-2.new.self.items c.push-3.new.self.items c.push-4.new.self.items c.push.ensures.items c.push-2.ensures.items c.push-3.ensures.items c.push-4.ensures.items
