use Rattle.link_commands.proofs.OfBytes.{all_of_bytes, none_of_bytes, these_of_bytes}
use Rattle.link_commands.proofs.carried.have_bytes.Goals as goal

pub loop-capture-init : goal.loop-capture-init
loop-capture-init c = none_of_bytes

pub loop-capture-preserved : goal.loop-capture-preserved
loop-capture-preserved c = these_of_bytes c.args.captures.now c.loop-capture.capture-index c.capture-item.result c.loop-capture-test.true c.capture-item.is c.loop-capture.invariant c.has_bytes.ensures

pub returns : goal.returns
returns c = all_of_bytes c.args.captures.now c.loop-capture.capture-index c.loop-capture-test.false c.loop-capture.invariant
