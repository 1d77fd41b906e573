-- Why a lane takes no byte and no end.
use Rattle.std.proofs.Common.{◌∙◌, ap}
use Rattle.c_parts.specs.Misuses.{lane_misuse_by}
use Rattle.live_receiver.proofs.Feeding.{lane_misuse_is}
use Rattle.live_receiver.proofs.session.Session.lane_misuse.Goals as goal

pub returns : goal.returns
returns c = c.lane_misuse.ensures ∙ ap (λ flags. lane_misuse_by flags c.args.lane) c.deref.ensures.value ∙ lane_misuse_is c.args.self.now.receiver c.args.self.now.finished.items c.args.self.now.fed.items c.args.lane c.args.self.now.runs
