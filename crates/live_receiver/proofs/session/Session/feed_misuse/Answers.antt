-- Why a lane does not take a piece.
use Rattle.std.proofs.Common.{rules, ◌∙◌, sym}
use Rattle.live_receiver.proofs.Feeding.{lane_is_counted, lane_misuse_is, piece_misuse_is, some_misuse_is}
use Rattle.live_receiver.proofs.session.Session.feed_misuse.Goals as goal

pub returns-in-Some : goal.returns-in-Some
returns-in-Some c =
    some_misuse_is c.args.self.now.receiver c.args.self.now.finished.items c.args.self.now.fed.items c.args.lane c.args.count _ c.args.self.now.runs
    (lane_misuse_is c.args.self.now.receiver c.args.self.now.finished.items c.args.self.now.fed.items c.args.lane c.args.self.now.runs ∙ sym c.in-Some.ensures)

pub returns-in-None : goal.returns-in-None
returns-in-None c =
    c.piece_misuse.ensures ∙ piece_misuse_is c.args.self.now.receiver c.args.self.now.finished.items c.args.self.now.fed.items c.args.lane c.args.count _ _ c.args.self.now.runs
    (lane_misuse_is c.args.self.now.receiver c.args.self.now.finished.items c.args.self.now.fed.items c.args.lane c.args.self.now.runs ∙ sym c.in-None.ensures) c.index.ensures

pub index-requires : goal.index-requires
index-requires c =
    let counted = lane_is_counted c.args.self.now.receiver c.args.self.now.finished.items c.args.self.now.fed.items c.args.lane c.args.self.now.runs (sym c.in-None.ensures) in
    search rules
