use Rattle.std.proofs.Common.{◌≡◌, ◌∙◌, sym, length, arith}
use Rattle.std.proofs.lemmas.Bool.{eqb-false, eqb-true}
use Rattle.lane_receipts.proofs.ObservedLanes.{piece_ended, piece_fed}
use Rattle.lane_receipts.proofs.lane_pieces.feed_piece.Goals as goal

pub returns-then-is_empty-clause-feeds : goal.returns-then-is_empty-clause-feeds
returns-then-is_empty-clause-feeds c =
    piece_ended c.args.next.lane c.args.piece.now c.args.receiver.now c.finish.new.self (eqb-true (length c.args.piece.now) 0 (sym c.is_empty.ensures ∙ c.if-is_empty.true)) c.finish.ensures.feeds

pub returns-else-is_empty-clause-feeds : goal.returns-else-is_empty-clause-feeds
returns-else-is_empty-clause-feeds c =
    let count = c.feed-count.ensures.count in
    let room = c.requires.room in
    let small = c.requires.small in
    let all : c.feed-count.result ≡ length c.args.piece.now = omega (arith, count, room, small) in
    piece_fed c.args.next.lane c.feed-count.result c.args.piece.now c.args.receiver.now c.feed-count.new.self (eqb-false (length c.args.piece.now) 0 (sym c.is_empty.ensures ∙ c.if-is_empty.false)) all c.feed-count.ensures.feeds
