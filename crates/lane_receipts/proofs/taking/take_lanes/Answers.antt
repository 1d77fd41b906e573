use Rattle.std.proofs.Common.{◌≡◌, ◌∙◌, ◌^◌, ℕ, List, [], get_or, refl, sym, subst, arith, Contains, Option, Some}
use Rattle.std.proofs.lemmas.Result.{err_from_is_err_and}
use Rattle.std.proofs.lemmas.Option.{slice_get_within}
use Rattle.lk_outside.specs.Files.{Files}
use Rattle.receive_model.specs.Events.{Event}
use Rattle.receipts.specs.declared.receipt.Receipt.{Receipt}
use Rattle.receipts.specs.Receipts.{Beginning, IsReceipt}
use Rattle.run_shell.specs.Outputs.{open_names}
use Rattle.run_stops.specs.Stops.{IsOfStore}
use Rattle.lane_receipts.specs.Feeding.{fed_next}
use Rattle.lane_receipts.specs.Taking.{AreAsBefore, IsPieceAt}
use Rattle.rx_end.proofs.Observed.{some_on}
use Rattle.lane_receipts.proofs.ObservedLanes.{first_followed, lanes_seen, next_followed, some_fed}
use Rattle.lane_receipts.proofs.OpenLanes.{fed_taking, lane_counted, lane_empty, lane_open}
use Rattle.lane_receipts.proofs.TakenLanes.{as_before, cut_broken, from_next, lanes_over, lanes_taken, less, piece_cut, piece_taken, still_within, unread}
use Rattle.lane_receipts.proofs.taking.take_lanes.Goals as goal

-- the files of lanes that no output has
kept_files : (b : Beginning) (given later : List Event) (kept kept' : Receipt) (was now : Option Files) (first names : List (List ℕ)) → IsReceipt b given kept was → IsReceipt b later kept' now → names ≡ first
    → ((q : List ℕ) → Contains first q → Contains (open_names kept.outputs) q → ⊥) → AreAsBefore names b.was now
kept_files b given later kept kept' was now first names old is named apart =
    as_before b later kept' now names is (λ q among output. apart q (subst (λ ns. Contains ns q) named among) (subst (λ ns. Contains ns q) (sym old.names) output))

pub returns-in_err-take_events-clause-takes : goal.returns-in_err-take_events-clause-takes
returns-in_err-take_events-clause-takes g c b s fed given at offsets =
    let p = err_from_is_err_and c.from_residual.result c.from_residual.ensures.1 in
    rw (p.1, p.2) (cut_broken b s fed fed _ _ c.in_err-take_events.field-0.0 _ (λ lanes are begin. begin) (c.in_err-take_events.ensures.drains b s fed given at))

pub loop-next-init : goal.loop-next-init
loop-next-init g c = record {
  same_faults = c.in_ok-take_events.ensures.cause;
  limits = c.requires.limits;
  many = refl;
  named = refl;
  within = c.requires.within;
  feeding = λ b s first given at is.
      let (came, drained) = c.in_ok-take_events.ensures.drains b s first given at in (
        first,
        came,
        record { drained = drained; reached = is; from = λ lanes are begin. (are, begin) },
        first_followed g.O.Observer.keeps g.O.Observer.saw s (g.P.LanePieces.are_lanes c.args.lanes.now b.was) first c.args.observer.now c.take_events.new.observer c.args.receiver.now c.take_events.new.receiver c.in_ok-take_events.ensures.tells,
      );
  fixed = c.in_ok-take_events.ensures.fixed;
  told = some_on g.O.Observer.keeps g.O.Observer.saw g.O.Observer.asks c.args.observer.now c.take_events.new.observer c.args.receiver.now c.take_events.new.receiver c.in_ok-take_events.ensures.tells c.requires.told;
}

pub read_on-requires-clause-place : goal.read_on-requires-clause-place
read_on-requires-clause-place g c =
    let below = slice_get_within c.loop-next.offsets c.in-Some.next.lane (Some c.in-Some.next.offset) c.in-Some.ensures.next in
    let many = c.requires.many in
    let same = c.loop-next.auto.offsets in
    let still = c.loop-next.invariant.many in
    omega (arith, below, many, same, still)

pub piece-piece-requires-clause-place : goal.piece-piece-requires-clause-place
piece-piece-requires-clause-place g c =
    let below = slice_get_within c.loop-next.offsets c.in-Some.next.lane (Some c.in-Some.next.offset) c.in-Some.ensures.next in
    let many = c.requires.many in
    let same = c.loop-next.auto.offsets in
    let still = c.loop-next.invariant.many in
    let now = c.in_ok-read_on.ensures.lanes in
    omega (arith, below, many, same, still, now)

pub feed_piece-requires-clause-place : goal.feed_piece-requires-clause-place
feed_piece-requires-clause-place g c = slice_get_within c.loop-next.offsets c.in-Some.next.lane (Some c.in-Some.next.offset) c.in-Some.ensures.next

pub feed_piece-requires-clause-unfinished : goal.feed_piece-requires-clause-unfinished
feed_piece-requires-clause-unfinished g c =
    let (b, s, first, given, at, is) = c.requires.taking in
    let (fed, came, now, follows) = c.loop-next.invariant.feeding b s first given at is in
    lane_open b s fed came c.loop-next.receiver c.loop-next.offsets c.loop-next.receipt _ now.drained now.reached c.in-Some.next c.in-Some.ensures

pub feed_piece-requires-clause-counted : goal.feed_piece-requires-clause-counted
feed_piece-requires-clause-counted g c =
    let (b, s, first, given, at, is) = c.requires.taking in
    let (fed, came, now, follows) = c.loop-next.invariant.feeding b s first given at is in
    lane_counted b s fed came c.loop-next.receiver c.loop-next.offsets c.loop-next.receipt _ now.drained now.reached c.in-Some.next c.in-Some.ensures

pub feed_piece-requires-clause-room : goal.feed_piece-requires-clause-room
feed_piece-requires-clause-room g c =
    let (b, s, first, given, at, is) = c.requires.taking in
    let (fed, came, now, follows) = c.loop-next.invariant.feeding b s first given at is in
    lane_empty b s fed came c.loop-next.receiver c.loop-next.offsets c.loop-next.receipt _ now.drained now.reached c.in-Some.next c.in-Some.ensures

pub feed_piece-requires-clause-within : goal.feed_piece-requires-clause-within
feed_piece-requires-clause-within g c =
    let le = c.loop-next.invariant.within c.in-Some.next.lane c.in-Some.next.offset c.in-Some.ensures.next in
    let within = c.piece-piece.ensures.within le in
    omega (arith, within)

pub take_events-requires-in-Some-clause-taking : goal.take_events-requires-in-Some-clause-taking
take_events-requires-in-Some-clause-taking g c =
    let (b, s, first, given, at, is) = c.requires.taking in
    let (fed, came, now, follows) = c.loop-next.invariant.feeding b s first given at is in
    (b, s, fed_next c.in-Some.next.lane c.piece-piece.result.now fed, came, fed_taking b s fed _ came _ _ _ _ _ c.in_ok-read_on.ensures.unchanged now.drained.taking (c.feed_piece.ensures.stands s b.setting fed came now.drained.taking.stands))

pub take_events-requires-in-Some-clause-told : goal.take_events-requires-in-Some-clause-told
take_events-requires-in-Some-clause-told g c = some_fed g.O.Observer.keeps g.O.Observer.saw g.O.Observer.asks c.loop-next.observer (fed_next c.in-Some.next.lane c.piece-piece.result.now) c.loop-next.receiver c.feed_piece.new.receiver c.feed_piece.ensures.feeds c.loop-next.invariant.told

pub loop-next-preserved : goal.loop-next-preserved
loop-next-preserved g c =
    let next = c.in-Some.next in
    let piece = c.piece-piece.result.now in
    let le = c.loop-next.invariant.within next.lane next.offset c.in-Some.ensures.next in
    record {
      same_faults = c.in_ok-take_events-2.ensures.cause ∙ c.in_ok-read_on.ensures.cause ∙ c.loop-next.invariant.same_faults;
      limits = c.in_ok-read_on.ensures.limits;
      many = c.in_ok-read_on.ensures.lanes ∙ c.loop-next.invariant.many;
      named = c.in_ok-read_on.ensures.names ∙ c.loop-next.invariant.named;
      within = still_within (2 ^ 56) c.loop-next.offsets c.feed_piece.new.offsets next.lane next.offset piece c.feed_piece.ensures.offsets (c.piece-piece.ensures.within le) c.loop-next.invariant.within;
      feeding = λ b s first given at is.
          let (fed, came, now, follows) = c.loop-next.invariant.feeding b s first given at is in
          let (more, drained) = c.in_ok-take_events-2.ensures.drains b s (fed_next next.lane piece fed) came
          (fed_taking b s fed _ came _ _ _ _ _ c.in_ok-read_on.ensures.unchanged now.drained.taking (c.feed_piece.ensures.stands s b.setting fed came now.drained.taking.stands)) in
          let files = kept_files b given came c.args.receipt.now c.loop-next.receipt _ _ _ _ at.receipt now.drained.taking.receipt c.loop-next.invariant.named c.requires.apart in (
            fed_next next.lane piece fed,
            more,
            piece_taken b s _ _ first fed came c.loop-next.receiver c.loop-next.offsets c.loop-next.receipt _ now (g.P.LanePieces.file_names c.args.lanes.now) next c.in-Some.ensures (g.P.LanePieces.are_lanes c.read_on.new.self b.was) piece
                (λ lanes still. let (later, is) = c.in_ok-read_on.ensures.reads b.was lanes still files in (later, subst (λ p. IsPieceAt next.offset p (get_or lanes next.lane [])) (sym c.piece-piece.ensures.held) is))
                _ _ _ _ more c.feed_piece.ensures.offsets drained,
            next_followed g.O.Observer.keeps g.O.Observer.saw s (g.P.LanePieces.are_lanes c.args.lanes.now b.was) first c.args.observer.now c.loop-next.observer c.args.receiver.now c.loop-next.receiver fed follows c.take_events-in-Some.new.observer (fed_next next.lane piece) c.feed_piece.new.receiver c.take_events-in-Some.new.receiver
                c.feed_piece.ensures.feeds c.in_ok-take_events-2.ensures.tells
                (λ lanes are begin. (from_next b s _ _ first fed came c.loop-next.receiver c.loop-next.offsets c.loop-next.receipt _ now (g.P.LanePieces.file_names c.args.lanes.now) next c.in-Some.ensures (g.P.LanePieces.are_lanes c.read_on.new.self b.was) piece
                (λ lanes still. let (later, is) = c.in_ok-read_on.ensures.reads b.was lanes still files in (later, subst (λ p. IsPieceAt next.offset p (get_or lanes next.lane [])) (sym c.piece-piece.ensures.held) is))
                lanes are begin).1),
          );
      fixed = c.in_ok-take_events-2.ensures.fixed ∙ c.loop-next.invariant.fixed;
      told = some_on g.O.Observer.keeps g.O.Observer.saw g.O.Observer.asks c.loop-next.observer c.take_events-in-Some.new.observer c.feed_piece.new.receiver c.take_events-in-Some.new.receiver c.in_ok-take_events-2.ensures.tells
          (some_fed g.O.Observer.keeps g.O.Observer.saw g.O.Observer.asks c.loop-next.observer (fed_next next.lane piece) c.loop-next.receiver c.feed_piece.new.receiver c.feed_piece.ensures.feeds c.loop-next.invariant.told);
    }

pub loop-next-smaller : goal.loop-next-smaller
loop-next-smaller g c =
    let next = c.in-Some.next in
    let le = c.loop-next.invariant.within next.lane next.offset c.in-Some.ensures.next in
    less (2 ^ 56) c.loop-next.offsets c.feed_piece.new.offsets next.lane next.offset c.piece-piece.result.now c.feed_piece.ensures.offsets (c.piece-piece.ensures.within le) c.in-Some.ensures.next

pub returns-in_err-read_on-clause-takes : goal.returns-in_err-read_on-clause-takes
returns-in_err-read_on-clause-takes g c b s first given at is =
    let (fed, came, now, follows) = c.loop-next.invariant.feeding b s first given at is in
    let files = kept_files b given came c.args.receipt.now c.loop-next.receipt _ _ _ _ at.receipt now.drained.taking.receipt c.loop-next.invariant.named c.requires.apart in
    let r = c.from_residual-in_err-read_on in
    let p = err_from_is_err_and r.result r.ensures.1 in
    rw (p.1, p.2) (unread b s _ _ first fed came c.loop-next.receiver c.loop-next.offsets c.loop-next.receipt _ now (g.P.LanePieces.file_names c.args.lanes.now) c.in-Some.next c.in-Some.ensures c.in_err-read_on.field-0.0 _ c.in_err-read_on.ensures.unchanged
    (λ lanes still. subst (λ ns. IsOfStore (Contains ns) c.in_err-read_on.field-0.0) c.loop-next.invariant.named (c.in_err-read_on.ensures.reads b.was lanes still files)))

pub returns-in_err-take_events-2-clause-takes : goal.returns-in_err-take_events-2-clause-takes
returns-in_err-take_events-2-clause-takes g c b s first given at is =
    let next = c.in-Some.next in
    let piece = c.piece-piece.result.now in
    let (fed, came, now, follows) = c.loop-next.invariant.feeding b s first given at is in
    let files = kept_files b given came c.args.receipt.now c.loop-next.receipt _ _ _ _ at.receipt now.drained.taking.receipt c.loop-next.invariant.named c.requires.apart in
    let r = c.from_residual-in_err-take_events-2 in
    let p = err_from_is_err_and r.result r.ensures.1 in
    rw (p.1, p.2) (piece_cut b s _ _ first fed came c.loop-next.receiver c.loop-next.offsets c.loop-next.receipt _ now (g.P.LanePieces.file_names c.args.lanes.now) next c.in-Some.ensures (g.P.LanePieces.are_lanes c.read_on.new.self b.was) piece
    (λ lanes still. let (later, is) = c.in_ok-read_on.ensures.reads b.was lanes still files in (later, subst (λ p. IsPieceAt next.offset p (get_or lanes next.lane [])) (sym c.piece-piece.ensures.held) is))
    c.in_err-take_events-2.field-0.0 _
    (c.in_err-take_events-2.ensures.drains b s (fed_next next.lane piece fed) came
    (fed_taking b s fed _ came _ _ _ _ _ c.in_ok-read_on.ensures.unchanged now.drained.taking (c.feed_piece.ensures.stands s b.setting fed came now.drained.taking.stands))))

pub returns-clause-takes : goal.returns-clause-takes
returns-clause-takes g c b s first given at is =
    let (fed, came, now, follows) = c.loop-next.invariant.feeding b s first given at is in
    lanes_taken b s _ _ first fed came c.loop-next.receiver c.loop-next.offsets c.loop-next.receipt _ now [] c.in_default.ensures

pub returns-clause-observes : goal.returns-clause-observes
returns-clause-observes g c b s first given at is =
    let (fed, came, now, follows) = c.loop-next.invariant.feeding b s first given at is in
    lanes_seen g.O.Observer.keeps g.O.Observer.saw s (g.P.LanePieces.are_lanes c.args.lanes.now b.was) first c.args.observer.now c.loop-next.observer c.args.receiver.now c.loop-next.receiver fed follows
    (now.drained.closed (lanes_over b s _ _ first fed came c.loop-next.receiver c.loop-next.offsets c.loop-next.receipt _ now [] c.in_default.ensures))
    (λ lanes are begin. (now.from lanes are begin).1)
