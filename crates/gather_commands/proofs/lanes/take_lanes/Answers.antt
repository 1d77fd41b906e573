use Rattle.std.proofs.Common.{◌≡◌, ◌∙◌, ◌^◌, ℕ, List, [], get_or, refl, sym, subst, arith, Contains, Option, Some}
use Rattle.std.proofs.lemmas.Result.{err_from_is_err_and}
use Rattle.std.proofs.lemmas.Option.{slice_get_within}
use Rattle.lk_base.specs.Link.{Settings}
use Rattle.lk_outside.specs.Files.{Files}
use Rattle.event_model.specs.Fed.{Fed}
use Rattle.run_shell.specs.Outputs.{open_names}
use Rattle.run_stops.specs.Stops.{IsOfStore}
use Rattle.lane_receipts.specs.Feeding.{fed_next}
use Rattle.lane_receipts.specs.Taking.{AreAsBefore, IsPieceAt}
use Rattle.lane_receipts.proofs.TakenLanes.{less, still_within}
use Rattle.gather_commands.specs.declared.gatherer.Gatherer.{Gatherer}
use Rattle.gather_commands.specs.Taking.{HasTaken, IsGathering}
use Rattle.gather_commands.proofs.Fed.{lane_counted, lane_empty, lane_open}
use Rattle.gather_commands.proofs.Taken.{as_before, cut_broken, fed_gathering, lanes_taken, piece_cut, piece_taken, taken_gathering, unread}
use Rattle.gather_commands.proofs.lanes.take_lanes.Goals as goal

-- the files of lanes that no output has
kept_files : (out : List ℕ) (s : Settings) (first fed : List Fed) (g h : Gatherer) (was x now : Option Files) (ns names : List (List ℕ)) → IsGathering out s first g was x → HasTaken out s fed h was now → names ≡ ns
    → ((q : List ℕ) → Contains ns q → Contains (open_names g.gathered.files.outputs) q → ⊥) → AreAsBefore names was now
kept_files out s first fed g h was x now ns names old is named apart =
    as_before out is.items h.gathered was now names is.gathered (λ q among output. apart q (subst (λ ms. Contains ms q) named among) (subst (λ ms. Contains ms q) (sym old.gathered.files.names) output))

pub returns-in_err-take_known-clause-takes : goal.returns-in_err-take_known-clause-takes
returns-in_err-take_known-clause-takes g c out s fed was at offsets =
    let p = err_from_is_err_and c.from_residual.result c.from_residual.ensures.1 in
    rw (p.1, p.2) (cut_broken out s fed fed _ _ c.in_err-take_known.field-0.0 was _ (λ lanes are begin. begin) (c.in_err-take_known.ensures.takes out s fed was at))

pub loop-next-init : goal.loop-next-init
loop-next-init g c = record {
  same_faults = c.in_ok-take_known.ensures.cause;
  limits = c.requires.limits;
  many = refl;
  named = refl;
  within = c.requires.within;
  feeding = λ out s first was at is. (first, record { taken = c.in_ok-take_known.ensures.takes out s first was at; reached = is; from = λ lanes are begin. (are, begin) });
}

pub read_on-requires-clause-place : goal.read_on-requires-clause-place
read_on-requires-clause-place g c =
    let below = slice_get_within c.loop-next.offsets c.in-Some.next.lane (Some c.in-Some.next.offset) c.in-Some.ensures.next in
    let many = c.requires.many in
    let same = c.loop-next.auto.offsets in
    let still = c.loop-next.invariant.many in
    omega (arith, below, many, same, still)

pub piece-piece-requires-clause-place : goal.piece-piece-requires-clause-place
piece-piece-requires-clause-place g c =
    let below = slice_get_within c.loop-next.offsets c.in-Some.next.lane (Some c.in-Some.next.offset) c.in-Some.ensures.next in
    let many = c.requires.many in
    let same = c.loop-next.auto.offsets in
    let still = c.loop-next.invariant.many in
    let now = c.in_ok-read_on.ensures.lanes in
    omega (arith, below, many, same, still, now)

pub feed_piece-requires-clause-place : goal.feed_piece-requires-clause-place
feed_piece-requires-clause-place g c = slice_get_within c.loop-next.offsets c.in-Some.next.lane (Some c.in-Some.next.offset) c.in-Some.ensures.next

pub feed_piece-requires-clause-unfinished : goal.feed_piece-requires-clause-unfinished
feed_piece-requires-clause-unfinished g c =
    let (out, s, first, was, at, is) = c.requires.gathering in
    let (fed, now) = c.loop-next.invariant.feeding out s first was at is in
    lane_open out s fed c.loop-next.gatherer c.loop-next.offsets was _ now.taken now.reached c.in-Some.next c.in-Some.ensures

pub feed_piece-requires-clause-counted : goal.feed_piece-requires-clause-counted
feed_piece-requires-clause-counted g c =
    let (out, s, first, was, at, is) = c.requires.gathering in
    let (fed, now) = c.loop-next.invariant.feeding out s first was at is in
    lane_counted out s fed c.loop-next.gatherer c.loop-next.offsets was _ now.taken now.reached c.in-Some.next c.in-Some.ensures

pub feed_piece-requires-clause-room : goal.feed_piece-requires-clause-room
feed_piece-requires-clause-room g c =
    let (out, s, first, was, at, is) = c.requires.gathering in
    let (fed, now) = c.loop-next.invariant.feeding out s first was at is in
    lane_empty out s fed c.loop-next.gatherer c.loop-next.offsets was _ now.taken now.reached c.in-Some.next c.in-Some.ensures

pub feed_piece-requires-clause-within : goal.feed_piece-requires-clause-within
feed_piece-requires-clause-within g c =
    let le = c.loop-next.invariant.within c.in-Some.next.lane c.in-Some.next.offset c.in-Some.ensures.next in
    let within = c.piece-piece.ensures.within le in
    omega (arith, within)

pub take_known-requires-in-Some-clause-gathering : goal.take_known-requires-in-Some-clause-gathering
take_known-requires-in-Some-clause-gathering g c =
    let (out, s, first, was, at, is) = c.requires.gathering in
    let (fed, now) = c.loop-next.invariant.feeding out s first was at is in
    let piece = c.piece-piece.result.now in
    (out, s, fed_next c.in-Some.next.lane piece fed, was, fed_gathering out s fed (fed_next c.in-Some.next.lane piece fed) c.loop-next.gatherer _ was _ _ c.in_ok-read_on.ensures.unchanged refl (λ items t st. c.feed_piece.ensures.stands s fed items t st) (taken_gathering out s fed c.loop-next.gatherer was _ now.taken))

pub loop-next-preserved : goal.loop-next-preserved
loop-next-preserved g c =
    let next = c.in-Some.next in
    let piece = c.piece-piece.result.now in
    let le = c.loop-next.invariant.within next.lane next.offset c.in-Some.ensures.next in
    record {
      same_faults = c.in_ok-take_known-2.ensures.cause ∙ c.in_ok-read_on.ensures.cause ∙ c.loop-next.invariant.same_faults;
      limits = c.in_ok-read_on.ensures.limits;
      many = c.in_ok-read_on.ensures.lanes ∙ c.loop-next.invariant.many;
      named = c.in_ok-read_on.ensures.names ∙ c.loop-next.invariant.named;
      within = still_within (2 ^ 56) c.loop-next.offsets c.feed_piece.new.offsets next.lane next.offset piece c.feed_piece.ensures.offsets (c.piece-piece.ensures.within le) c.loop-next.invariant.within;
      feeding = λ out s first was at is.
          let (fed, now) = c.loop-next.invariant.feeding out s first was at is in
          let taken = c.in_ok-take_known-2.ensures.takes out s (fed_next next.lane piece fed) was
          (fed_gathering out s fed (fed_next next.lane piece fed) c.loop-next.gatherer _ was _ _ c.in_ok-read_on.ensures.unchanged refl (λ items t st. c.feed_piece.ensures.stands s fed items t st) (taken_gathering out s fed c.loop-next.gatherer was _ now.taken)) in
          let files = kept_files out s first fed c.args.gatherer.now c.loop-next.gatherer was _ _ _ _ at now.taken c.loop-next.invariant.named c.requires.apart in (
            fed_next next.lane piece fed,
            piece_taken out s _ _ first fed c.loop-next.gatherer c.loop-next.offsets was _ now (g.P.LanePieces.file_names c.args.lanes.now) next c.in-Some.ensures (g.P.LanePieces.are_lanes c.read_on.new.self was) piece
                (λ lanes still. let (later, is) = c.in_ok-read_on.ensures.reads was lanes still files in (later, subst (λ p. IsPieceAt next.offset p (get_or lanes next.lane [])) (sym c.piece-piece.ensures.held) is))
                _ _ _ c.feed_piece.ensures.offsets taken,
          );
    }

pub loop-next-smaller : goal.loop-next-smaller
loop-next-smaller g c =
    let next = c.in-Some.next in
    let le = c.loop-next.invariant.within next.lane next.offset c.in-Some.ensures.next in
    less (2 ^ 56) c.loop-next.offsets c.feed_piece.new.offsets next.lane next.offset c.piece-piece.result.now c.feed_piece.ensures.offsets (c.piece-piece.ensures.within le) c.in-Some.ensures.next

pub returns-in_err-read_on-clause-takes : goal.returns-in_err-read_on-clause-takes
returns-in_err-read_on-clause-takes g c out s first was at is =
    let (fed, now) = c.loop-next.invariant.feeding out s first was at is in
    let files = kept_files out s first fed c.args.gatherer.now c.loop-next.gatherer was _ _ _ _ at now.taken c.loop-next.invariant.named c.requires.apart in
    let r = c.from_residual-in_err-read_on in
    let p = err_from_is_err_and r.result r.ensures.1 in
    rw (p.1, p.2) (unread out s _ _ first fed c.loop-next.gatherer c.loop-next.offsets was _ now (g.P.LanePieces.file_names c.args.lanes.now) c.in-Some.next c.in-Some.ensures c.in_err-read_on.field-0.0 _ c.in_err-read_on.ensures.unchanged
    (λ lanes still. subst (λ ns. IsOfStore (Contains ns) c.in_err-read_on.field-0.0) c.loop-next.invariant.named (c.in_err-read_on.ensures.reads was lanes still files)))

pub returns-in_err-take_known-2-clause-takes : goal.returns-in_err-take_known-2-clause-takes
returns-in_err-take_known-2-clause-takes g c out s first was at is =
    let next = c.in-Some.next in
    let piece = c.piece-piece.result.now in
    let (fed, now) = c.loop-next.invariant.feeding out s first was at is in
    let files = kept_files out s first fed c.args.gatherer.now c.loop-next.gatherer was _ _ _ _ at now.taken c.loop-next.invariant.named c.requires.apart in
    let r = c.from_residual-in_err-take_known-2 in
    let p = err_from_is_err_and r.result r.ensures.1 in
    rw (p.1, p.2) (piece_cut out s _ _ first fed c.loop-next.gatherer c.loop-next.offsets was _ now (g.P.LanePieces.file_names c.args.lanes.now) next c.in-Some.ensures (g.P.LanePieces.are_lanes c.read_on.new.self was) piece
    (λ lanes still. let (later, is) = c.in_ok-read_on.ensures.reads was lanes still files in (later, subst (λ p. IsPieceAt next.offset p (get_or lanes next.lane [])) (sym c.piece-piece.ensures.held) is))
    c.in_err-take_known-2.field-0.0 _
    (c.in_err-take_known-2.ensures.takes out s (fed_next next.lane piece fed) was
    (fed_gathering out s fed (fed_next next.lane piece fed) c.loop-next.gatherer _ was _ _ c.in_ok-read_on.ensures.unchanged refl (λ items t st. c.feed_piece.ensures.stands s fed items t st) (taken_gathering out s fed c.loop-next.gatherer was _ now.taken))))

pub returns-clause-takes : goal.returns-clause-takes
returns-clause-takes g c out s first was at is =
    let (fed, now) = c.loop-next.invariant.feeding out s first was at is in
    lanes_taken out s _ _ first fed c.loop-next.gatherer c.loop-next.offsets was _ now [] c.in_default.ensures
