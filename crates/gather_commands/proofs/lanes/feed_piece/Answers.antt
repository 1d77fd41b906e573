use Rattle.std.proofs.Common.{◌≡◌, ◌∙◌, ℕ, List, [], ◌∷◌, length, take, refl, sym, subst, arith}
use Rattle.std.proofs.lemmas.Bool.{eqb-false, eqb-true}
use Rattle.std.proofs.lemmas.List.{take_all}
use Rattle.event_model.specs.Fed.{Fed}
use Rattle.rx_front.specs.Calls.{fed_more, finished_at}
use Rattle.rx_front.specs.Standing.{Stands}
use Rattle.lane_receipts.specs.Feeding.{fed_next}
use Rattle.gather_commands.proofs.lanes.feed_piece.Goals as goal

-- an empty piece ends the lane
piece_ended : (P : List Fed → Type 0) (i : ℕ) (piece : List ℕ) (fed : List Fed) → length piece ≡ 0 → P (finished_at i fed) → P (fed_next i piece fed)
piece_ended P i [] fed e h = h
piece_ended P i (byte ∷ piece) fed e h = absurd (omega (arith, e))

-- another one is fed whole
piece_fed : (P : List Fed → Type 0) (i count : ℕ) (piece : List ℕ) (fed : List Fed) → (length piece ≡ 0 → ⊥) → count ≡ length piece → P (fed_more i (take count piece) fed) → P (fed_next i piece fed)
piece_fed P i count [] fed some e h = absurd (some refl)
piece_fed P i count (byte ∷ piece) fed some e h = subst (λ (bytes : List ℕ). P (fed_more i bytes fed)) (take_all count (byte ∷ piece) (omega (arith, e))) h

pub returns-then-is_empty-clause-stands : goal.returns-then-is_empty-clause-stands
returns-then-is_empty-clause-stands c s fed items t st =
    piece_ended (λ now. Stands c.finish.new.self s now items t) c.args.next.lane c.args.piece.now fed (eqb-true (length c.args.piece.now) 0 (sym c.is_empty.ensures ∙ c.if-is_empty.true)) (c.finish.ensures.stands s fed items t st)

pub returns-else-is_empty-clause-stands : goal.returns-else-is_empty-clause-stands
returns-else-is_empty-clause-stands c s fed items t st =
    let count = c.feed-count.ensures.count in
    let room = c.requires.room in
    let small = c.requires.small in
    let all : c.feed-count.result ≡ length c.args.piece.now = omega (arith, count, room, small) in
    piece_fed (λ now. Stands c.feed-count.new.self s now items t) c.args.next.lane c.feed-count.result c.args.piece.now fed (eqb-false (length c.args.piece.now) 0 (sym c.is_empty.ensures ∙ c.if-is_empty.false)) all
    (c.feed-count.ensures.stands s fed items t st)
