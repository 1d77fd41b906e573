-- An observer of lanes that go over into a receiver.
use Rattle.std.proofs.Common.{◌≡◌, ◌≢◌, ℕ, Bool, true, List, [], ◌∷◌, length, take, refl, subst, arith}
use Rattle.std.proofs.lemmas.List.{take_all}
use Rattle.lk_base.specs.Link.{Settings}
use Rattle.event_model.specs.Fed.{AllBegin, Fed}
use Rattle.rx_front.specs.Calls.{fed_more, finished_at}
use Rattle.rx_end.specs.Observing.{Feeds, HasToldSome, Keeping, Seeing, Tells}
use Rattle.rx_end.specs.Stages.{is_closed}
use Rattle.rx_end.specs.States.{State}
use Rattle.rx_end.proofs.Observed.{saw_all, seen_fed, told_fed}
use Rattle.lane_receipts.specs.Feeding.{fed_next}
use Rattle.lane_receipts.specs.Holding.{FollowsLanes}
use Rattle.lane_receipts.specs.Taking.{ObservesLanes}

-- ---- a piece is fed

pub piece_ended : (i : ℕ) (piece : List ℕ) (v w : State) → length piece ≡ 0 → Feeds (finished_at i) v w → Feeds (fed_next i piece) v w
piece_ended i [] v w none feeds = record { stands = feeds.stands; few = feeds.few; stage = feeds.stage; at_end = feeds.at_end }
piece_ended i (byte ∷ piece) v w none feeds = absurd (omega (arith, none))

pub piece_fed : (i n : ℕ) (piece : List ℕ) (v w : State) → length piece ≢ 0 → n ≡ length piece → Feeds (fed_more i (take n piece)) v w → Feeds (fed_next i piece) v w
piece_fed i n [] v w some is feeds = absurd (some refl)
piece_fed i n (byte ∷ piece) v w some is feeds =
    let all : take n (byte ∷ piece) ≡ byte ∷ piece = take_all n (byte ∷ piece) (omega (arith, is)) in
    let fed : Feeds (fed_more i (byte ∷ piece)) v w = subst (λ (p : List ℕ). Feeds (fed_more i p) v w) all feeds in
    record { stands = fed.stands; few = fed.few; stage = fed.stage; at_end = fed.at_end }

-- ---- an observer

module _ {O : Type 0} (keeps : Keeping O) (saw : Seeing O) where
  -- lanes were fed on
  pub some_fed : (asks : Bool) (o : O) (more : List Fed → List Fed) (v w : State) → Feeds more v w → (asks ≡ true → HasToldSome keeps o v) → asks ≡ true → HasToldSome keeps o w
  some_fed asks o more v w feeds some e = (let (s, fed, kept) = some e in (s, more fed, told_fed keeps saw o more v w s fed feeds kept))

  module _ (s : Settings) (Are : List (List ℕ) → Type 0) (first : List Fed) where
    pub first_followed : (o p : O) (v w : State) → Tells keeps saw o p v w → FollowsLanes keeps saw o p v w s Are first first
    first_followed o p v w tells lanes are begin seen = tells.seen s first lanes begin seen

    module _ (o p : O) (v w : State) (fed : List Fed) (follows : FollowsLanes keeps saw o p v w s Are first fed) where
      pub next_followed : (q : O) (more : List Fed → List Fed) (w' u : State) → Feeds more w w' → Tells keeps saw p q w' u → ((lanes : List (List ℕ)) → Are lanes → AllBegin first lanes → AllBegin (more fed) lanes)
          → FollowsLanes keeps saw o q v u s Are first (more fed)
      next_followed q more w' u feeds tells from lanes are begin seen =
          tells.seen s (more fed) lanes (from lanes are begin) (seen_fed keeps saw p more w w' s fed lanes feeds (follows lanes are begin seen))

      pub lanes_seen : is_closed w.stage ≡ true → ((lanes : List (List ℕ)) → Are lanes → AllBegin first lanes → AllBegin fed lanes) → ObservesLanes keeps saw o p v w s first Are
      lanes_seen closed from lanes are begin seen = saw_all keeps saw p w s fed lanes (follows lanes are begin seen) closed (from lanes are begin)
