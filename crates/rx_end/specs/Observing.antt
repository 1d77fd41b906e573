-- What an observer of a receiver is told, and how it stands to what the receiver's front showed.
use Rattle.std.specs.Prelude.{ℕ, ◌≡◌, ◌<◌, ◌*◌, ◌^◌, true, List, [], ◌∷◌, ◌++◌, map, take}
use Rattle.std.specs.List.{cons_option}
use Rattle.lk_base.specs.declared.word.Aligned.{Aligned}
use Rattle.lk_base.specs.Link.{Settings}
use Rattle.event_model.specs.Fed.{AllBegin, Fed, longest, whole}
use Rattle.event_model.specs.Given.{AreItems}
use Rattle.rx_front.specs.Calls.{nothing_fed}
use Rattle.rx_front.specs.Locks.{declared_at}
use Rattle.rx_front.specs.Standing as front
use Rattle.rx_front.specs.Standing.{Progress, begun, locks_at}
use Rattle.rx_front.specs.States as fronts
use Rattle.rx_end.specs.Stages.{is_closed}
use Rattle.rx_end.specs.States.{State}

-- ---- what holds of an observer

-- what holds of it where the lanes of a link declared these locks, lane number i those of i, and these items were taken
abbrev pub Keeping : Type 0 → Type 1
Keeping O = O → Settings → (ℕ → List ℕ) → List Aligned → Type 0

-- the same of lanes that have these bytes in the end
abbrev pub Seeing : Type 0 → Type 1
Seeing O = O → Settings → List (List ℕ) → (ℕ → List ℕ) → List Aligned → Type 0

-- ---- what it is told

-- The front stands so: of the lanes this was fed, fewer than 2^57 bytes of each, and these items were taken. The observer was told
-- these locks and items.
pub record Knows {O : Type 0} (keeps : Keeping O) (o : O) (f : fronts.State) (s : Settings) (fed : List Fed) (taken : List Aligned) (t : Progress) (locks : ℕ → List ℕ) (told : List Aligned) : Type 0 where
  pub few : longest fed < 2 ^ 57
  pub stands : front.Stands f s fed taken t
  pub kept : keeps o s locks told

-- it knows now of these locks and items
pub record Learns {O : Type 0} (keeps : Keeping O) (saw : Seeing O) (o p : O) (s : Settings) (fed : List Fed) (before now : ℕ → List ℕ) (told all : List Aligned) : Type 0 where
  pub kept : keeps p s now all
  -- of all lanes whose bytes begin with what was fed
  pub seen : (lanes : List (List ℕ)) → AllBegin fed lanes → saw o s lanes before told → saw p s lanes now all

-- ---- words

-- the observer was told all that was taken of a front, and of no word that waits in it
pub record AsksWords {O : Type 0} (keeps : Keeping O) (o : O) (f : fronts.State) : Type 0 where
  pub s : Settings
  pub fed : List Fed
  pub items : List Aligned
  pub t : Progress
  pub knows : Knows keeps o f s fed items t (λ i. locks_at i t) items

-- it is told this many of them
abbrev pub TakesWords : {O : Type 0} → Keeping O → Seeing O → O → O → fronts.State → ℕ → Type 0
TakesWords keeps saw o p f count =
    (s : Settings) (fed : List Fed) (items : List Aligned) (t : Progress) → Knows keeps o f s fed items t (λ i. locks_at i t) items →
    Learns keeps saw o p s fed (λ i. locks_at i t) (λ i. locks_at i t) items (items ++ take count f.waiting)

-- ---- an item

-- a front gave this item last; the observer was told all that was taken of it before
pub record AsksItem {O : Type 0} (keeps : Keeping O) (o : O) (f : fronts.State) (item : Aligned) : Type 0 where
  pub s : Settings
  pub fed : List Fed
  pub items : List Aligned
  pub t : Progress
  pub knows : Knows keeps o f s fed (items ++ item ∷ []) t (λ i. locks_at i t) items

-- it is told the item
abbrev pub TakesItem : {O : Type 0} → Keeping O → Seeing O → O → O → fronts.State → Aligned → Type 0
TakesItem keeps saw o p f item =
    (s : Settings) (fed : List Fed) (items : List Aligned) (t : Progress) → Knows keeps o f s fed (items ++ item ∷ []) t (λ i. locks_at i t) items →
    Learns keeps saw o p s fed (λ i. locks_at i t) (λ i. locks_at i t) items (items ++ item ∷ [])

-- ---- locks

-- Each lane has now declared the locks before, and the one that it declared at the bit that the clock of a front passed last, if it
-- declared one there.
abbrev pub AreLater : fronts.State → (ℕ → List ℕ) → (ℕ → List ℕ) → Type 0
AreLater f before now = (i : ℕ) → now i ≡ before i ++ cons_option (declared_at i f) []

-- the clock of a front moved on; the observer was told all locks that were declared before
pub record AsksLocks {O : Type 0} (keeps : Keeping O) (o : O) (f : fronts.State) : Type 0 where
  pub s : Settings
  pub fed : List Fed
  pub items : List Aligned
  pub t : Progress
  pub before : ℕ → List ℕ
  pub later : AreLater f before (λ i. locks_at i t)
  pub knows : Knows keeps o f s fed items t before items

-- it is told those of the bit that was passed last
abbrev pub TakesLocks : {O : Type 0} → Keeping O → Seeing O → O → O → fronts.State → Type 0
TakesLocks keeps saw o p f =
    (s : Settings) (fed : List Fed) (items : List Aligned) (t : Progress) (before : ℕ → List ℕ) → AreLater f before (λ i. locks_at i t) → Knows keeps o f s fed items t before items →
    Learns keeps saw o p s fed before (λ i. locks_at i t) items items

-- ---- a receiver that tells an observer

-- the last round of a front found all lanes at their end, and all items were taken
pub record IsAtEnd (f : fronts.State) : Type 0 where
  pub over : f.over ≡ true
  pub left : f.left ≡ 0
  pub none : f.waiting ≡ []
  pub settled : f.deskew.settled ≡ true

-- A receiver, to which this was fed of the lanes, fewer than 2^57 bytes of each, has told the observer all locks that they declared
-- and all items that were taken of its front.
pub record HasTold {O : Type 0} (keeps : Keeping O) (o : O) (v : State) (s : Settings) (fed : List Fed) : Type 0 where
  pub items : List Aligned
  pub t : Progress
  pub knows : Knows keeps o v.front s fed items t (λ i. locks_at i t) items
  pub closed : is_closed v.stage ≡ true → IsAtEnd v.front

-- A receiver of some lanes has told the observer so.
abbrev pub HasToldSome : {O : Type 0} → Keeping O → O → State → Type 0
HasToldSome keeps o v = (s : Settings) × (fed : List Fed) × HasTold keeps o v s fed

-- A receiver has told the observer so, and the observer has seen it of lanes that have these bytes in the end.
pub record HasSeen {O : Type 0} (keeps : Keeping O) (saw : Seeing O) (o : O) (v : State) (s : Settings) (fed : List Fed) (lanes : List (List ℕ)) : Type 0 where
  pub told : HasTold keeps o v s fed
  pub seen : saw o s lanes (λ i. locks_at i told.t) told.items

-- On the way from one state to another a receiver tells the observer each lock that its lanes declare and each item that is taken
-- of its front.
pub record Tells {O : Type 0} (keeps : Keeping O) (saw : Seeing O) (o p : O) (v w : State) : Type 0 where
  pub told : (s : Settings) (fed : List Fed) → HasTold keeps o v s fed → HasTold keeps p w s fed
  pub seen : (s : Settings) (fed : List Fed) (lanes : List (List ℕ)) → AllBegin fed lanes → HasSeen keeps saw o v s fed lanes → HasSeen keeps saw p w s fed lanes

-- ---- from the first call on

-- nothing was fed, and nothing is over
pub record IsFresh (v : State) (s : Settings) : Type 0 where
  pub front : front.Stands v.front s (nothing_fed s.lanes) [] (begun s.lanes)
  pub runs : is_closed v.stage ≡ true → ⊥

-- On the way from one state of a receiver to another what was fed of the lanes becomes `more` of it, and nothing is taken of the
-- front.
pub record Feeds (more : List Fed → List Fed) (v w : State) : Type 0 where
  pub stands : (s : Settings) (fed : List Fed) (items : List Aligned) (t : Progress) → front.Stands v.front s fed items t → front.Stands w.front s (more fed) items t
  -- it is still fewer than 2^57 bytes of each lane
  pub few : (s : Settings) (fed : List Fed) (items : List Aligned) (t : Progress) → front.Stands v.front s fed items t → longest fed < 2 ^ 57 → longest (more fed) < 2 ^ 57
  pub stage : w.stage ≡ v.stage
  pub at_end : IsAtEnd v.front → IsAtEnd w.front

-- ---- the end

-- An observer has seen all items of lanes with these bytes, and all their locks: the clock has passed the last bit of each, and
-- all items that are known there were taken.
pub record SawAll {O : Type 0} (keeps : Keeping O) (saw : Seeing O) (o : O) (f : fronts.State) (s : Settings) (lanes : List (List ℕ)) : Type 0 where
  pub items : List Aligned
  pub t : Progress
  pub knows : Knows keeps o f s (map whole lanes) items t (λ i. locks_at i t) items
  pub seen : saw o s lanes (λ i. locks_at i t) items
  pub past : 8 * longest (map whole lanes) < t.clock
  pub all : (known : List Aligned) → AreItems s t.clock (map whole lanes) known → known ≡ items
