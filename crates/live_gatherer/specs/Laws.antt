-- The laws on what a gatherer gives, in whatever pieces and order of lanes it is fed.
use Rattle.std.specs.Prelude.{ℕ, ◌≡◌, Bool, true, false, cond, List, [], ◌∷◌, ◌++◌, map, is_some, Option, Some, None}
use Rattle.lk_base.specs.declared.word.Aligned.{Aligned}
use Rattle.lk_base.specs.declared.word.Aligned.TheVariants.{Group, Word, Break}
use Rattle.lk_base.specs.declared.word.RxWord.{RxWord}
use Rattle.lk_base.specs.Link.{Settings}
use Rattle.event_model.specs.Fed.{AllBegin, Fed, all_finished}
use Rattle.lane_words.specs.declared.places.PlaceRow.{PlaceRow}
use Rattle.lane_words.specs.Gathered.{between, gathered_words, is_break, own_words, places}
use Rattle.lane_words.specs.Items.{AreAllItems}
use Rattle.rx_front.specs.Lanes.{are_ready}
use Rattle.live_gatherer.specs.declared.gatherer.LiveGatherer.{LiveGatherer}
use Rattle.live_gatherer.specs.declared.types.Gathered.{Gathered}
use Rattle.live_gatherer.specs.Calls.{IsNext}
use Rattle.live_gatherer.specs.Numbers.{Numbered, numbered}
use Rattle.live_gatherer.specs.Standing.{Stands}
use Rattle.live_gatherer.specs.Taking.{AreAll}

-- ---- words and rows

-- the words that were given, with one Bad word between a break and what comes after it
abbrev pub words_given : Bool → List Numbered → List RxWord
words_given broken [] = []
words_given broken (x ∷ given) = between broken ++ (own_words x.item ++ words_given (is_break x.item) given)

-- the row of a break with this number
abbrev pub break_rows : ℕ → Aligned → List PlaceRow
break_rows number (Group at) = []
break_rows number (Word at word) = []
break_rows number (Break at why) = record { word = number; at = at; why = Some why } ∷ []

-- the rows of the breaks that were given
abbrev pub rows_given : List Numbered → List PlaceRow
rows_given [] = []
rows_given (x ∷ given) = break_rows x.number x.item ++ rows_given given

-- the rows that have a cause
abbrev pub with_cause : List PlaceRow → List PlaceRow
with_cause [] = []
with_cause (row ∷ rows) = cond (is_some row.why) (row ∷ with_cause rows) (with_cause rows)

-- one Bad word more, if a group begins after a break, and no word of it and no break come; a break stands right before these items or
-- not, and a group has begun before them or not
abbrev pub begun_after : Bool → Bool → List Aligned → List RxWord
begun_after broken begun [] = cond begun (between broken) []
begun_after broken begun (Group at ∷ items) = begun_after broken true items
begun_after broken begun (Word at word ∷ items) = begun_after false false items
begun_after broken begun (Break at why ∷ items) = begun_after true false items

abbrev pub begun : List Aligned → List RxWord
begun items = begun_after false false items

-- of any items, with their groups
pub record AreGathered (items : List Aligned) : Type 0 where
  pub words : gathered_words items ≡ words_given false (numbered items) ++ begun items
  pub breaks : with_cause (places items) ≡ rows_given (numbered items)

abbrev pub NumberedAreGathered : Type 0
NumberedAreGathered = (items : List Aligned) → AreGathered items

-- of whole lanes all words are given: after the last break no group begins
abbrev pub AllAreGathered : Type 0
AllAreGathered = (s : Settings) (lanes : List (List ℕ)) (items : List Aligned) → AreAllItems s lanes items →
    (begun items ≡ []) × (gathered_words items ≡ words_given false (numbered items))

-- ---- what was given

-- it is the first of what is given of all lanes whose bytes begin with what was fed, and are equal to it on finished lanes
abbrev pub GivenComeFirst : Type 0
GivenComeFirst = (g : LiveGatherer) (s : Settings) (fed : List Fed) (given : List Numbered) (lanes : List (List ℕ)) (all : List Aligned) →
    Stands g s fed given → AllBegin fed lanes → AreAllItems s lanes all → (rest : List Numbered) × (numbered all ≡ given ++ rest)

-- once the end was given, it is all that is given of the lanes
abbrev pub EndGaveAll : Type 0
EndGaveAll = (g : LiveGatherer) (s : Settings) (fed : List Fed) (given : List Numbered) (items : List Aligned) →
    Stands g s fed given → g.over ≡ true → AreAllItems s (map (λ lane. lane.bytes) fed) items → (all_finished fed ≡ true) × (given ≡ numbered items)

-- While a lane is not finished, none comes if and only if all that is known of what was fed was given; then a lane that is not finished
-- lacks bytes
pub record WaitsForBytes (g h : LiveGatherer) (s : Settings) (fed : List Fed) (given : List Numbered) (answer : Option Gathered) : Type 0 where
  pub none : AreAll s fed given → answer ≡ None
  pub all : answer ≡ None → AreAll s fed given
  pub lacks : answer ≡ None → are_ready h.taker.front.lanes ≡ false

abbrev pub NoneWaitsForBytes : Type 0
NoneWaitsForBytes = (g h : LiveGatherer) (s : Settings) (fed : List Fed) (given : List Numbered) (answer : Option Gathered) →
    Stands g s fed given → IsNext g h answer → all_finished fed ≡ false → WaitsForBytes g h s fed given answer
