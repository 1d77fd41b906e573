-- How a gatherer stands to what was fed of the lanes, and to the items that were taken of its front.
use Rattle.std.specs.Prelude.{◌≡◌, ℕ, Bool, true, false, List, [], ◌++◌, Option, Result, Ok, Err}
use Rattle.lk_base.specs.Link.{Settings}
use Rattle.lk_base.specs.declared.word.Aligned.{Aligned}
use Rattle.lk_outside.specs.Files.{Files}
use Rattle.event_model.specs.Fed.{AllBegin, Fed, clock_of, rounds as rounds_of}
use Rattle.event_model.specs.Given.{AreItems}
use Rattle.rx_front.specs.Calls.{nothing_fed}
use Rattle.rx_front.specs.Standing as front
use Rattle.rx_front.specs.Standing.{Progress}
use Rattle.run_stops.specs.declared.stop.Stop.{Stop}
use Rattle.lane_words.specs.Items.{AreAllItems}
use Rattle.gather_commands.specs.declared.gatherer.Gatherer.{Gatherer}
use Rattle.gather_commands.specs.Growing.{IsCutShort, IsGathered}

-- this was fed of each lane, and these items were taken and gathered
pub record IsGathering (out : List ℕ) (s : Settings) (fed : List Fed) (g : Gatherer) (was now : Option Files) : Type 0 where
  pub items : List Aligned
  pub progress : Progress
  pub stands : front.Stands g.front s fed items progress
  pub gathered : IsGathered out items g.gathered was now

-- nothing is left of what the clock has shown
pub record HasShown (out : List ℕ) (s : Settings) (fed : List Fed) (g : Gatherer) (was now : Option Files) : Type 0 where
  pub items : List Aligned
  pub progress : Progress
  pub drained : front.Drained g.front s fed items progress
  pub gathered : IsGathered out items g.gathered was now

-- all items that are known of what was fed were taken and gathered, and all rounds were made
pub record HasTaken (out : List ℕ) (s : Settings) (fed : List Fed) (g : Gatherer) (was now : Option Files) : Type 0 where
  pub items : List Aligned
  pub progress : Progress
  pub stands : front.Stands g.front s fed items progress
  pub gathered : IsGathered out items g.gathered was now
  pub rounds : progress.rounds ≡ rounds_of fed
  pub all : (known : List Aligned) → AreItems s (clock_of fed) fed known → known ≡ items

-- these items come first, whatever comes of the lanes
abbrev pub ComeFirst : Settings → List Fed → List Aligned → Type 0
ComeFirst s fed items = (lanes : List (List ℕ)) (all : List Aligned) → AllBegin fed lanes → AreAllItems s lanes all → (rest : List Aligned) × (all ≡ items ++ rest)

-- something stopped the gathering of items that come first
pub record IsCutOff (out : List ℕ) (s : Settings) (fed : List Fed) (why : Stop) (was now : Option Files) : Type 0 where
  pub items : List Aligned
  pub stopped : IsCutShort out items why was now
  pub first : ComeFirst s fed items

-- one more item, or more words, were taken; or nothing was left
abbrev pub TakesNext : List ℕ → Settings → List Fed → Result Bool Stop → Gatherer → Option Files → Option Files → Type 0
TakesNext out s fed (Ok true) g was now = IsGathering out s fed g was now
TakesNext out s fed (Ok false) g was now = HasShown out s fed g was now
TakesNext out s fed (Err why) g was now = IsCutOff out s fed why was now

abbrev pub TakesSome : {T : Type 0} → List ℕ → Settings → List Fed → Result T Stop → Gatherer → Option Files → Option Files → Type 0
TakesSome out s fed (Ok _) g was now = IsGathering out s fed g was now
TakesSome out s fed (Err why) g was now = IsCutOff out s fed why was now

abbrev pub TakesShown : {T : Type 0} → List ℕ → Settings → List Fed → Result T Stop → Gatherer → Option Files → Option Files → Type 0
TakesShown out s fed (Ok _) g was now = HasShown out s fed g was now
TakesShown out s fed (Err why) g was now = IsCutOff out s fed why was now

abbrev pub TakesAll : {T : Type 0} → List ℕ → Settings → List Fed → Result T Stop → Gatherer → Option Files → Option Files → Type 0
TakesAll out s fed (Ok _) g was now = HasTaken out s fed g was now
TakesAll out s fed (Err why) g was now = IsCutOff out s fed why was now

-- nothing was fed and nothing is gathered, or something stopped the making
abbrev pub Begins : List ℕ → Settings → Result Gatherer Stop → Option Files → Option Files → Type 0
Begins out s (Ok g) was now = IsGathering out s (nothing_fed s.lanes) g was now
Begins out s (Err why) was now = IsCutShort out [] why was now
