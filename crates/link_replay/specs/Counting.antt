-- A watch of the front of a receiver, where these words were sent.
use Rattle.std.specs.Prelude.{ℕ, ◌≡◌, List, map}
use Rattle.lk_base.specs.declared.word.Aligned.{Aligned}
use Rattle.lk_base.specs.declared.word.Word.{Word}
use Rattle.lk_base.specs.Checksum.{bits_of_bytes}
use Rattle.lk_base.specs.Link.{Settings}
use Rattle.epoch_model.specs.GroupLaw.{HasAttempts}
use Rattle.link_laws.specs.Accidents.{Sent}
use Rattle.link_laws.specs.Received.{bits_of_lanes, whole_lane}
use Rattle.rx_front.specs.States as fronts
use Rattle.rx_end.specs.Observing.{SawAll}
use Rattle.link_replay.specs.Standing.{Holds, Watch, Watches, sent_of}

pub record Counter : Type 0 where
  pub watch : Watch
  -- the words that were sent
  pub words : List Word

-- what was sent
abbrev pub given_to : Counter → Sent
given_to c = sent_of c.watch c.words

-- the lanes of this link declared these locks so far, and these items were taken
pub record Counts (c : Counter) (s : Settings) (locks : ℕ → List ℕ) (items : List Aligned) : Type 0 where
  pub settings : c.watch.settings ≡ s
  pub held : Holds c.watch c.words locks items

-- and what is not the sender's among them is counted, where the lanes have these bytes in the end
pub record HasCounted (c : Counter) (s : Settings) (lanes : List (List ℕ)) (locks : ℕ → List ℕ) (items : List Aligned) : Type 0 where
  -- what the bits of the lanes determine
  pub all : List (HasAttempts s.metaframe)
  pub bits : bits_of_lanes all ≡ map bits_of_bytes lanes
  pub watches : Watches c.watch c.words (map (whole_lane s) all) locks items

-- all of the lanes is counted
abbrev pub HasCountedAll : Counter → fronts.State → Settings → List (List ℕ) → Type 0
HasCountedAll c f s lanes = SawAll Counts HasCounted c f s lanes

-- of some lanes
abbrev pub HasCountedSome : Counter → Type 0
HasCountedSome c = (f : fronts.State) × (s : Settings) × (lanes : List (List ℕ)) × HasCountedAll c f s lanes
