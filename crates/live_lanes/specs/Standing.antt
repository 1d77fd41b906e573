-- What the lanes of a link have made of what they were given, and what was taken of them.
use Rattle.std.specs.Prelude.{ℕ, ◌≡◌, ◌<◌, ◌+◌, ◌*◌, ◌%◌, ◌==◌, cond, Bool, true, false, List, [], ◌++◌, length, get_or}
use Rattle.lk_base.specs.declared.word.Word.{Word}
use Rattle.lk_base.specs.Link.{Settings, IsLink}
use Rattle.lane_model.specs.Striping.{lane_payload}
use Rattle.metaframe.specs.Writing.{payload_place}
use Rattle.tx_end.specs.Lanes.{Carries, IsCarried}
use Rattle.live_lanes.specs.States.{Lane, Lanes}

-- the settings of the link, the payload words that were given, how many words each lane made, and the bytes that were taken of each
pub record Progress : Type 0 where
  pub settings : Settings
  pub payload : List Word
  pub columns : ℕ
  pub taken : ℕ → List ℕ

abbrev pub progress : Settings → List Word → ℕ → (ℕ → List ℕ) → Progress
progress settings payload columns taken = record { settings = settings; payload = payload; columns = columns; taken = taken }

abbrev pub begun : Settings → Progress
begun settings = progress settings [] 0 (λ i. [])

-- each lane made a framing word
abbrev pub framed : Progress → Progress
framed p = progress p.settings p.payload (p.columns + 1) p.taken

-- each lane made a payload word, of these in the order of lanes
abbrev pub with_row : List Word → Progress → Progress
with_row words p = progress p.settings (p.payload ++ words) (p.columns + 1) p.taken

-- these bytes were taken of a lane
abbrev pub took : ℕ → List ℕ → Progress → Progress
took lane bytes p = progress p.settings p.payload p.columns (λ i. cond (i == lane) (p.taken i ++ bytes) (p.taken i))

-- The bytes that were taken of a lane, and the ones that wait, are those of as many words as each lane made, of the lane's own
-- payload words: the whole bytes of these, and once it has ended all.
abbrev pub IsSent : Bool → Progress → ℕ → Lane → Type 0
IsSent false p i l = Carries l.writer p.settings i (lane_payload p.settings.lanes p.payload i) p.columns (p.taken i ++ l.waiting) × (length l.writer.bits < 8)
IsSent true p i l = IsCarried p.settings i (lane_payload p.settings.lanes p.payload i) p.columns (p.taken i ++ l.waiting)

pub record Stands (v : Lanes) (p : Progress) : Type 0 where
  pub limits : IsLink p.settings
  pub link : v.link ≡ p.settings
  pub count : length v.lanes ≡ p.settings.lanes
  pub place : v.place ≡ p.columns % p.settings.metaframe
  -- each lane was given its payload word of each row
  pub rows : length p.payload ≡ payload_place p.settings p.columns * p.settings.lanes
  -- they end after whole metaframes
  pub whole : v.ended ≡ true → v.place ≡ 0
  pub each : (i : ℕ) (d : Lane) → i < p.settings.lanes → IsSent v.ended p i (get_or v.lanes i d)
