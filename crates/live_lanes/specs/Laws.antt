-- The laws on the bytes that are taken of lanes.
use Rattle.std.specs.Prelude.{ℕ, ◌≡◌, ◌<◌, ◌≤◌, ◌+◌, ◌*◌, ◌/◌, ◌%◌, true, false, List, [], ◌++◌, length, get_or, take}
use Rattle.lk_base.specs.declared.word.Word.{Word}
use Rattle.lk_base.specs.Link.{group_of}
use Rattle.lane_model.specs.LaneBits.{IsFileOf, stream_lane_bits}
use Rattle.metaframe.specs.Writing as metaframe
use Rattle.live_lanes.specs.States.{Lane, Lanes}
use Rattle.live_lanes.specs.Lanes.{waiting_on, wants_payload}
use Rattle.live_lanes.specs.Standing.{Progress, Stands}

-- What was taken of a lane is the first of its file, whatever payload words follow: if these and the ones that were given fill the
-- metaframes that were begun. Once the lanes have ended none follow.
abbrev pub TakenAreFirst : Type 0
TakenAreFirst = (v : Lanes) (p : Progress) (rest : List Word) (i : ℕ) (file : List ℕ) → Stands v p → i < p.settings.lanes →
    (v.ended ≡ true → rest ≡ []) → p.columns ≤ length (p.payload ++ rest) / group_of p.settings * p.settings.metaframe →
    IsFileOf file (stream_lane_bits p.settings (p.payload ++ rest) i) → take (length (p.taken i)) file ≡ p.taken i

-- Once the lanes have ended the payload words are whole groups, and what was taken of a lane is its file if nothing waits.
abbrev pub AllTakenAreTheFile : Type 0
AllTakenAreTheFile = (v : Lanes) (p : Progress) (i : ℕ) → Stands v p → v.ended ≡ true → i < p.settings.lanes → waiting_on i v ≡ [] →
    (length p.payload % group_of p.settings ≡ 0) × IsFileOf (p.taken i) (stream_lane_bits p.settings p.payload i)

-- On each lane as many bytes were taken or wait as on each other.
abbrev pub AreInStep : Type 0
AreInStep = (v : Lanes) (p : Progress) (i j : ℕ) → Stands v p → i < p.settings.lanes → j < p.settings.lanes →
    length (p.taken i ++ waiting_on i v) ≡ length (p.taken j ++ waiting_on j v)

-- Until the lanes have ended, the bytes of a lane that were taken or wait are as many as the words that each lane made complete, of 67
-- bits each.
abbrev pub AreWholeBytes : Type 0
AreWholeBytes = (v : Lanes) (p : Progress) (i : ℕ) → Stands v p → v.ended ≡ false → i < p.settings.lanes →
    length (p.taken i) + length (waiting_on i v) ≡ 67 * p.columns / 8

-- Until the lanes have ended the next word of each is of the kind that all want.
abbrev pub AllWantTheSame : Type 0
AllWantTheSame = (v : Lanes) (p : Progress) (i : ℕ) (d : Lane) → Stands v p → v.ended ≡ false → i < p.settings.lanes →
    metaframe.wants_payload (get_or v.lanes i d).writer.framing ≡ wants_payload v
