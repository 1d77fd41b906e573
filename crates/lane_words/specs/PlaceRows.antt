-- The rows of places, told by the epochs of the lanes.
use Rattle.std.specs.Prelude.{◌≡◌, ◌<◌, ◌+◌, ◌*◌, ℕ, true, List, [], ◌∷◌, ◌++◌, length, map, Some, None}
use Rattle.std.specs.List.{range_with_len}
use Rattle.lk_base.specs.declared.word.Aligned.{Aligned}
use Rattle.lk_base.specs.Link.{Settings}
use Rattle.receive_model.specs.Positions.{Epoch}
use Rattle.epoch_model.specs.Groups.{AreEpochs, SyncAt, metaframes_on, name_of, size_of}
use Rattle.epoch_model.specs.KnownLaw.{AreLanes, all_over, epoch_of}
use Rattle.epoch_model.specs.SoFar.{AreKnown, EpochSoFar, LaneSoFar, tracks_in}
use Rattle.lane_words.specs.declared.places.PlaceRow.{PlaceRow}
use Rattle.lane_words.specs.Gathered.{places}

-- the row of a group whose first word has this number
abbrev pub group_row : ℕ → List SyncAt → PlaceRow
group_row number group = record { word = number; at = record { group = name_of group; index = 0 }; why = None }

-- The rows of an epoch whose first word has this number: one for each of its groups, the last one too, which may lack words; and one
-- for its break, with the number of the word that stands for the break.
abbrev pub rows_of_epoch : Settings → ℕ → EpochSoFar → List PlaceRow
rows_of_epoch s number e =
    map (λ m. group_row (number + m * size_of s e.first) (metaframes_on s m e.first)) (range_with_len 0 e.whole)
    ++ group_row (number + e.whole * size_of s e.first) (metaframes_on s e.whole e.first)
    ∷ record { word = number + length (epoch_of s e).words; at = (epoch_of s e).ended_at; why = Some (epoch_of s e).ended_by }
    ∷ []

-- the rows of epochs, with one word between each two
abbrev pub rows_of_epochs : Settings → ℕ → List EpochSoFar → List PlaceRow
rows_of_epochs s number [] = []
rows_of_epochs s number (e ∷ epochs) = rows_of_epoch s number e ++ rows_of_epochs s (number + length (epoch_of s e).words + 1) epochs

-- these are the epochs, each told by its groups, and the rows are theirs
pub record HaveRows (s : Settings) (items : List Aligned) (epochs : List Epoch) : Type 0 where
  pub so_far : List EpochSoFar
  pub epochs_are : map (epoch_of s) so_far ≡ epochs
  pub rows : places items ≡ rows_of_epochs s 0 so_far

-- the rows of all items of lanes are those of the epochs of the lanes
abbrev pub RowsAreOfEpochs : Type 0
RowsAreOfEpochs = (s : Settings) (lanes : List LaneSoFar) (items : List Aligned) (epochs : List Epoch) → 2 * s.deskew < s.metaframe → AreLanes s lanes →
    all_over lanes ≡ true → AreKnown s lanes items → AreEpochs s s.deskew (tracks_in lanes) epochs → HaveRows s items epochs
