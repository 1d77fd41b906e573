-- How the words file and the table grow.
use Rattle.std.specs.Prelude.{◌≡◌, ℕ, false, List, length, Option, Result, Ok, Err, Contains}
use Rattle.lk_outside.specs.Files.{Files, Told}
use Rattle.lk_base.specs.declared.word.Aligned.{Aligned}
use Rattle.lk_base.specs.declared.word.RxWord.{RxWord}
use Rattle.run_stops.specs.declared.stop.Stop.{Stop}
use Rattle.run_stops.specs.Stops.{IsOfStore}
use Rattle.run_shell.specs.Outcome.{HoldsPart}
use Rattle.run_shell.specs.Outputs.{IsOpen, open_names, outs}
use Rattle.gather_commands.specs.declared.files.GatheredFiles.{GatheredFiles}
use Rattle.gather_commands.specs.declared.gathered.Gathered.{Gathered}
use Rattle.lane_words.specs.declared.places.PlaceRow.{PlaceRow}
use Rattle.gather_commands.specs.Table.{contents_of, gathered_names}
use Rattle.lane_words.specs.Gathered.{ends_broken, epochs_in, gathered_words, places}

-- ---- words and rows

-- the two files were given these words and these rows, since the files were so
pub record HasPut (out : List ℕ) (words : List RxWord) (rows : List PlaceRow) (f : GatheredFiles) (was now : Option Files) : Type 0 where
  pub names : open_names f.outputs ≡ gathered_names out
  pub given : IsOpen f.outputs (contents_of words rows) was now
  pub count : f.words ≡ length words

-- they were to be given these words and rows, and this stopped them; a part of that stands
pub record IsStopped (out : List ℕ) (words : List RxWord) (rows : List PlaceRow) (why : Stop) (was now : Option Files) : Type 0 where
  pub by_store : IsOfStore (Contains (gathered_names out)) why
  pub part : Told was now (HoldsPart (outs (gathered_names out) (contents_of words rows)))

abbrev pub Puts : {T : Type 0} → List ℕ → List RxWord → List PlaceRow → Result T Stop → GatheredFiles → Option Files → Option Files → Type 0
Puts out words rows (Ok _) f was now = HasPut out words rows f was now
Puts out words rows (Err why) f was now = IsStopped out words rows why was now

abbrev pub PutsNew : List ℕ → List RxWord → List PlaceRow → Result GatheredFiles Stop → Option Files → Option Files → Type 0
PutsNew out words rows (Ok f) was now = HasPut out words rows f was now
PutsNew out words rows (Err why) was now = IsStopped out words rows why was now

-- ---- items

-- these items were gathered
pub record IsGathered (out : List ℕ) (items : List Aligned) (g : Gathered) (was now : Option Files) : Type 0 where
  pub files : HasPut out (gathered_words items) (places items) g.files was now
  pub epochs : g.epochs ≡ epochs_in items
  pub broken : g.broken ≡ ends_broken false items

-- or were to be, and something stopped them
abbrev pub IsCutShort : List ℕ → List Aligned → Stop → Option Files → Option Files → Type 0
IsCutShort out items why was now = IsStopped out (gathered_words items) (places items) why was now

abbrev pub Gathers : {T : Type 0} → List ℕ → List Aligned → Result T Stop → Gathered → Option Files → Option Files → Type 0
Gathers out items (Ok _) g was now = IsGathered out items g was now
Gathers out items (Err why) g was now = IsCutShort out items why was now

abbrev pub GathersNew : List ℕ → List Aligned → Result Gathered Stop → Option Files → Option Files → Type 0
GathersNew out items (Ok g) was now = IsGathered out items g was now
GathersNew out items (Err why) was now = IsCutShort out items why was now
