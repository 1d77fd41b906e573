-- The words file and the table are filled.
use Rattle.std.proofs.Common.{◌≡◌, ℕ, false, List, refl, ap, subst, Option, Ok, Err, Contains}
use Rattle.lk_base.specs.declared.word.RxWord.{RxWord}
use Rattle.lk_outside.specs.Files.{Files, Told}
use Rattle.run_stops.specs.declared.stop.Stop.{Stop}
use Rattle.run_stops.specs.declared.stop.Stop.TheVariants as stop
use Rattle.run_stops.specs.Stops.{StoreStops}
use Rattle.run_shell.specs.declared.finished.Finished.{Finished}
use Rattle.run_shell.specs.Ends.{held_status}
use Rattle.run_shell.specs.Outcome.{Holds, HoldsPart, Outcome}
use Rattle.run_shell.specs.Outputs.{Closed, open_names, outs}
use Rattle.run_shell.specs.Writing.{Writes}
use Rattle.run_shell.proofs.Writing.{done_writes, open_writes, stop_writes}
use Rattle.lane_words.specs.declared.places.PlaceRow.{PlaceRow}
use Rattle.gather_commands.specs.declared.files.GatheredFiles.{GatheredFiles}
use Rattle.gather_commands.specs.Growing.{HasPut}
use Rattle.gather_commands.specs.Table.{contents_of, finished_outcome, gathered_names}
use Rattle.gather_commands.proofs.Stops.{same_contents}

module _ (out text : List ℕ) (words : List RxWord) (rows : List PlaceRow) (f : GatheredFiles) (was now : Option Files) (h : HasPut out words rows f was now) where
  abbrev of : Outcome → Type 0
  of o = o ≡ finished_outcome out text words rows

  -- a part of them was
  pub part_written : (T : Type 0) (why : Stop) (later : Option Files) → StoreStops {T = T} (Contains (open_names f.outputs)) (Err why) → Closed {T = T} f.outputs (contents_of words rows) (Err why) was later → Writes of (gathered_names out) (Err why) was later
  part_written T why later store closed =
      stop_writes of (gathered_names out) T why (contents_of words rows) was later
      (λ o is. (contents_of words rows, ap (λ (p : Outcome). p.files) is, same_contents words rows))
      (subst (λ (ns : List (List ℕ)). StoreStops {T = T} (Contains ns) (Err why)) h.names store)
      (subst (λ (ns : List (List ℕ)). Told was later (HoldsPart (outs ns (contents_of words rows)))) h.names closed)

  pub all_written : (finished : Finished) (later : Option Files) → held_status finished.held ≡ held_status false → finished.text.items ≡ text → Told was later (Holds (outs (open_names f.outputs) (contents_of words rows))) → Writes of (gathered_names out) (Ok finished) was later
  all_written finished later status is closed =
      done_writes of (gathered_names out) finished (contents_of words rows) (finished_outcome out text words rows) was later refl status is refl
      (subst (λ (ns : List (List ℕ)). Told was later (Holds (outs ns (contents_of words rows)))) h.names closed)

  -- memory ran out before
  pub none_written : Writes of (gathered_names out) (Err stop.OutOfMemory) was now
  none_written = open_writes of (gathered_names out) f.outputs (contents_of words rows) was now h.names (λ o is. (contents_of words rows, ap (λ (p : Outcome). p.files) is, same_contents words rows)) h.given
