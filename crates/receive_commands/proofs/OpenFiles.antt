-- The lanes of files, and how they are read on.
use Rattle.std.proofs.Common.{◌≡◌, ℕ, zero, suc, ◌<◌, ◌≤◌, false, List, [], ◌∷◌, length, get_or, nat_lt, sym, ap, ◌∙◌, subst, arith, inl, inr, Option, Some, None, IfSome, Result, Ok, Err, Contains}
use Rattle.std.proofs.lemmas.Bool.{cases_Bool}
use Rattle.std.proofs.lemmas.Bool.Decides.{nat_tests}
use Rattle.std.proofs.lemmas.List.FromFn.{length-map-range_with_len}
use Rattle.run_shell.specs.Names.{lane_name, lane_names}
use Rattle.lk_base.specs.Limits.{lane_limit}
use Rattle.lk_outside.specs.Files.{Files, file}
use Rattle.run_stops.specs.declared.stop.Stop.{Stop}
use Rattle.run_stops.specs.Reading.{behind, bytes_by, bytes_in}
use Rattle.run_stops.proofs.Readings.{behind_ok}
use Rattle.run_shell.proofs.Creating.{named_at}
use Rattle.lane_receipts.specs.Taking.{AreAsBefore, ReadsOn}
use Rattle.lane_receipts.proofs.TakenLanes.{widened}
use Rattle.receive_commands.specs.declared.lane_buffer.LaneBuffer.{LaneBuffer}
use Rattle.receive_commands.specs.Receive.{lanes_in}
use Rattle.receive_commands.specs.ReadLanes.{AllHold, AreFileLanes, LanesFill, piece_in}

-- ---- the lanes of files

bytes_there : (name : List ℕ) (o : Option (List ℕ)) (bytes : List ℕ) → bytes_by name lane_limit o ≡ Ok bytes → (o ≡ Some bytes) × (length bytes ≤ lane_limit)
bytes_there name None bytes e = absurd (cc)
bytes_there name (Some found) bytes e = elim (cases_Bool (nat_lt lane_limit (length found))) [
  | inl t ↦ absurd (let f : Err _ ≡ Ok bytes = rw t at e in cc)
  | inr t ↦ (
      let same : Ok found ≡ Ok bytes = rw t at e in
      let is : found ≡ bytes = cc in
      let within : length found ≤ lane_limit = no_more t in
      (ap Some is, subst (λ (bs : List ℕ). length bs ≤ lane_limit) is within))
]
  where
    no_more : nat_lt lane_limit (length found) ≡ false → length found ≤ lane_limit
    no_more t = grind (arith, nat_tests)

lanes_cons : (files : Files) (name : List ℕ) (names lanes : List (List ℕ)) → lanes_in files (name ∷ names) ≡ Ok lanes → (bytes : List ℕ) × (rest : List (List ℕ)) × (bytes_in files name lane_limit ≡ Ok bytes) × (lanes_in files names ≡ Ok rest) × (lanes ≡ bytes ∷ rest)
unfolding lanes_in
lanes_cons files name names lanes e =
    let (bytes, had, more) = behind_ok (bytes_in files name lane_limit) (λ b. behind (lanes_in files names) (λ ls. Ok (b ∷ ls))) lanes e in
    let (rest, got, is) = behind_ok (lanes_in files names) (λ ls. Ok (bytes ∷ ls)) lanes more in
    let same : bytes ∷ rest ≡ lanes = cc in
    (bytes, rest, had, got, sym same)

lanes_nil : (files : Files) (lanes : List (List ℕ)) → lanes_in files [] ≡ Ok lanes → lanes ≡ []
unfolding lanes_in
lanes_nil files lanes e = let same : [] ≡ lanes = cc in sym same

-- the bytes of a lane are those of its file
pub lane_there : (files : Files) (names lanes : List (List ℕ)) (i : ℕ) → i < length names → lanes_in files names ≡ Ok lanes → (file files (get_or names i []) ≡ Some (get_or lanes i [])) × (length (get_or lanes i []) ≤ lane_limit)
lane_there files [] lanes i lt e = absurd (omega arith)
lane_there files (name ∷ names) lanes zero lt e =
    let (bytes, rest, had, got, is) = lanes_cons files name names lanes e in
    subst (λ ls. (file files name ≡ Some (get_or ls 0 [])) × (length (get_or ls 0 []) ≤ lane_limit)) (sym is) (bytes_there name (file files name) bytes had)
lane_there files (name ∷ names) lanes (suc i) lt e =
    let (bytes, rest, had, got, is) = lanes_cons files name names lanes e in
    subst (λ ls. (file files (get_or names i []) ≡ Some (get_or ls (suc i) [])) × (length (get_or ls (suc i) []) ≤ lane_limit)) (sym is) (lane_there files names rest i (omega arith) got)

-- there are as many lanes as names
count_in : (files : Files) (names lanes : List (List ℕ)) → lanes_in files names ≡ Ok lanes → length lanes ≡ length names
count_in files [] lanes e = ap (λ (ls : List (List ℕ)). length ls) (lanes_nil files lanes e)
count_in files (name ∷ names) lanes e =
    let (bytes, rest, had, got, is) = lanes_cons files name names lanes e in
    let more = count_in files names rest got in
    let here = ap (λ (ls : List (List ℕ)). length ls) is in
    omega arith

pub lanes_count : (files : Files) (out : List ℕ) (count : ℕ) (lanes : List (List ℕ)) → lanes_in files (lane_names out count) ≡ Ok lanes → length lanes ≡ count
lanes_count files out count lanes e = count_in files (lane_names out count) lanes e ∙ length-map-range_with_len (lane_name out) 0 count

-- ---- reading

module _ {T : Type 0} (names : List (List ℕ)) (lane offset : ℕ) (name : List ℕ) (buffers after : List LaneBuffer) where
  read_at : (result : Result T Stop) (files : Files) (lanes : List (List ℕ)) → Contains names name → lanes_in files names ≡ Ok lanes → AllHold lanes buffers → LanesFill name lanes lane offset result buffers after
      → ReadsOn names (AreFileLanes names after (Some files) lanes) offset (piece_in after lane offset) (get_or lanes lane []) result
  read_at (Ok x) files lanes among e hold h = let (later, piece) = h hold in ((e, later), piece)
  read_at (Err why) files lanes among e hold h = widened (λ n. n ≡ name) (Contains names) why (λ q is. subst (Contains names) (sym is) among) (h hold)

  -- a lane was read on in its file, which is as before
  pub reads_on : (result : Result T Stop) (was now : Option Files) (lanes : List (List ℕ)) → lane < length names → name ≡ get_or names lane [] → AreFileLanes names buffers was lanes → AreAsBefore names was now
      → IfSome now (λ files. (ls : List (List ℕ)) → file files name ≡ Some (get_or ls lane []) → length (get_or ls lane []) ≤ lane_limit → LanesFill name ls lane offset result buffers after)
      → ReadsOn names (AreFileLanes names after was lanes) offset (piece_in after lane offset) (get_or lanes lane []) result
  reads_on result None now lanes lt is are before h = absurd are
  reads_on result (Some files) None lanes lt is are before h = absurd before
  reads_on result (Some files) (Some later) lanes lt is are before h =
      let among = named_at names lane name lt is in
      let (there, few) = lane_there files names lanes lane lt are.0 in
      read_at result files lanes among are.0 are.1 (h lanes (before name among ∙ ap (file files) is ∙ there) few)
