-- The lanes that were read: how many they are, and how long.
use Rattle.std.proofs.Common.{◌≡◌, ℕ, zero, suc, ◌≤◌, false, List, [], ◌∷◌, length, get_or, nat_lt, sym, ap, ◌∙◌, subst, arith, inl, inr, Option, Some, None, Ok, Err}
use Rattle.std.proofs.lemmas.Bool.{cases_Bool}
use Rattle.std.proofs.lemmas.Bool.Decides.{nat_tests}
use Rattle.std.proofs.lemmas.List.FromFn.{length-map-range_with_len}
use Rattle.lk_base.specs.Limits.{lane_limit}
use Rattle.lk_outside.specs.Files.{Files, file}
use Rattle.run_stops.specs.Reading.{behind, bytes_by, bytes_in}
use Rattle.run_stops.proofs.Readings.{behind_ok}
use Rattle.run_shell.specs.Names.{lane_name, lane_names}
use Rattle.receive_commands.specs.Receive.{lanes_in}
use Rattle.inspect_commands.specs.Telling.{AreShort}

bytes_short : (name : List ℕ) (o : Option (List ℕ)) (bytes : List ℕ) → bytes_by name lane_limit o ≡ Ok bytes → length bytes ≤ lane_limit
bytes_short name None bytes e = absurd (cc)
bytes_short name (Some found) bytes e = elim (cases_Bool (nat_lt lane_limit (length found))) [
  | inl t ↦ absurd (let f : Err _ ≡ Ok bytes = rw t at e in cc)
  | inr t ↦ (
      let same : Ok found ≡ Ok bytes = rw t at e in
      let is : found ≡ bytes = cc in
      let within : length found ≤ lane_limit = no_more t in
      subst (λ (bs : List ℕ). length bs ≤ lane_limit) is within)
]
  where
    no_more : nat_lt lane_limit (length found) ≡ false → length found ≤ lane_limit
    no_more t = grind (arith, nat_tests)

lanes_cons : (files : Files) (name : List ℕ) (names lanes : List (List ℕ)) → lanes_in files (name ∷ names) ≡ Ok lanes → (bytes : List ℕ) × (rest : List (List ℕ)) × (bytes_in files name lane_limit ≡ Ok bytes) × (lanes_in files names ≡ Ok rest) × (lanes ≡ bytes ∷ rest)
unfolding lanes_in
lanes_cons files name names lanes e =
    let (bytes, had, more) = behind_ok (bytes_in files name lane_limit) (λ b. behind (lanes_in files names) (λ ls. Ok (b ∷ ls))) lanes e in
    let (rest, got, is) = behind_ok (lanes_in files names) (λ ls. Ok (bytes ∷ ls)) lanes more in
    let same : bytes ∷ rest ≡ lanes = cc in
    (bytes, rest, had, got, sym same)

lanes_nil : (files : Files) (lanes : List (List ℕ)) → lanes_in files [] ≡ Ok lanes → lanes ≡ []
unfolding lanes_in
lanes_nil files lanes e = let same : [] ≡ lanes = cc in sym same

-- no lane is longer than the limit
pub lanes_short : (files : Files) (names lanes : List (List ℕ)) → lanes_in files names ≡ Ok lanes → AreShort lanes
lanes_short files [] lanes e i = subst (λ (ls : List (List ℕ)). length (get_or ls i []) ≤ lane_limit) (sym (lanes_nil files lanes e)) (omega arith)
lanes_short files (name ∷ names) lanes e zero =
    let (bytes, rest, had, got, is) = lanes_cons files name names lanes e in
    subst (λ (ls : List (List ℕ)). length (get_or ls 0 []) ≤ lane_limit) (sym is) (bytes_short name (file files name) bytes had)
lanes_short files (name ∷ names) lanes e (suc i) =
    let (bytes, rest, had, got, is) = lanes_cons files name names lanes e in
    subst (λ (ls : List (List ℕ)). length (get_or ls (suc i) []) ≤ lane_limit) (sym is) (lanes_short files names rest got i)

-- there are as many lanes as names
count_in : (files : Files) (names lanes : List (List ℕ)) → lanes_in files names ≡ Ok lanes → length lanes ≡ length names
count_in files [] lanes e = ap (λ (ls : List (List ℕ)). length ls) (lanes_nil files lanes e)
count_in files (name ∷ names) lanes e =
    let (bytes, rest, had, got, is) = lanes_cons files name names lanes e in
    let more = count_in files names rest got in
    let here = ap (λ (ls : List (List ℕ)). length ls) is in
    omega arith

pub lanes_count : (files : Files) (out : List ℕ) (count : ℕ) (lanes : List (List ℕ)) → lanes_in files (lane_names out count) ≡ Ok lanes → length lanes ≡ count
lanes_count files out count lanes e = count_in files (lane_names out count) lanes e ∙ length-map-range_with_len (lane_name out) 0 count
