-- The lanes that `send` wrote, as `gather` reads them.
use Rattle.std.proofs.Common.{◌≡◌, ◌≢◌, ℕ, zero, suc, ◌+◌, ◌<◌, ◌≤◌, cond, List, [], ◌∷◌, length, get_or, sym, ap, ◌∙◌, subst, arith, Some, Result, Ok}
use Rattle.std.proofs.lemmas.List.FromFn.{length-map-range_with_len, get_or-map-range_with_len}
use Rattle.lk_base.specs.Limits.{lane_limit}
use Rattle.lk_outside.specs.Files.{Files, file}
use Rattle.run_stops.specs.Reading.{Refusal, behind, bytes_in}
use Rattle.run_stops.proofs.Readings.{behind_ok, bytes_by_ok}
use Rattle.run_shell.specs.Names.{lane_name, lane_names}
use Rattle.run_shell.specs.Outcome.{Output, content_of}
use Rattle.run_shell.specs.Outputs.{Differ, outs}
use Rattle.run_shell.proofs.Fills.{other, same}
use Rattle.run_shell.proofs.OutputNames.{lanes_differ}
use Rattle.receive_commands.specs.Receive.{lanes_in}

-- ---- the files that were read

same_lanes : (a b : List (List ℕ)) → ◌≡◌ {A = Result (List (List ℕ)) Refusal} (Ok a) (Ok b) → a ≡ b
same_lanes a b e = cc

-- the first of the lanes, and the others
lanes_cut : (files : Files) (name : List ℕ) (names lanes : List (List ℕ)) → lanes_in files (name ∷ names) ≡ Ok lanes →
    (bytes : List ℕ) × (rest : List (List ℕ)) × (bytes_in files name lane_limit ≡ Ok bytes) × (lanes_in files names ≡ Ok rest) × (bytes ∷ rest ≡ lanes)
unfolding lanes_in
lanes_cut files name names lanes e =
    let (bytes, first, more) = behind_ok (bytes_in files name lane_limit) (λ bytes. behind (lanes_in files names) (λ rest. Ok (bytes ∷ rest))) lanes e in
    let (rest, others, all) = behind_ok (lanes_in files names) (λ rest. Ok (bytes ∷ rest)) lanes more in
    (bytes, rest, first, others, same_lanes (bytes ∷ rest) lanes all)

lane_read : (files : Files) (names lanes : List (List ℕ)) (i : ℕ) → lanes_in files names ≡ Ok lanes → i < length names → file files (get_or names i []) ≡ Some (get_or lanes i [])
lane_read files [] lanes i e lt = absurd (omega arith)
lane_read files (name ∷ names) lanes zero e lt =
    let (bytes, rest, first, others, all) = lanes_cut files name names lanes e in
    subst (λ (ls : List (List ℕ)). file files name ≡ Some (get_or ls 0 [])) all (bytes_by_ok name lane_limit (file files name) bytes first)
lane_read files (name ∷ names) lanes (suc i) e lt =
    let (bytes, rest, first, others, all) = lanes_cut files name names lanes e in
    subst (λ (ls : List (List ℕ)). file files (get_or names i []) ≡ Some (get_or ls (suc i) [])) all (lane_read files names rest i others (omega (arith, lt)))

as_many_read : (files : Files) (names lanes : List (List ℕ)) → lanes_in files names ≡ Ok lanes → length lanes ≡ length names
unfolding lanes_in
as_many_read files [] lanes e = ap length (sym (same_lanes [] lanes e))
as_many_read files (name ∷ names) lanes e =
    let (bytes, rest, first, others, all) = lanes_cut files name names lanes e in
    ap length (sym all) ∙ ap suc (as_many_read files names rest others)

-- ---- what files of different names hold

content_among : (names contents : List (List ℕ)) (i : ℕ) → Differ names → length contents ≡ length names → i < length names → content_of (outs names contents) (get_or names i []) ≡ Some (get_or contents i [])
content_among [] contents i d e lt = absurd (omega arith)
content_among (n ∷ names) [] i d e lt = absurd (omega (arith, e))
content_among (n ∷ names) (c ∷ contents) zero d e lt = ap (λ b. cond b (Some c) (content_of (outs names contents) n)) (same n)
content_among (n ∷ names) (c ∷ contents) (suc i) d e lt =
    let ne : n ≢ get_or names i [] = d 0 (suc i) [] (omega arith) lt in
    ap (λ b. cond b (Some c) (content_of (outs names contents) (get_or names i []))) (other n (get_or names i []) ne)
    ∙ content_among names contents i (λ a b z less there. d (suc a) (suc b) z (omega (arith, less)) (omega (arith, there))) (omega (arith, e)) (omega (arith, lt))

from_zero : (k : ℕ) → 0 + k ≡ k
from_zero k = omega arith

module _ (prefix : List ℕ) (lanes : ℕ) (few : lanes ≤ 64) where
  many_names : length (lane_names prefix lanes) ≡ lanes
  many_names = length-map-range_with_len (lane_name prefix) 0 lanes

  name_at : (lane : ℕ) → lane < lanes → get_or (lane_names prefix lanes) lane [] ≡ lane_name prefix lane
  name_at lane lt = get_or-map-range_with_len (lane_name prefix) 0 lanes lane lane [] lt (from_zero lane)

  -- what was written of a lane
  pub was_written : (contents : List (List ℕ)) (outputs : List Output) → length contents ≡ lanes → outputs ≡ outs (lane_names prefix lanes) contents → (lane : ℕ) → lane < lanes → content_of outputs (lane_name prefix lane) ≡ Some (get_or contents lane [])
  was_written contents outputs many wrote lane lt =
      let long = many_names in
      ap (λ (os : List Output). content_of os (lane_name prefix lane)) wrote
      ∙ ap (content_of (outs (lane_names prefix lanes) contents)) (sym (name_at lane lt))
      ∙ content_among (lane_names prefix lanes) contents lane (lanes_differ prefix lanes (omega (arith, few))) (many ∙ sym long) (omega (arith, long, lt))

  -- each lane is read as it was written, where its file holds what was written
  pub as_written : (files : Files) (read contents : List (List ℕ)) (outputs : List Output) → lanes_in files (lane_names prefix lanes) ≡ Ok read → length contents ≡ lanes → outputs ≡ outs (lane_names prefix lanes) contents
      → ((lane : ℕ) → lane < lanes → file files (lane_name prefix lane) ≡ content_of outputs (lane_name prefix lane))
      → (lane : ℕ) → lane < lanes → get_or read lane [] ≡ get_or contents lane []
  as_written files read contents outputs is many wrote stand lane lt =
      let long = many_names in
      let was_read : file files (get_or (lane_names prefix lanes) lane []) ≡ Some (get_or read lane []) = lane_read files (lane_names prefix lanes) read lane is (omega (arith, long, lt)) in
      let all : Some (get_or read lane []) ≡ Some (get_or contents lane []) = sym was_read ∙ ap (file files) (name_at lane lt) ∙ stand lane lt ∙ was_written contents outputs many wrote lane lt in
      cc

  pub many_read : (files : Files) (read : List (List ℕ)) → lanes_in files (lane_names prefix lanes) ≡ Ok read → length read ≡ lanes
  many_read files read is = as_many_read files (lane_names prefix lanes) read is ∙ many_names
