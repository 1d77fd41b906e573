use Rattle.std.proofs.Common.{◌≡◌, ◌<◌, ℕ, zero, suc, List, [], ◌∷◌, length, map, take, drop, get_or, refl, ap, subst, arith}
use Rattle.std.proofs.lemmas.List.{length-drop, length-take}
use Rattle.lane_receipts.specs.Held.{vec_bytes}
use Rattle.lane_receipts.specs.Taking.{IsPieceAt}
use Rattle.lane_receipts.proofs.held_lanes.HeldLanesLanePieces.read_on.Goals as goal

-- the first are this many
first_of : (n : ℕ) (xs : List ℕ) → take n xs ≡ take (length (take n xs)) xs
first_of zero xs = refl
first_of (suc n) [] = refl
first_of (suc n) (x ∷ xs) = ap (λ r. x ∷ r) (first_of n xs)

piece_there : (most offset : ℕ) (bytes : List ℕ) → 0 < most → IsPieceAt offset (take most (drop offset bytes)) bytes
piece_there most offset bytes some = record {
  taken = first_of most (drop offset bytes);
  stops = λ none. (let t = length-take most (drop offset bytes) in let d = length-drop offset bytes in omega arith);
}

pub returns-clause-reads : goal.returns-clause-reads
returns-clause-reads g c was lanes are before =
    let held = map vec_bytes c.args.self.now.lanes.now in (
      are,
      subst (λ (ls : List (List ℕ)). IsPieceAt c.args._offset (take 4096 (drop c.args._offset (get_or held c.args._lane []))) (get_or ls c.args._lane [])) are
          (piece_there 4096 c.args._offset (get_or held c.args._lane []) (omega arith)),
    )
