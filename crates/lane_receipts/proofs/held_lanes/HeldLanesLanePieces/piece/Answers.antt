use Rattle.std.proofs.Common.{◌≡◌, ◌≤◌, ◌<◌, ◌+◌, ◌^◌, ℕ, List, length, take, drop, sym, ap, subst, arith}
use Rattle.std.proofs.lemmas.List.{length-drop, length-take}
use Rattle.lane_receipts.proofs.held_lanes.HeldLanesLanePieces.piece.Goals as goal

within : (limit most offset : ℕ) (bytes piece : List ℕ) → length bytes < limit → piece ≡ take most (drop offset bytes) → offset ≤ limit → offset + length piece ≤ limit
within limit most offset bytes piece few is le =
    let t = length-take most (drop offset bytes) in
    let d = length-drop offset bytes in
    let l : length piece ≡ length (take most (drop offset bytes)) = ap length is in
    omega arith

pub returns-clause-within : goal.returns-clause-within
returns-clause-within c le =
    let few = c.requires.limits c.args.lane c.index-self-lane.result c.requires.place in
    let short : length c.deref.result.now < 2 ^ 56 = subst (λ (bytes : List ℕ). length bytes < 2 ^ 56) (sym c.deref.ensures.value) few in
    within (2 ^ 56) 4096 c.args.offset c.deref.result.now c.piece_of.result.now short c.piece_of.ensures.first le
