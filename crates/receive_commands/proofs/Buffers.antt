-- What is held of lanes.
use Rattle.std.proofs.Common.{◌≡◌, ℕ, zero, suc, ◌+◌, ◌-◌, ◌<◌, ◌≤◌, ◌^◌, All, List, [], ◌∷◌, length, take, drop, set, get_or, min, nat_le, nat_lt, true, refl, sym, ap, ◌∙◌, subst, arith, inl, inr, ◌⊎◌}
use Rattle.std.proofs.lemmas.Bool.{and_parts}
use Rattle.std.proofs.lemmas.Bool.Decides.{nat_tests}
use Rattle.std.proofs.Math.Seq.{drop-nil}
use Rattle.std.proofs.lemmas.List.{drop-take, length-drop, length-take, length-take-le}
use Rattle.lane_receipts.specs.Taking.{IsPieceAt}
use Rattle.receive_commands.specs.declared.lane_buffer.LaneBuffer.{LaneBuffer}
use Rattle.receive_commands.specs.ReadLanes.{AllHold, HoldsOf, IsBuffer, IsFresh, IsFront, held_from, holds_at, piece_in}

-- ---- pieces

drop_drop : (a b c : ℕ) (xs : List ℕ) → c ≡ a + b → drop b (drop a xs) ≡ drop c xs
drop_drop zero b c xs e = let same : b ≡ c = omega arith in ap (λ k. drop k xs) same
drop_drop (suc a) b c [] e = drop-nil b ∙ sym (drop-nil c)
drop_drop (suc a) b zero (x ∷ xs) e = absurd (omega arith)
drop_drop (suc a) b (suc c) (x ∷ xs) e = drop_drop a b c xs (omega arith)

-- the first of the first are some first
first_part : (j m : ℕ) (xs : List ℕ) → take j (take m xs) ≡ take (length (take j (take m xs))) xs
first_part zero m xs = refl
first_part (suc j) zero xs = refl
first_part (suc j) (suc m) [] = refl
first_part (suc j) (suc m) (x ∷ xs) = ap (λ r. x ∷ r) (first_part j m xs)

module _ (most start n k : ℕ) (held bytes : List ℕ) (within : k ≤ n) (taken : take n held ≡ take n (drop start bytes)) where
  behind : (offset : ℕ) → offset ≡ start + k → drop k (take n held) ≡ take (n - k) (drop offset bytes)
  behind offset at =
      let sum : n ≡ k + (n - k) = omega arith in
      ap (drop k) taken ∙ ap (λ m. drop k (take m (drop start bytes))) sum ∙ drop-take k (n - k) (drop start bytes) ∙ ap (take (n - k)) (drop_drop start k offset bytes at)

  -- what is held of bytes is a piece of them
  pub held_piece : (offset : ℕ) → offset ≡ start + k → take most (drop k (take n held)) ≡ take (length (take most (drop k (take n held)))) (drop offset bytes)
  held_piece offset at =
      subst (λ xs. take most xs ≡ take (length (take most xs)) (drop offset bytes)) (sym (behind offset at)) (first_part most (n - k) (drop offset bytes))

held_length : (most k n : ℕ) (held : List ℕ) → n ≤ length held → length (take most (drop k (take n held))) ≡ min most (n - k)
held_length most k n held le =
    let t = length-take-le n held le in
    let d = length-drop k (take n held) in
    let l = length-take most (drop k (take n held)) in
    l ∙ ap (min most) (d ∙ ap (λ m. m - k) t)

-- a buffer in which the byte at the offset is held
pub already_held : (b : LaneBuffer) (bytes : List ℕ) (offset : ℕ) → IsBuffer b → HoldsOf bytes b → b.start ≤ offset → offset < b.start + b.count → IsPieceAt offset (held_from b offset) bytes
already_held b bytes offset is holds from to = record {
  taken = held_piece 4096 b.start b.count (offset - b.start) b.bytes.items bytes (omega arith) holds offset (omega arith);
  stops = λ none. absurd (let l = held_length 4096 (offset - b.start) b.count b.bytes.items is.inside in omega arith);
}

-- a buffer that was filled from the offset on
pub filled_from : (b : LaneBuffer) (bytes : List ℕ) (offset : ℕ) → IsBuffer b → HoldsOf bytes b → b.start ≡ offset → (b.count ≡ 0 → length bytes ≤ offset) → IsPieceAt offset (held_from b offset) bytes
filled_from b bytes offset is holds at ends = record {
  taken = held_piece 4096 b.start b.count (offset - b.start) b.bytes.items bytes (omega arith) holds offset (omega arith);
  stops = λ none. ends (let l = held_length 4096 (offset - b.start) b.count b.bytes.items is.inside in omega arith);
}

-- whether the byte at the offset is held
pub held_so : (b : LaneBuffer) (offset : ℕ) → holds_at b offset ≡ true → (b.start ≤ offset) × (offset < b.start + b.count)
held_so b offset e =
    let p = and_parts (nat_le b.start offset) (nat_lt offset (b.start + b.count)) e in
    (from_le p.0, from_lt p.1)
  where
    from_le : nat_le b.start offset ≡ true → b.start ≤ offset
    from_le t = grind (arith, nat_tests)

    from_lt : nat_lt offset (b.start + b.count) ≡ true → offset < b.start + b.count
    from_lt t = grind (arith, nat_tests)

pub piece_within : (b : LaneBuffer) (offset : ℕ) (piece : List ℕ) → IsBuffer b → piece ≡ held_from b offset → offset ≤ 2 ^ 56 → offset + length piece ≤ 2 ^ 56
piece_within b offset piece is e le =
    let l = held_length 4096 (offset - b.start) b.count b.bytes.items is.inside in
    let same : length piece ≡ length (held_from b offset) = ap length e in
    let within = is.within in
    omega arith

-- bytes of a file stand in a buffer
pub front_fills : (b : LaneBuffer) (bytes : List ℕ) (offset most : ℕ) → IsBuffer b → b.start ≡ offset → IsFront offset most b.count b.bytes.items bytes → (0 < most ⊎ (length bytes ≤ offset)) → HoldsOf bytes b × IsPieceAt offset (held_from b offset) bytes
front_fills b bytes offset most is at front some =
    let holds : HoldsOf bytes b = subst (λ k. take b.count b.bytes.items ≡ take b.count (drop k bytes)) (sym at) front.taken in
    (holds, filled_from b bytes offset is holds at (λ none. elim some [ inl more ↦ front.stops none more is.room | inr over ↦ over ]))

-- ---- the buffers of all lanes

pub piece_is : (buffers : List LaneBuffer) (lane offset : ℕ) (b : LaneBuffer) → lane < length buffers → b ≡ get_or buffers lane b → piece_in buffers lane offset ≡ held_from b offset
piece_is [] lane offset b lt is = absurd (omega arith)
piece_is (x ∷ buffers) zero offset b lt is = ap (λ (y : LaneBuffer). held_from y offset) (sym is)
piece_is (x ∷ buffers) (suc lane) offset b lt is = piece_is buffers lane offset b (omega arith) is

pub piece_set : (buffers : List LaneBuffer) (lane offset : ℕ) (b : LaneBuffer) → lane < length buffers → piece_in (set buffers lane b) lane offset ≡ held_from b offset
piece_set [] lane offset b lt = absurd (omega arith)
piece_set (x ∷ buffers) zero offset b lt = refl
piece_set (x ∷ buffers) (suc lane) offset b lt = piece_set buffers lane offset b (omega arith)

pub hold_at : (lanes : List (List ℕ)) (buffers : List LaneBuffer) (lane : ℕ) (b : LaneBuffer) → lane < length buffers → b ≡ get_or buffers lane b → AllHold lanes buffers → HoldsOf (get_or lanes lane []) b
hold_at [] [] lane b lt is h = absurd (omega arith)
hold_at [] (x ∷ buffers) lane b lt is h = absurd h
hold_at (bytes ∷ lanes) [] lane b lt is h = absurd h
hold_at (bytes ∷ lanes) (x ∷ buffers) zero b lt is h = subst (λ (y : LaneBuffer). HoldsOf bytes y) (sym is) h.0
hold_at (bytes ∷ lanes) (x ∷ buffers) (suc lane) b lt is h = hold_at lanes buffers lane b (omega arith) is h.1

pub hold_set : (lanes : List (List ℕ)) (buffers : List LaneBuffer) (lane : ℕ) (b : LaneBuffer) → AllHold lanes buffers → HoldsOf (get_or lanes lane []) b → AllHold lanes (set buffers lane b)
hold_set [] [] lane b h here = h
hold_set [] (x ∷ buffers) lane b h here = absurd h
hold_set (bytes ∷ lanes) [] lane b h here = absurd h
hold_set (bytes ∷ lanes) (x ∷ buffers) zero b h here = (here, h.1)
hold_set (bytes ∷ lanes) (x ∷ buffers) (suc lane) b h here = (h.0, hold_set lanes buffers lane b h.1 here)

-- nothing is held yet
pub fresh_hold : (lanes : List (List ℕ)) (buffers : List LaneBuffer) → length lanes ≡ length buffers → All IsFresh buffers → AllHold lanes buffers
fresh_hold [] [] e fresh = tt
fresh_hold [] (x ∷ buffers) e fresh = absurd (omega arith)
fresh_hold (bytes ∷ lanes) [] e fresh = absurd (omega arith)
fresh_hold (bytes ∷ lanes) (x ∷ buffers) e fresh =
    let none = (fresh 0 x (omega arith)).nothing in
    (subst (λ n. take n x.bytes.items ≡ take n (drop x.start bytes)) (sym none) refl, fresh_hold lanes buffers (omega arith) (λ k d lt. fresh (suc k) d (omega arith)))
