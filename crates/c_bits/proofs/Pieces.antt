-- The bits of pieces are those of the bytes that were taken, and of the part that is left.
use Rattle.std.proofs.Common.{ℕ, ◌≡◌, refl, sym, ap, ◌∙◌, subst, ◌+◌, ◌-◌, ◌*◌, ◌<◌, ◌≤◌, ◌==◌, Bool, true, false, List, [], ◌∷◌, ◌++◌, length, drop, take, arith, append_assoc, append-nil, lit≤}
use Rattle.std.specs.Prelude.{if◌then◌else◌}
use Rattle.std.specs.List.{flat_map}
use Rattle.std.proofs.lemmas.Bool.{eqb-true, eqb-false}
use Rattle.std.proofs.lemmas.List.{length-append, length-take-le, take-append-drop, take_all, take_at}
use Rattle.std.proofs.lemmas.List.Concat.{flat_map-append}
use Rattle.lk_base.specs.Checksum.{bits_of, bits_of_bytes}
use Rattle.lane_model.proofs.FilesHold.{length-flat_map_bits}
use Rattle.lane_model.proofs.Numbers.{split}
use Rattle.c_bits.specs.Bits.{IsPiece, Piece}
use Rattle.c_bits.specs.Laws.{ArePieces, BitsAreKept, bits_taken, bytes_taken}

-- the first bytes of bits that are cut have the bits before some of the given ones, and those
some_taken : (old given rest : List Bool) (bytes : List ℕ) (c k : ℕ) → bits_of_bytes bytes ++ rest ≡ old ++ given → c ≤ length bytes → k + length old ≡ 8 * c → length rest < 8 →
    bits_of_bytes (take c bytes) ≡ old ++ take k given
some_taken old given rest bytes c k e le is few =
    let front : List Bool = bits_of_bytes (take c bytes) in
    let back : List Bool = bits_of_bytes (drop c bytes) in
    let whole : bits_of_bytes bytes ≡ front ++ back = ap bits_of_bytes (sym (take-append-drop c bytes)) ∙ flat_map-append (bits_of 8) (take c bytes) (drop c bytes) in
    let many : length front ≡ 8 * c = length-flat_map_bits 8 (take c bytes) ∙ ap (λ n. 8 * n) (length-take-le c bytes le) in
    let all : 8 * length bytes + length rest ≡ length old + length given =
    ap (λ n. n + length rest) (sym (length-flat_map_bits 8 bytes)) ∙ sym (length-append (bits_of_bytes bytes) rest) ∙ ap length e ∙ length-append old given in
    let within : k ≤ length given = omega (arith, all, le, is) in
    let sum : length old + k ≡ 8 * c = omega (arith, is) in
    let kept : length (old ++ take k given) ≡ 8 * c = length-append old (take k given) ∙ ap (λ n. length old + n) (length-take-le k given within) ∙ sum in
    let left : take (8 * c) (bits_of_bytes bytes ++ rest) ≡ front =
    ap (λ b. take (8 * c) (b ++ rest)) whole ∙ ap (take (8 * c)) (append_assoc front back rest) ∙ take_at front (back ++ rest) (8 * c) many in
    let right : take (8 * c) (old ++ given) ≡ old ++ take k given =
    ap (λ b. take (8 * c) (old ++ b)) (sym (take-append-drop k given)) ∙ ap (take (8 * c)) (sym (append_assoc old (take k given) (drop k given))) ∙ take_at (old ++ take k given) (drop k given) (8 * c) kept in
    sym left ∙ ap (take (8 * c)) e ∙ right

-- what one piece leaves
abbrev Keeps : List Bool → List Bool → Piece → Type 0
Keeps old new p = (bits_of_bytes (take p.count p.bytes) ++ new ≡ old ++ take p.taken p.given) × (length new < 8)

all_kept : (old new : List Bool) (p : Piece) (t : IsPiece old new p) → (p.count == length p.bytes) ≡ true → Keeps old new p
all_kept old new p t all =
    let n : p.count ≡ length p.bytes = eqb-true p.count (length p.bytes) all in
    let taken : p.taken ≡ length p.given = t.taken ∙ ap (λ b. if b then length p.given else 8 * p.count - length old) all in
    let left : new ≡ t.rest = t.left ∙ ap (λ b. if b then t.rest else if p.count == 0 then old else []) all in
    let bytes : take p.count p.bytes ≡ p.bytes = take_all p.count p.bytes (omega (arith, n)) in
    let given : take p.taken p.given ≡ p.given = take_all p.taken p.given (omega (arith, taken)) in (
      ap (λ b. bits_of_bytes b ++ new) bytes ∙ ap (λ r. bits_of_bytes p.bytes ++ r) left ∙ t.cut.bits ∙ ap (λ g. old ++ g) (sym given),
      subst (λ (r : List Bool). length r < 8) (sym left) t.cut.few,
    )

none_kept : (old new : List Bool) (p : Piece) (t : IsPiece old new p) → length old < 8 → (p.count == length p.bytes) ≡ false → (p.count == 0) ≡ true → Keeps old new p
none_kept old new p t few not none =
    let n : p.count ≡ 0 = eqb-true p.count 0 none in
    let taken : p.taken ≡ 8 * p.count - length old = t.taken ∙ ap (λ b. if b then length p.given else 8 * p.count - length old) not in
    let nothing : p.taken ≡ 0 = omega (arith, n, taken) in
    let left : new ≡ old = t.left ∙ ap (λ b. if b then t.rest else if p.count == 0 then old else []) not ∙ ap (λ b. if b then old else []) none in
    let bytes : take p.count p.bytes ≡ [] = ap (λ m. take m p.bytes) n in
    let given : take p.taken p.given ≡ [] = ap (λ m. take m p.given) nothing in (
      ap (λ b. bits_of_bytes b ++ new) bytes ∙ left ∙ sym (append-nil old) ∙ ap (λ g. old ++ g) (sym given),
      subst (λ (r : List Bool). length r < 8) (sym left) few,
    )

some_kept : (old new : List Bool) (p : Piece) (t : IsPiece old new p) → length old < 8 → (p.count == length p.bytes) ≡ false → (p.count == 0) ≡ false → Keeps old new p
some_kept old new p t few not some =
    let ne : (p.count ≡ 0) → ⊥ = eqb-false p.count 0 some in
    let taken : p.taken ≡ 8 * p.count - length old = t.taken ∙ ap (λ b. if b then length p.given else 8 * p.count - length old) not in
    let sum : p.taken + length old ≡ 8 * p.count = omega (arith, taken, few) in
    let left : new ≡ [] = t.left ∙ ap (λ b. if b then t.rest else if p.count == 0 then old else []) not ∙ ap (λ b. if b then old else []) some in (
      ap (λ r. bits_of_bytes (take p.count p.bytes) ++ r) left ∙ append-nil (bits_of_bytes (take p.count p.bytes)) ∙ some_taken old p.given t.rest p.bytes p.count p.taken t.cut.bits t.within sum t.cut.few,
      subst (λ (r : List Bool). length r < 8) (sym left) (lit≤ tt),
    )

pub piece_kept : (old new : List Bool) (p : Piece) → length old < 8 → IsPiece old new p → Keeps old new p
piece_kept old new p few t = split (λ all. all_kept old new p t all) (λ not. split (λ none. none_kept old new p t few not none) (λ some. some_kept old new p t few not some))

pieces_kept : (pieces : List Piece) (old new : List Bool) → length old < 8 → ArePieces old pieces new →
    (bits_of_bytes (flat_map bytes_taken pieces) ++ new ≡ old ++ flat_map bits_taken pieces) × (length new < 8)
pieces_kept [] old new few are = (sym are ∙ sym (append-nil old), subst (λ (r : List Bool). length r < 8) are few)
pieces_kept (p ∷ pieces) old new few are =
    let mid : List Bool = are.0 in
    let one = piece_kept old mid p few are.1 in
    let more = pieces_kept pieces mid new one.1 are.2 in
    let front : List Bool = bits_of_bytes (bytes_taken p) in
    let back : List Bool = bits_of_bytes (flat_map bytes_taken pieces) in (
      ap (λ b. b ++ new) (flat_map-append (bits_of 8) (bytes_taken p) (flat_map bytes_taken pieces))
          ∙ append_assoc front back new
          ∙ ap (λ b. front ++ b) more.0
          ∙ sym (append_assoc front mid (flat_map bits_taken pieces))
          ∙ ap (λ b. b ++ flat_map bits_taken pieces) one.0
          ∙ append_assoc old (bits_taken p) (flat_map bits_taken pieces),
      more.1,
    )

pub bits_are_kept : BitsAreKept
bits_are_kept pieces new are = pieces_kept pieces [] new (lit≤ tt) are
