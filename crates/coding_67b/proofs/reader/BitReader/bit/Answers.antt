-- The next bit of the byte that was begun, or the first of the next.
use Rattle.std.proofs.Common.{◌≡◌, ℕ, refl, sym, ap, ◌∙◌, ◌-◌, ◌<◌, ◌≤◌, ◌==◌, Bool, List, [], ◌∷◌, ◌++◌, length, arith}
use Rattle.std.specs.Int.{bit_at}
use Rattle.lk_base.specs.Checksum.{bits_of, bits_of_bytes}
use Rattle.coding_67b.proofs.Cut.{first_bit}
use Rattle.lk_base.proofs.Bits.{no_bits}
use Rattle.coding_67b.proofs.reader.BitReader.bit.Goals as goal

none_never : (bit : Bool) (bits now : List Bool) → bit ∷ bits ≡ now → now ≡ [] → ⊥
none_never bit bits now e f = let g : bit ∷ bits ≡ [] = e ∙ f in let l = ap length g in omega (arith, l)

-- a bit of the byte that was begun
begun : (left byte : ℕ) (bytes : List ℕ) (bit : Bool) (now : List Bool) → bits_of left byte ++ bits_of_bytes bytes ≡ now → 0 < left → bit ≡ (bit_at byte (left - 1) == 1) →
    now ≡ bit ∷ (bits_of (left - 1) byte ++ bits_of_bytes bytes)
begun left byte bytes bit now e h f =
    sym e ∙ ap (λ bits. bits ++ bits_of_bytes bytes) (first_bit left byte h) ∙ ap (λ b. b ∷ (bits_of (left - 1) byte ++ bits_of_bytes bytes)) (sym f)

-- the first of the next byte
next : (left old byte : ℕ) (bytes rest : List ℕ) (bit : Bool) (now : List Bool) → bits_of left old ++ bits_of_bytes bytes ≡ now → left ≤ 0 → bytes ≡ byte ∷ rest → bit ≡ (bit_at byte 7 == 1) →
    now ≡ bit ∷ (bits_of 7 byte ++ bits_of_bytes rest)
next left old byte bytes rest bit now e h f g =
    let z : left ≡ 0 = omega arith in
    sym e
    ∙ ap (λ n. bits_of n old ++ bits_of_bytes bytes) z
    ∙ ap (λ bits. bits ++ bits_of_bytes bytes) (no_bits old)
    ∙ ap bits_of_bytes f
    ∙ ap (λ bits. bits ++ bits_of_bytes rest) (first_bit 8 byte (omega arith))
    ∙ ap (λ b. b ∷ (bits_of 7 byte ++ bits_of_bytes rest)) (sym g)

none : (left old : ℕ) (bytes : List ℕ) (now : List Bool) → bits_of left old ++ bits_of_bytes bytes ≡ now → left ≤ 0 → length bytes ≡ 0 → now ≡ []
none left old [] now e h k = let z : left ≡ 0 = omega arith in sym e ∙ ap (λ n. bits_of n old ++ []) z ∙ ap (λ bits. bits ++ []) (no_bits old)
none left old (b ∷ bytes) now e h k = absurd (omega arith)

pub returns-then-self-gt0-clause-none : goal.returns-then-self-gt0-clause-none
returns-then-self-gt0-clause-none c =
    (λ e. absurd (cc e), λ e. absurd (none_never _ _ c.args.self.now (sym (begun c.self.inside.left c.self.inside.byte c.self.inside.rest.now c.bit_of.result c.args.self.now c.self.view_is c.if-self-gt0.true c.bit_of.ensures)) e))

pub returns-then-self-gt0-clause-some : goal.returns-then-self-gt0-clause-some
returns-then-self-gt0-clause-some c =
    begun c.self.inside.left c.self.inside.byte c.self.inside.rest.now c.bit_of.result c.args.self.now c.self.view_is c.if-self-gt0.true c.bit_of.ensures

pub returns-in-None-clause-none : goal.returns-in-None-clause-none
returns-in-None-clause-none c =
    (λ _. none c.self.inside.left c.self.inside.byte c.self.inside.rest.now c.args.self.now c.self.view_is c.if-self-gt0.false c.in-None.ensures.cases, λ _. refl)

pub returns-in-Some-clause-none : goal.returns-in-Some-clause-none
returns-in-Some-clause-none c =
    (λ e. absurd (cc e), λ e. absurd (none_never _ _ c.args.self.now (sym (next c.self.inside.left c.self.inside.byte c.in-Some.byte.now c.self.inside.rest.now c.in-Some.rest.now c.bit_of-in-Some.result c.args.self.now c.self.view_is c.if-self-gt0.false c.in-Some.ensures.cases.0 c.bit_of-in-Some.ensures)) e))

pub returns-in-Some-clause-some : goal.returns-in-Some-clause-some
returns-in-Some-clause-some c =
    next c.self.inside.left c.self.inside.byte c.in-Some.byte.now c.self.inside.rest.now c.in-Some.rest.now c.bit_of-in-Some.result c.args.self.now c.self.view_is c.if-self-gt0.false c.in-Some.ensures.cases.0 c.bit_of-in-Some.ensures
