-- Any bits are those of one file.
use Rattle.std.proofs.Common.{ℕ, zero, suc, ◌≡◌, refl, sym, ap, ◌∙◌, ◌+◌, ◌-◌, ◌*◌, ◌^◌, ◌<◌, ◌≤◌, Bool, false, List, [], ◌∷◌, ◌++◌, length, take, drop, replicate, All, arith, append_assoc, append-nil, subst, inl, inr}
use Rattle.std.proofs.lemmas.List.{length-append, length-replicate, take-append-drop, append_cancel_left, length-take-le, length-drop}
use Rattle.std.proofs.lemmas.List.Elements.{All-head, All-tail, All-cons, All-nil}
use Rattle.std.proofs.lemmas.Bool.{cases_lt}
use Rattle.std.specs.List.{flat_map}
use Rattle.std.proofs.Math.Seq.{take-append_seam}
use Rattle.lk_base.specs.Checksum.{bits_of, bits_of_bytes}
use Rattle.lane_model.specs.Bits.{high_number}
use Rattle.lane_model.specs.LaneBits.{IsFileOf}
use Rattle.lane_model.specs.FileLaw.{FilesAreDetermined}
use Rattle.lane_model.proofs.Numbers.{length-bits_of, number-bits_of, bits_of-number, below-high_number}

pub length-flat_map_bits : (n : ℕ) (xs : List ℕ) → length (flat_map (bits_of n) xs) ≡ n * length xs
length-flat_map_bits n [] = omega arith
length-flat_map_bits n (x ∷ xs) =
    length-append (bits_of n x) (flat_map (bits_of n) xs)
    ∙ (let a = length-bits_of n x in let b = length-flat_map_bits n xs in omega (arith, a, b, mul-suc' n (length xs)))
  where
    mul-suc' : (m k : ℕ) → m * suc k ≡ m + m * k
    mul-suc' m k = omega arith

first_same : (x y : ℕ) (xs ys : List Bool) → x < 2 ^ 8 → y < 2 ^ 8 → bits_of 8 x ++ xs ≡ bits_of 8 y ++ ys → x ≡ y
first_same x y xs ys hx hy e =
    let lx : 8 ≡ length (bits_of 8 x) = sym (length-bits_of 8 x) in
    let ly : length (bits_of 8 y) ≡ 8 = length-bits_of 8 y in
    let bits : bits_of 8 x ≡ bits_of 8 y =
    sym (take-append_seam (bits_of 8 x) xs)
    ∙ ap (λ n. take n (bits_of 8 x ++ xs)) (sym lx)
    ∙ ap (take 8) e
    ∙ ap (λ n. take n (bits_of 8 y ++ ys)) (sym ly)
    ∙ take-append_seam (bits_of 8 y) ys in
    sym (number-bits_of 8 x hx) ∙ ap high_number bits ∙ number-bits_of 8 y hy

abbrev Small : ℕ → Type 0
Small b = b < 2 ^ 8

-- bytes are determined by their bits
pub same_bytes : (xs ys : List ℕ) → All (λ b. b < 2 ^ 8) xs → All (λ b. b < 2 ^ 8) ys → bits_of_bytes xs ≡ bits_of_bytes ys → xs ≡ ys
same_bytes [] [] hx hy e = refl
same_bytes [] (y ∷ ys) hx hy e =
    let a = ap length e in let b = length-flat_map_bits 8 (y ∷ ys) in absurd (omega (arith, a, b))
same_bytes (x ∷ xs) [] hx hy e =
    let a = ap length e in let b = length-flat_map_bits 8 (x ∷ xs) in absurd (omega (arith, a, b))
same_bytes (x ∷ xs) (y ∷ ys) hx hy e =
    let f : x ≡ y = first_same x y (bits_of_bytes xs) (bits_of_bytes ys) (All-head Small x xs hx) (All-head Small y ys hy) e in
    let r : bits_of_bytes xs ≡ bits_of_bytes ys =
    append_cancel_left (bits_of 8 x) (bits_of_bytes xs) (bits_of_bytes ys) (e ∙ ap (λ b. bits_of 8 b ++ bits_of_bytes ys) (sym f)) in
    ap (λ b. b ∷ xs) f ∙ ap (λ bs. y ∷ bs) (same_bytes xs ys (All-tail Small x xs hx) (All-tail Small y ys hy) r)

length-file : (bytes : List ℕ) (bits : List Bool) (file : IsFileOf bytes bits) → 8 * length bytes ≡ length bits + file.padding
length-file bytes bits file =
    sym (length-flat_map_bits 8 bytes) ∙ ap length file.holds ∙ length-append bits (replicate file.padding false)
    ∙ ap (λ n. length bits + n) (length-replicate file.padding false)

padding_same : (one other n p q : ℕ) → 8 * one ≡ n + p → 8 * other ≡ n + q → p < 8 → q < 8 → p ≡ q
padding_same one other n p q a b hp hq = omega arith

pub only : (bits : List Bool) (one other : List ℕ) → IsFileOf one bits → IsFileOf other bits → one ≡ other
only bits one other f g =
    let p : f.padding ≡ g.padding = padding_same (length one) (length other) (length bits) f.padding g.padding (length-file one bits f) (length-file other bits g) f.short g.short in
    same_bytes one other f.each g.each (f.holds ∙ ap (λ n. bits ++ replicate n false) p ∙ sym g.holds)

-- a file with these bits
abbrev File : List Bool → Type 0
File bits = (bytes : List ℕ) × IsFileOf bytes bits

no_bytes : File []
no_bytes = ([], record { padding = 0; short = omega arith; holds = refl; each = All-nil Small })

one_byte : (bits : List Bool) → 0 < length bits → length bits < 8 → File bits
one_byte bits h k =
    let padding = 8 - length bits in
    let whole = bits ++ replicate (8 - length bits) false in
    let l : length (bits ++ replicate (8 - length bits) false) ≡ 8 =
    length-append bits (replicate (8 - length bits) false) ∙ ap (λ n. length bits + n) (length-replicate (8 - length bits) false) ∙ omega arith in (
      high_number whole ∷ [],
      record {
        padding = padding;
        short = omega arith;
        holds = append-nil (bits_of 8 (high_number whole)) ∙ bits_of-number 8 whole l;
        each = All-cons Small (high_number whole) [] (below-high_number whole 8 l) (All-nil Small);
      },
    )

byte_more : (bits : List Bool) → 8 ≤ length bits → File (drop 8 bits) → File bits
byte_more bits h (bytes, file) =
    let byte = high_number (take 8 bits) in
    let l : length (take 8 bits) ≡ 8 = length-take-le 8 bits h in (
      byte ∷ bytes,
      record {
        padding = file.padding;
        short = file.short;
        holds = ap (λ bs. bs ++ bits_of_bytes bytes) (bits_of-number 8 (take 8 bits) l)
            ∙ ap (λ bs. take 8 bits ++ bs) file.holds
            ∙ sym (append_assoc (take 8 bits) (drop 8 bits) (replicate file.padding false))
            ∙ ap (λ bs. bs ++ replicate file.padding false) (take-append-drop 8 bits);
        each = All-cons Small byte bytes (below-high_number (take 8 bits) 8 l) file.each;
      },
    )

empty : (bits : List Bool) → length bits ≡ 0 → [] ≡ bits
empty [] h = refl
empty (b ∷ bits) h = absurd (omega arith)

short_file : (bits : List Bool) → length bits < 8 → File bits
short_file bits h = elim (cases_lt 0 (length bits)) [
  | inl k ↦ one_byte bits k h
  | inr k ↦ subst File (empty bits (omega arith)) no_bytes
]

file_within : (k : ℕ) (bits : List Bool) → length bits < 8 * suc k → File bits
file_within zero bits h = short_file bits (omega arith)
file_within (suc k) bits h = elim (cases_lt (length bits) 8) [
  | inl less ↦ short_file bits less
  | inr more ↦ byte_more bits more (file_within k (drop 8 bits) (let e = length-drop 8 bits in omega (arith, e)))
]

pub files_determined : FilesAreDetermined
files_determined = record { has = λ bits. file_within (length bits) bits (omega arith); only = only }
