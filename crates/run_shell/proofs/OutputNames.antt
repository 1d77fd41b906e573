-- The names of a stream's files differ.
use Rattle.std.proofs.Common.{◌≡◌, ◌≢◌, ℕ, zero, suc, ◌+◌, ◌<◌, ◌^◌, List, [], ◌∷◌, ◌++◌, map, sym, ap, ◌∙◌, arith, Contains, string_bytes, Global, length, refl}
use Rattle.std.specs.Prelude.{slice_index_or}
use Rattle.std.specs.List.{range_with_len}
use Rattle.std.specs.Fmt.{decimal}
use Rattle.std.specs.declared.string.String.{String}
use Rattle.std.proofs.lemmas.Fmt.{decimal_injective}
use Rattle.std.proofs.lemmas.List.{map-append, length-map}
use Rattle.std.proofs.lemmas.List.FromFn.{length-map-range_with_len, get_or-map-range_with_len, map-range_with_len_more}
use Rattle.run_shell.specs.Open.{Open}
use lib.Chars.{codes}
use Rattle.run_shell.specs.Names.{lane_name, lane_names}
use Rattle.run_shell.specs.Outputs.{Differ, blank, open_names}

pub from_zero : (k : ℕ) → 0 + k ≡ k
from_zero k = omega arith

pub one_name : (x n : List ℕ) → Contains (x ∷ []) n → n ≡ x
one_name x n (zero, lt, e) = sym e
one_name x n (suc k, lt, e) = absurd (omega arith)

-- a name among those of the lanes has a number
pub numbered_name : (prefix : List ℕ) (count : ℕ) (n : List ℕ) → Contains (lane_names prefix count) n → (lane : ℕ) × (lane < count) × (n ≡ lane_name prefix lane)
numbered_name prefix count n (k, lt, e) =
    let len = length-map-range_with_len (lane_name prefix) 0 count in
    let below : k < count = omega arith in
    (k, below, sym e ∙ get_or-map-range_with_len (lane_name prefix) 0 count k k n below (from_zero k))

append_injective : (p a b : List ℕ) → p ++ a ≡ p ++ b → a ≡ b
append_injective [] a b e = e
append_injective (x ∷ p) a b e = append_injective p a b (cc)

lane_names_differ : (prefix : List ℕ) (i j : ℕ) → i < j → j < 2 ^ 64 → lane_name prefix i ≢ lane_name prefix j
lane_names_differ prefix i j lt small e =
    let tail : codes ".lane." ++ decimal i ≡ codes ".lane." ++ decimal j = append_injective prefix _ _ e in
    let digits : decimal i ≡ decimal j = append_injective (codes ".lane.") _ _ tail in
    let low : i < 2 ^ 64 = omega arith in
    let same : i ≡ j = decimal_injective i j low small digits in
    omega arith

pub lanes_differ : (prefix : List ℕ) (n : ℕ) → n < 2 ^ 64 → Differ (lane_names prefix n)
lanes_differ prefix n few i j d lt le e =
    let name = lane_name prefix in
    let len = length-map-range_with_len name 0 n in
    let below : j < n = omega arith in
    let first : i < n = omega arith in
    let a : slice_index_or (map name (range_with_len 0 n)) i d ≡ name i = get_or-map-range_with_len name 0 n i i d first (from_zero i) in
    let b : slice_index_or (map name (range_with_len 0 n)) j d ≡ name j = get_or-map-range_with_len name 0 n j j d below (from_zero j) in
    lane_names_differ prefix i j lt (omega arith) (sym a ∙ e ∙ b)

-- one more name is told
pub one_more_name : (prefix : List ℕ) (names new : List (String Global)) (n : String Global) (lane : ℕ) → new ≡ names ++ n ∷ [] → map (string_bytes {Z = Global}) names ≡ lane_names prefix lane → string_bytes n ≡ lane_name prefix lane → map (string_bytes {Z = Global}) new ≡ lane_names prefix (lane + 1)
one_more_name prefix names new n lane e h is =
    ap (map (string_bytes {Z = Global})) e ∙ map-append (string_bytes {Z = Global}) names (n ∷ [])
    ∙ ap (λ (ns : List (List ℕ)). ns ++ string_bytes n ∷ []) h
    ∙ ap (λ (x : List ℕ). lane_names prefix lane ++ x ∷ []) is
    ∙ sym (map-range_with_len_more (lane_name prefix) 0 lane lane (from_zero lane))

-- ---- open outputs

-- outputs with equal names are as many
pub as_many_opens : (a b : List Open) → open_names a ≡ open_names b → length a ≡ length b
as_many_opens a b e = sym (length-map a (λ (x : Open). x.name)) ∙ ap length e ∙ length-map b (λ (x : Open). x.name)

-- nothing in the one output
pub blank_one : (opens : List Open) → length opens ≡ 1 → blank (open_names opens) ≡ [] ∷ []
blank_one [] e = absurd (omega arith)
blank_one (o ∷ []) e = refl
blank_one (o ∷ p ∷ os) e = absurd (omega arith)
