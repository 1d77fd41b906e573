-- Bits cut at the one that ends a word.
use Rattle.std.proofs.Common.{ℕ, ◌≡◌, refl, sym, ap, ◌∙◌, subst, ◌+◌, ◌-◌, ◌*◌, ◌/◌, ◌%◌, ◌^◌, ◌<◌, ◌≤◌, ◌==◌, Bool, true, List, [], ◌∷◌, ◌++◌, replicate, arith, bit_and, bit_or}
use Rattle.std.specs.Int.{bit_at}
use Rattle.std.proofs.Math.Nat.{div-lt_iff_lt-mul}
use Rattle.std.proofs.lemmas.Nat.{and_mask, mod_low, or_shifted, pow-add, pow_pos, shl_whole, shr-shr}
use Rattle.lk_base.specs.Checksum.{bits_of, digit}
use Rattle.lk_base.specs.Link.{Settings}
use Rattle.coding_67b.proofs.Cut.{first_bit}
use Rattle.lk_base.proofs.Bits.{bits-cut, bits-mod, no_bits}
use Rattle.lock_model.specs.declared.types.LaneStep.{LaneStep}
use Rattle.lock_model.specs.declared.types.LaneStep.TheVariants as steps
use Rattle.lane_lock.specs.Bytes.{Brings, with_bits}
use Rattle.lane_lock.specs.Lane.{LaneView, with_bit}
use Rattle.lane_lock.specs.Standing.{IsStep, Stands}
use Rattle.lane_lock.proofs.LastWord.{held}
use Rattle.lane_lock.proofs.Resting.{all_at_once, brings_bit, brings_both, brings_none, brings_same, with_both}
use Rattle.lane_lock.proofs.Windows.{pushed_bit}

-- the bits before the bit at a place, this bit, and the bits after it
cut_at : (width x place behind : ℕ) → place + (behind + 1) ≡ width →
    bits_of place (x / 2 ^ (width - place)) ++ ((bit_at x behind == 1) ∷ bits_of behind (x % 2 ^ behind)) ≡ bits_of width x
cut_at width x place behind e =
    let f : width - place ≡ behind + 1 = omega (arith, e) in
    let g : behind + 1 - 1 ≡ behind = omega arith in
    ap (λ (n : ℕ). bits_of place (x / 2 ^ n) ++ ((bit_at x behind == 1) ∷ bits_of behind (x % 2 ^ behind))) f
    ∙ ap (λ (bits : List Bool). bits_of place (x / 2 ^ (behind + 1)) ++ ((bit_at x behind == 1) ∷ bits)) (bits-mod behind behind x (omega arith))
    ∙ ap (λ (n : ℕ). bits_of place (x / 2 ^ (behind + 1)) ++ ((bit_at x n == 1) ∷ bits_of n x)) (sym g)
    ∙ ap (λ (bits : List Bool). bits_of place (x / 2 ^ (behind + 1)) ++ bits) (sym (first_bit (behind + 1) x (omega arith)))
    ∙ sym (bits-cut place (behind + 1) x) ∙ ap (λ (n : ℕ). bits_of n x) e

-- the bits up to the one at a place are those before it and this bit
pub last_pushed : (v : LaneView) (width all place behind : ℕ) → place < width → behind ≡ width - 1 - place →
    with_bits v (place + 1) (all / 2 ^ (width - (place + 1))) ≡ with_bit (with_bits v place (all / 2 ^ (width - place))) (bit_at all behind == 1)
last_pushed v width all place behind lt e =
    let f : width - (place + 1) ≡ behind = omega (arith, lt, e) in
    let g : behind + 1 ≡ width - place = omega (arith, lt, e) in
    let half : all / 2 ^ behind / 2 ≡ all / 2 ^ (width - place) = shr-shr all behind 1 ∙ ap (λ (n : ℕ). all / 2 ^ n) g in
    let t : v.taken + (place + 1) ≡ v.taken + place + 1 = omega arith in
    ap (λ (n : ℕ). with_bits v (place + 1) (all / 2 ^ n)) f
    ∙ ap (λ (window : ℕ). with_both v window (v.taken + (place + 1))) (sym (pushed_bit v.window (all / 2 ^ behind) place))
    ∙ ap (λ (x : ℕ). with_both v (((v.window * 2 ^ place + x) % 2 ^ 67 * 2 + digit (bit_at all behind == 1)) % 2 ^ 67) (v.taken + (place + 1))) half
    ∙ ap (λ (n : ℕ). with_both v (((v.window * 2 ^ place + all / 2 ^ (width - place)) % 2 ^ 67 * 2 + digit (bit_at all behind == 1)) % 2 ^ 67) n) t

-- the bits before, the last bit of the word, and the bits after it
pub cut_brings : (v u w : LaneView) (width all place behind : ℕ) (x : LaneStep) (b : Bool) → v.watching ≡ true → place ≡ v.at + 66 - v.taken → behind ≡ width - 1 - place → place < width →
    all / 2 ^ (width - place) < 2 ^ place → b ≡ (bit_at all behind == 1) →
    ((s : Settings) (bits : List Bool) → Stands (with_bits v place (all / 2 ^ (width - place))) s bits → Stands u s (bits ++ b ∷ []) × IsStep s (bits ++ b ∷ []) x) →
    Brings u w (bits_of behind (all % 2 ^ behind)) (replicate behind steps.Nothing) →
    Brings v w (bits_of width all) (replicate place steps.Nothing ++ x ∷ replicate (width - 1 - place) steps.Nothing)
cut_brings v u w width all place behind x b ew at e lt low is goes rest = λ s bits own st are. (
    let h = (held v s bits st ew).short in
    let count = st.count in
    let short : v.taken + place < v.at + 67 = omega (arith, at, h, count) in
    let before = all_at_once v place (all / 2 ^ (width - place)) ew short low in
    let one = brings_bit (with_bits v place (all / 2 ^ (width - place))) u b x goes in
    let joined = brings_both v (with_bits v place (all / 2 ^ (width - place))) w (bits_of place (all / 2 ^ (width - place))) ((b ∷ []) ++ bits_of behind (all % 2 ^ behind))
    (replicate place steps.Nothing) ((x ∷ []) ++ replicate behind steps.Nothing) before
    (brings_both (with_bits v place (all / 2 ^ (width - place))) u w (b ∷ []) (bits_of behind (all % 2 ^ behind)) (x ∷ []) (replicate behind steps.Nothing) one rest) in
    brings_same v w (bits_of place (all / 2 ^ (width - place)) ++ (b ∷ bits_of behind (all % 2 ^ behind))) (bits_of width all)
    (replicate place steps.Nothing ++ x ∷ replicate behind steps.Nothing) (replicate place steps.Nothing ++ x ∷ replicate (width - 1 - place) steps.Nothing)
    (ap (λ (c : Bool). bits_of place (all / 2 ^ (width - place)) ++ (c ∷ bits_of behind (all % 2 ^ behind))) is ∙ cut_at width all place behind (omega (arith, e, lt)))
    (ap (λ (n : ℕ). replicate place steps.Nothing ++ x ∷ replicate n steps.Nothing) e) joined s bits own st are)

-- ---- bits as numbers

-- the shift of the window
pub pushed_is : (window bits count : ℕ) → window < 2 ^ 67 → count ≤ 56 → bits < 2 ^ count → bit_and (bit_or (window * 2 ^ count % 2 ^ 128) bits) (2 ^ 67 - 1) ≡ (window * 2 ^ count + bits) % 2 ^ 67
pushed_is window bits count low most few =
    let whole = shl_whole window 67 count 128 low (omega arith) in
    ap (λ (x : ℕ). bit_and (bit_or x bits) (2 ^ 67 - 1)) whole ∙ ap (λ (x : ℕ). bit_and x (2 ^ 67 - 1)) (or_shifted window count bits few) ∙ and_mask (window * 2 ^ count + bits) 67

pub first_below : (x width count : ℕ) → x < 2 ^ width → count ≤ width → x / 2 ^ (width - count) < 2 ^ count
first_below x width count low most =
    let e : count + (width - count) ≡ width = omega (arith, most) in
    let whole : x < 2 ^ count * 2 ^ (width - count) = subst (λ (n : ℕ). x < n) (sym (ap (λ (n : ℕ). 2 ^ n) e) ∙ pow-add 2 count (width - count)) low in
    (div-lt_iff_lt-mul {k = 2 ^ (width - count)} {x = x} {y = 2 ^ count} (pow_pos (width - count))).1 whole

pub masked : (x count : ℕ) → count ≤ 56 → bit_and x (1 * 2 ^ count % 2 ^ 64 - 1) ≡ x % 2 ^ count
masked x count most =
    let one : 1 * 2 ^ count % 2 ^ 64 ≡ 1 * 2 ^ count = shl_whole 1 1 count 64 (omega arith) (omega (arith, most)) in
    let e : 1 * 2 ^ count ≡ 2 ^ count = omega arith in
    ap (λ m. bit_and x (m - 1)) (one ∙ e) ∙ and_mask x count

-- ---- a whole word at once

pub code_brings : (v u w : LaneView) (code : ℕ) (x : LaneStep) → v.watching ≡ true → v.at ≡ v.taken → code < 2 ^ 67 → u ≡ with_both v code (v.taken + 67) →
    ((s : Settings) (bits : List Bool) (z : LaneView) (b : Bool) → Stands z s bits → u ≡ with_bit z b → z.watching ≡ true → z.at + 67 ≤ z.taken + 1 → Stands w s (bits ++ b ∷ []) × IsStep s (bits ++ b ∷ []) x) →
    Brings v w (bits_of 67 code) (replicate 66 steps.Nothing ++ x ∷ [])
code_brings v u w code x ew begins low is goes =
    let before = with_bits v 66 (code / 2 ^ (67 - 66)) in
    let last = bit_at code 0 == 1 in
    let whole : code / 2 ^ (67 - (66 + 1)) ≡ code = omega arith in
    let shifted : (v.window * 2 ^ 67 + code) % 2 ^ 67 ≡ code = mod_low v.window 67 code low in
    let reached : u ≡ with_bit before last =
    is ∙ ap (λ (n : ℕ). with_both v n (v.taken + 67)) (sym shifted) ∙ ap (with_bits v 67) (sym whole) ∙ last_pushed v 67 code 66 0 (omega arith) refl in
    let none : bits_of 0 (code % 2 ^ 0) ≡ [] = no_bits (code % 2 ^ 0) in
    cut_brings v w w 67 code 66 0 x last ew (omega (arith, begins)) refl (omega arith)
    (first_below code 67 66 low (omega arith)) refl
    (λ s bits k. goes s bits before last k reached ew (omega (arith, begins)))
    (subst (λ (bits : List Bool). Brings w w bits []) (sym none) (brings_none w))
