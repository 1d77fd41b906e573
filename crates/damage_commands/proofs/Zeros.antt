-- The bits that pad a lane's file stay zeros where no flip names them.
use Rattle.std.proofs.Common.{ℕ, zero, suc, ◌≡◌, ◌≢◌, ◌⊎◌, inl, inr, refl, sym, ap, ap₂, ◌∙◌, ◌+◌, ◌-◌, ◌*◌, ◌%◌, ◌^◌, ◌<◌, ◌≤◌, ◌==◌, Bool, true, false, cond, List, [], ◌∷◌, ◌++◌, length, replicate, map, count_by, arith, subst, append_assoc, append-nil, Contains}
use Rattle.std.specs.List.{enumerate_from}
use Rattle.std.proofs.lemmas.Bool.{cases_lt, ne_eqb}
use Rattle.std.proofs.lemmas.List.{length-append, length-replicate, map-append, replicate-append-replicate}
use Rattle.std.proofs.lemmas.List.Elements.{All-append, All-cons, All-nil}
use Rattle.std.proofs.lemmas.List.Sums.{sum_by-cons}
use Rattle.lk_base.specs.Checksum.{bits_of_bytes}
use Rattle.lk_base.proofs.Bits.{bits-byte, bits-zero}
use Rattle.lk_base.proofs.Lists.{contains_here, contains_there}
use Rattle.lane_model.specs.Damage.{LaneDamage, damaged_bits, is_dark, is_flipped, received_bit, received_bits}
use Rattle.lane_model.specs.LaneBits.{IsFileOf}
use Rattle.lane_model.proofs.FilesHold.{length-flat_map_bits, only}

-- ---- zeros that no flip names

none_named : (flips : List ℕ) (n : ℕ) → ((bit : ℕ) → Contains flips bit → bit ≢ n) → count_by (λ b. b == n) flips ≡ 0
none_named [] n h = refl
none_named (f ∷ flips) n h =
    let here : (f == n) ≡ false = ne_eqb f n (h f (contains_here f flips)) in
    let rest = none_named flips n (λ bit among. h bit (contains_there f bit flips among)) in
    let none : 0 + count_by (λ b. b == n) flips ≡ 0 = omega (arith, rest) in
    sum_by-cons (λ (b : ℕ). cond (b == n) 1 0) f flips ∙ ap (λ (b : Bool). cond b 1 0 + count_by (λ b. b == n) flips) here ∙ none

dark_or_kept : (dark : Bool) (flipped : Bool) → flipped ≡ false → cond dark false (cond flipped true false) ≡ false
dark_or_kept true flipped e = refl
dark_or_kept false flipped e = ap (λ (b : Bool). cond b true false) e

zero_stays : (damage : LaneDamage) (n : ℕ) → ((bit : ℕ) → Contains damage.flips bit → bit ≢ n) → received_bit damage (n, false) ≡ false
zero_stays damage n h =
    dark_or_kept (is_dark damage n) (is_flipped damage n) (ap (λ (k : ℕ). (k % 2 == 1)) (none_named damage.flips n h))

zeros_stay : (damage : LaneDamage) (n count : ℕ) → ((bit m : ℕ) → Contains damage.flips bit → n ≤ m → m < n + count → bit ≢ m) →
    map (received_bit damage) (enumerate_from n (replicate count false)) ≡ replicate count false
zeros_stay damage n zero h = refl
zeros_stay damage n (suc count) h =
    ap₂ (λ (x : Bool) (xs : List Bool). x ∷ xs) (zero_stays damage n (λ bit among. h bit n among (omega arith) (omega arith)))
    (zeros_stay damage (n + 1) count (λ bit m among low high. h bit m among (omega (arith, low)) (omega (arith, high))))

numbered_both : (n : ℕ) (xs ys : List Bool) → enumerate_from n (xs ++ ys) ≡ enumerate_from n xs ++ enumerate_from (n + length xs) ys
numbered_both n [] ys = let e : n ≡ n + 0 = omega arith in ap (λ k. enumerate_from k ys) e
numbered_both n (x ∷ xs) ys =
    let e : n + 1 + length xs ≡ n + suc (length xs) = omega arith in
    ap (λ (rest : List (ℕ × Bool)). (n, x) ∷ rest) (numbered_both (n + 1) xs ys ∙ ap (λ k. enumerate_from (n + 1) xs ++ enumerate_from k ys) e)

pub damaged_zeros : (damage : LaneDamage) (bits : List Bool) (count : ℕ) → ((bit m : ℕ) → Contains damage.flips bit → length bits ≤ m → m < length bits + count → bit ≢ m) →
    received_bits damage (bits ++ replicate count false) ≡ received_bits damage bits ++ replicate count false
damaged_zeros damage bits count h =
    let none : 0 + length bits ≡ length bits = omega arith in
    let both : damaged_bits damage (bits ++ replicate count false) ≡ damaged_bits damage bits ++ replicate count false =
    ap (map (received_bit damage)) (numbered_both 0 bits (replicate count false) ∙ ap (λ k. enumerate_from 0 bits ++ enumerate_from k (replicate count false)) none)
    ∙ map-append (received_bit damage) (enumerate_from 0 bits) (enumerate_from (length bits) (replicate count false))
    ∙ ap (λ (rest : List Bool). damaged_bits damage bits ++ rest) (zeros_stay damage (length bits) count h) in
    ap (λ (rest : List Bool). replicate damage.skew true ++ rest) both
    ∙ sym (append_assoc (replicate damage.skew true) (damaged_bits damage bits) (replicate count false))

-- ---- files whose bits end in zeros

-- the file of bits with a few zeros after them is that of the bits, or one byte longer
file_zeros : (bits : List Bool) (count : ℕ) (file : List ℕ) → count < 8 → IsFileOf file bits → (zeros : ℕ) × IsFileOf (file ++ replicate zeros 0) (bits ++ replicate count false)
file_zeros bits count file few is = elim (cases_lt is.padding count) [
  | inl less ↦ (1, longer less)
  | inr enough ↦ (0, subst (λ (f : List ℕ). IsFileOf f (bits ++ replicate count false)) (sym (append-nil file)) (same enough))
]
  where
    same : count ≤ is.padding → IsFileOf file (bits ++ replicate count false)
    same enough =
        let sum : count + (is.padding - count) ≡ is.padding = omega (arith, enough) in
        let short = is.short in
        record {
          padding = is.padding - count;
          short = omega (arith, short);
          holds = is.holds ∙ ap (λ (zs : List Bool). bits ++ zs) (ap (λ n. replicate n false) (sym sum) ∙ sym (replicate-append-replicate count (is.padding - count) false))
              ∙ sym (append_assoc bits (replicate count false) (replicate (is.padding - count) false));
          each = is.each;
        }

    longer : is.padding < count → IsFileOf (file ++ 0 ∷ []) (bits ++ replicate count false)
    longer less =
        let left = is.padding + 8 - count in
        let sum : is.padding + 8 ≡ count + left = omega (arith, less, few) in
        record {
          padding = left;
          short = omega (arith, less, few);
          holds = bits-byte file 0
              ∙ ap₂ (λ (xs ys : List Bool). xs ++ ys) is.holds (bits-zero 8)
              ∙ append_assoc bits (replicate is.padding false) (replicate 8 false)
              ∙ ap (λ (zs : List Bool). bits ++ zs) (replicate-append-replicate is.padding 8 false ∙ ap (λ n. replicate n false) sum ∙ sym (replicate-append-replicate count left false))
              ∙ sym (append_assoc bits (replicate count false) (replicate left false));
          each = All-append (λ b. b < 2 ^ 8) file (0 ∷ []) is.each (All-cons (λ b. b < 2 ^ 8) 0 [] (omega arith) (All-nil (λ b. b < 2 ^ 8)));
        }

-- ---- a lane that was sent

whole_codes : (n codes padding : ℕ) → 8 * n ≡ 67 * codes + padding → padding < 8 → 8 * n - 8 * n % 67 ≡ 67 * codes
whole_codes n codes padding e short = omega arith

pub padding_stays : (damage : LaneDamage) (codes : ℕ) (bits : List Bool) (sent damaged linked : List ℕ) → length bits ≡ 67 * codes → IsFileOf sent bits →
    ((bit : ℕ) → Contains damage.flips bit → (bit < 8 * length sent - 8 * length sent % 67) ⊎ (8 * length sent ≤ bit)) →
    IsFileOf linked (received_bits damage bits) → IsFileOf damaged (received_bits damage (bits_of_bytes sent)) → (zeros : ℕ) × (damaged ≡ linked ++ replicate zeros 0)
padding_stays damage codes bits sent damaged linked many file free link arrived =
    let (zeros, is) = file_zeros (received_bits damage bits) file.padding linked file.short link in
    (zeros, only (received_bits damage bits ++ replicate file.padding false) damaged (linked ++ replicate zeros 0) (subst (IsFileOf damaged) all arrived) is)
  where
    long : 8 * length sent ≡ length bits + file.padding
    long =
        sym (length-flat_map_bits 8 sent) ∙ ap length file.holds ∙ length-append bits (replicate file.padding false)
        ∙ ap (λ n. length bits + n) (length-replicate file.padding false)

    coded : 8 * length sent - 8 * length sent % 67 ≡ length bits
    coded = whole_codes (length sent) codes file.padding (omega (arith, long, many)) file.short ∙ sym many

    apart : (bit m : ℕ) → Contains damage.flips bit → length bits ≤ m → m < length bits + file.padding → bit ≢ m
    apart bit m among low high e = elim (free bit among) [
      | inl before ↦ omega (arith, before, coded, low, e)
      | inr after ↦ omega (arith, after, long, high, e)
    ]

    all : received_bits damage (bits_of_bytes sent) ≡ received_bits damage bits ++ replicate file.padding false
    all = ap (received_bits damage) file.holds ∙ damaged_zeros damage bits file.padding apart
