-- The parts of bytes of lanes, as lists of bits.
use Rattle.std.proofs.Common.{ℕ, zero, suc, ◌≡◌, refl, sym, ap, ◌∙◌, subst, ◌+◌, ◌-◌, ◌*◌, ◌/◌, ◌<◌, ◌≤◌, ◌==◌, Bool, true, false, List, [], ◌∷◌, ◌++◌, length, drop, map, get_or, set, arith, min}
use Rattle.std.specs.Prelude.{if◌then◌else◌, ◌↔◌, nat_eq}
use Rattle.std.proofs.lemmas.Bool.{eqb-true, eqb-false, eq-eqb}
use Rattle.std.proofs.lemmas.List.{get_or_past, length-append, length-map, map-set, set_past}
use Rattle.lk_base.specs.Checksum.{bits_of, bits_of_bytes}
use Rattle.lk_base.proofs.Bits.{no_bits}
use Rattle.lane_model.proofs.FilesHold.{length-flat_map_bits}
use Rattle.lane_model.proofs.Numbers.{length-bits_of}
use Rattle.c_bits.specs.Bits.{part_of}
use Rattle.c_bits.specs.PartBits.{bits_in}
use Rattle.c_bits.specs.declared.part.Part.{Part}

-- a lane that is not there has no part
pub none_past : (parts : List Part) (lane : ℕ) → length parts ≤ lane → part_of lane (map bits_in parts) ≡ []
none_past parts lane h = get_or_past (map bits_in parts) lane [] (let e = length-map parts bits_in in omega (arith, h, e))

-- nor gets one
pub none_set : (parts : List Part) (lane : ℕ) (part : List Bool) → length parts ≤ lane → set (map bits_in parts) lane part ≡ map bits_in parts
none_set parts lane part h = set_past (map bits_in parts) lane part (let e = length-map parts bits_in in omega (arith, h, e))

pub one_set : (parts : List Part) (lane : ℕ) (part : Part) → map bits_in (set parts lane part) ≡ set (map bits_in parts) lane (bits_in part)
one_set parts lane part = map-set bits_in parts lane part

-- a part has as many bits as it counts
pub count_is : (part : Part) (bits : List Bool) → bits_in part ≡ bits → length bits ≡ part.count
count_is part bits is = sym (ap length is) ∙ length-bits_of part.count part.bits

pub whole_is : (part : Part) (bits : List Bool) → bits_in part ≡ bits → (nat_eq part.count 0 ≡ true) ↔ (bits ≡ [])
whole_is part bits is = (
  λ none. sym is ∙ ap (λ n. bits_of n part.bits) (eqb-true part.count 0 none) ∙ no_bits part.bits,
  λ none. eq-eqb part.count 0 (sym (count_is part bits is) ∙ ap length none),
)

pub few_bits : (part : Part) → length (bits_in part) < 8
few_bits part = let many = length-bits_of part.count part.bits in let few = part.few in omega (arith, many, few)

pub sum_is : (part : Part) (old : List Bool) (bytes : List ℕ) → bits_in part ≡ old → length (old ++ bits_of_bytes bytes) ≡ part.count + 8 * length bytes
sum_is part old bytes is =
    length-append old (bits_of_bytes bytes) ∙ ap (λ n. n + length (bits_of_bytes bytes)) (count_is part old is) ∙ ap (λ n. part.count + n) (length-flat_map_bits 8 bytes)

-- of the bytes that complete so many bits fewer than eight bits are left
pub few_left : (part : Part) (old : List Bool) (n count taken : ℕ) → bits_in part ≡ old → n ≤ (count - length old + 7) / 8 → taken ≡ min count (part.count + 8 * n) → part.count + 8 * n - taken < 8
few_left part old n count taken is most least =
    let many = count_is part old is in
    let few = part.few in
    omega (arith, many, few, most, least)
