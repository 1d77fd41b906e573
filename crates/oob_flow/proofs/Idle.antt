-- Idle words: their fields, and the states that their flow bits tell.
use Rattle.std.proofs.Common.{◌≡◌, ℕ, zero, suc, ◌+◌, ◌-◌, ◌*◌, ◌/◌, ◌^◌, ◌<◌, ◌==◌, Bool, true, false, List, [], ◌∷◌, ◌++◌, length, take, get_or, replicate, refl, sym, ap, ap₂, ◌∙◌, subst, inl, inr, eq-eqb, arith}
use Rattle.std.specs.Int.{bit_at}
use Rattle.std.proofs.lemmas.Bool.{cases_lt}
use Rattle.std.proofs.Math.Nat.{add-mul, mul_comm, mul_assoc, pow-suc}
use Rattle.std.proofs.lemmas.Nat.Bits.{bit_at_cat_low, bit_at_cat_high}
use Rattle.std.proofs.lemmas.List.{length-append, length-take-le, get_or-take, get_or_append_left, get_or-append_right, get_or-replicate, get_or_past}
use Rattle.lk_base.specs.Checksum.{control_crc, crc24, bits_of, bits_of_words, digit}
use Rattle.lk_base.specs.Fields.{control_field, burst_field, sop_field, eop_field, reset_field, flow_field, channel_field, multi_field, crc_field, is_control_word}
use Rattle.lk_base.proofs.Bits.{digit_small, digit_back}
use Rattle.control_words.specs.ControlWord.{IsWordOf, eop_format}
use Rattle.control_words.specs.declared.fields.Control.{Control}
use Rattle.control_words.specs.declared.fields.Eop.TheVariants.{Going}
use Rattle.control_words.proofs.SameControl.{word_is_control}
use Rattle.stream_model.specs.Calendar.{is_valid}
use Rattle.oob_flow.specs.Words.{spelled, spelled_from, flow_bits, bare_idle, idle_word}
use Rattle.stream_model.proofs.OneStream.{flow_bit}
use Rattle.stream_model.proofs.MadeControl.{crc_small}

-- ---- the number that bits spell

-- (2 * n + b) * p, where q is twice p
shifted : (n b p q s : ℕ) → q ≡ p * 2 → (2 * n + b) * p + s ≡ n * q + ((2 * 0 + b) * p + s)
shifted n b p q s e =
    let apart : (2 * n + b) * p ≡ 2 * n * p + b * p = add-mul (2 * n) b p in
    let twice : n * q ≡ 2 * n * p = ap (λ (m : ℕ). n * m) (e ∙ mul_comm p 2) ∙ sym (mul_assoc n 2 p) ∙ ap (λ (m : ℕ). m * p) (mul_comm n 2) in
    let none : (2 * 0 + b) * p ≡ b * p = (let z : 2 * 0 + b ≡ b = omega arith in ap (λ (m : ℕ). m * p) z) in
    omega (arith, apart, twice, none)

-- what stands before the bits is shifted by them
pub spelled_behind : (n : ℕ) (bits : List Bool) → spelled_from n bits ≡ n * 2 ^ length bits + spelled_from 0 bits
spelled_behind n [] = omega arith
spelled_behind n (b ∷ bits) =
    let here : spelled_from (2 * n + digit b) bits ≡ (2 * n + digit b) * 2 ^ length bits + spelled_from 0 bits = spelled_behind (2 * n + digit b) bits in
    let alone : spelled_from (2 * 0 + digit b) bits ≡ (2 * 0 + digit b) * 2 ^ length bits + spelled_from 0 bits = spelled_behind (2 * 0 + digit b) bits in
    here ∙ shifted n (digit b) (2 ^ length bits) (2 ^ suc (length bits)) (spelled_from 0 bits) (pow-suc 2 (length bits)) ∙ ap (λ (m : ℕ). n * 2 ^ suc (length bits) + m) (sym alone)

-- one more bit at the end
pub spelled_push : (n : ℕ) (bits : List Bool) (b : Bool) → spelled_from n (bits ++ b ∷ []) ≡ 2 * spelled_from n bits + digit b
spelled_push n [] b = refl
spelled_push n (a ∷ bits) b = spelled_push (2 * n + digit a) bits b

-- the first bit stands highest
spelled_first : (b : Bool) (bits : List Bool) → spelled_from 0 (b ∷ bits) ≡ digit b * 2 ^ length bits + spelled_from 0 bits
spelled_first b bits = let z : 2 * 0 + digit b ≡ digit b = omega arith in ap (λ (n : ℕ). spelled_from n bits) z ∙ spelled_behind (digit b) bits

spelled_below : (bits : List Bool) → spelled_from 0 bits < 2 ^ length bits
spelled_below [] = omega arith
spelled_below (b ∷ bits) =
    let e = spelled_first b bits in
    let rest : spelled_from 0 bits < 2 ^ length bits = spelled_below bits in
    let double : 2 ^ suc (length bits) ≡ 2 ^ length bits * 2 = pow-suc 2 (length bits) in
    top b (2 ^ length bits) (spelled_from 0 bits) (spelled_from 0 (b ∷ bits)) (2 ^ suc (length bits)) e double rest
  where
    top : (b : Bool) (p s t q : ℕ) → t ≡ digit b * p + s → q ≡ p * 2 → s < p → t < q
    top true p s t q e d h = omega arith
    top false p s t q e d h = omega arith

pub spelled_small : (bits : List Bool) → spelled bits < 2 ^ length bits
unfolding spelled
spelled_small bits = spelled_below bits

-- bit number i, the first of them highest
spelled_at : (bits : List Bool) (i : ℕ) → i < length bits → (bit_at (spelled_from 0 bits) (length bits - 1 - i) == 1) ≡ get_or bits i false
spelled_at [] i h = absurd (omega arith)
spelled_at (b ∷ bits) zero h =
    let place : suc (length bits) - 1 - 0 ≡ length bits = omega arith in
    let none : length bits - length bits ≡ 0 = omega arith in
    ap₂ (λ (n m : ℕ). bit_at n m == 1) (spelled_first b bits) place
    ∙ ap (λ (n : ℕ). n == 1) (bit_at_cat_high (digit b) (length bits) (spelled_from 0 bits) (length bits) (spelled_below bits) (omega arith) ∙ ap (bit_at (digit b)) none ∙ own b)
    ∙ digit_back b
  where
    own : (b : Bool) → bit_at (digit b) 0 ≡ digit b
    own true = refl
    own false = refl
spelled_at (b ∷ bits) (suc i) h =
    let place : suc (length bits) - 1 - suc i ≡ length bits - 1 - i = omega arith in
    ap₂ (λ (n m : ℕ). bit_at n m == 1) (spelled_first b bits) place
    ∙ ap (λ (n : ℕ). n == 1) (bit_at_cat_low (digit b) (length bits) (spelled_from 0 bits) (length bits - 1 - i) (omega arith))
    ∙ spelled_at bits i (omega arith)

-- ---- flow bits

-- past the last state it is on
pub padded : (states : List Bool) (i : ℕ) → i < 16 → get_or (states ++ replicate 16 true) i true ≡ get_or states i true
padded states i h = elim (cases_lt i (length states)) [
  | inl l ↦ get_or_append_left states (replicate 16 true) true i l
  | inr g ↦ get_or-append_right states (replicate 16 true) (length states) i true refl g ∙ get_or-replicate 16 (i - length states) true true (omega arith) ∙ sym (get_or_past states i true g)
]

sixteen : (states : List Bool) → length (take 16 (states ++ replicate 16 true)) ≡ 16
sixteen states =
    let ones : length (replicate 16 true) ≡ 16 = refl in
    let both : length (states ++ replicate 16 true) ≡ length states + length (replicate 16 true) = length-append states (replicate 16 true) in
    length-take-le 16 (states ++ replicate 16 true) (omega arith)

pub flow_small : (states : List Bool) → flow_bits states < 2 ^ 16
unfolding flow_bits
flow_small states = subst (λ (n : ℕ). spelled (take 16 (states ++ replicate 16 true)) < 2 ^ n) (sixteen states) (spelled_small (take 16 (states ++ replicate 16 true)))

-- the state at a place stands in the bit for it
pub flow_at : (states : List Bool) (i : ℕ) → i < 16 → i < length states → (bit_at (flow_bits states) (15 - i) == 1) ≡ get_or states i false
unfolding flow_bits spelled
flow_at states i h k =
    let bits : List Bool = take 16 (states ++ replicate 16 true) in
    let len : length (take 16 (states ++ replicate 16 true)) ≡ 16 = sixteen states in
    let place : length (take 16 (states ++ replicate 16 true)) - 1 - i ≡ 15 - i = omega arith in
    ap (λ (m : ℕ). bit_at (spelled_from 0 (take 16 (states ++ replicate 16 true))) m == 1) (sym place)
    ∙ spelled_at (take 16 (states ++ replicate 16 true)) i (omega arith)
    ∙ get_or-take 16 (states ++ replicate 16 true) i false h ∙ get_or_append_left states (replicate 16 true) false i k

-- ---- the fields of an idle word

-- a number in its fields
put : ℕ → ℕ → ℕ → ℕ
put r f c = 2 ^ 63 + r * 2 ^ 56 + f * 2 ^ 40 + c

module _ (r f c : ℕ) (rs : r < 2) (fs : f < 2 ^ 16) (cs : c < 2 ^ 24) where
  sized : put r f c < 2 ^ 64
  unfolding put
  sized = omega arith

  control : control_field (put r f c) ≡ 1
  unfolding put
  control = omega arith

  burst : burst_field (put r f c) ≡ 0
  unfolding put
  burst = omega arith

  sop : sop_field (put r f c) ≡ 0
  unfolding put
  sop = omega arith

  eop : eop_field (put r f c) ≡ 0
  unfolding put
  eop = omega arith

  reset : reset_field (put r f c) ≡ r
  unfolding put
  reset = omega arith

  flow : flow_field (put r f c) ≡ f
  unfolding put
  flow = omega arith

  channel : channel_field (put r f c) ≡ 0
  unfolding put
  channel = omega arith

  multi : multi_field (put r f c) ≡ 0
  unfolding put
  multi = omega arith

  crc : crc_field (put r f c) ≡ c
  unfolding put
  crc = omega arith

  cleared : put r f c / 2 ^ 24 * 2 ^ 24 ≡ put r f 0 / 2 ^ 24 * 2 ^ 24
  unfolding put
  cleared = omega arith

crc_of : Bool → ℕ → ℕ
crc_of b f = control_crc [] (bare_idle b f)

as_put : (reset : Bool) (flow : ℕ) → idle_word reset flow ≡ put (digit reset) flow (crc_of reset flow)
unfolding idle_word put crc_of
as_put b f = refl

crc_of_small : (reset : Bool) (flow : ℕ) → crc_of reset flow < 2 ^ 24
unfolding crc_of
crc_of_small b f = crc_small (bits_of_words [] ++ bits_of 64 (bare_idle b f / 2 ^ 24 * 2 ^ 24))

-- the checksum is that of the word alone
sealed_alone : (reset : Bool) (flow : ℕ) → flow < 2 ^ 16 → crc_of reset flow ≡ control_crc [] (idle_word reset flow)
unfolding idle_word put crc_of
sealed_alone b f h =
    let cov = cleared (digit b) f (crc_of b f) (digit_small b) h (crc_of_small b f) in
    let z : 2 ^ 63 + digit b * 2 ^ 56 + f * 2 ^ 40 + 0 ≡ 2 ^ 63 + digit b * 2 ^ 56 + f * 2 ^ 40 = omega arith in
    sym (ap (λ (x : ℕ). crc24 (bits_of_words [] ++ bits_of 64 x)) (cov ∙ ap (λ (x : ℕ). x / 2 ^ 24 * 2 ^ 24) z))

pub is_word : (reset_bit : Bool) (flow_bits : ℕ) (c : Control) → flow_bits < 2 ^ 16 → c.burst ≡ false → c.sop ≡ false → c.eop ≡ Going → c.reset ≡ reset_bit → c.flow ≡ flow_bits → c.channel ≡ 0 → c.multi ≡ 0
    → IsWordOf c (control_crc [] (idle_word reset_bit flow_bits)) (idle_word reset_bit flow_bits)
is_word b f c h e1 e2 e3 e4 e5 e6 e7 =
    let crc_is : crc_of b f ≡ control_crc [] (idle_word b f) = sealed_alone b f h in
    let small = crc_of_small b f in
    let r = digit_small b in
    subst (λ (x : ℕ). IsWordOf c (control_crc [] (idle_word b f)) x) (sym (as_put b f)) (record {
      sized = sized (digit b) f (crc_of b f) r h small;
      control = control (digit b) f (crc_of b f) r h small;
      burst = burst (digit b) f (crc_of b f) r h small ∙ sym (ap digit e1);
      sop = sop (digit b) f (crc_of b f) r h small ∙ sym (ap digit e2);
      eop = eop (digit b) f (crc_of b f) r h small ∙ sym (ap eop_format e3);
      reset = reset (digit b) f (crc_of b f) r h small ∙ sym (ap digit e4);
      flow = flow (digit b) f (crc_of b f) r h small ∙ sym e5;
      channel = channel (digit b) f (crc_of b f) r h small ∙ sym e6;
      multi = multi (digit b) f (crc_of b f) r h small ∙ sym e7;
      checksum = crc (digit b) f (crc_of b f) r h small ∙ crc_is;
    })

-- the fields that a calendar reads
idle_control : Bool → ℕ → Control
idle_control b f = record { burst = false; sop = false; eop = Going; reset = b; flow = f; channel = 0; multi = 0; end_in_range = λ n e. cc }

own_word : (b : Bool) (f : ℕ) → f < 2 ^ 16 → IsWordOf (idle_control b f) (control_crc [] (idle_word b f)) (idle_word b f)
unfolding idle_control
own_word b f h = is_word b f (idle_control b f) h refl refl refl refl refl refl refl

pub idle_valid : (b : Bool) (f : ℕ) → f < 2 ^ 16 → is_valid (idle_word b f) ≡ true
idle_valid b f h =
    let w = own_word b f h in
    let control_is : is_control_word (idle_word b f) ≡ true = word_is_control (idle_control b f) (control_crc [] (idle_word b f)) (idle_word b f) w in
    let same : (crc_field (idle_word b f) == control_crc [] (idle_word b f)) ≡ true = eq-eqb (crc_field (idle_word b f)) (control_crc [] (idle_word b f)) w.checksum in
    rw (control_is, same) refl

pub idle_reset : (b : Bool) (f : ℕ) → f < 2 ^ 16 → reset_field (idle_word b f) ≡ digit b
unfolding idle_control
idle_reset b f h = (own_word b f h).reset

pub idle_sized : (b : Bool) (f : ℕ) → f < 2 ^ 16 → idle_word b f < 2 ^ 64
idle_sized b f h = (own_word b f h).sized

idle_flow : (b : Bool) (f : ℕ) → f < 2 ^ 16 → flow_field (idle_word b f) ≡ f
unfolding idle_control
idle_flow b f h = (own_word b f h).flow

-- the word of states tells the state at a place
pub idle_tells : (b : Bool) (states : List Bool) (i : ℕ) → i < 16 → i < length states → (bit_at (idle_word b (flow_bits states)) (55 - i) == 1) ≡ get_or states i false
idle_tells b states i h k =
    let place : 40 + (15 - i) ≡ 55 - i = omega arith in
    ap (λ (n : ℕ). n == 1) (ap (bit_at (idle_word b (flow_bits states))) (sym place) ∙ sym (flow_bit (idle_word b (flow_bits states)) (15 - i) (omega arith)) ∙ ap (λ (m : ℕ). bit_at m (15 - i)) (idle_flow b (flow_bits states) (flow_small states)))
    ∙ flow_at states i h k
