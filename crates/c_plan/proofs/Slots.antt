-- The code of a word of a stream is on its lane at its bit.
use Rattle.std.proofs.Common.{ℕ, ◌≡◌, refl, sym, ap, ◌∙◌, ◌+◌, ◌*◌, ◌/◌, ◌%◌, ◌<◌, Bool, List, [], length, get_or, take, drop, flat_map, arith, append-nil}
use Rattle.std.proofs.lemmas.List.FromFn.{length-map-range_with_len, get_or-map-range_with_len}
use Rattle.std.proofs.lemmas.Nat.{div-add-mod', div-mul-add, div_below, mod_below, mod-mul-add, mul-add-lt}
use Rattle.lk_base.specs.Checksum.{bits_of}
use Rattle.lk_base.specs.Link.{IsLink, Settings, group_of}
use Rattle.lk_base.specs.declared.word.Word.{Word}
use Rattle.lk_base.specs.declared.word.Word.TheVariants.{Data}
use Rattle.lane_model.specs.declared.role.Role.TheVariants.{Payload}
use Rattle.lane_model.specs.Coding.{code_of, codes_of}
use Rattle.lane_model.specs.Framing.{payloads, role_of}
use Rattle.lane_model.specs.Key.{first_state, key_place, key_word, start_of}
use Rattle.lane_model.specs.LaneBits.{bits_of_codes, lane_bits}
use Rattle.lane_model.specs.LaneWords.{framed_at, lane_words, payload_at, scrambled, sent_at}
use Rattle.lane_model.specs.Striping.{lane_payload}
use Rattle.lane_model.proofs.CodesOfWords.{length-codes_behind}
use Rattle.lane_model.proofs.StripingHolds.{striping_holds}
use Rattle.lock_model.proofs.Reading.{code_in, cut_at}
use Rattle.lock_model.proofs.Roles.{role_payload}
use Rattle.c_plan.specs.Laws.{SlotsAreFound}
use Rattle.c_plan.specs.Places.{position_of}

-- ---- the codes of a lane

module _ (s : Settings) (lane : ℕ) (sent : List Word) (metaframes : ℕ) where
  words_long : length (lane_words s (start_of (first_state lane)) sent metaframes) ≡ metaframes * s.metaframe
  unfolding lane_words
  words_long = length-map-range_with_len (sent_at s (start_of (first_state lane)) sent) 0 (metaframes * s.metaframe)

  word_in : (t : ℕ) → t < metaframes * s.metaframe → get_or (lane_words s (start_of (first_state lane)) sent metaframes) t (Data 0) ≡ sent_at s (start_of (first_state lane)) sent t
  unfolding lane_words
  word_in t h = get_or-map-range_with_len (sent_at s (start_of (first_state lane)) sent) 0 (metaframes * s.metaframe) t t (Data 0) h (omega arith)

  -- the bits of code number t are those of word number t
  code_is : (t : ℕ) → t < metaframes * s.metaframe →
      (inverted : Bool) × (take 67 (drop (67 * t) (lane_bits s lane sent metaframes)) ≡ bits_of 67 (code_of inverted (sent_at s (start_of (first_state lane)) sent t)))
  unfolding lane_bits bits_of_codes
  code_is t h =
      let l : t < length (lane_words s (start_of (first_state lane)) sent metaframes) = (let e = words_long in omega (arith, e, h)) in
      let m : t < length (codes_of (lane_words s (start_of (first_state lane)) sent metaframes)) = (let e = length-codes_behind [] (lane_words s (start_of (first_state lane)) sent metaframes) in omega (arith, e, l)) in
      let c = code_in [] (lane_words s (start_of (first_state lane)) sent metaframes) t l in (
        c.0,
        ap (λ (bits : List Bool). take 67 (drop (67 * t) bits)) (sym (append-nil (flat_map (bits_of 67) (codes_of (lane_words s (start_of (first_state lane)) sent metaframes)))))
            ∙ cut_at (codes_of (lane_words s (start_of (first_state lane)) sent metaframes)) [] t m
            ∙ ap (bits_of 67) (c.1 ∙ ap (code_of c.0) (word_in t h)),
      )

-- a payload word is scrambled with its key bits
payload_is : (s : Settings) (start : List Bool) (sent : List Word) (t n : ℕ) → role_of s (t % s.metaframe) ≡ Payload n → sent_at s start sent t ≡ scrambled (key_word start (key_place s.metaframe t)) (payload_at s sent t n)
unfolding sent_at framed_at
payload_is s start sent t n e = rw e refl

-- ---- the position of a word

module _ (s : Settings) (k : IsLink s) where
  some_payloads : 0 < payloads s
  some_payloads = omega (arith, k.metaframe.0, k.skips.1)

  some_lanes : 0 < s.lanes
  some_lanes = omega (arith, k.lanes.0)

  -- behind the framing words of its metaframe, and before the last of them
  inside : (n : ℕ) → s.skips + 2 + n % payloads s < s.metaframe
  inside n = let r = mod_below n (payloads s) some_payloads in omega (arith, r)

  metaframe_of : (n : ℕ) → position_of s n / s.metaframe ≡ n / payloads s
  metaframe_of n = div-mul-add (n / payloads s) s.metaframe (s.skips + 2 + n % payloads s) (inside n)

  place_in : (n : ℕ) → position_of s n % s.metaframe ≡ s.skips + 2 + n % payloads s
  place_in n = mod-mul-add (n / payloads s) s.metaframe (s.skips + 2 + n % payloads s) (inside n)

  role_is : (n : ℕ) → role_of s (position_of s n % s.metaframe) ≡ Payload (n % payloads s)
  role_is n = ap (role_of s) (place_in n) ∙ role_payload s (n % payloads s) (mod_below n (payloads s) some_payloads)

  payload_of : (sent : List Word) (n : ℕ) → payload_at s sent (position_of s n) (n % payloads s) ≡ get_or sent n (Data 0)
  payload_of sent n =
      ap (λ (m : ℕ). get_or sent (m * payloads s + n % payloads s) (Data 0)) (metaframe_of n)
      ∙ ap (λ (m : ℕ). get_or sent m (Data 0)) (div-add-mod' n (payloads s))

  -- of this many groups each lane has the payload words of as many metaframes
  lane_below : (groups slot : ℕ) → slot < groups * group_of s → slot / s.lanes < groups * payloads s
  lane_below groups slot h =
      let e : groups * group_of s ≡ groups * payloads s * s.lanes = omega arith in
      div_below slot s.lanes (groups * payloads s) some_lanes (omega (arith, e, h))

  position_below : (groups n : ℕ) → n < groups * payloads s → position_of s n < groups * s.metaframe
  position_below groups n h =
      let d = div_below n (payloads s) groups some_payloads h in
      let p = mul-add-lt (n / payloads s) s.metaframe (s.skips + 2 + n % payloads s) groups d (inside n) in
      omega (arith, p)

-- ---- the word of a stream

whole_groups : (groups g total : ℕ) → 0 < g → total ≡ groups * g → total / g ≡ groups
whole_groups groups g total some e =
    let z : total ≡ groups * g + 0 = omega (arith, e) in
    ap (λ (n : ℕ). n / g) z ∙ div-mul-add groups g 0 some

some_group : (s : Settings) → IsLink s → 0 < group_of s
some_group s k =
    let l = mul-add-lt 0 (payloads s) 0 s.lanes (some_lanes s k) (some_payloads s k) in
    let e : s.lanes * payloads s ≡ group_of s = refl in
    omega (arith, l, e)

pub slots_are_found : SlotsAreFound
slots_are_found s stream groups slot k whole h =
    let n : ℕ = slot / s.lanes in
    let p : ℕ = position_of s (slot / s.lanes) in
    let in_lane = mod_below slot s.lanes (some_lanes s k) in
    let many : length stream / group_of s ≡ groups = whole_groups groups (group_of s) (length stream) (some_group s k) whole in
    let below : p < groups * s.metaframe = position_below s k groups n (lane_below s k groups slot (omega (arith, whole, h))) in
    let there : p < length stream / group_of s * s.metaframe = (let e : length stream / group_of s * s.metaframe ≡ groups * s.metaframe = ap (λ (m : ℕ). m * s.metaframe) many in omega (arith, below, e)) in
    let code = code_is s (slot % s.lanes) (lane_payload s.lanes stream (slot % s.lanes)) (length stream / group_of s) p there in
    let word : payload_at s (lane_payload s.lanes stream (slot % s.lanes)) p (slot / s.lanes % payloads s) ≡ get_or stream slot (Data 0) =
    payload_of s k (lane_payload s.lanes stream (slot % s.lanes)) (slot / s.lanes)
    ∙ striping_holds.word s.lanes stream (slot % s.lanes) (slot / s.lanes) (Data 0) in_lane
    ∙ ap (λ (m : ℕ). get_or stream m (Data 0)) (div-add-mod' slot s.lanes) in
    record {
      inverted = code.0;
      code = code.1 ∙ ap (λ (w : Word). bits_of 67 (code_of code.0 w))
          (payload_is s (start_of (first_state (slot % s.lanes))) (lane_payload s.lanes stream (slot % s.lanes)) p (slot / s.lanes % payloads s) (role_is s k (slot / s.lanes))
          ∙ ap (scrambled (key_word (start_of (first_state (slot % s.lanes))) (key_place s.metaframe p))) word);
    }
