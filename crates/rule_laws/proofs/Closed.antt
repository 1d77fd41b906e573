-- The word that closes a burst of a stream says what the burst holds.
use Rattle.std.proofs.Common.{ℕ, zero, suc, ◌≡◌, inl, inr, ◌+◌, ◌-◌, ◌*◌, ◌%◌, ◌^◌, ◌<◌, ◌≤◌, Bool, true, false, cond, not, ◌&&◌, List, [], ◌∷◌, ◌++◌, length, map, drop, reverse, Some, None, ◌==◌, nat_lt, get_or, refl, sym, ap, ap₂, ◌∙◌, arith, eq-eqb, length-drop}
use Rattle.std.specs.Option.{option_map_or}
use Rattle.std.specs.List.{range_with_len}
use Rattle.std.specs.Int.{w64, from_be_bytes}
use Rattle.std.proofs.lemmas.Bool.{cases_eq, ne_eqb, ltb-true, and_left, and_right}
use Rattle.std.proofs.lemmas.List.{reverse-reverse, reverse-append, length-reverse, get_or_past}
use Rattle.lk_base.specs.Fields.{sop_field, eop_field, has_sop, has_end, is_control_word}
use Rattle.lk_base.specs.declared.word.Word.{Word}
use Rattle.lk_base.specs.declared.word.RxWord.{RxWord}
use Rattle.lk_base.proofs.Lists.{range_more}
use Rattle.control_words.specs.declared.fields.Eop.TheVariants as eops
use Rattle.control_words.specs.ControlWord.{end_of}
use Rattle.stream_model.specs.BurstStream.{Source, Chunk, data_words, parts, format_after}
use Rattle.delivery_laws.proofs.Fill.{count_words}
use Rattle.receive_model.specs.Stretches.{has_some}
use Rattle.receive_model.proofs.Cuts.{split}
use Rattle.word_rules.specs.declared.limits.WordLimits.{WordLimits}
use Rattle.word_rules.specs.Places.{data_before, burst_before, follows_bad}
use Rattle.word_rules.specs.Bursts.{ends, burst_bytes}
use Rattle.word_rules.specs.Rules.{closes_data, breaks_end, has_wrong_fill, breaks_fill, breaks_part, breaks_min}
use Rattle.rule_laws.proofs.Filled.{Closing, Burst, Nothing}
use Rattle.rule_laws.proofs.Packets.{test_of, valid, ends_where_last, end_of_chunk, bytes_said}

-- ---- the last word of a chunk

front_of : (xs bytes : List ℕ) → reverse xs ≡ data_words bytes → 1 ≤ length bytes → (rest : List ℕ) × (xs ≡ from_be_bytes w64 (drop (8 * (parts 8 (length bytes) - 1)) bytes) ∷ rest)
front_of xs bytes h some =
    let f : ℕ → ℕ = λ i. from_be_bytes w64 (drop (8 * i) bytes) in
    let m : ℕ = parts 8 (length bytes) - 1 in
    let more : parts 8 (length bytes) ≡ m + 1 = omega arith in
    let last : data_words bytes ≡ map f (range_with_len 0 m) ++ f m ∷ [] = ap (λ n. map f (range_with_len 0 n)) more ∙ range_more f m in
    (reverse (map f (range_with_len 0 m)), sym (reverse-reverse xs) ∙ ap reverse (h ∙ last) ∙ reverse-append (map f (range_with_len 0 m)) (f m ∷ []))

zeros_from : (bytes : List ℕ) (v i : ℕ) → length bytes ≡ v → v ≤ i → get_or bytes i 0 ≡ 0
zeros_from bytes v i size h = get_or_past bytes i 0 (omega arith)

low_zero : (a b c d e f g h v : ℕ) → 1 ≤ v → v ≤ 8 → (v ≤ 1 → b ≡ 0) → (v ≤ 2 → c ≡ 0) → (v ≤ 3 → d ≡ 0) → (v ≤ 4 → e ≡ 0) → (v ≤ 5 → f ≡ 0) → (v ≤ 6 → g ≡ 0) → (v ≤ 7 → h ≡ 0)
    → (a * 256 ^ 7 + b * 256 ^ 6 + c * 256 ^ 5 + d * 256 ^ 4 + e * 256 ^ 3 + f * 256 ^ 2 + g * 256 ^ 1 + h) % 2 ^ (8 * (8 - v)) ≡ 0
low_zero a b c d e f g h zero l m hb hc hd he hf hg hh = absurd (omega arith)
low_zero a b c d e f g h (suc zero) l m hb hc hd he hf hg hh = (let b0 = hb (omega arith) in let c0 = hc (omega arith) in let d0 = hd (omega arith) in let e0 = he (omega arith) in let f0 = hf (omega arith) in let g0 = hg (omega arith) in let h0 = hh (omega arith) in rw (b0, c0, d0, e0, f0, g0, h0) (omega arith))
low_zero a b c d e f g h (suc (suc zero)) l m hb hc hd he hf hg hh = (let c0 = hc (omega arith) in let d0 = hd (omega arith) in let e0 = he (omega arith) in let f0 = hf (omega arith) in let g0 = hg (omega arith) in let h0 = hh (omega arith) in rw (c0, d0, e0, f0, g0, h0) (omega arith))
low_zero a b c d e f g h (suc (suc (suc zero))) l m hb hc hd he hf hg hh = (let d0 = hd (omega arith) in let e0 = he (omega arith) in let f0 = hf (omega arith) in let g0 = hg (omega arith) in let h0 = hh (omega arith) in rw (d0, e0, f0, g0, h0) (omega arith))
low_zero a b c d e f g h (suc (suc (suc (suc zero)))) l m hb hc hd he hf hg hh = (let e0 = he (omega arith) in let f0 = hf (omega arith) in let g0 = hg (omega arith) in let h0 = hh (omega arith) in rw (e0, f0, g0, h0) (omega arith))
low_zero a b c d e f g h (suc (suc (suc (suc (suc zero))))) l m hb hc hd he hf hg hh = (let f0 = hf (omega arith) in let g0 = hg (omega arith) in let h0 = hh (omega arith) in rw (f0, g0, h0) (omega arith))
low_zero a b c d e f g h (suc (suc (suc (suc (suc (suc zero)))))) l m hb hc hd he hf hg hh = (let g0 = hg (omega arith) in let h0 = hh (omega arith) in rw (g0, h0) (omega arith))
low_zero a b c d e f g h (suc (suc (suc (suc (suc (suc (suc zero))))))) l m hb hc hd he hf hg hh = (let h0 = hh (omega arith) in rw h0 (omega arith))
low_zero a b c d e f g h (suc (suc (suc (suc (suc (suc (suc (suc zero)))))))) l m hb hc hd he hf hg hh = omega arith
low_zero a b c d e f g h (suc (suc (suc (suc (suc (suc (suc (suc (suc n))))))))) l m hb hc hd he hf hg hh = absurd (omega arith)

zeros_last : (bytes : List ℕ) (v : ℕ) → length bytes ≡ v → 1 ≤ v → v ≤ 8 → from_be_bytes w64 bytes % 2 ^ (8 * (8 - v)) ≡ 0
zeros_last bytes v size low high =
    low_zero (get_or bytes 0 0) (get_or bytes 1 0) (get_or bytes 2 0) (get_or bytes 3 0) (get_or bytes 4 0) (get_or bytes 5 0) (get_or bytes 6 0) (get_or bytes 7 0) v low high
    (zeros_from bytes v 1 size) (zeros_from bytes v 2 size) (zeros_from bytes v 3 size) (zeros_from bytes v 4 size) (zeros_from bytes v 5 size) (zeros_from bytes v 6 size) (zeros_from bytes v 7 size)

valid_is : (n : ℕ) → 1 ≤ n → n - 8 * (parts 8 n - 1) ≡ valid n
valid_is n some = elim (cases_eq (n % 8) 0) [
  | inl e ↦ rw e (omega arith)
  | inr ne ↦ (let d : (n % 8 == 0) ≡ false = ne_eqb (n % 8) 0 ne in let positive : 1 ≤ n % 8 = omega arith in rw d (omega arith))
]

valid_low : (n : ℕ) → 1 ≤ n → (1 ≤ valid n) × (valid n ≤ 8)
valid_low n some = (let e = valid_is n some in omega arith, let e = valid_is n some in omega arith)

right_fill : (chunk : Chunk) (xs : List ℕ) (x : ℕ) → 1 ≤ length chunk.bytes → reverse xs ≡ data_words chunk.bytes → eop_field x ≡ format_after chunk → has_wrong_fill (end_of x) xs ≡ false
right_fill chunk xs x some words end =
    let bytes : List ℕ = chunk.bytes in
    let front = front_of xs bytes words some in
    let tail : List ℕ = drop (8 * (parts 8 (length bytes) - 1)) bytes in
    let size : length tail ≡ valid (length bytes) = length-drop (8 * (parts 8 (length bytes) - 1)) bytes ∙ valid_is (length bytes) some in
    let low = valid_low (length bytes) some in
    let zeros : from_be_bytes w64 tail % 2 ^ (8 * (8 - valid (length bytes))) ≡ 0 = zeros_last tail (valid (length bytes)) size low.0 low.1 in
    let test : (from_be_bytes w64 tail % 2 ^ (8 * (8 - valid (length bytes))) == 0) ≡ true = eq-eqb (from_be_bytes w64 tail % 2 ^ (8 * (8 - valid (length bytes)))) 0 zeros in
    ap₂ has_wrong_fill (end_of_chunk x chunk end) front.1 ∙ by chunk.is_last (valid (length bytes)) (from_be_bytes w64 tail) front.0 test
  where
    by : (last : Bool) (v word : ℕ) (rest : List ℕ) → (word % 2 ^ (8 * (8 - v)) == 0) ≡ true → has_wrong_fill (cond last (eops.End v) eops.Going) (word ∷ rest) ≡ false
    by true v word rest h = rw h refl
    by false v word rest h = refl

-- ---- the rules

some_data : (xs : List ℕ) → 1 ≤ length xs → has_some xs ≡ true
some_data [] h = absurd (omega arith)
some_data (x ∷ xs) h = refl

size_of : (xs bytes : List ℕ) → reverse xs ≡ data_words bytes → length xs ≡ parts 8 (length bytes)
size_of xs bytes h = sym (length-reverse xs) ∙ ap length h ∙ count_words bytes

-- data that a burst closes
closes : (e : List RxWord) (y : ℕ) (xs : List ℕ) → data_before e ≡ xs → burst_before e ≡ Some y → 1 ≤ length xs → closes_data e ≡ true
closes e y xs words burst some = rw (burst, words) (some_data xs some)

closes_none : (e : List RxWord) → burst_before e ≡ None → closes_data e ≡ false
closes_none e h = rw h refl

module _ (source : Source) (p : List Word) (e : List RxWord) (x : ℕ) (c : Closing source p e x) where
  pub keeps_end : breaks_end e x ≡ false
  keeps_end = elim c [
    | Burst chunk y xs piece words burst is end start ↦ (
        let size = size_of xs chunk.bytes is in
        let some = piece.some in
        let data_closed : closes_data e ≡ true = closes e y xs words burst (omega arith) in
        and_right (ends x) (not (closes_data e) && not (follows_bad e)) (ap (λ (b : Bool). not b && not (follows_bad e)) data_closed))
    | Nothing burst words end ↦ (
        let none : has_end x ≡ false = rw end refl in
        and_left (ends x) (not (closes_data e) && not (follows_bad e)) (and_right (is_control_word x) (has_end x) none))
  ]

  pub keeps_fill : breaks_fill e x ≡ false
  keeps_fill = elim c [
    | Burst chunk y xs piece words burst is end start ↦
        and_right (is_control_word x) (closes_data e && has_wrong_fill (end_of x) (data_before e))
        (and_right (closes_data e) (has_wrong_fill (end_of x) (data_before e)) (ap (has_wrong_fill (end_of x)) words ∙ right_fill chunk xs x piece.some is end))
    | Nothing burst words end ↦
        and_right (is_control_word x) (closes_data e && has_wrong_fill (end_of x) (data_before e)) (and_left (closes_data e) (has_wrong_fill (end_of x) (data_before e)) (closes_none e burst))
  ]

  pub keeps_part : breaks_part e x ≡ false
  keeps_part = elim c [
    | Burst chunk y xs piece words burst is end start ↦ (
        let size = size_of xs chunk.bytes is in
        let has : has_end x ≡ chunk.is_last = ends_where_last x chunk end in
        split (chunk.is_last)
        (λ t.
        let one : has_end x ≡ true = has ∙ t in
        and_left (is_control_word x && not (has_end x)) (closes_data e && not (length (data_before e) % 4 == 0)) (and_right (is_control_word x) (not (has_end x)) (ap not one)))
        (λ t.
        let whole : length chunk.bytes % 32 ≡ 0 = piece.whole t in
        let fours : length xs % 4 ≡ 0 = omega arith in
        let test : (length (data_before e) % 4 == 0) ≡ true = ap (λ (ws : List ℕ). length ws % 4 == 0) words ∙ eq-eqb (length xs % 4) 0 fours in
        and_right (is_control_word x && not (has_end x)) (closes_data e && not (length (data_before e) % 4 == 0)) (and_right (closes_data e) (not (length (data_before e) % 4 == 0)) (ap not test))))
    | Nothing burst words end ↦
        and_right (is_control_word x && not (has_end x)) (closes_data e && not (length (data_before e) % 4 == 0)) (and_left (closes_data e) (not (length (data_before e) % 4 == 0)) (closes_none e burst))
  ]

  abbrev whole_packet : Bool
  whole_packet = option_map_or (λ word. not (has_sop word && has_end x)) (burst_before e) false

  min_by : (s : WordLimits) → nat_lt (burst_bytes (length (data_before e)) (end_of x)) s.burst_min ≡ true → s.burst_min ≡ source.shape.burst_min → whole_packet ≡ false
  min_by s low same = elim c [
    | Burst chunk y xs piece words burst is end start ↦ (
        let size : length xs ≡ length (data_words chunk.bytes) = sym (length-reverse xs) ∙ ap length is in
        let said : burst_bytes (length xs) (end_of x) ≡ length chunk.bytes = bytes_said source chunk (length xs) x piece size end in
        let same_data : burst_bytes (length (data_before e)) (end_of x) ≡ burst_bytes (length xs) (end_of x) = ap (λ (ws : List ℕ). burst_bytes (length ws) (end_of x)) words in
        let less : burst_bytes (length (data_before e)) (end_of x) < s.burst_min = ltb-true (burst_bytes (length (data_before e)) (end_of x)) s.burst_min low in
        let all = piece.least (omega arith) in
        let sop : has_sop y ≡ true = test_of (sop_field y) chunk.is_first start ∙ all.0 in
        let ended : has_end x ≡ true = ends_where_last x chunk end ∙ all.1 in
        rw (burst, sop, ended) refl)
    | Nothing burst words end ↦ rw burst refl
  ]

  pub keeps_min : (s : WordLimits) → s.burst_min ≡ source.shape.burst_min → breaks_min s e x ≡ false
  keeps_min s same =
      let short : Bool = nat_lt (burst_bytes (length (data_before e)) (end_of x)) s.burst_min in
      and_right (is_control_word x) (has_some (data_before e) && (short && whole_packet))
      (and_right (has_some (data_before e)) (short && whole_packet)
      (split short
      (λ t. and_right short whole_packet (min_by s t same))
      (λ t. and_left short whole_packet t)))
