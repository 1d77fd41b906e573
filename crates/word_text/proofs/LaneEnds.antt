-- How the lines of a lane text end.
use Rattle.std.proofs.Common.{inl, inr, ◌⊎◌, ◌≡◌, ◌≢◌, ℕ, zero, suc, ◌+◌, ◌-◌, ◌*◌, ◌%◌, ◌<◌, ◌^◌, Bool, List, [], ◌∷◌, ◌++◌, All, Ok, length, take, refl, sym, ap, ◌∙◌, append_assoc, append-nil, arith, length-append}
use Rattle.std.proofs.lemmas.Nat.{pow_pos, pow-add, mul-add-lt}
use Rattle.std.proofs.Math.Seq.{take-append_seam}
use Rattle.lk_base.specs.Checksum.{bits_of, bits_of_bytes}
use Rattle.lk_base.proofs.Bits.{bits-joined}
use Rattle.coding_67b.proofs.Runs.{codes_length}
use Rattle.lane_model.proofs.Numbers.{length-bits_of}
use Rattle.word_text.specs.Lines.{ended, text_of, AreLinesOf}
use Rattle.word_text.specs.CodeLines.{IsCodeLine, rest_line, rest_lines}
use Rattle.word_text.specs.Listings.{lane_head}
use Rattle.word_text.specs.Refusals.{IsCodeLineOfAny, IsFirstWrongCode, IsRestLine, HasNoWholeBytes}
use Rattle.word_text.specs.Bytes.{TakesBytes, CodesTold, PutsBytes, BeginsWithNoCode}
use Rattle.word_text.proofs.Rests.{one-rest}
use Rattle.word_text.proofs.Lanes.{lane-listing, text-rest}

-- ---- the lines before

pub lines-of-codes : (coded : List ℕ) (lines : List (List ℕ)) → All (λ c. c < 2 ^ 67) coded → AreLinesOf IsCodeLine coded lines → All IsCodeLineOfAny lines
lines-of-codes [] [] s h k d l = absurd (omega arith)
lines-of-codes [] (line ∷ lines) s h k d l = absurd h
lines-of-codes (c ∷ cs) [] s h k d l = absurd h
lines-of-codes (c ∷ cs) (line ∷ lines) s h zero d l = (c, s 0 c (omega arith), h.0)
lines-of-codes (c ∷ cs) (line ∷ lines) s h (suc k) d l = lines-of-codes cs lines (λ j e m. s (suc j) e (omega arith)) h.1 k d (omega arith)

pub as-many : {X : Type 0} (IsLine : X → List ℕ → Type 0) (xs : List X) (lines : List (List ℕ)) → AreLinesOf IsLine xs lines → length lines ≡ length xs
as-many IsLine [] [] h = refl
as-many IsLine [] (line ∷ lines) h = absurd h
as-many IsLine (x ∷ xs) [] h = absurd h
as-many IsLine (x ∷ xs) (line ∷ lines) h = let same = as-many IsLine xs lines h.1 in omega (arith, same)

told-bits : (text left : List ℕ) (number : ℕ) (bits : List Bool) (t : CodesTold text left number bits) → length bits ≡ 67 * length t.lines
told-bits text left number bits t = ap length t.theirs ∙ codes_length t.coded ∙ ap (λ (n : ℕ). 67 * n) (sym (as-many IsCodeLine t.coded t.lines t.each))

rest-behind : (text left : List ℕ) (number : ℕ) (bits rest : List Bool) (more : List ℕ) (t : CodesTold text left number bits) → left ≡ text_of (rest_lines rest) ++ more → text ≡ text_of (lane_head ∷ t.lines ++ rest_lines rest) ++ more
rest-behind text left number bits rest more t e =
    t.whole ∙ ap (λ (l : List ℕ). text_of (lane_head ∷ t.lines) ++ l) e ∙ sym (append_assoc (text_of (lane_head ∷ t.lines)) (text_of (rest_lines rest)) more)
    ∙ ap (λ (l : List ℕ). l ++ more) (sym (text-rest t.lines rest))

-- ---- refusals

pub no-whole : (text left : List ℕ) (number : ℕ) (bits rest : List Bool) → CodesTold text left number bits → left ≡ text_of (rest_lines rest) → length rest < 67 → (length bits + length rest) % 8 ≢ 0 → HasNoWholeBytes text
no-whole text left number bits rest t e h f = record {
  lines = t.lines;
  rest = rest;
  short = h;
  each = lines-of-codes t.coded t.lines t.sized t.each;
  whole = rest-behind text left number bits rest [] t (e ∙ sym (append-nil (text_of (rest_lines rest)))) ∙ append-nil (text_of (lane_head ∷ t.lines ++ rest_lines rest));
  bits = λ k. f (ap (λ (n : ℕ). (n + length rest) % 8) (told-bits text left number bits t) ∙ k);
}

pub wrong-code : (text left : List ℕ) (number : ℕ) (bits : List Bool) → CodesTold text left number bits → 0 < length left → BeginsWithNoCode left → ((line more : List ℕ) → left ≡ ended line ++ more → IsRestLine line → ⊥) → IsFirstWrongCode text number
wrong-code text left number bits t h f g = record {
  lines = t.lines;
  rest = [];
  short = omega arith;
  wrong = left;
  each = lines-of-codes t.coded t.lines t.sized t.each;
  count = let c = t.count in let size = length-append t.lines [] in omega (arith, c, size);
  whole = rest-behind text left number bits [] left t refl;
  some = h;
  refused = λ e line more k any. by-kind line more k any;
}
  where
    by-kind : (line more : List ℕ) → left ≡ ended line ++ more → IsCodeLineOfAny line ⊎ IsRestLine line → ⊥
    by-kind line more k (inl any) = f line more k any
    by-kind line more k (inr any) = g line more k any

pub wrong-behind : (text left : List ℕ) (number : ℕ) (bits rest : List Bool) (more : List ℕ) → CodesTold text left number bits → left ≡ ended (rest_line rest) ++ more → 0 < length rest → length rest < 67 → 0 < length more → IsFirstWrongCode text (number + 1)
wrong-behind text left number bits rest more t e some short h =
    let lines = one-rest rest some in
    record {
      lines = t.lines;
      rest = rest;
      short = short;
      wrong = more;
      each = lines-of-codes t.coded t.lines t.sized t.each;
      count = let c = t.count in let size = length-append t.lines (rest_lines rest) in let one = ap length lines in omega (arith, c, size, one);
      whole = rest-behind text left number bits rest more t (e ∙ ap (λ (l : List ℕ). l ++ more) (sym (append-nil (ended (rest_line rest))) ∙ ap text_of (sym lines)));
      some = h;
      refused = λ k line other j any. let size = ap length k in absurd (omega (arith, size, some));
    }

-- ---- whole lanes

pub all-put : (text left : List ℕ) (number : ℕ) (bits rest : List Bool) (old new : List ℕ) → CodesTold text left number bits → left ≡ text_of (rest_lines rest) → length rest < 67 → TakesBytes (bits ++ rest) [] old new → PutsBytes text old new (Ok tt)
all-put text left number bits rest old new t e h taken =
    (taken.more, inr (lane-listing text left text taken.more number bits rest t h taken.octets (sym (append-nil (bits_of_bytes taken.more)) ∙ sym taken.cut) (t.whole ∙ ap (λ (l : List ℕ). text_of (lane_head ∷ t.lines) ++ l) e)), taken.put)

pub last-line : (left : List ℕ) (rest : List Bool) (more : List ℕ) → left ≡ ended (rest_line rest) ++ more → length more ≡ 0 → 0 < length rest → left ≡ text_of (rest_lines rest)
last-line left rest [] e h some = e ∙ ap text_of (sym (one-rest rest some))
last-line left rest (x ∷ xs) e h some = absurd (omega arith)

-- ---- the last bits

power-parts : (count : ℕ) → count < 67 → 2 ^ (67 - count) * 2 ^ count ≡ 2 ^ 67
power-parts count h = let e : 67 - count + count ≡ 67 = omega arith in sym (pow-add 2 (67 - count) count) ∙ ap (λ (n : ℕ). 2 ^ n) e

pub spread-below : (count bits : ℕ) → count < 67 → bits < 2 ^ count → bits * 2 ^ (67 - count) < 2 ^ 67
spread-below count bits h k =
    let fits = mul-add-lt bits (2 ^ (67 - count)) 0 (2 ^ count) k (pow_pos (67 - count)) in
    omega (arith, fits, power-parts count h)

spread : (count bits : ℕ) → count < 67 → bits < 2 ^ count → bits_of 67 (bits * 2 ^ (67 - count) % 2 ^ 128) ≡ bits_of count bits ++ bits_of (67 - count) 0
spread count bits h k =
    let low = spread-below count bits h k in
    let same : bits * 2 ^ (67 - count) % 2 ^ 128 ≡ bits * 2 ^ (67 - count) + 0 = omega (arith, low) in
    let size : 67 ≡ count + (67 - count) = omega arith in
    ap (bits_of 67) same ∙ ap (λ (n : ℕ). bits_of n (bits * 2 ^ (67 - count) + 0)) size ∙ bits-joined count (67 - count) bits 0 (pow_pos (67 - count))

pub fronts : (a b x y : List Bool) → length a ≡ length b → a ++ x ≡ b ++ y → a ≡ b
fronts a b x y h e = sym (take-append_seam a x) ∙ ap (λ (n : ℕ). take n (a ++ x)) h ∙ ap (take (length b)) e ∙ take-append_seam b y

-- as many whole bytes as there are bits that wait and last bits
pub last-bytes : (waiting pushed left : List Bool) (count bits : ℕ) (old new : List ℕ) → count < 67 → bits < 2 ^ count → pushed ≡ waiting ++ bits_of 67 (bits * 2 ^ (67 - count) % 2 ^ 128) → (t : TakesBytes pushed left old new) → length left + (length waiting + count) ≡ length waiting + 67 →
    TakesBytes (waiting ++ bits_of count bits) [] old new
last-bytes waiting pushed left count bits old new h k e t size =
    let all : (waiting ++ bits_of count bits) ++ bits_of (67 - count) 0 ≡ bits_of_bytes t.more ++ left =
    append_assoc waiting (bits_of count bits) (bits_of (67 - count) 0) ∙ ap (λ (l : List Bool). waiting ++ l) (sym (spread count bits h k)) ∙ sym e ∙ t.cut in
    let one = ap length e ∙ length-append waiting (bits_of 67 (bits * 2 ^ (67 - count) % 2 ^ 128)) in
    let other = ap length t.cut ∙ length-append (bits_of_bytes t.more) left in
    let full = length-bits_of 67 (bits * 2 ^ (67 - count) % 2 ^ 128) in
    let parts = length-append waiting (bits_of count bits) in
    let few = length-bits_of count bits in
    record {
      more = t.more;
      octets = t.octets;
      put = t.put;
      cut = fronts (waiting ++ bits_of count bits) (bits_of_bytes t.more) (bits_of (67 - count) 0) left (omega (arith, one, other, full, parts, few, size)) all ∙ sym (append-nil (bits_of_bytes t.more));
    }
