-- A lane file has one listing, and a text is the listing of one lane file.
use Rattle.std.proofs.Common.{true, ◌⊎◌, inl, inr, ◌≡◌, ◌==◌, ℕ, ◌+◌, ◌*◌, ◌/◌, ◌%◌, ◌^◌, ◌<◌, Bool, List, [], ◌∷◌, ◌++◌, All, length, drop, refl, sym, ap, ◌∙◌, append_assoc, append-nil, arith, subst, length-append}
use Rattle.std.proofs.lemmas.List.{append_cancel_left}
use Rattle.std.proofs.lemmas.List.Concat.{flat_map-cons}
use Rattle.std.proofs.lemmas.List.Elements.{All-tail}
use Rattle.lk_base.specs.Checksum.{bits_of, digit}
use Rattle.lane_model.specs.Bits.{high_number}
use Rattle.lane_model.specs.Coding.{header_in, payload_in}
use Rattle.lane_model.specs.LaneBits.{bits_of_codes}
use Rattle.lane_model.proofs.Numbers.{length-bits_of, number-bits_of}
use Rattle.lane_model.proofs.FilesHold.{same_bytes}
use Rattle.word_text.specs.Lines.{ended, text_of, AreLinesOf}
use Rattle.word_text.specs.CodeLines.{inversion_in, IsSync, IsState, IsCodeLine, rest_line, rest_lines}
use Rattle.word_text.specs.Listings.{lane_head, IsLaneListing}
use Rattle.word_text.specs.Refusals.{IsCodeLineOfAny, IsRestLine, IsFirstWrongCode, HasNoWholeBytes}
use Rattle.word_text.specs.Read.{byte_at, number_after}
use Rattle.word_text.proofs.Spelled.{lacks}
use Rattle.word_text.proofs.Fields.{hex-alone}
use Rattle.word_text.proofs.CodeText.{decide-sync, decide-state, one-code-line, glyph-back, header-back, payload-below, read-sync, read-state, read-other, code-lacks}
use Rattle.word_text.proofs.Pieces.{cut-once}
use Rattle.word_text.proofs.Rests.{line-of-rest, rest-lacks, rest-no-code, same-rest}
use Rattle.word_text.proofs.Lanes.{text-rest}
use Rattle.word_text.proofs.LaneEnds.{fronts, lines-of-codes}
use Rattle.word_text.proofs.Cuts.{Stuck, front-once, same-lines, same-things, text-step, nothing-ended}

-- ---- one code for one line

pub one-code : (a b : ℕ) (line : List ℕ) → a < 2 ^ 67 → b < 2 ^ 67 → IsCodeLine a line → IsCodeLine b line → a ≡ b
one-code a b line h k is other = by-kind (decide-sync a) (decide-state a)
  where
    by-kind : IsSync a ⊎ (IsSync a → ⊥) → IsState a ⊎ (IsState a → ⊥) → a ≡ b
    by-kind (inl s) q =
        let text = is.sync s in
        read-sync a b line h k other (ap (λ (l : List ℕ). byte_at l 1) text) (sym (ap (λ (l : List ℕ). byte_at l 5 == 49) text ∙ glyph-back (inversion_in a))) s.0 s.1
    by-kind (inr n) (inl t) =
        let text = is.state t in
        let low : payload_in a < 2 ^ 64 = payload-below a in
        let state : number_after 16 0 (drop 8 line) ≡ payload_in a % 2 ^ 58 = ap (λ (l : List ℕ). number_after 16 0 (drop 8 l)) text ∙ hex-alone 15 (payload_in a % 2 ^ 58) (omega arith) (omega arith) in
        let mark : payload_in a / 2 ^ 58 ≡ 10 = t.1 in
        read-state a b line h k other (ap (λ (l : List ℕ). byte_at l 1) text) (sym (ap (λ (l : List ℕ). byte_at l 6 == 49) text ∙ glyph-back (inversion_in a))) t.0 (omega (arith, state, mark, low))
    by-kind (inr n) (inr m) =
        let text = is.other n m in
        let low : payload_in a < 2 ^ 64 = payload-below a in
        let second : byte_at line 1 ≡ 111 = ap (λ (l : List ℕ). byte_at l 1) text in
        read-other a b line h k other (λ e. omega (arith, second, e)) (λ e. omega (arith, second, e))
        (sym (ap (λ (l : List ℕ). byte_at l 5 == 49) text ∙ glyph-back (inversion_in a)))
        (sym (ap (λ (l : List ℕ). 2 * digit (byte_at (drop 7 l) 0 == 49) + digit (byte_at (drop 7 l) 1 == 49)) text ∙ header-back (header_in a) (omega arith)))
        (sym (ap (λ (l : List ℕ). number_after 16 0 (drop 10 l)) text ∙ hex-alone 16 (payload_in a) (omega arith) low))

-- ---- one list of codes for the bits

codes-cons : (c : ℕ) (cs : List ℕ) (rest : List Bool) → bits_of_codes (c ∷ cs) ++ rest ≡ bits_of 67 c ++ (bits_of_codes cs ++ rest)
unfolding bits_of_codes
codes-cons c cs rest = ap (λ (l : List Bool). l ++ rest) (flat_map-cons (bits_of 67) c cs) ∙ append_assoc (bits_of 67 c) (bits_of_codes cs) rest

codes-nil : (rest : List Bool) → bits_of_codes [] ++ rest ≡ rest
unfolding bits_of_codes
codes-nil rest = refl

too-short : (rest other : List Bool) (c : ℕ) → length rest < 67 → rest ≡ bits_of 67 c ++ other → ⊥
too-short rest other c h e = let size = ap length e ∙ length-append (bits_of 67 c) other in let all = length-bits_of 67 c in omega (arith, size, all, h)

abbrev Short : ℕ → Type 0
Short c = c < 2 ^ 67

pub same-codes : (cs bs : List ℕ) (r s : List Bool) → All (λ c. c < 2 ^ 67) cs → All (λ c. c < 2 ^ 67) bs → length r < 67 → length s < 67 → bits_of_codes cs ++ r ≡ bits_of_codes bs ++ s → (cs ≡ bs) × (r ≡ s)
same-codes [] [] r s a b h k e = (refl, sym (codes-nil r) ∙ e ∙ codes-nil s)
same-codes [] (y ∷ bs) r s a b h k e = absurd (too-short r (bits_of_codes bs ++ s) y h (sym (codes-nil r) ∙ e ∙ codes-cons y bs s))
same-codes (x ∷ cs) [] r s a b h k e = absurd (too-short s (bits_of_codes cs ++ r) x k (sym (codes-nil s) ∙ sym e ∙ codes-cons x cs r))
same-codes (x ∷ cs) (y ∷ bs) r s a b h k e =
    let both : bits_of 67 x ++ (bits_of_codes cs ++ r) ≡ bits_of 67 y ++ (bits_of_codes bs ++ s) = sym (codes-cons x cs r) ∙ e ∙ codes-cons y bs s in
    let bits : bits_of 67 x ≡ bits_of 67 y = fronts (bits_of 67 x) (bits_of 67 y) (bits_of_codes cs ++ r) (bits_of_codes bs ++ s) (length-bits_of 67 x ∙ sym (length-bits_of 67 y)) both in
    let first : x ≡ y = sym (number-bits_of 67 x (a 0 x (omega arith))) ∙ ap high_number bits ∙ number-bits_of 67 y (b 0 y (omega arith)) in
    let behind : bits_of_codes cs ++ r ≡ bits_of_codes bs ++ s = append_cancel_left (bits_of 67 x) (bits_of_codes cs ++ r) (bits_of_codes bs ++ s) (both ∙ ap (λ (l : List Bool). l ++ (bits_of_codes bs ++ s)) (sym bits)) in
    let (others, rest) = same-codes cs bs r s (All-tail Short x cs a) (All-tail Short y bs b) h k behind in
    (ap (λ (c : ℕ). c ∷ cs) first ∙ ap (λ (ds : List ℕ). y ∷ ds) others, rest)

pub lane-one-text : (text other bytes : List ℕ) → IsLaneListing text bytes → IsLaneListing other bytes → text ≡ other
lane-one-text text other bytes a b =
    let (coded, rest) = same-codes a.coded b.coded a.rest b.rest a.sized b.sized a.short b.short (sym a.bits ∙ b.bits) in
    let lines : a.lines ≡ b.lines = same-lines IsCodeLine one-code-line b.coded a.lines b.lines (subst (λ (cs : List ℕ). AreLinesOf IsCodeLine cs a.lines) coded a.each) b.each in
    a.whole ∙ ap (λ (ls : List (List ℕ)). text_of (lane_head ∷ ls ++ rest_lines a.rest)) lines ∙ ap (λ (r : List Bool). text_of (lane_head ∷ b.lines ++ rest_lines r)) rest ∙ sym b.whole

-- ---- a text of a lane is cut in one way

pub record LaneCut (text : List ℕ) (lines : List (List ℕ)) (rest : List Bool) (left : List ℕ) : Type 0 where
  pub each : All IsCodeLineOfAny lines
  pub short : length rest < 67
  pub stuck : rest ≡ [] → (line more : List ℕ) → left ≡ ended line ++ more → IsCodeLineOfAny line ⊎ IsRestLine line → ⊥
  pub whole : text ≡ text_of (lane_head ∷ lines ++ rest_lines rest) ++ left

pub any-lacks : (line : List ℕ) → IsCodeLineOfAny line → lacks 10 line ≡ true
any-lacks line (code, sized, is) = code-lacks code line is

-- what stands after the lines of codes
abbrev behind_codes : List Bool → List ℕ → List ℕ
behind_codes rest left = text_of (rest_lines rest) ++ left

first-rest : (b : Bool) (rest : List Bool) (left : List ℕ) → behind_codes (b ∷ rest) left ≡ ended (rest_line (b ∷ rest)) ++ left
first-rest b rest left = ap (λ (l : List ℕ). l ++ left) (append-nil (ended (rest_line (b ∷ rest))))

no-code-there : (rest : List Bool) (left : List ℕ) → (rest ≡ [] → (line more : List ℕ) → left ≡ ended line ++ more → IsCodeLineOfAny line ⊎ IsRestLine line → ⊥) → Stuck IsCodeLineOfAny (behind_codes rest left)
no-code-there [] left f line more e any = f refl line more e (inl any)
no-code-there (b ∷ rest) left f line more e (code, sized, is) =
    let (same, others) = cut-once line (rest_line (b ∷ rest)) more left (code-lacks code line is) (rest-lacks (b ∷ rest)) (sym e ∙ first-rest b rest left) in
    rest-no-code (b ∷ rest) code (subst (IsCodeLine code) same is)

a-rest : (b : Bool) (rest : List Bool) → length (b ∷ rest) < 67 → IsRestLine (rest_line (b ∷ rest))
a-rest b rest h = line-of-rest (rest_line (b ∷ rest)) (b ∷ rest) (omega arith) h refl

rest-once : (r s : List Bool) (x y : List ℕ) → length r < 67 → length s < 67 →
    (r ≡ [] → (line more : List ℕ) → x ≡ ended line ++ more → IsCodeLineOfAny line ⊎ IsRestLine line → ⊥) → (s ≡ [] → (line more : List ℕ) → y ≡ ended line ++ more → IsCodeLineOfAny line ⊎ IsRestLine line → ⊥) →
    behind_codes r x ≡ behind_codes s y → (r ≡ s) × (x ≡ y)
rest-once [] [] x y h k f g e = (refl, e)
rest-once [] (b ∷ s) x y h k f g e = absurd (f refl (rest_line (b ∷ s)) y (e ∙ first-rest b s y) (inr (a-rest b s k)))
rest-once (b ∷ r) [] x y h k f g e = absurd (g refl (rest_line (b ∷ r)) x (sym e ∙ first-rest b r x) (inr (a-rest b r h)))
rest-once (b ∷ r) (c ∷ s) x y h k f g e =
    let (line, left) = cut-once (rest_line (b ∷ r)) (rest_line (c ∷ s)) x y (rest-lacks (b ∷ r)) (rest-lacks (c ∷ s)) (sym (first-rest b r x) ∙ e ∙ first-rest c s y) in
    (same-rest (b ∷ r) (c ∷ s) line, left)

-- the text after the first line
behind-head : (text : List ℕ) (lines : List (List ℕ)) (rest : List Bool) (left : List ℕ) → LaneCut text lines rest left → drop 5 text ≡ text_of lines ++ behind_codes rest left
behind-head text lines rest left a =
    ap (drop 5) (a.whole ∙ ap (λ (l : List ℕ). l ++ left) (text-rest lines rest) ∙ append_assoc (text_of (lane_head ∷ lines)) (text_of (rest_lines rest)) left ∙ text-step lane_head lines (behind_codes rest left))

pub lane-once : (text : List ℕ) (ls ms : List (List ℕ)) (r s : List Bool) (x y : List ℕ) → LaneCut text ls r x → LaneCut text ms s y → (ls ≡ ms) × (r ≡ s) × (x ≡ y)
lane-once text ls ms r s x y a b =
    let (lines, behind) = front-once IsCodeLineOfAny any-lacks ls ms (behind_codes r x) (behind_codes s y) a.each b.each (no-code-there r x a.stuck) (no-code-there s y b.stuck) (sym (behind-head text ls r x a) ∙ behind-head text ms s y b) in
    let (rest, left) = rest-once r s x y a.short b.short a.stuck b.stuck behind in
    (lines, rest, left)

pub lane-listing-cut : (text bytes : List ℕ) (b : IsLaneListing text bytes) → LaneCut text b.lines b.rest []
lane-listing-cut text bytes b = record {
  each = lines-of-codes b.coded b.lines b.sized b.each;
  short = b.short;
  stuck = λ z line more e any. nothing-ended line more e;
  whole = b.whole ∙ sym (append-nil (text_of (lane_head ∷ b.lines ++ rest_lines b.rest)));
}

pub lane-wrong-cut : (text : List ℕ) (n : ℕ) (r : IsFirstWrongCode text n) → LaneCut text r.lines r.rest r.wrong
lane-wrong-cut text n r = record { each = r.each; short = r.short; stuck = r.refused; whole = r.whole }

pub not-whole-cut : (text : List ℕ) (r : HasNoWholeBytes text) → LaneCut text r.lines r.rest []
not-whole-cut text r = record {
  each = r.each;
  short = r.short;
  stuck = λ z line more e any. nothing-ended line more e;
  whole = r.whole ∙ sym (append-nil (text_of (lane_head ∷ r.lines ++ rest_lines r.rest)));
}

pub lane-one-file : (text bytes other : List ℕ) → IsLaneListing text bytes → IsLaneListing text other → bytes ≡ other
lane-one-file text bytes other a b =
    let (lines, rest, left) = lane-once text a.lines b.lines a.rest b.rest [] [] (lane-listing-cut text bytes a) (lane-listing-cut text other b) in
    let coded : a.coded ≡ b.coded = same-things Short IsCodeLine one-code a.coded b.coded b.lines a.sized b.sized (subst (AreLinesOf IsCodeLine a.coded) lines a.each) b.each in
    same_bytes bytes other a.octets b.octets
    (a.bits ∙ ap (λ (cs : List ℕ). bits_of_codes cs ++ a.rest) coded ∙ ap (λ (r : List Bool). bits_of_codes b.coded ++ r) rest ∙ sym b.bits)
