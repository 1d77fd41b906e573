-- A text lists a file or is refused.
use Rattle.std.proofs.Common.{◌⊎◌, inl, inr, ◌≡◌, ◌==◌, ◌&&◌, not, ℕ, zero, suc, ◌+◌, ◌*◌, ◌%◌, ◌<◌, ◌^◌, Bool, true, false, List, [], ◌∷◌, ◌++◌, All, length, replicate, refl, sym, ap, ◌∙◌, append-nil, arith, subst, length-append}
use Rattle.std.proofs.lemmas.Bool.{eqb-true, eqb-false}
use Rattle.std.proofs.lemmas.List.{length-replicate}
use Rattle.std.proofs.lemmas.List.Elements.{All-nil, All-cons, All-tail}
use Rattle.std.specs.List.{flat_map}
use Rattle.lk_base.specs.Checksum.{bits_of_bytes}
use Rattle.lane_model.specs.LaneBits.{bits_of_codes}
use Rattle.lane_model.proofs.FilesHold.{files_determined, length-flat_map_bits}
use Rattle.words_files.specs.declared.text_error.TextError.{TextError}
use Rattle.words_files.specs.declared.text_error.TextError.TheVariants.{Head, Line, Length}
use Rattle.words_files.specs.declared.file_word.FileWord.{FileWord}
use Rattle.word_text.specs.Lines.{ended, text_of, AreLinesOf}
use Rattle.words_files.specs.FileWord.{nine_bytes}
use Rattle.word_text.specs.WordLines.{IsWordLine, IsSized}
use Rattle.word_text.specs.CodeLines.{IsCodeLine, rest_line, rest_lines}
use Rattle.word_text.specs.Listings.{words_head, lane_head, IsListing}
use Rattle.word_text.specs.Refusals.{HasNoHead, IsWordLineOfAny, IsCodeLineOfAny, IsRestLine, IsRefusedFor}
use Rattle.word_text.specs.Bytes.{CodesTold}
use Rattle.word_text.proofs.Spelled.{lacks}
use Rattle.word_text.proofs.Decided.{Decided, same-text}
use Rattle.word_text.proofs.WordLine.{word-decided}
use Rattle.word_text.proofs.CodeLine.{code-decided, rest-decided}
use Rattle.word_text.proofs.Pieces.{cut-once, has-end}
use Rattle.word_text.proofs.Rests.{rest-of-line, rest-lacks}
use Rattle.word_text.proofs.Lanes.{lane-listing}
use Rattle.word_text.proofs.LaneEnds.{no-whole, wrong-code, wrong-behind, last-line}
use Rattle.word_text.proofs.Cuts.{Stuck, text-step}
use Rattle.word_text.proofs.Unique.{any-lacks as word-any-lacks}
use Rattle.word_text.proofs.UniqueLanes.{any-lacks as code-any-lacks}

-- ---- the first line

record FirstLine (text : List ℕ) : Type 0 where
  line : List ℕ
  more : List ℕ
  one : lacks 10 line ≡ true
  is : text ≡ ended line ++ more

first-by : (c : ℕ) (cs : List ℕ) (test : Bool) → (c == 10) ≡ test → (lacks 10 cs ≡ true) ⊎ FirstLine cs → ((not test && lacks 10 cs) ≡ true) ⊎ FirstLine (c ∷ cs)
first-by c cs true e h = inr (record { line = []; more = cs; one = refl; is = ap (λ (x : ℕ). x ∷ cs) (eqb-true c 10 e) })
first-by c cs false e (inl h) = inl h
first-by c cs false e (inr f) = inr (record {
  line = c ∷ f.line;
  more = f.more;
  one = ap (λ (t : Bool). not t && lacks 10 f.line) e ∙ f.one;
  is = ap (λ (l : List ℕ). c ∷ l) f.is;
})

first-cut : (text : List ℕ) → (lacks 10 text ≡ true) ⊎ FirstLine text
first-cut [] = inl refl
first-cut (c ∷ cs) = first-by c cs (c == 10) refl (first-cut cs)

shorter : (text line more : List ℕ) → text ≡ ended line ++ more → length more < length text
shorter text line more e = let size = ap length e ∙ length-append (ended line) more in let one = length-append line (10 ∷ []) in omega (arith, size, one)

-- ---- the lines of one kind with which a text begins

none-ends : (IsLine : List ℕ → Type 0) (text : List ℕ) → lacks 10 text ≡ true → Stuck IsLine text
none-ends IsLine text h line more e is = has-end line more (ap (lacks 10) (sym e) ∙ h)

other-first : (IsLine : List ℕ → Type 0) → ((line : List ℕ) → IsLine line → lacks 10 line ≡ true) → (text : List ℕ) (f : FirstLine text) → (IsLine f.line → ⊥) → Stuck IsLine text
other-first IsLine lack text f n line more e is =
    let (same, rest) = cut-once line f.line more f.more (lack line is) f.one (sym e ∙ f.is) in
    n (subst IsLine same is)

-- the lines with which a text begins, and what is left
record Front (IsLine : List ℕ → Type 0) (text : List ℕ) : Type 0 where
  lines : List (List ℕ)
  left : List ℕ
  each : All IsLine lines
  whole : text ≡ text_of lines ++ left
  stuck : Stuck IsLine left

module _ (IsLine : List ℕ → Type 0) (lack : (line : List ℕ) → IsLine line → lacks 10 line ≡ true) (decide : (line : List ℕ) → Decided (IsLine line)) where
  no-front : (text : List ℕ) → Stuck IsLine text → Front IsLine text
  no-front text stuck = record { lines = []; left = text; each = All-nil IsLine; whole = refl; stuck = stuck }

  one-more : (text : List ℕ) (c : FirstLine text) → IsLine c.line → Front IsLine c.more → Front IsLine text
  one-more text c is f = record {
    lines = c.line ∷ f.lines;
    left = f.left;
    each = All-cons IsLine c.line f.lines is f.each;
    whole = c.is ∙ ap (λ (l : List ℕ). ended c.line ++ l) f.whole ∙ sym (text-step c.line f.lines f.left);
    stuck = f.stuck;
  }

  by-line : (text : List ℕ) (c : FirstLine text) → Decided (IsLine c.line) → (length c.more < length text → Front IsLine c.more) → Front IsLine text
  by-line text c (inl is) again = one-more text c is (again (shorter text c.line c.more c.is))
  by-line text c (inr n) again = no-front text (other-first IsLine lack text c n)

  by-first : (text : List ℕ) → (lacks 10 text ≡ true) ⊎ FirstLine text → ((more : List ℕ) → length more < length text → Front IsLine more) → Front IsLine text
  by-first text (inl none) again = no-front text (none-ends IsLine text none)
  by-first text (inr c) again = by-line text c (decide c.line) (again c.more)

  front : (fuel : ℕ) (text : List ℕ) → length text < fuel → Front IsLine text
  front zero text h = absurd (omega arith)
  front (suc fuel) text h = by-first text (first-cut text) (λ more less. front fuel more (omega (arith, less, h)))

-- things with these lines
record Things (X : Type 0) (Sized : X → Type 0) (IsLine : X → List ℕ → Type 0) (lines : List (List ℕ)) : Type 0 where
  things : List X
  sized : All Sized things
  each : AreLinesOf IsLine things lines

things-of : (X : Type 0) (Sized : X → Type 0) (IsLine : X → List ℕ → Type 0) (lines : List (List ℕ)) → All (λ line. (x : X) × Sized x × IsLine x line) lines → Things X Sized IsLine lines
things-of X S P [] a = record { things = []; sized = All-nil S; each = tt }
things-of X S P (line ∷ lines) a =
    let (x, s, p) = a 0 line (omega arith) in
    let others = things-of X S P lines (All-tail (λ (line : List ℕ). (x : X) × S x × P x line) line lines a) in
    record { things = x ∷ others.things; sized = All-cons S x others.things s others.sized; each = (p, others.each) }

-- ---- a text of words

-- a text lists a file or is refused
abbrev pub Verdict : List ℕ → Type 0
Verdict text = ((bytes : List ℕ) × IsListing text bytes) ⊎ ((why : TextError) × IsRefusedFor text why)

words-end : (text : List ℕ) (lines : List (List ℕ)) (left : List ℕ) → All IsWordLineOfAny lines → text ≡ text_of (words_head ∷ lines) ++ left → Stuck IsWordLineOfAny left → Verdict text
words-end text lines [] all e stuck =
    let words = things-of FileWord IsSized IsWordLine lines all in
    inl (flat_map nine_bytes words.things, inl (record { words = words.things; lines = lines; sized = words.sized; file = refl; each = words.each; whole = e ∙ append-nil (text_of (words_head ∷ lines)) }))
words-end text lines (c ∷ left) all e stuck =
    inr (Line (length lines + 2), inl (record { lines = lines; wrong = c ∷ left; each = all; count = refl; whole = e; some = omega arith; refused = stuck }))

words-verdict : (text more : List ℕ) → text ≡ ended words_head ++ more → Verdict text
words-verdict text more e =
    let f = front IsWordLineOfAny word-any-lacks word-decided (suc (length more)) more (omega arith) in
    words-end text f.lines f.left f.each (e ∙ ap (λ (l : List ℕ). ended words_head ++ l) f.whole ∙ sym (text-step words_head f.lines f.left)) f.stuck

-- ---- a text of a lane

abbrev Short : ℕ → Type 0
Short c = c < 2 ^ 67

-- bits that fill bytes are those of a file
whole-file : (bits : List Bool) → length bits % 8 ≡ 0 → (bytes : List ℕ) × All (λ b. b < 2 ^ 8) bytes × (bits_of_bytes bytes ≡ bits)
whole-file bits h =
    let (bytes, file) = files_determined.has bits in
    let size = sym (length-flat_map_bits 8 bytes) ∙ ap length file.holds ∙ length-append bits (replicate file.padding false) in
    let pad = length-replicate file.padding false in
    let short = file.short in
    let none : file.padding ≡ 0 = by-size (length bytes) (length bits) file.padding h short (size ∙ ap (λ (n : ℕ). length bits + n) pad) in
    (bytes, file.each, file.holds ∙ ap (λ (n : ℕ). bits ++ replicate n false) none ∙ append-nil bits)
  where
    by-size : (b n p : ℕ) → n % 8 ≡ 0 → p < 8 → 8 * b ≡ n + p → p ≡ 0
    by-size b n p h k e = omega arith

lane-ends : (text left : List ℕ) (number : ℕ) (bits rest : List Bool) → CodesTold text left number bits → left ≡ text_of (rest_lines rest) → length rest < 67 → Verdict text
lane-ends text left number bits rest t e short = by-test ((length bits + length rest) % 8 == 0) refl
  where
    by-test : (test : Bool) → ((length bits + length rest) % 8 == 0) ≡ test → Verdict text
    by-test true is =
        let (bytes, octets, same) = whole-file (bits ++ rest) (ap (λ (k : ℕ). k % 8) (length-append bits rest) ∙ eqb-true ((length bits + length rest) % 8) 0 is) in
        inl (bytes, inr (lane-listing text left text bytes number bits rest t short octets same (t.whole ∙ ap (λ (l : List ℕ). text_of (lane_head ∷ t.lines) ++ l) e)))
    by-test false is = inr (Length, no-whole text left number bits rest t e short (eqb-false ((length bits + length rest) % 8) 0 is))

rest-lacking : (line : List ℕ) → IsRestLine line → lacks 10 line ≡ true
rest-lacking line r = let rest = rest-of-line line r in ap (lacks 10) rest.is ∙ rest-lacks rest.bits

lane-behind : (text left : List ℕ) (number : ℕ) (bits rest : List Bool) (more : List ℕ) → CodesTold text left number bits → left ≡ ended (rest_line rest) ++ more → 0 < length rest → length rest < 67 → Verdict text
lane-behind text left number bits rest [] t e some short = lane-ends text left number bits rest t (last-line left rest [] e refl some) short
lane-behind text left number bits rest (d ∷ more) t e some short = inr (Line (number + 1), inr (wrong-behind text left number bits rest (d ∷ more) t e some short (omega arith)))

lane-some-left : (text left : List ℕ) (number : ℕ) (bits : List Bool) → CodesTold text left number bits → Stuck IsCodeLineOfAny left → 0 < length left → (lacks 10 left ≡ true) ⊎ FirstLine left → Verdict text
lane-some-left text left number bits t stuck some (inl none) = inr (Line number, inr (wrong-code text left number bits t some stuck (none-ends IsRestLine left none)))
lane-some-left text left number bits t stuck some (inr f) = by-line (rest-decided f.line)
  where
    by-line : Decided (IsRestLine f.line) → Verdict text
    by-line (inl is) = let rest = rest-of-line f.line is in lane-behind text left number bits rest.bits f.more t (f.is ∙ ap (λ (l : List ℕ). ended l ++ f.more) rest.is) rest.some rest.short
    by-line (inr other) = inr (Line number, inr (wrong-code text left number bits t some stuck (other-first IsRestLine rest-lacking left f other)))

lane-left : (text left : List ℕ) (number : ℕ) (bits : List Bool) → CodesTold text left number bits → Stuck IsCodeLineOfAny left → Verdict text
lane-left text [] number bits t stuck = lane-ends text [] number bits [] t refl (omega arith)
lane-left text (c ∷ left) number bits t stuck = lane-some-left text (c ∷ left) number bits t stuck (omega arith) (first-cut (c ∷ left))

lane-verdict : (text more : List ℕ) → text ≡ ended lane_head ++ more → Verdict text
lane-verdict text more e =
    let f = front IsCodeLineOfAny code-any-lacks code-decided (suc (length more)) more (omega arith) in
    let codes = things-of ℕ Short IsCodeLine f.lines f.each in
    lane-left text f.left (length f.lines + 2) (bits_of_codes codes.things)
    (record { coded = codes.things; lines = f.lines; sized = codes.sized; each = codes.each; theirs = refl; whole = e ∙ ap (λ (l : List ℕ). ended lane_head ++ l) f.whole ∙ sym (text-step lane_head f.lines f.left); count = refl })
    f.stuck

-- ---- any text

pub verdict : (text : List ℕ) → Verdict text
verdict text = by-first (first-cut text)
  where
    no-head : (f : FirstLine text) → (f.line ≡ words_head → ⊥) → (f.line ≡ lane_head → ⊥) → HasNoHead text
    no-head f w l = record {
      words = λ more e. w (sym (cut-once words_head f.line more f.more refl f.one (sym e ∙ f.is)).0);
      lane = λ more e. l (sym (cut-once lane_head f.line more f.more refl f.one (sym e ∙ f.is)).0);
    }

    by-lane : (f : FirstLine text) → (f.line ≡ words_head → ⊥) → Decided (f.line ≡ lane_head) → Verdict text
    by-lane f w (inl e) = lane-verdict text f.more (f.is ∙ ap (λ (l : List ℕ). ended l ++ f.more) e)
    by-lane f w (inr l) = inr (Head, no-head f w l)

    by-words : (f : FirstLine text) → Decided (f.line ≡ words_head) → Verdict text
    by-words f (inl e) = words-verdict text f.more (f.is ∙ ap (λ (l : List ℕ). ended l ++ f.more) e)
    by-words f (inr w) = by-lane f w (same-text f.line lane_head)

    by-first : (lacks 10 text ≡ true) ⊎ FirstLine text → Verdict text
    by-first (inl none) = inr (
      Head,
      record {
        words = λ more e. has-end words_head more (ap (lacks 10) (sym e) ∙ none);
        lane = λ more e. has-end lane_head more (ap (lacks 10) (sym e) ∙ none);
      },
    )
    by-first (inr f) = by-words f (same-text f.line words_head)
