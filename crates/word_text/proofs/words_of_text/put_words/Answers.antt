use Rattle.std.proofs.Common.{rules, inl, ◌≡◌, ◌+◌, ◌-◌, ◌<◌, ◌≤◌, ℕ, List, [], ◌∷◌, ◌++◌, length, Option, Some, None, Ok, MatchOption, ap, ◌∙◌, arith, subst, length-append}
use Rattle.words_files.specs.declared.file_word.FileWord.{FileWord}
use Rattle.word_text.specs.Lines.{ended}
use Rattle.words_files.specs.FileWord.{nine_bytes}
use Rattle.word_text.specs.WordLines.{IsWordLine, IsSized}
use Rattle.word_text.specs.Listings.{words_head}
use Rattle.word_text.specs.Refusals.{IsFirstWrongWord, IsWordLineOfAny}
use Rattle.word_text.specs.Bytes.{PutsBytes}
use Rattle.word_text.proofs.Kept.{kept-by, kept-put}
use Rattle.word_text.proofs.Growing.{BytesBehind, no-bytes, one-line-behind, all-words, wrong-word, no-end, no-word}
use Rattle.word_text.proofs.words_of_text.put_words.Goals as goal

wrong : (text old new left : List ℕ) (number : ℕ) → 2 ≤ number → BytesBehind text old new left (number - 1) → 0 < length left → ((line more : List ℕ) → left ≡ ended line ++ more → IsWordLineOfAny line → ⊥) → IsFirstWrongWord text number
wrong text old new left number h w some f = let e : number - 1 + 1 ≡ number = omega arith in subst (IsFirstWrongWord text) e (wrong-word text w.bytes left (number - 1) w.listed some f)

no-one : (o : Option FileWord) (line : List ℕ) → o ≡ None → MatchOption o ((word : FileWord) → IsSized word → IsWordLine word line → ⊥) (λ word. IsSized word × IsWordLine word line) → (word : FileWord) → IsSized word → IsWordLine word line → ⊥
no-one None line e h = h
no-one (Some w) line e h = absurd cc

one : (o : Option FileWord) (w : FileWord) (line : List ℕ) → o ≡ Some w → MatchOption o ((word : FileWord) → IsSized word → IsWordLine word line → ⊥) (λ word. IsSized word × IsWordLine word line) → IsSized w × IsWordLine w line
one None w line e h = absurd cc
one (Some v) w line e h = let same : v ≡ w = cc in subst (λ (x : FileWord). IsSized x × IsWordLine x line) same h

more : (text old mid new left behind line : List ℕ) (number : ℕ) (word : FileWord) → 2 ≤ number → IsSized word × IsWordLine word line → left ≡ ended line ++ behind → new ≡ mid ++ nine_bytes word → BytesBehind text old mid left (number - 1) → BytesBehind text old new behind (number + 1 - 1)
more text old mid new left behind line number word h (s, k) e f w =
    let same : number - 1 + 1 ≡ number + 1 - 1 = omega arith in subst (BytesBehind text old new behind) same (one-line-behind text old mid new left behind line (number - 1) word s k e f w)

whole : (text old new left : List ℕ) (count : ℕ) → length left ≡ 0 → BytesBehind text old new left count → PutsBytes text old new (Ok tt)
whole text old new left count e w = (w.bytes, inl (all-words text w.bytes left [] count w.listed e (omega arith)), w.put)

pub loop-rest-init : goal.loop-rest-init
loop-rest-init c = record {
  so_far = no-bytes c.args.lines.now c.args.out.now.items;
  first = omega arith;
  few = omega arith;
}

pub returns-in_default-clause-answer : goal.returns-in_default-clause-answer
returns-in_default-clause-answer c =
    let some : 0 < length c.loop-rest.rest.now = search rules in
    inl (wrong (ended words_head ++ c.args.lines.now) c.args.out.now.items c.loop-rest.out.items c.loop-rest.rest.now c.loop-rest.number c.loop-rest.invariant.first c.loop-rest.invariant.so_far some (no-end c.loop-rest.rest.now c.in_default.ensures.none))

pub returns-in_default-clause-kept : goal.returns-in_default-clause-kept
returns-in_default-clause-kept c = kept-put c.args.out.now.items c.loop-rest.invariant.so_far.bytes c.loop-rest.out.items c.loop-rest.invariant.so_far.put

pub returns-in_err-word-clause-kept : goal.returns-in_err-word-clause-kept
returns-in_err-word-clause-kept c = kept-put c.args.out.now.items c.loop-rest.invariant.so_far.bytes c.loop-rest.out.items c.loop-rest.invariant.so_far.put

pub returns-in_default-2-clause-answer : goal.returns-in_default-2-clause-answer
returns-in_default-2-clause-answer c =
    let some : 0 < length c.loop-rest.rest.now = search rules in
    inl (wrong (ended words_head ++ c.args.lines.now) c.args.out.now.items c.loop-rest.out.items c.loop-rest.rest.now c.loop-rest.number c.loop-rest.invariant.first c.loop-rest.invariant.so_far some
    (no-word c.loop-rest.rest.now c.in-Some.line.now c.in-Some.more.now c.in-Some.ensures.cut c.in-Some.ensures.one (no-one c.in_ok-word.field-0 c.in-Some.line.now c.in_default-2.is (c.in_ok-word.ensures {u = tt}))))

pub returns-in_default-2-clause-kept : goal.returns-in_default-2-clause-kept
returns-in_default-2-clause-kept c = kept-put c.args.out.now.items c.loop-rest.invariant.so_far.bytes c.loop-rest.out.items c.loop-rest.invariant.so_far.put

pub returns-in_err-append_word-clause-kept : goal.returns-in_err-append_word-clause-kept
returns-in_err-append_word-clause-kept c = kept-by c.args.out.now.items c.loop-rest.invariant.so_far.bytes c.loop-rest.out.items c.append_word.new.file.items c.loop-rest.invariant.so_far.put (c.in_err-append_word.ensures {u = tt}).err

pub loop-rest-preserved : goal.loop-rest-preserved
loop-rest-preserved c =
    let cut : c.loop-rest.rest.now ≡ ended c.in-Some.line.now ++ c.in-Some.more.now = c.in-Some.ensures.cut in
    let size = ap length cut ∙ length-append (ended c.in-Some.line.now) c.in-Some.more.now in
    let line = length-append c.in-Some.line.now (10 ∷ []) in
    record {
      so_far = more (ended words_head ++ c.args.lines.now) c.args.out.now.items c.loop-rest.out.items c.append_word.new.file.items c.loop-rest.rest.now c.in-Some.more.now c.in-Some.line.now c.loop-rest.number c.in-Some-2.word c.loop-rest.invariant.first (one c.in_ok-word.field-0 c.in-Some-2.word c.in-Some.line.now c.in-Some-2.is (c.in_ok-word.ensures {u = tt})) cut (c.in_ok-append_word.ensures {u = tt}).items c.loop-rest.invariant.so_far;
      first = omega (arith, c.loop-rest.invariant.first);
      few = omega (arith, c.loop-rest.invariant.few, size, line);
    }

pub returns-clause-answer : goal.returns-clause-answer
returns-clause-answer c =
    let none : length c.loop-rest.rest.now ≡ 0 = search rules in
    whole (ended words_head ++ c.args.lines.now) c.args.out.now.items c.loop-rest.out.items c.loop-rest.rest.now (c.loop-rest.number - 1) none c.loop-rest.invariant.so_far

pub returns-clause-kept : goal.returns-clause-kept
returns-clause-kept c = kept-put c.args.out.now.items c.loop-rest.invariant.so_far.bytes c.loop-rest.out.items c.loop-rest.invariant.so_far.put
