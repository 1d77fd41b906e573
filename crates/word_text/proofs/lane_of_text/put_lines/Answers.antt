use Rattle.std.proofs.Common.{inr, ◌≡◌, ◌==◌, ◌<◌, ◌+◌, ◌*◌, ◌%◌, ◌^◌, ◌++◌, [], ◌∷◌, ℕ, List, Bool, true, false, Option, Some, None, Ok, MatchOption, length, refl, sym, ap, ◌∙◌, arith, subst, append-nil}
use Rattle.std.proofs.lemmas.Bool.{eqb-true, eqb-false}
use Rattle.lk_base.specs.Checksum.{bits_of}
use Rattle.std.proofs.lemmas.List.{nil_from_length}
use Rattle.lane_model.proofs.Numbers.{length-bits_of}
use Rattle.word_text.specs.Lines.{ended}
use Rattle.word_text.specs.Listings.{lane_head}
use Rattle.word_text.specs.CodeLines.{rest_line}
use Rattle.word_text.specs.Refusals.{IsRestLine, HasNoWholeBytes}
use Rattle.word_text.specs.Bytes.{CodesPut, TakesBytes, PutsBytes}
use Rattle.word_text.specs.declared.piece.CodePiece.{CodePiece}
use Rattle.word_text.proofs.Kept.{kept-trans}
use Rattle.word_text.proofs.Taking.{takes-then, takes-count}
use Rattle.word_text.proofs.Rests.{no-rest}
use Rattle.word_text.proofs.Lanes.{no-end-there}
use Rattle.word_text.proofs.LaneEnds.{no-whole, wrong-code, wrong-behind, all-put, last-line}
use Rattle.word_text.proofs.lane_of_text.put_lines.Goals as goal

abbrev Told : Option CodePiece → List ℕ → Type 0
Told o line = MatchOption o (IsRestLine line → ⊥) (λ rest. (0 < rest.count) × (rest.count < 67) × (rest.bits < 2 ^ rest.count) × (line ≡ rest_line (bits_of rest.count rest.bits)))

-- a last line with its bits
record IsRest (rest : CodePiece) (line : List ℕ) : Type 0 where
  some : 0 < length (bits_of rest.count rest.bits)
  short : length (bits_of rest.count rest.bits) < 67
  size : length (bits_of rest.count rest.bits) ≡ rest.count
  is : line ≡ rest_line (bits_of rest.count rest.bits)
  narrow : rest.count < 67
  below : rest.bits < 2 ^ rest.count

no-one : (o : Option CodePiece) (line : List ℕ) → o ≡ None → Told o line → IsRestLine line → ⊥
no-one None line e h = h
no-one (Some w) line e h = absurd cc

one : (o : Option CodePiece) (w : CodePiece) (line : List ℕ) → o ≡ Some w → Told o line → IsRest w line
one None w line e h = absurd cc
one (Some v) w line e h =
    let same : v ≡ w = cc in
    let size = length-bits_of v.count v.bits in
    let (some, short, low, is) = h in
    subst (λ (x : CodePiece). IsRest x line) same (record { some = omega (arith, size, some); short = omega (arith, size, short); size = size; is = is; narrow = short; below = low })

waits-count : (text left : List ℕ) (number : ℕ) (waiting : List Bool) (old new : List ℕ) (p : CodesPut text left number waiting old new) → length p.bits ≡ 8 * length p.taken.more + length waiting
waits-count text left number waiting old new p = takes-count p.bits waiting old new p.taken

not-whole : (text left : List ℕ) (number waits : ℕ) (waiting : List Bool) (old new : List ℕ) → (p : CodesPut text left number waiting old new) → length left ≡ 0 → waits ≡ length waiting → waits < 8 → (waits ≡ 0 → ⊥) → HasNoWholeBytes text
not-whole text left number waits waiting old new p h e f g =
    let count = waits-count text left number waiting old new p in
    no-whole text left number p.bits [] p.told (nil_from_length left h) (omega arith) (λ k. g (omega (arith, count, e, f, k)))

whole : (text left : List ℕ) (number waits : ℕ) (waiting : List Bool) (old new : List ℕ) → CodesPut text left number waiting old new → length left ≡ 0 → waits ≡ length waiting → waits ≡ 0 → PutsBytes text old new (Ok tt)
whole text left number waits [] old new p h e f = all-put text left number p.bits [] old new p.told (nil_from_length left h) (omega arith) (subst (λ (b : List Bool). TakesBytes b [] old new) (sym (append-nil p.bits)) p.taken)
whole text left number waits (b ∷ waiting) old new p h e f = absurd (omega arith)

rest-not-whole : (text left line more : List ℕ) (number waits : ℕ) (waiting : List Bool) (old new : List ℕ) (rest : CodePiece) → (p : CodesPut text left number waiting old new) → left ≡ ended line ++ more → length more ≡ 0 → IsRest rest line → waits ≡ length waiting → ((waits + rest.count) % 8 ≡ 0 → ⊥) → HasNoWholeBytes text
rest-not-whole text left line more number waits waiting old new rest p e h r f g =
    let bits = bits_of rest.count rest.bits in
    let count = waits-count text left number waiting old new p in
    no-whole text left number p.bits bits p.told (last-line left bits more (e ∙ ap (λ (l : List ℕ). ended l ++ more) r.is) h r.some) r.short (λ k. g (omega (arith, count, f, k, r.size)))

rest-whole : (text left line more : List ℕ) (number : ℕ) (waiting : List Bool) (old mid new : List ℕ) (rest : CodePiece) → (p : CodesPut text left number waiting old mid) → left ≡ ended line ++ more → length more ≡ 0 → IsRest rest line → TakesBytes (waiting ++ bits_of rest.count rest.bits) [] mid new → PutsBytes text old new (Ok tt)
rest-whole text left line more number waiting old mid new rest p e h r t =
    let bits = bits_of rest.count rest.bits in
    all-put text left number p.bits bits old new p.told (last-line left bits more (e ∙ ap (λ (l : List ℕ). ended l ++ more) r.is) h r.some) r.short (takes-then p.bits waiting bits (waiting ++ bits) [] old mid new refl p.taken t)

none-by : (n : ℕ) (b : Bool) → b ≡ (n == 0) → b ≡ true → n ≡ 0
none-by n b e f = eqb-true n 0 (sym e ∙ f)

some-by : (n : ℕ) (b : Bool) → b ≡ (n == 0) → b ≡ false → 0 < n
some-by n b e f = let k = eqb-false n 0 (sym e ∙ f) in omega (arith, k)

pub returns-then-end-ne0-clause-answer : goal.returns-then-end-ne0-clause-answer
returns-then-end-ne0-clause-answer c =
    let end = c.in_ok-end.ensures {u = tt} in
    not-whole (ended lane_head ++ c.args.lines.now) c.in_ok-end.end.left.now c.in_ok-end.end.number c.in_ok-end.end.waiting c.put_codes.new.writer c.args.out.now.items c.put_codes.new.out.items end.codes
    (none-by _ _ c.is_empty.ensures c.if-is_empty.true) end.waiting.0 end.waiting.1 c.if-end-ne0.true

pub returns-then-is_empty-clause-answer : goal.returns-then-is_empty-clause-answer
returns-then-is_empty-clause-answer c =
    let end = c.in_ok-end.ensures {u = tt} in
    whole (ended lane_head ++ c.args.lines.now) c.in_ok-end.end.left.now c.in_ok-end.end.number c.in_ok-end.end.waiting c.put_codes.new.writer c.args.out.now.items c.put_codes.new.out.items end.codes
    (none-by _ _ c.is_empty.ensures c.if-is_empty.true) end.waiting.0 c.if-end-ne0.false

pub returns-in_default-clause-answer : goal.returns-in_default-clause-answer
returns-in_default-clause-answer c =
    let end = c.in_ok-end.ensures {u = tt} in
    inr (wrong-code (ended lane_head ++ c.args.lines.now) c.in_ok-end.end.left.now c.in_ok-end.end.number end.codes.bits end.codes.told (some-by _ _ c.is_empty.ensures c.if-is_empty.false) end.codes.stops
    (λ line more e any. no-end-there c.in_ok-end.end.left.now (c.in_default.ensures {u = tt}).none line more e))

pub returns-in_default-2-clause-answer : goal.returns-in_default-2-clause-answer
returns-in_default-2-clause-answer c =
    let end = c.in_ok-end.ensures {u = tt} in
    inr (wrong-code (ended lane_head ++ c.args.lines.now) c.in_ok-end.end.left.now c.in_ok-end.end.number end.codes.bits end.codes.told (some-by _ _ c.is_empty.ensures c.if-is_empty.false) end.codes.stops
    (no-rest c.in_ok-end.end.left.now c.in-Some.line.now c.in-Some.more.now (c.in-Some.ensures {u = tt}).cut (c.in-Some.ensures {u = tt}).one (no-one c.in_ok-rest.field-0 c.in-Some.line.now c.in_default-2.is (c.in_ok-rest.ensures {u = tt}))))

pub returns-then-not-is_empty-clause-answer : goal.returns-then-not-is_empty-clause-answer
returns-then-not-is_empty-clause-answer c =
    let end = c.in_ok-end.ensures {u = tt} in
    let rest = one c.in_ok-rest.field-0 c.in-Some-2.rest c.in-Some.line.now c.in-Some-2.is (c.in_ok-rest.ensures {u = tt}) in
    inr (wrong-behind (ended lane_head ++ c.args.lines.now) c.in_ok-end.end.left.now c.in_ok-end.end.number end.codes.bits (bits_of c.in-Some-2.rest.count c.in-Some-2.rest.bits) c.in-Some.more.now end.codes.told
    ((c.in-Some.ensures {u = tt}).cut ∙ ap (λ (l : List ℕ). ended l ++ c.in-Some.more.now) rest.is) rest.some rest.short (some-by _ _ c.is_empty-2.ensures c.if-not-is_empty.true))

pub returns-then-end-rest-ne0-clause-answer : goal.returns-then-end-rest-ne0-clause-answer
returns-then-end-rest-ne0-clause-answer c =
    let end = c.in_ok-end.ensures {u = tt} in
    let rest = one c.in_ok-rest.field-0 c.in-Some-2.rest c.in-Some.line.now c.in-Some-2.is (c.in_ok-rest.ensures {u = tt}) in
    rest-not-whole (ended lane_head ++ c.args.lines.now) c.in_ok-end.end.left.now c.in-Some.line.now c.in-Some.more.now c.in_ok-end.end.number c.in_ok-end.end.waiting c.put_codes.new.writer c.args.out.now.items c.put_codes.new.out.items c.in-Some-2.rest end.codes
    (c.in-Some.ensures {u = tt}).cut (none-by _ _ c.is_empty-2.ensures c.if-not-is_empty.false) rest end.waiting.0 c.if-end-rest-ne0.true

pub returns-clause-answer : goal.returns-clause-answer
returns-clause-answer c =
    let end = c.in_ok-end.ensures {u = tt} in
    let rest = one c.in_ok-rest.field-0 c.in-Some-2.rest c.in-Some.line.now c.in-Some-2.is (c.in_ok-rest.ensures {u = tt}) in
    rest-whole (ended lane_head ++ c.args.lines.now) c.in_ok-end.end.left.now c.in-Some.line.now c.in-Some.more.now c.in_ok-end.end.number c.put_codes.new.writer c.args.out.now.items c.put_codes.new.out.items c.put_last.new.bytes.items c.in-Some-2.rest end.codes
    (c.in-Some.ensures {u = tt}).cut (none-by _ _ c.is_empty-2.ensures c.if-not-is_empty.false) rest (c.in_ok-put_last.ensures {u = tt}).bits

pub returns-then-end-ne0-clause-kept : goal.returns-then-end-ne0-clause-kept
returns-then-end-ne0-clause-kept c = (c.in_ok-end.ensures {u = tt}).kept

pub returns-then-is_empty-clause-kept : goal.returns-then-is_empty-clause-kept
returns-then-is_empty-clause-kept c = (c.in_ok-end.ensures {u = tt}).kept

pub returns-in_default-clause-kept : goal.returns-in_default-clause-kept
returns-in_default-clause-kept c = (c.in_ok-end.ensures {u = tt}).kept

pub returns-in_default-2-clause-kept : goal.returns-in_default-2-clause-kept
returns-in_default-2-clause-kept c = (c.in_ok-end.ensures {u = tt}).kept

pub returns-then-not-is_empty-clause-kept : goal.returns-then-not-is_empty-clause-kept
returns-then-not-is_empty-clause-kept c = (c.in_ok-end.ensures {u = tt}).kept

pub returns-then-end-rest-ne0-clause-kept : goal.returns-then-end-rest-ne0-clause-kept
returns-then-end-rest-ne0-clause-kept c = (c.in_ok-end.ensures {u = tt}).kept

pub returns-clause-kept : goal.returns-clause-kept
returns-clause-kept c = kept-trans c.args.out.now.items c.put_codes.new.out.items c.put_last.new.bytes.items (c.in_ok-end.ensures {u = tt}).kept (c.in_ok-put_last.ensures {u = tt}).kept

pub returns-in_err-put_last-clause-kept : goal.returns-in_err-put_last-clause-kept
returns-in_err-put_last-clause-kept c = kept-trans c.args.out.now.items c.put_codes.new.out.items c.put_last.new.bytes.items (c.in_ok-end.ensures {u = tt}).kept (c.in_err-put_last.ensures {u = tt}).kept

pub put_last-requires-clause-waiting : goal.put_last-requires-clause-waiting
put_last-requires-clause-waiting c = (c.in_ok-end.ensures {u = tt}).waiting.0

pub put_last-requires-clause-few : goal.put_last-requires-clause-few
put_last-requires-clause-few c = (c.in_ok-end.ensures {u = tt}).waiting.1

pub put_last-requires-clause-count : goal.put_last-requires-clause-count
put_last-requires-clause-count c = (one c.in_ok-rest.field-0 c.in-Some-2.rest c.in-Some.line.now c.in-Some-2.is (c.in_ok-rest.ensures {u = tt})).narrow

pub put_last-requires-clause-below : goal.put_last-requires-clause-below
put_last-requires-clause-below c = (one c.in_ok-rest.field-0 c.in-Some-2.rest c.in-Some.line.now c.in-Some-2.is (c.in_ok-rest.ensures {u = tt})).below

pub put_last-requires-clause-whole : goal.put_last-requires-clause-whole
put_last-requires-clause-whole c = c.if-end-rest-ne0.false

pub overflow_add-result : goal.overflow_add-result
overflow_add-result c = let few = (c.in_ok-end.ensures {u = tt}).few in omega (arith, few)
