use Rattle.std.proofs.Common.{◌≡◌, ◌+◌, ◌<◌, ◌^◌, ℕ, List, [], Bool, ◌++◌, length, ap, sym, ◌∙◌, append-nil, arith, subst, length-append, append_assoc, get_or}
use Rattle.lk_base.specs.Checksum.{bits_of, bits_of_bytes}
use Rattle.lane_model.proofs.Numbers.{length-bits_of}
use Rattle.lane_model.proofs.FilesHold.{length-flat_map_bits}
use Rattle.lk_base.proofs.Bits.{no_bits}
use Rattle.word_text.specs.Lines.{ended}
use Rattle.word_text.specs.CodeLines.{IsCodeLine, rest_line}
use Rattle.word_text.specs.Answers.{ListsLane}
use Rattle.word_text.proofs.Kept.{kept-put}
use Rattle.word_text.proofs.Lanes.{LinesBehind, no-lines, one-line, lines-kept, lists-whole, lists-rest, octets-of}
use Rattle.word_text.proofs.text_of_lane.put_lane_text.Goals as goal

behind : (old text mid last : List ℕ) → mid ≡ old ++ text → mid ++ last ≡ old ++ (text ++ last)
behind old text mid last e = ap (λ (l : List ℕ). l ++ last) e ∙ append_assoc old text last

taken : (old new : List Bool) (count bits : ℕ) → old ≡ bits_of count bits ++ new → count + length new ≡ length old
taken old new count bits e = let size = ap length e ∙ length-append (bits_of count bits) new in omega (arith, size, length-bits_of count bits)

more : (old mid new : List ℕ) (bits reader rest : List Bool) (piece_count code count next_count next : ℕ) → piece_count ≡ 67 → code < 2 ^ piece_count → ((line : List ℕ) × IsCodeLine code line × (new ≡ mid ++ ended line)) → reader ≡ bits_of next_count next ++ rest →
    LinesBehind old mid bits (bits_of piece_count code ++ reader) count → LinesBehind old new bits (bits_of next_count next ++ rest) (count + 1)
more old mid new bits reader rest piece_count code count next_count next full h (line, is, e) f b =
    one-line old mid new line bits (bits_of piece_count code ++ reader) code count (subst (λ (n : ℕ). code < 2 ^ n) full h) is e (bits_of next_count next ++ rest)
    (ap (λ (n : ℕ). bits_of n code ++ reader) full ∙ ap (λ (l : List Bool). bits_of 67 code ++ l) f) b

last-only : (count bits : ℕ) (reader : List Bool) → reader ≡ [] → bits_of count bits ++ reader ≡ bits_of count bits
last-only count bits reader e = ap (λ (l : List Bool). bits_of count bits ++ l) e ∙ append-nil (bits_of count bits)

none-left : (count bits : ℕ) (reader : List Bool) → count ≡ 0 → reader ≡ [] → bits_of count bits ++ reader ≡ []
none-left count bits reader z e = last-only count bits reader e ∙ ap (λ (n : ℕ). bits_of n bits) z ∙ no_bits bits

pub loop-piece-init : goal.loop-piece-init
loop-piece-init c =
    let size = ap length c.new-reader.ensures ∙ length-flat_map_bits 8 c.args.bytes.now in
    let next = c.next_piece-piece.ensures in
    let left = taken _ c.next_piece-piece.new.reader c.next_piece-piece.result.count c.next_piece-piece.result.bits next.bits in
    record {
      few = next.count;
      below = next.below;
      last = next.all;
      first = omega arith;
      room = omega (arith, size, left);
      listed = no-lines c.args.out.now.items c.put.new.line.items (bits_of_bytes c.args.bytes.now) (bits_of c.next_piece-piece.result.count c.next_piece-piece.result.bits ++ c.next_piece-piece.new.reader) (c.in_ok-put.ensures {u = tt}).ok (sym c.new-reader.ensures ∙ next.bits);
    }

pub put_code-requires : goal.put_code-requires
put_code-requires c = subst (λ (n : ℕ). c.loop-piece.piece.bits < 2 ^ n) c.loop-piece-test.true c.loop-piece.invariant.below

pub returns-in_err-put_code-clause-kept : goal.returns-in_err-put_code-clause-kept
returns-in_err-put_code-clause-kept c = lines-kept c.args.out.now.items c.loop-piece.out.items c.put_code.new.text.items _ _ c.loop-piece.count (c.in_err-put_code.ensures {u = tt}).err c.loop-piece.invariant.listed

pub loop-piece-smaller : goal.loop-piece-smaller
loop-piece-smaller c =
    let left = taken c.loop-piece.reader c.next_piece-piece-in-loop-piece.new.reader c.next_piece-piece-in-loop-piece.result.count c.next_piece-piece-in-loop-piece.result.bits c.next_piece-piece-in-loop-piece.ensures.bits in
    omega (arith, left, c.loop-piece-test.true)

pub loop-piece-preserved : goal.loop-piece-preserved
loop-piece-preserved c =
    let next = c.next_piece-piece-in-loop-piece.ensures in
    let before = c.loop-piece.invariant in
    let left = taken c.loop-piece.reader c.next_piece-piece-in-loop-piece.new.reader c.next_piece-piece-in-loop-piece.result.count c.next_piece-piece-in-loop-piece.result.bits next.bits in
    record {
      few = next.count;
      below = next.below;
      last = next.all;
      first = omega arith;
      room = omega (arith, left, c.loop-piece-test.true, before.room);
      listed = more c.args.out.now.items c.loop-piece.out.items c.put_code.new.text.items (bits_of_bytes c.args.bytes.now) c.loop-piece.reader c.next_piece-piece-in-loop-piece.new.reader c.loop-piece.piece.count c.loop-piece.piece.bits c.loop-piece.count c.next_piece-piece-in-loop-piece.result.count c.next_piece-piece-in-loop-piece.result.bits c.loop-piece-test.true before.below (c.in_ok-put_code.ensures {u = tt}).ok next.bits before.listed;
    }

pub returns-then-piece-eq0-clause-answer : goal.returns-then-piece-eq0-clause-answer
returns-then-piece-eq0-clause-answer c =
    let before = c.loop-piece.invariant in
    lists-whole c.args.bytes.now c.args.out.now.items c.loop-piece.out.items _ c.loop-piece.count (octets-of c.args.bytes.now (λ i. omega (arith, c.type_inv.bytes i)))
    (none-left c.loop-piece.piece.count c.loop-piece.piece.bits c.loop-piece.reader c.if-piece-eq0.true (before.last (omega (arith, c.if-piece-eq0.true)))) before.listed

pub returns-then-piece-eq0-clause-kept : goal.returns-then-piece-eq0-clause-kept
returns-then-piece-eq0-clause-kept c = kept-put c.args.out.now.items c.loop-piece.invariant.listed.text c.loop-piece.out.items c.loop-piece.invariant.listed.put

pub put_rest-requires : goal.put_rest-requires
put_rest-requires c = omega (arith, c.loop-piece.invariant.few, c.loop-piece-test.false)

pub returns-in_err-put_rest-clause-kept : goal.returns-in_err-put_rest-clause-kept
returns-in_err-put_rest-clause-kept c = lines-kept c.args.out.now.items c.loop-piece.out.items c.put_rest.new.text.items _ _ c.loop-piece.count (c.in_err-put_rest.ensures {u = tt}).err c.loop-piece.invariant.listed

whole : (bytes old mid new : List ℕ) (reader : List Bool) (piece_count bits count : ℕ) → ((i : ℕ) → get_or bytes i 0 < 256) → (piece_count ≡ 67 → ⊥) → (piece_count ≡ 0 → ⊥) → piece_count < 68 → (piece_count < 67 → reader ≡ []) → new ≡ mid ++ ended (rest_line (bits_of piece_count bits)) →
    LinesBehind old mid (bits_of_bytes bytes) (bits_of piece_count bits ++ reader) count → ListsLane bytes old new (count + 1)
whole bytes old mid new reader piece_count bits count fit n z few last e b =
    let size = length-bits_of piece_count bits in
    lists-rest bytes old mid new (bits_of piece_count bits ++ reader) (bits_of piece_count bits) count (octets-of bytes fit) (last-only piece_count bits reader (last (omega (arith, n, few)))) (omega (arith, size, z)) (omega (arith, size, n, few)) e b

pub returns-clause-answer : goal.returns-clause-answer
returns-clause-answer c =
    let before = c.loop-piece.invariant in
    whole c.args.bytes.now c.args.out.now.items c.loop-piece.out.items c.put_rest.new.text.items c.loop-piece.reader c.loop-piece.piece.count c.loop-piece.piece.bits c.loop-piece.count (λ i. omega (arith, c.type_inv.bytes i)) c.loop-piece-test.false c.if-piece-eq0.false (omega (arith, before.few)) before.last (c.in_ok-put_rest.ensures {u = tt}).ok before.listed

pub returns-clause-kept : goal.returns-clause-kept
returns-clause-kept c =
    let before = c.loop-piece.invariant.listed in
    kept-put c.args.out.now.items (before.text ++ ended (rest_line (bits_of c.loop-piece.piece.count c.loop-piece.piece.bits))) c.put_rest.new.text.items
    ((c.in_ok-put_rest.ensures {u = tt}).ok ∙ behind c.args.out.now.items before.text c.loop-piece.out.items _ before.put)
