use Rattle.std.proofs.Common.{◌≡◌, ◌<◌, ◌≤◌, ◌-◌, ◌/◌, ◌^◌, ◌==◌, ℕ, zero, suc, Bool, List, [], ◌∷◌, ◌++◌, map, bit_and, sym, ap, ◌∙◌, append_assoc, append-nil, arith}
use Rattle.std.specs.Int.{bit_at}
use Rattle.std.proofs.lemmas.Nat.{and_mask}
use Rattle.lk_base.specs.Checksum.{bits_of}
use Rattle.coding_67b.proofs.Cut.{first_bit}
use Rattle.lk_base.proofs.Bits.{no_bits}
use Rattle.word_text.specs.Digits.{bit_glyph, bit_text}
use Rattle.word_text.proofs.rest.rest_line.Goals as goal

more : (line new whole : List ℕ) (place bits : ℕ) → 0 < place → line ++ map bit_glyph (bits_of place bits) ≡ whole → new ≡ line ++ bit_text (bit_and (bits / 2 ^ (place - 1)) 1 == 1) → new ++ map bit_glyph (bits_of (place - 1) bits) ≡ whole
more line new whole place bits h e f =
    let bit : (bit_and (bits / 2 ^ (place - 1)) 1 == 1) ≡ (bit_at bits (place - 1) == 1) = ap (λ (x : ℕ). x == 1) (and_mask (bits / 2 ^ (place - 1)) 1) in
    ap (λ (l : List ℕ). l ++ map bit_glyph (bits_of (place - 1) bits)) (f ∙ ap (λ (b : Bool). line ++ bit_text b) bit)
    ∙ append_assoc line (bit_text (bit_at bits (place - 1) == 1)) (map bit_glyph (bits_of (place - 1) bits))
    ∙ ap (λ (l : List Bool). line ++ map bit_glyph l) (sym (first_bit place bits h))
    ∙ e

last : (line whole : List ℕ) (place bits : ℕ) → place ≤ 0 → line ++ map bit_glyph (bits_of place bits) ≡ whole → line ≡ whole
last line whole zero bits h e = sym (append-nil line) ∙ ap (λ (l : List Bool). line ++ map bit_glyph l) (sym (no_bits bits)) ∙ e
last line whole (suc place) bits h e = absurd (omega arith)

pub loop-place-init : goal.loop-place-init
loop-place-init c =
    ap (λ (l : List ℕ). l ++ map bit_glyph (bits_of c.args.rest.now.count c.args.rest.now.bits)) ((c.in_ok-put.ensures {u = tt}).ok ∙ ap (λ (l : List ℕ). l ++ 114 ∷ 101 ∷ 115 ∷ 116 ∷ 32 ∷ []) c.clear.ensures.items)

pub loop-place-preserved : goal.loop-place-preserved
loop-place-preserved c =
    more c.loop-place.line.items c.put-in-loop-place.new.line.items _ c.loop-place.place c.args.rest.now.bits c.loop-place-test.true c.loop-place.invariant
    ((c.in_ok-put-2.ensures {u = tt}).ok ∙ ap (λ (l : List ℕ). c.loop-place.line.items ++ l) c.bit_text.ensures)

pub returns : goal.returns
returns c = last c.loop-place.line.items _ c.loop-place.place c.args.rest.now.bits c.loop-place-test.false c.loop-place.invariant
