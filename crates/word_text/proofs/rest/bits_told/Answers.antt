use Rattle.std.proofs.Common.{◌≡◌, ◌+◌, ◌<◌, ◌≤◌, ◌^◌, ◌==◌, ℕ, Bool, List, [], ◌∷◌, ◌++◌, length, map, take, slice_index_or, sym, ap, ◌∙◌, arith, subst}
use Rattle.std.proofs.lemmas.List.{take_more, map-append, take_all}
use Rattle.lk_base.specs.Checksum.{bits_of}
use Rattle.lk_base.proofs.Bits.{no_bits}
use Rattle.word_text.proofs.BitRuns.{shifted-in, below-more, bits-more}
use Rattle.word_text.proofs.rest.bits_told.Goals as goal

one-more : (text : List ℕ) (i : ℕ) → i < length text → map (λ b. b == 49) (take i text) ++ (slice_index_or text i 0 == 49) ∷ [] ≡ map (λ b. b == 49) (take (i + 1) text)
one-more text i h = sym (map-append (λ b. b == 49) (take i text) (slice_index_or text i 0 ∷ [])) ∙ ap (map (λ b. b == 49)) (sym (take_more text i 0 h))

last : (text : List ℕ) (i : ℕ) → length text ≤ i → i ≤ length text → i ≡ length text
last text i h k = omega arith

pub loop-byte-init : goal.loop-byte-init
loop-byte-init c = record { below = omega arith; told = no_bits 0 }

pub loop-byte-preserved : goal.loop-byte-preserved
loop-byte-preserved c =
    let index = c.loop-byte.byte-index in
    let bit = slice_index_or c.args.text.now c.loop-byte.byte-index 0 == 49 in
    let is = shifted-in c.loop-byte.byte-index c.loop-byte.bits bit (omega (arith, c.requires, c.loop-byte-test.true)) c.loop-byte.invariant.below in
    record {
      below = below-more index c.loop-byte.bits _ bit c.loop-byte.invariant.below is;
      told = bits-more index c.loop-byte.bits _ bit is ∙ ap (λ (l : List Bool). l ++ bit ∷ []) c.loop-byte.invariant.told ∙ one-more c.args.text.now index c.loop-byte-test.true;
    }

pub returns-clause-below : goal.returns-clause-below
returns-clause-below c = let e = last c.args.text.now c.loop-byte.byte-index c.loop-byte-test.false c.loop-byte.auto.byte-index-end in subst (λ (n : ℕ). c.loop-byte.bits < 2 ^ n) e c.loop-byte.invariant.below

pub returns-clause-bits : goal.returns-clause-bits
returns-clause-bits c =
    let e = last c.args.text.now c.loop-byte.byte-index c.loop-byte-test.false c.loop-byte.auto.byte-index-end in
    ap (λ (n : ℕ). bits_of n c.loop-byte.bits) (sym e) ∙ c.loop-byte.invariant.told ∙ ap (map (λ b. b == 49)) (take_all c.loop-byte.byte-index c.args.text.now c.loop-byte-test.false)
