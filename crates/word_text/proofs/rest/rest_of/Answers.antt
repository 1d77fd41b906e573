use Rattle.std.proofs.Common.{◌≡◌, ◌-◌, ◌==◌, ℕ, List, length, map, take, drop, sym, ap, ◌∙◌, arith, length-drop}
use Rattle.std.proofs.lemmas.List.{take_all}
use Rattle.std.proofs.lemmas.Slice.Eq.{slice_eq-Decides}
use Rattle.std.proofs.lemmas.Bool.Decides.{Decides-eqb}
use Rattle.std.proofs.lemmas.Bool.{false≢true}
use Rattle.lk_base.specs.Checksum.{bits_of}
use Rattle.word_text.specs.CodeLines.{rest_line}
use Rattle.word_text.specs.Refusals.{IsRestLine}
use Rattle.word_text.proofs.Rests.{rest-of-line, bits-back}
use Rattle.word_text.proofs.rest.rest_of.Goals as goal

spells : (line spelled : List ℕ) (bits : ℕ) → bits_of (length (take (length line - 5) (drop 5 line))) bits ≡ map (λ b. b == 49) (take (length line - 5) (drop 5 line)) → spelled ≡ rest_line (bits_of (length line - 5) bits) → IsRestLine line → spelled ≡ line
spells line spelled bits e f r =
    let rest = rest-of-line line r in
    let size = length-drop 5 line in
    let all : take (length line - 5) (drop 5 line) ≡ drop 5 line = take_all (length line - 5) (drop 5 line) (omega (arith, size)) in
    let told : bits_of (length line - 5) bits ≡ rest.bits =
    ap (λ (n : ℕ). bits_of n bits) (sym size ∙ ap length (sym all)) ∙ e ∙ ap (map (λ b. b == 49)) (all ∙ ap (drop 5) rest.is) ∙ bits-back rest.bits in
    f ∙ ap rest_line told ∙ sym rest.is

pub returns-else-eq : goal.returns-else-eq
returns-else-eq c r =
    let e = spells c.args.line.now c.rest_line.new.line.items c.bits_told.result c.bits_told.ensures.bits (c.in_ok-rest_line.ensures {u = tt}) r in
    let same = (slice_eq-Decides Decides-eqb c.as_slice.result.now c.args.line.now c.eq.result c.eq.ensures).1 (c.as_slice.ensures.value ∙ e) in
    false≢true (sym c.if-eq.false ∙ same)
