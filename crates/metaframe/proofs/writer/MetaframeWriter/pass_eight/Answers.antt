-- The writer stands after the words.
use Rattle.std.proofs.Common.{ℕ, ◌≡◌, ◌+◌, ◌∙◌, List, length, map, refl, sym, ap, subst, arith}
use Rattle.lk_base.specs.declared.word.Word.{Word}
use Rattle.lk_base.specs.Words.{payload}
use Rattle.lk_base.specs.Checksum.{bits_of_words, register_after}
use Rattle.metaframe.specs.Progress.{Progress, passed_payloads}
use Rattle.metaframe.proofs.Places.{payload_within}
use Rattle.metaframe.proofs.writer.MetaframeWriter.pass_eight.Goals as goal

eight_passed : (w : Progress) (words : List Word) (numbers : List ℕ) (state register : ℕ) → length words ≡ 8 → numbers ≡ map payload words → register ≡ register_after 32 0x1EDC6F41 w.register (bits_of_words numbers) →
    record { settings = w.settings; position = w.position + 8; state = state; register = register } ≡ passed_payloads w state words
eight_passed w words numbers state register long are is = rw (long, is, are) refl

pub invariant_of-self : goal.invariant_of-self
invariant_of-self c =
    let w = c.args.self.now in
    let within = payload_within w.settings (w.position + 7) (c.requires 7 (omega arith)) in
    let p : c.self.inside.position ≡ w.position = ap (λ (x : Progress). x.position) c.self.view_is in
    let m : c.self.inside.link.metaframe ≡ w.settings.metaframe = ap (λ (x : Progress). x.settings.metaframe) c.self.view_is in
    omega (arith, within.0, within.1, p, m)

pub returns : goal.returns
returns c =
    let w = c.args.self.now in
    let words = c.args.words.now in
    let register = c.eight.new.self in
    subst (λ (x : Progress). record { settings = x.settings; position = x.position + 8; state = c.args.key; register = register } ≡ passed_payloads w c.args.key words) (sym c.self.view_is)
    (eight_passed w words c.numbers_of.result c.args.key register c.told-words c.numbers_of.ensures
    (c.eight.ensures ∙ ap (λ (x : Progress). register_after 32 0x1EDC6F41 x.register (bits_of_words c.numbers_of.result)) c.self.view_is))
