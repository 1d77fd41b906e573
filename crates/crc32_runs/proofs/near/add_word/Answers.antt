use Rattle.std.proofs.Common.{◌≡◌, refl, length, ap, ◌∙◌, ◌-◌, bit_xor, ℕ}
use Rattle.crc32_runs.specs.Registers.{later, register_of, taken}
use Rattle.crc32_runs.proofs.Added.{seven_added}
use Rattle.crc32_runs.proofs.near.add_word.Goals as goal

pub returns-clause-register : goal.returns-clause-register
returns-clause-register c =
    let word = c.args.word in
    let one = c.add_at.ensures.length in
    let two = c.add_at-2.ensures.length ∙ one in
    let three = c.add_at-3.ensures.length ∙ two in
    let four = c.add_at-4.ensures.length ∙ three in
    let five = c.add_at-5.ensures.length ∙ four in
    let six = c.add_at-6.ensures.length ∙ five in
    let at = λ (q : ℕ) (sum n m : ℕ) (e : n ≡ m). ap (λ (k : ℕ). bit_xor sum (later (k - 1 - q) (taken word))) e in
    seven_added word c.args.after.now (length c.args.after.now) _ _ _ _ _ _ _ refl c.requires.room
    c.add_at.ensures.register
    (c.add_at-2.ensures.register ∙ at 77 (register_of c.add_at.new.words) _ _ one)
    (c.add_at-3.ensures.register ∙ at 66 (register_of c.add_at-2.new.words) _ _ two)
    (c.add_at-4.ensures.register ∙ at 60 (register_of c.add_at-3.new.words) _ _ three)
    (c.add_at-5.ensures.register ∙ at 20 (register_of c.add_at-4.new.words) _ _ four)
    (c.add_at-6.ensures.register ∙ at 7 (register_of c.add_at-5.new.words) _ _ five)
    (c.add_at-7.ensures.register ∙ at 3 (register_of c.add_at-6.new.words) _ _ six)
