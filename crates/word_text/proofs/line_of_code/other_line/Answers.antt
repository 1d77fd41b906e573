use Rattle.std.proofs.Common.{◌==◌, ◌/◌, ◌%◌, ℕ, List, ◌++◌, ap, ◌∙◌}
use Rattle.std.proofs.lemmas.Result.{on_ok_weaker}
use lib.Chars.{codes}
use Rattle.word_text.specs.Digits.{bit_text}
use Rattle.lk_base.specs.Hex.{hex}
use Rattle.word_text.proofs.Behind.{both, named}
use Rattle.word_text.proofs.line_of_code.other_line.Goals as goal

pub returns : goal.returns
returns c =
    let l0 = c.clear.new.self.items in
    let l1 = c.put_bit.new.line.items in
    let l2 = c.put_bit-2.new.line.items in
    let l3 = c.put.new.line.items in
    let l4 = c.put_digits.new.line.items in
    let inverted = bit_text c.args.inverted in
    let high = bit_text (c.args.header / 2 == 1) in
    let low = bit_text (c.args.header % 2 == 1) in
    let last = codes " " ++ hex 16 c.args.payload in
    let put_low = (c.in_ok-put.ensures {u = tt}).ok ∙ ap (λ (xs : List ℕ). l2 ++ xs) c.bit_text.ensures in
    on_ok_weaker c.put_digits.result (λ e.
    let s3 = both l2 l3 l4 low last put_low e in
    let s2 = named l1 l2 l4 (codes " ") high (low ++ last) (c.in_ok-put_bit-2.ensures {u = tt}) s3 in
    named l0 l1 l4 (codes "code ") inverted (codes " " ++ (high ++ (low ++ last))) (c.in_ok-put_bit.ensures {u = tt}) s2
    ∙ ap (λ (xs : List ℕ). xs ++ (codes "code " ++ (inverted ++ (codes " " ++ (high ++ (low ++ last)))))) c.clear.ensures.items) c.put_digits.ensures
