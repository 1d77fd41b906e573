use Rattle.std.proofs.Common.{◌≡◌, ℕ, List, [], ◌++◌, ap, ◌∙◌}
use Rattle.std.proofs.lemmas.Result.{on_ok_weaker}
use lib.Chars.{codes}
use Rattle.std.specs.Fmt.{decimal}
use Rattle.word_text.specs.Digits.{bit_text}
use Rattle.lk_base.specs.Hex.{hex}
use Rattle.word_text.specs.WordLines.{kind_text, end_text, fields_text}
use Rattle.word_text.proofs.Behind.{both, named}
use Rattle.word_text.proofs.line_of_word.fields_line.Goals as goal

-- pieces one after the other, five of them a name and its value
in_line : (l0 l1 l2 l3 l4 l5 l6 l7 l8 l9 n1 n2 b2 n3 n4 n5 b5 n6 b6 n7 b7 n8 b8 n9 : List ℕ) → l0 ≡ [] → l1 ≡ l0 ++ n1 → l2 ≡ l1 ++ (n2 ++ b2) → l3 ≡ l2 ++ n3 → l4 ≡ l3 ++ n4 → l5 ≡ l4 ++ (n5 ++ b5) → l6 ≡ l5 ++ (n6 ++ b6) → l7 ≡ l6 ++ (n7 ++ b7) → l8 ≡ l7 ++ (n8 ++ b8) → l9 ≡ l8 ++ n9 → l9 ≡ n1 ++ (n2 ++ (b2 ++ (n3 ++ (n4 ++ (n5 ++ (b5 ++ (n6 ++ (b6 ++ (n7 ++ (b7 ++ (n8 ++ (b8 ++ n9))))))))))))
in_line l0 l1 l2 l3 l4 l5 l6 l7 l8 l9 n1 n2 b2 n3 n4 n5 b5 n6 b6 n7 b7 n8 b8 n9 e0 e1 e2 e3 e4 e5 e6 e7 e8 e9 =
    let s8 = named l7 l8 l9 n8 b8 n9 e8 e9 in
    let s7 = named l6 l7 l9 n7 b7 (n8 ++ (b8 ++ n9)) e7 s8 in
    let s6 = named l5 l6 l9 n6 b6 (n7 ++ (b7 ++ (n8 ++ (b8 ++ n9)))) e6 s7 in
    let s5 = named l4 l5 l9 n5 b5 (n6 ++ (b6 ++ (n7 ++ (b7 ++ (n8 ++ (b8 ++ n9)))))) e5 s6 in
    let s4 = both l3 l4 l9 n4 (n5 ++ (b5 ++ (n6 ++ (b6 ++ (n7 ++ (b7 ++ (n8 ++ (b8 ++ n9)))))))) e4 s5 in
    let s3 = both l2 l3 l9 n3 (n4 ++ (n5 ++ (b5 ++ (n6 ++ (b6 ++ (n7 ++ (b7 ++ (n8 ++ (b8 ++ n9))))))))) e3 s4 in
    let s2 = named l1 l2 l9 n2 b2 (n3 ++ (n4 ++ (n5 ++ (b5 ++ (n6 ++ (b6 ++ (n7 ++ (b7 ++ (n8 ++ (b8 ++ n9)))))))))) e2 s3 in
    let s1 = both l0 l1 l9 n1 (n2 ++ (b2 ++ (n3 ++ (n4 ++ (n5 ++ (b5 ++ (n6 ++ (b6 ++ (n7 ++ (b7 ++ (n8 ++ (b8 ++ n9)))))))))))) e1 s2 in
    s1 ∙ ap (λ (xs : List ℕ). xs ++ (n1 ++ (n2 ++ (b2 ++ (n3 ++ (n4 ++ (n5 ++ (b5 ++ (n6 ++ (b6 ++ (n7 ++ (b7 ++ (n8 ++ (b8 ++ n9)))))))))))))) e0

pub returns : goal.returns
unfolding fields_text
returns c =
    let f = c.args.c in
    on_ok_weaker c.put_digits-2.result (λ last. in_line c.clear.new.self.items c.put.new.line.items c.put_bit.new.line.items c.put-2.new.line.items c.put_end.new.line.items c.put_bit-2.new.line.items c.put_digits.new.line.items c.put_number.new.line.items c.put_number-2.new.line.items c.put_digits-2.new.line.items
    (kind_text f.burst) (codes " sop=") (bit_text f.sop) (codes " eop=") (end_text f.eop) (codes " reset=") (bit_text f.reset) (codes " flow=") (hex 4 f.flow) (codes " channel=") (decimal f.channel) (codes " multi=") (decimal f.multi) (codes " crc=" ++ hex 6 c.args.crc)
    c.clear.ensures.items
    ((c.in_ok-put.ensures {u = tt}).ok ∙ ap (λ (xs : List ℕ). c.clear.new.self.items ++ xs) c.kind_text.ensures)
    (c.in_ok-put_bit.ensures {u = tt})
    (c.in_ok-put-2.ensures {u = tt}).ok
    (c.in_ok-put_end.ensures {u = tt})
    (c.in_ok-put_bit-2.ensures {u = tt})
    (c.in_ok-put_digits.ensures {u = tt})
    (c.in_ok-put_number.ensures {u = tt})
    (c.in_ok-put_number-2.ensures {u = tt})
    last) c.put_digits-2.ensures
