-- The bytes stand after the others.
use Rattle.std.proofs.Common.{ℕ, ◌≡◌, ◌+◌, ◌++◌, ◌∙◌, List, length, take, sym, ap, subst, append_assoc, arith}
use Rattle.std.proofs.lemmas.List.{length-take-le}
use Rattle.tx_end.specs.Lanes.{Carries}
use Rattle.tx_end.proofs.fill.give_bytes.Goals as goal

pub returns-clause-carries : goal.returns-clause-carries
returns-clause-carries c s number given made before k =
    let count = c.give-count.result in
    let at = c.args.at in
    let old : List ℕ = take at c.args.bytes.now in
    let piece : List ℕ = take count c.give-count.new.bytes in
    let long : length piece ≡ count = length-take-le count c.give-count.new.bytes (let n = c.give-count.array_long in omega (arith, n, c.give-count.ensures.most)) in
    let put : take (at + count) c.put_bytes.new.bytes ≡ old ++ piece = ap (λ (n : ℕ). take (at + n) c.put_bytes.new.bytes) (sym long) ∙ c.put_bytes.ensures in
    subst (λ (b : List ℕ). Carries c.give-count.new.self s number given made b) (append_assoc before old piece ∙ ap (λ (b : List ℕ). before ++ b) (sym put))
    (c.give-count.ensures.carries s number given made (before ++ old) k)
