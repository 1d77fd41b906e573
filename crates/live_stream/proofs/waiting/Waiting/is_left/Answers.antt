use Rattle.std.proofs.Common.{◌≡◌, ◌↔◌, ◌<◌, ◌==◌, ℕ, zero, suc, Bool, true, false, not, length, nat_eq, nat_lt, subst, sym, ap, ◌∙◌, arith}
use Rattle.std.proofs.lemmas.Bool.Decides.{nat_tests}
use Rattle.burst_scheduler.specs.Queues.{chunks_in}
use Rattle.live_stream.specs.Waiting.{has_packets}
use Rattle.live_stream.proofs.Left.{left_by}
use Rattle.live_stream.proofs.waiting.Waiting.is_left.Goals as goal

not_empty : (n m : ℕ) (b : Bool) → b ≡ (n == 0) → n ≡ m → not b ≡ nat_lt 0 m
not_empty n zero b is same = ap not (is ∙ ap (λ k. k == 0) same)
not_empty n (suc m) b is same =
    let some : nat_lt 0 (suc m) ≡ true = grind (arith, nat_tests) in
    let none : nat_eq (suc m) 0 ≡ false = grind (arith, nat_tests) in
    ap not (is ∙ ap (λ k. nat_eq k 0) same ∙ none) ∙ sym some

pub returns-clause-left : goal.returns-clause-left
returns-clause-left c sizes packets done h =
    let same : not c.is_empty.result ≡ has_packets c.args.self.now = not_empty c.args.self.now.packets.len (length c.args.self.now.packets.items) c.is_empty.result c.is_empty.ensures c.args.self.now.packets.ok.0 in
    subst (λ (b : Bool). (b ≡ true) ↔ (done < length (chunks_in sizes packets))) (sym same) (left_by sizes c.args.self.now packets done h)
