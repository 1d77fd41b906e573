use Rattle.std.proofs.Common.{ℕ, ◌≡◌, ◌+◌, ◌-◌, ◌≤◌, ◌++◌, ◌∙◌, sym, ap, subst, List, length, take, drop, arith}
use Rattle.std.proofs.Math.Seq.{take-append_seam}
use Rattle.std.proofs.lemmas.List.{length-drop, length-take-le}
use Rattle.lk_base.specs.declared.word.Word.{Word}
use Rattle.tx_end.specs.declared.tx_out.TxRun.{TxRun}
use Rattle.tx_end.specs.LaneRows.{IsRun, on_lane, outs_in}
use Rattle.tx_end.specs.Sending.{Sends, gave_more, with_words}
use Rattle.tx_end.proofs.Giving.{further, gives}
use Rattle.tx_end.proofs.transmitter.Transmitter.next_run.Goals as goal

pub returns-then-count-eq0-clause-none : goal.returns-then-count-eq0-clause-none
returns-then-count-eq0-clause-none c a k is =
    let r = c.refill.ensures a k in
    let within = r.1.driven.place.at in
    (r.0, r.1, r.2 (omega (arith, c.if-count-eq0.true, c.min-count.ensures, c.len.ensures, c.refill.new.self.bytes.ok.0, c.requires.room, within)))

pub returns-clause-some : goal.returns-clause-some
returns-clause-some c a run k is =
    let r = c.refill.ensures a k in
    let t = c.refill.new.self in
    let n : ℕ = c.min-count.result in
    let within = r.1.driven.place.at in
    let some : 1 ≤ n = omega (arith, c.if-count-eq0.false) in
    let room : t.at + n ≤ length t.bytes.items = omega (arith, c.min-count.ensures, c.len.ensures, t.bytes.ok.0, within) in
    let most : n ≤ length c.args.block.now = omega (arith, c.min-count.ensures) in
    let g = gives t (with_words a r.0) n r.1 some room in
    let bytes : List ℕ = t.bytes.items in
    let src = c.copy_from_slice.new.self in
    let count : t.at + n - t.at ≡ n = omega arith in
    let source : src ≡ take n (drop t.at bytes) = c.copy_from_slice.ensures.after ∙ ap (λ k. take k (drop t.at c.deref.result.now)) count ∙ ap (λ xs. take n (drop t.at xs)) c.deref.ensures.value in
    let left = length-drop t.at bytes in
    let long : length src ≡ n = ap length source ∙ length-take-le n (drop t.at bytes) (omega (arith, left, room)) in
    let first : take n (src ++ drop n c.args.block.now) ≡ take n (drop t.at bytes) = ap (λ k. take k (src ++ drop n c.args.block.now)) (sym long) ∙ take-append_seam src (drop n c.args.block.now) ∙ source in
    let own : record { lane = t.turn - 1; count = n } ≡ run = cc is in
    subst (λ (q : TxRun). (x : List Word) × Sends (further t n) (gave_more a x (outs_in q (src ++ drop n c.args.block.now))) × IsRun a.settings q (length c.args.block.now)) own
    (r.0, subst (λ (b : List ℕ). Sends (further t n) (gave_more a r.0 (on_lane (t.turn - 1) b))) (sym first) g.0, (g.1, some, most))
