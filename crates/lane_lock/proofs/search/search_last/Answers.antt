-- One position more.
use Rattle.std.proofs.Common.{◌≡◌, sym, ap, subst, ◌∙◌, ◌+◌, ◌-◌, ◌*◌, ◌≤◌, not, true, ℕ, ◌++◌, length, map, arith}
use Rattle.std.specs.List.{range_with_len}
use Rattle.std.proofs.lemmas.Bool.{le-leb}
use Rattle.lk_base.specs.Checksum.{bits_of_bytes}
use Rattle.lane_model.specs.Coding.{word_of_code}
use Rattle.lane_model.proofs.FilesHold.{length-flat_map_bits}
use Rattle.lock_model.specs.Locks.{has_legal, has_sync, has_word, word_at}
use Rattle.phase_finder.specs.Phases.{Watches}
use Rattle.lane_lock.specs.Marks.{Recalls}
use Rattle.lane_lock.proofs.Misses.{code_is, position_more}
use Rattle.lane_lock.proofs.WatchSteps.{legal_is, sync_is}
use Rattle.lane_lock.proofs.search.search_last.Goals as goal

pub loop-k-preserved : goal.loop-k-preserved
loop-k-preserved c =
    let bits = bits_of_bytes c.args.bytes.now in
    let first = 8 * length c.args.bytes.now - 66 - c.args.count in
    let q = first + c.loop-k.k in
    let l : length bits ≡ 8 * length c.args.bytes.now = length-flat_map_bits 8 c.args.bytes.now in
    let fits : q + 67 ≤ length bits = (let there = c.requires.there in let more = c.loop-k-test.true in omega (arith, l, there, more)) in
    let there : has_word bits q ≡ true = le-leb (q + 67) (length bits) fits in
    let is : word_at bits q ≡ c.decode-word.result = ap word_of_code (sym (code_is bits q c.code_at.result c.code_at.ensures.below c.code_at.ensures.bits)) ∙ sym c.decode-word.ensures.value in
    let i = c.loop-k.invariant in
    record {
      taken = c.step-start.ensures.taken ∙ ap (λ (x : ℕ). x + 1) i.taken ∙ omega arith;
      period = c.step-start.ensures.period ∙ i.period;
      need = c.step-start.ensures.need ∙ i.need;
      hits = λ period need from hits k.
          subst (Watches c.step-start.new.self period need from)
          (position_more (has_legal bits) hits first c.loop-k.k (not c.is_bad.result) (ap not c.is_bad.ensures ∙ sym (legal_is bits q c.decode-word.result there is)))
          (c.step-start.ensures.run period need from (hits ++ map (has_legal bits) (range_with_len first c.loop-k.k)) (i.hits period need from hits k)).1;
      marks = λ given k.
          subst (Recalls c.step-syncs.new.self)
          (position_more (has_sync bits) given first c.loop-k.k c.is_control_of.result (c.is_control_of.ensures ∙ sym (sync_is bits q c.decode-word.result there is)))
          (c.step-syncs.ensures (given ++ map (has_sync bits) (range_with_len first c.loop-k.k)) (i.marks given k)).0;
    }

pub returns-clause-hits : goal.returns-clause-hits
returns-clause-hits c period need from hits k =
    let bits = bits_of_bytes c.args.bytes.now in
    let first = 8 * length c.args.bytes.now - 66 - c.args.count in
    let all : c.loop-k.k ≡ c.args.count = (let past = c.loop-k-test.false in let end = c.loop-k.auto.k-end in omega (arith, past, end)) in
    subst (λ (n : ℕ). Watches c.loop-k.starts period need from (hits ++ map (has_legal bits) (range_with_len first n))) all (c.loop-k.invariant.hits period need from hits k)
