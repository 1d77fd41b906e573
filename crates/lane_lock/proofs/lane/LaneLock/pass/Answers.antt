-- The search after bytes that were passed over.
use Rattle.std.proofs.Common.{sym, ap, refl, subst, ◌∙◌, ◌+◌, ◌-◌, ◌*◌, ◌++◌, false, length, replicate}
use Rattle.lock_model.specs.Locks.{has_legal, has_sync}
use Rattle.phase_finder.specs.Phases.{Phases, Watches}
use Rattle.lane_lock.specs.Lane.{LaneView}
use Rattle.lane_lock.specs.Marks.{MarkList, Recalls}
use Rattle.lane_lock.specs.Standing.{positions}
use Rattle.lk_base.specs.Checksum.{bits_of_bytes}
use Rattle.lane_lock.proofs.Hunting.{count_positions}
use Rattle.lane_lock.proofs.LastWord.{hunted}
use Rattle.lane_lock.proofs.Misses.{code_is}
use Rattle.lane_lock.proofs.PassedOver.{passes, quiet_all}
use Rattle.lane_lock.proofs.lane.LaneLock.pass.Goals as goal

pub returns-clause-stands : goal.returns-clause-stands
returns-clause-stands c s bits own st are =
    let v = c.args.self.now in
    let e = c.self.view_is in
    let can = c.requires.pass in
    let h = hunted v s bits st can.searching in
    let hits = positions has_legal bits v.from in
    let kept = h.marks.kept in
    let passed = 8 * length c.args.bytes.now - 67 * c.args.words in
    let starts = c.search_last.ensures.hits 67 64 v.from (hits ++ replicate passed false)
    (c.pass_misses.ensures.run 67 64 v.from hits (subst (λ (x : Phases). Watches x 67 64 v.from hits) (sym (ap (λ (x : LaneView). x.starts) e)) h.starts)) in
    let marks = c.search_last.ensures.marks (replicate (length kept + passed) false)
    (c.forget.ensures kept (subst (λ (x : MarkList). Recalls x kept) (sym (ap (λ (x : LaneView). x.marks) e)) h.marks.recalls)) in (
      passes v s bits st c.args.bytes.now c.args.words can _ c.code_at-self-inside.result (length kept)
          (ap (λ (x : LaneView). x.watch.settings) e) refl
          (code_is (bits_of_bytes c.args.bytes.now) (8 * length c.args.bytes.now - 67) c.code_at-self-inside.result c.code_at-self-inside.ensures.below c.code_at-self-inside.ensures.bits)
          (ap (λ (x : LaneView). x.taken + 8 * length c.args.bytes.now) e) (ap (λ (x : LaneView). x.from) e) (ap (λ (x : LaneView). x.watching) e) (ap (λ (x : LaneView). x.report) e)
          starts (h.marks.long ∙ count_positions has_sync bits v.from) marks,
      quiet_all v s bits st c.args.bytes.now c.args.words can own are,
    )
