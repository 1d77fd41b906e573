use Rattle.std.proofs.Common.{ℕ, ◌≡◌, ◌-◌, ◌^◌, List, length, map}
use Rattle.lk_base.specs.declared.word.Word.{Word}
use Rattle.stream_model.specs.BurstStream.{Source}
use Rattle.tx_end.specs.SentLanes.{HasSent}
use Rattle.tx_end.proofs.sent_lanes.fill_all.Given as goal

-- some groups were sent
abbrev pub invariant-loop-maker : goal.invariant-loop-maker
invariant-loop-maker l = record {
  settings : l.filler.settings ≡ l.fn.filler.settings;
  long : length l.group ≡ length l.fn.group;
  sent : (source : Source) (words : List Word) (made : ℕ) → HasSent l.fn.maker l.fn.list source l.fn.filler.settings words made l.fn.filler.lanes (map (λ file. file.items) l.fn.files) →
      (all : List Word) × (groups : ℕ) × HasSent l.maker l.list source l.fn.filler.settings all groups l.filler.lanes (map (λ file. file.items) l.files);
}

abbrev pub decreases-loop-maker : goal.decreases-loop-maker
decreases-loop-maker l = 2 ^ 60 - l.maker.scheduler.slot
