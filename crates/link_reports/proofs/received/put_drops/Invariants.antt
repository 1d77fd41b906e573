use Rattle.std.proofs.Common.{◌≡◌, ◌++◌, flat_map, take}
use Rattle.link_reports.specs.Lines.{drop_text_of}
use Rattle.link_reports.proofs.received.put_drops.Given as goal

-- the counts of the reasons before are there
abbrev pub invariant-loop-why : goal.invariant-loop-why
invariant-loop-why l = l.text.items ≡ l.fn.text.items ++ flat_map (drop_text_of l.counts) (take l.why-index l.reasons)
