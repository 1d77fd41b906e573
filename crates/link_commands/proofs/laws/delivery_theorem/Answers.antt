-- Proved above.
use Rattle.link_commands.proofs.AllSent.{sends_all}
use Rattle.link_commands.proofs.Delivers.{clean_counts, clean_delivers, counts_blocks, delivers, lists_spans, never_when_off}
use Rattle.link_commands.proofs.Lacks.{lacks_a_packet}
use Rattle.link_commands.proofs.Missed.{tells_missing}
use Rattle.link_commands.proofs.Narrow.{narrow_spans}
use Rattle.link_commands.proofs.laws.delivery_theorem.Goals as goal

pub returns : goal.returns
returns c = record { delivers = delivers; clean = clean_delivers; spans = lists_spans; blocks = counts_blocks; none = clean_counts; sends_all = sends_all; held_lacks = lacks_a_packet; off = never_when_off; narrow = narrow_spans; missing = tells_missing }
