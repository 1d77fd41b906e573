use Rattle.std.proofs.Common.{◌∙◌, ◌++◌, ap, List, ℕ}
use Rattle.std.specs.List.{flat_map}
use Rattle.link_reports.specs.Lines.{slots_line}
use Rattle.duplex_commands.specs.Ended.{counted_line}
use Rattle.duplex_commands.proofs.Ends.{text_is, counted_on}
use Rattle.duplex_commands.proofs.text.text_of.Goals as goal

pub end_lines-requires : goal.end_lines-requires
end_lines-requires c =
    let (b, settings, ends, now, at, channels) = c.requires.at in
    (settings, ends, c.args.slots, at.from_a, at.from_b, at.runs, counted_on at.got_a b.setting.channels ends.channels _ channels (c.deref.ensures.value ∙ at.kept.counts_a))

pub end_lines-requires-2 : goal.end_lines-requires-2
end_lines-requires-2 c =
    let (b, settings, ends, now, at, channels) = c.requires.at in
    (settings, ends, c.args.slots, at.from_a, at.from_b, at.runs, counted_on at.got_b b.setting.channels ends.channels _ channels (c.deref-2.ensures.value ∙ at.kept.counts_b))

pub returns : goal.returns
returns c b settings ends now at channels last =
    let slots = c.args.slots in
    let same_a = c.deref.ensures.value in
    let same_b = c.deref-2.ensures.value in
    let lines_a : List ℕ = flat_map (counted_line 97 settings at.from_b slots) c.deref.result.now in
    let lines_b : List ℕ = flat_map (counted_line 98 settings at.from_a slots) c.deref-2.result.now in
    let a = c.in_ok-end_lines.ensures settings ends slots at.from_a at.from_b at.runs (counted_on at.got_a b.setting.channels ends.channels _ channels (same_a ∙ at.kept.counts_a)) in
    let z = c.in_ok-end_lines-2.ensures settings ends slots at.from_a at.from_b at.runs (counted_on at.got_b b.setting.channels ends.channels _ channels (same_b ∙ at.kept.counts_b)) in
    text_is b settings ends slots c.args.duplex.now c.args.captures.now now at c.requires.given last c.deref.result.now c.deref-2.result.now same_a same_b _
    (c.in_ok-slots_line.ensures.ok ∙ ap (λ (n : ℕ). c.end_lines-2.new.text.items ++ slots_line n) c.from.ensures
    ∙ ap (λ (t : List ℕ). t ++ slots_line slots) (z ∙ ap (λ (t : List ℕ). t ++ lines_b) (a ∙ ap (λ (t : List ℕ). t ++ lines_a) c.new-text.ensures.items)))
