use Rattle.std.proofs.Common.{◌++◌, ◌∙◌, ap, ap₂, ℕ, List, get_or}
use Rattle.std.specs.List.{flat_map}
use Rattle.std.proofs.lemmas.List.{take_all}
use Rattle.receipts.specs.declared.receipt.ChannelReceipt.{ChannelReceipt}
use Rattle.link_reports.specs.Lines.{end_line}
use Rattle.duplex.specs.Duplexes.{sent_to}
use Rattle.receipts.proofs.Lines.{line_more}
use Rattle.duplex_commands.specs.Ended.{counted_line, letter_of}
use Rattle.duplex_commands.proofs.text.end_lines.Goals as goal

pub peak-requires : goal.peak-requires
peak-requires c =
    let (settings, ends, slots, a, b, runs, all) = c.requires in
    (settings, ends, slots, a, b, runs, all c.loop-one.one-index _ c.loop-one-test.true)

pub loop-one-preserved : goal.loop-one-preserved
loop-one-preserved c settings ends slots a b runs all =
    let one = get_or c.args.counts.now c.loop-one.one-index _ in
    line_more (counted_line (letter_of c.args.end) settings (sent_to c.args.end a b) slots) c.loop-one.text.items c.args.text.now.items c.end_line.new.out.items c.args.counts.now c.loop-one.one-index _ c.loop-one-test.true (c.loop-one.invariant settings ends slots a b runs all)
    (c.in_ok-end_line.ensures.ok ∙ ap₂ (λ (l n : ℕ). c.loop-one.text.items ++ end_line l one.channel one.packets one.bytes n) c.letter.ensures (c.from-peak.ensures ∙ c.peak.ensures settings ends slots a b runs (all c.loop-one.one-index _ c.loop-one-test.true)))

pub returns : goal.returns
returns c settings ends slots a b runs all =
    let counts = c.args.counts.now in
    c.loop-one.invariant settings ends slots a b runs all
    ∙ ap (λ (cs : List ChannelReceipt). c.args.text.now.items ++ flat_map (counted_line (letter_of c.args.end) settings (sent_to c.args.end a b) slots) cs) (take_all c.loop-one.one-index counts c.loop-one-test.false)
