use Rattle.std.proofs.Common.{◌++◌, ◌∙◌, List, ap, sym, arith, append-nil}
use Rattle.std.proofs.lemmas.List.{take_all}
use Rattle.word_rules.specs.declared.fault.Fault.{Fault}
use Rattle.check_commands.specs.Tally.{counts_of}
use Rattle.check_commands.proofs.Tallies.{fault_more, room}
use Rattle.check_commands.proofs.tally.count_faults.Goals as goal

pub loop-fault-init : goal.loop-fault-init
loop-fault-init c = λ told e. e ∙ ap counts_of (sym (append-nil told))

pub count_fault-requires : goal.count_fault-requires
count_fault-requires c =
    let (told, e, few) = c.requires in
    room told c.args.faults.now c.loop-fault.fault-index _ c.loop-fault.counts c.loop-fault-test.true (c.loop-fault.invariant told e) few

pub loop-fault-preserved : goal.loop-fault-preserved
loop-fault-preserved c = λ told e.
    fault_more told c.args.faults.now c.loop-fault.fault-index _ c.loop-fault.counts _ c.loop-fault-test.true (c.loop-fault.invariant told e) c.count_fault.ensures

pub returns : goal.returns
returns c = λ told e.
    c.loop-fault.invariant told e ∙ ap (λ (l : List Fault). counts_of (told ++ l)) (take_all c.loop-fault.fault-index c.args.faults.now (let stop = c.loop-fault-test.false in omega arith))
