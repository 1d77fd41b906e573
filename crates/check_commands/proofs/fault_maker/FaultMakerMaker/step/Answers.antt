use Rattle.std.proofs.Common.{◌≡◌, ◌∙◌, ◌+◌, ◌<◌, ◌^◌, ◌++◌, true, false, List, ℕ, length, refl, sym, ap, subst, arith}
use Rattle.word_rules.specs.declared.fault.Fault.{Fault}
use Rattle.run_shell.specs.Rests.{join, rests_of}
use Rattle.run_shell.proofs.Rests.{join_given}
use Rattle.check_commands.specs.Making.{GaveFaults, rules_in}
use Rattle.check_commands.specs.Table.{check_text, fault_rows}
use Rattle.check_commands.specs.Tally.{IsTally}
use Rattle.check_commands.proofs.Makers.{all_done, begun_less, block_gave, gave_same, heading_gave}
use Rattle.check_commands.proofs.Passing.{few_told, in_order}
use Rattle.check_commands.proofs.fault_maker.FaultMakerMaker.step.Goals as goal

-- ---- the heading

pub returns-then-not-self-clause-less : goal.returns-then-not-self-clause-less
returns-then-not-self-clause-less c = (begun_less c.args.self.now.begun _ c.if-not-self.true, refl)

pub returns-then-not-self-clause-gave : goal.returns-then-not-self-clause-gave
returns-then-not-self-clause-gave c = λ done g.
    let m = c.args.self.now in
    let r = m.inputs.now in
    subst (λ (gs : List (List ℕ)). GaveFaults r m.checker m.tally true m.judged gs) (sym (join_given done (rests_of c.args.outputs.now) _ 0 c.heading.result.now (c.in_ok-give.ensures {u = tt}).given))
    (heading_gave r m.checker m.tally m.judged (join done (rests_of c.args.outputs.now)) c.heading.result.now (gave_same r m.checker m.tally m.judged (join done (rests_of c.args.outputs.now)) m.begun false c.if-not-self.true g) c.heading.ensures)

-- ---- the end

pub returns-then-self-len-clause-made : goal.returns-then-self-len-clause-made
returns-then-self-len-clause-made c = λ done g.
    let m = c.args.self.now in
    let r = m.inputs.now in
    let h = gave_same r m.checker m.tally m.judged (join done (rests_of c.args.outputs.now)) m.begun true c.if-not-self.false g in
    all_done r m.checker m.tally m.judged (join done (rests_of c.args.outputs.now)) h (record { held = false; text = c.in_ok-text.text }) (c.if-self-len.true ∙ c.len.ensures) refl (c.in_ok-text.ensures {u = tt} h.told h.counted ∙ ap (λ (n : ℕ). check_text n h.told) c.len-then-self-len.ensures)

-- ---- a block

pub block_faults-requires-clause-keeps : goal.block_faults-requires-clause-keeps
block_faults-requires-clause-keeps c = let (done, g) = c.requires.stands in (rules_in c.args.self.now.inputs.now, g.keeps)

pub take-requires : goal.take-requires
take-requires c =
    let r = c.args.self.now.inputs.now in
    let (done, g) = c.requires.stands in
    let found = c.in_ok-found.ensures.found (rules_in r) g.keeps (in_order _ g.order) in
    let few = few_told (rules_in r) r.words g.told c.in_ok-found.found.items _ g.few (ap (λ (l : List Fault). g.told ++ l) found ∙ g.are) in
    (g.told, g.counted, subst (λ (l : List Fault). length g.told + length l < 2 ^ 64) (sym c.deref.ensures.value) few)

pub returns-clause-gave : goal.returns-clause-gave
returns-clause-gave c = λ done g.
    let m = c.args.self.now in
    let r = m.inputs.now in
    let h = gave_same r m.checker m.tally m.judged (join done (rests_of c.args.outputs.now)) m.begun true c.if-not-self.false g in
    let same : c.deref.result.now ≡ c.in_ok-found.found.items = c.deref.ensures.value in
    let len = c.len.ensures in
    let least = c.min-to.ensures in
    gave_same r c.block_faults.new.checker c.take.new.self c.min-to.result (join done (rests_of c.give_rows.new.outputs)) true m.begun (sym c.if-not-self.false)
    (subst (λ (gs : List (List ℕ)). GaveFaults r c.block_faults.new.checker c.take.new.self true c.min-to.result gs) (sym (join_given done (rests_of c.args.outputs.now) _ 0 _ (c.in_ok-give_rows.ensures {u = tt}).given))
    (block_gave r m.checker m.tally m.judged (join done (rests_of c.args.outputs.now)) h c.block_faults.new.checker c.take.new.self c.min-to.result c.in_ok-found.found.items _
    (omega arith)
    (c.in_ok-found.ensures.keeps (rules_in r) h.keeps)
    (c.in_ok-found.ensures.found (rules_in r) h.keeps (in_order _ h.order))
    (subst (λ (l : List Fault). IsTally c.take.new.self (h.told ++ l)) same (c.take.ensures h.told h.counted))
    (ap (λ (l : List Fault). fault_rows l) c.deref-2.ensures.value)))
