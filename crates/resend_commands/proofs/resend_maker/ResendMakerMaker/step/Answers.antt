use Rattle.std.proofs.Common.{false, refl, sym, ap, subst, arith, ℕ}
use Rattle.retransmit.specs.Carried.{Carried}
use Rattle.run_shell.specs.Rests.{join, rests_of}
use Rattle.resend_commands.specs.Making.{GaveWords}
use Rattle.resend_commands.specs.Values.{reading_with}
use Rattle.resend_commands.proofs.Makers.{all_done, run_gave}
use Rattle.resend_commands.proofs.Passing.{left_after}
use Rattle.resend_commands.proofs.resend_maker.ResendMakerMaker.step.Goals as goal

-- ---- the end

pub returns-then-self-clause-made : goal.returns-then-self-clause-made
returns-then-self-clause-made c = λ done g.
    let m = c.args.self.now in
    all_done (reading_with m.reading.now m.resend.window m.rows.now) m.resend m.place (join done (rests_of c.args.outputs.now)) g (record { held = false; text = c.in_ok-text.text }) c.if-self.true refl c.in_ok-text.ensures

-- ---- events of a row

pub next-run-requires-clause-among : goal.next-run-requires-clause-among
next-run-requires-clause-among c = let (done, g) = c.requires.stands in g.among

pub carry-requires-clause-few : goal.carry-requires-clause-few
carry-requires-clause-few c =
    let (done, g) = c.requires.stands in
    let m = c.args.self.now in
    let few = g.few in
    let long = left_after m.rows.now m.place c.next-run.new.self c.next-run.result.count c.next-run.result.event c.next-run.ensures.events in
    omega (arith, few, long)

pub returns-clause-less : goal.returns-clause-less
returns-clause-less c =
    let m = c.args.self.now in
    (c.next-run.ensures.less, ap (λ (d : Carried). reading_with m.reading.now d.window m.rows.now) c.in_ok-carry.ensures.done)

pub returns-clause-gave : goal.returns-clause-gave
returns-clause-gave c = λ done g.
    let m = c.args.self.now in
    let e = c.in_ok-carry.ensures {u = tt} in
    let run = c.next-run.result in
    let now = c.carry.new.resend in
    let given = join done (rests_of c.carry.new.outputs) in
    subst (λ (w : ℕ). GaveWords (reading_with m.reading.now w m.rows.now) now c.next-run.new.self given) (sym (ap (λ (d : Carried). d.window) e.done))
    (run_gave (reading_with m.reading.now m.resend.window m.rows.now) m.resend m.place (join done (rests_of c.args.outputs.now)) g now c.next-run.new.self run.count run.event given
    e.done e.sends c.next-run.ensures.events c.next-run.ensures.among (e.given done g.is))
