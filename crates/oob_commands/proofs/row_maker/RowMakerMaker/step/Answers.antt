use Rattle.std.proofs.Common.{◌≡◌, ◌∙◌, ◌++◌, ◌+◌, ◌<◌, refl, sym, ap, subst, arith, List, ℕ, [], ◌∷◌, length, take}
use Rattle.std.proofs.lemmas.Bool.Decides.{nat_tests}
use Rattle.std.proofs.lemmas.List.{take_more}
use Rattle.oob_flow.specs.Reading.{rows_at}
use Rattle.run_shell.specs.Rests.{rests_of}
use Rattle.run_shell.proofs.Rests.{join_given}
use Rattle.oob_commands.specs.FlowFile.{flow_file}
use Rattle.oob_commands.specs.Making.{GaveRows}
use Rattle.oob_commands.proofs.Makers.{row_gave}
use Rattle.oob_commands.proofs.row_maker.RowMakerMaker.step.Goals as goal

pub returns-clause-less : goal.returns-clause-less
returns-clause-less c =
    let m = c.args.self.now in
    let (first, h) = c.requires.stands in
    let within = h.within in
    let other = c.if-self-len.false in
    let long = c.len.ensures in
    let lt : m.slot < length m.reading.now.samples.items = grind (arith, nat_tests) in
    (omega (arith, lt), refl)

pub returns-clause-gave : goal.returns-clause-gave
returns-clause-gave c = λ done g.
    let m = c.args.self.now in
    let r = m.reading.now in
    let samples = r.samples.items in
    let x = c.index-sample.result.now in
    let within = g.within in
    let other = c.if-self-len.false in
    let long = c.len.ensures in
    let lt : m.slot < length samples = grind (arith, nat_tests) in
    let further : take (m.slot + 1) samples ≡ take m.slot samples ++ x ∷ [] = take_more samples m.slot x lt ∙ ap (λ (y : ℕ). take m.slot samples ++ y ∷ []) (sym c.index-sample.ensures) in
    subst (λ (gs : List (List ℕ)). GaveRows r c.sample.new.self (m.slot + 1) (m.count + c.len-2.result) gs) (sym (join_given done (rests_of c.args.outputs.now) _ 0 c.deref.result.now (c.in_ok-give.ensures {u = tt}).given))
    (row_gave r m.taker m.slot m.count _ g c.sample.new.self x c.sample.new.words.items c.deref.result.now c.len-2.result lt further
    (c.sample.ensures.stands _ _ g.stands) (c.sample.ensures.rows _ _ g.stands) c.len-2.ensures.value c.len-2.ensures.fits
    (c.deref.ensures.value ∙ c.in_ok-text-2.ensures {u = tt} ∙ ap (λ (ws : List ℕ). flow_file (rows_at m.slot ws)) c.as_slice.ensures.value))
