use Rattle.std.proofs.Common.{◌≡◌, ◌∙◌, ◌++◌, ◌+◌, refl, sym, ap, subst, true, false, List, ℕ, [], ◌∷◌}
use Rattle.stream_model.specs.declared.rows.LocalRow.{LocalRow}
use Rattle.oob_flow.specs.Written.{written_frame, BeginsAfterRows}
use Rattle.oob_flow.specs.WritingFrames.{StandsAt}
use Rattle.run_shell.specs.Rests.{rests_of}
use Rattle.run_shell.specs.Writing.{delivered}
use Rattle.run_shell.proofs.Rests.{join_given}
use Rattle.oob_commands.specs.Making.{GaveFrames}
use Rattle.oob_commands.specs.Values.{local_value}
use Rattle.oob_commands.specs.WriteSamples.{IsOfSamples, samples_name}
use Rattle.oob_commands.proofs.Makers.{frame_gave, frame_less, frames_done}
use Rattle.oob_commands.proofs.sample_maker.SampleMakerMaker.step.Goals as goal

pub returns-then-not-last-clause-less : goal.returns-then-not-last-clause-less
returns-then-not-last-clause-less c =
    let r = c.args.self.now.reading.now in
    let frames = c.args.self.now.frames in
    let entries = r.plan.entries.items in
    let v = c.deref.ensures.value in
    let (first, h) = c.requires.stands in (
      frame_less r frames _ h c.next.new.self (subst (λ (ls : List LocalRow). StandsAt c.next.new.self entries ls (h.k + 1)) v
          ((c.in_ok-last.ensures {u = tt}).stands entries h.k (subst (λ (ls : List LocalRow). StandsAt frames entries ls h.k) (sym v) h.stands))),
      refl,
    )

pub returns-then-not-last-clause-gave : goal.returns-then-not-last-clause-gave
returns-then-not-last-clause-gave c = λ done g.
    let r = c.args.self.now.reading.now in
    let frames = c.args.self.now.frames in
    let entries = r.plan.entries.items in
    let v = c.deref.ensures.value in
    let e = c.in_ok-last.ensures {u = tt} in
    let s = subst (λ (ls : List LocalRow). StandsAt frames entries ls g.k) (sym v) g.stands in
    subst (λ (gs : List (List ℕ)). GaveFrames r c.next.new.self gs) (sym (join_given done (rests_of c.args.outputs.now) _ 0 c.deref-2.result.now (c.in_ok-give.ensures {u = tt}).given))
    (frame_gave r frames _ g c.next.new.self c.deref-2.result.now
    (subst (λ (ls : List LocalRow). StandsAt c.next.new.self entries ls (g.k + 1)) v (e.stands entries g.k s))
    (λ behind. (let t : c.in_ok-last.last ≡ true = (e.last entries g.k s).1 (subst (λ (ls : List LocalRow). BeginsAfterRows entries ls g.k) (sym v) behind) in let f = c.if-not-last.true in absurd (cc)))
    (c.deref-2.ensures.value ∙ e.samples entries g.k s ∙ ap (λ (b : List ℕ). b ++ written_frame entries c.deref.result.now g.k) c.clear.ensures.items ∙ ap (λ (ls : List LocalRow). written_frame entries ls g.k) v))

pub returns-clause-made : goal.returns-clause-made
returns-clause-made c = λ done g.
    let r = c.args.self.now.reading.now in
    let frames = c.args.self.now.frames in
    let entries = r.plan.entries.items in
    let v = c.deref.ensures.value in
    let e = c.in_ok-last.ensures {u = tt} in
    let s = subst (λ (ls : List LocalRow). StandsAt frames entries ls g.k) (sym v) g.stands in
    subst (λ (gs : List (List ℕ)). IsOfSamples (local_value r) (delivered (samples_name (local_value r).plan.out ∷ []) gs (record { held = false; text = c.in_ok-text.text }))) (sym (join_given done (rests_of c.args.outputs.now) _ 0 c.deref-2.result.now (c.in_ok-give.ensures {u = tt}).given))
    (frames_done r frames _ g c.deref-2.result.now c.given.result (record { held = false; text = c.in_ok-text.text })
    (subst (λ (ls : List LocalRow). BeginsAfterRows entries ls g.k) v ((e.last entries g.k s).0 c.if-not-last.false))
    (c.deref-2.ensures.value ∙ e.samples entries g.k s ∙ ap (λ (b : List ℕ). b ++ written_frame entries c.deref.result.now g.k) c.clear.ensures.items ∙ ap (λ (ls : List LocalRow). written_frame entries ls g.k) v)
    (c.given.ensures entries c.deref.result.now (g.k + 1) (e.stands entries g.k s))
    refl (c.in_ok-text.ensures {u = tt}))
