-- The given word is the payload word at its place.
use Rattle.std.proofs.Common.{refl, sym, ap, ◌∙◌}
use Rattle.lk_base.specs.declared.word.Word.TheVariants.{Data, Control}
use Rattle.lane_model.specs.Framing.{role_of}
use Rattle.metaframe.specs.Progress.{passed, with_state}
use Rattle.metaframe.proofs.Writers.{after_payload, payload_number}
use Rattle.metaframe.proofs.writer.under_key.Goals as goal

pub returns-in-Data-clause-writes : goal.returns-in-Data-clause-writes
returns-in-Data-clause-writes c w s lane given made state wants k =
    let p = payload_number (role_of w.settings w.position) wants in
    rw c.in-Data.is (after_payload w (passed (with_state w c.apply.new.self) c.in-Data.x) s lane given made k p.0 c.apply.result Data c.in-Data.x p.1 refl (λ key. refl)
    (λ start j long e. let q = c.apply.ensures.key start j long (sym state ∙ e) in (q.0, ap (λ n. passed (with_state w n) c.in-Data.x) q.1)))

pub returns-in-Control-clause-writes : goal.returns-in-Control-clause-writes
returns-in-Control-clause-writes c w s lane given made state wants k =
    let p = payload_number (role_of w.settings w.position) wants in
    rw c.in-Control.is (after_payload w (passed (with_state w c.apply-in-Control.new.self) c.in-Control.x) s lane given made k p.0 c.apply-in-Control.result Control c.in-Control.x p.1 refl (λ key. refl)
    (λ start j long e. let q = c.apply-in-Control.ensures.key start j long (sym state ∙ e) in (q.0, ap (λ n. passed (with_state w n) c.in-Control.x) q.1)))
