-- More than eight words are left, and the next is a payload word.
use Rattle.std.proofs.Common.{◌≡◌, ◌-◌, sym, ap, ◌∙◌, lt-ltb}
use Rattle.std.proofs.lemmas.Bool.{ltb-true}
use Rattle.metaframe.specs.Progress.{Progress}
use Rattle.metaframe.proofs.Places.{eight_next}
use Rattle.metaframe.proofs.writer.MetaframeWriter.wants_eight.Goals as goal

pub returns-then-wants : goal.returns-then-wants
returns-then-wants c =
    let now = c.args.self.now in
    let left : c.metaframe.result - c.self.inside.position ≡ now.settings.metaframe - now.position =
    ap (λ m. m - c.self.inside.position) (c.metaframe.ensures ∙ ap (λ (w : Progress). w.settings.metaframe) c.self.view_is)
    ∙ ap (λ p. now.settings.metaframe - p) (ap (λ (w : Progress). w.position) c.self.view_is) in
    let both = eight_next now.settings now.position (c.metaframe.result - c.self.inside.position) left (sym c.wants_payload-wants.ensures ∙ c.if-wants.true) in
    (λ t. both.0 (ltb-true 8 (c.metaframe.result - c.self.inside.position) t), λ all. lt-ltb 8 (c.metaframe.result - c.self.inside.position) (both.1 all))
