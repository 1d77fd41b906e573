-- The kind at the place is due, and then those after it.
use Rattle.std.proofs.Common.{◌<◌, ◌+◌, ◌∙◌, sym, ap, ◌∷◌, List, length, get_or, arith}
use Rattle.lane_events.specs.declared.types.EventKind.{EventKind}
use Rattle.lane_events.specs.declared.types.EventKind.TheVariants as kinds
use Rattle.lane_events.specs.Inspection.{due_from}
use Rattle.lane_events.specs.Steps.{event_of}
use Rattle.lane_events.proofs.Dues.{due_here}
use Rattle.lane_events.proofs.due_events.DueEvents.next.Goals as goal

pub returns-clause-given : goal.returns-clause-given
returns-clause-given c =
    let most = c.self.invariant in
    let some = c.if-self-len.false in
    let len = c.len.ensures.value in
    let word = c.self.inside.word in
    let at = c.self.inside.given in
    let below : at < length word.kinds.items = omega (arith, most, some, len) in
    sym c.self.view_is ∙ due_here word at kinds.Bad below
    ∙ ap (λ (ks : List EventKind). event_of word.bit (get_or ks at kinds.Bad) ∷ due_from word (at + 1)) (sym c.as_slice.ensures.value)
