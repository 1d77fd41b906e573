use Rattle.std.proofs.Common.{◌≡◌, ◌↔◌, Some, None, sym, subst}
use Rattle.stream_model.specs.BurstStream.{Source, IsBurstStream, IsHeld}
use Rattle.tx_words.specs.Driving.{having_rows}
use Rattle.tx_words.specs.Sources.{IsHeldOn}
use Rattle.tx_words.proofs.HeldOn.{says, held_on, held_free, held_only}
use Rattle.tx_words.proofs.word_maker.WordMaker.held.Goals as goal

pub held-requires : goal.held-requires
held-requires c = let (source, words, k) = c.requires in record { gives = (_, k.drives.gives) }

pub returns-clause-held : goal.returns-clause-held
returns-clause-held c source words channel k stream =
    let m = c.args.self.now in
    let src = having_rows source m.flow.now m.local.now in
    let here = subst (λ (q : Source). IsBurstStream q words) (sym k.rows) stream in
    subst (λ (q : Source). (c.held.result ≡ Some channel) ↔ IsHeldOn q words channel) k.rows
    (held_on src words c.held.result (says m.scheduler src words m.flow_passed m.local_passed k.drives c.held.result c.held.ensures.held here c.held.ensures.stream) channel)

pub returns-clause-free : goal.returns-clause-free
returns-clause-free c source words k stream =
    let m = c.args.self.now in
    let src = having_rows source m.flow.now m.local.now in
    let here = subst (λ (q : Source). IsBurstStream q words) (sym k.rows) stream in
    subst (λ (q : Source). (c.held.result ≡ None) ↔ (IsHeld q words → ⊥)) k.rows
    (held_free src words c.held.result (says m.scheduler src words m.flow_passed m.local_passed k.drives c.held.result c.held.ensures.held here c.held.ensures.stream))

pub returns-clause-only : goal.returns-clause-only
returns-clause-only c source words channel k is =
    let m = c.args.self.now in
    subst (λ (q : Source). IsHeldOn q words channel) k.rows
    (held_only m.scheduler (having_rows source m.flow.now m.local.now) words m.flow_passed m.local_passed k.drives c.held.result c.held.ensures.held channel is)
