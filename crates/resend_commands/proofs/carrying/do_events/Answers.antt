use Rattle.std.proofs.Common.{◌∙◌, ◌≡◌, ap, arith, replicate, List, ℕ, [], ◌∷◌}
use Rattle.resend_events.specs.declared.event.Event.{Event}
use Rattle.retransmit.proofs.Runs.{event_sends, list_more, replicate_more}
use Rattle.resend_commands.specs.Carried.{events_done}
use Rattle.resend_commands.proofs.Accepting.{event_done}
use Rattle.resend_commands.proofs.carrying.do_events.Goals as goal

pub event-requires : goal.event-requires
event-requires c =
    let few = c.requires in
    let sends = c.loop-turn.invariant.sends in
    let turn = c.loop-turn-test.true in
    omega (arith, few, sends, turn)

pub loop-turn-preserved : goal.loop-turn-preserved
loop-turn-preserved c =
    let i = c.loop-turn.invariant in
    let event = c.args.run.event in
    let was = c.loop-turn.resend in
    let now = c.event.new.self in
    let before = i.sends in
    let here = event_sends was now event c.event.result c.event.ensures in
    record {
      done = list_more c.args.resend.now was now (replicate c.loop-turn._turn event) i.done (event ∷ []) (event_done was now event c.event.result c.event.ensures)
          ∙ ap (λ (es : List Event). events_done c.args.resend.now es) (replicate_more c.loop-turn._turn event);
      sends = omega (arith, before, here);
    }

pub returns-clause-done : goal.returns-clause-done
returns-clause-done c =
    let stop = c.loop-turn-test.false in
    let end = c.loop-turn.auto._turn-end in
    let all : c.loop-turn._turn ≡ c.args.run.count = omega (arith, stop, end) in
    c.loop-turn.invariant.done ∙ ap (λ (n : ℕ). events_done c.args.resend.now (replicate n c.args.run.event)) all
