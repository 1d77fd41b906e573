-- The words are the stream's.
use Rattle.std.proofs.Common.{ℕ, ◌<◌, All, List, ap, refl, subst}
use Rattle.lk_base.specs.Link.{group_of}
use Rattle.plan_inputs.specs.Values.{packet_values}
use Rattle.tx_end.proofs.Shapes.{whole_groups}
use Rattle.link_commands.proofs.carried.carry_counted.Goals as goal

pub lanes_of-requires : goal.lanes_of-requires
lanes_of-requires c =
    let stream = c.in_ok-stream.ensures in
    whole_groups stream.source c.in_ok-stream.field-0.stream.words (group_of c.args.reading.now.plan.link) stream.is.is.stream stream.is_source.shape.group

pub receive_lanes-requires-clause-sent : goal.receive_lanes-requires-clause-sent
receive_lanes-requires-clause-sent c = (c.in_ok-stream.field-0.stream.words, c.in_ok-made.ensures)

pub returns-clause-carried : goal.returns-clause-carried
returns-clause-carried c =
    let words = c.in_ok-stream.field-0.stream.words in
    let stream = c.in_ok-stream.ensures in
    record {
      source = stream.source;
      is_source = stream.is_source;
      bytes = subst (λ (ps : List (ℕ × List ℕ)). All (λ (p : ℕ × List ℕ). All (λ byte. byte < 256) p.1) ps) (ap packet_values c.deref.ensures.value) c.have_bytes.ensures;
      stream = words;
      is_stream = stream.is.is.stream;
      held = stream.is.is.held;
      free = stream.is.is.free;
      lines = stream.is.is.lines;
      sent = stream.is.sent;
      lanes = c.in_ok-lanes.ensures.are words c.in_ok-made.ensures;
      few = c.in_ok-lanes.ensures.few;
      kept = refl;
    }
