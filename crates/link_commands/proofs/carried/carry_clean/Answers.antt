-- The lanes are those of the stream, and have no accidents.
use Rattle.std.proofs.Common.{ℕ, ◌<◌, All, List, map, ap, subst}
use Rattle.plan_inputs.specs.Values.{inputs_value, packet_values}
use Rattle.lane_receipts.specs.Held.{vec_bytes}
use Rattle.link_commands.specs.Values.{planned_value}
use Rattle.link_commands.proofs.NoneCounted.{none_counted}
use Rattle.link_commands.proofs.carried.carry_clean.Goals as goal

pub receive_lanes-requires-clause-sent : goal.receive_lanes-requires-clause-sent
receive_lanes-requires-clause-sent c = let made = c.in_ok-lanes.ensures in (made.is.is.words, made.is.is.files)

pub returns : goal.returns
returns c =
    let made = c.in_ok-lanes.ensures in
    let i = planned_value c.args.reading.now.plan (inputs_value c.args.reading.now.inputs) c.args.schedule.now in
    let words = made.is.is.words in
    let lanes = map vec_bytes c.in_ok-received.received.items in
    let are = c.in_ok-received.ensures.are words made.is.is.files in
    record {
      source = made.source;
      is_source = made.is_source;
      bytes = subst (λ (ps : List (ℕ × List ℕ)). All (λ (p : ℕ × List ℕ). All (λ byte. byte < 256) p.1) ps) (ap packet_values c.deref.ensures.value) c.have_bytes.ensures;
      stream = words;
      is_stream = made.is.is.stream;
      held = made.is.is.held;
      free = made.is.is.free;
      lines = made.is.lines;
      sent = made.is.is.sent;
      lanes = are;
      few = c.in_ok-received.ensures.few;
      kept = none_counted i words (record { source = made.source; is_source = made.is_source; is_stream = made.is.is.stream }) c.keeps_limits.ensures lanes are c.requires.skews c.requires.clean;
    }
