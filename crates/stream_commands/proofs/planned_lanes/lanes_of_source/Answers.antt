use Rattle.std.proofs.Common.{subst, List}
use Rattle.tx_words.specs.Sent.{AreSent}
use Rattle.tx_words.specs.declared.sent.Sent.{Sent}
use Rattle.std.proofs.Common.{sym}
use Rattle.stream_commands.proofs.planned_lanes.lanes_of_source.Goals as goal

pub listed_lines-requires : goal.listed_lines-requires
listed_lines-requires c =
    let lanes = c.in_ok-lanes.ensures in
    (lanes.words, subst (λ (ss : List Sent). AreSent lanes.words ss) (sym c.deref.ensures.value) lanes.sent)

pub returns : goal.returns
returns c =
    let lanes = c.in_ok-lanes.ensures in
    record {
      is = lanes;
      lines = c.in_ok-lines.ensures lanes.words lanes.stream (subst (λ (ss : List Sent). AreSent lanes.words ss) (sym c.deref.ensures.value) lanes.sent) lanes.slots;
    }
