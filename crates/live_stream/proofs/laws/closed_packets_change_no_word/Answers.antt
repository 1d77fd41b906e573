use Rattle.std.proofs.Common.{◌∙◌, refl, sym}
use Rattle.live_stream.specs.Gives.{packets_closed_in}
use Rattle.live_stream.proofs.More.{live_either, whole_either}
use Rattle.live_stream.proofs.Refusals.{closed_refuses, refused_closed}
use Rattle.live_stream.proofs.laws.closed_packets_change_no_word.Goals as goal

pub returns-clause-live : goal.returns-clause-live
returns-clause-live c = live_either

pub returns-clause-whole : goal.returns-clause-whole
returns-clause-whole c = whole_either

pub returns-clause-refused : goal.returns-clause-refused
returns-clause-refused c g slot channel bytes is = refused_closed (packets_closed_in g) channel bytes refl ∙ sym (refused_closed g channel bytes (closed_refuses g slot is))
