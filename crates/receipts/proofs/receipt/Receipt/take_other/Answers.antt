use Rattle.std.proofs.Common.{◌≡◌, true, false, sym, ap, ◌∙◌, subst, [], ◌∷◌, ◌++◌}
use Rattle.reassembly.specs.States.{event_of, is_packet}
use Rattle.receipts.specs.Receipts.{IsReceipt, MayCome}
use Rattle.receipts.proofs.Following.{on_ok_then}
use Rattle.receipts.proofs.Receiving.{flow_came}
use Rattle.receipts.proofs.receipt.Receipt.take_other.Goals as goal

-- what comes is no packet
pub unreachable-requires : goal.unreachable-requires
unreachable-requires c = let f : true ≡ false = sym (ap is_packet c.in-Packet.is) ∙ c.requires.other in cc

pub returns-in-Dropped : goal.returns-in-Dropped
returns-in-Dropped c = on_ok_then c.add_drop.result c.add_drop.ensures.ok (λ more packet b outputs now is.
    subst (λ o. IsReceipt b (outputs ++ event_of packet o ∷ []) c.add_drop.new.self now) (sym c.in-Dropped.is) (more b outputs now c.in-Dropped.channel is))

pub add_span-requires : goal.add_span-requires
add_span-requires c = subst (λ o. MayCome c.args.self.now.spans (event_of [] o)) c.in-Span.is c.requires.follows

pub returns-in-Span : goal.returns-in-Span
returns-in-Span c = on_ok_then c.add_span.result c.add_span.ensures.ok (λ more packet b outputs now is.
    subst (λ o. IsReceipt b (outputs ++ event_of packet o ∷ []) c.add_span.new.self now) (sym c.in-Span.is) (more b outputs now is))

pub returns-in-Flow : goal.returns-in-Flow
returns-in-Flow c packet b outputs now is =
    subst (λ o. IsReceipt b (outputs ++ event_of packet o ∷ []) c.args.self.now now) (sym c.in-Flow.is) (flow_came b outputs _ _ c.args.self.now now is)
