-- The lock takes the bits.
use Rattle.std.proofs.Common.{◌*◌, subst}
use Rattle.lk_base.specs.Checksum.{bits_of}
use Rattle.lane_lock.specs.Bytes.{Brings, steps_of_bits}
use Rattle.lane_events.specs.Inspection.{InspectorView}
use Rattle.lane_events.proofs.inspector.LaneInspector.push.Goals as goal

pub returns-clause-stands : goal.returns-clause-stands
returns-clause-stands c =
    subst (λ (v : InspectorView). Brings v.lock c.take_bytes.new.self (bits_of (8 * c.args.count) c.args.bits) (steps_of_bits (8 * c.args.count) c.take_bytes.result)) c.self.view_is
    c.take_bytes.ensures.stands
