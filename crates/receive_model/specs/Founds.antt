-- The packets that came, as their channels and places.
use Rattle.std.specs.Prelude.{List, filter_map, Option, Some, None}
use Rattle.receive_model.specs.declared.found.Found.{Found}
use Rattle.receive_model.specs.Events.{Event, Delivered, Dropped, FaultSpan, Flow}

-- the packet that is reported at an output
abbrev pub found_packet : Event → Option Found
found_packet (Delivered channel packet) = Some (record { channel = channel; first = packet.first; last = packet.last })
found_packet (Dropped channel why) = None
found_packet (FaultSpan span) = None
found_packet (Flow at word) = None

-- the delivered packets among outputs, in order
abbrev pub found_in : List Event → List Found
found_in outputs = filter_map found_packet outputs
