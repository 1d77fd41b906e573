use Rattle.std.proofs.Common.{◌==◌, length, map, if◌then◌else◌, arith}
use Rattle.oob_flow.specs.Frames.{frame_length}
use Rattle.oob_flow.proofs.Framing.{none_yet, one_more, whole_stands, whole_samples}
use Rattle.oob_flow.proofs.frame_writer.append_frame.Goals as goal

pub loop-place-init : goal.loop-place-init
loop-place-init c = record { room = omega (arith, c.requires.room); frame = λ entries states shown s e. none_yet c.args.out.now entries states shown c.args.samples.now.items s }

pub sample-requires : goal.sample-requires
sample-requires c =
    let r = c.requires.stands in
    let w = c.loop-place.invariant.frame r.0 r.1 r.2 r.3 r.4 in
    record { stands = (r.0, r.1, (if c.loop-place._place == 0 then r.2 else map r.1 r.0), (if c.loop-place._place == frame_length (length r.0) then 0 else c.loop-place._place), w.stands) }

pub loop-place-preserved : goal.loop-place-preserved
loop-place-preserved c = record {
  room = omega (arith, c.loop-place.invariant.room, c.push_reserved.ensures.len, c.push_reserved.ensures.capacity);
  frame = λ entries states shown s e.
      one_more c.loop-place.out c.sample.new.self entries states shown c.loop-place._place c.sample.result c.args.samples.now.items c.loop-place.samples.items c.push_reserved.new.self.items
      (omega (arith, e)) (c.loop-place.invariant.frame entries states shown s e) c.sample.ensures.value c.sample.ensures.stands c.push_reserved.ensures.items;
}

pub returns-clause-samples : goal.returns-clause-samples
returns-clause-samples c = λ entries states shown s e.
    whole_samples c.loop-place.out entries states shown c.loop-place._place c.args.samples.now.items c.loop-place.samples.items s.low (omega (arith, e)) (c.loop-place.invariant.frame entries states shown s e)

pub returns-clause-stands : goal.returns-clause-stands
returns-clause-stands c = λ entries states shown s e.
    whole_stands c.loop-place.out entries states shown c.loop-place._place c.args.samples.now.items c.loop-place.samples.items s.low (omega (arith, e)) (c.loop-place.invariant.frame entries states shown s e)
