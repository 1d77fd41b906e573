use Rattle.std.proofs.Common.{◌<◌, ◌≤◌, ◌+◌, length, drop, get_or, false, sym, ap, subst, arith}
use Rattle.std.proofs.lemmas.List.{drop_all}
use Rattle.calendar.specs.Changes.{change}
use Rattle.burst_scheduler.proofs.Telling.{drop_change}
use Rattle.live_stream.specs.Waiting.{channels_of}
use Rattle.live_stream.proofs.Telling.{HasTold, told_begun, told_next, told_end}
use Rattle.live_stream.proofs.turns.turn_all.Goals as goal

pub loop-i-init : goal.loop-i-init
loop-i-init c = record {
  told = λ channels told w es h is later. told_begun channels (channels_of c.args.turns.now.items) told w es c.args.changed.now.items h is later;
  left = λ sizes source w h. h;
}

pub loop-i-preserved : goal.loop-i-preserved
loop-i-preserved c = record {
  told = λ channels told w es h is later.
      let t = c.loop-i.invariant.told channels told w es h is later in
      let below : c.loop-i.i < length c.args.changed.now.items = omega arith in
      let none = change 0 false in
      let here = get_or c.deref.result.now c.loop-i.i none in
      let next = drop_change c.args.changed.now.items c.loop-i.i none here.channel here.on below (sym (ap (λ xs. get_or xs c.loop-i.i none) c.deref.ensures.0)) in
      told_next channels (channels_of c.loop-i.turns.items) (channels_of c.turn.new.turns.items) told w es _ _ (drop (c.loop-i.i + 1) c.args.changed.now.items) (subst (HasTold channels (channels_of c.loop-i.turns.items) told w es) next t)
      (λ before e l at on come. c.turn.ensures.turns channels before w e l at on come);
  left = λ sizes source w h. c.turn.ensures.left sizes source w (c.loop-i.invariant.left sizes source w h);
}

pub returns-clause-turns : goal.returns-clause-turns
returns-clause-turns c channels told w es h is later =
    let t = c.loop-i.invariant.told channels told w es h is later in
    let over : length c.args.changed.now.items ≤ c.loop-i.i = omega arith in
    told_end channels (channels_of c.loop-i.turns.items) told w es (subst (HasTold channels (channels_of c.loop-i.turns.items) told w es) (drop_all c.loop-i.i c.args.changed.now.items over) t)
