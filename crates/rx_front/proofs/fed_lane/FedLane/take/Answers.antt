-- A byte, or the end.
use Rattle.std.proofs.Common.{ℕ, ◌≡◌, sym, ap, ◌∙◌, subst, ◌+◌, length, drop, true, ◌++◌}
use Rattle.circular_buffer.specs.Buffer.{Buffer}
use Rattle.lane_lock.specs.Lane.{LaneView}
use Rattle.rx_front.specs.States.{Lane}
use Rattle.rx_front.specs.Lanes.{LaneStands, is_ready}
use Rattle.rx_front.proofs.Rounds.{found_at_end, took}
use Rattle.rx_front.proofs.fed_lane.FedLane.take.Goals as goal

pub returns-in-Some : goal.returns-in-Some
returns-in-Some c = record {
  ring = ap (λ (b : Buffer ℕ). b.items) c.pop_front.ensures.items ∙ ap (λ (v : Lane). drop 1 v.ring) c.self.view_is;
  long = c.byte.ensures.count;
  stands = λ s rounds fed column st. took _ c.pop_front.new.self.items c.byte.new.self.lock c.byte.new.self.shown c.in-Some.byte s rounds fed column
      (sym c.in-Some.ensures.value) (ap (λ (b : Buffer ℕ). b.items) c.pop_front.ensures.items) c.byte.ensures.count c.byte.ensures.stands
      (subst (λ (v : Lane). LaneStands v s rounds fed column) (sym c.self.view_is) st);
}

pub returns-in-None : goal.returns-in-None
returns-in-None c = record {
  ring = ap (λ (b : Buffer ℕ). b.items) c.pop_front.ensures.items ∙ ap (λ (v : Lane). drop 1 v.ring) c.self.view_is;
  long = ap length c.end.ensures.shown;
  stands = λ s rounds fed column st.
      let v = c.self.inside in
      let ring = c.pop_front.new.self.items in
      let shown = c.end.new.self.shown in
      subst (λ (l : LaneView). LaneStands (record { ring = ring; finished = v.finished; fed = v.fed; lock = l; steps = shown }) s (rounds + 1) fed (column ++ shown)) (sym c.end.ensures.lock)
      (found_at_end _ ring shown s rounds fed column (sym c.in-None.ensures.value) (ap (λ (b : Buffer ℕ). b.items) c.pop_front.ensures.items) c.end.ensures.shown
      (subst (λ (w : Lane). is_ready w ≡ true) (sym c.self.view_is) c.requires)
      (subst (λ (w : Lane). LaneStands w s rounds fed column) (sym c.self.view_is) st));
}
