-- How far a lane is.
use Rattle.std.proofs.Common.{ap, ◌∙◌, sym, subst, List}
use Rattle.rx_front.specs.States.{Lane, State}
use Rattle.rx_front.specs.Lanes.{AllStand}
use Rattle.rx_front.proofs.front.Front.lane_state.Goals as goal

pub returns : goal.returns
returns c = λ s fed items t st.
    c.state_at.ensures s t.rounds fed t.columns
    (subst (λ (vs : List Lane). AllStand vs s t.rounds fed t.columns) (ap (λ (v : State). v.lanes) (sym c.self.view_is) ∙ sym c.deref.ensures.value) st.lanes)
