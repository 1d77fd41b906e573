-- How far the lane of the front is.
use Rattle.std.proofs.Common.{sym, ap, subst}
use Rattle.rx_front.specs.States as front
use Rattle.rx_front.specs.Standing as fronts
use Rattle.rx_end.specs.States.{State}
use Rattle.rx_end.proofs.receiver.Receiver.lane_state.Goals as goal

pub returns : goal.returns
returns c = λ s setting fed given st.
    c.lane_state.ensures s fed st.items st.progress (subst (λ (f : front.State). fronts.Stands f s fed st.items st.progress) (sym (ap (λ (v : State). v.front) c.self.view_is)) st.front)
