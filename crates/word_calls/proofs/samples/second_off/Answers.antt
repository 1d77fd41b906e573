-- The channels are 1 and 2, and a state was set.
use Rattle.std.proofs.Common.{[], ◌∷◌, true}
use Rattle.word_calls.proofs.samples.second_off.Goals as goal

pub append_samples-requires : goal.append_samples-requires
append_samples-requires c = (1 ∷ 2 ∷ [], _, [], 0, c.set.ensures (1 ∷ 2 ∷ []) (λ channel. true) [] 0 c.in_ok-out.ensures)
