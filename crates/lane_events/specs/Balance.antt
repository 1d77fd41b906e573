-- The balance of the codes of a lock.
use Rattle.std.specs.Prelude.{ℕ, ℤ, pos, negsuc, int_lt, ◌+ℤ◌, Bool, ◌||◌, if◌then◌else◌, List, [], ◌∷◌, Option, Some, None}
use Rattle.std.specs.Int.Count.{ones_in}
use Rattle.lane_model.specs.Coding.{excess}

-- over 129 above or below 0
abbrev pub is_far_off : ℤ → Bool
is_far_off n = int_lt (pos 129) n || int_lt n (negsuc 128)

-- after a code more, of which this is the ones less the zeros
abbrev pub balance_after : Option ℤ → ℤ → Option ℤ
balance_after None excess = None
balance_after (Some n) excess = if is_far_off (n +ℤ excess) then None else Some (n +ℤ excess)

-- after these codes more
abbrev pub balance_over : Option ℤ → List ℕ → Option ℤ
balance_over before [] = before
balance_over before (code ∷ codes) = balance_over (balance_after before (excess 67 (ones_in 67 code))) codes
