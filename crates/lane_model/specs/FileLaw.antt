-- The law on the bytes of a lane file.
use Rattle.std.specs.Prelude.{ℕ, ◌≡◌, Bool, List}
use Rattle.lane_model.specs.LaneBits.{IsFileOf}

-- any bits are those of a file, and of one alone
pub record FilesAreDetermined : Type 0 where
  pub has : (bits : List Bool) → (bytes : List ℕ) × IsFileOf bytes bits
  pub only : (bits : List Bool) (one other : List ℕ) → IsFileOf one bits → IsFileOf other bits → one ≡ other
