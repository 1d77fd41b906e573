-- What stands in a list after a call that puts items there and ran out of memory.
use Rattle.std.specs.Prelude.{ℕ, ◌≡◌, ◌≤◌, List, ◌++◌, length}

-- after the old items stands a prefix of these, which may be empty and is not the whole
pub record IsCutShort (old more new : List ℕ) : Type 0 where
  pub first : List ℕ
  pub rest : List ℕ
  pub parts : more ≡ first ++ rest
  pub not_all : 1 ≤ length rest
  pub now : new ≡ old ++ first
