-- The arguments of a command.
use Rattle.std.specs.Prelude.{ℕ, List}

-- a number, 0 where none is asked for, and a file or a prefix of files
pub record Given : Type 0 where
  pub number : ℕ
  pub file : List ℕ
