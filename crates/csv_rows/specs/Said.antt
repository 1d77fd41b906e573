-- What a row says.
use Rattle.std.specs.Prelude.{ℕ}

-- the place of its key in the table, and its number, 0 if the key has only a text
pub record Item : Type 0 where
  pub key : ℕ
  pub number : ℕ
