-- Words that ask for something have accepted arguments.
use Rattle.std.proofs.Common.{◌≡◌, ℕ, true, List, [], ◌∷◌, Option, Some, None, is_some, refl}
use Rattle.std.specs.Prelude.{option_map, option_and_then}
use Rattle.command_words.specs.Accepted.{given_in}
use Rattle.command_words.specs.Arguments.{arguments_of}
use Rattle.command_words.specs.Table.{Kind, rows, row_in}
use Rattle.interlaken.specs.Request.{request_by, request_of}

some_mapped : {A B : Type 0} (f : A → B) (o : Option A) → is_some (option_map f o) ≡ true → is_some o ≡ true
some_mapped f None e = e
some_mapped f (Some a) e = refl

some_given : (rest : List (List ℕ)) (row : Option Kind) → is_some (option_and_then (λ k. request_by k rest) row) ≡ true → is_some (option_and_then (λ k. arguments_of k.rule rest) row) ≡ true
some_given rest None e = e
some_given rest (Some row) e = some_mapped _ (arguments_of row.rule rest) e

pub accepted : (words : List (List ℕ)) → is_some (request_of words) ≡ true → is_some (given_in words) ≡ true
accepted [] e = e
accepted (first ∷ rest) e = some_given rest (row_in rows first) e
