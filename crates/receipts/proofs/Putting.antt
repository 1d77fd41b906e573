-- A record that is put, or finds no memory.
use Rattle.std.proofs.Common.{ℕ, zero, suc, List, [], ◌∷◌, refl, sym, append-nil, Option}
use Rattle.lk_outside.specs.Files.{Files, Told}
use Rattle.run_shell.specs.Outcome.{HoldsPart}
use Rattle.run_shell.specs.Open.{Open}
use Rattle.run_shell.specs.Outputs.{IsOpen, Prefixes, more, open_names, outs}
use Rattle.run_shell.proofs.Fills.{given_prefixes, part_more, prefix_part, same_prefixes}
use Rattle.run_stops.proofs.Moves.{told_by}

more_begins : (gs : List (List ℕ)) (i : ℕ) (bytes : List ℕ) → Prefixes gs (more gs i bytes)
more_begins [] i bytes = tt
more_begins (g ∷ gs) zero bytes = ((bytes, refl), same_prefixes gs)
more_begins (g ∷ gs) (suc i) bytes = (([], sym (append-nil g)), more_begins gs i bytes)

-- a part of what was given is there
pub open_part : (opens : List Open) (given : List (List ℕ)) (was now : Option Files) → IsOpen opens given was now → Told was now (HoldsPart (outs (open_names opens) given))
open_part opens given was now o = told_by was now (λ u v k. prefix_part (open_names opens) o.done given u v (given_prefixes opens o.done given o.are) k) o.stand

-- more was to be given, and no memory was found
pub not_put : (opens : List Open) (given : List (List ℕ)) (i : ℕ) (bytes : List ℕ) (was now : Option Files) → IsOpen opens given was now → Told was now (HoldsPart (outs (open_names opens) (more given i bytes)))
not_put opens given i bytes was now o = told_by was now (λ u v k. part_more (open_names opens) given (more given i bytes) u v (more_begins given i bytes) k) (open_part opens given was now o)
