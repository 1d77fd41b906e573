-- The names of a stream's files.
use Rattle.std.specs.Prelude.{ℕ, List, ◌++◌, map}
use Rattle.std.specs.List.{range_with_len}
use Rattle.std.specs.Fmt.{decimal}
use lib.Chars.{codes}

-- the name of the words file of a capture, or of a plan's prefix
abbrev pub words_name : List ℕ → List ℕ
words_name name = name ++ codes ".words"

-- the name of a lane's file
abbrev pub lane_name : List ℕ → ℕ → List ℕ
lane_name prefix lane = prefix ++ (codes ".lane." ++ decimal lane)

-- the names of the lanes' files, by number
abbrev pub lane_names : List ℕ → ℕ → List (List ℕ)
lane_names prefix lanes = map (lane_name prefix) (range_with_len 0 lanes)
