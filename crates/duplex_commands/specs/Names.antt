-- The names of the outputs.
use Rattle.std.specs.Prelude.{ℕ, List, ◌++◌, map}
use lib.Chars.{codes}
use Rattle.pcap_files.specs.Names.{capture_name}

-- what the names of the outputs of an end begin with
abbrev pub prefix_of_a : List ℕ → List ℕ
prefix_of_a out = out ++ codes ".a"

abbrev pub prefix_of_b : List ℕ → List ℕ
prefix_of_b out = out ++ codes ".b"

-- the names of the captures of end a, and then those of end b
abbrev pub names_by : List ℕ → List ℕ → List (List ℕ)
names_by out channels = map (capture_name (prefix_of_a out)) channels ++ map (capture_name (prefix_of_b out)) channels
