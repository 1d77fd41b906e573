-- The names of captures.
use Rattle.std.specs.Prelude.{ℕ, List, ◌++◌, codes}
use Rattle.std.specs.Fmt.{decimal}

-- the name of a channel's capture, as OUT.7.pcap
abbrev pub capture_name : List ℕ → ℕ → List ℕ
capture_name prefix channel = prefix ++ (codes "." ++ (decimal channel ++ codes ".pcap"))
