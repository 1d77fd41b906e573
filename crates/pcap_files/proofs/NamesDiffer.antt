-- Captures of two channels have two names.
use Rattle.std.proofs.Common.{◌≡◌, ◌≢◌, ℕ, ◌<◌, ◌^◌, List, ◌++◌, arith}
use Rattle.std.specs.Fmt.{decimal}
use Rattle.std.proofs.lemmas.Fmt.{decimal_injective}
use Rattle.std.proofs.lemmas.List.{append_cancel_left, append_cancel_right}
use lib.Chars.{codes}
use Rattle.pcap_files.specs.Names.{capture_name}

pub two_captures : (prefix : List ℕ) (i j : ℕ) → i < j → j < 2 ^ 64 → capture_name prefix i ≢ capture_name prefix j
two_captures prefix i j lt small e =
    let tail : codes "." ++ (decimal i ++ codes ".pcap") ≡ codes "." ++ (decimal j ++ codes ".pcap") = append_cancel_left prefix _ _ e in
    let digits : decimal i ++ codes ".pcap" ≡ decimal j ++ codes ".pcap" = append_cancel_left (codes ".") _ _ tail in
    let low : i < 2 ^ 64 = omega arith in
    let same : i ≡ j = decimal_injective i j low small (append_cancel_right (decimal i) (decimal j) (codes ".pcap") digits) in
    omega arith
