-- The text of a refusal.
use Rattle.std.specs.Prelude.{ℕ, ◌/◌, ◌%◌, ◌^◌, List, [], ◌∷◌, ◌++◌, true}
use Rattle.std.specs.Fmt.{decimal, digit_glyph}
use lib.Chars.{codes}
use Rattle.pcap_files.specs.declared.error.PcapError.{PcapError}
use Rattle.pcap_files.specs.declared.error.PcapError.TheVariants.{Magic, NgFile, Version, Short, Empty, Long}

-- the hexadecimal digit of n for 16 ^ place, in upper case
abbrev pub hex_digit : ℕ → ℕ → ℕ
hex_digit place n = digit_glyph true (n / 16 ^ place % 16)

-- n in eight hexadecimal digits
abbrev pub eight_hex_digits : ℕ → List ℕ
eight_hex_digits n = hex_digit 7 n ∷ hex_digit 6 n ∷ hex_digit 5 n ∷ hex_digit 4 n ∷ hex_digit 3 n ∷ hex_digit 2 n ∷ hex_digit 1 n ∷ hex_digit 0 n ∷ []

-- the bytes of the text
abbrev pub refusal_text : PcapError → List ℕ
refusal_text (Magic m) = codes "magic " ++ eight_hex_digits m
refusal_text NgFile = codes "pcapng"
refusal_text (Version major minor) = codes "version " ++ (decimal major ++ (codes "." ++ decimal minor))
refusal_text (Short offset) = codes "short at " ++ decimal offset
refusal_text (Empty n) = codes "empty record " ++ decimal n
refusal_text (Long n size) = codes "long record " ++ (decimal n ++ (codes " length " ++ decimal size))
