-- The captures of the worked examples.
use Rattle.std.specs.Prelude.{ℕ, List, [], ◌∷◌}

-- the 24 bytes of an output capture with link type 1
abbrev pub little_header : List ℕ
little_header = 0xD4 ∷ 0xC3 ∷ 0xB2 ∷ 0xA1 ∷ 2 ∷ 0 ∷ 4 ∷ 0 ∷ 0 ∷ 0 ∷ 0 ∷ 0 ∷ 0 ∷ 0 ∷ 0 ∷ 0 ∷ 0 ∷ 0 ∷ 4 ∷ 0 ∷ 1 ∷ 0 ∷ 0 ∷ 0 ∷ []

-- a big-endian header with stamps in nanoseconds
abbrev pub big_header : List ℕ
big_header = 0xA1 ∷ 0xB2 ∷ 0x3C ∷ 0x4D ∷ 0 ∷ 2 ∷ 0 ∷ 4 ∷ 0 ∷ 0 ∷ 0 ∷ 0 ∷ 0 ∷ 0 ∷ 0 ∷ 0 ∷ 0 ∷ 4 ∷ 0 ∷ 0 ∷ 0 ∷ 0 ∷ 0 ∷ 1 ∷ []

-- the head of a record with this captured length below 256, and the original length 9
abbrev pub little_head : ℕ → List ℕ
little_head size = 1 ∷ 2 ∷ 3 ∷ 4 ∷ 5 ∷ 6 ∷ 7 ∷ 8 ∷ size ∷ 0 ∷ 0 ∷ 0 ∷ 9 ∷ 0 ∷ 0 ∷ 0 ∷ []

abbrev pub big_head : ℕ → List ℕ
big_head size = 1 ∷ 2 ∷ 3 ∷ 4 ∷ 5 ∷ 6 ∷ 7 ∷ 8 ∷ 0 ∷ 0 ∷ 0 ∷ size ∷ 0 ∷ 0 ∷ 0 ∷ 9 ∷ []

-- the first bytes of a file in the newer format
abbrev pub newer_format : List ℕ
newer_format = 0x0A ∷ 0x0D ∷ 0x0D ∷ 0x0A ∷ 0x1C ∷ []
