-- What the tables of a checksum are.
use Rattle.std.specs.Prelude.{ℕ, ◌≡◌, ◌+◌, ◌*◌, ◌<◌, List, [], ◌++◌, get_or}
use Rattle.lk_base.specs.Checksum.{bits_of, register_after}

-- the register, from zeros, after a byte, then k bytes of zeros and `tail` zeros more
abbrev pub slice : ℕ → ℕ → ℕ → ℕ → ℕ → ℕ
slice w p tail k byte = register_after w p 0 (bits_of 8 byte ++ bits_of (8 * k + tail) 0)

-- row k of eight has these registers
abbrev pub AreSlices : ℕ → ℕ → ℕ → List (List ℕ) → Type 0
AreSlices w p tail rows = (k byte : ℕ) → k < 8 → byte < 256 → get_or (get_or rows k []) byte 0 ≡ slice w p tail k byte
