-- The register of CRC32 from zeros, which adds up.
use Rattle.std.specs.Prelude.{ℕ, ◌*◌, List}
use Rattle.lk_base.specs.Checksum.{bits_of, bits_of_words, register_after}

-- after these words
abbrev pub register_of : List ℕ → ℕ
register_of words = register_after 32 0x1EDC6F41 0 (bits_of_words words)

-- a register after this many words of zeros
abbrev pub later : ℕ → ℕ → ℕ
later count register = register_after 32 0x1EDC6F41 register (bits_of (64 * count) 0)

-- after one word
abbrev pub taken : ℕ → ℕ
taken word = register_after 32 0x1EDC6F41 0 (bits_of 64 word)
