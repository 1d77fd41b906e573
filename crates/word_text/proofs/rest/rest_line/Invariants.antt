use Rattle.std.proofs.Common.{◌≡◌, ◌++◌, map}
use Rattle.lk_base.specs.Checksum.{bits_of}
use Rattle.word_text.specs.Digits.{bit_glyph}
use Rattle.word_text.specs.CodeLines.{rest_line}
use Rattle.word_text.proofs.rest.rest_line.Given as goal

-- the characters that are still to come are those of the lowest bits
abbrev pub invariant-loop-place : goal.invariant-loop-place
invariant-loop-place l = l.line.items ++ map bit_glyph (bits_of l.place l.rest.bits) ≡ rest_line (bits_of l.rest.count l.rest.bits)
