use Rattle.std.proofs.Common.{◌≡◌, ◌<◌, ◌^◌, ◌==◌, map, take}
use Rattle.lk_base.specs.Checksum.{bits_of}
use Rattle.word_text.proofs.rest.bits_told.Given as goal

-- the bits of the characters before
abbrev pub invariant-loop-byte : goal.invariant-loop-byte
invariant-loop-byte l = record {
  below : l.bits < 2 ^ l.byte-index;
  told : bits_of l.byte-index l.bits ≡ map (λ b. b == 49) (take l.byte-index l.text);
}
