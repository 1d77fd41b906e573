-- The idle words that carry the states of a block.
use Rattle.std.specs.Prelude.{ℕ, zero, suc, ◌+◌, ◌*◌, ◌/◌, ◌^◌, Bool, true, false, List, [], ◌∷◌, ◌++◌, length, take, drop, replicate}
use Rattle.lk_base.specs.Checksum.{control_crc, digit}

-- the number that bits spell after n, the highest first
abbrev pub spelled_from : ℕ → List Bool → ℕ
spelled_from n [] = n
spelled_from n (b ∷ bits) = spelled_from (2 * n + digit b) bits

unfoldable pub spelled : List Bool → ℕ
spelled bits = spelled_from 0 bits

-- the first 16 of these states, the first of them highest; bits past the last state are 1
unfoldable pub flow_bits : List Bool → ℕ
flow_bits states = spelled (take 16 (states ++ replicate 16 true))

-- the idle word with these flow bits, before it has its checksum: no start, no end, channel 0, multiple use 0
abbrev pub bare_idle : Bool → ℕ → ℕ
bare_idle reset flow = 2 ^ 63 + digit reset * 2 ^ 56 + flow * 2 ^ 40

-- the idle word with these flow bits and its checksum, that of the word alone
unfoldable pub idle_word : Bool → ℕ → ℕ
idle_word reset flow = bare_idle reset flow + control_crc [] (bare_idle reset flow)

-- n words, of 16 states each; the first may have the reset bit
abbrev pub words_from : ℕ → Bool → List Bool → List ℕ
words_from zero reset states = []
words_from (suc n) reset states = idle_word reset (flow_bits states) ∷ words_from n false (drop 16 states)

-- the words of a block; of those of a frame the first alone has the reset bit
unfoldable pub block_words : Bool → List Bool → List ℕ
block_words is_first states = words_from ((length states + 15) / 16) is_first states
