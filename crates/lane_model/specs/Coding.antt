-- Codes of 67 bits: bit 66 says that the payload is inverted, bits 65:64 are the header, and bits 63:0 the payload.
use Rattle.std.specs.Prelude.{ℕ, ◌+◌, ◌-◌, ◌*◌, ◌/◌, ◌%◌, ◌^◌, ◌==◌, Bool, ◌&&◌, ◌||◌, if◌then◌else◌, List, [], ◌∷◌, ◌++◌, length, sum_by, ℤ, pos, ◌-ℤ◌, ◌+ℤ◌, int_lt, int_le}
use Rattle.std.specs.Int.Count.{ones_in}
use Rattle.lk_base.specs.declared.word.Word.{Word}
use Rattle.lk_base.specs.declared.word.Word.TheVariants.{Data, Control}
use Rattle.lk_base.specs.declared.word.RxWord.{RxWord}
use Rattle.lk_base.specs.declared.word.RxWord.TheVariants as received
use Rattle.lk_base.specs.Words.{payload}
use Rattle.lk_base.specs.Checksum.{digit}

-- bits 65:64 of a word's code
abbrev pub header_for : Word → ℕ
header_for (Data x) = 1
header_for (Control x) = 2

-- each of the 64 bits of a payload inverted
abbrev pub inverse_of : ℕ → ℕ
inverse_of x = 2 ^ 64 - 1 - x

-- the code of a word, inverted or plain
unfoldable pub code_of : Bool → Word → ℕ
code_of inverted word =
    digit inverted * 2 ^ 66 + header_for word * 2 ^ 64 + (if inverted then inverse_of (payload word) else payload word)

-- the ones less the zeros of `count` bits of which this many are ones
abbrev pub excess : ℕ → ℕ → ℤ
excess count one = pos one -ℤ pos (count - one)

-- The ones less the zeros in the payload and one further zero bit. That one is bit 66 of the plain code.
abbrev pub weight : ℕ → ℤ
weight x = excess 65 (ones_in 64 x)

-- the ones less the zeros in these codes
unfoldable pub disparity : List ℕ → ℤ
disparity codes = excess (67 * length codes) (sum_by (ones_in 67) codes)

-- at a disparity R the word is sent inverted where R is not below 0 and the weight is above 0, or both are below 0
unfoldable pub is_inverted : ℤ → ℕ → Bool
is_inverted r x = (int_le (pos 0) r && int_lt (pos 0) (weight x)) || (int_lt r (pos 0) && int_lt (weight x) (pos 0))

-- the code of a word after these codes
abbrev pub code_behind : List ℕ → Word → ℕ
code_behind before word = code_of (is_inverted (disparity before) (payload word)) word

-- the codes of words, given the codes before them
unfoldable pub codes_behind : List ℕ → List Word → List ℕ
codes_behind before [] = []
codes_behind before (word ∷ rest) = let code = code_behind before word in code ∷ codes_behind (before ++ code ∷ []) rest

-- the codes of a lane's words
abbrev pub codes_of : List Word → List ℕ
codes_of words = codes_behind [] words

-- the disparity after a word
abbrev pub next_disparity : ℤ → ℕ → ℤ
next_disparity r x = if is_inverted r x then r -ℤ weight x else r +ℤ weight x

-- bits 65:64 of a code
abbrev pub header_in : ℕ → ℕ
header_in code = code / 2 ^ 64 % 4

-- its payload, or the complement of that where bit 66 is 1
abbrev pub payload_in : ℕ → ℕ
payload_in code = if code / 2 ^ 66 == 1 then inverse_of (code % 2 ^ 64) else code % 2 ^ 64

-- the header is that of data or that of control
abbrev pub is_legal : ℕ → Bool
is_legal code = (header_in code == 1) || (header_in code == 2)

-- the word that a code means
unfoldable pub word_of_code : ℕ → RxWord
word_of_code code =
    if header_in code == 1 then received.Data (payload_in code) else
    if header_in code == 2 then received.Control (payload_in code) else
    received.Bad
