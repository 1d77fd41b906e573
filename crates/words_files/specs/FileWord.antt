-- A word in a words file: nine bytes.
use Rattle.std.specs.Prelude.{ℕ, Bool, true, false, List, ◌∷◌}
use Rattle.std.specs.Int.{bytes_high_first}
use Rattle.lk_base.specs.declared.word.RxWord.{RxWord}
use Rattle.lk_base.specs.declared.word.RxWord.TheVariants as received
use Rattle.lk_base.specs.declared.word.Word.{Word}
use Rattle.lk_base.specs.declared.word.Word.TheVariants as sent
use Rattle.words_files.specs.declared.file_word.FileWord.{FileWord}
use Rattle.words_files.specs.declared.file_word.FileWord.TheVariants as file

-- ---- its bytes

-- the first byte: 1 for data, 2 for control, 3 for a bad word
abbrev pub file_tag : FileWord → ℕ
file_tag (file.Data x) = 1
file_tag (file.Control x) = 2
file_tag (file.Bad x) = 3

-- the number that the word carries; of a bad word it is the one that stands in the file
abbrev pub file_number : FileWord → ℕ
file_number (file.Data x) = x
file_number (file.Control x) = x
file_number (file.Bad x) = x

-- the tag, and then the eight bytes of the number, the highest first
abbrev pub nine_bytes : FileWord → List ℕ
nine_bytes word = file_tag word ∷ bytes_high_first 8 (file_number word)

-- ---- words that are written

-- a sent word
abbrev pub sent_in_file : Word → FileWord
sent_in_file (sent.Data x) = file.Data x
sent_in_file (sent.Control x) = file.Control x

-- a received word; the number of a bad one is written as 0
abbrev pub received_in_file : RxWord → FileWord
received_in_file (received.Data x) = file.Data x
received_in_file (received.Control x) = file.Control x
received_in_file received.Bad = file.Bad 0

-- ---- words that are read

-- as a received word; the number of a bad one is ignored
abbrev pub received_of : FileWord → RxWord
received_of (file.Data x) = received.Data x
received_of (file.Control x) = received.Control x
received_of (file.Bad x) = received.Bad

-- as a sent word; a bad one, which no file of sent words has, counts as control
abbrev pub sent_of : FileWord → Word
sent_of (file.Data x) = sent.Data x
sent_of (file.Control x) = sent.Control x
sent_of (file.Bad x) = sent.Control x

-- ---- words that are data words

abbrev pub is_data : FileWord → Bool
is_data (file.Data x) = true
is_data (file.Control x) = false
is_data (file.Bad x) = false

abbrev pub is_received_data : RxWord → Bool
is_received_data (received.Data x) = true
is_received_data (received.Control x) = false
is_received_data received.Bad = false
