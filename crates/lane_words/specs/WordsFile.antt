-- The words file of words as they were received.
use Rattle.std.specs.Prelude.{ℕ, List}
use Rattle.std.specs.List.{flat_map}
use Rattle.lk_base.specs.declared.word.RxWord.{RxWord}
use Rattle.words_files.specs.FileWord.{nine_bytes, received_in_file}

-- the nine bytes of a word; the number of a bad one is written as 0
abbrev pub rx_word_bytes : RxWord → List ℕ
rx_word_bytes word = nine_bytes (received_in_file word)

abbrev pub rx_words_file : List RxWord → List ℕ
rx_words_file words = flat_map rx_word_bytes words
