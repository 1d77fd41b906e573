-- The words file is read as the words that were written.
use Rattle.std.proofs.Common.{◌≡◌, ◌^◌, ◌<◌, false, List, Ok, get_or, refl, ap, ◌∙◌, arith}
use Rattle.std.proofs.lemmas.List.{map-id}
use Rattle.lk_base.specs.Words.{number_of}
use Rattle.lk_base.specs.declared.word.RxWord.{RxWord}
use Rattle.lk_base.specs.declared.word.RxWord.TheVariants.{Data, Control, Bad}
use Rattle.words_files.specs.FileWord.{file_number, received_in_file, received_of}
use Rattle.words_files.specs.WordsOfFile.{has_wrong_tag}
use Rattle.words_files.proofs.Again.{again}
use Rattle.lane_words.specs.WordsFile.{rx_word_bytes}
use Rattle.lane_words.specs.GatheredLaws.{WrittenIsRead}

right_tag : (word : RxWord) → has_wrong_tag (rx_word_bytes word) ≡ false
right_tag (Data x) = refl
right_tag (Control x) = refl
right_tag Bad = refl

same_word : (word : RxWord) → received_of (received_in_file word) ≡ word
same_word (Data x) = refl
same_word (Control x) = refl
same_word Bad = refl

number_fits : (word : RxWord) → number_of word < 2 ^ 64 → file_number (received_in_file word) < 2 ^ 64
number_fits (Data x) h = h
number_fits (Control x) h = h
number_fits Bad h = omega arith

pub written_is_read : WrittenIsRead
written_is_read words h =
    again RxWord RxWord received_in_file received_of has_wrong_tag (λ word. word) right_tag same_word words (λ k d lt. number_fits (get_or words k d) (h k d lt)) ∙ ap (λ (ws : List RxWord). Ok ws) (map-id words)
