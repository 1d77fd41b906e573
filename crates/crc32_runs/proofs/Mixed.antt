-- A register that goes into the first of the words which it would take.
use Rattle.std.proofs.Common.{◌≡◌, ℕ, ◌-◌, ◌*◌, ◌%◌, ◌^◌, ◌≤◌, List, [], ◌∷◌, length, take, drop, refl, sym, ap, ◌∙◌, arith, bit_xor, slice_index_or, slice_set}
use Rattle.std.proofs.lemmas.List.{length-drop, take_all}
use Rattle.lk_base.specs.Checksum.{bits_of, bits_of_words, register_after}
use Rattle.lk_crc.proofs.Registers.{register_after-append}
use Rattle.lk_crc.proofs.Pieces.{word_mixed_in}
use Rattle.crc32_runs.specs.Registers.{register_of}

pub first_mixed : (r : ℕ) (words : List ℕ) → 1 ≤ length words →
    register_of (slice_set words 0 (bit_xor (slice_index_or words 0 0) (r * 2 ^ 32 % 2 ^ 64))) ≡ register_after 32 0x1EDC6F41 r (bits_of_words words)
first_mixed r [] h = absurd (omega arith)
first_mixed r (word ∷ words) h =
    register_after-append 32 0x1EDC6F41 0 (bits_of 64 (bit_xor word (r * 2 ^ 32 % 2 ^ 64))) (bits_of_words words)
    ∙ ap (λ (q : ℕ). register_after 32 0x1EDC6F41 q (bits_of_words words)) (sym (word_mixed_in 31 0x1EDC6F41 32 r word refl))
    ∙ sym (register_after-append 32 0x1EDC6F41 r (bits_of 64 word) (bits_of_words words))

-- all words from this place on
pub rest_taken : (at : ℕ) (words : List ℕ) → take (length words - at) (drop at words) ≡ drop at words
rest_taken at words = let long = length-drop at words in take_all (length words - at) (drop at words) (omega (arith, long))
