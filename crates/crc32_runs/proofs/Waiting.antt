-- The register after words of which the last wait.
use Rattle.std.proofs.Common.{◌≡◌, ℕ, List, ◌++◌, take, refl, ap, ◌∙◌}
use Rattle.std.proofs.lemmas.List.Concat.{flat_map-append}
use Rattle.lk_base.specs.Checksum.{bits_of, bits_of_words, register_after}
use Rattle.lk_crc.proofs.Registers.{register_after-append}

-- none waits
pub none_waits : (r : ℕ) (words : List ℕ) → register_after 32 0x1EDC6F41 r (bits_of_words (take 0 words)) ≡ r
unfolding register_after
none_waits r words = refl

-- more wait
pub more_wait : (r n m : ℕ) (old new more : List ℕ) → take m new ≡ take n old ++ more →
    register_after 32 0x1EDC6F41 r (bits_of_words (take m new)) ≡ register_after 32 0x1EDC6F41 (register_after 32 0x1EDC6F41 r (bits_of_words (take n old))) (bits_of_words more)
more_wait r n m old new more e =
    ap (λ (words : List ℕ). register_after 32 0x1EDC6F41 r (bits_of_words words)) e
    ∙ ap (register_after 32 0x1EDC6F41 r) (flat_map-append (bits_of 64) (take n old) more)
    ∙ register_after-append 32 0x1EDC6F41 r (bits_of_words (take n old)) (bits_of_words more)
