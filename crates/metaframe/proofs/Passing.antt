-- Payload words of one metaframe, passed one after another.
use Rattle.std.proofs.Common.{ℕ, ◌≡◌, refl, ◌+◌, ◌<◌, ◌==◌, false, List, [], ◌∷◌, ◌++◌, length, map, take, get_or, arith, append_assoc, length-append, true}
use Rattle.std.proofs.lemmas.List.{length-take-le, map_push, take_more}
use Rattle.lk_base.specs.declared.word.Word.{Word}
use Rattle.lk_base.specs.Words.{payload}
use Rattle.lk_base.specs.Checksum.{register_after}
use Rattle.lk_base.specs.Link.{Settings}
use Rattle.lk_crc.proofs.Registers.{number_added}
use Rattle.metaframe.specs.Progress.{Progress, passed, passed_payloads, with_state}
use Rattle.metaframe.specs.Writing.{Writes, wants_payload, wants_payloads}
use Rattle.metaframe.proofs.Places.{payload_within}
use Rattle.metaframe.proofs.Steps.{at_next}

pub none_passed : (w : Progress) (state : ℕ) → w.state ≡ state → passed_payloads w state [] ≡ w
unfolding register_after
none_passed w state e = let z : w.position + 0 ≡ w.position = omega arith in rw (z, ← e) refl

one_passed : (w : Progress) (key state : ℕ) (words : List Word) (word : Word) → (w.position + length words + 1 == w.settings.metaframe) ≡ false →
    passed (with_state (passed_payloads w key words) state) (payload word) ≡ passed_payloads w state (words ++ word ∷ [])
one_passed w key state words word inside =
    let z : w.position + (length words + 1) ≡ w.position + length words + 1 = omega arith in
    rw (inside, length-append words (word ∷ []), map_push payload words word, number_added 32 0x1EDC6F41 w.register 64 (map payload words) (payload word), z)
    refl

-- the writer after the first words
abbrev pub AfterFirst : Progress → ℕ → List Word → ℕ → Progress
AfterFirst w key words n = passed_payloads w key (take n words)

-- one of eight words more goes under the key
pub first_more : (w : Progress) (key state : ℕ) (words : List Word) (n : ℕ) (d sent : Word) → wants_payloads w 8 → n < 8 → n < length words →
    ((v : Progress) (s : Settings) (lane : ℕ) (given made : List Word) → v.state ≡ key → wants_payload v ≡ true → Writes v s lane given made → Writes (passed (with_state v state) (payload (get_or words n d))) s lane (given ++ get_or words n d ∷ []) (made ++ sent ∷ [])) →
    (s : Settings) (lane : ℕ) (given made : List Word) → Writes (AfterFirst w key words n) s lane (given ++ take n words) made → Writes (AfterFirst w state words (n + 1)) s lane (given ++ take (n + 1) words) (made ++ sent ∷ [])
first_more w key state words n d sent wants low here under s lane given made k =
    let count : length (take n words) ≡ n = length-take-le n words (omega (arith, here)) in
    let within = payload_within w.settings (w.position + n) (wants n low) in
    let inside : (w.position + length (take n words) + 1 == w.settings.metaframe) ≡ false = rw count (at_next w.settings.metaframe (w.position + n) (omega (arith, within.0, within.1))) in
    rw (take_more words n d here, ← one_passed w key state (take n words) (get_or words n d) inside, ← append_assoc given (take n words) (get_or words n d ∷ []))
    (under (AfterFirst w key words n) s lane (given ++ take n words) made refl (rw count (wants n low)) k)
