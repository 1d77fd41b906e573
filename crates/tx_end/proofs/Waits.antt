-- How many bits of a lane wait.
use Rattle.std.proofs.Common.{◌≡◌, ℕ, ◌+◌, ◌*◌, ap, ◌∙◌, false, List, [], ◌++◌, length, replicate, arith, length-append}
use Rattle.std.proofs.lemmas.List.{length-replicate}
use Rattle.std.proofs.lemmas.List.FromFn.{length-map-range_with_len}
use Rattle.lk_base.specs.declared.word.Word.{Word}
use Rattle.lk_base.specs.Checksum.{bits_of_bytes}
use Rattle.lk_base.specs.Link.{Settings}
use Rattle.lane_model.specs.Coding.{codes_of}
use Rattle.lane_model.specs.Key.{first_state, start_of}
use Rattle.lane_model.specs.LaneBits.{bits_of_codes}
use Rattle.lane_model.specs.LaneWords.{sent_at}
use Rattle.lane_model.proofs.CodesOfWords.{length-codes_behind}
use Rattle.lane_model.proofs.FilesHold.{length-flat_map_bits}
use Rattle.coding_67b.proofs.Runs.{codes_length}
use Rattle.tx_end.specs.declared.lane_writer.LaneWriter.{LaneWriter}
use Rattle.tx_end.specs.Lanes.{Carries, IsCarried, first_words}

pub waits : (l : LaneWriter) (s : Settings) (lane made : ℕ) (given : List Word) (bytes : List ℕ) → Carries l s lane given made bytes → 8 * length bytes + length l.bits ≡ 67 * made
waits l s lane made given bytes k =
    let a : length (bits_of_bytes bytes ++ l.bits) ≡ length (bits_of_bytes bytes) + length l.bits = length-append (bits_of_bytes bytes) l.bits in
    let b : length (bits_of_bytes bytes) ≡ 8 * length bytes = length-flat_map_bits 8 bytes in
    let c : length (bits_of_bytes bytes ++ l.bits) ≡ 67 * length (codes_of k.words) = ap length k.bits ∙ codes_length (codes_of k.words) in
    let d : length (codes_of k.words) ≡ made = length-codes_behind [] k.words ∙ k.count in
    omega (arith, a, b, c, d)

-- how many bits of padding a file has
pub file_waits : (s : Settings) (lane made : ℕ) (given : List Word) (bytes : List ℕ) (k : IsCarried s lane given made bytes) → 8 * length bytes ≡ 67 * made + k.padding
file_waits s lane made given bytes k =
    let words : List Word = first_words s lane given made in
    let a : length (bits_of_codes (codes_of words) ++ replicate k.padding false) ≡ length (bits_of_codes (codes_of words)) + length (replicate k.padding false) = length-append (bits_of_codes (codes_of words)) (replicate k.padding false) in
    let b : length (bits_of_bytes bytes) ≡ 8 * length bytes = length-flat_map_bits 8 bytes in
    let c : length (bits_of_codes (codes_of words)) ≡ 67 * length (codes_of words) = codes_length (codes_of words) in
    let d : length (codes_of words) ≡ made = length-codes_behind [] words ∙ length-map-range_with_len (sent_at s (start_of (first_state lane)) given) 0 made in
    let e : length (replicate k.padding false) ≡ k.padding = length-replicate k.padding false in
    let f = ap length k.holds in
    omega (arith, a, b, c, d, e, f)
