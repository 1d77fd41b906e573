-- The two bits of each header.
use Rattle.std.proofs.Common.{◌≡◌, ap₂, ◌∙◌, ◌+◌, ◌-◌, ◌*◌, ℕ, length, bit_xor, arith}
use Rattle.std.specs.Int.{bit_at}
use Rattle.lk_base.specs.Checksum.{bits_of_bytes}
use Rattle.lane_model.proofs.FilesHold.{length-flat_map_bits}
use Rattle.lane_lock.proofs.Misses.{code_is, legal_bit}
use Rattle.lane_lock.proofs.search.legal_headers.Goals as goal

pub returns : goal.returns
returns c j h =
    let l : length (bits_of_bytes c.args.bytes.now) ≡ 8 * length c.args.bytes.now = length-flat_map_bits 8 c.args.bytes.now in
    let there = c.requires.there in
    let first = code_is (bits_of_bytes c.args.bytes.now) (c.args.at + 1) c.code_at.result c.code_at.ensures.below c.code_at.ensures.bits in
    let second = code_is (bits_of_bytes c.args.bytes.now) (c.args.at + 2) c.code_at-2.result c.code_at-2.ensures.below c.code_at-2.ensures.bits in
    ap₂ (λ (x y : ℕ). bit_at (bit_xor x y) (66 - j)) first second ∙ legal_bit (bits_of_bytes c.args.bytes.now) c.args.at j h (omega (arith, l, there))
