-- The codes of 67 bytes.
use Rattle.std.proofs.Common.{ℕ, ◌≡◌, ◌+◌, ◌-◌, ◌/◌, ap, sym, length, take, drop, ◌∙◌, arith, rules}
use Rattle.lk_base.specs.Checksum.{bits_of_bytes}
use Rattle.lane_lock.proofs.EightWords.{codes_of_bits}
use Rattle.lane_lock.proofs.Loads.{within}
use Rattle.lane_lock.proofs.places.legal_codes.Goals as goal

pub returns-then-are_legal : goal.returns-then-are_legal
returns-then-are_legal c =
    let bytes = c.args.bytes.now in
    let at = c.args.at in
    let whole = c.if-at-gt0.false in
    let there = c.requires.there in
    let count : at / 8 + 67 - at / 8 ≡ 67 = omega arith in
    let long : length c.eight_codes-codes.result ≡ 8 = search rules in (
      long,
      codes_of_bits c.eight_codes-codes.result _ (drop at (bits_of_bytes bytes)) long c.eight_codes-codes.ensures.below c.eight_codes-codes.ensures.bits
          (ap (λ (n : ℕ). take 536 (bits_of_bytes (take n (drop (at / 8) bytes)))) count
          ∙ sym (within bytes (at / 8) 67 0 536 at (omega (arith, whole)) (omega (arith, there)) (omega arith)))
          (c.are_legal.ensures.legal c.if-are_legal.true),
    )
