-- A word farther back.
use Rattle.std.proofs.Common.{◌≡◌, ◌+◌, ◌-◌, ◌*◌, ◌≤◌, length, arith}
use Rattle.lk_base.specs.Checksum.{bits_of_bytes}
use Rattle.lane_model.proofs.FilesHold.{length-flat_map_bits}
use Rattle.lane_lock.proofs.Misses.{misses_more, misses_none}
use Rattle.lane_lock.proofs.search.words_to_miss.Goals as goal

pub loop-legal-init : goal.loop-legal-init
loop-legal-init c = record { few = omega arith; missed = misses_none (bits_of_bytes c.args.bytes.now) }

pub loop-legal-preserved : goal.loop-legal-preserved
loop-legal-preserved c =
    let bits = bits_of_bytes c.args.bytes.now in
    let l : length bits ≡ 8 * length c.args.bytes.now = length-flat_map_bits 8 c.args.bytes.now in
    let long = c.requires.long in
    let few : c.loop-legal.words + 1 ≤ 24 = (let i = c.loop-legal.invariant.few in let less = c.if-words-eq-MOST_WORDS.false in omega (arith, i, less)) in
    record {
      few = few;
      missed = misses_more bits c.loop-legal.words c.loop-legal.legal c.legal_headers-legal.result (8 * length c.args.bytes.now - 66 - 67 * (c.loop-legal.words + 1)) (omega (arith, l, long, few))
          c.legal_headers-legal.ensures c.loop-legal.invariant.missed;
    }
