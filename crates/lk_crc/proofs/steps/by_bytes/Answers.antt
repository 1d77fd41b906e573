use Rattle.std.proofs.Common.{sym, arith, ◌/◌, ◌^◌}
use Rattle.lk_crc.proofs.Slices.{slice_at}
use Rattle.lk_crc.proofs.Words.{word_by_bytes}
use Rattle.lk_crc.proofs.steps.by_bytes.Goals as goal

pub returns : goal.returns
returns c w p tail are =
    let x = c.args.word in
    let at = slice_at w p tail c.args.rows.now are in
    rw (
      at 0 x _ (omega arith) c.entry.ensures,
      at 1 (x / 2 ^ 8) _ (omega arith) c.entry-2.ensures,
      at 2 (x / 2 ^ 16) _ (omega arith) c.entry-3.ensures,
      at 3 (x / 2 ^ 24) _ (omega arith) c.entry-4.ensures,
      at 4 (x / 2 ^ 32) _ (omega arith) c.entry-5.ensures,
      at 5 (x / 2 ^ 40) _ (omega arith) c.entry-6.ensures,
      at 6 (x / 2 ^ 48) _ (omega arith) c.entry-7.ensures,
      at 7 (x / 2 ^ 56) _ (omega arith) c.entry-8.ensures,
    )
    (sym (word_by_bytes w p tail x))
