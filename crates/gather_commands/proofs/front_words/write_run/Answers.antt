-- The numbers are written to the part from byte `at` on.
use borrow.Rule.Slice.PartMut.{put_mid}
use lib.Seq.{take-append-add}
use Rattle.std.proofs.Common.{◌≡◌, ◌≤◌, ◌∙◌, ◌+◌, ◌*◌, ◌-◌, ◌++◌, ℕ, List, length, take, drop, sym, ap, arith, length-drop}
use Rattle.std.proofs.lemmas.List.{length-take, length-take-le, take-append-le}
use Rattle.gather_commands.proofs.front_words.write_run.Goals as goal

pub write_data-requires : goal.write_data-requires
write_data-requires c =
    let fits = c.requires in
    let cut = length-take (length c.args.bytes.now - c.args.at) (drop c.args.at c.args.bytes.now) in
    let rest = length-drop c.args.at c.args.bytes.now in
    omega (arith, fits, cut, rest)

-- the first bytes of a part that was written
part_written : (bytes new more : List ℕ) (at k count : ℕ) → at ≤ length bytes → count ≤ length new → take count new ≡ more → take (at + count) (put_mid at k bytes new) ≡ take at bytes ++ more
part_written bytes new more at k count h fits is =
    ap (λ (n : ℕ). take (n + count) (put_mid at k bytes new)) (sym (length-take-le at bytes h))
    ∙ take-append-add (take at bytes) (new ++ drop k (drop at bytes)) count
    ∙ ap (λ (bs : List ℕ). take at bytes ++ bs) (take-append-le count new (drop k (drop at bytes)) fits ∙ is)

pub returns-clause-put : goal.returns-clause-put
returns-clause-put c =
    let at = c.args.at in
    let bytes = c.args.bytes.now in
    let new = c.write_data.new.bytes in
    let count = 9 * length c.args.numbers.now in
    let fits = c.requires in
    let cut = length-take (length bytes - at) (drop at bytes) in
    let rest = length-drop at bytes in
    let long = c.write_data.ensures.long in
    part_written bytes new _ at (length bytes - at) count (omega (arith, fits)) (omega (arith, fits, cut, rest, long)) c.write_data.ensures.file
