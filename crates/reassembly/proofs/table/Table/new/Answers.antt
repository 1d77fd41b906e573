-- Each listed channel has its own place, and no channel has a word.
use Rattle.std.proofs.Common.{◌∙◌, ap, length, [], List, ℕ, subst, arith}
use Rattle.std.proofs.lemmas.List.{length-replicate}
use Rattle.reassembly.specs.Firsts.{AreFirst}
use Rattle.reassembly.specs.Packets.{Packets}
use Rattle.reassembly.proofs.FirstPlaces.{placed_first, rows_first}
use Rattle.reassembly.proofs.table.Table.new.Goals as goal

pub invariant_of-result : goal.invariant_of-result
invariant_of-result c =
    let first : AreFirst c.in_ok-channels.channels.items c.args.numbers.items c.args.wide = subst (λ (ns : List ℕ). AreFirst c.in_ok-channels.channels.items ns c.args.wide) c.deref.ensures.value (c.in_ok-channels.ensures {u = tt}) in
    placed_first c.in_ok-channels.channels.items c.args.numbers.items c.args.wide (length c.in_ok-packets.packets.kept) first
    (ap (λ (p : Packets). length p.kept) (c.in_ok-packets.ensures {u = tt}) ∙ length-replicate _ [] ∙ (let len = c.len.ensures in omega (arith, c.args.numbers.ok)))

pub returns-clause-rows : goal.returns-clause-rows
returns-clause-rows c =
    let first : AreFirst c.in_ok-channels.channels.items c.args.numbers.items c.args.wide = subst (λ (ns : List ℕ). AreFirst c.in_ok-channels.channels.items ns c.args.wide) c.deref.ensures.value (c.in_ok-channels.ensures {u = tt}) in
    rows_first c.in_ok-channels.channels.items c.args.numbers.items c.args.wide _ _ first (ap (λ (p : Packets). p.kept) (c.in_ok-packets.ensures {u = tt}))
