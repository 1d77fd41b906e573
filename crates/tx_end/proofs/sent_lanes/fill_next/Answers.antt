-- The next group is whole.
use Rattle.std.proofs.Common.{◌≡◌, ◌∙◌, length}
use Rattle.std.proofs.lemmas.Result.{on_ok_weaker}
use Rattle.tx_end.proofs.GroupsSent.{group_fits, group_gave, group_sent}
use Rattle.tx_end.proofs.sent_lanes.fill_next.Goals as goal

pub pass_block-requires : goal.pass_block-requires
pass_block-requires c =
    let (source, words, made, is, going) = c.requires.sent in
    let s = c.args.filler.now.settings in
    let block = c.next_block.new.block in
    let long : length block ≡ length c.args.group.now = c.next_block.ensures.long in
    let gave = c.next_block.ensures in
    let now = group_gave s source words made c.args.maker.now c.args.list.now _ _ is going c.next_block.new.self block c.next_block.result (long ∙ c.requires.group) (rw long gave.within)
    (λ lt. gave.whole source words is.listed.gave (rw long at lt)) (gave.given source words is.listed.gave) in
    let fits = group_fits s source words made c.args.maker.now c.args.list.now _ _ is going c.next_block.new.self block now in
    (words, length source.packets, is.listed.lists, fits.0, is.listed.few, fits.1)

pub returns-clause-sent : goal.returns-clause-sent
returns-clause-sent c =
    on_ok_weaker c.fill_group.result
    (λ filled source words made is going.
    let s = c.args.filler.now.settings in
    let block = c.next_block.new.block in
    let long : length block ≡ length c.args.group.now = c.next_block.ensures.long in
    let gave = c.next_block.ensures in
    let now = group_gave s source words made c.args.maker.now c.args.list.now _ _ is going c.next_block.new.self block c.next_block.result (long ∙ c.requires.group) (rw long gave.within)
    (λ lt. gave.whole source words is.listed.gave (rw long at lt)) (gave.given source words is.listed.gave) in
    group_sent s source words made c.args.maker.now c.args.list.now _ _ is going c.next_block.new.self block c.pass_block.new.self c.fill_group.new.filler.lanes _ (long ∙ c.requires.group) now
    (c.pass_block.ensures words (length source.packets) is.listed.lists) (filled words made is.count is.filled))
    c.fill_group.ensures.filled
