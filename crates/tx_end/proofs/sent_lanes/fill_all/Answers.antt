use Rattle.std.proofs.Common.{◌+◌, ◌∙◌, ◌++◌, refl, sym, ap, subst, map, arith}
use Rattle.lk_base.specs.Link.{Settings, group_of}
use Rattle.tx_end.specs.SentLanes.{HasSent}
use Rattle.tx_end.proofs.GroupsSent.{group_nearer}
use Rattle.tx_end.proofs.sent_lanes.fill_all.Goals as goal

pub loop-maker-init : goal.loop-maker-init
loop-maker-init c = record { settings = refl; long = refl; sent = λ source words made is. (words, made, is) }

pub is_over-requires : goal.is_over-requires
is_over-requires c =
    let (source, words, made, is) = c.requires.sent in
    let (all, groups, now) = c.loop-maker.invariant.sent source words made is in
    (source, all, now.listed.gave)

pub fill_next-requires-clause-group : goal.fill_next-requires-clause-group
fill_next-requires-clause-group c = c.loop-maker.invariant.long ∙ c.requires.group ∙ ap group_of (sym c.loop-maker.invariant.settings)

pub fill_next-requires-clause-sent : goal.fill_next-requires-clause-sent
fill_next-requires-clause-sent c =
    let (source, words, made, is) = c.requires.sent in
    let (all, groups, now) = c.loop-maker.invariant.sent source words made is in (
      source,
      all,
      groups,
      subst (λ (s : Settings). HasSent c.loop-maker.maker c.loop-maker.list source s all groups c.loop-maker.filler.lanes (map (λ file. file.items) c.loop-maker.files)) (sym c.loop-maker.invariant.settings) now,
      c.is_over.ensures.going source all now.listed.gave c.loop-maker-test.true,
    )

pub loop-maker-smaller : goal.loop-maker-smaller
loop-maker-smaller c =
    let (source, words, made, is) = c.requires.sent in
    let (all, groups, now) = c.loop-maker.invariant.sent source words made is in
    let here = subst (λ (s : Settings). HasSent c.loop-maker.maker c.loop-maker.list source s all groups c.loop-maker.filler.lanes (map (λ file. file.items) c.loop-maker.files)) (sym c.loop-maker.invariant.settings) now in
    let next = (c.in_ok-fill_next.ensures {u = tt}).sent source all groups here (c.is_over.ensures.going source all now.listed.gave c.loop-maker-test.true) in
    let long = c.fill_next.ensures.long ∙ c.loop-maker.invariant.long ∙ c.requires.group ∙ sym is.group in
    let some = source.shape.group_low in
    group_nearer c.loop-maker.maker c.fill_next.new.maker source all c.fill_next.new.group now.listed.gave next.listed.gave (omega (arith, long, some))

pub loop-maker-preserved : goal.loop-maker-preserved
loop-maker-preserved c = record {
  settings = c.fill_next.ensures.settings ∙ c.loop-maker.invariant.settings;
  long = c.fill_next.ensures.long ∙ c.loop-maker.invariant.long;
  sent = λ source words made is.
      let (all, groups, now) = c.loop-maker.invariant.sent source words made is in
      let here = subst (λ (s : Settings). HasSent c.loop-maker.maker c.loop-maker.list source s all groups c.loop-maker.filler.lanes (map (λ file. file.items) c.loop-maker.files)) (sym c.loop-maker.invariant.settings) now in
      let next = (c.in_ok-fill_next.ensures {u = tt}).sent source all groups here (c.is_over.ensures.going source all now.listed.gave c.loop-maker-test.true) in
      (all ++ c.fill_next.new.group, groups + 1, subst (λ (s : Settings). HasSent c.fill_next.new.maker c.fill_next.new.list source s (all ++ c.fill_next.new.group) (groups + 1) c.fill_next.new.filler.lanes (map (λ file. file.items) c.fill_next.new.files)) c.loop-maker.invariant.settings next);
}

pub returns-clause-sent : goal.returns-clause-sent
returns-clause-sent c source words made is =
    let (all, groups, now) = c.loop-maker.invariant.sent source words made is in
    (all, groups, now, c.is_over.ensures.over source all now.listed.gave c.loop-maker-test.false)
