-- The lanes begin with no words, and end with all.
use Rattle.std.proofs.Common.{ℕ, ◌≡◌, ◌*◌, ◌∙◌, sym, ap, subst, List, [], length, map, Vec, Global}
use Rattle.std.specs.Vec.{with_items}
use Rattle.std.proofs.lemmas.List.{with_items_is}
use Rattle.lk_base.specs.Link.{Settings, group_of}
use Rattle.tx_end.specs.Lanes.{AreFilled, AreLaneFiles}
use Rattle.tx_end.proofs.GroupsSent.{ended_lanes, file_bytes, none_sent}
use Rattle.tx_end.proofs.sent_lanes.lanes_by.Goals as goal

pub fill_all-requires-clause-group : goal.fill_all-requires-clause-group
fill_all-requires-clause-group c = ap length c.deref_mut.ensures.value ∙ c.in_ok-group.ensures ∙ ap group_of (sym c.in_ok-filler.ensures.settings)

pub fill_all-requires-clause-sent : goal.fill_all-requires-clause-sent
fill_all-requires-clause-sent c =
    let (source, listed, shape) = c.requires in (
      source,
      [],
      0,
      none_sent c.args.link.now c.in_ok-filler.filler.settings source c.args.maker.now c.args.list.now c.in_ok-filler.filler.lanes c.lanes.result c.in_ok-files.files.items c.deref_mut-2.result.now c.in_ok-filler.ensures.settings c.lanes.ensures c.in_ok-files.ensures
          c.deref_mut-2.ensures.value listed shape.group c.in_ok-filler.ensures.none,
    )

pub finish-requires : goal.finish-requires
finish-requires c =
    let (source, listed, shape) = c.requires in
    let begun = none_sent c.args.link.now c.in_ok-filler.filler.settings source c.args.maker.now c.args.list.now c.in_ok-filler.filler.lanes c.lanes.result c.in_ok-files.files.items c.deref_mut-2.result.now c.in_ok-filler.ensures.settings c.lanes.ensures c.in_ok-files.ensures
    c.deref_mut-2.ensures.value listed shape.group c.in_ok-filler.ensures.none in
    let (all, groups, now, over) = c.in_ok-fill_all.ensures.sent source [] 0 begun in
    let files-are : (with_items c.in_ok-files.files c.fill_all.new.files).items ≡ c.fill_all.new.files = with_items_is c.in_ok-files.files c.fill_all.new.files (c.fill_all.auto.files ∙ c.deref_mut-2.ensures.len) in
    record {
      filled = (
        all,
        groups,
        subst (λ (fs : List (Vec ℕ Global)). AreFilled c.fill_all.new.filler.settings all groups c.fill_all.new.filler.lanes (map file_bytes fs)) (sym (c.deref_mut-3.ensures.value ∙ files-are))
            (subst (λ (t : Settings). AreFilled t all groups c.fill_all.new.filler.lanes (map file_bytes c.fill_all.new.files)) (sym c.fill_all.ensures.settings) now.filled),
      );
    }

pub returns : goal.returns
returns c source listed shape =
    let begun = none_sent c.args.link.now c.in_ok-filler.filler.settings source c.args.maker.now c.args.list.now c.in_ok-filler.filler.lanes c.lanes.result c.in_ok-files.files.items c.deref_mut-2.result.now c.in_ok-filler.ensures.settings c.lanes.ensures c.in_ok-files.ensures
    c.deref_mut-2.ensures.value listed shape.group c.in_ok-filler.ensures.none in
    let (all, groups, now, over) = c.in_ok-fill_all.ensures.sent source [] 0 begun in
    let files = with_items c.in_ok-files.files c.fill_all.new.files in
    let files-are : files.items ≡ c.fill_all.new.files = with_items_is c.in_ok-files.files c.fill_all.new.files (c.fill_all.auto.files ∙ c.deref_mut-2.ensures.len) in
    let ended = c.in_ok-finish.ensures.ended all groups
    (subst (λ (fs : List (Vec ℕ Global)). AreFilled c.fill_all.new.filler.settings all groups c.fill_all.new.filler.lanes (map file_bytes fs)) (sym (c.deref_mut-3.ensures.value ∙ files-are))
    (subst (λ (t : Settings). AreFilled t all groups c.fill_all.new.filler.lanes (map file_bytes c.fill_all.new.files)) (sym c.fill_all.ensures.settings) now.filled)) in
    let count : length all ≡ groups * group_of c.args.link.now = now.count ∙ ap (λ (t : Settings). groups * group_of t) c.in_ok-filler.ensures.settings in
    let last : (with_items files c.finish.new.files).items ≡ c.finish.new.files = with_items_is files c.finish.new.files (c.finish.auto.files ∙ c.deref_mut-3.ensures.len) in (
      all,
      now.listed,
      over,
      subst (λ (fs : List (Vec ℕ Global)). AreLaneFiles c.args.link.now all (map file_bytes fs)) (sym last)
          (ended_lanes c.args.link.now c.fill_all.new.filler.settings all groups (map file_bytes c.finish.new.files) (c.fill_all.ensures.settings ∙ c.in_ok-filler.ensures.settings) c.keeps_limits.ensures count ended),
    )
