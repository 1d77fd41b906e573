-- The rows that are there, that the group has left, and that have room.
use Rattle.std.proofs.Common.{ℕ, ◌≡◌, sym, ap, ◌∙◌, subst, ◌+◌, ◌-◌, ◌/◌, ◌%◌, List, arith, min}
use Rattle.lk_base.specs.Link.{group_of}
use Rattle.deskew.specs.States.{LaneState, State}
use Rattle.deskew.specs.Blocks.{IsCount, least_there}
use Rattle.deskew.proofs.Rows.{count_is}
use Rattle.deskew.proofs.deskew.Deskew.count_rows.Goals as goal

pub returns-clause-count : goal.returns-clause-count
returns-clause-count c =
    let link = c.self.inside.link in
    let index = c.args.index in
    let held : State = record { settings = link; lanes = c.self.inside.lanes.items; phase = c.self.inside.phase; settled = c.self.inside.settled } in
    let words = c.group_words-words.result in
    let lanes = c.lanes-lanes.result in
    let left = (words - index) / lanes in
    let fits = c.args.room / lanes in
    let turn : c.turn-turn.result ≡ index % link.lanes = c.turn-turn.ensures ∙ ap (λ (d : State). index % d.settings.lanes) (sym c.self.view_is) in
    let behind : c.after_sync.result ≡ link.skips + 2 + index / link.lanes = c.after_sync.ensures ∙ ap (λ (d : State). d.settings.skips + 2 + index / d.settings.lanes) (sym c.self.view_is) in
    let group = c.group_words-words.ensures.value in
    let inside = c.if-index-lanes.false in
    let is : c.least_there-count.result ≡ least_there c.after_sync.result (min left fits) c.self.inside.lanes.items =
    c.least_there-count.ensures.value ∙ ap (λ (m : ℕ). least_there c.after_sync.result m c.deref.result.now) c.min.ensures
    ∙ ap (λ (ls : List LaneState). least_there c.after_sync.result (min left fits) ls) c.deref.ensures.value in
    subst (λ (d : State). IsCount c.args.room c.least_there-count.result index d) c.self.view_is
    (count_is c.args.room index c.least_there-count.result left fits c.after_sync.result held c.self.invariant.2 (sym turn ∙ c.if-turn-ne0.false) behind (omega (arith, group, inside))
    (ap (λ (w : ℕ). (w - index) / lanes) group ∙ ap (λ (n : ℕ). (group_of link - index) / n) c.lanes-lanes.ensures) (ap (λ (n : ℕ). c.args.room / n) c.lanes-lanes.ensures) is)
