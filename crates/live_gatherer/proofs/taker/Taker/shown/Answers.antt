-- Item by item: a group gives nothing, and a word or a break is given.
use Rattle.std.proofs.Common.{◌∙◌, refl}
use Rattle.std.proofs.Math.Logic.{∥∥₁_elim}
use Rattle.std.proofs.Props.{props}
use Rattle.live_gatherer.proofs.Takings.{group_taken, item_told, link_lanes}
use Rattle.live_gatherer.proofs.taker.Taker.shown.Goals as goal

pub returns-in_default-clause-gives : goal.returns-in_default-clause-gives
returns-in_default-clause-gives c = λ s fed given at.
    let k = c.items.invariant.takes s fed given at in
    record { items = k.items; progress = k.progress; front = c.in_default.ensures.gives s fed k.items k.progress k.front; link = k.link; counts = k.counts; gave = k.gave }

pub told-requires : goal.told-requires
told-requires c = record {
  lanes = ∥∥₁_elim c.requires (search props) (λ r.
      let k = c.items.invariant.takes r.0 r.1 r.2 r.3 in
      link_lanes c.next_item.new.front c.items.self.link r.0 r.1 _ k.progress (c.in-Some.ensures.gives r.0 r.1 k.items k.progress k.front) k.link);
}

pub returns-in-Some-told-clause-gives : goal.returns-in-Some-told-clause-gives
returns-in-Some-told-clause-gives c = λ s fed given at.
    let k = c.items.invariant.takes s fed given at in
    item_told c.items.self _ s fed given k c.in-Some.item refl (c.in-Some.ensures.gives s fed k.items k.progress k.front) (c.number-number.ensures.counts k.items k.counts)
    c.next_item.ensures.words c.number-number.result c.in-Some-told.given (c.number-number.ensures.number k.items k.counts) c.in-Some-told.ensures.some

pub items-preserved : goal.items-preserved
items-preserved c = record {
  takes = λ s fed given at.
      let k = c.items.invariant.takes s fed given at in
      group_taken c.items.self _ s fed given k c.in-Some.item refl (c.in-Some.ensures.gives s fed k.items k.progress k.front) (c.number-number.ensures.counts k.items k.counts) c.in-None.ensures.none;
  weight = c.next_item.ensures.weight ∙ c.items.invariant.weight;
}
