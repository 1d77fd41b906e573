use Rattle.std.proofs.Common.{arith, ℕ, ◌+◌, [], ◌∷◌, length, nat_lt, refl, subst, sym}
use Rattle.std.proofs.lemmas.Bool.{ltb-true, ltb-false}
use Rattle.stream_model.specs.BurstStream.{Source, IsBurstStream}
use Rattle.burst_scheduler.specs.Asked.{words_of, stepped}
use Rattle.burst_scheduler.specs.Gives.{Gives}
use Rattle.burst_scheduler.proofs.Calls.{has_words}
use Rattle.tx_words.specs.Driving.{FlowLater, LocalLater, having_rows, driven}
use Rattle.tx_words.proofs.Leftover.{all_given}
use Rattle.tx_words.proofs.Steps.{may, few_words, given, stayed}
use Rattle.tx_words.proofs.word_maker.WordMaker.next.Goals as goal

pub slot-slot-requires : goal.slot-slot-requires
slot-slot-requires c = let (source, words, k) = c.requires in record { words = (_, has_words k.drives.gives) }

pub pass_local-self-requires-clause-gives : goal.pass_local-self-requires-clause-gives
pass_local-self-requires-clause-gives c =
    let (source, words, k) = c.requires in
    let m = c.args.self.now in
    let d = k.drives in
    (driven (having_rows source m.flow.now m.local.now) words m.flow_passed m.local_passed d.opened d.waits d.closed, d.gives, refl, c.slot-slot.ensures.count _ (has_words d.gives))

pub pass_flow-self-requires-clause-gives : goal.pass_flow-self-requires-clause-gives
pass_flow-self-requires-clause-gives c =
    let (source, words, k) = c.requires in
    let m = c.args.self.now in
    let d = k.drives in
    let at = c.slot-slot.ensures.count _ (has_words d.gives) in
    let src = having_rows source m.flow.now m.local.now in (
      driven src words m.flow_passed c.pass_local-self.result d.opened d.waits d.closed,
      c.pass_local-self.ensures.gives (driven src words m.flow_passed m.local_passed d.opened d.waits d.closed) d.gives refl at,
      refl,
      at,
      d.calls,
    )

pub step-requires : goal.step-requires
step-requires c =
    let (source, words, k) = c.requires in
    let m = c.args.self.now in
    let d = k.drives in
    let at = c.slot-slot.ensures.count _ (has_words d.gives) in
    let src = having_rows source m.flow.now m.local.now in
    let l = c.pass_local-self.result in
    let f = c.pass_flow-self.result in
    let local = c.pass_local-self.ensures.gives (driven src words m.flow_passed m.local_passed d.opened d.waits d.closed) d.gives refl at in
    let p = c.pass_flow-self.ensures.gives (driven src words m.flow_passed l d.opened d.waits d.closed) local refl at d.calls in
    record {
      gives = (
        driven src words f l d.opened p.waits d.closed,
        p.gives,
        may m.scheduler c.pass_flow-self.new.scheduler src words m.flow_passed m.local_passed f l d k.timed p c.pass_flow-self.ensures.more c.pass_flow-self.ensures.within,
        few_words m.scheduler c.pass_flow-self.new.scheduler src words m.flow_passed m.local_passed f l d k.timed,
      );
    }

pub returns-clause-some : goal.returns-clause-some
returns-clause-some c source words word k is =
    let m = c.args.self.now in
    let d = k.drives in
    let at = c.slot-slot.ensures.count _ (has_words d.gives) in
    let src = having_rows source m.flow.now m.local.now in
    let l = c.pass_local-self.result in
    let f = c.pass_flow-self.result in
    let local = c.pass_local-self.ensures.gives (driven src words m.flow_passed m.local_passed d.opened d.waits d.closed) d.gives refl at in
    let p = c.pass_flow-self.ensures.gives (driven src words m.flow_passed l d.opened d.waits d.closed) local refl at d.calls in
    let a = driven src words f l d.opened p.waits d.closed in
    let may_be = may m.scheduler c.pass_flow-self.new.scheduler src words m.flow_passed m.local_passed f l d k.timed p c.pass_flow-self.ensures.more c.pass_flow-self.ensures.within in
    let more = nat_lt f (length m.flow.now) in
    record {
      rows = k.rows;
      timed = k.timed;
      drives = given more c.step.new.self src words (word ∷ []) f l d.opened p.waits d.closed
          (subst (λ o. Gives c.step.new.self (stepped a more (words_of o))) is (c.step.ensures.gives a p.gives may_be))
          may_be
          (ltb-true f (length m.flow.now))
          (ltb-false f (length m.flow.now))
          (let b = c.step.ensures.below a word p.gives may_be is in omega (arith, b))
          k.timed d.low c.pass_flow-self.ensures.within c.pass_local-self.ensures.within
          (subst (λ (n : ℕ). FlowLater m.flow.now f (n + 1)) at (c.pass_flow-self.ensures.later k.timed.flow (subst (FlowLater m.flow.now m.flow_passed) (sym at) d.flow_later)))
          (subst (λ (n : ℕ). LocalLater m.local.now l (n + 1)) at (c.pass_local-self.ensures.later k.timed.local (subst (LocalLater m.local.now m.local_passed) (sym at) d.local_later)));
    }

pub returns-clause-none : goal.returns-clause-none
returns-clause-none c source words k is =
    let m = c.args.self.now in
    let d = k.drives in
    let at = c.slot-slot.ensures.count _ (has_words d.gives) in
    let src = having_rows source m.flow.now m.local.now in
    let l = c.pass_local-self.result in
    let f = c.pass_flow-self.result in
    let local = c.pass_local-self.ensures.gives (driven src words m.flow_passed m.local_passed d.opened d.waits d.closed) d.gives refl at in
    let p = c.pass_flow-self.ensures.gives (driven src words m.flow_passed l d.opened d.waits d.closed) local refl at d.calls in
    let a = driven src words f l d.opened p.waits d.closed in
    let may_be = may m.scheduler c.pass_flow-self.new.scheduler src words m.flow_passed m.local_passed f l d k.timed p c.pass_flow-self.ensures.more c.pass_flow-self.ensures.within in
    let more = nat_lt f (length m.flow.now) in
    let s = stayed more c.step.new.self src words f l d.opened p.waits d.closed
    (subst (λ o. Gives c.step.new.self (stepped a more (words_of o))) is (c.step.ensures.gives a p.gives may_be))
    (c.step.ensures.none a p.gives may_be is)
    may_be
    (ltb-true f (length m.flow.now))
    (ltb-false f (length m.flow.now))
    k.timed d.low c.pass_flow-self.ensures.within c.pass_local-self.ensures.within
    (subst (λ (n : ℕ). FlowLater m.flow.now f (n + 1)) at (c.pass_flow-self.ensures.later k.timed.flow (subst (FlowLater m.flow.now m.flow_passed) (sym at) d.flow_later)))
    (subst (λ (n : ℕ). LocalLater m.local.now l (n + 1)) at (c.pass_local-self.ensures.later k.timed.local (subst (LocalLater m.local.now m.local_passed) (sym at) d.local_later)))
    d.words_low in (
      record { rows = k.rows; drives = s.0; timed = k.timed },
      subst (λ (q : Source). IsBurstStream q words) k.rows (all_given c.step.new.self src words f l s.0 s.1),
    )
