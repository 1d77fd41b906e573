-- This many steps, with no row between them.
use Rattle.std.proofs.Common.{◌≡◌, ◌∙◌, ◌+◌, ◌≤◌, ℕ, List, length, map, nat_lt, sym, subst, arith}
use Rattle.std.proofs.lemmas.Bool.{ltb-true, ltb-false}
use Rattle.std.proofs.lemmas.List.{length-map}
use Rattle.lk_base.specs.declared.word.Word.{Word}
use Rattle.lk_base.specs.declared.word.Word.TheVariants.{Data}
use Rattle.stream_model.specs.declared.rows.FlowRow.{FlowRow}
use Rattle.stream_model.specs.declared.rows.LocalRow.{LocalRow}
use Rattle.burst_scheduler.specs.Asked.{Asked, bound, stepped_by}
use Rattle.burst_scheduler.specs.Gives.{last_data}
use Rattle.burst_scheduler.proofs.Calls.{has_words}
use Rattle.burst_scheduler.proofs.DataRuns.{many_last}
use Rattle.tx_words.specs.Driving.{FlowLater, LocalLater, driven, having_rows}
use Rattle.tx_words.proofs.Passing.{later_before}
use Rattle.tx_words.proofs.Steps.{few_words, given_run, may_now}
use Rattle.tx_words.proofs.word_maker.WordMaker.next_data.Goals as goal

pub next_data-requires : goal.next_data-requires
next_data-requires c =
    let (source, words, k) = c.requires in
    let m = c.args.self.now in
    let d = k.drives in
    let src = having_rows source m.flow.now m.local.now in
    record { gives = (driven src words m.flow_passed m.local_passed d.opened d.waits d.closed, d.gives, few_words m.scheduler m.scheduler src words m.flow_passed m.local_passed m.flow_passed m.local_passed d k.timed) }

pub slot-slot-requires : goal.slot-slot-requires
slot-slot-requires c = let (source, words, k) = c.requires in record { words = (_, has_words k.drives.gives) }

pub returns-clause-given : goal.returns-clause-given
returns-clause-given c source words k =
    let m = c.args.self.now in
    let d = k.drives in
    let f = m.flow_passed in
    let l = m.local_passed in
    let src = having_rows source m.flow.now m.local.now in
    let a : Asked = driven src words f l d.opened d.waits d.closed in
    let more = nat_lt f (length m.flow.now) in
    let at = c.slot-slot.ensures.count _ (has_words d.gives) in
    let n = c.next_data.result in
    let vs : List Word = map Data (last_data c.next_data.new.self n) in
    let within = c.next_data.ensures.within in
    let room = c.min-room.ensures in
    let least = c.min.ensures in
    let long : length vs ≡ n = length-map (last_data c.next_data.new.self n) Data ∙ many_last c.next_data.new.self n c.next_data.ensures.lent in
    let may_be = may_now m.scheduler src words f l d k.timed in
    let flow : FlowLater m.flow.now f (length words + length vs) =
    later_before (λ (row : FlowRow). row.slot) m.flow.now f (length words + length vs) (c.slot-slot.result + c.before_flow-flow.result) (omega (arith, at, long, least, room, within))
    (c.before_flow-flow.ensures.later k.timed.flow (subst (FlowLater m.flow.now f) (sym at) d.flow_later)) in
    let local : LocalLater m.local.now l (length words + length vs) =
    later_before (λ (row : LocalRow). row.slot) m.local.now l (length words + length vs) (c.slot-slot.result + c.before_local-local.result) (omega (arith, at, long, least, room, within))
    (c.before_local-local.ensures.later k.timed.local (subst (LocalLater m.local.now l) (sym at) d.local_later)) in
    let below : 1 ≤ length vs → length words + length vs ≤ bound (stepped_by a more vs) = λ some. subst (λ (n : ℕ). length words + n ≤ bound (stepped_by a more vs)) (sym long) (c.next_data.ensures.below a more d.gives may_be (omega (arith, some, long))) in
    record {
      rows = k.rows;
      timed = k.timed;
      drives = given_run more m.scheduler c.next_data.new.self src words vs f l d (c.next_data.ensures.gives a more d.gives may_be) may_be (ltb-true f (length m.flow.now)) (ltb-false f (length m.flow.now)) below k.timed flow local;
    }
