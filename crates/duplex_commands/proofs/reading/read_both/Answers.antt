use Rattle.std.proofs.Common.{arith, ap, sym, subst, ◌∙◌, refl, map, List, Ok, Err}
use Rattle.std.proofs.lemmas.Result.{err_from_is_err_and}
use Rattle.link_plan.specs.Views.{plan_value, listed_of}
use Rattle.duplex_plan.specs.Views.{back_value, duplex_value}
use Rattle.plan_inputs.specs.Values.{packet_values}
use Rattle.duplex_commands.specs.Reading.{backs, unless_unlisted}
use Rattle.link_plan.specs.Listing.{numbers_of}
use Rattle.link_plan.specs.declared.channel.ChannelRow.{ChannelRow}
use Rattle.plan_inputs.specs.Values.{AreOn}
use Rattle.duplex_commands.specs.Reading.{first_unlisted}
use Rattle.duplex_commands.proofs.Backs.{back_on}
use Rattle.duplex_commands.proofs.ReadParts.{clashes, no_a, no_b, all_had, by_rows, of_plan_a, of_most, of_back, of_room}
use Rattle.duplex_commands.proofs.reading.read_both.Goals as goal

pub returns-in-Some-clause-reads : goal.returns-in-Some-clause-reads
returns-in-Some-clause-reads g c =
    clashes (duplex_value c.args.settings.now) (plan_value c.args.plan.now) c.in-Some.row _
    (by_rows c.args.plan.now c.args.settings.now _ _ c.unlisted_row.result c.deref.ensures.value c.deref-2.ensures.value c.unlisted_row.ensures ∙ ap (unless_unlisted (duplex_value c.args.settings.now).back) c.in-Some.is)

pub returns-in_err-a-clause-reads : goal.returns-in_err-a-clause-reads
returns-in_err-a-clause-reads g c =
    let r = c.from_residual-in_err-a in
    let p = err_from_is_err_and r.result r.ensures.1 in
    rw (p.1, p.2) (no_a (duplex_value c.args.settings.now) (plan_value c.args.plan.now) _
    (by_rows c.args.plan.now c.args.settings.now _ _ c.unlisted_row.result c.deref.ensures.value c.deref-2.ensures.value c.unlisted_row.ensures ∙ ap (unless_unlisted (duplex_value c.args.settings.now).back) c.in_default.is)
    c.in_err-a.field-0.0 _ (of_plan_a c.args.plan.now _ _ (Err c.in_err-a.field-0.0) _ c.deref-4.ensures.value c.max_packet-most.ensures.value c.in_err-a.ensures.reads))

pub returns-in_err-b-clause-reads : goal.returns-in_err-b-clause-reads
returns-in_err-b-clause-reads g c =
    let r = c.from_residual-in_err-b in
    let p = err_from_is_err_and r.result r.ensures.1 in
    let rows = ap (map listed_of) c.deref-5.ensures.value ∙ c.in_ok-back.ensures ∙ ap (λ bs. backs (map back_value bs)) c.deref-3.ensures.value in
    rw (p.1, p.2) (no_b (duplex_value c.args.settings.now) (plan_value c.args.plan.now) (backs (duplex_value c.args.settings.now).back)
    (by_rows c.args.plan.now c.args.settings.now _ _ c.unlisted_row.result c.deref.ensures.value c.deref-2.ensures.value c.unlisted_row.ensures ∙ ap (unless_unlisted (duplex_value c.args.settings.now).back) c.in_default.is)
    _ _ c.read_captures_within.ensures.unchanged (packet_values c.in_ok-a.a.packets.items)
    (of_plan_a c.args.plan.now _ _ (Ok c.in_ok-a.a) _ c.deref-4.ensures.value c.max_packet-most.ensures.value c.in_ok-a.ensures.reads)
    c.in_ok-a.a.room (of_room c.args.plan.now _ c.in_ok-a.a.room _ _ c.deref-4.ensures.value refl c.in_ok-a.ensures.room)
    c.in_err-b.field-0.0 (of_most c.args.plan.now _ c.in_ok-a.a.room (backs (duplex_value c.args.settings.now).back) (Err c.in_err-b.field-0.0) _ c.max_packet-most.ensures.value
    (of_back _ (backs (duplex_value c.args.settings.now).back) _ c.in_ok-a.a.room (Err c.in_err-b.field-0.0) _ rows c.in_err-b.ensures.reads)))

pub returns-clause-reads : goal.returns-clause-reads
returns-clause-reads g c =
    let rows = ap (map listed_of) c.deref-5.ensures.value ∙ c.in_ok-back.ensures ∙ ap (λ bs. backs (map back_value bs)) c.deref-3.ensures.value in
    all_had (duplex_value c.args.settings.now) (plan_value c.args.plan.now) (backs (duplex_value c.args.settings.now).back)
    (by_rows c.args.plan.now c.args.settings.now _ _ c.unlisted_row.result c.deref.ensures.value c.deref-2.ensures.value c.unlisted_row.ensures ∙ ap (unless_unlisted (duplex_value c.args.settings.now).back) c.in_default.is)
    _ _ c.read_captures_within.ensures.unchanged (packet_values c.in_ok-a.a.packets.items)
    (of_plan_a c.args.plan.now _ _ (Ok c.in_ok-a.a) _ c.deref-4.ensures.value c.max_packet-most.ensures.value c.in_ok-a.ensures.reads)
    c.in_ok-a.a.room (of_room c.args.plan.now _ c.in_ok-a.a.room _ _ c.deref-4.ensures.value refl c.in_ok-a.ensures.room)
    (record { settings = c.args.settings.now; plan = c.args.plan.now; packets_of_a = c.in_ok-a.a.packets; packets_of_b = c.in_ok-b.b.packets }) c.in_ok-b.b refl (of_most c.args.plan.now _ c.in_ok-a.a.room (backs (duplex_value c.args.settings.now).back) (Ok c.in_ok-b.b) _ c.max_packet-most.ensures.value
    (of_back _ (backs (duplex_value c.args.settings.now).back) _ c.in_ok-a.a.room (Ok c.in_ok-b.b) _ rows c.in_ok-b.ensures.reads))

pub returns-clause-fit : goal.returns-clause-fit
returns-clause-fit g c =
    let plan = c.args.plan.now in
    let back = map back_value c.args.settings.now.back.items in
    record {
      on_a = subst (λ (rows : List ChannelRow). AreOn (numbers_of rows) (packet_values c.in_ok-a.a.packets.items)) c.deref-4.ensures.value c.in_ok-a.ensures.on;
      on_b = back_on (numbers_of plan.channels.items) c.in_ok-back.back.items back (packet_values c.in_ok-b.b.packets.items) (c.in_ok-back.ensures ∙ ap (λ bs. backs (map back_value bs)) c.deref-3.ensures.value)
          (ap (λ (rows : List ChannelRow). first_unlisted (numbers_of rows) back) (sym c.deref.ensures.value) ∙ ap (λ bs. first_unlisted (numbers_of c.deref.result.now) (map back_value bs)) (sym c.deref-2.ensures.value) ∙ sym c.unlisted_row.ensures ∙ c.in_default.is)
          (subst (λ (rows : List ChannelRow). AreOn (numbers_of rows) (packet_values c.in_ok-b.b.packets.items)) c.deref-5.ensures.value c.in_ok-b.ensures.on);
      size_a = c.in_ok-a.ensures.size;
      size_b = (let size = c.in_ok-b.ensures.size in let less = c.in_ok-a.ensures.less in omega (arith, size, less));
    }
