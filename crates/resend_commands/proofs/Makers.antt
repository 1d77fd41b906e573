-- What the maker gave begins the words file, and at the end is it.
use Rattle.std.proofs.Common.{◌≡◌, ℕ, ◌+◌, ◌≤◌, ◌^◌, false, List, [], ◌∷◌, ◌++◌, length, replicate, refl, sym, ap, subst, ◌∙◌, arith}
use Rattle.resend_events.specs.Events.{count_of}
use Rattle.resend_events.specs.declared.event.Event.{Event}
use Rattle.retransmit.specs.Carried.{Carried}
use Rattle.retransmit.proofs.Runs.{list_more}
use Rattle.run_shell.specs.declared.finished.Finished.{Finished}
use Rattle.run_shell.specs.Names.{words_name}
use Rattle.run_shell.specs.Outcome.{Outcome}
use Rattle.run_shell.specs.Writing.{Begin, delivered}
use Rattle.run_shell.proofs.MakersWork.{one_delivered}
use Rattle.resend_commands.specs.Carried.{IsBegun, accepted_file, events_done, line_of}
use Rattle.resend_commands.specs.Left.{IsAmong, events_left}
use Rattle.resend_commands.specs.Making.{GaveWords, outcome_at}
use Rattle.resend_commands.specs.Plan.{ResendReading, IsPlanResent}
use Rattle.resend_commands.specs.declared.place.Place.{Place}
use Rattle.resend_commands.proofs.Accepting.{file_begins}
use Rattle.resend_commands.proofs.Passing.{events_count, left_after, none_left}
use Rattle.resend_commands.proofs.PlanResent.{begun_blank, begun_few, begun_resent, one_outcome}

-- nothing was done yet
pub fresh_gave : (i : ResendReading) (start : Carried) → IsBegun i.reading i.window start → count_of i.rows ≤ 2 ^ 60 → GaveWords i start (record { row = 0; done = 0 }) ([] ∷ [])
fresh_gave i start begun few =
    let none = begun_few i.reading i.window start begun in
    let count = events_count i.rows in
    record {
      among = record { row = omega arith; done = omega arith };
      few = omega (arith, few, none, count);
      leads = begun_resent i start begun;
      is = ap (λ (f : List ℕ). f ∷ []) (sym (begun_blank i.reading i.window start begun));
    }

module _ (i : ResendReading) (c : Carried) (place : Place) (given : List (List ℕ)) (g : GaveWords i c place given) where
  abbrev prefix : List ℕ
  prefix = i.reading.plan.out

  abbrev left : List Event
  left = events_left i.rows place

  pub gave_begins : (o : Outcome) → IsPlanResent i o → Begin (words_name prefix ∷ []) given o.files
  gave_begins o h =
      subst (λ (gs : List (List ℕ)). Begin (words_name prefix ∷ []) gs o.files) (sym g.is)
      (accepted_file (events_done c left) ∷ [], ap (λ (p : Outcome). p.files) (one_outcome i o (outcome_at prefix (events_done c left)) h g.leads), file_begins c left)

  -- an event was done n times more
  pub run_gave : (next : Carried) (new : Place) (n : ℕ) (event : Event) (now : List (List ℕ)) → next ≡ events_done c (replicate n event) → next.state.sends ≤ c.state.sends + n → left ≡ replicate n event ++ events_left i.rows new → IsAmong i.rows new → now ≡ accepted_file next ∷ []
      → GaveWords i next new now
  run_gave next new n event now done sends passed among is =
      let few = g.few in
      let long = left_after i.rows place new n event passed in
      let others : List Event = events_left i.rows new in
      let later : events_done c left ≡ events_done next others = ap (events_done c) passed ∙ sym (list_more c next (events_done next others) (replicate n event) done others refl) in
      record {
        among = among;
        few = omega (arith, few, sends, long);
        leads = subst (λ (d : Carried). IsPlanResent i (outcome_at prefix d)) later g.leads;
        is = is;
      }

  -- all events were done
  pub all_done : (f : Finished) → place.row ≡ length i.rows → f.held ≡ false → f.text.items ≡ line_of c → IsPlanResent i (delivered (words_name prefix ∷ []) given f)
  all_done f end free text =
      subst (λ (o : Outcome). IsPlanResent i o) (sym (one_delivered (words_name prefix) given (accepted_file c) (line_of c) f g.is free text))
      (subst (λ (es : List Event). IsPlanResent i (outcome_at prefix (events_done c es))) (none_left i.rows place end) g.leads)
