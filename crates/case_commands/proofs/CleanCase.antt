-- The premises of the delivery theorem of generated cases are met.
use Rattle.std.proofs.Common.{◌≡◌, ℕ, ◌≤◌, Contains, refl, sym, ap, ◌∙◌, subst, arith, lit≤, List, [], ◌∷◌, Some}
use Rattle.lk_base.specs.declared.word.Word.{Word}
use Rattle.std.proofs.lemmas.List.Elements.{All-from_recursion}
use Rattle.lane_model.specs.Damage.{IsWithinDepth}
use Rattle.link_cases.specs.Draws.{next_state, many}
use Rattle.link_cases.specs.Case.{Case, numbers_drawn, case_of}
use Rattle.link_cases.specs.Accepted.{schedule_of_case, settings_of}
use Rattle.link_cases.proofs.Drawn as drawn
use Rattle.pcap_files.specs.Written.{capture_bytes}
use Rattle.run_shell.specs.Outcome.{Outcome, content_of}
use Rattle.receipts.specs.Received.{bytes_of}
use Rattle.link_commands.specs.Delivery.{AllUndamaged, DeliversAll, captured_on, sent_on}
use Rattle.link_commands.specs.Linked.{IsLinkedBy}
use Rattle.link_commands.proofs.CleanLanes.{undamaged_by}
use Rattle.link_commands.proofs.CleanRuns.{clean_kept}
use Rattle.link_commands.proofs.Delivers.{clean_counts}
use Rattle.link_commands.proofs.NoneCounted.{within_by}
use Rattle.case_commands.specs.Asked.{asked}
use Rattle.case_commands.specs.PremisesMet.{CleanCaseMeets, CleanCasesMeet, clean_case, clean_number, clean_reading, four_bytes}
use Rattle.case_commands.specs.Reading.{case_reading}
use Rattle.case_commands.proofs.CaseDelivers.{case_sends_all, clean_case_delivers}
use Rattle.case_commands.proofs.CaseStream.{case_listed, some_case_linked}

is_case : case_of clean_number ≡ clean_case
unfolding next_state many numbers_drawn case_of
is_case = refl

module _ (prefix : List ℕ) where
  whole : (stream : List Word) → AllUndamaged (clean_reading prefix).reading.plan.settings (clean_reading prefix).schedule stream
  whole stream =
      subst (λ (c : Case). AllUndamaged (settings_of c.numbers) (schedule_of_case c) stream) (sym is_case)
      (undamaged_by (settings_of clean_case.numbers) clean_case.skews stream)

  near : IsWithinDepth (clean_reading prefix).reading.plan.settings (clean_reading prefix).schedule.skews
  near =
      let skews : List ℕ = 226 ∷ 355 ∷ 203 ∷ 154 ∷ [] in
      subst (λ (c : Case). IsWithinDepth (settings_of c.numbers) c.skews) (sym is_case)
      (within_by (settings_of clean_case.numbers) skews 469 0
      (All-from_recursion (λ skew. skew ≤ 469) skews (lit≤ tt, (lit≤ tt, (lit≤ tt, (lit≤ tt, tt)))))
      (All-from_recursion (λ skew. 0 ≤ skew) skews (lit≤ tt, (lit≤ tt, (lit≤ tt, (lit≤ tt, tt)))))
      (lit≤ tt))

  module _ (stream : List Word) (o : Outcome) (h : IsLinkedBy (clean_reading prefix) stream o) where
    all : DeliversAll (clean_reading prefix) stream h.over (content_of o.files)
    all = clean_case_delivers (asked clean_number prefix) stream o h (whole stream) near

    sent : bytes_of (sent_on (clean_reading prefix) stream h.over 0) ≡ four_bytes ∷ []
    sent = case_sends_all (asked clean_number prefix) stream o h 0 ∙ ap (λ (c : Case). captured_on (case_reading prefix c) 0) is_case

    listed : Contains h.over.source.channels 0
    listed =
        let some = (drawn.case-fits clean_number).channels.some in
        subst (λ (cs : List ℕ). Contains cs 0) (sym h.over.is_source.channels) (case_listed prefix clean_number 0 (omega (arith, some)))

    meets : CleanCaseMeets prefix
    meets = record {
      of_number = is_case;
      stream = stream;
      linked = o;
      is_linked = h;
      undamaged = whole stream;
      within = near;
      none = clean_counts (clean_reading prefix) stream o h (whole stream) near;
      kept = clean_kept (clean_reading prefix) stream o h (whole stream) near;
      sent = sent;
      arrives = all.captures 0 listed ∙ ap (λ (packets : List (List ℕ)). Some (capture_bytes 1 packets)) sent;
    }

pub clean_cases_meet : CleanCasesMeet
clean_cases_meet prefix = let (o, (stream, h)) = some_case_linked clean_number prefix in meets prefix stream o h
