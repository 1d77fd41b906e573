-- A run of `generate` delivers.
use Rattle.std.proofs.Common.{◌≡◌, refl, sym, subst, ℕ, List, Option, Some, IfSome}
use Rattle.lk_base.specs.declared.word.Word.{Word}
use Rattle.lk_outside.specs.Files.{Files}
use Rattle.run_shell.specs.declared.status.Status.{Status}
use Rattle.run_shell.specs.Outcome.{Outcome, IsAnswer}
use Rattle.run_shell.specs.Run.{Found, Settles}
use Rattle.link_laws.specs.CleanLaw.{HaveOwnLocks as LawOnOwnLocks}
use Rattle.link_commands.specs.Linked.{IsLinked, IsLinkedBy}
use Rattle.link_commands.proofs.Delivers.{clean_counts, counts_blocks, lists_spans, never_when_off}
use Rattle.case_commands.specs.Asked.{Asked}
use Rattle.case_commands.specs.Generate.{behind_case, reading_for}
use Rattle.case_commands.proofs.CaseDelivers.{case_delivers, case_sends_all, case_spans_narrow, case_tells_missing, clean_case_delivers}
use Rattle.interlaken.specs.declared.request.Request.{Request}
use Rattle.interlaken.specs.declared.request.Request.TheVariants.{Generate}
use Rattle.interlaken.specs.Request.{request_of}
use Rattle.interlaken.specs.Meanings.{meaning_by as meaning_for}
use Rattle.interlaken.specs.Run.{OutcomeOf}
use Rattle.interlaken.specs.CaseDelivery.{CaseMissingAreTold, CasesCountBlocks, CasesCountNone, CasesDeliver, CasesDeliverClean, CasesListSpans, CasesLock, CasesSendAll, CaseSpansAreNarrow, CasesWhenOn, OfCases}
use Rattle.interlaken.proofs.CleanLocks.{clean_locks}
use Rattle.interlaken.proofs.Told.{asked_for, is_answered, told}

module _ (words : List (List ℕ)) (status : Status) (u : Files) (x y : Option Files) (found : IsAnswer status → Found (OutcomeOf words u) status) (settled : (o : Outcome) → OutcomeOf words u o → Settles o status x y) where
  -- what the words ask for comes to whatever the case comes to
  comes_of : (a : Asked) (linked : Outcome) → request_of words ≡ Some (Generate a) → IsLinked (reading_for a) linked → OutcomeOf words u (behind_case a linked)
  comes_of a linked asks made = subst (λ (r : Option Request). (meaning_for r).IsOutcome u (behind_case a linked)) (sym asks) (linked, made, refl)

  module _ (Says : (a : Asked) → (stream : List Word) → (o : Outcome) → IsLinkedBy (reading_for a) stream o → Type 0) where
    -- what holds of whatever comes of a case
    of_cases : ((a : Asked) (stream : List Word) (o : Outcome) (h : IsLinkedBy (reading_for a) stream o) → Says a stream o h) → OfCases Says words u status x y
    of_cases says a asks answer =
        let (o, of, s) = found answer in
        let (linked, made, behind) = asked_for words (Generate a) u o asks of in
        record {
          some = (linked, made);
          each = λ p stream h. (is_answered (behind_case a p) status x y answer (settled (behind_case a p) (comes_of a p asks (stream, h))), says a stream p h);
        }

  delivers_at : CasesDeliver words u status x y
  delivers_at = of_cases _ (λ a stream o h passing. case_delivers a stream o h passing)

  clean_at : CasesDeliverClean words u status x y
  clean_at = of_cases _ (λ a stream o h whole within. clean_case_delivers a stream o h whole within)

  spans_at : CasesListSpans words u status x y
  spans_at = of_cases _ (λ a stream o h. lists_spans (reading_for a) stream o h)

  blocks_at : CasesCountBlocks words u status x y
  blocks_at = of_cases _ (λ a stream o h. counts_blocks (reading_for a) stream o h)

  none_at : CasesCountNone words u status x y
  none_at = of_cases _ (λ a stream o h whole within. clean_counts (reading_for a) stream o h whole within)

  lock_at : LawOnOwnLocks → CasesLock words u status x y
  lock_at law = of_cases _ (λ a stream o h whole within. clean_locks law (reading_for a) stream o h whole within)

  sends_at : CasesSendAll words u status x y
  sends_at = of_cases _ (λ a stream o h. case_sends_all a stream o h)

  narrow_at : CaseSpansAreNarrow words u status x y
  narrow_at = of_cases _ (λ a stream o h whole none kept. case_spans_narrow a stream o h whole none kept)

  missing_at : CaseMissingAreTold words u status x y
  missing_at = of_cases _ (λ a stream o h. case_tells_missing a stream o h)

  when_on_at : CasesWhenOn words u status x y
  when_on_at = of_cases _ (λ a stream o h. never_when_off (reading_for a) stream h.over)

module _ (words : List (List ℕ)) (status : Status) (x y : Option Files) (found : IfSome x (λ files. IsAnswer status → Found (OutcomeOf words files) status)) (settled : IfSome x (λ files. (o : Outcome) → OutcomeOf words files o → Settles o status x y)) where
  pub run_cases_deliver : IfSome x (λ files. CasesDeliver words files status x y)
  run_cases_deliver = told (λ u z. CasesDeliver words u status z y) words status x y (λ u f s. delivers_at words status u x y f s) found settled

  pub run_cases_deliver_clean : IfSome x (λ files. CasesDeliverClean words files status x y)
  run_cases_deliver_clean = told (λ u z. CasesDeliverClean words u status z y) words status x y (λ u f s. clean_at words status u x y f s) found settled

  pub run_cases_list_spans : IfSome x (λ files. CasesListSpans words files status x y)
  run_cases_list_spans = told (λ u z. CasesListSpans words u status z y) words status x y (λ u f s. spans_at words status u x y f s) found settled

  pub run_cases_count_blocks : IfSome x (λ files. CasesCountBlocks words files status x y)
  run_cases_count_blocks = told (λ u z. CasesCountBlocks words u status z y) words status x y (λ u f s. blocks_at words status u x y f s) found settled

  pub run_cases_count_none : IfSome x (λ files. CasesCountNone words files status x y)
  run_cases_count_none = told (λ u z. CasesCountNone words u status z y) words status x y (λ u f s. none_at words status u x y f s) found settled

  pub run_cases_lock : LawOnOwnLocks → IfSome x (λ files. CasesLock words files status x y)
  run_cases_lock law = told (λ u z. CasesLock words u status z y) words status x y (λ u f s. lock_at words status u x y f s law) found settled

  pub run_cases_send_all : IfSome x (λ files. CasesSendAll words files status x y)
  run_cases_send_all = told (λ u z. CasesSendAll words u status z y) words status x y (λ u f s. sends_at words status u x y f s) found settled

  pub run_cases_narrow_spans : IfSome x (λ files. CaseSpansAreNarrow words files status x y)
  run_cases_narrow_spans = told (λ u z. CaseSpansAreNarrow words u status z y) words status x y (λ u f s. narrow_at words status u x y f s) found settled

  pub run_cases_tell_missing : IfSome x (λ files. CaseMissingAreTold words files status x y)
  run_cases_tell_missing = told (λ u z. CaseMissingAreTold words u status z y) words status x y (λ u f s. missing_at words status u x y f s) found settled

  pub run_cases_when_on : IfSome x (λ files. CasesWhenOn words files status x y)
  run_cases_when_on = told (λ u z. CasesWhenOn words u status z y) words status x y (λ u f s. when_on_at words status u x y f s) found settled
