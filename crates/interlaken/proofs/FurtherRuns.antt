-- What is said of runs of `resend`, `oobwrite`, `oobread` and `duplex` holds.
use Rattle.std.proofs.Common.{◌≡◌, ℕ, List, Option, IfSome}
use Rattle.lk_outside.specs.Files.{Files}
use Rattle.run_shell.specs.declared.status.Status.{Status}
use Rattle.run_shell.specs.Outcome.{Outcome, IsAnswer}
use Rattle.run_shell.specs.Run.{Found, Settles}
use Rattle.run_shell.proofs.Works.{made_of}
use Rattle.oob_commands.specs.WriteSamples.{oob_write_work}
use Rattle.oob_commands.specs.ReadRows.{oob_read_work}
use Rattle.oob_commands.specs.ReadBack.{IsReadBack, IsAcceptedFlow}
use Rattle.oob_commands.proofs.StatusBack.{written_back, flow_is_accepted}
use Rattle.resend_commands.specs.Command.{resend_work}
use Rattle.resend_commands.specs.Accepted.{IsResentInOrder}
use Rattle.resend_commands.proofs.InOrder.{resent_in_order}
use Rattle.duplex_commands.specs.Run.{duplex_work}
use Rattle.duplex_commands.specs.HeldBack.{IsHeldBack}
use Rattle.duplex_commands.proofs.HeldBack.{held_back}
use Rattle.interlaken.specs.declared.request.Request.TheVariants.{Duplex, OobWrite, OobRead, Resend}
use Rattle.interlaken.specs.Run.{OutcomeOf}
use Rattle.interlaken.specs.Answered.{Answers}
use Rattle.interlaken.specs.Further.{ResendsInOrder, WritesStatus, ReadsStatus, HoldsBack}
use Rattle.interlaken.proofs.Told.{asked_for, told}

-- an outcome that was answered, and what is said of it
answers : (Says : Outcome → Type 0) (words : List (List ℕ)) (u : Files) (status : Status) (x y : Option Files) → (IsAnswer status → Found (OutcomeOf words u) status)
    → ((o : Outcome) → OutcomeOf words u o → Settles o status x y) → IsAnswer status → ((o : Outcome) → OutcomeOf words u o → Says o) → Answers Says words u status x y
answers Says words u status x y found settled answer says =
    let (o, of, s) = found answer in
    record { outcome = o; is_outcome = of; status = s; stands = (settled o of).done answer; says = says o of }

module _ (words : List (List ℕ)) (status : Status) (u : Files) (x y : Option Files) (found : IsAnswer status → Found (OutcomeOf words u) status) (settled : (o : Outcome) → OutcomeOf words u o → Settles o status x y) where
  resends_at : ResendsInOrder words u status x y
  resends_at name i asks is answer =
      answers (IsResentInOrder i) words u status x y found settled answer (λ o of. resent_in_order u name i o is (made_of (resend_work name) u i o is (asked_for words (Resend name) u o asks of)))

  writes_at : WritesStatus words u status x y
  writes_at name i asks is answer =
      answers (IsReadBack i) words u status x y found settled answer (λ o of. written_back u name i o is (made_of (oob_write_work name) u i o is (asked_for words (OobWrite name) u o asks of)))

  reads_at : ReadsStatus words u status x y
  reads_at name i asks is answer =
      answers (IsAcceptedFlow i) words u status x y found settled answer (λ o of. flow_is_accepted u name i o is (made_of (oob_read_work name) u i o is (asked_for words (OobRead name) u o asks of)))

  holds_at : HoldsBack words u status x y
  holds_at name i asks is answer =
      answers (IsHeldBack i) words u status x y found settled answer (λ o of. held_back u name i o is (made_of (duplex_work name) u i o is (asked_for words (Duplex name) u o asks of)))

module _ (words : List (List ℕ)) (status : Status) (x y : Option Files) (found : IfSome x (λ files. IsAnswer status → Found (OutcomeOf words files) status)) (settled : IfSome x (λ files. (o : Outcome) → OutcomeOf words files o → Settles o status x y)) where
  pub run_resends : IfSome x (λ files. ResendsInOrder words files status x y)
  run_resends = told (λ u z. ResendsInOrder words u status z y) words status x y (λ u f s. resends_at words status u x y f s) found settled

  pub run_writes_status : IfSome x (λ files. WritesStatus words files status x y)
  run_writes_status = told (λ u z. WritesStatus words u status z y) words status x y (λ u f s. writes_at words status u x y f s) found settled

  pub run_reads_status : IfSome x (λ files. ReadsStatus words files status x y)
  run_reads_status = told (λ u z. ReadsStatus words u status z y) words status x y (λ u f s. reads_at words status u x y f s) found settled

  pub run_holds_back : IfSome x (λ files. HoldsBack words files status x y)
  run_holds_back = told (λ u z. HoldsBack words u status z y) words status x y (λ u f s. holds_at words status u x y f s) found settled
