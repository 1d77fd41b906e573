-- What `resend FILE` means.
use Rattle.std.specs.Prelude.{◌≡◌, ℕ, List}
use Rattle.run_shell.specs.Meaning.{Meaning}
use Rattle.run_shell.specs.Work.{Work, meaning_by}
use Rattle.run_shell.specs.Names.{words_name}
use Rattle.resend_commands.specs.Plan.{ResendReading, IsPlanResent}
use Rattle.resend_commands.specs.Reading.{resend_in, IsResendRead}

-- it is never held
abbrev pub resend_work : List ℕ → Work
resend_work name = record {
  Inputs = ResendReading;
  inputs_in = λ files. resend_in files name;
  IsMade = λ i o. IsPlanResent i o;
  IsHeld = λ i. ⊥;
  Creates = λ i q. q ≡ words_name i.reading.plan.out;
  Names = λ files q. IsResendRead files name q;
  IsReadLate = λ files q. ⊥;
}

abbrev pub resend_meaning : List ℕ → Meaning
resend_meaning name = meaning_by (resend_work name)
