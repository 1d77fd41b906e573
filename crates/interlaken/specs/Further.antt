-- What is said of runs of `resend`, `oobwrite`, `oobread` and `duplex`.
use Rattle.std.specs.Prelude.{◌≡◌, ℕ, List, Option, Some, Ok}
use Rattle.lk_outside.specs.Files.{Files}
use Rattle.run_shell.specs.declared.status.Status.{Status}
use Rattle.run_shell.specs.Outcome.{IsAnswer}
use Rattle.oob_commands.specs.WriteSamples.{LocalReading, local_reading_in}
use Rattle.oob_commands.specs.ReadRows.{SamplesReading, samples_reading_in}
use Rattle.oob_commands.specs.ReadBack.{IsReadBack, IsAcceptedFlow}
use Rattle.resend_commands.specs.Plan.{ResendReading}
use Rattle.resend_commands.specs.Reading.{resend_in}
use Rattle.resend_commands.specs.Accepted.{IsResentInOrder}
use Rattle.duplex_commands.specs.Reading.{DuplexReading, duplex_in}
use Rattle.duplex_commands.specs.HeldBack.{IsHeldBack}
use Rattle.interlaken.specs.declared.request.Request.TheVariants.{Duplex, OobWrite, OobRead, Resend}
use Rattle.interlaken.specs.Request.{request_of}
use Rattle.interlaken.specs.Answered.{Answers}

-- Whatever the events lose, repeat and delay, the words file holds the words of the first pieces of the plan's stream, each
-- accepted once, in order; what is acknowledged was accepted, and what was accepted was sent.
abbrev pub ResendsInOrder : List (List ℕ) → Files → Status → Option Files → Option Files → Type 0
ResendsInOrder words files status old new = (name : List ℕ) (i : ResendReading) →
    request_of words ≡ Some (Resend name) → resend_in files name ≡ Ok i → IsAnswer status → Answers (IsResentInOrder i) words files status old new

-- The samples, read again, show the states of each frame: after its rows each channel that has a calendar entry is on exactly
-- where it was on in that frame.
abbrev pub WritesStatus : List (List ℕ) → Files → Status → Option Files → Option Files → Type 0
WritesStatus words files status old new = (name : List ℕ) (i : LocalReading) →
    request_of words ≡ Some (OobWrite name) → local_reading_in files name ≡ Ok i → IsAnswer status → Answers (IsReadBack i) words files status old new

-- The flow file is accepted as the rows that the samples give.
abbrev pub ReadsStatus : List (List ℕ) → Files → Status → Option Files → Option Files → Type 0
ReadsStatus words files status old new = (name : List ℕ) (i : SamplesReading) →
    request_of words ≡ Some (OobRead name) → samples_reading_in files name ≡ Ok i → IsAnswer status → Answers (IsAcceptedFlow i) words files status old new

-- The capture of each listed channel at each end has exactly the packets of the other end whose end word arrived, in order; and no
-- queue of a channel that has a calendar entry was ever above the bound.
abbrev pub HoldsBack : List (List ℕ) → Files → Status → Option Files → Option Files → Type 0
HoldsBack words files status old new = (name : List ℕ) (i : DuplexReading) →
    request_of words ≡ Some (Duplex name) → duplex_in files name ≡ Ok i → IsAnswer status → Answers (IsHeldBack i) words files status old new
