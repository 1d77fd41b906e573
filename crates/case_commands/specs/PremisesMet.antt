-- The premises of the delivery theorem of generated cases are met, by the case of a number of which no bit is inverted.
use Rattle.std.specs.Prelude.{◌≡◌, ℕ, List, [], ◌∷◌, Some}
use Rattle.lk_base.specs.declared.word.Word.{Word}
use Rattle.lane_model.specs.Damage.{IsWithinDepth}
use Rattle.link_laws.specs.Accidents.{no_accidents}
use Rattle.link_cases.specs.Case.{Case, case_of}
use Rattle.pcap_files.specs.Written.{capture_bytes}
use Rattle.run_shell.specs.Outcome.{Outcome, content_of}
use Rattle.receipts.specs.Received.{bytes_of}
use Rattle.pcap_files.specs.Names.{capture_name}
use Rattle.link_commands.specs.Inputs.{LinkReading}
use Rattle.link_commands.specs.Linked.{IsLinkedBy}
use Rattle.link_commands.specs.Delivery.{AllUndamaged, LosesNoLock, sent_on}
use Rattle.case_commands.specs.Asked.{asked}
use Rattle.case_commands.specs.Generate.{reading_for}

abbrev pub clean_number : ℕ
clean_number = 278837

abbrev pub four_bytes : List ℕ
four_bytes = 74 ∷ 159 ∷ 112 ∷ 168 ∷ []

-- one packet of four bytes on one channel, over four lanes
abbrev pub clean_case : Case
clean_case = record {
  numbers = record { lanes = 4; metaframe = 119; skips = 2; burst_max = 64; burst_short = 64 };
  channels = (four_bytes ∷ []) ∷ [];
  skews = 226 ∷ 355 ∷ 203 ∷ 154 ∷ [];
  flips = [];
}

abbrev pub clean_reading : List ℕ → LinkReading
clean_reading prefix = reading_for (asked clean_number prefix)

-- Under this prefix the case of this number comes to an outcome of its link over clean lanes: no accident was counted, and no declared
-- lock was lost. Its packet is sent, and so it arrives.
pub record CleanCaseMeets (prefix : List ℕ) : Type 0 where
  pub of_number : case_of clean_number ≡ clean_case
  pub stream : List Word
  pub linked : Outcome
  pub is_linked : IsLinkedBy (clean_reading prefix) stream linked
  pub undamaged : AllUndamaged (clean_reading prefix).reading.plan.settings (clean_reading prefix).schedule stream
  pub within : IsWithinDepth (clean_reading prefix).reading.plan.settings (clean_reading prefix).schedule.skews
  pub none : is_linked.counts ≡ no_accidents
  pub kept : LosesNoLock is_linked.reports
  pub sent : bytes_of (sent_on (clean_reading prefix) stream is_linked.over 0) ≡ four_bytes ∷ []
  pub arrives : content_of linked.files (capture_name (clean_reading prefix).reading.plan.out 0) ≡ Some (capture_bytes 1 (four_bytes ∷ []))

-- under any prefix
abbrev pub CleanCasesMeet : Type 0
CleanCasesMeet = (prefix : List ℕ) → CleanCaseMeets prefix
