-- The law on `join` of words in which `check` of the same plan finds no fault.
use Rattle.std.specs.Prelude.{◌≡◌, ℕ, List, [], ◌∷◌, ◌++◌, length, map, sum_by, Ok}
use Rattle.std.specs.List.{flat_map}
use Rattle.lk_outside.specs.Files.{Files}
use Rattle.receive_model.specs.Events.{Event}
use Rattle.receive_model.specs.Stretches.{verified}
use Rattle.receive_model.specs.declared.span.Span.{Span}
use Rattle.delivery_laws.specs.Law.{word_items}
use Rattle.rule_laws.specs.WordsWithoutFault.{outer_spans, own_bursts, told_at}
use Rattle.pcap_files.specs.Names.{capture_name}
use Rattle.pcap_files.specs.Written.{capture_bytes}
use Rattle.link_plan.specs.Listing.{channels_in_order}
use Rattle.link_plan.specs.Views.{numbers_in}
use Rattle.link_reports.specs.Lines.{dropped_line, got_line, spans_line}
use Rattle.link_reports.specs.Table.{span_table}
use Rattle.receipts.specs.Received.{packets_on, spans_name}
use Rattle.run_shell.specs.declared.status.Status.TheVariants.{Done}
use Rattle.run_shell.specs.Outcome.{Outcome, Output}
use Rattle.join_commands.specs.JoinPlan.{join_plan_meaning}
use Rattle.check_commands.specs.AfterBurst.{TellsNoFault}
use Rattle.check_commands.specs.Check.{CheckInputs, check_inputs_in, check_meaning}

-- the packets of a channel that begin with SOP at a Control word after the first, and that their sender ended without an error, in order
abbrev pub whole_packets : CheckInputs → ℕ → List (List ℕ)
whole_packets i channel = packets_on channel (told_at channel (own_bursts i.plan.wide channel i.words))

-- the span up to the first verified word and the one from the last on, or one over all words
abbrev pub spans_around : CheckInputs → List Span
spans_around i = outer_spans (verified (word_items i.words))

abbrev pub capture_of_whole : CheckInputs → ℕ → Output
capture_of_whole i channel = record { name = capture_name i.plan.out channel; content = capture_bytes i.plan.link_type (whole_packets i channel) }

abbrev pub line_of_whole : CheckInputs → ℕ → List ℕ
line_of_whole i channel = got_line channel (length (whole_packets i channel)) (sum_by length (whole_packets i channel))

-- `join` makes the captures of exactly these packets and the table of these spans, and counts both. What it counts as dropped is dropped
-- since the words end, or since the sender said that it is in error.
pub record IsReceivedWhole (i : CheckInputs) (joined : Outcome) : Type 0 where
  pub status : joined.status ≡ Done
  pub files : joined.files ≡
      map (capture_of_whole i) (channels_in_order (numbers_in i.plan))
      ++ record { name = spans_name i.plan.out; content = span_table (spans_around i) } ∷ []
  pub for_the_end : ℕ
  pub by_the_sender : ℕ
  pub text : joined.text ≡
      flat_map (line_of_whole i) (channels_in_order (numbers_in i.plan))
      ++ (spans_line (length (spans_around i)) ++ dropped_line (0 ∷ 0 ∷ 0 ∷ 0 ∷ for_the_end ∷ 0 ∷ 0 ∷ by_the_sender ∷ []))

-- Where a plan, its flow rows and its words are accepted: if `check` tells no fault of the words, `join` receives them whole.
abbrev pub JoinReceivesWhole : Type 0
JoinReceivesWhole = (name : List ℕ) (files : Files) (i : CheckInputs) (checked joined : Outcome) → check_inputs_in files name ≡ Ok i →
    (check_meaning name).IsOutcome files checked → TellsNoFault i.plan.out (length i.words) checked → (join_plan_meaning name).IsOutcome files joined → IsReceivedWhole i joined
