-- The one line of a run that was stopped.
use Rattle.std.specs.Prelude.{ℕ, List, ◌++◌}
use lib.Chars.{codes}
use Rattle.std.specs.Fmt.{decimal}
use Rattle.pcap_files.specs.Texts.{refusal_text}
use Rattle.words_files.specs.Texts.{words_refusal_text, text_refusal_text}
use Rattle.plan_errors.specs.Texts.{refusal_text as rows_text}
use Rattle.plan_errors.specs.declared.error.PlanError.{PlanError}
use Rattle.run_stops.specs.declared.input_error.InputError.{InputError}
use Rattle.run_stops.specs.declared.input_error.InputError.TheVariants.{NoFile, TooLarge, Pcap, Words, Rows, Text, Samples}

-- the name of the cause
abbrev pub why_text : InputError → List ℕ
why_text NoFile = codes "no file"
why_text TooLarge = codes "too large"
why_text (Pcap refusal) = refusal_text refusal
why_text (Words refusal) = words_refusal_text refusal
why_text (Rows refusal) = rows_text refusal
why_text (Text refusal) = text_refusal_text refusal
why_text (Samples offset) = codes "sample at " ++ decimal offset

abbrev pub usage_line : List ℕ
usage_line = codes "usage: interlaken COMMAND FILE, or interlaken generate NUMBER PREFIX\n"

abbrev pub refused_line : List ℕ → List ℕ → List ℕ
refused_line name why = codes "input refused: " ++ (name ++ (codes ": " ++ (why ++ codes "\n")))

abbrev pub input_line : List ℕ → InputError → List ℕ
input_line name why = refused_line name (why_text why)

abbrev pub plan_line : PlanError → List ℕ
plan_line why = codes "plan refused: " ++ (rows_text why ++ codes "\n")

abbrev pub store_line : List ℕ → List ℕ
store_line name = codes "store fault: " ++ (name ++ codes "\n")

abbrev pub memory_line : List ℕ
memory_line = codes "out of memory\n"
