-- The line of each cause, once.
use Rattle.std.specs.Prelude.{ℕ, ◌≡◌, List, ◌++◌}
use lib.Chars.{codes}
use Rattle.plan_errors.specs.declared.error.PlanError.TheVariants as refusal
use Rattle.plan_errors.specs.declared.error.Key.TheVariants as key
use Rattle.pcap_files.specs.declared.error.PcapError.TheVariants as capture
use Rattle.words_files.specs.declared.text_error.TextError.TheVariants as listing
use Rattle.run_stops.specs.declared.input_error.InputError.TheVariants as cause
use Rattle.run_stops.specs.declared.stop.Stop.TheVariants as stop
use Rattle.run_stops.specs.Lines.{usage_line, input_line, store_line}
use Rattle.run_stops.specs.Stops.{stop_text}

abbrev pub line : List ℕ → List ℕ
line text = text ++ codes "\n"

pub record WorkedLines : Type 0 where
  pub usage : usage_line ≡ line (codes "usage: interlaken COMMAND FILE, or interlaken generate NUMBER PREFIX")
  pub no_plan : stop_text (stop.Plan refusal.NoFile) ≡ line (codes "plan refused: no file")
  pub faulty_row : stop_text (stop.Plan (refusal.Clash 3)) ≡ line (codes "plan refused: row 3: clash")
  pub missing_key : stop_text (stop.Plan (refusal.Missing key.Metaframe)) ≡ line (codes "plan refused: missing metaframe")
  pub missing_samples : stop_text (stop.Plan (refusal.Missing key.Oob)) ≡ line (codes "plan refused: missing oob")
  pub missing_events : stop_text (stop.Plan (refusal.Missing key.Events)) ≡ line (codes "plan refused: missing events")
  pub missing_plan : stop_text (stop.Plan (refusal.Missing key.Plan)) ≡ line (codes "plan refused: missing plan")
  pub missing_delay : stop_text (stop.Plan (refusal.Missing key.Delay)) ≡ line (codes "plan refused: missing delay")
  pub missing_mark : stop_text (stop.Plan (refusal.Missing key.Mark)) ≡ line (codes "plan refused: missing mark")
  pub missing_slots : stop_text (stop.Plan (refusal.Missing key.Slots)) ≡ line (codes "plan refused: missing slots")
  pub no_lanes : input_line (codes "p.plan") (cause.Rows (refusal.Missing key.Lanes)) ≡ line (codes "input refused: p.plan: missing lanes")
  pub cut_capture : input_line (codes "a.pcap") (cause.Pcap (capture.Short 24)) ≡ line (codes "input refused: a.pcap: short at 24")
  pub faulty_flow : input_line (codes "f") (cause.Rows (refusal.Number 2)) ≡ line (codes "input refused: f: row 2: number")
  pub no_head : input_line (codes "a.txt") (cause.Text listing.Head) ≡ line (codes "input refused: a.txt: head")
  pub wrong_line : input_line (codes "a.txt") (cause.Text (listing.Line 12)) ≡ line (codes "input refused: a.txt: line 12")
  pub no_whole_bytes : input_line (codes "a.txt") (cause.Text listing.Length) ≡ line (codes "input refused: a.txt: length")
  pub bad_sample : input_line (codes "o.oob") (cause.Samples 11) ≡ line (codes "input refused: o.oob: sample at 11")
  pub store : store_line (codes "a.pcap.words") ≡ line (codes "store fault: a.pcap.words")
  pub memory : stop_text stop.OutOfMemory ≡ line (codes "out of memory")
