use Rattle.std.proofs.Common.{refl}
use Rattle.std.specs.Fmt.{digits}
use Rattle.run_stops.proofs.laws.worked_lines.Goals as goal

pub returns : goal.returns
unfolding digits
returns c = record {
  usage = refl;
  no_plan = refl;
  faulty_row = refl;
  missing_key = refl;
  missing_samples = refl;
  missing_events = refl;
  missing_plan = refl;
  missing_delay = refl;
  missing_mark = refl;
  missing_slots = refl;
  no_lanes = refl;
  cut_capture = refl;
  faulty_flow = refl;
  no_head = refl;
  wrong_line = refl;
  no_whole_bytes = refl;
  bad_sample = refl;
  store = refl;
  memory = refl;
}
