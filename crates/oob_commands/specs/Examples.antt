-- Worked examples of flow files, by samples.
use Rattle.std.specs.Prelude.{◌≡◌, List, [], ◌∷◌, ◌++◌, Some}
use lib.Chars.{codes}
use Rattle.lk_outside.specs.Files.{Files, file}
use Rattle.csv_rows.specs.Rows.{Row}
use Rattle.csv_rows.specs.Written.{rows_text}
use Rattle.link_plan.specs.Examples.{named_plan, named_plan_value}
use Rattle.oob_flow.specs.Examples.{first_on_second_off, turned_off}
use Rattle.oob_flow.specs.Reading.{rows_of_samples}
use Rattle.link_reports.specs.Lines.{line_end}
use Rattle.oob_commands.specs.FlowFile.{flow_file}
use Rattle.oob_commands.specs.ReadBack.{IsHandedOver}

pub record WorkedFiles : Type 0 where
  pub second_off : flow_file (rows_of_samples 2 first_on_second_off) ≡ codes "11,81BFFF00004B8D9D" ++ line_end
  -- the last checksum bit is inverted
  pub wrong : flow_file (rows_of_samples 2 (0x06 ∷ 0x07 ∷ 0x00 ∷ 0x01 ∷ 0x00 ∷ 0x01 ∷ 0x00 ∷ 0x01 ∷ 0x00 ∷ 0x01 ∷ 0x00 ∷ 0x03 ∷ [])) ≡ codes "11,0000000000000000" ++ line_end
  pub nothing : flow_file (rows_of_samples 2 []) ≡ []

-- the local rows of a file that turns channel 5 off at once
abbrev pub five_off : List Row
five_off = (codes "0" ∷ codes "5" ∷ codes "off" ∷ []) ∷ []

-- Samples can be handed over: by files with a plan of the channels 5 and 3, with these local rows, and with the samples of a
-- frame whose second entry is off.
abbrev pub HandingOverIsMet : Type 0
HandingOverIsMet = (files : Files) → file files (codes "p") ≡ Some (rows_text named_plan) → file files (codes "l") ≡ Some (rows_text five_off) → file files (codes "b") ≡ Some first_on_second_off →
    IsHandedOver files files (codes "p") (codes "p") (codes "b") (record { plan = named_plan_value; local = turned_off 0 5 ∷ [] }) named_plan_value first_on_second_off
