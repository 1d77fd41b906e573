-- Samples that are handed over, by worked files.
use Rattle.std.proofs.Common.{◌≡◌, ◌≤◌, [], ◌∷◌, Some, Ok, refl, arith}
use Rattle.std.proofs.lemmas.List.Elements.{All-nil, All-cons}
use lib.Chars.{codes}
use lib.Utf8.{encode}
use Rattle.std.specs.Str.{is_utf8, chars}
use Rattle.csv.specs.Reading.{strip_bom}
use Rattle.csv.specs.Writing.{escaped, fields_text, is_blank}
use Rattle.csv_rows.specs.Behind.{said_behind}
use Rattle.csv_rows.specs.Fields.{number_of, decimal_from}
use Rattle.csv_rows.specs.Items.{item_of}
use Rattle.csv_rows.specs.Rows.{rows_of}
use Rattle.csv_rows.specs.Tables.{place_in}
use Rattle.csv_rows.specs.Checked.{value_of, text_of, later_fault, first_fault}
use Rattle.csv_rows.specs.Written.{rows_text}
use Rattle.csv_rows.proofs.ReadBack.{text-read}
use Rattle.link_plan.specs.Examples.{named_plan, named_plan_value}
use Rattle.link_plan.specs.Keys.{keys, place, number, row_of}
use Rattle.link_plan.specs.Listing.{channels_in_order}
use Rattle.link_plan.specs.Plan.{missing, clashes, first_clash, plan_from, plan_of}
use Rattle.link_plan.specs.Timed.{state_of, local_row, local_behind, local_of}
use Rattle.link_plan.specs.Views.{numbers_in}
use Rattle.lk_base.specs.Checksum.{bits_of, register_after}
use Rattle.lk_outside.specs.Files.{Files, file}
use Rattle.stream_model.specs.declared.rows.LocalRow.{LocalRow}
use Rattle.oob_flow.specs.Examples.{first_on_second_off, turned_off}
use Rattle.oob_flow.specs.Frames.{block_sizes, block_checksum, block_bits, frame_bits, frame_samples, frame_length}
use Rattle.oob_flow.specs.Written.{AreWritten, written_frame}
use Rattle.plan_inputs.specs.Inputs.{plan_in}
use Rattle.oob_commands.specs.WriteSamples.{local_reading_in}
use Rattle.oob_commands.specs.Examples.{five_off, HandingOverIsMet}

plan_marked : strip_bom (rows_text named_plan) ≡ rows_text named_plan
unfolding strip_bom rows_text fields_text escaped is_blank
plan_marked = refl

plan_rows : rows_of (rows_text named_plan) ≡ named_plan
plan_rows = text-read named_plan (omega arith, (omega arith, (omega arith, (omega arith, (omega arith, (omega arith, (omega arith, (omega arith, (omega arith, (omega arith, tt)))))))))) plan_marked

local_marked : strip_bom (rows_text five_off) ≡ rows_text five_off
unfolding strip_bom rows_text fields_text escaped is_blank
local_marked = refl

local_rows : rows_of (rows_text five_off) ≡ five_off
local_rows = text-read five_off (omega arith, tt) local_marked

said : plan_of named_plan ≡ Ok named_plan_value
unfolding is_utf8 chars encode number_of decimal_from place_in item_of value_of text_of later_fault first_fault keys place number row_of channels_in_order missing clashes first_clash plan_from plan_of
said = refl

local_said : local_of (numbers_in named_plan_value) five_off ≡ Ok (turned_off 0 5 ∷ [])
unfolding is_utf8 chars encode number_of decimal_from state_of local_row local_behind said_behind
local_said = refl

written : AreWritten (3 ∷ 5 ∷ []) (turned_off 0 5 ∷ []) first_on_second_off
unfolding bits_of register_after block_sizes block_checksum block_bits frame_bits frame_samples frame_length written_frame
written = record { last = 0; is_last = (All-cons (λ (row : LocalRow). row.slot ≤ 0) (turned_off 0 5) [] (omega arith) (All-nil (λ (row : LocalRow). row.slot ≤ 0)), λ m h a. absurd (omega arith)); frames = refl }

plan_is : (files : Files) → file files (codes "p") ≡ Some (rows_text named_plan) → plan_in files (codes "p") ≡ Ok named_plan_value
unfolding plan_in rows_text fields_text escaped is_blank
plan_is files p = rw (p, plan_rows, said) refl

local_is : (files : Files) → file files (codes "p") ≡ Some (rows_text named_plan) → file files (codes "l") ≡ Some (rows_text five_off)
    → local_reading_in files (codes "p") ≡ Ok (record { plan = named_plan_value; local = turned_off 0 5 ∷ [] })
unfolding local_reading_in rows_text fields_text escaped is_blank
local_is files p l = rw (plan_is files p, l, local_rows, local_said) refl

pub met : HandingOverIsMet
met files p l b = record {
  reading = local_is files p l;
  made = rw (local_is files p l) (record { samples = first_on_second_off; written = written; is = refl });
  plan = plan_is files p;
  calendar = refl;
  names = refl;
  stands = b;
}
