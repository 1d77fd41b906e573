-- The premises of what is said of `duplex` are met.
use Rattle.std.proofs.Common.{◌≡◌, ℕ, ◌-◌, refl, ap, ◌∙◌, List, [], ◌∷◌, ◌++◌, length, Some, Result, Ok}
use lib.Chars.{codes}
use lib.Utf8.{encode}
use Rattle.std.specs.Str.{chars, is_utf8}
use Rattle.csv.specs.Machine.{next_record}
use Rattle.csv.specs.Reading.{records_from, strip_bom}
use Rattle.lk_base.specs.Limits.{capture_limit, plan_limit}
use Rattle.lk_outside.specs.Files.{AreBytes}
use Rattle.csv_rows.specs.Behind.{said_behind}
use Rattle.csv_rows.specs.Checked as told
use Rattle.csv_rows.specs.Fields.{decimal_from, number_of}
use Rattle.csv_rows.specs.Items.{item_of}
use Rattle.csv_rows.specs.Rows.{rows_of}
use Rattle.csv_rows.specs.Tables.{place_in}
use Rattle.pcap_files.specs.Capture.{capture_of, header_of, packet_at, packets_within}
use Rattle.pcap_files.specs.Numbers as numbers
use Rattle.pcap_files.specs.Written.{header_bytes, record_head}
use Rattle.link_plan.specs.Keys as keys
use Rattle.link_plan.specs.Listing.{channels_in_order}
use Rattle.link_plan.specs.Plan as plans
use Rattle.link_plan.specs.Plan.{Listed, plan_of}
use Rattle.duplex_plan.specs.Duplex.{backs_from, duplex_of}
use Rattle.duplex_plan.specs.Rows.{duplex_behind, duplex_row}
use Rattle.run_stops.specs.Reading.{behind, bytes_by, bytes_in, plan_bytes}
use Rattle.run_stops.specs.Reading as reading
use Rattle.plan_inputs.specs.Inputs.{packets_in, rows_by}
use Rattle.plan_inputs.proofs.ListedFiles.{HaveBytes, bytes_at, file_at, files_of_bytes, packets_read, then_at}
use Rattle.duplex_commands.specs.PremisesMet.{TwoEndsMeet, one_capture, one_to_eight, plan_text, settings_name, settings_text, two_ends_entries, two_ends_files, two_ends_plan, two_ends_reading, two_ends_settings}
use Rattle.duplex_commands.specs.Reading.{back_channels, duplex_in, first_unlisted, room_after, settings_by, settings_in, shared_plan_in, with_captures, with_plan, with_settings}
use Rattle.duplex_commands.proofs.HeldBack.{held_back}
use Rattle.duplex_commands.proofs.Works.{duplex_is_work}

have_bytes : HaveBytes two_ends_entries
unfolding header_bytes record_head
have_bytes = (refl, (refl, (refl, tt)))

are_bytes : AreBytes two_ends_files
are_bytes = files_of_bytes two_ends_entries have_bytes

settings_read : settings_in two_ends_files settings_name ≡ Ok two_ends_settings
unfolding settings_in next_record records_from strip_bom is_utf8 chars encode number_of decimal_from duplex_row duplex_behind backs_from said_behind
settings_read =
    then_at (plan_bytes two_ends_files settings_name plan_limit) settings_text (λ bytes. settings_by (duplex_of (rows_of bytes))) (ap (reading.plan_by plan_limit) (file_at two_ends_entries settings_name))

plan_read : shared_plan_in two_ends_files (codes "p") ≡ Ok two_ends_plan
unfolding shared_plan_in next_record records_from strip_bom is_utf8 chars encode place_in item_of number_of decimal_from told.first_fault told.later_fault told.value_of told.text_of keys.keys keys.place keys.number keys.row_of plans.plan_of plans.missing plans.clashes plans.first_clash plans.plan_from channels_in_order
plan_read =
    then_at (bytes_in two_ends_files (codes "p") plan_limit) plan_text (λ bytes. rows_by (codes "p") (plan_of (rows_of bytes))) (ap (bytes_by (codes "p") plan_limit) (file_at two_ends_entries (codes "p")))

capture_read : capture_of one_capture 262144 ≡ Ok (one_to_eight ∷ [])
unfolding header_of packet_at packets_within numbers.number header_bytes record_head
capture_read = refl

capture_small : bytes_by (codes "a") capture_limit (Some one_capture) ≡ Ok one_capture
unfolding header_bytes record_head
capture_small = refl

none_left : packets_in two_ends_files 262144 (capture_limit - length one_capture) [] ≡ Ok []
unfolding packets_in
none_left = refl

packets_of_a : packets_in two_ends_files 262144 capture_limit two_ends_plan.channels ≡ Ok ((1, one_to_eight) ∷ [])
packets_of_a = packets_read two_ends_entries (codes "a") one_capture 262144 capture_limit 1 (one_to_eight ∷ []) [] [] refl capture_small capture_read none_left

captures_read : with_captures two_ends_files two_ends_settings two_ends_plan [] ≡ Ok two_ends_reading
unfolding packets_in
captures_read =
    then_at (packets_in two_ends_files 262144 capture_limit two_ends_plan.channels) ((1, one_to_eight) ∷ [])
    (λ a. behind (packets_in two_ends_files 262144 (room_after two_ends_files two_ends_plan.channels) []) (λ b. Ok (record { settings = two_ends_settings; plan = two_ends_plan; packets_of_a = a; packets_of_b = b })))
    packets_of_a

all_read : duplex_in two_ends_files settings_name ≡ Ok two_ends_reading
unfolding duplex_in first_unlisted
all_read =
    then_at (settings_in two_ends_files settings_name) two_ends_settings (with_settings two_ends_files) settings_read
    ∙ then_at (shared_plan_in two_ends_files (codes "p")) two_ends_plan (with_plan two_ends_files two_ends_settings) plan_read
    ∙ captures_read

pub two_ends_meet : TwoEndsMeet
two_ends_meet =
    let (o, made) = (duplex_is_work settings_name).some_made two_ends_files are_bytes two_ends_reading all_read in
    record { bytes = are_bytes; read = all_read; outcome = o; made = made; held = held_back two_ends_files settings_name two_ends_reading o all_read made }
