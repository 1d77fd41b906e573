-- The premises of what is said of `resend` are met.
use Rattle.std.proofs.Common.{◌≡◌, ◌-◌, refl, ap, ◌∙◌, [], ◌∷◌, length, Some, None, Ok}
use lib.Chars.{codes}
use lib.Utf8.{encode}
use Rattle.std.specs.Str.{chars, is_utf8}
use Rattle.csv.specs.Machine.{next_record}
use Rattle.csv.specs.Reading.{records_from, strip_bom}
use Rattle.lk_base.specs.Limits.{capture_limit, plan_limit, rows_limit}
use Rattle.lk_outside.specs.Files.{AreBytes}
use Rattle.csv_rows.specs.Behind.{said_behind}
use Rattle.csv_rows.specs.Checked as told
use Rattle.csv_rows.specs.Fields.{decimal_from, number_of}
use Rattle.csv_rows.specs.Items.{item_of}
use Rattle.csv_rows.specs.Rows.{rows_of}
use Rattle.csv_rows.specs.Tables.{place_in}
use Rattle.pcap_files.specs.Capture.{capture_of, header_of, packet_at, packets_within}
use Rattle.pcap_files.specs.Numbers as numbers
use Rattle.pcap_files.specs.Written.{header_bytes, record_head}
use Rattle.link_plan.specs.Keys as keys
use Rattle.link_plan.specs.Listing.{channels_in_order}
use Rattle.link_plan.specs.Plan as plans
use Rattle.link_plan.specs.Plan.{plan_of}
use Rattle.link_plan.specs.Timed.{flow_of, local_of}
use Rattle.link_plan.specs.Views.{numbers_in}
use Rattle.resend_events.specs.Events.{event_row, events_of}
use Rattle.run_stops.specs.Reading.{behind, bytes_by, bytes_in, plan_bytes}
use Rattle.run_stops.specs.Reading as reading
use Rattle.plan_inputs.specs.Inputs.{inputs_in, packets_in, plan_by, plan_in, rows_by, rows_in}
use Rattle.plan_inputs.proofs.ListedFiles.{HaveBytes, file_at, files_of_bytes, packets_read, then_at}
use Rattle.resend_commands.specs.PremisesMet.{ResentMeets, events_text, one_capture, one_to_eight, plan_name, plan_text, resent_entries, resent_files, resent_plan, resent_reading, resent_rows}
use Rattle.resend_commands.specs.Reading.{events_in, reading_of, refusal_of, resend_in, resend_plan_in, unless_refused, with_events, with_inputs}
use Rattle.resend_commands.proofs.InOrder.{resent_in_order}
use Rattle.resend_commands.proofs.Work.{resend_is_work}

have_bytes : HaveBytes resent_entries
unfolding header_bytes record_head
have_bytes = (refl, (refl, (refl, tt)))

are_bytes : AreBytes resent_files
are_bytes = files_of_bytes resent_entries have_bytes

plan_read : plan_in resent_files plan_name ≡ Ok resent_plan
unfolding plan_in next_record records_from strip_bom is_utf8 chars encode place_in item_of number_of decimal_from told.first_fault told.later_fault told.value_of told.text_of keys.keys keys.place keys.number keys.row_of plans.plan_of plans.missing plans.clashes plans.first_clash plans.plan_from channels_in_order
plan_read =
    then_at (plan_bytes resent_files plan_name plan_limit) plan_text (λ bytes. plan_by (plan_of (rows_of bytes))) (ap (reading.plan_by plan_limit) (file_at resent_entries plan_name))

plan_fits : resend_plan_in resent_files plan_name ≡ Ok resent_plan
unfolding resend_plan_in
plan_fits = then_at (plan_in resent_files plan_name) resent_plan (λ p. unless_refused (refusal_of p) p) plan_read

capture_read : capture_of one_capture 262144 ≡ Ok (one_to_eight ∷ [])
unfolding header_of packet_at packets_within numbers.number header_bytes record_head
capture_read = refl

capture_small : bytes_by (codes "a") capture_limit (Some one_capture) ≡ Ok one_capture
unfolding header_bytes record_head
capture_small = refl

none_left : packets_in resent_files 262144 (capture_limit - length one_capture) [] ≡ Ok []
unfolding packets_in
none_left = refl

inputs_read : inputs_in resent_files resent_plan ≡ Ok resent_reading.reading.inputs
unfolding inputs_in
inputs_read =
    then_at (packets_in resent_files 262144 capture_limit resent_plan.channels) ((1, one_to_eight) ∷ [])
    (λ ps. behind (rows_in resent_files [] flow_of None) (λ flow. behind (rows_in resent_files [] (local_of (numbers_in resent_plan)) None) (λ local. Ok (record { packets = ps; flow = flow; local = local }))))
    (packets_read resent_entries (codes "a") one_capture 262144 capture_limit 1 (one_to_eight ∷ []) [] [] refl capture_small capture_read none_left)

events_read : events_in resent_files resent_plan ≡ Ok resent_rows
unfolding next_record records_from strip_bom is_utf8 chars encode number_of decimal_from said_behind event_row
events_read =
    then_at (bytes_in resent_files (codes "e") rows_limit) events_text (λ bytes. rows_by (codes "e") (events_of (rows_of bytes))) (ap (bytes_by (codes "e") rows_limit) (file_at resent_entries (codes "e")))

all_read : resend_in resent_files plan_name ≡ Ok resent_reading
unfolding resend_in
all_read =
    then_at (resend_plan_in resent_files plan_name) resent_plan (with_inputs resent_files) plan_fits
    ∙ then_at (inputs_in resent_files resent_plan) resent_reading.reading.inputs (with_events resent_plan resent_files) inputs_read
    ∙ then_at (events_in resent_files resent_plan) resent_rows (λ rows. Ok (reading_of resent_plan resent_reading.reading.inputs rows)) events_read

pub resent_meets : ResentMeets
resent_meets =
    let (o, made) = (resend_is_work plan_name).some_made resent_files are_bytes resent_reading all_read in
    record { bytes = are_bytes; read = all_read; outcome = o; made = made; in_order = resent_in_order resent_files plan_name resent_reading o all_read made }
