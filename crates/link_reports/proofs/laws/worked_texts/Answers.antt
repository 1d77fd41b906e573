use Rattle.std.proofs.Common.{ℕ, List, ap, refl}
use Rattle.std.specs.Fmt.{digits}
use Rattle.receive_model.proofs.RowChecks.{rows_hold}
use Rattle.receive_model.specs.Events.{Event, shown_spans}
use Rattle.link_reports.specs.Lines.{dropped_line}
use Rattle.link_reports.specs.Drops.{drop_counts}
use Rattle.link_reports.specs.Table.{span_table}
use Rattle.link_reports.proofs.laws.worked_texts.Goals as goal

pub returns : goal.returns
unfolding digits
returns c =
    let table : List Event → List ℕ = λ outputs. span_table (shown_spans outputs) in
    let drops : List Event → List ℕ = λ outputs. dropped_line (drop_counts outputs) in
    record {
      whole_table = ap table rows_hold.one_packet_of_sixty_bytes;
      whole_drops = ap drops rows_hold.one_packet_of_sixty_bytes;
      flipped_table = ap table rows_hold.one_bit_inverted;
      flipped_drops = ap drops rows_hold.one_bit_inverted;
      bad_table = ap table rows_hold.one_bad_word;
      bad_drops = ap drops rows_hold.one_bad_word;
      no_words_table = ap table rows_hold.no_words;
      got = refl;
      spans = refl;
      sent = refl;
      slots = refl;
      held = refl;
      count = refl;
      lines = refl;
      bytes = refl;
      resent = refl;
      end_a = refl;
      end_b = refl;
      steady_lane = refl;
      darkened_lane = refl;
      silent_lane = refl;
      accidents = refl;
      missing = refl;
    }
