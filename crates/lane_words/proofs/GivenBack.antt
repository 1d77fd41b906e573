-- The words of all items of lanes deliver what the lanes deliver.
use Rattle.std.proofs.Common.{sym, ap, ◌∙◌, map}
use Rattle.reassembly.specs.SoFar.{outputs_so_far}
use Rattle.event_model.specs.Fed.{clock_of, whole}
use Rattle.event_model.proofs.Clocks.{all_whole}
use Rattle.event_model.proofs.KnownEvents.{known_events_at_end}
use Rattle.lane_words.specs.Gathered.{gathered_words}
use Rattle.lane_words.specs.GatheredLaws.{LanesAreGivenBack, bytes_on}
use Rattle.lane_words.proofs.Fits.{gathered_fit}
use Rattle.lane_words.proofs.Joined.{gathered_delivers}
use Rattle.lane_words.proofs.Reading.{written_is_read}

pub lanes_are_given_back : LanesAreGivenBack
lanes_are_given_back s setting lanes items given fits are events =
    let all = known_events_at_end s setting lanes fits _ given (record { items = items; are = are; shown = sym (ap (outputs_so_far setting items) (all_whole lanes)) }) events in
    record {
      read = written_is_read (gathered_words items) (gathered_fit s (clock_of (map whole lanes)) (map whole lanes) items are);
      delivered = λ channel. gathered_delivers setting channel items ∙ ap (bytes_on channel) all;
    }
