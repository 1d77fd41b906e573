-- What is kept of the channels, and the bursts that it stands for.
use Rattle.std.specs.Prelude.{ℕ, ◌≡◌, ◌+◌, ◌*◌, ◌<◌, ◌≤◌, ◌==◌, nat_lt, nat_le, Bool, false, ◌&&◌, not, cond, List, filter, get_or, Option, Some, None, [], ◌∷◌, ◌++◌, ◌||◌, is_some, slice_index_or, slice_set, unwrap_or}
use Rattle.std.specs.List.{list_any}
use Rattle.std.specs.Option.{option_map, option_map_or, option_and_then}
use Rattle.lk_base.specs.Fields.{is_control_word, has_sop, channel_number}
use Rattle.control_words.specs.ControlWord.{end_of}
use Rattle.receive_model.specs.Lists.{first_of}
use Rattle.lk_base.specs.declared.word.RxWord.{RxWord}
use Rattle.lk_base.specs.declared.word.RxWord.TheVariants.{Data, Control, Bad}
use Rattle.word_rules.specs.declared.before.Before.{Before}
use Rattle.word_rules.specs.declared.burst.Burst.{Burst}
use Rattle.word_rules.specs.declared.channels.OwnChannel.{OwnChannel}
use Rattle.word_rules.specs.declared.channel.ChannelState.{ChannelState}
use Rattle.word_rules.specs.declared.fault.Fault.{Fault}
use Rattle.word_rules.specs.declared.rule.WordRule.TheVariants as rules
use Rattle.word_rules.specs.declared.limits.WordLimits.{WordLimits}
use Rattle.word_rules.specs.Places.{is_burst_word, known}
use Rattle.word_rules.specs.Faults.{row}
use Rattle.word_rules.specs.ByFields.{channel_by}
use Rattle.word_rules.specs.Rules.{is_listed}
use Rattle.word_rules.specs.Bursts.{bursts_from, ends, is_ended, burst_bytes, whole_bytes, since_sop}

-- ---- one channel

-- what was kept before the last Bad word is unknown: `from` Bad words came so far
abbrev pub going_seen : ℕ → ChannelState → Option Bool
going_seen from c = cond (c.since == from) c.going None

abbrev pub packet_seen : ℕ → ChannelState → Option ℕ
packet_seen from c = cond (c.since == from) c.packet None

-- the bytes of its packet before the burst, where it goes on and has at most the most
abbrev pub bytes_before : ℕ → ChannelState → ℕ → Option ℕ
bytes_before from c word = cond (has_sop word) (Some 0) (packet_seen from c)

-- the bytes with those of the burst, where the packet goes on and has at most the most
abbrev pub grown : ℕ → Burst → Option ℕ → Option ℕ
grown most b o = option_and_then (λ bytes. cond (not (ends b.closer) && nat_le (8 * b.size + bytes) most) (Some (8 * b.size + bytes)) None) o

-- the channel after a burst on it
abbrev pub channel_after : ℕ → ℕ → ChannelState → Burst → ChannelState
channel_after from most c b = record {
  since = from;
  going = Some (not (ends b.closer));
  packet = grown most b (bytes_before from c b.word);
  listed = c.listed;
}

-- with the burst the packet has more bytes than the most, and without it it has not
abbrev pub long_by : ℕ → ℕ → ChannelState → Burst → Bool
long_by from most c b =
    is_control_word b.closer
    && option_map_or (λ bytes. nat_lt most (bytes + burst_bytes b.size (end_of b.closer))) (bytes_before from c b.word) false

-- the bytes of the bursts from the last one with SOP on, where none of these is ended, and they are at most the most
abbrev pub held_of : ℕ → List Burst → Option ℕ
held_of most bursts = cond (not (list_any is_ended bursts) && nat_le (whole_bytes bursts) most) (Some (whole_bytes bursts)) None

abbrev pub held : ℕ → List Burst → Option ℕ
held most bursts = option_and_then (held_of most) (since_sop bursts)

-- the channel stands for these bursts, the last first, after `from` Bad words
pub record IsChannel (c : ChannelState) (from most : ℕ) (bursts : List Burst) : Type 0 where
  pub since : c.since ≤ from
  pub going : going_seen from c ≡ option_map (λ b. not (is_ended b)) (first_of bursts)
  pub packet : packet_seen from c ≡ held most bursts

-- ---- all channels

-- no channel
abbrev pub none_kept : ChannelState
none_kept = record { since = 0; going = None; packet = None; listed = false }

-- the bursts of one channel
abbrev pub of_channel : Bool → ℕ → List Burst → List Burst
of_channel wide channel bursts = filter (λ (b : Burst). channel_number wide b.word == channel) bursts

-- each channel stands for its bursts
abbrev pub HasBursts : List ChannelState → ℕ → ℕ → Bool → List Burst → Type 0
HasBursts kept from most wide bursts = (channel : ℕ) → channel < 65536 → IsChannel (get_or kept channel none_kept) from most (of_channel wide channel bursts)

-- the bursts that are closed before a place, where no Bad word stands between, the last first
abbrev pub closed : List RxWord → List Burst
closed [] = []
closed (Data x ∷ earlier) = closed earlier
closed (Control x ∷ earlier) = bursts_from x 0 (known earlier)
closed (Bad ∷ earlier) = []

-- which channels are listed
abbrev pub HasListed : List ChannelState → List ℕ → Type 0
HasListed kept channels = (channel : ℕ) → channel < 65536 → (get_or kept channel none_kept).listed ≡ is_listed channels channel

-- of a burst word, its burst up to the place where x closes it
abbrev pub burst_of : Before → ℕ → ℕ → Burst
burst_of b x word = record { word = word; size = b.size; closer = x }

-- the channels after x has closed the burst right before it, if there is one
abbrev pub kept_after : WordLimits → ℕ → List ChannelState → Before → ℕ → List ChannelState
kept_after s bads kept b x =
    option_map_or
    (λ word. slice_set kept (channel_number s.wide word) (channel_after bads s.max_packet (slice_index_or kept (channel_number s.wide word) none_kept) (burst_of b x word)))
    b.burst
    kept

-- `long`, by the channel of this burst
abbrev pub long_at : WordLimits → ℕ → List ChannelState → Before → ℕ → Bool
long_at s bads kept b x =
    option_map_or
    (λ word. long_by bads s.max_packet (slice_index_or kept (channel_number s.wide word) none_kept) (burst_of b x word))
    b.burst
    false

-- `sop` and `open`, by whether the packet of its channel goes on
abbrev pub sop_by : Option Bool → ℕ → Bool
sop_by going x = is_burst_word x && (has_sop x && unwrap_or going false)

abbrev pub open_by : Option Bool → Bool → ℕ → Bool
open_by going any_bad x = is_burst_word x && (not (has_sop x) && (not (unwrap_or going false) && (is_some going || not any_bad)))

-- the rows of the Control word x by its channel, after x has closed the burst before it, and by whether that is long
abbrev pub packet_rows_by : WordLimits → Before → OwnChannel → ℕ → List Fault
packet_rows_by s b own x =
    row b.number rules.Sop (Some (channel_number s.wide x)) (sop_by own.going x)
    ++ (row b.number rules.Open (Some (channel_number s.wide x)) (open_by own.going b.any_bad x)
    ++ (row b.number rules.Channel (Some (channel_number s.wide x)) (is_burst_word x && not own.listed)
    ++ row b.number rules.Long (channel_by s.wide b) own.long))

-- what is kept of the channel of x, after x has closed the burst before it
abbrev pub seen_by : WordLimits → ℕ → List ChannelState → Before → ℕ → OwnChannel
seen_by s bads kept b x = record {
  going = going_seen bads (slice_index_or (kept_after s bads kept b x) (channel_number s.wide x) none_kept);
  listed = (slice_index_or (kept_after s bads kept b x) (channel_number s.wide x) none_kept).listed;
  long = long_at s bads kept b x;
}
