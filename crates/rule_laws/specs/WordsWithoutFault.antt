-- The law on words without a fault: they are received whole.
use Rattle.std.specs.Prelude.{ℕ, ◌≡◌, Bool, true, false, cond, List, [], ◌∷◌, ◌++◌, map, filter, Option, None, Some}
use Rattle.std.specs.Option.{option_map}
use Rattle.std.specs.List.{list_all, cons_option}
use Rattle.lk_base.specs.declared.word.RxWord.{RxWord}
use Rattle.lk_base.specs.declared.position.Pos.{Pos}
use Rattle.lk_base.specs.declared.fault.Why.TheVariants as whys
use Rattle.lk_base.specs.declared.fault.DropWhy.{DropWhy}
use Rattle.lk_base.specs.declared.fault.DropWhy.TheVariants as drops
use Rattle.control_words.specs.declared.fields.Eop.{Eop}
use Rattle.control_words.specs.declared.fields.Eop.TheVariants as eops
use Rattle.control_words.specs.ControlWord.{end_of}
use Rattle.receive_model.specs.declared.span.Span.{Span}
use Rattle.receive_model.specs.Lists.{last_of}
use Rattle.receive_model.specs.Positions.{placed_from}
use Rattle.receive_model.specs.Stretches.{Verified, stretches, passes, last_word, verified}
use Rattle.receive_model.specs.Pieces.{Burst, bursts, is_of_channel, begins, ends, next_data, bytes_of}
use Rattle.receive_model.specs.Events.{Event, Delivered, Dropped, FaultSpan, Flow, Setting, is_listed, delivered, shown_spans, word_events}
use Rattle.receive_model.specs.Outcomes.{outputs_on}
use Rattle.delivery_laws.specs.Law.{word_items}
use Rattle.word_rules.specs.Faults.{Plan, faults}
use Rattle.word_rules.specs.Rules as rules

-- each stretch of the words passes, so each Control word but the first is verified
abbrev pub LawOnStretches : Type 0
LawOnStretches = (p : Plan) (words : List RxWord) → faults p words ≡ [] → list_all passes (stretches (placed_from 0 words)) ≡ true

-- the spans of words that are received whole: one up to the first verified word and one from the last on, or one over all where no
-- word is verified
abbrev pub outer_spans : List Verified → List Span
outer_spans [] = record { after = None; before = None; why = whys.Start } ∷ []
outer_spans (first ∷ rest) =
    record { after = None; before = Some first.at; why = whys.Start } ∷
    record { after = option_map (λ (last : Verified). last.at) (last_of (first ∷ rest)); before = None; why = whys.End } ∷ []

-- the spans among the outputs are these
abbrev pub LawOnSpans : Type 0
LawOnSpans = (setting : Setting) (p : Plan) (words : List RxWord) → faults p words ≡ [] →
    shown_spans (word_events setting words) ≡ outer_spans (verified (word_items words))

-- what a plan says of a receiver of the words that are checked by it
pub record IsSettingOf (setting : Setting) (p : Plan) : Type 0 where
  -- the longest packet
  pub max_packet : setting.max_packet ≡ p.limits.max_packet
  -- whether channel numbers are wide
  pub wide : setting.wide ≡ p.limits.wide
  -- the listed channels
  pub channels : (channel : ℕ) → is_listed setting channel ≡ rules.is_listed p.channels channel

-- the reason is that the words end, or that the sender said that the packet is in error
abbrev pub is_own_reason : DropWhy → Bool
is_own_reason drops.End = true
is_own_reason drops.SenderError = true
is_own_reason drops.Bad = false
is_own_reason drops.Crc = false
is_own_reason drops.Protocol = false
is_own_reason drops.Lost = false
is_own_reason drops.TooLong = false
is_own_reason drops.Unlisted = false

-- the output is no drop, or one for such a reason
abbrev pub drops_as_told : Event → Bool
drops_as_told (Delivered channel packet) = true
drops_as_told (Dropped channel why) = is_own_reason why
drops_as_told (FaultSpan span) = true
drops_as_told (Flow at word) = true

-- each drop among the outputs is for such a reason
abbrev pub LawOnDrops : Type 0
LawOnDrops = (setting : Setting) (p : Plan) (words : List RxWord) → IsSettingOf setting p → faults p words ≡ [] →
    list_all drops_as_told (word_events setting words) ≡ true

-- ---- what becomes of each packet

-- the burst words of a channel among the Control words after the first, each with the Control word after it and the data between
abbrev pub own_bursts : Bool → ℕ → List RxWord → List Burst
own_bursts wide channel words = filter (is_of_channel wide channel) (bursts (map last_word (stretches (placed_from 0 words))) None)

-- what becomes of the packet of these data, which begins at `first`, where v ends it: it is delivered, or dropped for the error that
-- the sender told of
abbrev pub told_by : ℕ → List ℕ → Pos → Verified → Eop → Option Event
told_by channel data_words first v eops.Going = None
told_by channel data_words first v eops.Error = Some (Dropped channel drops.SenderError)
told_by channel data_words first v (eops.End valid) = Some (Delivered channel (record { bytes = bytes_of data_words valid; first = first; last = v.at }))

abbrev pub told_with : ℕ → List ℕ → Pos → Option Verified → Option Event
told_with channel data_words first None = None
told_with channel data_words first (Some v) = told_by channel data_words first v (end_of v.number)

-- what becomes of the packet that begins at `first` and has these data so far, where these bursts of its channel follow; it is
-- dropped for the end of the words where after none of them an end format stands
abbrev pub told_from : ℕ → Pos → List ℕ → List Burst → Option Event
told_from channel first so_far [] = Some (Dropped channel drops.End)
told_from channel first so_far (b ∷ rest) =
    cond (ends b)
    (told_with channel (so_far ++ next_data b.next) first b.next)
    (told_from channel first (so_far ++ next_data b.next) rest)

-- what becomes of those that begin at each burst word with SOP among these
abbrev pub told_at : ℕ → List Burst → List Event
told_at channel [] = []
told_at channel (b ∷ rest) = cons_option (cond (begins b) (told_from channel b.at [] (b ∷ rest)) None) (told_at channel rest)

-- the packets and drops among the outputs on a channel are what becomes of the packets that begin with SOP at a Control word after the
-- first, in order, and no more: of what begins at the first Control word there is neither
abbrev pub LawOnPackets : Type 0
LawOnPackets = (setting : Setting) (p : Plan) (words : List RxWord) (channel : ℕ) → IsSettingOf setting p → faults p words ≡ [] →
    outputs_on channel (word_events setting words) ≡ told_at channel (own_bursts setting.wide channel words)

-- so the packets that are delivered on a channel are those of them that the sender ended without an error
abbrev pub LawOnDelivered : Type 0
LawOnDelivered = (setting : Setting) (p : Plan) (words : List RxWord) (channel : ℕ) → IsSettingOf setting p → faults p words ≡ [] →
    delivered channel (word_events setting words) ≡ delivered channel (told_at channel (own_bursts setting.wide channel words))
