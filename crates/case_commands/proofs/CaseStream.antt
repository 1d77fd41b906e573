-- The stream of a generated case: there is one, it is not held, and its packets are within the longest.
use Rattle.std.proofs.Common.{ℕ, ◌≡◌, zero, suc, ◌+◌, ◌<◌, ◌≤◌, true, false, length, map, List, [], ◌∷◌, refl, ◌∙◌, arith, All, Contains}
use Rattle.std.specs.Prelude.{nat_le}
use Rattle.std.specs.List.{AllByRecursion, range_with_len}
use Rattle.std.proofs.lemmas.Bool.{and_from, le-leb}
use Rattle.std.proofs.lemmas.List.{length-map}
use Rattle.std.proofs.lemmas.List.Elements.{All-append, All-map, All-nil, All-from_recursion}
use Rattle.std.proofs.lemmas.List.FromFn.{get_or-range_with_len, length-range_with_len, length-map-range_with_len}
use Rattle.lk_base.specs.Limits.{longest_packet}
use Rattle.lk_base.specs.Link.{IsLink}
use Rattle.stream_model.specs.BurstStream.{Source, IsPacket}
use Rattle.stream_model.proofs.SomeStream.{of_fitting}
use Rattle.link_plan.specs.Listing.{are_listed, channels_in_order, fit_width}
use Rattle.link_plan.specs.Plan.{Listed}
use Rattle.link_plan.specs.Views.{numbers_in}
use Rattle.link_laws.proofs.Lists.{in_mapped}
use Rattle.link_plan.proofs.InOrder.{in_order, width_in_order}
use Rattle.link_plan.proofs.Whole.{KeepsValue}
use Rattle.link_cases.specs.Draws.{draw}
use Rattle.link_cases.specs.Case.{Case, case_of, channel_drawn, numbers_drawn, packet_drawn}
use Rattle.link_cases.specs.Accepted.{channel_of, settings_of}
use Rattle.link_cases.specs.declared.numbers.LinkNumbers.{LinkNumbers}
use Rattle.link_cases.proofs.Drawn as drawn
use Rattle.plan_inputs.specs.Inputs.{on_channel}
use Rattle.plan_inputs.specs.Sources.{IsSourceOf}
use Rattle.plan_inputs.specs.Values.{AreOn}
use Rattle.plan_inputs.proofs.PlanStream.{AreFit}
use Rattle.plan_inputs.proofs.SomeSource.{shape_of}
use Rattle.link_commands.specs.Linked.{IsLinked}
use Rattle.link_commands.proofs.LinkWork.{some_linked}
use Rattle.run_shell.specs.Outcome.{Outcome}
use Rattle.case_commands.specs.Reading.{packets_from, case_reading}

-- ---- its settings

pub case_link : (number : ℕ) → IsLink (settings_of (case_of number).numbers)
case_link number = by (case_of number).numbers (drawn.case-fits number).numbers
  where
    by : (n : LinkNumbers) → drawn.AreInRange n → IsLink (settings_of n)
    by n r =
        let lanes = r.few_lanes in
        let least = r.least_metaframe in
        let most = r.most_metaframe in
        let max = r.most_max in
        let low = r.least_max in
        let short = r.most_short in
        record {
          lanes = (r.some_lanes, omega arith);
          metaframe = (r.least_metaframe, omega arith);
          skips = (r.some_skips, r.few_skips);
          burst_max = (r.least_max, omega arith, r.whole_max);
          burst_short = (r.least_short, omega arith, r.whole_short);
          short_below_max = omega arith;
          deskew = (omega arith, omega arith);
          deskew_below_half = omega arith;
          warmup = (omega arith, omega arith);
          max_packet = (omega arith, omega arith);
        }

-- ---- its packets

-- a packet that was drawn is one of bytes
packet_fits : (x : ℕ) → IsPacket longest_packet (packet_drawn x).0
packet_fits x =
    let fits = drawn.packet-fits x in
    let few = fits.few in
    record {
      some = fits.some;
      fits = omega (arith, few);
      bytes = All-from_recursion (λ b. b < 256) (packet_drawn x).0 (drawn.many-each (λ b. b < 256) (draw 256) (λ y. drawn.draw-small 256 y (omega arith)) (1 + (draw 1514 x).0) (draw 1514 x).1);
    }

abbrev AllPackets : List (List ℕ) → Type 0
AllPackets packets = AllByRecursion (IsPacket longest_packet) packets

channel_fits : (x : ℕ) → AllPackets (channel_drawn x).0
channel_fits x = drawn.many-each (IsPacket longest_packet) packet_drawn packet_fits (1 + (draw 200 x).0) (draw 200 x).1

channels_fit : (number : ℕ) → AllByRecursion AllPackets (case_of number).channels
unfolding case_of
channels_fit number =
    let x = (numbers_drawn number).1 in
    drawn.many-each AllPackets channel_drawn channel_fits (1 + (draw 4 x).0) (draw 4 x).1

none_fit : AreFit longest_packet []
none_fit k d lt = absurd (omega arith)

packets_fit : (from : ℕ) (channels : List (List (List ℕ))) → AllByRecursion AllPackets channels → AreFit longest_packet (packets_from from channels)
packets_fit from [] a = none_fit
packets_fit from (packets ∷ more) a =
    All-append (λ (p : ℕ × List ℕ). IsPacket longest_packet p.1) (on_channel from packets) (packets_from (from + 1) more)
    (All-map (λ (p : ℕ × List ℕ). IsPacket longest_packet p.1) (λ (packet : List ℕ). (from, packet)) packets (All-from_recursion (IsPacket longest_packet) packets a.0))
    (packets_fit (from + 1) more a.1)

pub case_packets : (number : ℕ) → AreFit longest_packet (packets_from 0 (case_of number).channels)
case_packets number = packets_fit 0 (case_of number).channels (channels_fit number)

-- ---- its stream

-- a few numbers from one on are narrow
narrow_from : (prefix : List ℕ) (from n : ℕ) → from + n ≤ 256 → fit_width false (map (λ (c : Listed). c.number) (map (channel_of prefix) (range_with_len from n))) ≡ true
narrow_from prefix from zero few = refl
narrow_from prefix from (suc n) few = and_from (nat_le from 255) (fit_width false (map (λ (c : Listed). c.number) (map (channel_of prefix) (range_with_len (from + 1) n)))) (le-leb from 255 (omega arith)) (narrow_from prefix (from + 1) n (omega arith))

case_width : (prefix : List ℕ) (number : ℕ) → fit_width false (numbers_in (case_reading prefix (case_of number)).reading.plan) ≡ true
case_width prefix number = let few = (drawn.case-fits number).channels.few in narrow_from prefix 0 (length (case_of number).channels) (omega arith)

-- the channels of a case are below 256
pub case_numbers : (prefix : List ℕ) (number : ℕ) → All (λ channel. channel < 256) (channels_in_order (numbers_in (case_reading prefix (case_of number)).reading.plan))
case_numbers prefix number k d lt = let h = width_in_order false (numbers_in (case_reading prefix (case_of number)).reading.plan) (case_width prefix number) k d lt in omega arith

in_range : (from n k j : ℕ) → k < n → from + k ≡ j → Contains (range_with_len from n) j
in_range from n k j lt e = let many = length-range_with_len from n in (k, omega (arith, lt, many), get_or-range_with_len from n k j lt ∙ e)

-- packets of channels by number are on these, where all of their numbers are among them
packets_on : (numbers : List ℕ) (from : ℕ) (channels : List (List (List ℕ))) → ((k j : ℕ) → k < length channels → from + k ≡ j → Contains numbers j) → AreOn numbers (packets_from from channels)
packets_on numbers from [] has = All-nil (λ (p : ℕ × List ℕ). Contains numbers p.0)
packets_on numbers from (packets ∷ more) has =
    All-append (λ (p : ℕ × List ℕ). Contains numbers p.0) (on_channel from packets) (packets_from (from + 1) more)
    (All-map (λ (p : ℕ × List ℕ). Contains numbers p.0) (λ (packet : List ℕ). (from, packet)) packets (λ k d lt. has 0 from (omega arith) (omega arith)))
    (packets_on numbers (from + 1) more (λ k j lt e. has (suc k) j (omega (arith, lt)) (omega (arith, e))))

-- the channels of a case are listed
pub case_listed : (prefix : List ℕ) (number k : ℕ) → k < length (case_of number).channels → Contains (channels_in_order (numbers_in (case_reading prefix (case_of number)).reading.plan)) k
case_listed prefix number k lt =
    let plan = (case_reading prefix (case_of number)).reading.plan in
    let n : ℕ = length (case_of number).channels in
    in_order false (numbers_in plan) k (case_width prefix number)
    (in_mapped (λ (c : Listed). c.number) plan.channels (channel_of prefix k) (in_mapped (channel_of prefix) (range_with_len 0 n) k (in_range 0 n k k lt (omega arith))))

-- and its packets are on them
pub case_on : (prefix : List ℕ) (number : ℕ) → AreOn (channels_in_order (numbers_in (case_reading prefix (case_of number)).reading.plan)) (packets_from 0 (case_of number).channels)
case_on prefix number =
    packets_on (channels_in_order (numbers_in (case_reading prefix (case_of number)).reading.plan)) 0 (case_of number).channels (λ k j lt e. case_listed prefix number j (omega (arith, lt, e)))

all_wide : (cs : List ℕ) → All (λ channel. channel < 256) cs → All (λ channel. channel < 65536) cs
all_wide cs h k d lt = let low = h k d lt in omega arith

-- what its calendar keeps: each of the one to four channels has an entry
listed_few : (prefix : List ℕ) (n : ℕ) → n ≤ 4 → are_listed (map (λ (c : Listed). c.number) (map (channel_of prefix) (range_with_len 0 n))) (range_with_len 0 n) ≡ true
listed_few prefix zero few = refl
listed_few prefix (suc zero) few = refl
listed_few prefix (suc (suc zero)) few = refl
listed_few prefix (suc (suc (suc zero))) few = refl
listed_few prefix (suc (suc (suc (suc zero)))) few = refl
listed_few prefix (suc (suc (suc (suc (suc n))))) few = absurd (omega arith)

case_calendar : (prefix : List ℕ) (number : ℕ) → KeepsValue (case_reading prefix (case_of number)).reading.plan
case_calendar prefix number =
    let n : ℕ = length (case_of number).channels in
    let some : 1 ≤ n = (drawn.case-fits number).channels.some in
    let few : n ≤ 4 = (drawn.case-fits number).channels.few in
    let entries = length-range_with_len 0 n in
    let listed = length-map-range_with_len (channel_of prefix) 0 n in
    let numbers = length-map (map (channel_of prefix) (range_with_len 0 n)) (λ (c : Listed). c.number) in
    record {
      some_channels = omega (arith, some, listed, numbers);
      some_entries = omega (arith, some, entries);
      few_entries = omega (arith, few, entries);
      listed = listed_few prefix n few;
    }

-- what a case comes to on its link
pub some_case_linked : (number : ℕ) (prefix : List ℕ) → (o : Outcome) × IsLinked (case_reading prefix (case_of number)) o
some_case_linked number prefix =
    let c : Case = case_of number in
    let i = case_reading prefix c in
    let link = case_link number in
    let (shape, is) = shape_of i.reading.plan (record { link = link; least_whole = refl; least_high = omega arith; in_width = case_width prefix number; calendar = case_calendar prefix number; window = (omega arith, omega arith) }) in
    let source : Source = record { shape = shape; channels = channels_in_order (numbers_in i.reading.plan); entries = i.reading.plan.entries; packets = i.reading.inputs.packets; flow = []; local = [] } in
    let of : IsSourceOf i.reading.plan i.reading.inputs source = record { shape = is; channels = refl; entries = refl; packets = refl; flow = refl; local = refl } in
    let (w, stream) = of_fitting source (all_wide (channels_in_order (numbers_in i.reading.plan)) (case_numbers prefix number)) (λ k d lt. (case_packets number k d lt).bytes) in
    some_linked i link (drawn.case-fits number).marks.each_lane source of (λ k d lt. (case_packets number k d lt).bytes) w stream
