-- What became of the packets of a channel, by the list of those whose SOP word is in the stream.
use Rattle.std.proofs.Common.{◌≡◌, ℕ, suc, ◌+◌, ◌-◌, ◌<◌, ◌≤◌, ◌==◌, true, ◌&&◌, cond, refl, sym, ap, ◌∙◌, nat_le, List, [], ◌∷◌, map, filter_map, length, take, drop, get_or, Option, Some, None, arith, eqb-true, leb-true, leb-false, All}
use Rattle.std.specs.List.{fold, slice_get}
use Rattle.std.proofs.lemmas.Nat.{le-div, div_below}
use Rattle.std.proofs.lemmas.Bool.Decides.{nat_tests}
use Rattle.std.proofs.lemmas.Bool.{and_parts}
use Rattle.std.proofs.lemmas.List.{drop_all, length-map}
use Rattle.std.proofs.lemmas.List.Sums.{sum_by-cons}
use Rattle.std.proofs.lemmas.Option.{slice_get_past}
use Rattle.std.proofs.lemmas.List.FromFn.{length-enumerate_from}
use Rattle.lk_base.specs.Words.{word_at}
use Rattle.lk_base.specs.Fields.{has_burst, has_sop, channel_number}
use Rattle.lk_base.specs.declared.shape.Shape.{Shape}
use Rattle.lk_base.specs.declared.word.Word.{Word}
use Rattle.lk_base.specs.declared.word.Word.TheVariants.{Data, Control}
use Rattle.receive_model.specs.Pieces as received
use Rattle.receive_model.specs.Lists.{first_of}
use Rattle.receive_model.specs.Positions.{numbered}
use Rattle.receive_model.proofs.Cuts.{split}
use Rattle.stream_model.specs.BurstStream.{Source, IsBurstStream, chunks_by, parts, chunks_of}
use Rattle.stream_model.specs.declared.rows.FlowRow.{FlowRow}
use Rattle.stream_model.specs.declared.rows.LocalRow.{LocalRow}
use Rattle.delivery_laws.specs.SentPackets.{burst_slots, sent_from, sent_packets}
use Rattle.stream_model.proofs.Cutting.{some_chunks_of}
use Rattle.delivery_laws.proofs.Held.{Closed, closed-drop, closed-get}
use Rattle.tx_words.specs.declared.counts.Tally.{Tally}
use Rattle.tx_words.specs.declared.packet.Packet.{Packet}
use Rattle.tx_words.specs.declared.sent.Sent.{Sent}
use Rattle.tx_words.specs.Sent.{AreSent, starts_on}
use Rattle.tx_words.specs.SentLaw.{ended_on}
use Rattle.tx_words.specs.Sources.{packets_by, source_by}
use Rattle.tx_words.specs.Counts.{count_of}
use Rattle.tx_words.specs.Tallies.{count_from, ended_in, is_ended_on, first_tally, with_packet, tally_of}
use Rattle.tx_words.proofs.Counting.{HasSent, first_get, one_more, none_more, packet_none, tally-on, on_channel, same_counts, some_bytes}
use Rattle.tx_words.proofs.ListedSent.{lists_the_sent}
use Rattle.tx_words.proofs.Slots.{all_aligned, aligned-closed, HaveBytes, have_bytes, nothing_sent}

-- ---- a channel sends its first packets

pub first_sent : (shape : Shape) (w : List Word) (ps : List (List ℕ)) (slots : List ℕ) → HaveBytes ps → Closed w slots
    → map (λ (p : received.Packet). p.bytes) (sent_from numbered shape w ps slots) ≡ take (length (sent_from numbered shape w ps slots)) ps
first_sent shape w [] slots each closed = refl
first_sent shape w (bytes ∷ ps) slots (some, each) closed =
    let n : ℕ = length (chunks_by shape bytes) in
    let has : 0 < n = some_chunks_of shape bytes some in
    split (nat_le n (length slots))
    (λ h. let fits : n ≤ length slots = leb-true n (length slots) h in
    let first = closed-get w 0 slots closed (omega arith) in
    let last = closed-get w (n - 1) slots closed (omega arith) in
    let here : first_of slots ≡ Some first.0 = sym (first_get slots) ∙ first.2 in
    let rest = first_sent shape w ps (drop n slots) each (closed-drop w n slots closed) in
    rw (here, last.2, last.3) (ap (λ xs. bytes ∷ xs) rest))
    (λ h. let more : length slots < n = leb-false n (length slots) h in
    let past : slice_get slots (n - 1) ≡ None = slice_get_past slots (n - 1) (omega arith) in
    let none : sent_from numbered shape w ps (drop n slots) ≡ [] = ap (λ (s : List ℕ). sent_from numbered shape w ps s) (drop_all n slots (omega arith)) ∙ nothing_sent shape w ps in
    rw (past, packet_none w bytes (first_of slots), none) refl)

-- ---- each packet takes one burst

parts-one : (most n : ℕ) → 0 < most → 0 < n → n ≤ most → parts most n ≡ 1
parts-one most n positive some fits =
    let low = le-div 1 (n + (most - 1)) most positive (omega arith) in
    let high = div_below (n + (most - 1)) most 2 positive (omega arith) in
    omega arith

-- none has more bytes than these
abbrev pub AreShort : ℕ → List (List ℕ) → Type 0
AreShort most [] = Unit {0}
AreShort most (bytes ∷ ps) = (length bytes ≤ most) × AreShort most ps

pub short_on : (channel most : ℕ) (packets : List Packet) → All (λ (packet : Packet). (1 ≤ length packet.bytes.now) × (length packet.bytes.now ≤ most)) packets → AreShort most (on_channel channel packets)
short_on channel most [] h = tt
short_on channel most (p ∷ packets) h =
    let rest = short_on channel most packets (λ k d l. h (suc k) d (omega arith)) in
    let here = h 0 p (omega arith) in
    split (p.channel == channel)
    (λ e. rw e (here.1, rest))
    (λ e. rw e rest)

tally-first : (most : ℕ) (ps : List (List ℕ)) (sent : List received.Packet) (t : Tally) → 0 < most → HaveBytes ps → AreShort most ps
    → map (λ (p : received.Packet). p.bytes) sent ≡ take (length sent) ps → t.bursts ≡ length sent
    → HasSent t (fold (λ u (bytes : List ℕ). with_packet most u (length bytes)) t ps) sent (length ps)
tally-first most [] [] t positive each short is count = record { packets = omega arith; bytes = omega arith; left = omega arith }
tally-first most [] (p ∷ sent) t positive each short is count = (let no : p.bytes ∷ map (λ (q : received.Packet). q.bytes) sent ≡ [] = is in cc)
tally-first most (bytes ∷ ps) [] t positive (some, each) (fits, short) is count =
    let one : parts most (length bytes) ≡ 1 = parts-one most (length bytes) positive some fits in
    let none : t.bursts ≡ 0 = count in
    let next : Tally = record { bursts = 0; packets = t.packets; bytes = t.bytes; left = t.left + 1 } in
    let rest = tally-first most ps [] next positive each short refl refl in
    rw (one, none) (none_more (record { bursts = 0; packets = t.packets; bytes = t.bytes; left = t.left }) next (fold (λ u (bytes : List ℕ). with_packet most u (length bytes)) next ps) [] (length ps) refl refl refl rest)
tally-first most (bytes ∷ ps) (p ∷ sent) t positive (some, each) (fits, short) is count =
    let one : parts most (length bytes) ≡ 1 = parts-one most (length bytes) positive some fits in
    let same : p.bytes ≡ bytes = cc in
    let others : map (λ (q : received.Packet). q.bytes) sent ≡ take (length sent) ps = cc in
    let next : Tally = record { bursts = length sent; packets = t.packets + 1; bytes = t.bytes + length bytes; left = t.left } in
    let rest = tally-first most ps sent next positive each short others refl in
    let fit : nat_le 1 (length (p ∷ sent)) ≡ true = (let h : 1 ≤ length (p ∷ sent) = omega arith in grind (arith, nat_tests)) in
    let minus : length (p ∷ sent) - 1 ≡ length sent = omega arith in
    rw (one, count, fit, minus) (one_more (record { bursts = length (p ∷ sent); packets = t.packets; bytes = t.bytes; left = t.left }) next (fold (λ u (bytes : List ℕ). with_packet most u (length bytes)) next ps) p sent (length ps) refl (ap (λ (b : List ℕ). t.bytes + length b) (sym same)) refl rest)

-- ---- the listed packets that have their end words

ended_row : (channel c number first : ℕ) (last : Option ℕ) (sent : List Sent) → length (filter_map (ended_on channel) sent) ≡ ended_in channel sent
    → length (filter_map (ended_on channel) (record { channel = c; number = number; first = first; last = last } ∷ sent)) ≡ ended_in channel (record { channel = c; number = number; first = first; last = last } ∷ sent)
ended_row channel c number first None sent rest =
    let more = sum_by-cons (λ (v : Sent). cond (is_ended_on channel v) 1 0) (record { channel = c; number = number; first = first; last = None }) sent in
    split (c == channel)
    (λ e. let m = rw e at more in rw e (rest ∙ sym (m ∙ omega arith)))
    (λ e. let m = rw e at more in rw e (rest ∙ sym (m ∙ omega arith)))
ended_row channel c number first (Some z) sent rest =
    let more = sum_by-cons (λ (v : Sent). cond (is_ended_on channel v) 1 0) (record { channel = c; number = number; first = first; last = Some z }) sent in
    split (c == channel)
    (λ e. let m = rw e at more in rw e (ap suc rest ∙ sym (m ∙ omega arith)))
    (λ e. let m = rw e at more in rw e (rest ∙ sym (m ∙ omega arith)))

ended_rows : (channel : ℕ) (sent : List Sent) → length (filter_map (ended_on channel) sent) ≡ ended_in channel sent
ended_rows channel [] = refl
ended_rows channel (s ∷ sent) = ended_row channel s.channel s.number s.first s.last sent (ended_rows channel sent)

-- as many as the channel sends
pub ended_are_sent : (source : Source) (channel : ℕ) (w : List Word) (sent : List Sent) → All (λ (p : ℕ × List ℕ). 1 ≤ length p.1) source.packets → IsBurstStream source w → AreSent w sent
    → ended_in channel sent ≡ length (sent_packets source channel w)
ended_are_sent source channel w sent each stream are =
    sym (ended_rows channel sent) ∙ ap length (lists_the_sent source channel w sent each stream are) ∙ length-enumerate_from 0 (map (λ (p : received.Packet). (p.first, p.last)) (sent_packets source channel w)) ∙ length-map (sent_packets source channel w) (λ (p : received.Packet). (p.first, p.last))

-- the tally of a channel by its ended packets says what became of its packets
pub counted_listed : (shape : Shape) (channels entries : List ℕ) (packets : List Packet) (flow : List FlowRow) (local : List LocalRow) (w : List Word) (sent : List Sent) (channel : ℕ)
    → All (λ (packet : Packet). (1 ≤ length packet.bytes.now) × (length packet.bytes.now ≤ 262144)) packets
    → IsBurstStream (source_by shape channels entries packets flow local) w → AreSent w sent
    → count_from channel (tally_of 262144 channel (ended_in channel sent) packets) ≡ count_of (source_by shape channels entries packets flow local) w channel
counted_listed shape channels entries packets flow local w sent channel sized stream are =
    let source : Source = source_by shape channels entries packets flow local in
    let slots : List ℕ = burst_slots channel 0 w in
    let each = some_bytes packets sized in
    let bytes = have_bytes channel (packets_by packets) each in
    let first = first_sent shape w (on_channel channel packets) slots bytes (aligned-closed w (chunks_of source channel) slots (all_aligned source channel w stream)) in
    let start : Tally = first_tally (ended_in channel sent) in
    let has = tally-first 262144 (on_channel channel packets) (sent_packets source channel w) start (omega arith) bytes (short_on channel 262144 packets sized) first (ended_are_sent source channel w sent each stream are) in
    ap (count_from channel) (tally-on 262144 channel start packets) ∙ same_counts channel (fold (λ t (bytes : List ℕ). with_packet 262144 t (length bytes)) start (on_channel channel packets)) (sent_packets source channel w) (length (on_channel channel packets)) has.packets has.bytes has.left

-- the channel of a packet is that of its SOP word
pub sent_low : (w : List Word) (sent : List Sent) → AreSent w sent → All (λ (s : Sent). s.channel < 65536) sent
sent_low w sent are k d l = low (get_or sent k d).channel (word_at w (get_or sent k d).first) (are.each k d l).starts
  where
    low : (c : ℕ) (word : Word) → starts_on c word ≡ true → c < 65536
    low c (Data x) h = cc
    low c (Control x) h =
        let one = and_parts (has_burst x) (has_sop x && (channel_number true x == c)) h in
        let at = (and_parts (has_sop x) (channel_number true x == c) one.1).1 in
        let same : channel_number true x ≡ c = eqb-true (channel_number true x) c at in
        let small : channel_number true x < 65536 = omega arith in
        omega (arith, same, small)
