-- The tallies of the channels, and what they come to.
use Rattle.std.proofs.Common.{◌≡◌, ◌≢◌, ℕ, suc, ◌+◌, ◌-◌, ◌<◌, ◌≤◌, ◌==◌, refl, sym, ap, ap₂, Contains, ◌∙◌, nat_le, false, List, [], ◌∷◌, ◌++◌, map, filter, length, take, drop, get_or, Option, Some, None, arith, lit≤, subst, ◌^◌, eq-eqb, eqb-true, leb-true, leb-false, length-drop, All, true}
use Rattle.std.specs.List.{fold, sum_by, slice_get}
use Rattle.std.proofs.Math.ListN.{set}
use Rattle.std.proofs.lemmas.Bool.{false_from_ne_true, eqb-false}
use Rattle.std.proofs.lemmas.List.{get_or-set_same, get_or-set_other, length-set, take_more, length-take-le}
use Rattle.std.proofs.lemmas.List.Elements.{All-map}
use Rattle.std.proofs.lemmas.List.Sums.{fold_push, sum_by-cons, sum_by_push}
use Rattle.std.proofs.lemmas.Option.{slice_get_past}
use Rattle.lk_base.specs.declared.shape.Shape.{Shape}
use Rattle.lk_base.specs.declared.word.Word.{Word}
use Rattle.lk_base.specs.declared.word.Word.TheVariants.{Data, Control}
use Rattle.lk_base.specs.Fields.{has_burst, channel_number}
use Rattle.receive_model.specs.Pieces as received
use Rattle.receive_model.specs.Lists.{first_of}
use Rattle.receive_model.specs.Positions.{numbered}
use Rattle.receive_model.proofs.Cuts.{split}
use Rattle.stream_model.specs.BurstStream.{Source, IsBurstStream, bursts_in, is_burst_on, chunks_by, parts, chunks_of}
use Rattle.stream_model.specs.declared.rows.FlowRow.{FlowRow}
use Rattle.stream_model.specs.declared.rows.LocalRow.{LocalRow}
use Rattle.stream_model.proofs.Cutting.{cut_of, some_chunks_of}
use Rattle.delivery_laws.specs.SentPackets.{burst_slots, packet_on, sent_from, sent_packets}
use Rattle.report_model.specs.declared.counts.SentCount.{SentCount}
use Rattle.tx_words.specs.declared.counts.Tally.{Tally}
use Rattle.tx_words.specs.declared.packet.Packet.{Packet}
use Rattle.tx_words.specs.Sources.{packets_by, source_by}
use Rattle.tx_words.specs.Counts.{count_of}
use Rattle.tx_words.specs.Tallies.{AreTallies, count_from, first_tally, with_packet, with_packet_on, tally_of}
use Rattle.tx_words.specs.Sent.{burst_channel}
use Rattle.tx_words.proofs.Loading.{few, one_packet}
use Rattle.delivery_laws.proofs.Held.{Closed, closed-drop, closed-get, count_slots}
use Rattle.delivery_laws.proofs.Links.{bursts-push}
use Rattle.tx_words.proofs.Slots.{all_aligned, aligned-closed, HaveBytes, have_bytes}

-- the tally of one channel changes
pub tallies-set : (f g : ℕ → Tally) (tallies : List Tally) (channel : ℕ) (tally : Tally) → AreTallies f tallies → channel < 65536 → tally ≡ g channel
    → ((k : ℕ) → k ≢ channel → g k ≡ f k) → AreTallies g (set tallies channel tally)
tallies-set f g tallies channel tally h low here others = record {
  len = length-set tallies channel tally ∙ h.len;
  each = λ k d within. split (k == channel)
      (λ e. let same : k ≡ channel = eqb-true k channel e in
      let inside : channel < length tallies = omega (arith, h.len) in
      ap (λ i. get_or (set tallies channel tally) i d) same ∙ get_or-set_same tallies channel tally d inside ∙ here ∙ ap g (sym same))
      (λ e. let other : k ≢ channel = eqb-false k channel e in
      get_or-set_other tallies channel k tally d other ∙ h.each k d within ∙ sym (others k other));
}

-- one more word: a burst more on its channel, if it is a burst word
on-burst : (word : Word) (channel k : ℕ) → burst_channel word ≡ Some channel → is_burst_on k word ≡ (channel == k)
on-burst (Data x) channel k h = cc
on-burst (Control x) channel k h = split (has_burst x)
    (λ e. let s = rw e at h in let same : channel_number true x ≡ channel = cc s in rw (e, same) refl)
    (λ e. let s = rw e at h in cc s)

pub bursts-one : (p : List Word) (word : Word) (channel : ℕ) → burst_channel word ≡ Some channel → bursts_in (p ++ word ∷ []) channel ≡ bursts_in p channel + 1
bursts-one p word channel h = bursts-push p word channel ∙ rw (on-burst word channel channel h, eq-eqb channel channel refl) refl

pub bursts-other : (p : List Word) (word : Word) (channel k : ℕ) → burst_channel word ≡ Some channel → k ≢ channel → bursts_in (p ++ word ∷ []) k ≡ bursts_in p k
bursts-other p word channel k h other =
    let no : (channel == k) ≡ false = false_from_ne_true (channel == k) (λ e. other (sym (eqb-true channel k e))) in
    bursts-push p word k ∙ rw (on-burst word channel k h, no) (omega arith)

-- one more word
pub tallies-burst : (tallies : List Tally) (before : List Word) (word : Word) (channel : ℕ) (x : Tally) → burst_channel word ≡ Some channel → channel < 65536
    → AreTallies (λ c. first_tally (bursts_in before c)) tallies → x ≡ get_or tallies channel x
    → AreTallies (λ c. first_tally (bursts_in (before ++ word ∷ []) c)) (set tallies channel (record { bursts = x.bursts + 1; packets = x.packets; bytes = x.bytes; left = x.left }))
tallies-burst tallies before word channel x is low h read =
    let f : ℕ → Tally = λ c. first_tally (bursts_in before c) in
    let g : ℕ → Tally = λ c. first_tally (bursts_in (before ++ word ∷ []) c) in
    let was : x ≡ first_tally (bursts_in before channel) = read ∙ h.each channel x low in
    let here : record { bursts = x.bursts + 1; packets = x.packets; bytes = x.bytes; left = x.left } ≡ g channel = rw (was, bursts-one before word channel is) refl in
    tallies-set f g tallies channel (record { bursts = x.bursts + 1; packets = x.packets; bytes = x.bytes; left = x.left }) h low here
    (λ k other. ap first_tally (bursts-other before word channel k is other))

-- the first packets and one more
pub packet-one : (most : ℕ) (n : ℕ → ℕ) (tallies : List Tally) (packets : List Packet) (i : ℕ) (d : Packet) (x y : Tally) → i < length packets → (get_or packets i d).channel < 65536
    → AreTallies (λ c. tally_of most c (n c) (take i packets)) tallies → x ≡ get_or tallies (get_or packets i d).channel x → y ≡ with_packet most x (length (get_or packets i d).bytes.now)
    → AreTallies (λ c. tally_of most c (n c) (take (i + 1) packets)) (set tallies (get_or packets i d).channel y)
packet-one most n tallies packets i d x y within low h read is =
    let packet : Packet = get_or packets i d in
    let more : take (i + 1) packets ≡ take i packets ++ packet ∷ [] = take_more packets i d within in
    let step : (c : ℕ) → tally_of most c (n c) (take (i + 1) packets) ≡ with_packet_on most c (tally_of most c (n c) (take i packets)) packet =
    λ c. ap (tally_of most c (n c)) more ∙ fold_push (with_packet_on most c) (first_tally (n c)) (take i packets) packet in
    let was : x ≡ tally_of most packet.channel (n packet.channel) (take i packets) = read ∙ h.each packet.channel x low in
    let here : y ≡ tally_of most packet.channel (n packet.channel) (take (i + 1) packets) =
    is ∙ ap (λ t. with_packet most t (length packet.bytes.now)) was ∙ sym (step packet.channel ∙ rw (eq-eqb packet.channel packet.channel refl) refl) in
    tallies-set (λ c. tally_of most c (n c) (take i packets)) (λ c. tally_of most c (n c) (take (i + 1) packets)) tallies packet.channel y h low here
    (λ k other. let no : (packet.channel == k) ≡ false = false_from_ne_true (packet.channel == k) (λ e. other (sym (eqb-true packet.channel k e))) in step k ∙ rw no refl)

-- how much this many packets with this many bytes can come to
pub record IsUpTo (tally : Tally) (count total : ℕ) : Type 0 where
  pub packets : tally.packets ≤ count
  pub left : tally.left ≤ count
  pub bytes : tally.bytes ≤ total

abbrev total_of : List Packet → ℕ
total_of packets = sum_by (λ (p : ℕ × List ℕ). length p.1) (packets_by packets)

up_to-with : (most c : ℕ) (tally : Tally) (packet : Packet) (count total : ℕ) → IsUpTo tally count total → IsUpTo (with_packet_on most c tally packet) (count + 1) (total + length packet.bytes.now)
up_to-with most c tally packet count total h = split (packet.channel == c)
    (λ e. rw e (split (nat_le (parts most (length packet.bytes.now)) tally.bursts)
    (λ k. rw k (record { packets = omega (arith, h.packets); left = omega (arith, h.left); bytes = omega (arith, h.bytes) }))
    (λ k. rw k (record { packets = omega (arith, h.packets); left = omega (arith, h.left); bytes = omega (arith, h.bytes) }))))
    (λ e. rw e (record { packets = omega (arith, h.packets); left = omega (arith, h.left); bytes = omega (arith, h.bytes) }))

up_to-from : (most c : ℕ) (tally : Tally) (packets : List Packet) (count total : ℕ) → IsUpTo tally count total → IsUpTo (fold (with_packet_on most c) tally packets) (count + length packets) (total + total_of packets)
up_to-from most c tally [] count total h = record { packets = omega (arith, h.packets); left = omega (arith, h.left); bytes = omega (arith, h.bytes) }
up_to-from most c tally (packet ∷ packets) count total h =
    let more : total_of (packet ∷ packets) ≡ length packet.bytes.now + total_of packets = sum_by-cons (λ (p : ℕ × List ℕ). length p.1) (packet.channel, packet.bytes.now) (packets_by packets) in
    let rest = up_to-from most c (with_packet_on most c tally packet) packets (count + 1) (total + length packet.bytes.now) (up_to-with most c tally packet count total h) in
    record { packets = omega (arith, rest.packets); left = omega (arith, rest.left); bytes = omega (arith, rest.bytes) }

pub up_to-first : (most c n : ℕ) (packets : List Packet) → IsUpTo (tally_of most c n packets) (length packets) (total_of packets)
up_to-first most c n packets =
    let r = up_to-from most c (first_tally n) packets 0 0 (record { packets = omega arith; left = omega arith; bytes = omega arith }) in
    record { packets = omega (arith, r.packets); left = omega (arith, r.left); bytes = omega (arith, r.bytes) }

-- what one more packet needs
pub record HasRoom (tally : Tally) (packet : Packet) : Type 0 where
  pub bytes : tally.bytes + length packet.bytes.now < 2 ^ 41
  pub packets : tally.packets + 1 < 2 ^ 64
  pub left : tally.left + 1 < 2 ^ 64

pub has_room : (most : ℕ) (n : ℕ → ℕ) (tallies : List Tally) (packets : List Packet) (i : ℕ) (d : Packet) (x : Tally) → i < length packets → length packets < 2 ^ 64 → (get_or packets i d).channel < 65536
    → AreTallies (λ c. tally_of most c (n c) (take i packets)) tallies → x ≡ get_or tallies (get_or packets i d).channel x
    → sum_by (λ (p : ℕ × List ℕ). length p.1) (packets_by packets) < 2 ^ 40 → HasRoom x (get_or packets i d)
has_room most n tallies packets i d x within fit low h read bytes =
    let packet : Packet = get_or packets i d in
    let was : x ≡ tally_of most packet.channel (n packet.channel) (take i packets) = read ∙ h.each packet.channel x low in
    let up : IsUpTo x (length (take i packets)) (total_of (take i packets)) = subst (λ t. IsUpTo t (length (take i packets)) (total_of (take i packets))) (sym was) (up_to-first most packet.channel (n packet.channel) (take i packets)) in
    let few_bytes : total_of (take (i + 1) packets) < 2 ^ 40 = few packets (i + 1) (2 ^ 40) bytes in
    let all : total_of (take (i + 1) packets) ≡ total_of (take i packets) + length packet.bytes.now =
    ap (sum_by (λ (p : ℕ × List ℕ). length p.1)) (sym (one_packet packets i d within)) ∙ sum_by_push (λ (p : ℕ × List ℕ). length p.1) (packets_by (take i packets)) (packet.channel, packet.bytes.now) in
    let some : i ≤ length packets = omega arith in
    let count : length (take i packets) ≡ i = length-take-le i packets some in
    let far : total_of (take i packets) + length packet.bytes.now < 2 ^ 40 = subst (λ m. m < 2 ^ 40) all few_bytes in
    record { bytes = below-next (x.bytes + length packet.bytes.now) (total_of (take i packets) + length packet.bytes.now) (2 ^ 40) (2 ^ 41) (omega (arith, up.bytes)) far (lit≤ tt); packets = within-next x.packets (length (take i packets)) i (length packets) (2 ^ 64) up.packets count within fit; left = within-next x.left (length (take i packets)) i (length packets) (2 ^ 64) up.left count within fit }
  where
    below-next : (a b m n : ℕ) → a ≤ b → b < m → m ≤ n → a < n
    below-next a b m n h k l = omega arith

    within-next : (a c i n m : ℕ) → a ≤ c → c ≡ i → i < n → n < m → a + 1 < m
    within-next a c i n m h e k l = omega arith

-- the packets of one channel
abbrev pub on_channel : ℕ → List Packet → List (List ℕ)
on_channel channel packets = map (λ (p : ℕ × List ℕ). p.1) (filter (λ (p : ℕ × List ℕ). p.0 == channel) (packets_by packets))

-- the tally of a channel is one of its own packets
pub tally-on : (most channel : ℕ) (tally : Tally) (packets : List Packet) → fold (with_packet_on most channel) tally packets ≡ fold (λ t (bytes : List ℕ). with_packet most t (length bytes)) tally (on_channel channel packets)
tally-on most channel tally [] = refl
tally-on most channel tally (packet ∷ packets) = split (packet.channel == channel)
    (λ e. rw e (tally-on most channel (with_packet most tally (length packet.bytes.now)) packets))
    (λ e. rw e (tally-on most channel tally packets))

-- what a tally has more than another: these packets sent, of this many
pub record HasSent (from to : Tally) (sent : List received.Packet) (count : ℕ) : Type 0 where
  pub packets : to.packets ≡ from.packets + length sent
  pub bytes : to.bytes ≡ from.bytes + sum_by (λ (p : received.Packet). length p.bytes) sent
  pub left : to.left + length sent ≡ from.left + count

pub one_more : (from next to : Tally) (p : received.Packet) (sent : List received.Packet) (count : ℕ) → next.packets ≡ from.packets + 1 → next.bytes ≡ from.bytes + length p.bytes → next.left ≡ from.left
    → HasSent next to sent count → HasSent from to (p ∷ sent) (suc count)
one_more from next to p sent count packets bytes left h =
    let sum : sum_by (λ (q : received.Packet). length q.bytes) (p ∷ sent) ≡ length p.bytes + sum_by (λ (q : received.Packet). length q.bytes) sent = sum_by-cons (λ (q : received.Packet). length q.bytes) p sent in
    record { packets = omega (arith, h.packets); bytes = omega (arith, h.bytes); left = omega (arith, h.left) }

pub none_more : (from next to : Tally) (sent : List received.Packet) (count : ℕ) → next.packets ≡ from.packets → next.bytes ≡ from.bytes → next.left ≡ from.left + 1
    → HasSent next to sent count → HasSent from to sent (suc count)
none_more from next to sent count packets bytes left h = record { packets = omega (arith, h.packets); bytes = omega (arith, h.bytes); left = omega (arith, h.left) }

pub packet_none : (w : List Word) (bytes : List ℕ) (first : Option ℕ) → packet_on numbered w bytes first None ≡ None
packet_none w bytes None = refl
packet_none w bytes (Some a) = refl

pub first_get : (xs : List ℕ) → slice_get xs 0 ≡ first_of xs
first_get [] = refl
first_get (x ∷ xs) = refl

tally-sent : (shape : Shape) (w : List Word) (ps : List (List ℕ)) (slots : List ℕ) (tally : Tally) → HaveBytes ps → Closed w slots → tally.bursts ≡ length slots
    → HasSent tally (fold (λ t (bytes : List ℕ). with_packet shape.burst_max t (length bytes)) tally ps) (sent_from numbered shape w ps slots) (length ps)
tally-sent shape w [] slots tally each closed same = record { packets = omega arith; bytes = omega arith; left = omega arith }
tally-sent shape w (bytes ∷ ps) slots tally (some, each) closed same =
    let n : ℕ = length (chunks_by shape bytes) in
    let count : n ≡ parts shape.burst_max (length bytes) = (cut_of shape bytes).count in
    let has : 0 < n = some_chunks_of shape bytes some in
    let left : length (drop n slots) ≡ length slots - n = length-drop n slots in
    split (nat_le (parts shape.burst_max (length bytes)) tally.bursts)
    (λ h. let fits : parts shape.burst_max (length bytes) ≤ tally.bursts = leb-true (parts shape.burst_max (length bytes)) tally.bursts h in
    let first = closed-get w 0 slots closed (omega arith) in
    let last = closed-get w (n - 1) slots closed (omega arith) in
    let here : first_of slots ≡ Some first.0 = sym (first_get slots) ∙ first.2 in
    let next : Tally = record { bursts = tally.bursts - parts shape.burst_max (length bytes); packets = tally.packets + 1; bytes = tally.bytes + length bytes; left = tally.left } in
    let rest = tally-sent shape w ps (drop n slots) next each (closed-drop w n slots closed) (omega arith) in
    rw (h, here, last.2, last.3) (one_more tally next (fold (λ t (bytes : List ℕ). with_packet shape.burst_max t (length bytes)) next ps) (record { bytes = bytes; first = numbered first.0; last = numbered last.1 }) (sent_from numbered shape w ps (drop n slots)) (length ps) refl refl refl rest))
    (λ h. let more : tally.bursts < parts shape.burst_max (length bytes) = leb-false (parts shape.burst_max (length bytes)) tally.bursts h in
    let next : Tally = record { bursts = 0; packets = tally.packets; bytes = tally.bytes; left = tally.left + 1 } in
    let past : slice_get slots (n - 1) ≡ None = slice_get_past slots (n - 1) (omega arith) in
    let rest = tally-sent shape w ps (drop n slots) next each (closed-drop w n slots closed) (omega arith) in
    rw (h, past, packet_none w bytes (first_of slots)) (none_more tally next (fold (λ t (bytes : List ℕ). with_packet shape.burst_max t (length bytes)) next ps) (sent_from numbered shape w ps (drop n slots)) (length ps) refl refl refl rest))

pub some_bytes : (packets : List Packet) → All (λ (packet : Packet). (1 ≤ length packet.bytes.now) × (length packet.bytes.now ≤ 262144)) packets → All (λ (p : ℕ × List ℕ). 1 ≤ length p.1) (packets_by packets)
some_bytes packets h = All-map (λ (p : ℕ × List ℕ). 1 ≤ length p.1) (λ (packet : Packet). (packet.channel, packet.bytes.now)) packets (λ k d l. (h k d l).0)

-- what a tally has more than an empty one is what became of the packets
pub same_counts : (channel : ℕ) (t : Tally) (sent : List received.Packet) (count : ℕ) → t.packets ≡ 0 + length sent → t.bytes ≡ 0 + sum_by (λ (p : received.Packet). length p.bytes) sent → t.left + length sent ≡ 0 + count
    → count_from channel t ≡ record { channel = channel; packets = length sent; bytes = sum_by (λ (p : received.Packet). length p.bytes) sent; left = count - length sent }
same_counts channel t sent count packets bytes left =
    let a : t.packets ≡ length sent = omega arith in
    let b : t.bytes ≡ sum_by (λ (p : received.Packet). length p.bytes) sent = omega arith in
    let l : t.left ≡ count - length sent = omega arith in
    rw (a, b, l) refl

-- the tally of a channel says what became of its packets
pub counted : (shape : Shape) (channels entries : List ℕ) (packets : List Packet) (flow : List FlowRow) (local : List LocalRow) (w : List Word) (channel : ℕ)
    → All (λ (packet : Packet). (1 ≤ length packet.bytes.now) × (length packet.bytes.now ≤ 262144)) packets
    → IsBurstStream (source_by shape channels entries packets flow local) w
    → count_from channel (tally_of shape.burst_max channel (bursts_in w channel) packets) ≡ count_of (source_by shape channels entries packets flow local) w channel
counted shape channels entries packets flow local w channel sized stream =
    let source : Source = source_by shape channels entries packets flow local in
    let slots : List ℕ = burst_slots channel 0 w in
    let sent = tally-sent shape w (on_channel channel packets) slots (first_tally (bursts_in w channel)) (have_bytes channel (packets_by packets) (some_bytes packets sized)) (aligned-closed w (chunks_of source channel) slots (all_aligned source channel w stream)) (sym (count_slots channel 0 w)) in
    ap (count_from channel) (tally-on shape.burst_max channel (first_tally (bursts_in w channel)) packets) ∙ same_counts channel (fold (λ t (bytes : List ℕ). with_packet shape.burst_max t (length bytes)) (first_tally (bursts_in w channel)) (on_channel channel packets)) (sent_packets source channel w) (length (on_channel channel packets)) sent.packets sent.bytes sent.left

-- the tallies of all numbers say what became of the packets of each of these channels
pub all_counted : (source : Source) (w : List Word) (tally : ℕ → Tally) (tallies : List Tally) (some : List ℕ)
    → AreTallies tally tallies → All (λ (c : ℕ). c ≤ 65535) some → ((c : ℕ) → count_from c (tally c) ≡ count_of source w c)
    → map (λ c. count_from c (get_or tallies c (first_tally 0))) some ≡ map (count_of source w) some
all_counted source w tally tallies [] are narrow each = refl
all_counted source w tally tallies (c ∷ some) are narrow each =
    let low : c ≤ 65535 = narrow 0 c (omega arith) in
    let rest = all_counted source w tally tallies some are (λ k d l. narrow (suc k) d (omega arith)) each in
    let here : count_from c (get_or tallies c (first_tally 0)) ≡ count_of source w c = ap (count_from c) (are.each c (first_tally 0) (omega arith)) ∙ each c in
    ap₂ (λ (x : SentCount) xs. x ∷ xs) here rest

-- the channels of packets on listed channels have sixteen bits
pub fit_packets : (channels : List ℕ) (packets : List Packet) → All (λ (c : ℕ). c ≤ 65535) channels → All (λ (packet : Packet). Contains channels packet.channel) packets → All (λ (packet : Packet). packet.channel ≤ 65535) packets
fit_packets channels packets low listed k d h =
    let at = listed k d h in
    subst (λ c. c ≤ 65535) at.2 (low at.0 (get_or packets k d).channel at.1)
