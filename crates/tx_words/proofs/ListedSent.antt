-- The listed packets of a channel that have their end words are its sent packets.
use Rattle.std.proofs.Common.{◌≡◌, ℕ, zero, suc, ◌+◌, ◌-◌, ◌<◌, ◌≤◌, ◌==◌, ◌&&◌, refl, sym, ap, ap₂, ◌∙◌, subst, cond, true, false, Bool, List, [], ◌∷◌, ◌++◌, append_assoc, map, filter, filter_map, flat_map, take, drop, length, nat_le, slice_get, count_by, Option, Some, None, option_and_then, MatchOption, All, arith, eq-eqb, eqb-true, leb-false, length-drop}
use Rattle.std.specs.List.{enumerate_from, cons_option}
use Rattle.std.specs.Option.{option_map}
use Rattle.std.proofs.Math.Bool.{and-true}
use Rattle.std.proofs.Math.Seq.{take-append_seam}
use Rattle.std.proofs.lemmas.Bool.{and_parts}
use Rattle.std.proofs.lemmas.List.{length_push, length-map, drop_all}
use Rattle.std.proofs.lemmas.List.Sums.{sum_by-cons, length-filter, count_by-le-length}
use Rattle.std.proofs.lemmas.Option.{slice_get_within}
use Rattle.lk_base.specs.Words.{word_at}
use Rattle.lk_base.specs.Fields.{channel_number, has_burst, has_sop}
use Rattle.lk_base.specs.declared.position.Pos.{Pos}
use Rattle.lk_base.specs.declared.shape.Shape.{Shape}
use Rattle.lk_base.specs.declared.word.Word.{Word}
use Rattle.lk_base.specs.declared.word.Word.TheVariants.{Data, Control}
use Rattle.receive_model.specs.Pieces as received
use Rattle.receive_model.specs.Positions.{numbered}
use Rattle.receive_model.proofs.Cuts.{split}
use Rattle.stream_model.specs.BurstStream.{Source, IsBurstStream, Chunk, piece_size, next_chunk, cut, chunks_by, packets_of}
use Rattle.delivery_laws.specs.SentPackets.{burst_slots, control_slot, next_control, packet_on, sent_from}
use Rattle.delivery_laws.proofs.Held.{Closed, closed-get}
use Rattle.stream_model.proofs.Cutting.{CanCut, Whole, Shorter, Full, size_cases, cut_nil, rest_less, can_cut}
use Rattle.tx_words.specs.declared.sent.Sent.{Sent}
use Rattle.tx_words.specs.Sent.{starts, starts_on, slots_where, IsEnd, IsSent}
use Rattle.tx_words.specs.SentLaw.{EachHasBytes, ended_on, ListsTheSent, StartsItsPackets, OneList}
use Rattle.tx_words.proofs.Opening.{count-push}
use Rattle.tx_words.proofs.Slots.{starts_at, ends_after, next_ends, Aligned, IdlesEndNone, all_aligned, all_idles, aligned-closed, HaveBytes, have_bytes, nothing_sent}
use Rattle.tx_words.proofs.Listing.{is_last, is_last-control, end_in, end-found, end-read, one_end_slot, rest_end, own_end, own-seam, starts_at-seam, starts-seam}

-- the packets that start at some of these slots, the first with number k: number, slot of the SOP word, slot of the end word
abbrev entries : List Word → ℕ → List ℕ → List (ℕ × (ℕ × Option ℕ))
entries w k [] = []
entries w k (s ∷ slots) = cond (starts_at w s) ((k, (s, own_end w s slots)) ∷ entries w (k + 1) slots) (entries w k slots)

abbrev row : Sent → ℕ × (ℕ × Option ℕ)
row s = (s.number, (s.first, s.last))

abbrev EachSent : List Word → List Sent → Type 0
EachSent w [] = Unit {0}
EachSent w (s ∷ rest) = IsSent w s × EachSent w rest

each_sent : (w : List Word) (sent : List Sent) → All (IsSent w) sent → EachSent w sent
each_sent w [] h = tt
each_sent w (s ∷ rest) h = (h 0 s (omega arith), each_sent w rest (λ k d l. h (suc k) d (omega arith)))

-- ---- from the list to the slots

on_channel : (c y : ℕ) → starts_on c (Control y) ≡ true → channel_number true y ≡ c
on_channel c y h =
    let one = and_parts (has_burst y) (has_sop y && (channel_number true y == c)) h in
    let two = and_parts (has_sop y) (channel_number true y == c) one.1 in
    eqb-true (channel_number true y) c two.1

-- the entry of a packet whose SOP word stands right after p
head_row : (c : ℕ) (p : List Word) (y : ℕ) (q : List Word) (e : Sent) → IdlesEndNone q → has_burst y ≡ true → e.first ≡ length p → e.channel ≡ c → channel_number true y ≡ c → IsSent (p ++ Control y ∷ q) e
    → row e ≡ (count_by (starts_on c) p, (length p, own_end (p ++ Control y ∷ q) (length p) (burst_slots c (length p + 1) q)))
head_row c p y q e idles burst first channel on h =
    let w : List Word = p ++ Control y ∷ q in
    let same : (p ++ Control y ∷ []) ++ q ≡ w = append_assoc p (Control y ∷ []) q in
    let long : length (p ++ Control y ∷ []) ≡ length p + 1 = length_push p (Control y) in
    let last : is_last c (p ++ Control y ∷ []) ≡ true = is_last-control c y p ∙ rw (burst, eq-eqb (channel_number true y) c on) refl in
    let found = end-found c (length p) (p ++ Control y ∷ []) q (omega arith) (λ u a b. absurd (omega (arith, long))) in
    let here = rw (same, long, last) at found in
    let read : end_in c true (length p + 1) q ≡ cond (next_ends q && true) (control_slot (length p + 1) q) (rest_end w (burst_slots c (length p + 1) q)) = rw (same, long) at (end-read c true (p ++ Control y ∷ []) q idles) in
    let mine : MatchOption e.last ((z : ℕ) → IsEnd w c (length p) z → ⊥) (λ z. IsEnd w c (length p) z) =
    subst (λ f. MatchOption e.last ((z : ℕ) → IsEnd w c f z → ⊥) (λ z. IsEnd w c f z)) first (subst (λ i. MatchOption e.last ((z : ℕ) → IsEnd w i e.first z → ⊥) (λ z. IsEnd w i e.first z)) channel h.last) in
    let end : e.last ≡ own_end w (length p) (burst_slots c (length p + 1) q) =
    one_end_slot w c (length p) e.last (end_in c true (length p + 1) q) mine here ∙ read
    ∙ ap (λ b. cond b (control_slot (length p + 1) q) (rest_end w (burst_slots c (length p + 1) q))) (and-true (next_ends q)) ∙ sym (own-seam p y q (burst_slots c (length p + 1) q)) in
    let number : e.number ≡ count_by (starts_on c) p = h.number ∙ ap (λ i. count_by (starts_on i) (take e.first w)) channel ∙ ap (λ f. count_by (starts_on c) (take f w)) first ∙ ap (count_by (starts_on c)) (take-append_seam p (Control y ∷ q)) in
    rw (number, first, end) refl

-- what is to show of the entries whose SOP words stand after p
abbrev RowsAre : ℕ → List Word → List Word → Type 0
RowsAre c p q = (es : List Sent) → map (λ (s : Sent). s.first) es ≡ slots_where starts (length p) q → EachSent (p ++ q) es
    → map row (filter (λ (s : Sent). s.channel == c) es) ≡ entries (p ++ q) (count_by (starts_on c) p) (burst_slots c (length p) q)

rows-start : (c : ℕ) (p : List Word) (y : ℕ) (q : List Word) → IdlesEndNone q → RowsAre c (p ++ Control y ∷ []) q → (es : List Sent)
    → map (λ (s : Sent). s.first) es ≡ length p ∷ slots_where starts (length p + 1) q → EachSent (p ++ Control y ∷ q) es → has_burst y ≡ true → has_sop y ≡ true
    → map row (filter (λ (s : Sent). s.channel == c) es) ≡ entries (p ++ Control y ∷ q) (count_by (starts_on c) p) (burst_slots c (length p) (Control y ∷ q))
rows-start c p y q idles again [] f each b s = cc
rows-start c p y q idles again (e ∷ es) f (is, each) b s =
    let same : (p ++ Control y ∷ []) ++ q ≡ p ++ Control y ∷ q = append_assoc p (Control y ∷ []) q in
    let long : length (p ++ Control y ∷ []) ≡ length p + 1 = length_push p (Control y) in
    let first : e.first ≡ length p = cc in
    let firsts_of : map (λ (s : Sent). s.first) es ≡ slots_where starts (length p + 1) q = cc in
    let started : starts_on e.channel (Control y) ≡ true = sym (starts-seam e.channel p (Control y) q) ∙ subst (λ i. starts_on e.channel (word_at (p ++ Control y ∷ q) i) ≡ true) first is.starts in
    let channel : channel_number true y ≡ e.channel = on_channel e.channel y started in
    let rest = again es (rw long firsts_of) (rw same each) in
    split (channel_number true y == c)
    (λ k. let on : channel_number true y ≡ c = eqb-true (channel_number true y) c k in
    let mine : e.channel ≡ c = sym channel ∙ on in
    let count : count_by (starts_on c) (p ++ Control y ∷ []) ≡ count_by (starts_on c) p + 1 = count-push (starts_on c) p (Control y) ∙ rw (b, s, k) refl in
    let later = rw (same, long, count) at rest in
    rw (b, k, eq-eqb e.channel c mine, starts_at-seam p y q, s) (ap₂ (λ (h : ℕ × (ℕ × Option ℕ)) t. h ∷ t) (head_row c p y q e idles b first mine on is) later))
    (λ k. let other : (e.channel == c) ≡ false = ap (λ i. i == c) (sym channel) ∙ k in
    let count : count_by (starts_on c) (p ++ Control y ∷ []) ≡ count_by (starts_on c) p = count-push (starts_on c) p (Control y) ∙ rw (b, s, k) (omega arith) in
    let later = rw (same, long, count) at rest in
    rw (b, k, other) later)

rows-are : (c : ℕ) (p q : List Word) → IdlesEndNone q → RowsAre c p q
rows-are c p [] idles [] firsts each = refl
rows-are c p [] idles (e ∷ es) firsts each = cc
rows-are c p (Data x ∷ q) idles es firsts each =
    let same : (p ++ Data x ∷ []) ++ q ≡ p ++ Data x ∷ q = append_assoc p (Data x ∷ []) q in
    let long : length (p ++ Data x ∷ []) ≡ length p + 1 = length_push p (Data x) in
    let count : count_by (starts_on c) (p ++ Data x ∷ []) ≡ count_by (starts_on c) p = count-push (starts_on c) p (Data x) ∙ omega arith in
    let rest = rows-are c (p ++ Data x ∷ []) q idles es (rw long firsts) (rw same each) in
    rw (same, long, count) at rest
rows-are c p (Control y ∷ q) (idle, idles) es firsts each =
    let same : (p ++ Control y ∷ []) ++ q ≡ p ++ Control y ∷ q = append_assoc p (Control y ∷ []) q in
    let long : length (p ++ Control y ∷ []) ≡ length p + 1 = length_push p (Control y) in
    let again : RowsAre c (p ++ Control y ∷ []) q = rows-are c (p ++ Control y ∷ []) q idles in
    split (has_burst y)
    (λ b. split (has_sop y)
    (λ s. let f = rw (b, s) at firsts in rows-start c p y q idles again es f each b s)
    (λ s. let f = rw (b, s) at firsts in
    let count : count_by (starts_on c) (p ++ Control y ∷ []) ≡ count_by (starts_on c) p = count-push (starts_on c) p (Control y) ∙ rw (b, s) (omega arith) in
    let rest = again es (rw long f) (rw same each) in
    let later = rw (same, long, count) at rest in
    split (channel_number true y == c)
    (λ k. rw (b, k, starts_at-seam p y q, s) later)
    (λ k. rw (b, k) later)))
    (λ b. let f = rw b at firsts in
    let count : count_by (starts_on c) (p ++ Control y ∷ []) ≡ count_by (starts_on c) p = count-push (starts_on c) p (Control y) ∙ rw b (omega arith) in
    let rest = again es (rw long f) (rw same each) in
    let later = rw (same, long, count) at rest in
    rw b later)

-- ---- from the slots to the packets

-- the chunks of a packet: the first alone is marked as the first, the last alone as the last
abbrev pub IsRun : Bool → Chunk → List Chunk → Type 0
IsRun b x [] = (x.is_first ≡ b) × (x.is_last ≡ true)
IsRun b x (y ∷ rest) = (x.is_first ≡ b) × (x.is_last ≡ false) × IsRun false y rest

pub record RunOf (b : Bool) (chunks : List Chunk) : Type 0 where
  pub head : Chunk
  pub later : List Chunk
  pub is : chunks ≡ head ∷ later
  pub run : IsRun b head later

cut-run : (most least : ℕ) → CanCut most least → (count : ℕ) (b : Bool) (bytes : List ℕ) → 0 < length bytes → length bytes ≤ count → RunOf b (cut most least count b bytes)
cut-run most least can zero b bytes some enough = absurd (omega arith)
cut-run most least can (suc count) b [] some enough = absurd (omega arith)
cut-run most least can (suc count) b (byte ∷ bytes) some enough =
    let all : List ℕ = byte ∷ bytes in
    let size : ℕ = piece_size most least (length all) in
    let room = length-drop size all in
    split (nat_le (length all) most)
    (λ h.
    let whole : size ≡ length all = rw h refl in
    let none : drop size all ≡ [] = drop_all size all (omega arith) in
    record {
      head = next_chunk most least b all;
      later = [];
      is = ap (λ (cs : List Chunk). next_chunk most least b all ∷ cs) (ap (cut most least count false) none ∙ cut_nil most least count false);
      run = (refl, h);
    })
    (λ h.
    let longer : most < length all = leb-false (length all) most h in
    let half = can.half in
    let positive = can.some in
    let left : 0 < length (drop size all) = elim (size_cases most least (length all)) [ Whole k e ↦ absurd (omega arith) | Shorter k l e ↦ omega arith | Full k l e ↦ omega arith ] in
    let rest = cut-run most least can count false (drop size all) left (rest_less most least can count byte bytes enough) in
    record {
      head = next_chunk most least b all;
      later = rest.head ∷ rest.later;
      is = ap (λ (cs : List Chunk). next_chunk most least b all ∷ cs) rest.is;
      run = (refl, h, rest.run);
    })

pub packet-run : (shape : Shape) (bytes : List ℕ) → 0 < length bytes → RunOf true (chunks_by shape bytes)
packet-run shape bytes some = cut-run shape.burst_max shape.burst_min (can_cut shape) (length bytes) true bytes some (omega arith)

-- the bursts that carry the chunks of a packet, the first of them at slot s
record RunReads (w : List Word) (s : ℕ) (slots : List ℕ) (later more : List Chunk) : Type 0 where
  end : own_end w s slots ≡ option_and_then (next_control w) (slice_get (s ∷ slots) (length later))
  rest : (k : ℕ) → entries w k slots ≡ entries w k (drop (length later) slots)
  aligned : Aligned w more (drop (length later) slots)

run-reads : (w : List Word) (b : Bool) (x : Chunk) (later more : List Chunk) (s : ℕ) (slots : List ℕ) → IsRun b x later → Aligned w (x ∷ later ++ more) (s ∷ slots) → RunReads w s slots later more
run-reads w b x [] more s slots (first, last) (start, next, end, aligned) =
    let ended : ends_after w s ≡ true = end ∙ last in
    record { end = rw ended refl; rest = λ k. refl; aligned = aligned }
run-reads w b x (y ∷ later) more s [] (first, last, run) (start, next, end, aligned) =
    let going : ends_after w s ≡ false = end ∙ last in
    record { end = rw going refl; rest = λ k. refl; aligned = tt }
run-reads w b x (y ∷ later) more s (t ∷ slots) (first, last, run) (start, next, end, aligned) =
    let going : ends_after w s ≡ false = end ∙ last in
    let no_start : starts_at w t ≡ false = aligned.0 ∙ run_first y later run in
    let r = run-reads w false y later more t slots run aligned in
    record {
      end = rw (going, no_start) r.end;
      rest = λ k. rw no_start (r.rest k);
      aligned = r.aligned;
    }
  where
    run_first : (y : Chunk) (later : List Chunk) → IsRun false y later → y.is_first ≡ false
    run_first y [] h = h.0
    run_first y (z ∷ later) h = h.0

-- past the last there are none
none_past : (slots : List ℕ) (k : ℕ) → slice_get slots k ≡ None → drop (suc k) slots ≡ []
none_past [] k e = refl
none_past (s ∷ slots) zero e = cc
none_past (s ∷ slots) (suc k) e = none_past slots k e

-- of an entry with an end word: its number and the places
abbrev pick : ℕ × (ℕ × Option ℕ) → Option (ℕ × (Pos × Pos))
pick e = option_map (λ z. (e.0, (numbered e.1.0, numbered z))) e.1.1

abbrev places : received.Packet → Pos × Pos
places p = (p.first, p.last)

sent-read : (shape : Shape) (w : List Word) (ps : List (List ℕ)) (k : ℕ) (slots : List ℕ) → HaveBytes ps → Aligned w (flat_map (chunks_by shape) ps) slots
    → filter_map pick (entries w k slots) ≡ enumerate_from k (map places (sent_from numbered shape w ps slots))
sent-read shape w [] k [] each h = refl
sent-read shape w [] k (s ∷ slots) each h = absurd h
sent-read shape w (bytes ∷ ps) k [] each h = rw (nothing_sent shape w (bytes ∷ ps)) refl
sent-read shape w (bytes ∷ ps) k (s ∷ slots) (some, each) h =
    let run = packet-run shape bytes some in
    let aligned : Aligned w (run.head ∷ run.later ++ flat_map (chunks_by shape) ps) (s ∷ slots) = subst (λ (xs : List Chunk). Aligned w (xs ++ flat_map (chunks_by shape) ps) (s ∷ slots)) run.is h in
    let r = run-reads w true run.head run.later (flat_map (chunks_by shape) ps) s slots run.run aligned in
    let start : starts_at w s ≡ true = aligned.0 ∙ run_first run.head run.later run.run in
    let n : length (chunks_by shape bytes) ≡ suc (length run.later) = ap length run.is in
    let m : suc (length run.later) - 1 ≡ length run.later = omega arith in
    let rest = sent-read shape w ps (k + 1) (drop (length run.later) slots) each r.aligned in
    rw (start, n, m, r.end, r.rest (k + 1))
    (by w bytes ps k s slots (length run.later) shape (slice_get (s ∷ slots) (length run.later)) refl
    (aligned-closed w (run.head ∷ run.later ++ flat_map (chunks_by shape) ps) (s ∷ slots) aligned) rest)
  where
    run_first : (x : Chunk) (later : List Chunk) → IsRun true x later → x.is_first ≡ true
    run_first x [] h = h.0
    run_first x (y ∷ later) h = h.0

    by : (w : List Word) (bytes : List ℕ) (ps : List (List ℕ)) (k s : ℕ) (slots : List ℕ) (m : ℕ) (shape : Shape) (o : Option ℕ) → o ≡ slice_get (s ∷ slots) m
        → Closed w (s ∷ slots)
        → filter_map pick (entries w (k + 1) (drop m slots)) ≡ enumerate_from (k + 1) (map places (sent_from numbered shape w ps (drop m slots)))
        → filter_map pick ((k, (s, option_and_then (next_control w) o)) ∷ entries w (k + 1) (drop m slots))
        ≡ enumerate_from k (map places (cons_option (packet_on numbered w bytes (Some s) o) (sent_from numbered shape w ps (drop m slots))))
    by w bytes ps k s slots m shape (Some t) e closed rest =
        let got = closed-get w m (s ∷ slots) closed (slice_get_within (s ∷ slots) m t (sym e)) in
        let same : got.0 ≡ t = (let is : Some got.0 ≡ Some t = sym got.2 ∙ sym e in cc) in
        let next : next_control w t ≡ Some got.1 = ap (next_control w) (sym same) ∙ got.3 in
        rw next (ap (λ xs. (k, (numbered s, numbered got.1)) ∷ xs) rest)
    by w bytes ps k s slots m shape None e closed rest =
        let none : drop m slots ≡ [] = none_past (s ∷ slots) m (sym e) in
        rw (none, nothing_sent shape w ps) refl

ended_rows : (c : ℕ) (es : List Sent) → filter_map (ended_on c) es ≡ filter_map pick (map row (filter (λ (s : Sent). s.channel == c) es))
ended_rows c [] = refl
ended_rows c (e ∷ es) = split (e.channel == c)
    (λ h. rw h (ap (cons_option (pick (row e))) (ended_rows c es)))
    (λ h. rw h (ended_rows c es))

pub lists_the_sent : ListsTheSent
lists_the_sent source channel w sent each stream are =
    let rows = rows-are channel [] w (all_idles source w stream) sent are.firsts (each_sent w sent are.each) in
    let read = sent-read source.shape w (packets_of source channel) 0 (burst_slots channel 0 w) (have_bytes channel source.packets each) (all_aligned source channel w stream) in
    ended_rows channel sent ∙ ap (filter_map pick) rows ∙ read

-- ---- how many packets start

count_entries : (c k : ℕ) (p q : List Word) → length (entries (p ++ q) k (burst_slots c (length p) q)) ≡ count_by (starts_on c) q
count_entries c k p [] = refl
count_entries c k p (Data x ∷ q) =
    let rest = count_entries c k (p ++ Data x ∷ []) q in
    let here = rw (append_assoc p (Data x ∷ []) q, length_push p (Data x)) at rest in
    here ∙ sym (sum_by-cons (λ (v : Word). cond (starts_on c v) 1 0) (Data x) q ∙ omega arith)
count_entries c k p (Control y ∷ q) =
    let again : (j : ℕ) → length (entries (p ++ Control y ∷ q) j (burst_slots c (length p + 1) q)) ≡ count_by (starts_on c) q =
    λ j. (let rest = count_entries c j (p ++ Control y ∷ []) q in rw (append_assoc p (Control y ∷ []) q, length_push p (Control y)) at rest) in
    let more : count_by (starts_on c) (Control y ∷ q) ≡ cond (starts_on c (Control y)) 1 0 + count_by (starts_on c) q = sum_by-cons (λ (v : Word). cond (starts_on c v) 1 0) (Control y) q in
    split (has_burst y)
    (λ b. split (channel_number true y == c)
    (λ k'. split (has_sop y)
    (λ s. let m = rw (b, k', s) at more in rw (b, k', starts_at-seam p y q, s) (ap suc (again (k + 1)) ∙ sym (m ∙ omega arith)))
    (λ s. let m = rw (b, k', s) at more in rw (b, k', starts_at-seam p y q, s) (again k ∙ sym (m ∙ omega arith))))
    (λ k'. split (has_sop y)
    (λ s. let m = rw (b, k', s) at more in rw (b, k', s) (again k ∙ sym (m ∙ omega arith)))
    (λ s. let m = rw (b, k', s) at more in rw (b, k', s) (again k ∙ sym (m ∙ omega arith)))))
    (λ b. let m = rw b at more in rw b (again k ∙ sym (m ∙ omega arith)))

few_entries : (shape : Shape) (w : List Word) (ps : List (List ℕ)) (k : ℕ) (slots : List ℕ) → HaveBytes ps → Aligned w (flat_map (chunks_by shape) ps) slots
    → length (entries w k slots) ≤ length ps
few_entries shape w [] k [] each h = omega arith
few_entries shape w [] k (s ∷ slots) each h = absurd h
few_entries shape w (bytes ∷ ps) k [] each h = omega arith
few_entries shape w (bytes ∷ ps) k (s ∷ slots) (some, each) h =
    let run = packet-run shape bytes some in
    let aligned : Aligned w (run.head ∷ run.later ++ flat_map (chunks_by shape) ps) (s ∷ slots) = subst (λ (xs : List Chunk). Aligned w (xs ++ flat_map (chunks_by shape) ps) (s ∷ slots)) run.is h in
    let r = run-reads w true run.head run.later (flat_map (chunks_by shape) ps) s slots run.run aligned in
    let rest : (j : ℕ) → length (entries w j slots) ≤ length ps = λ j. (let f = few_entries shape w ps j (drop (length run.later) slots) each r.aligned in rw (r.rest j) f) in
    let one = rest (k + 1) in
    let none = rest k in
    split (starts_at w s)
    (λ e. rw e (omega arith))
    (λ e. rw e (omega arith))

pub starts_its_packets : StartsItsPackets
starts_its_packets source channel w each stream =
    let few = few_entries source.shape w (packets_of source channel) 0 (burst_slots channel 0 w) (have_bytes channel source.packets each) (all_aligned source channel w stream) in
    subst (λ n. n ≤ length (packets_of source channel)) (count_entries channel 0 [] w) few

-- so they are few where there are few packets
pub few_starts : (source : Source) (w : List Word) (m : ℕ) → EachHasBytes source → IsBurstStream source w → length source.packets < m → (channel : ℕ) → count_by (starts_on channel) w < m
few_starts source w m each stream few channel =
    let le : count_by (starts_on channel) w ≤ length (packets_of source channel) = starts_its_packets source channel w each stream in
    let on : ℕ × List ℕ → Bool = λ p. p.0 == channel in
    let size : length (packets_of source channel) ≡ count_by on source.packets = length-map (filter on source.packets) (λ (p : ℕ × List ℕ). p.1) ∙ length-filter on source.packets in
    let most : count_by on source.packets ≤ length source.packets = count_by-le-length on source.packets in
    by (count_by (starts_on channel) w) (length (packets_of source channel)) (count_by on source.packets) (length source.packets) m le size most few
  where
    by : (a b c d m : ℕ) → a ≤ b → b ≡ c → c ≤ d → d < m → a < m
    by a b c d m h e k l = omega arith

-- ---- the words determine the list

starts_both : (a b : ℕ) (word : Word) → starts_on a word ≡ true → starts_on b word ≡ true → a ≡ b
starts_both a b (Data x) h k = cc
starts_both a b (Control y) h k = sym (on_channel a y h) ∙ on_channel b y k

same_sent : (w : List Word) (s t : Sent) → s.first ≡ t.first → IsSent w s → IsSent w t → s ≡ t
same_sent w s t first h k =
    let started : starts_on s.channel (word_at w t.first) ≡ true = subst (λ f. starts_on s.channel (word_at w f) ≡ true) first h.starts in
    let channel : s.channel ≡ t.channel = starts_both s.channel t.channel (word_at w t.first) started k.starts in
    let number : s.number ≡ t.number = h.number ∙ ap (λ i. count_by (starts_on i) (take s.first w)) channel ∙ ap (λ f. count_by (starts_on t.channel) (take f w)) first ∙ sym k.number in
    let mine : MatchOption s.last ((z : ℕ) → IsEnd w t.channel t.first z → ⊥) (λ z. IsEnd w t.channel t.first z) =
    subst (λ f. MatchOption s.last ((z : ℕ) → IsEnd w t.channel f z → ⊥) (λ z. IsEnd w t.channel f z)) first (subst (λ i. MatchOption s.last ((z : ℕ) → IsEnd w i s.first z → ⊥) (λ z. IsEnd w i s.first z)) channel h.last) in
    let last : s.last ≡ t.last = one_end_slot w t.channel t.first s.last t.last mine k.last in
    same_fields s t channel number first last
  where
    of : (a a' b b' c c' : ℕ) (d d' : Option ℕ) → a ≡ a' → b ≡ b' → c ≡ c' → d ≡ d' → Path Sent (record { channel = a; number = b; first = c; last = d }) (record { channel = a'; number = b'; first = c'; last = d' })
    of a a' b b' c c' d d' e f g h = rw (e, f, g, h) refl

    same_fields : (s t : Sent) → s.channel ≡ t.channel → s.number ≡ t.number → s.first ≡ t.first → s.last ≡ t.last → s ≡ t
    same_fields s t a b c d = of s.channel t.channel s.number t.number s.first t.first s.last t.last a b c d

same_lists : (w : List Word) (xs ys : List Sent) → map (λ (s : Sent). s.first) xs ≡ map (λ (s : Sent). s.first) ys → EachSent w xs → EachSent w ys → xs ≡ ys
same_lists w [] [] e h k = refl
same_lists w [] (y ∷ ys) e h k = cc
same_lists w (x ∷ xs) [] e h k = cc
same_lists w (x ∷ xs) (y ∷ ys) e (h, hs) (k, ks) =
    let first : x.first ≡ y.first = cc in
    let firsts : map (λ (s : Sent). s.first) xs ≡ map (λ (s : Sent). s.first) ys = cc in
    ap₂ (λ (z : Sent) zs. z ∷ zs) (same_sent w x y first h k) (same_lists w xs ys firsts hs ks)

pub one_list : OneList
one_list w one other h k = same_lists w one other (h.firsts ∙ sym k.firsts) (each_sent w one h.each) (each_sent w other k.each)
