-- What an end has told of its channels.
use Rattle.std.proofs.Common.{◌≡◌, ◌≢◌, inl, inr, ℕ, zero, suc, ◌+◌, ◌-◌, ◌%◌, ◌<◌, ◌≤◌, Bool, true, false, ◌&&◌, List, [], ◌∷◌, ◌++◌, length, map, nat_lt, nat_le, ◌==◌, if◌then◌else◌, Contains, refl, sym, ap, ◌∙◌, subst, arith, append_assoc, append-nil, lt-ltb, eq-eqb, ne_eqb}
use Rattle.std.proofs.Math.ListN.{set}
use Rattle.std.proofs.lemmas.Bool.{and_parts, cases_lt, cases_eq, eqb-true, false≢true}
use Rattle.std.proofs.lemmas.List.{get_or-set_same, get_or-set_other}
use Rattle.std.proofs.lemmas.List.Elements.{All-push, All-cons}
use Rattle.lk_base.specs.Fields.{channel_number, has_burst}
use Rattle.lk_base.specs.Words.{is_data, word_at}
use Rattle.lk_base.specs.declared.word.Word.{Word}
use Rattle.lk_base.specs.declared.word.Word.TheVariants.{Control, Data}
use Rattle.stream_model.specs.BurstStream.{is_burst_on}
use Rattle.stream_model.specs.declared.rows.LocalRow.{LocalRow}
use Rattle.calendar.specs.Outgoing.{last_local}
use Rattle.burst_scheduler.specs.Asked.{Asked, having_local, local_added}
use Rattle.burst_scheduler.specs.Gives.{HasWords}
use Rattle.burst_scheduler.specs.declared.scheduler.Scheduler.{Scheduler}
use Rattle.duplex_model.specs.DuplexRun.{Settings, is_data_on, last_control, arrival, queue_before, local_row, local_rows}
use Rattle.duplex.specs.Queues.{empty_queue, queue_at, locals_added, Tells}
use Rattle.duplex.specs.Sides.{AreListed}
use Rattle.duplex.specs.declared.queue.ArrivalQueue.{ArrivalQueue}
use Rattle.duplex.proofs.OwnRows.{last_push, AreHere, same_words}

-- ---- the queue of a channel changes

module _ (s : Scheduler) (a : Asked) (mark : ℕ) (queues : List ArrivalQueue) (channel : ℕ) (queue : ArrivalQueue) (within : channel < length queues) (t : Tells s a mark queues) where
  here : queue_at (set queues channel queue) channel ≡ queue
  here = get_or-set_same queues channel queue empty_queue within

  other : (c : ℕ) → c ≢ channel → queue_at (set queues channel queue) c ≡ queue_at queues c
  other c ne = get_or-set_other queues channel c queue empty_queue ne

  -- its state does not
  pub tells_still : nat_lt queue.words mark ≡ nat_lt (queue_at queues channel).words mark → Tells s a mark (set queues channel queue)
  tells_still same = record {
    rows = t.rows;
    here = t.here;
    words = t.words;
    last = λ c h. elim (cases_eq c channel) [
      | inl e ↦ (t.last c h ∙ ap (λ k. nat_lt (queue_at queues k).words mark) e ∙ sym same ∙ ap (λ (q : ArrivalQueue). nat_lt q.words mark) (sym here) ∙ ap (λ k. nat_lt (queue_at (set queues channel queue) k).words mark) (sym e))
      | inr ne ↦ (t.last c h ∙ ap (λ (q : ArrivalQueue). nat_lt q.words mark) (sym (other c ne)))
    ];
  }

  -- its state is told
  pub tells_row : (new : Scheduler) (on : Bool) → on ≡ nat_lt queue.words mark → ((b : Asked) → HasWords s b → HasWords new (local_added b channel on)) → Tells new a mark (set queues channel queue)
  tells_row new on is adds =
      let row : LocalRow = record { slot = length a.words; channel = channel; on = on } in
      let more : (a.source.local ++ t.rows) ++ row ∷ [] ≡ a.source.local ++ (t.rows ++ row ∷ []) = append_assoc a.source.local t.rows (row ∷ []) in
      record {
        rows = t.rows ++ row ∷ [];
        here = All-push (λ (r : LocalRow). r.slot ≡ length a.words) t.rows row t.here refl;
        words = subst (λ (rs : List LocalRow). HasWords new (having_local a rs)) more (adds (locals_added a t.rows) t.words);
        last = λ c h. ap (λ (rs : List LocalRow). last_local rs c) (sym more) ∙ last_push (a.source.local ++ t.rows) row c ∙ elim (cases_eq c channel) [
          | inl e ↦ (rw (eq-eqb channel c (sym e)) (is ∙ ap (λ (q : ArrivalQueue). nat_lt q.words mark) (sym here) ∙ ap (λ k. nat_lt (queue_at (set queues channel queue) k).words mark) (sym e)))
          | inr ne ↦ (rw (ne_eqb channel c (λ e. ne (sym e))) (t.last c h ∙ ap (λ (q : ArrivalQueue). nat_lt q.words mark) (sym (other c ne))))
        ];
      }

-- ---- what all rows of a run say last

-- what is so of the channel of each data word is so of that of an arrival
arrives_as : (settings : Settings) (sent : List Word) (c t : ℕ) (P : Type 0) → ((slot : ℕ) → is_data_on c sent slot ≡ true → P) → 1 ≤ arrival settings sent c t → P
arrives_as settings sent c t P heard some = by (nat_le settings.delay t) (is_data_on c sent (t - settings.delay)) refl some
  where
    by : (late here : Bool) → is_data_on c sent (t - settings.delay) ≡ here → 1 ≤ (if late && here then 1 else 0) → P
    by true true e h = heard (t - settings.delay) e
    by true false e h = absurd (omega (arith, h))
    by false here e h = absurd (omega (arith, h))

-- and of that of a queue that is not empty
queued_as : (settings : Settings) (sent : List Word) (c t : ℕ) (P : Type 0) → ((slot : ℕ) → is_data_on c sent slot ≡ true → P) → 1 ≤ queue_before settings sent c t → P
unfolding queue_before
queued_as settings sent c zero P heard some = absurd (omega (arith, some))
queued_as settings sent c (suc t) P heard some =
    let filled : ℕ = queue_before settings sent c t + arrival settings sent c t in
    let full : 1 ≤ filled = by (t % settings.drain == 0) filled some in
    elim (cases_lt 0 (queue_before settings sent c t)) [
      | inl before ↦ queued_as settings sent c t P heard (omega (arith, before))
      | inr none ↦ arrives_as settings sent c t P heard (omega (arith, none, full))
    ]
  where
    by : (b : Bool) (n : ℕ) → 1 ≤ (if b then n - 1 else n) → 1 ≤ n
    by true n h = omega (arith, h)
    by false n h = h

-- a data word is on a channel below 65536
data_low : (sent : List Word) (c slot : ℕ) → is_data_on c sent slot ≡ true → c < 65536
data_low sent c slot h = by (last_control sent slot) (and_parts (is_data (word_at sent slot)) (is_burst_on c (last_control sent slot)) h).1
  where
    by : (word : Word) → is_burst_on c word ≡ true → c < 65536
    by (Data x) e = absurd (false≢true e)
    by (Control x) e = let same : channel_number true x ≡ c = eqb-true (channel_number true x) c (and_parts (has_burst x) (channel_number true x == c) e).1 in omega (arith, same)

-- so the queue of a higher number is below the mark
pub far_on : (settings : Settings) (sent : List Word) (t c : ℕ) → 1 ≤ settings.mark → 65536 ≤ c → nat_lt (queue_before settings sent c t) settings.mark ≡ true
far_on settings sent t c low far =
    lt-ltb (queue_before settings sent c t) settings.mark (elim (cases_lt 0 (queue_before settings sent c t)) [
      | inl some ↦ let below : c < 65536 = queued_as settings sent c t (c < 65536) (data_low sent c) (omega (arith, some)) in absurd (omega (arith, below, far))
      | inr none ↦ omega (arith, none, low)
    ])

-- the rows of a slot say of a channel what holds at it, where it is listed or it held before
rows_keep : (settings : Settings) (sent : List Word) (t c : ℕ) (on : Bool) (local : List LocalRow) (channels : List ℕ) → (local_row settings sent t c).on ≡ on → last_local local c ≡ on → last_local (local ++ map (local_row settings sent t) channels) c ≡ on
rows_keep settings sent t c on local [] is h = ap (λ (rs : List LocalRow). last_local rs c) (append-nil local) ∙ h
rows_keep settings sent t c on local (d ∷ channels) is h =
    let row : LocalRow = local_row settings sent t d in
    ap (λ (rs : List LocalRow). last_local rs c) (sym (append_assoc local (row ∷ []) (map (local_row settings sent t) channels)))
    ∙ rows_keep settings sent t c on (local ++ row ∷ []) channels is (last_push local row c ∙ elim (cases_eq d c) [
      | inl e ↦ (rw (eq-eqb d c e) (ap (λ k. (local_row settings sent t k).on) e ∙ is))
      | inr ne ↦ (rw (ne_eqb d c ne) h)
    ])

rows_say : (settings : Settings) (sent : List Word) (t c : ℕ) (on : Bool) (local : List LocalRow) (channels : List ℕ) → (local_row settings sent t c).on ≡ on → Contains channels c → last_local (local ++ map (local_row settings sent t) channels) c ≡ on
rows_say settings sent t c on local [] is h = absurd (omega (arith, h.1))
rows_say settings sent t c on local (d ∷ channels) is h =
    let row : LocalRow = local_row settings sent t d in
    ap (λ (rs : List LocalRow). last_local rs c) (sym (append_assoc local (row ∷ []) (map (local_row settings sent t) channels)))
    ∙ elim (cases_eq d c) [
      | inl e ↦ rows_keep settings sent t c on (local ++ row ∷ []) channels is (last_push local row c ∙ rw (eq-eqb d c e) (ap (λ k. (local_row settings sent t k).on) e ∙ is))
      | inr ne ↦ rows_say settings sent t c on (local ++ row ∷ []) channels is (behind d channels ne h)
    ]
  where
    behind : (d : ℕ) (channels : List ℕ) → d ≢ c → Contains (d ∷ channels) c → Contains channels c
    behind d channels ne (zero, below, e) = absurd (ne e)
    behind d channels ne (suc k, below, e) = (k, omega (arith, below), e)

pub rows_told : (settings : Settings) (channels : List ℕ) (sent : List Word) (t c : ℕ) → AreListed channels sent → 1 ≤ settings.mark → last_local (local_rows settings channels sent t) c ≡ nat_lt (queue_before settings sent c t) settings.mark
unfolding local_rows queue_before
rows_told settings channels sent zero c listed low = sym (lt-ltb 0 settings.mark low)
rows_told settings channels sent (suc t) c listed low =
    let before : ℕ = queue_before settings sent c t in
    let now : ℕ = queue_before settings sent c (suc t) in
    let local : List LocalRow = local_rows settings channels sent t in
    let by_listed = λ (h : Contains channels c). rows_say settings sent t c (nat_lt now settings.mark) local channels refl h in
    elim (cases_lt 0 now) [
      | inl some ↦ by_listed (queued_as settings sent c (suc t) (Contains channels c) (listed c) (omega (arith, some)))
      | inr none ↦ elim (cases_lt 0 before) [
        | inl some ↦ by_listed (queued_as settings sent c t (Contains channels c) (listed c) (omega (arith, some)))
        | inr none_before ↦ (
            let same : before ≡ now = omega (arith, none, none_before) in
            rows_keep settings sent t c (nat_lt now settings.mark) local channels refl (rows_told settings channels sent t c listed low ∙ ap (λ n. nat_lt n settings.mark) same))
      ]
    ]

-- ---- at the ends of a slot

-- before its rows
pub told_before : (s : Scheduler) (a : Asked) (mark : ℕ) (queues : List ArrivalQueue) → HasWords s a → ((c : ℕ) → c < 65536 → last_local a.source.local c ≡ nat_lt (queue_at queues c).words mark) → Tells s a mark queues
told_before s a mark queues words last = record {
  rows = [];
  here = λ k d h. absurd (omega (arith, h));
  words = subst (λ (rs : List LocalRow). HasWords s (having_local a rs)) (sym (append-nil a.source.local)) words;
  last = λ c h. ap (λ (rs : List LocalRow). last_local rs c) (append-nil a.source.local) ∙ last c h;
}

-- after them, all rows of the slot count as told
pub told_after : (s : Scheduler) (a : Asked) (mark : ℕ) (queues : List ArrivalQueue) (rows : List LocalRow) → Tells s a mark queues → AreHere (length a.words) rows
    → ((c : ℕ) → c < 65536 → last_local (a.source.local ++ rows) c ≡ nat_lt (queue_at queues c).words mark) → ((c : ℕ) → 65536 ≤ c → last_local (a.source.local ++ rows) c ≡ true) → HasWords s (locals_added a rows)
told_after s a mark queues rows t here last far = same_words s a t.rows rows t.here here (λ c h. t.last c h ∙ sym (last c h)) far t.words

pub rows_here : (settings : Settings) (sent : List Word) (t slot : ℕ) (channels : List ℕ) → t ≡ slot → AreHere slot (map (local_row settings sent t) channels)
rows_here settings sent t slot [] e = λ k d h. absurd (omega (arith, h))
rows_here settings sent t slot (c ∷ channels) e = All-cons (λ (row : LocalRow). row.slot ≡ slot) (local_row settings sent t c) (map (local_row settings sent t) channels) e (rows_here settings sent t slot channels e)
