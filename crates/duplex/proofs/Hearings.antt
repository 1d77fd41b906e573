-- A word that arrives is heard.
use Rattle.std.proofs.Common.{◌≡◌, inl, inr, ℕ, suc, ◌+◌, ◌-◌, ◌<◌, ◌≤◌, Bool, true, false, ◌&&◌, ◌==◌, cond, List, [], ◌∷◌, ◌++◌, length, take, drop, nat_lt, if◌then◌else◌, Option, Some, None, refl, sym, ap, ap₂, ◌∙◌, subst, arith, append-nil, lt-ltb, le-ltb, le-leb}
use Rattle.std.proofs.lemmas.Bool.{cases_lt, lt-leb}
use Rattle.std.proofs.lemmas.List.{length_push, length-take-le, take_more}
use Rattle.std.proofs.lemmas.List.Sums.{sum_by-cons}
use Rattle.std.proofs.Math.Seq.{take-append_seam, get_or-append_seam}
use Rattle.lk_base.specs.Fields.{channel_number, has_burst}
use Rattle.lk_base.specs.Words.{is_data, is_control, word_at}
use Rattle.lk_base.specs.declared.word.Word.{Word}
use Rattle.lk_base.specs.declared.word.Word.TheVariants.{Data, Control}
use Rattle.control_words.specs.ControlWord.{burst_channel}
use Rattle.stream_model.specs.BurstStream.{Source, is_burst_on, controls_in}
use Rattle.stream_model.specs.declared.rows.FlowRow.{FlowRow}
use Rattle.burst_scheduler.specs.Asked.{Asked, with_flow, flow_added}
use Rattle.burst_scheduler.specs.Gives.{HasWords}
use Rattle.burst_scheduler.specs.declared.scheduler.Scheduler.{Scheduler}
use Rattle.duplex_model.specs.DuplexRun.{Settings, AreSettings, Ends, alone, heard_word, rows_from, flow_rows, last_control, is_data_on, local_rows}
use Rattle.duplex_model.proofs.Prefixes.{same_last, rows_append}
use Rattle.duplex_model.proofs.Telling.{controls_push}
use Rattle.duplex.specs.Queues.{names, queue_at, IsQueueOf, AreQueues}
use Rattle.duplex.specs.Ways.{IsOnWay, arriving}
use Rattle.duplex.specs.Sides.{Asks, Hears, IsSideAt, HasTaken, HasQueues, KeepsQueues, joins, heard_rows, hearing}
use Rattle.duplex.specs.declared.queue.Queues.{Queues}
use Rattle.duplex.specs.declared.side.Side.{Side}

-- ---- the last control word

last_push : (arrived : List Word) (v : Word) → last_control (arrived ++ v ∷ []) (length (arrived ++ v ∷ [])) ≡ (if is_control v then v else last_control arrived (length arrived))
unfolding last_control
last_push arrived v =
    let all : List Word = arrived ++ v ∷ [] in
    let n : ℕ = length arrived in
    let long : length all ≡ suc n = (let e = length_push arrived v in omega (arith, e)) in
    let here : word_at all n ≡ v = get_or-append_seam arrived v [] (Control 0) in
    let below : last_control all n ≡ last_control arrived n = sym (same_last all n n (omega arith)) ∙ ap (λ w. last_control w n) (take-append_seam arrived (v ∷ [])) in
    ap (last_control all) long ∙ ap₂ (λ (a b : Word). if is_control a then a else b) here below

-- ---- a control word

asks_flow : (old new : Scheduler) (source : Source) (own : List Word) (word : ℕ) → Asks old source own → ((a : Asked) → HasWords old a → a.closed ≡ false → HasWords new (flow_added a word))
    → Asks new (with_flow source (record { slot = length own; word = word })) own
asks_flow old new source own word asks adds = record {
  asked = flow_added asks.asked word;
  gives = adds asks.asked asks.gives asks.still;
  source_is = ap₂ (λ (s : Source) (w : List Word). with_flow s (record { slot = length w; word = word })) asks.source_is asks.words;
  words = asks.words;
  still = asks.still;
}

same_asks : (s : Scheduler) (source : Source) (own : List Word) → Asks s source own → Asks s (record source { flow = source.flow ++ [] }) own
same_asks s source own asks = subst (λ (rows : List FlowRow). Asks s (record source { flow = rows }) own) (sym (append-nil source.flow)) asks

one_control : (arrived : List Word) (x : ℕ) → true ≡ nat_lt 0 (controls_in (arrived ++ Control x ∷ []))
one_control arrived x =
    let n : controls_in (arrived ++ Control x ∷ []) ≡ controls_in arrived + 1 = controls_push arrived (Control x) in
    sym (lt-ltb 0 (controls_in (arrived ++ Control x ∷ [])) (omega (arith, n)))

named_burst : (x channel : ℕ) → names (burst_channel true x) channel ≡ is_burst_on channel (Control x)
named_burst x channel = by (has_burst x)
  where
    by : (b : Bool) → names (cond b (Some (channel_number true x)) None) channel ≡ (b && (channel_number true x == channel))
    by true = refl
    by false = refl

pub hears_control : (old new : Side) (source : Source) (own arrived : List Word) (x : ℕ) → Hears old source own arrived
    → (Asks new.scheduler (hearing source (length own) arrived (Control x)) own) → new.burst ≡ burst_channel true x → new.heard ≡ true
    → Hears new (hearing source (length own) arrived (Control x)) own (arrived ++ Control x ∷ [])
hears_control old new source own arrived x h asks burst heard = record {
  asks = asks;
  burst = λ channel. ap (λ (o : Option ℕ). names o channel) burst ∙ named_burst x channel ∙ ap (is_burst_on channel) (sym (last_push arrived (Control x)));
  heard = heard ∙ one_control arrived x;
}

pub asks_heard : (old new : Scheduler) (source : Source) (own arrived : List Word) (x : ℕ) → nat_lt 0 (controls_in arrived) ≡ true → Asks old source own → ((a : Asked) → HasWords old a → a.closed ≡ false → HasWords new (flow_added a (heard_word x)))
    → Asks new (hearing source (length own) arrived (Control x)) own
asks_heard old new source own arrived x some asks adds =
    subst (λ (b : Bool). Asks new (record source { flow = source.flow ++ (if b then record { slot = length own; word = heard_word x } ∷ [] else []) }) own) (sym some) (asks_flow old new source own (heard_word x) asks adds)

pub asks_first : (s : Scheduler) (source : Source) (own arrived : List Word) (x : ℕ) → nat_lt 0 (controls_in arrived) ≡ false → Asks s source own → Asks s (hearing source (length own) arrived (Control x)) own
asks_first s source own arrived x none asks =
    subst (λ (b : Bool). Asks s (record source { flow = source.flow ++ (if b then record { slot = length own; word = heard_word x } ∷ [] else []) }) own) (sym none) (same_asks s source own asks)

pub hears_data : (s : Side) (source : Source) (own arrived : List Word) (x : ℕ) → Hears s source own arrived → Hears s (hearing source (length own) arrived (Data x)) own (arrived ++ Data x ∷ [])
hears_data s source own arrived x h = record {
  asks = same_asks s.scheduler source own h.asks;
  burst = λ channel. h.burst channel ∙ ap (is_burst_on channel) (sym (last_push arrived (Data x)));
  heard = h.heard ∙ ap (nat_lt 0) (let n : controls_in (arrived ++ Data x ∷ []) ≡ controls_in arrived + 0 = controls_push arrived (Data x) in let e : controls_in arrived ≡ controls_in (arrived ++ Data x ∷ []) = omega (arith, n) in e);
}

-- ---- the rows of one more slot

rows_count : (slot : ℕ) (w : List Word) → length (rows_from slot w) ≡ controls_in w
unfolding rows_from
rows_count slot [] = refl
rows_count slot (Data x ∷ w) =
    let e : controls_in (Data x ∷ w) ≡ 0 + controls_in w = sum_by-cons (λ u. if is_control u then 1 else 0) (Data x) w in
    rows_count (slot + 1) w ∙ (let f : controls_in w ≡ controls_in (Data x ∷ w) = omega (arith, e) in f)
rows_count slot (Control x ∷ w) =
    let e : controls_in (Control x ∷ w) ≡ 1 + controls_in w = sum_by-cons (λ u. if is_control u then 1 else 0) (Control x) w in
    ap suc (rows_count (slot + 1) w) ∙ (let f : suc (controls_in w) ≡ controls_in (Control x ∷ w) = omega (arith, e) in f)

but_first : (rows : List FlowRow) (row : FlowRow) (n : ℕ) → length rows ≡ n → drop 1 (rows ++ row ∷ []) ≡ drop 1 rows ++ (if nat_lt 0 n then row ∷ [] else [])
but_first [] row n e = rw (le-ltb 0 n (omega (arith, e))) refl
but_first (r ∷ rows) row n e = rw (lt-ltb 0 n (omega (arith, e))) refl

one_row_more : (delay slot : ℕ) (p : List Word) (v : Word) → delay + length p ≡ slot → drop 1 (rows_from delay (p ++ v ∷ [])) ≡ drop 1 (rows_from delay p) ++ heard_rows slot p v
unfolding rows_from
one_row_more delay slot p (Data x) at = ap (drop 1) (rows_append delay p (Data x ∷ []) ∙ append-nil (rows_from delay p)) ∙ sym (append-nil (drop 1 (rows_from delay p)))
one_row_more delay slot p (Control x) at =
    ap (drop 1) (rows_append delay p (Control x ∷ []) ∙ ap (λ n. rows_from delay p ++ record { slot = n; word = heard_word x } ∷ []) at)
    ∙ but_first (rows_from delay p) (record { slot = slot; word = heard_word x }) (controls_in p) (rows_count delay p)

-- ---- the word that arrives

pub arrives_late : (delay : ℕ) (sent : List Word) (word : Word) → arriving delay sent ≡ Some word → (delay ≤ length sent) × (word ≡ word_at sent (length sent - delay))
arrives_late delay sent word e = elim (cases_lt (length sent) delay) [
  | inl early ↦ (let none : arriving delay sent ≡ None = ap (λ b. if b then Some (word_at sent (length sent - delay)) else None) (lt-leb delay (length sent) early) in let c : Some word ≡ None = sym e ∙ none in cc)
  | inr late ↦ (let some : arriving delay sent ≡ Some (word_at sent (length sent - delay)) = ap (λ b. if b then Some (word_at sent (length sent - delay)) else None) (le-leb delay (length sent) late) in let c : Some word ≡ Some (word_at sent (length sent - delay)) = sym e ∙ some in (late, cc))
]

pub none_early : (delay : ℕ) (sent : List Word) → arriving delay sent ≡ None → length sent < delay
none_early delay sent e = elim (cases_lt (length sent) delay) [
  | inl early ↦ early
  | inr late ↦ (let some : arriving delay sent ≡ Some (word_at sent (length sent - delay)) = ap (λ b. if b then Some (word_at sent (length sent - delay)) else None) (le-leb delay (length sent) late) in let c : None ≡ Some (word_at sent (length sent - delay)) = sym e ∙ some in cc)
]

kept_queues : (old new : Side) (settings : Settings) (sent : List Word) (slots : ℕ) → KeepsQueues old new → HasQueues old settings sent slots → HasQueues new settings sent slots
kept_queues old new settings sent slots k h = record {
  are = subst AreQueues (sym k.queues) h.are;
  all = subst (λ (qs : Queues). (c : ℕ) → c < 65536 → IsQueueOf settings sent slots c (queue_at qs.by_channel.items c)) (sym k.queues) h.all;
}

pub takes_word : (old new : Side) (settings : Settings) (ends : Ends) (packets : List (ℕ × List ℕ)) (own sent : List Word) (word : Word) (joined : Option ℕ) → AreSettings settings → length own ≡ length sent
    → IsSideAt old settings ends packets own sent (length sent) → arriving settings.delay sent ≡ Some word
    → ((source : Source) (mine arrived : List Word) → Hears old source mine arrived → Hears new (hearing source (length mine) arrived word) mine (arrived ++ word ∷ []))
    → ((source : Source) (mine arrived : List Word) → Hears old source mine arrived → joins joined arrived word) → KeepsQueues old new → HasTaken new settings ends packets own sent joined
takes_word old new settings ends packets own sent word joined keeps long side come hears join kept =
    let d : 1 ≤ settings.delay = keeps.delay_low in
    let late = arrives_late settings.delay sent word come in
    let d_low : settings.delay ≤ length sent = late.0 in
    let t : ℕ = length sent in
    let k : ℕ = t - settings.delay in
    let p : List Word = take k sent in
    let k_more : suc t - settings.delay ≡ k + 1 = omega (arith, d_low) in
    let longer : take (suc t - settings.delay) sent ≡ p ++ word ∷ [] = ap (λ n. take n sent) k_more ∙ take_more sent k (Control 0) (omega (arith, d, d_low)) ∙ ap (λ v. p ++ v ∷ []) (sym late.1) in
    let short : length p ≡ k = length-take-le k sent (omega arith) in
    let rows : flow_rows settings sent (suc t) ≡ flow_rows settings sent t ++ heard_rows (length own) p word =
    ap (λ w. drop 1 (rows_from settings.delay w)) longer ∙ one_row_more settings.delay t p word (omega (arith, short, d_low)) ∙ ap (λ n. flow_rows settings sent t ++ heard_rows n p word) (sym long) in
    let source : List FlowRow → Source = λ flow. record (alone ends packets) { flow = flow; local = local_rows settings ends.channels sent t } in
    record {
      hears = subst (λ (w : List Word). Hears new (source (flow_rows settings sent (suc t))) own w) (sym longer)
          (subst (λ (flow : List FlowRow). Hears new (source flow) own (p ++ word ∷ [])) (sym rows) (hears (source (flow_rows settings sent t)) own p side.hears));
      joined_is = λ channel.
          let now : is_data_on channel sent k ≡ names joined channel =
          ap₂ (λ (a : Word) (b : Word). is_data a && is_burst_on channel b) (sym late.1) (sym (same_last sent k k (omega arith)) ∙ ap (last_control p) (sym short)) ∙ sym (join (source (flow_rows settings sent t)) own p side.hears channel) in
          ap₂ (λ a b. if a && b then 1 else 0) (le-leb settings.delay t d_low) now;
      queues = kept_queues old new settings sent t kept side.queues;
      way = subst (λ w. IsOnWay w settings.delay sent) (sym kept.way) side.way;
    }

pub takes_none : (s : Side) (settings : Settings) (ends : Ends) (packets : List (ℕ × List ℕ)) (own sent : List Word) → IsSideAt s settings ends packets own sent (length sent) → arriving settings.delay sent ≡ None → HasTaken s settings ends packets own sent None
takes_none s settings ends packets own sent side none =
    let early : length sent < settings.delay = none_early settings.delay sent none in
    let t : ℕ = length sent in
    let same : suc t - settings.delay ≡ t - settings.delay = omega (arith, early) in
    record {
      hears = subst (λ (n : ℕ). Hears s (record (alone ends packets) { flow = drop 1 (rows_from settings.delay (take n sent)); local = local_rows settings ends.channels sent t }) own (take n sent)) (sym same) side.hears;
      joined_is = λ channel. ap (λ b. if b && is_data_on channel sent (t - settings.delay) then 1 else 0) (lt-leb settings.delay t early);
      queues = side.queues;
      way = side.way;
    }
