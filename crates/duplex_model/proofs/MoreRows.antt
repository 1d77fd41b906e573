-- Rows that count from a slot on say nothing of the words below it.
use Rattle.std.proofs.Common.{◌≡◌, ℕ, ◌+◌, ◌<◌, ◌≤◌, Bool, true, false, ◌&&◌, IsTrue, List, [], ◌∷◌, ◌++◌, length, map, filter, find, reverse, take, Option, Some, None, nat_le, nat_lt, ◌==◌, if◌then◌else◌, slice_index, refl, sym, ap, ap₂, ◌∙◌, subst, arith}
use Rattle.std.specs.Option.{option_map_or}
use Rattle.std.proofs.lemmas.Bool.{and_right, lt-leb}
use Rattle.std.proofs.lemmas.List.{reverse-append, length-take-le}
use Rattle.std.proofs.lemmas.List.Elements.{filter-append}
use Rattle.std.proofs.lemmas.Option.{slice_get_within}
use Rattle.lk_base.specs.Fields.{channel_number}
use Rattle.lk_base.specs.declared.word.Word.{Word}
use Rattle.lk_base.specs.declared.word.Word.TheVariants.{Control}
use Rattle.stream_model.specs.Calendar.{Told, told_by_word, told_by_row, told_from, told_of, on_by_latest, last_turn_on, word_number, is_locally_on, calendar_bit, first_entry}
use Rattle.stream_model.specs.BurstStream.{Source, Mark, IsReady, IsRightControl, start_mark, row_mark, burst_mark, mark_cmp, later, last_burst, key, controls_in}
use Rattle.stream_model.specs.declared.rows.FlowRow.{FlowRow}
use Rattle.stream_model.specs.declared.rows.LocalRow.{LocalRow}
use Rattle.duplex_model.specs.OpenStream.{IsOpenStream}

-- ---- flow rows

-- all rows have slots from n on
abbrev pub FlowFrom : ℕ → List FlowRow → Type 0
FlowFrom n [] = Unit {0}
FlowFrom n (row ∷ rows) = (n ≤ row.slot) × FlowFrom n rows

-- what counts of a channel at slot t
abbrev pub counts : ℕ → ℕ → Told → Bool
counts channel t e = (e.channel == channel) && nat_le e.slot t

none_of_map : (channel t slot : ℕ) (f : ℕ → Told) (is : List ℕ) → t < slot → ((i : ℕ) → (f i).slot ≡ slot) → filter (counts channel t) (map f is) ≡ []
none_of_map channel t slot f [] h same = refl
none_of_map channel t slot f (i ∷ is) h same =
    let s : (f i).slot ≡ slot = same i in
    let late : nat_le (f i).slot t ≡ false = lt-leb (f i).slot t (omega (arith, s, h)) in
    rw (and_right ((f i).channel == channel) (nat_le (f i).slot t) late) (none_of_map channel t slot f is h same)

pub none_of_row : (channel t : ℕ) (entries : List ℕ) (r : ℕ) (row : FlowRow) (number : Option ℕ) → t < row.slot → filter (counts channel t) (option_map_or (told_by_word entries row.slot r row.word) number []) ≡ []
none_of_row channel t entries r row None h = refl
none_of_row channel t entries r row (Some d) h = none_of_map channel t row.slot _ _ h (λ i. refl)

none_of_rows : (channel t n : ℕ) (entries : List ℕ) (r : ℕ) (earlier : List ℕ) (rows : List FlowRow) → t < n → FlowFrom n rows → filter (counts channel t) (told_from entries r earlier rows) ≡ []
none_of_rows channel t n entries r earlier [] h from = refl
none_of_rows channel t n entries r earlier (row ∷ rows) h (first, rest) =
    filter-append (counts channel t) (told_by_row entries r earlier row) (told_from entries (r + 1) (row.word ∷ earlier) rows)
    ∙ ap₂ (λ (xs : List Told) ys. xs ++ ys) (none_of_row channel t entries r row (word_number (row.word ∷ earlier)) (omega (arith, first, h))) (none_of_rows channel t n entries (r + 1) (row.word ∷ earlier) rows h rest)

same_counts : (channel t n : ℕ) (entries : List ℕ) (r : ℕ) (earlier : List ℕ) (rows more : List FlowRow) → t < n → FlowFrom n more
    → filter (counts channel t) (told_from entries r earlier (rows ++ more)) ≡ filter (counts channel t) (told_from entries r earlier rows)
same_counts channel t n entries r earlier [] more h from = none_of_rows channel t n entries r earlier more h from
same_counts channel t n entries r earlier (row ∷ rows) more h from =
    let first : List Told = told_by_row entries r earlier row in
    filter-append (counts channel t) first (told_from entries (r + 1) (row.word ∷ earlier) (rows ++ more))
    ∙ ap (λ ys. filter (counts channel t) first ++ ys) (same_counts channel t n entries (r + 1) (row.word ∷ earlier) rows more h from)
    ∙ sym (filter-append (counts channel t) first (told_from entries (r + 1) (row.word ∷ earlier) rows))

-- ---- local rows

abbrev pub LocalFrom : ℕ → List LocalRow → Type 0
LocalFrom n [] = Unit {0}
LocalFrom n (row ∷ rows) = (n ≤ row.slot) × LocalFrom n rows

pub local_from_append : (n : ℕ) (xs ys : List LocalRow) → LocalFrom n xs → LocalFrom n ys → LocalFrom n (xs ++ ys)
local_from_append n [] ys h k = k
local_from_append n (x ∷ xs) ys (h, hs) k = (h, local_from_append n xs ys hs k)

local_from_reverse : (n : ℕ) (xs : List LocalRow) → LocalFrom n xs → LocalFrom n (reverse xs)
local_from_reverse n [] h = tt
local_from_reverse n (x ∷ xs) (h, hs) = subst (LocalFrom n) (sym (reverse-append (x ∷ []) xs)) (local_from_append n (reverse xs) (x ∷ []) (local_from_reverse n xs hs) (h, tt))

-- the row of a channel counts at slot t
abbrev pub sets : ℕ → ℕ → LocalRow → Bool
sets channel t row = (row.channel == channel) && nat_le row.slot t

found_behind : (channel t n : ℕ) (late rows : List LocalRow) → t < n → LocalFrom n late → find (sets channel t) (late ++ rows) ≡ find (sets channel t) rows
found_behind channel t n [] rows h from = refl
found_behind channel t n (row ∷ late) rows h (first, rest) =
    rw (and_right (row.channel == channel) (nat_le row.slot t) (lt-leb row.slot t (omega (arith, first, h)))) (found_behind channel t n late rows h rest)

same_local : (channel t n : ℕ) (rows more : List LocalRow) → t < n → LocalFrom n more → is_locally_on (rows ++ more) channel t ≡ is_locally_on rows channel t
same_local channel t n rows more h from =
    ap (λ (o : Option LocalRow). option_map_or (λ (row : LocalRow). row.on) o true)
    (ap (find (sets channel t)) (reverse-append rows more) ∙ found_behind channel t n (reverse more) (reverse rows) h (local_from_reverse n more from))

-- ---- rows that say the same below a slot

pub record SameBelow (entries : List ℕ) (n : ℕ) (flow flow_too : List FlowRow) (local local_too : List LocalRow) : Type 0 where
  pub told : (channel t : ℕ) → t < n → told_of entries flow channel t ≡ told_of entries flow_too channel t
  pub shown : (channel t : ℕ) → t < n → is_locally_on local channel t ≡ is_locally_on local_too channel t

pub same_below : (entries : List ℕ) (n : ℕ) (flow more_flow : List FlowRow) (local more_local : List LocalRow) → FlowFrom n more_flow → LocalFrom n more_local
    → SameBelow entries n (flow ++ more_flow) flow (local ++ more_local) local
same_below entries n flow more_flow local more_local flow_from local_from = record {
  told = λ channel t h. ap reverse (same_counts channel t n entries 0 [] flow more_flow h flow_from);
  shown = λ channel t h. same_local channel t n local more_local h local_from;
}

pub same_back : (entries : List ℕ) (n : ℕ) (flow flow_too : List FlowRow) (local local_too : List LocalRow) → SameBelow entries n flow flow_too local local_too → SameBelow entries n flow_too flow local_too local
same_back entries n flow flow_too local local_too same = record { told = λ channel t h. sym (same.told channel t h); shown = λ channel t h. sym (same.shown channel t h) }

-- ---- an open stream stays one

key_by : List Word → ℕ → List Told → Mark
key_by before channel told =
    let turned = option_map_or row_mark (last_turn_on told) (start_mark channel) in
    option_map_or (λ s. later turned (burst_mark s)) (last_burst before channel (length before)) turned

abbrev with_rows : Source → List FlowRow → List LocalRow → Source
with_rows base flow local = record base { flow = flow; local = local }

module _ (base : Source) (n : ℕ) (flow flow_too : List FlowRow) (local local_too : List LocalRow) (same : SameBelow base.entries n flow flow_too local local_too) where
  ready : (before : List Word) (channel : ℕ) → length before < n → IsReady (with_rows base flow local) before channel → IsReady (with_rows base flow_too local_too) before channel
  ready before channel h r = record {
    known = r.known;
    on = subst (λ (told : List Told). IsTrue (on_by_latest told)) (same.told channel (length before) h) r.on;
    left = r.left;
  }

  ready_back : (before : List Word) (channel : ℕ) → length before < n → IsReady (with_rows base flow_too local_too) before channel → IsReady (with_rows base flow local) before channel
  ready_back before channel h r = record {
    known = r.known;
    on = subst (λ (told : List Told). IsTrue (on_by_latest told)) (sym (same.told channel (length before) h)) r.on;
    left = r.left;
  }

  same_key : (before : List Word) (channel : ℕ) → length before < n → key (with_rows base flow_too local_too) before channel ≡ key (with_rows base flow local) before channel
  unfolding key_by
  same_key before channel h = ap (key_by before channel) (sym (same.told channel (length before) h))

  pub right : (before : List Word) (x : ℕ) → length before < n → IsRightControl (with_rows base flow local) before x → IsRightControl (with_rows base flow_too local_too) before x
  right before x h r = record {
    burst = ((λ b. let why = r.burst.0 b in (why.0, (why.1.0, ready before why.1.0 h why.1.1), why.2)), (λ why. r.burst.1 (why.0, (why.1.0, ready_back before why.1.0 h why.1.1), why.2)));
    idle = r.idle;
    start = r.start;
    end = r.end;
    ready = λ b. ready before (channel_number true x) h (r.ready b);
    least = λ b other k ne. ap₂ mark_cmp (same_key before (channel_number true x) h) (same_key before other h) ∙ r.least b other (ready_back before other h k) ne;
    multi = r.multi;
    control = r.control;
    reset = r.reset;
    entries = λ i k. r.entries i k ∙ same_bit i;
    checksum = r.checksum;
  }
    where
      same_bit : (i : ℕ) → calendar_bit base.entries local (controls_in before) (length before) i ≡ calendar_bit base.entries local_too (controls_in before) (length before) i
      same_bit i =
          let at : ℕ = first_entry base.entries (controls_in before) + i in
          ap (λ b. if nat_lt at (length base.entries) then b else true) (same.shown (slice_index base.entries at) (length before) h)

  pub open_stays : (w : List Word) → length w ≤ n → IsOpenStream (with_rows base flow local) w → IsOpenStream (with_rows base flow_too local_too) w
  open_stays w h stream = record {
    sized = stream.sized;
    data_in_bursts = stream.data_in_bursts;
    warmup = stream.warmup;
    chunks = stream.chunks;
    controls = λ t x at.
        let within : t < length w = slice_get_within w t (Control x) at in
        let long : length (take t w) ≡ t = length-take-le t w (omega (arith, within)) in
        right (take t w) x (omega (arith, within, long, h)) (stream.controls t x at);
  }
