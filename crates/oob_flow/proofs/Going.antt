-- What samples give, sample by sample: it stands, and it comes in order.
use Rattle.std.proofs.Common.{◌≡◌, ℕ, zero, suc, ◌+◌, ◌-◌, ◌*◌, ◌^◌, ◌<◌, ◌≤◌, min, ◌==◌, Bool, true, false, not, ◌&&◌, ◌⊎◌, List, [], ◌∷◌, ◌++◌, length, take, drop, ◌/◌, All, refl, sym, ap, ◌∙◌, append_assoc, append-nil, subst, inl, inr, arith}
use Rattle.std.specs.Bool.{IsTrue}
use Rattle.std.specs.List.Sorted.{IsNonDecreasingBy}
use Rattle.std.proofs.lemmas.Bool.{cases_lt}
use Rattle.std.proofs.lemmas.List.{length_push, length-append, length-map, length-take-le}
use Rattle.std.proofs.lemmas.List.Sorted.{IsNonDecreasingBy-short, IsNonDecreasingBy-push}
use Rattle.std.proofs.lemmas.List.Elements.{All-nil, All-cons, All-append, All-weaker, All-head, All-tail}
use Rattle.lk_base.specs.Checksum.{digit}
use Rattle.stream_model.specs.Calendar.{is_valid}
use Rattle.stream_model.specs.declared.rows.FlowRow.{FlowRow}
use Rattle.oob_flow.specs.Samples.{clock_of, data_of, sync_of}
use Rattle.oob_flow.specs.Taken.{Taken, taken, taken_at, taken_from}
use Rattle.oob_flow.specs.Words.{idle_word, flow_bits, words_from, block_words}
use Rattle.oob_flow.specs.Reading.{states_of, number_at, is_right, rows_at, rows_of_bits, rows_of_samples}
use Rattle.oob_flow.specs.Receiving.{rows_ahead, clock_after}
use Rattle.oob_flow.proofs.Idle.{idle_sized, idle_valid, flow_small}
use Rattle.oob_flow.proofs.Steps.{at_sync, at_other, at_right, at_wrong, at_end, at_start, none_left, no_bits}
use Rattle.oob_flow.proofs.OneBit.{GoesOn, last_number}
use Rattle.oob_flow.proofs.OneSample.{taken_push}

-- a word that samples give: it has 64 bits, and it is 0 or a valid word
record IsGiven (word : ℕ) : Type 0 where
  wide : word < 2 ^ 64
  told : (word ≡ 0) ⊎ IsTrue (is_valid word)

of_idle : (reset : Bool) (states : List Bool) → IsGiven (idle_word reset (flow_bits states))
of_idle reset states = record { wide = idle_sized reset (flow_bits states) (flow_small states); told = inr (idle_valid reset (flow_bits states) (flow_small states)) }

of_zero : IsGiven 0
of_zero = record { wide = omega arith; told = inl refl }

given_words : (n : ℕ) (reset : Bool) (states : List Bool) → All IsGiven (words_from n reset states)
given_words zero reset states = All-nil IsGiven
given_words (suc n) reset states = All-cons IsGiven (idle_word reset (flow_bits states)) (words_from n false (drop 16 states)) (of_idle reset states) (given_words n false (drop 16 states))

-- a word for each 16 states, and one for what is left
words_length : (n : ℕ) (reset : Bool) (states : List Bool) → length (words_from n reset states) ≡ n
words_length zero reset states = refl
words_length (suc n) reset states = let rest = words_length n false (drop 16 states) in omega arith

block_length : (is_first : Bool) (states : List Bool) → length (block_words is_first states) ≡ (length states + 15) / 16
unfolding block_words
block_length is_first states = words_length ((length states + 15) / 16) is_first states

-- each word takes five bits at least: a block of n entries has n + 4
five_each : (size words : ℕ) → 1 ≤ size → words ≡ (size + 15) / 16 → 5 * words ≤ size + 4
five_each size words some e = omega arith

given_block : (is_first : Bool) (states : List Bool) → All IsGiven (block_words is_first states)
unfolding block_words
given_block is_first states = given_words ((length states + 15) / 16) is_first states

whole_states : (bits : List Taken) (size : ℕ) → size ≤ length bits → length (take size (states_of bits)) ≡ size
whole_states bits size h = let all : length (states_of bits) ≡ length bits = length-map bits (λ (b : Taken). b.state) in length-take-le size (states_of bits) (omega arith)

-- what one more bit gives, and how it goes on
record Step (entries left : ℕ) (open_bits : List Taken) (b : Taken) : Type 0 where
  words : List ℕ
  given : All IsGiven words
  new_left : ℕ
  new_open : List Taken
  -- five bits for each word, but for those that are open
  few : 5 * length words + length new_open ≤ length open_bits + 1
  on : GoesOn entries left open_bits b words new_left new_open

module _ (entries left : ℕ) (open_bits : List Taken) (b : Taken) (mid : ℕ) (before : List Taken) (within : mid ≤ entries) (fewer : length before ≤ length open_bits) (short : length before < min 64 mid + 4) (go : (more : List Taken) → rows_ahead entries left open_bits (b ∷ more) ≡ rows_ahead entries mid (before ++ b ∷ []) more) where
  nothing_left : mid ≡ 0 → Step entries left open_bits b
  nothing_left none = record {
    words = [];
    given = All-nil IsGiven;
    new_left = 0;
    new_open = [];
    few = omega arith;
    on = record {
      within = omega arith;
      not_whole = omega arith;
      ahead = λ more. go more ∙ ap (λ (n : ℕ). rows_ahead entries n (before ++ b ∷ []) more) none ∙ none_left entries (before ++ b ∷ []) [] more;
    };
  }

  waiting : length (before ++ b ∷ []) < min 64 mid + 4 → Step entries left open_bits b
  waiting h = record { words = []; given = All-nil IsGiven; new_left = mid; new_open = before ++ b ∷ []; few = (let push = length_push before b in omega arith); on = record { within = within; not_whole = h; ahead = go } }

  whole : 1 ≤ mid → length (before ++ b ∷ []) ≡ min 64 mid + 4 → (right : Bool) → is_right (min 64 mid) (states_of (before ++ b ∷ [])) ≡ right → Step entries left open_bits b
  whole some h true right =
      let number : number_at (before ++ b ∷ []) (min 64 mid + 3) ≡ b.number = last_number before b (min 64 mid + 3) (omega arith) in
      record {
        words = block_words (mid == entries) (take (min 64 mid) (states_of (before ++ b ∷ [])));
        given = given_block (mid == entries) (take (min 64 mid) (states_of (before ++ b ∷ [])));
        new_left = mid - min 64 mid;
        new_open = [];
        few = (let states : length (take (min 64 mid) (states_of (before ++ b ∷ []))) ≡ min 64 mid = whole_states (before ++ b ∷ []) (min 64 mid) (omega arith) in
            let words = block_length (mid == entries) (take (min 64 mid) (states_of (before ++ b ∷ []))) ∙ ap (λ (n : ℕ). (n + 15) / 16) states in
            let five = five_each (min 64 mid) (length (block_words (mid == entries) (take (min 64 mid) (states_of (before ++ b ∷ []))))) (omega arith) words in
            let push = length_push before b in
            omega arith);
        on = record {
          within = omega arith;
          not_whole = omega arith;
          ahead = λ more. go more ∙ at_right entries mid (before ++ b ∷ []) more some within h right
              ∙ ap (λ (n : ℕ). rows_at n (block_words (mid == entries) (take (min 64 mid) (states_of (before ++ b ∷ [])))) ++ rows_ahead entries (mid - min 64 mid) [] more) number;
        };
      }
  whole some h false wrong =
      let number : number_at (before ++ b ∷ []) (min 64 mid + 3) ≡ b.number = last_number before b (min 64 mid + 3) (omega arith) in
      record {
        words = 0 ∷ [];
        given = All-cons IsGiven 0 [] of_zero (All-nil IsGiven);
        new_left = 0;
        new_open = [];
        few = (let push = length_push before b in omega arith);
        on = record {
          within = omega arith;
          not_whole = omega arith;
          ahead = λ more. go more ∙ at_wrong entries mid (before ++ b ∷ []) more some h wrong ∙ ap (λ (n : ℕ). rows_at n (0 ∷ []) ++ rows_ahead entries 0 [] more) number;
        };
      }

  stepped : Step entries left open_bits b
  stepped =
      let push : length (before ++ b ∷ []) ≡ length before + 1 = length_push before b in
      elim (cases_lt 0 mid) [
        | inl some ↦ elim (cases_lt (length (before ++ b ∷ [])) (min 64 mid + 4)) [
          | inl h ↦ waiting h
          | inr h ↦ whole (omega arith) (omega arith) (is_right (min 64 mid) (states_of (before ++ b ∷ []))) refl
        ]
        | inr none ↦ nothing_left (omega arith)
      ]

step : (entries left : ℕ) (open_bits : List Taken) (b : Taken) (sync : Bool) → b.sync ≡ sync → 1 ≤ entries → left ≤ entries → length open_bits < min 64 left + 4 → Step entries left open_bits b
step entries left open_bits b true e low within short = stepped entries left open_bits b entries [] (omega arith) (omega arith) (omega arith) (λ more. at_sync entries left open_bits b more low short e)
step entries left open_bits b false e low within short = stepped entries left open_bits b left open_bits within (omega arith) short (λ more. at_other entries left open_bits b more e)

-- ---- how far samples have come

-- samples stand so, and what they gave is in order
record IsOnWay (entries : ℕ) (samples : List ℕ) : Type 0 where
  low : 1 ≤ entries
  left : ℕ
  open_bits : List Taken
  within : left ≤ entries
  short : length open_bits < min 64 left + 4
  ahead : (more : List Taken) → rows_of_bits entries (taken samples ++ more) ≡ rows_of_bits entries (taken samples) ++ rows_ahead entries left open_bits more
  order : IsNonDecreasingBy (λ (row : FlowRow). row.slot) (rows_of_bits entries (taken samples))
  slots : All (λ (row : FlowRow). row.slot < length samples) (rows_of_bits entries (taken samples))
  words : All (λ (row : FlowRow). IsGiven row.word) (rows_of_bits entries (taken samples))
  few : 5 * length (rows_of_bits entries (taken samples)) + length open_bits ≤ length (taken samples)

at_first : (entries : ℕ) → 1 ≤ entries → IsOnWay entries []
at_first entries low = record {
  low = low;
  left = 0;
  open_bits = [];
  within = omega arith;
  short = omega arith;
  ahead = at_start entries;
  order = subst (IsNonDecreasingBy (λ (row : FlowRow). row.slot)) (sym (no_bits entries)) (IsNonDecreasingBy-short (λ (row : FlowRow). row.slot) [] (omega arith));
  slots = subst (All (λ (row : FlowRow). row.slot < 0)) (sym (no_bits entries)) (All-nil (λ (row : FlowRow). row.slot < 0));
  words = subst (All (λ (row : FlowRow). IsGiven row.word)) (sym (no_bits entries)) (All-nil (λ (row : FlowRow). IsGiven row.word));
  few = (let none = ap length (no_bits entries) in omega (arith, none));
}

-- rows of one slot after rows of lower slots
in_order : (rows : List FlowRow) (slot : ℕ) (words : List ℕ) → IsNonDecreasingBy (λ (row : FlowRow). row.slot) rows → All (λ (row : FlowRow). row.slot ≤ slot) rows → IsNonDecreasingBy (λ (row : FlowRow). row.slot) (rows ++ rows_at slot words)
in_order rows slot [] o l = subst (IsNonDecreasingBy (λ (row : FlowRow). row.slot)) (sym (append-nil rows)) o
in_order rows slot (w ∷ words) o l =
    let row : FlowRow = record { slot = slot; word = w } in
    let one : List FlowRow = row ∷ [] in
    subst (IsNonDecreasingBy (λ (r : FlowRow). r.slot)) (append_assoc rows one (rows_at slot words))
    (in_order (rows ++ one) slot words
    (IsNonDecreasingBy-push (λ (r : FlowRow). r.slot) rows row o (λ d some. l (length rows - 1) d (omega arith)))
    (All-append (λ (r : FlowRow). r.slot ≤ slot) rows one l (All-cons (λ (r : FlowRow). r.slot ≤ slot) row [] (omega arith) (All-nil (λ (r : FlowRow). r.slot ≤ slot)))))

abbrev row_of : ℕ → ℕ → FlowRow
row_of slot word = record { slot = slot; word = word }

slots_at : (slot n : ℕ) (words : List ℕ) → slot < n → All (λ (row : FlowRow). row.slot < n) (rows_at slot words)
slots_at slot n [] h = All-nil (λ (row : FlowRow). row.slot < n)
slots_at slot n (w ∷ words) h = All-cons (λ (row : FlowRow). row.slot < n) (record { slot = slot; word = w }) (rows_at slot words) h (slots_at slot n words h)

words_at : (slot : ℕ) (words : List ℕ) → All IsGiven words → All (λ (row : FlowRow). IsGiven row.word) (rows_at slot words)
words_at slot [] h = All-nil (λ (row : FlowRow). IsGiven row.word)
words_at slot (w ∷ words) h = All-cons (λ (row : FlowRow). IsGiven row.word) (record { slot = slot; word = w }) (rows_at slot words) (All-head IsGiven w words h) (words_at slot words (All-tail IsGiven w words h))

-- the same samples and one more
record IsFurther (entries : ℕ) (samples : List ℕ) (sample : ℕ) : Type 0 where
  later : List FlowRow
  gives : rows_of_bits entries (taken (samples ++ sample ∷ [])) ≡ rows_of_bits entries (taken samples) ++ later
  way : IsOnWay entries (samples ++ sample ∷ [])

module _ (entries : ℕ) (samples : List ℕ) (sample : ℕ) (o : IsOnWay entries samples) where
  longer : length (samples ++ sample ∷ []) ≡ length samples + 1
  longer = length_push samples sample

  quiet : taken (samples ++ sample ∷ []) ≡ taken samples → IsFurther entries samples sample
  quiet e = record {
    later = [];
    gives = ap (rows_of_bits entries) e ∙ sym (append-nil (rows_of_bits entries (taken samples)));
    way = record {
      low = o.low;
      left = o.left;
      open_bits = o.open_bits;
      within = o.within;
      short = o.short;
      ahead = subst (λ (bits : List Taken). (more : List Taken) → rows_of_bits entries (bits ++ more) ≡ rows_of_bits entries bits ++ rows_ahead entries o.left o.open_bits more) (sym e) o.ahead;
      order = subst (λ (bits : List Taken). IsNonDecreasingBy (λ (row : FlowRow). row.slot) (rows_of_bits entries bits)) (sym e) o.order;
      slots = subst (λ (bits : List Taken). All (λ (row : FlowRow). row.slot < length (samples ++ sample ∷ [])) (rows_of_bits entries bits)) (sym e) (All-weaker (λ (row : FlowRow). row.slot < length samples) (λ (row : FlowRow). row.slot < length (samples ++ sample ∷ [])) (λ row h. omega (arith, longer)) (rows_of_bits entries (taken samples)) o.slots);
      words = subst (λ (bits : List Taken). All (λ (row : FlowRow). IsGiven row.word) (rows_of_bits entries bits)) (sym e) o.words;
      few = subst (λ (bits : List Taken). 5 * length (rows_of_bits entries bits) + length o.open_bits ≤ length bits) (sym e) o.few;
    };
  }

  module _ (b : Taken) (number : b.number ≡ length samples) (e : taken (samples ++ sample ∷ []) ≡ taken samples ++ b ∷ []) (s : Step entries o.left o.open_bits b) where
    rows : List FlowRow
    rows = rows_of_bits entries (taken samples)

    behind : (more : List Taken) → rows_of_bits entries (taken samples ++ b ∷ more) ≡ rows_of_bits entries (taken samples) ++ rows_at b.number s.words ++ rows_ahead entries s.new_left s.new_open more
    behind more = o.ahead (b ∷ more) ∙ ap (λ (r : List FlowRow). rows_of_bits entries (taken samples) ++ r) (s.on.ahead more) ∙ sym (append_assoc (rows_of_bits entries (taken samples)) (rows_at b.number s.words) (rows_ahead entries s.new_left s.new_open more))

    given : rows_of_bits entries (taken samples ++ b ∷ []) ≡ rows_of_bits entries (taken samples) ++ rows_at b.number s.words
    given = behind [] ∙ ap (λ (r : List FlowRow). rows_of_bits entries (taken samples) ++ rows_at b.number s.words ++ r) (at_end entries s.new_left s.new_open s.on.not_whole) ∙ append-nil (rows_of_bits entries (taken samples) ++ rows_at b.number s.words)

    all : rows_of_bits entries (taken (samples ++ sample ∷ [])) ≡ rows_of_bits entries (taken samples) ++ rows_at b.number s.words
    all = ap (rows_of_bits entries) e ∙ given

    bit_more : IsFurther entries samples sample
    bit_more = record {
      later = rows_at b.number s.words;
      gives = all;
      way = record {
        low = o.low;
        left = s.new_left;
        open_bits = s.new_open;
        within = s.on.within;
        short = s.on.not_whole;
        ahead = λ more. ap (λ (bits : List Taken). rows_of_bits entries (bits ++ more)) e ∙ ap (rows_of_bits entries) (append_assoc (taken samples) (b ∷ []) more) ∙ behind more ∙ ap (λ (r : List FlowRow). r ++ rows_ahead entries s.new_left s.new_open more) (sym all);
        order = subst (IsNonDecreasingBy (λ (row : FlowRow). row.slot)) (sym all) (in_order (rows_of_bits entries (taken samples)) b.number s.words o.order (All-weaker (λ (row : FlowRow). row.slot < length samples) (λ (row : FlowRow). row.slot ≤ b.number) (λ row h. omega (arith, number)) (rows_of_bits entries (taken samples)) o.slots));
        slots = subst (All (λ (row : FlowRow). row.slot < length (samples ++ sample ∷ []))) (sym all) (All-append (λ (row : FlowRow). row.slot < length (samples ++ sample ∷ [])) (rows_of_bits entries (taken samples)) (rows_at b.number s.words)
            (All-weaker (λ (row : FlowRow). row.slot < length samples) (λ (row : FlowRow). row.slot < length (samples ++ sample ∷ [])) (λ row h. omega (arith, longer)) (rows_of_bits entries (taken samples)) o.slots)
            (slots_at b.number (length (samples ++ sample ∷ [])) s.words (omega (arith, longer, number))));
        words = subst (All (λ (row : FlowRow). IsGiven row.word)) (sym all) (All-append (λ (row : FlowRow). IsGiven row.word) (rows_of_bits entries (taken samples)) (rows_at b.number s.words) o.words (words_at b.number s.words s.given));
        few = (let rows_more = ap length all ∙ length-append (rows_of_bits entries (taken samples)) (rows_at b.number s.words) in
            let words_more : length (rows_at b.number s.words) ≡ length s.words = length-map s.words (λ (word : ℕ). row_of b.number word) in
            let bits_more = ap length e ∙ length_push (taken samples) b in
            omega (arith, rows_more, words_more, bits_more, o.few, s.few));
      };
    }

  one_more : (rises : Bool) → (clock_of sample && not (clock_after false samples)) ≡ rises → IsFurther entries samples sample
  one_more true h =
      let b : Taken = record { number = length samples; state = data_of sample; sync = sync_of sample } in
      bit_more b refl (taken_push samples sample ∙ rest) (step entries o.left o.open_bits b (sync_of sample) refl o.low o.within o.short)
    where
      rest : taken samples ++ taken_at (length samples) (clock_after false samples) sample ≡ taken samples ++ record { number = length samples; state = data_of sample; sync = sync_of sample } ∷ []
      rest = rw h refl
  one_more false h = quiet (taken_push samples sample ∙ rest)
    where
      rest : taken samples ++ taken_at (length samples) (clock_after false samples) sample ≡ taken samples
      rest = rw h (append-nil (taken samples))

-- the samples and those after them
record IsThrough (entries : ℕ) (samples more : List ℕ) : Type 0 where
  later : List FlowRow
  gives : rows_of_bits entries (taken (samples ++ more)) ≡ rows_of_bits entries (taken samples) ++ later
  way : IsOnWay entries (samples ++ more)

through : (entries : ℕ) (samples more : List ℕ) → IsOnWay entries samples → IsThrough entries samples more
through entries samples [] o = record {
  later = [];
  gives = ap (λ (xs : List ℕ). rows_of_bits entries (taken xs)) (append-nil samples) ∙ sym (append-nil (rows_of_bits entries (taken samples)));
  way = subst (IsOnWay entries) (sym (append-nil samples)) o;
}
through entries samples (sample ∷ more) o =
    let f : IsFurther entries samples sample = one_more entries samples sample o (clock_of sample && not (clock_after false samples)) refl in
    let t : IsThrough entries (samples ++ sample ∷ []) more = through entries (samples ++ sample ∷ []) more f.way in
    record {
      later = f.later ++ t.later;
      gives = ap (λ (xs : List ℕ). rows_of_bits entries (taken xs)) (sym (append_assoc samples (sample ∷ []) more)) ∙ t.gives ∙ ap (λ (rows : List FlowRow). rows ++ t.later) f.gives ∙ append_assoc (rows_of_bits entries (taken samples)) f.later t.later;
      way = subst (IsOnWay entries) (append_assoc samples (sample ∷ []) more) t.way;
    }

way_of : (entries : ℕ) (samples : List ℕ) → 1 ≤ entries → IsOnWay entries samples
way_of entries samples low = (through entries [] samples (at_first entries low)).way

pub go_on : (entries : ℕ) (samples more : List ℕ) → 1 ≤ entries → (later : List FlowRow) × (rows_of_samples entries (samples ++ more) ≡ rows_of_samples entries samples ++ later)
unfolding rows_of_samples
go_on entries samples more low = let t = through entries samples more (way_of entries samples low) in (t.later, t.gives)

pub in_order_of_slots : (entries : ℕ) (samples : List ℕ) → 1 ≤ entries → IsNonDecreasingBy (λ (row : FlowRow). row.slot) (rows_of_samples entries samples)
unfolding rows_of_samples
in_order_of_slots entries samples low = (way_of entries samples low).order

pub slots_below : (entries : ℕ) (samples : List ℕ) → 1 ≤ entries → All (λ (row : FlowRow). row.slot < length samples) (rows_of_samples entries samples)
unfolding rows_of_samples
slots_below entries samples low = (way_of entries samples low).slots

pub words_below : (entries : ℕ) (samples : List ℕ) → 1 ≤ entries → All (λ (row : FlowRow). row.word < 2 ^ 64) (rows_of_samples entries samples)
unfolding rows_of_samples
words_below entries samples low = All-weaker (λ (row : FlowRow). IsGiven row.word) (λ (row : FlowRow). row.word < 2 ^ 64) (λ row h. h.wide) (rows_of_bits entries (taken samples)) (way_of entries samples low).words

pub zero_or_valid : (entries : ℕ) (samples : List ℕ) → 1 ≤ entries → All (λ (row : FlowRow). (row.word ≡ 0) ⊎ IsTrue (is_valid row.word)) (rows_of_samples entries samples)
unfolding rows_of_samples
zero_or_valid entries samples low = All-weaker (λ (row : FlowRow). IsGiven row.word) (λ (row : FlowRow). (row.word ≡ 0) ⊎ IsTrue (is_valid row.word)) (λ row h. h.told) (rows_of_bits entries (taken samples)) (way_of entries samples low).words

-- a bit takes two samples at least, but for the first
edge : (n sample : ℕ) (samples : List ℕ) (clock before : Bool) → clock_of sample ≡ clock → 2 * length (taken_from (n + 1) (clock_of sample) samples) + digit (clock_of sample) ≤ length samples + 1
    → 2 * length (taken_at n before sample ++ taken_from (n + 1) (clock_of sample) samples) + digit before ≤ suc (length samples) + 1
edge n sample samples true true e h = let rest = rw e at h in rw e (omega arith)
edge n sample samples true false e h = let rest = rw e at h in rw e (omega arith)
edge n sample samples false true e h = let rest = rw e at h in rw e (omega arith)
edge n sample samples false false e h = let rest = rw e at h in rw e (omega arith)

edges : (n : ℕ) (before : Bool) (samples : List ℕ) → 2 * length (taken_from n before samples) + digit before ≤ length samples + 1
edges n true [] = omega arith
edges n false [] = omega arith
edges n before (sample ∷ samples) = edge n sample samples (clock_of sample) before refl (edges (n + 1) (clock_of sample) samples)

pub few_rows : (entries : ℕ) (samples : List ℕ) → 1 ≤ entries → 10 * length (rows_of_samples entries samples) ≤ length samples + 1
unfolding rows_of_samples
few_rows entries samples low = let rows = (way_of entries samples low).few in let bits = edges 0 false samples in omega arith
