-- The bytes that a transmitter made and gave.
use Rattle.std.proofs.Common.{ℕ, ◌≡◌, ◌≢◌, inl, inr, ◌+◌, ◌-◌, ◌*◌, ◌%◌, ◌<◌, ◌≤◌, ◌==◌, refl, sym, ap, ◌∙◌, subst, true, false, List, [], ◌++◌, Vec, length, take, drop, get_or, append_assoc, append-nil, length-append, arith, eq-eqb, eqb-true}
use Rattle.std.specs.Global.{Global}
use Rattle.std.proofs.Math.ListN.{set}
use Rattle.std.proofs.Math.Seq.{drop-length}
use Rattle.std.proofs.lemmas.Bool.{both_ways, cases_lt, eqb-false}
use Rattle.std.proofs.lemmas.List.{drop-drop, length-take-le, nil_from_length, take-append-drop, take_all}
use Rattle.std.proofs.lemmas.List.Elements.{All-append}
use Rattle.std.proofs.lemmas.Nat.{mod-mul-add}
use Rattle.lk_base.specs.declared.word.Word.{Word}
use Rattle.lk_base.specs.Link.{Settings, group_of}
use Rattle.lane_model.proofs.Numbers.{split}
use Rattle.lane_model.specs.Framing.{payloads}
use Rattle.lane_model.specs.Striping.{lane_payload}
use Rattle.stream_model.specs.BurstStream.{Source, IsBurstStream}
use Rattle.tx_end.specs.declared.lane_writer.LaneWriter.{LaneWriter}
use Rattle.tx_end.specs.declared.transmitter.Transmitter.{Transmitter}
use Rattle.tx_end.specs.declared.tx_out.TxOut.{TxOut}
use Rattle.tx_end.specs.Lanes.{Fills, HasEnded, HasFilled, HasRoom, InTurn, IsCarried, IsEnded, IsFilled}
use Rattle.tx_end.specs.LaneRows.{bytes_on, on_lane}
use Rattle.tx_end.specs.Sending.{AreAll, Awaits, Closes, HasTurn, IsDriven, Makes, Sending, Sends, gave_more, left_on, made_on}
use Rattle.tx_end.proofs.Finishing.{file_closed, none_waits}
use Rattle.tx_end.proofs.Groups.{payload_append, regroup_words}
use Rattle.tx_end.proofs.LaneRows.{all_on_lane, bytes_apart, bytes_behind}
use Rattle.tx_end.proofs.Shapes.{whole_groups}
use Rattle.tx_end.proofs.Turns.{first_lane, one_turn, same_turn}
use Rattle.tx_end.proofs.Waits.{waits}

-- ---- its stages

pub makes_of : (t : Transmitter) (a : Sending) → Sends t a → t.over ≡ false → Makes t a
makes_of t a k e = elim k.stage [
  | inl m ↦ m.1
  | inr m ↦ absurd (both_ways t.over e m.0)
]

pub closes_of : (t : Transmitter) (a : Sending) → Sends t a → t.over ≡ true → Closes t a
closes_of t a k e = elim k.stage [
  | inl m ↦ absurd (both_ways t.over m.0 e)
  | inr m ↦ m.1
]

pub lanes_count : (t : Transmitter) (a : Sending) → Sends t a → length t.lanes.items ≡ a.settings.lanes
lanes_count t a k = elim k.stage [
  | inl m ↦ m.1.turns.count
  | inr m ↦ m.1.turns.count
]

-- ---- what is left of the last lane's bytes

pub none_left : (turn i : ℕ) → left_on turn [] i ≡ []
none_left turn i = split {b = i + 1 == turn} (λ e. rw e refl) (λ e. rw e refl)

pub done_on : (turn at : ℕ) (bytes : List ℕ) (outs : List TxOut) (i : ℕ) → at ≡ length bytes → bytes_on i outs ++ left_on turn (drop at bytes) i ≡ bytes_on i outs
done_on turn at bytes outs i e =
    let none : drop at bytes ≡ [] = ap (λ n. drop n bytes) e ∙ drop-length bytes in
    ap (λ l. bytes_on i outs ++ left_on turn l i) none ∙ ap (λ l. bytes_on i outs ++ l) (none_left turn i) ∙ append-nil (bytes_on i outs)

pub other_left : (turn i : ℕ) (left : List ℕ) → i ≢ turn → left_on (turn + 1) left i ≡ []
other_left turn i left other = split {b = i + 1 == turn + 1}
    (λ e. absurd (other (let z : i + 1 ≡ turn + 1 = eqb-true (i + 1) (turn + 1) e in omega (arith, z))))
    (λ e. rw e refl)

pub own_left : (turn : ℕ) (left : List ℕ) → left_on (turn + 1) left turn ≡ left
own_left turn left = rw (eq-eqb (turn + 1) (turn + 1) refl) refl

-- some bytes more of the last lane are given
pub given_on : (turn lane : ℕ) (outs : List TxOut) (first left : List ℕ) (i : ℕ) → lane + 1 ≡ turn →
    bytes_on i (outs ++ on_lane lane first) ++ left_on turn left i ≡ bytes_on i outs ++ left_on turn (first ++ left) i
given_on turn lane outs first left i last = split {b = i + 1 == turn}
    (λ e. let z : i + 1 ≡ turn = eqb-true (i + 1) turn e in
    let is : i ≡ lane = omega (arith, z, last) in
    rw e (ap (λ m. bytes_on m (outs ++ on_lane lane first) ++ left) is ∙ ap (λ b. b ++ left) (bytes_behind lane outs first) ∙ append_assoc (bytes_on lane outs) first left ∙ sym (ap (λ m. bytes_on m outs ++ (first ++ left)) is)))
    (λ e. let other : i ≢ lane = λ is. eqb-false (i + 1) turn e (ap (λ m. m + 1) is ∙ last) in
    rw e (ap (λ b. b ++ []) (bytes_apart i lane outs first other)))

-- ---- a group more

-- where the stream goes on, the whole group is made
block_full : (source : Source) (words block : List Word) (m g n : ℕ) → source.shape.group ≡ g → length words ≡ m * g → n ≤ g → length block ≡ g → (IsBurstStream source words → ⊥) →
    (n < g → IsBurstStream source (words ++ take n block)) → n ≡ g
block_full source words block m g n shape count within long on whole = elim (cases_lt n g) [
  | inl l ↦
      let stream = whole l in
      let even : length (words ++ take n block) % g ≡ 0 = whole_groups source (words ++ take n block) g stream shape in
      let e : length (words ++ take n block) ≡ m * g + n = length-append words (take n block) ∙ ap (λ k. length words + k) (length-take-le n block (omega (arith, l, long))) ∙ ap (λ k. k + n) count in
      let none : n ≡ 0 = sym (mod-mul-add m g n l) ∙ ap (λ k. k % g) (sym e) ∙ even in
      absurd (on (subst (λ (w : List Word). IsBurstStream source w) (ap (λ k. words ++ take k block) none ∙ append-nil words) stream))
  | inr l ↦ omega (arith, l, within)
]

pub block_whole : (source : Source) (words block : List Word) (m g n : ℕ) → source.shape.group ≡ g → length words ≡ m * g → n ≤ g → length block ≡ g → (IsBurstStream source words → ⊥) →
    (n < g → IsBurstStream source (words ++ take n block)) → take n block ≡ block
block_whole source words block m g n shape count within long on whole =
    let full = block_full source words block m g n shape count within long on whole in
    take_all n block (omega (arith, full, long))

-- a lane that was given all words awaits its own of the next group
pub awaits : (s : Settings) (words block group : List Word) (m i : ℕ) (l : LaneWriter) (b : List ℕ) → i < s.lanes → length words ≡ m * group_of s → group ≡ block → IsFilled s words m i l b → Awaits s group (words ++ block) (m + 1) i l b
awaits s words block group m i l b h count e k = (
  lane_payload s.lanes words i,
  m,
  k,
  payload_append s.lanes (m * payloads s) i words block h (count ∙ regroup_words m s.lanes (payloads s)) ∙ ap (λ g. lane_payload s.lanes words i ++ lane_payload s.lanes g i) (sym e),
  refl,
)

-- ---- the end

-- each lane has its last byte, and all bytes are given
pub all_ended : (t : Transmitter) (a : Sending) → Sends t a → t.over ≡ true → a.settings.lanes ≤ t.turn → t.at ≡ length t.bytes.items → AreAll a
all_ended t a k over all given =
    let m = closes_of t a k over in
    let s = a.settings in
    record {
      stream = m.whole;
      files = λ i h.
          let d : LaneWriter = first_lane t.lanes.items (omega (arith, h, m.turns.count)) in
          file_closed s a.words i m.metaframes (bytes_on i a.outs) k.driven.link m.count
          (subst (λ (b : List ℕ). IsCarried s i (lane_payload s.lanes a.words i) (m.metaframes * s.metaframe) b) (done_on t.turn t.at t.bytes.items a.outs i given)
          (m.turns.had i d (omega (arith, h, all)) h));
    }

-- ---- bytes are given

-- some bytes more of those that are made
abbrev pub further : Transmitter → ℕ → Transmitter
further t n = record { link = t.link; maker = t.maker; list = t.list; lanes = t.lanes; group = t.group; turn = t.turn; bytes = t.bytes; at = t.at + n; over = t.over }

pub gives : (t : Transmitter) (a : Sending) (n : ℕ) → Sends t a → 1 ≤ n → t.at + n ≤ length t.bytes.items →
    Sends (further t n) (gave_more a a.words (on_lane (t.turn - 1) (take n (drop t.at t.bytes.items)))) × (t.turn - 1 < a.settings.lanes)
gives t a n k some within =
    let s = a.settings in
    let d = k.driven in
    let lane : ℕ = t.turn - 1 in
    let first : List ℕ = take n (drop t.at t.bytes.items) in
    let started = d.place.begun (omega (arith, some, within)) in
    let low : lane < s.lanes = omega (arith, started, d.place.turn) in
    let last : lane + 1 ≡ t.turn = omega (arith, started) in
    let cut : first ++ drop (t.at + n) t.bytes.items ≡ drop t.at t.bytes.items = ap (λ r. first ++ r) (sym (drop-drop n t.at t.bytes.items)) ∙ take-append-drop n (drop t.at t.bytes.items) in
    let same : (i : ℕ) → bytes_on i (a.outs ++ on_lane lane first) ++ left_on t.turn (drop (t.at + n) t.bytes.items) i ≡ made_on t a.outs i =
    λ i. given_on t.turn lane a.outs first (drop (t.at + n) t.bytes.items) i last ∙ ap (λ l. bytes_on i a.outs ++ left_on t.turn l i) cut in
    let more : ℕ → List ℕ = λ i. bytes_on i (a.outs ++ on_lane lane first) ++ left_on t.turn (drop (t.at + n) t.bytes.items) i in (
      record {
        driven = record { link = d.link; settings = d.settings; shape = d.shape; gave = d.gave; bytes = d.bytes; few = d.few; lists = d.lists; place = record { group = d.place.group; room = d.place.room; turn = d.place.turn; at = within; begun = λ h. started } };
        stage = elim k.stage [
          | inl m ↦ inl (
            m.0,
            record {
              metaframes = m.1.metaframes;
              count = m.1.count;
              turns = same_turn s.lanes t.turn t.lanes.items (made_on t a.outs) more (Awaits s t.group.items a.words m.1.metaframes) (IsFilled s a.words m.1.metaframes) m.1.turns same;
            },
          )
          | inr m ↦ inr (
            m.0,
            record {
              whole = m.1.whole;
              metaframes = m.1.metaframes;
              count = m.1.count;
              turns = same_turn s.lanes t.turn t.lanes.items (made_on t a.outs) more (IsFilled s a.words m.1.metaframes) (λ i _. IsEnded s a.words m.1.metaframes i) m.1.turns same;
            },
          )
        ];
        lanes = All-append (λ (o : TxOut). o.lane < s.lanes) a.outs (on_lane lane first) k.lanes (all_on_lane lane s.lanes first low);
      },
      low,
    )

-- ---- a lane makes its bytes

-- the lane whose turn it was is this, and these are its bytes
abbrev pub after_turn : Transmitter → Vec LaneWriter Global → Vec ℕ Global → Transmitter
after_turn t lanes bytes = record { link = t.link; maker = t.maker; list = t.list; lanes = lanes; group = t.group; turn = t.turn + 1; bytes = bytes; at = 0; over = t.over }

-- what the next lane made stands after what is given of it, and the others keep theirs
more_on : (turn at i : ℕ) (old bytes : List ℕ) (outs : List TxOut) → at ≡ length old → i ≢ turn → bytes_on i outs ++ left_on (turn + 1) (drop 0 bytes) i ≡ bytes_on i outs ++ left_on turn (drop at old) i
more_on turn at i old bytes outs given other = ap (λ l. bytes_on i outs ++ l) (other_left turn i bytes other) ∙ append-nil (bytes_on i outs) ∙ sym (done_on turn at old outs i given)

own_on : (turn at : ℕ) (old bytes : List ℕ) (outs : List TxOut) → at ≡ length old → (bytes_on turn outs ++ left_on turn (drop at old) turn) ++ bytes ≡ bytes_on turn outs ++ left_on (turn + 1) (drop 0 bytes) turn
own_on turn at old bytes outs given = ap (λ b. b ++ bytes) (done_on turn at old outs turn given) ∙ sym (ap (λ l. bytes_on turn outs ++ l) (own_left turn bytes))

drives_on : (t : Transmitter) (a : Sending) (lanes : Vec LaneWriter Global) (bytes : Vec ℕ Global) → IsDriven t a.settings a.source a.words → t.turn < a.settings.lanes → HasRoom a.settings bytes → IsDriven (after_turn t lanes bytes) a.settings a.source a.words
drives_on t a lanes bytes d low room = record {
  link = d.link;
  settings = d.settings;
  shape = d.shape;
  gave = d.gave;
  bytes = d.bytes;
  few = d.few;
  lists = d.lists;
  place = record {
    group = d.place.group;
    room = room;
    turn = omega (arith, low);
    at = omega arith;
    begun = λ h. omega arith;
  };
}

-- a metaframe has bytes
some_made : (b0 b1 x y m : ℕ) (l : ℕ) → 8 * b0 + x ≡ 67 * (m * l) → 8 * (b0 + b1) + y ≡ 67 * ((m + 1) * l) → y < 8 → 32 ≤ l → 0 < b1
some_made b0 b1 x y m l e f low long = (let p : (m + 1) * l ≡ m * l + l = omega arith in omega (arith, e, f, low, long, p))

pub metaframe_made : (t : Transmitter) (a : Sending) (l : LaneWriter) (lanes : Vec LaneWriter Global) (bytes : Vec ℕ Global) → HasTurn t a → t.over ≡ false → lanes.items ≡ set t.lanes.items t.turn l →
    ((d : LaneWriter) → Fills a.settings t.turn t.group.items (get_or t.lanes.items t.turn d) l bytes.items) → HasRoom a.settings bytes → Sends (after_turn t lanes bytes) a × (0 < length bytes.items)
metaframe_made t a l lanes bytes is going items fills room =
    let (k, low, given) = is in
    let s = a.settings in
    let m = makes_of t a k going in
    let d : LaneWriter = first_lane t.lanes.items (omega (arith, low, m.turns.count)) in
    let (before, made, filled, words, one) = m.turns.still t.turn d (omega arith) low in
    let next : HasFilled l s t.turn (before ++ lane_payload s.lanes t.group.items t.turn) (made + 1) (made_on t a.outs t.turn ++ bytes.items) = fills d before made (made_on t a.outs t.turn) filled in
    let more : ℕ → List ℕ = λ i. bytes_on i a.outs ++ left_on (t.turn + 1) (drop 0 bytes.items) i in
    let own : IsFilled s a.words m.metaframes t.turn l (more t.turn) =
    subst (λ (g : List Word). HasFilled l s t.turn g m.metaframes (more t.turn)) (sym words)
    (subst (λ (n : ℕ). HasFilled l s t.turn (before ++ lane_payload s.lanes t.group.items t.turn) n (more t.turn)) (sym one)
    (subst (λ (b : List ℕ). HasFilled l s t.turn (before ++ lane_payload s.lanes t.group.items t.turn) (made + 1) b) (own_on t.turn t.at t.bytes.items bytes.items a.outs given) next)) in
    let turns = one_turn s.lanes t.turn t.lanes.items (made_on t a.outs) more (Awaits s t.group.items a.words m.metaframes) (IsFilled s a.words m.metaframes) l m.turns low
    (λ i h other. more_on t.turn t.at i t.bytes.items bytes.items a.outs given other) own in
    let some = (
    let x = waits (get_or t.lanes.items t.turn d) s t.turn (made * s.metaframe) before (made_on t a.outs t.turn) filled.carries in
    let y = waits l s t.turn ((made + 1) * s.metaframe) (before ++ lane_payload s.lanes t.group.items t.turn) (made_on t a.outs t.turn ++ bytes.items) next.carries in
    let z = length-append (made_on t a.outs t.turn) bytes.items in
    some_made (length (made_on t a.outs t.turn)) (length bytes.items) _ (length l.bits) made s.metaframe x (ap (λ n. 8 * n + length l.bits) (sym z) ∙ y) next.waiting k.driven.link.metaframe.0) in (
      record {
        driven = drives_on t a lanes bytes k.driven low room;
        stage = inl (
          going,
          record {
            metaframes = m.metaframes;
            count = m.count;
            turns = subst (λ (xs : List LaneWriter). InTurn s.lanes (t.turn + 1) xs more (Awaits s t.group.items a.words m.metaframes) (IsFilled s a.words m.metaframes)) (sym items) turns;
          },
        );
        lanes = k.lanes;
      },
      some,
    )

pub end_made : (t : Transmitter) (a : Sending) (l : LaneWriter) (lanes : Vec LaneWriter Global) (bytes : Vec ℕ Global) → HasTurn t a → t.over ≡ true → lanes.items ≡ set t.lanes.items t.turn l →
    ((d : LaneWriter) (b : List ℕ) → HasEnded (get_or t.lanes.items t.turn d) b (b ++ bytes.items)) → (bytes.items ≡ [] → (d : LaneWriter) → length (get_or t.lanes.items t.turn d).bits ≡ 0) → HasRoom a.settings bytes →
    Sends (after_turn t lanes bytes) a × (0 ≡ length bytes.items → AreAll a)
end_made t a l lanes bytes is over items ends none room =
    let (k, low, given) = is in
    let s = a.settings in
    let m = closes_of t a k over in
    let d : LaneWriter = first_lane t.lanes.items (omega (arith, low, m.turns.count)) in
    let filled = m.turns.still t.turn d (omega arith) low in
    let more : ℕ → List ℕ = λ i. bytes_on i a.outs ++ left_on (t.turn + 1) (drop 0 bytes.items) i in
    let own : IsEnded s a.words m.metaframes t.turn (more t.turn) =
    subst (λ (b : List ℕ). IsEnded s a.words m.metaframes t.turn b) (own_on t.turn t.at t.bytes.items bytes.items a.outs given)
    (ends d (made_on t a.outs t.turn) s t.turn (lane_payload s.lanes a.words t.turn) (m.metaframes * s.metaframe) filled.carries) in
    let turns = one_turn s.lanes t.turn t.lanes.items (made_on t a.outs) more (IsFilled s a.words m.metaframes) (λ i _. IsEnded s a.words m.metaframes i) l m.turns low
    (λ i h other. more_on t.turn t.at i t.bytes.items bytes.items a.outs given other) own in (
      record {
        driven = drives_on t a lanes bytes k.driven low room;
        stage = inr (
          over,
          record {
            whole = m.whole;
            metaframes = m.metaframes;
            count = m.count;
            turns = subst (λ (xs : List LaneWriter). InTurn s.lanes (t.turn + 1) xs more (IsFilled s a.words m.metaframes) (λ i _. IsEnded s a.words m.metaframes i)) (sym items) turns;
          },
        );
        lanes = k.lanes;
      },
      λ e. record {
        stream = m.whole;
        files = λ i h.
            let empty = none (nil_from_length bytes.items (sym e)) d in
            let all : IsCarried s i (lane_payload s.lanes a.words i) (m.metaframes * s.metaframe) (made_on t a.outs i) = elim (cases_lt i t.turn) [
              | inl b ↦ m.turns.had i d b h
              | inr b ↦ none_waits (get_or t.lanes.items t.turn d) (get_or t.lanes.items i d) s t.turn i (m.metaframes * s.metaframe) (lane_payload s.lanes a.words t.turn) (lane_payload s.lanes a.words i) (made_on t a.outs t.turn) (made_on t a.outs i)
                  filled.carries (m.turns.still i d b h).carries empty (m.turns.still i d b h).waiting
            ] in
            file_closed s a.words i m.metaframes (bytes_on i a.outs) k.driven.link m.count
            (subst (λ (b : List ℕ). IsCarried s i (lane_payload s.lanes a.words i) (m.metaframes * s.metaframe) b) (done_on t.turn t.at t.bytes.items a.outs i given) all);
      },
    )
