-- An inspector goes on over some bits more.
use Rattle.std.proofs.Common.{ℕ, zero, suc, get_or, ◌≡◌, refl, sym, ap, ◌∙◌, subst, ◌+◌, ◌-◌, ◌*◌, ◌%◌, ◌^◌, ◌<◌, ◌≤◌, ◌==◌, cond, Bool, true, false, List, [], ◌∷◌, ◌++◌, length, take, drop, replicate, arith, Option, Some, append_assoc, ne_eqb}
use Rattle.std.specs.Prelude.{ℤ}
use Rattle.std.specs.Int.Count.{ones_in}
use Rattle.std.proofs.lemmas.Bool.{false≢true}
use Rattle.std.proofs.lemmas.List.{length-take-le, append-nil, length-drop}
use Rattle.lk_base.specs.Link.{Settings, IsLink}
use Rattle.lk_base.specs.declared.word.RxWord.TheVariants.{Control}
use Rattle.lane_model.specs.Coding.{excess}
use Rattle.lane_model.specs.Framing.{role_of, sync_payload}
use Rattle.lane_model.specs.Bits.{high_number, low_number}
use Rattle.lane_model.proofs.Numbers.{length-bits_of}
use Rattle.lk_base.specs.Checksum.{bits_of}
use Rattle.lock_model.specs.declared.types.LaneReport.{LaneReport}
use Rattle.lock_model.specs.declared.types.LaneStep.{LaneStep}
use Rattle.lock_model.specs.declared.types.LaneStep.TheVariants as steps
use Rattle.lock_model.specs.Locks.{Attempt, AreAttempts, LocksWords, code_at}
use Rattle.lock_model.proofs.Prefixes.{legal_here}
use Rattle.lock_model.specs.Received.{Lock, received_at}
use Rattle.lock_model.specs.Steps.{AreSteps}
use Rattle.lock_model.proofs.Existing.{attempts_exist}
use Rattle.lock_model.proofs.Determined.{determined}
use Rattle.lock_model.proofs.Roles.{role_sync}
use Rattle.lock_model.proofs.StepsHold.{steps_exist}
use Rattle.lane_lock.specs.Lane.{LaneView}
use Rattle.lane_lock.specs.Bytes.{Brings}
use Rattle.lane_lock.specs.Standing.{IsReport, Stands}
use Rattle.lane_events.specs.declared.types.LaneEvent.{LaneEvent}
use Rattle.lane_events.specs.declared.types.EventKind.TheVariants as kinds
use Rattle.lane_events.specs.declared.word_events.WordEvents.{WordEvents}
use Rattle.lane_events.specs.EventLaw.{AreCounted}
use Rattle.lane_events.specs.Events.{AreLaneEvents, has_event, lane_events, word_events}
use Rattle.lane_events.specs.Inspection.{Balances, GoesOn, Inspects, InspectorView, IsPassed, IsPushed, IsShown, IsTold, balance_of, events_in, excess_before, open_of}
use Rattle.lane_events.specs.Steps.{balance_before, balance_behind, covered_has, events_at, is_plain, told, unbalances}
use Rattle.lane_events.specs.Balance.{balance_after}
use Rattle.lane_events.proofs.Balances.{balance_more, balances_stay, none_balance, unbalances_is}
use Rattle.lane_events.proofs.Counts.{events_are_counted}
use Rattle.lane_events.proofs.Grow.{CoversWord, First, Loses, Next, Quiet, Tells}
use Rattle.lane_events.proofs.LastBits.{code_before, window_more}
use Rattle.lane_events.proofs.PlainWords.{no_events, plain_parts}
use Rattle.lane_events.proofs.Telling.{covered_told, lost_told}
use Rattle.lane_events.proofs.Walking.{Stays, Walked, quiet, walk}

long_of : (s : Settings) → IsLink s → 32 ≤ s.metaframe
long_of s link = link.metaframe.0

-- ---- one word

-- what is told of the word of a step, and the balance after it
record Told (s : Settings) (bits : List Bool) (now : Option Lock) (new : List LaneEvent) (balance : Option ℤ) (given : List LaneEvent) : Type 0 where
  events : given ≡ new
  balances : Balances balance bits now

module _ (s : Settings) (link : IsLink s) (bits : List Bool) (excess_now : ℤ) (old : List LaneEvent) (before after : LaneReport) (counts_before : AreCounted old before) where
  -- a covered word, by what its step has of it
  covers : (at r : ℕ) (balance : Option ℤ) (now : Option Lock) (new : List LaneEvent) (step x : LaneStep) → CoversWord s bits at r now new step → AreCounted (old ++ new) after →
      ((u : Bool) → told x before after u ≡ events_at (at + 67 * r) (covered_has (received_at s bits at r) (role_of s (r % s.metaframe)) before after u)) →
      ((b : Option ℤ) (e : ℤ) → balance_behind x b e ≡ balance_after b e) →
      balance_before x balance ≡ balance_of bits at r → excess_now ≡ excess 67 (ones_in 67 (code_at bits (at + 67 * r))) →
      Told s bits now new (balance_behind x (balance_before x balance) excess_now) (told x before after (unbalances (balance_before x balance) (balance_behind x (balance_before x balance) excess_now)))
  covers at r balance now new step x k counts_after told_is behind_is started e =
      let behind : balance_behind x (balance_before x balance) excess_now ≡ balance_of bits at (r + 1) =
      behind_is (balance_before x balance) excess_now ∙ ap (λ b. balance_after b excess_now) started ∙ ap (balance_after (balance_of bits at r)) e ∙ balance_more bits at r in
      let turned : unbalances (balance_before x balance) (balance_behind x (balance_before x balance) excess_now) ≡ has_event s bits at r kinds.Balance =
      ap (λ b. unbalances b (balance_behind x (balance_before x balance) excess_now)) started ∙ ap (unbalances (balance_of bits at r)) behind ∙ unbalances_is s bits at r in
      let counts : AreCounted (old ++ word_events s bits at r) after = subst (λ (es : List LaneEvent). AreCounted (old ++ es) after) k.events counts_after in
      let ends = k.ends in
      record {
        events = told_is (unbalances (balance_before x balance) (balance_behind x (balance_before x balance) excess_now))
            ∙ covered_told s bits link at r old before after counts_before counts (unbalances (balance_before x balance) (balance_behind x (balance_before x balance) excess_now)) turned
            ∙ sym k.events;
        balances = subst (λ (o : Option Lock). Balances (balance_behind x (balance_before x balance) excess_now) bits o) (sym k.now_is) (behind, omega (arith, ends));
      }

  -- the declaring Sync
  first_covers : (at : ℕ) (balance : Option ℤ) (now : Option Lock) (new : List LaneEvent) (step : LaneStep) → CoversWord s bits at 0 now new step → AreCounted (old ++ new) after →
      excess_now ≡ excess 67 (ones_in 67 (code_at bits (at + 67 * 0))) →
      Told s bits now new (balance_behind step (balance_before step balance) excess_now) (told step before after (unbalances (balance_before step balance) (balance_behind step (balance_before step balance) excess_now)))
  first_covers at balance now new step k counts_after e =
      let long = long_of s link in
      let zero_place : 0 % s.metaframe ≡ 0 = omega (arith, long) in
      subst (λ (x : LaneStep). Told s bits now new (balance_behind x (balance_before x balance) excess_now) (told x before after (unbalances (balance_before x balance) (balance_behind x (balance_before x balance) excess_now)))) (sym k.step_is)
      (covers at 0 balance now new step (steps.Locked (at + 67 * 0)) k counts_after
      (λ u. sym (ap (λ w. events_at (at + 67 * 0) (covered_has w (role_of s (0 % s.metaframe)) before after u)) (k.first refl)
      ∙ ap (λ p. events_at (at + 67 * 0) (covered_has (Control sync_payload) (role_of s p) before after u)) zero_place
      ∙ ap (λ r. events_at (at + 67 * 0) (covered_has (Control sync_payload) r before after u)) (role_sync s)))
      (λ b x. refl) (sym (none_balance bits at)) e)

  -- a word after it
  next_covers : (at r : ℕ) (balance : Option ℤ) (now : Option Lock) (new : List LaneEvent) (step : LaneStep) → 0 < r → CoversWord s bits at r now new step → AreCounted (old ++ new) after →
      balance ≡ balance_of bits at r → excess_now ≡ excess 67 (ones_in 67 (code_at bits (at + 67 * r))) →
      Told s bits now new (balance_behind step (balance_before step balance) excess_now) (told step before after (unbalances (balance_before step balance) (balance_behind step (balance_before step balance) excess_now)))
  next_covers at r balance now new step some k counts_after is e =
      let f : (r == 0) ≡ false = ne_eqb r 0 (λ z. omega (arith, z, some)) in
      let w : LaneStep = steps.Word (received_at s bits at r) (role_of s (r % s.metaframe)) (at + 67 * r) in
      subst (λ (x : LaneStep). Told s bits now new (balance_behind x (balance_before x balance) excess_now) (told x before after (unbalances (balance_before x balance) (balance_behind x (balance_before x balance) excess_now))))
      (sym (k.step_is ∙ ap (λ b. cond b (steps.Locked (at + 67 * r)) w) f))
      (covers at r balance now new step w k counts_after (λ u. refl) (λ b x. refl) is e)

  -- the word of any step
  tells_all : (balance : Option ℤ) (before_lock now : Option Lock) (new : List LaneEvent) (step : LaneStep) → Tells s bits before_lock now new step → AreCounted (old ++ new) after →
      Balances balance bits before_lock → ((q : ℕ) → q + 67 ≡ length bits → excess_now ≡ excess 67 (ones_in 67 (code_at bits q))) →
      Told s bits now new (balance_behind step (balance_before step balance) excess_now) (told step before after (unbalances (balance_before step balance) (balance_behind step (balance_before step balance) excess_now)))
  tells_all balance before_lock now new step (Quiet same none nothing) counts_after bal code =
      subst (λ (x : LaneStep). Told s bits now new (balance_behind x (balance_before x balance) excess_now) (told x before after (unbalances (balance_before x balance) (balance_behind x (balance_before x balance) excess_now)))) (sym nothing)
      (record { events = sym none; balances = subst (λ (o : Option Lock). Balances balance bits o) (sym same) bal })
  tells_all balance before_lock now new step (First at k) counts_after bal code =
      first_covers at balance now new step k counts_after (code (at + 67 * 0) k.ends)
  tells_all balance before_lock now new step (Next at r some is k) counts_after bal code =
      let own : Balances balance bits (Some (record { at = at; count = r; lost = false })) = subst (λ (o : Option Lock). Balances balance bits o) is bal in
      next_covers at r balance now new step some k counts_after own.0 (code (at + 67 * r) k.ends)
  tells_all balance before_lock now new step (Loses at declared loss none is lost) counts_after bal code =
      subst (λ (x : LaneStep). Told s bits now new (balance_behind x (balance_before x balance) excess_now) (told x before after (unbalances (balance_before x balance) (balance_behind x (balance_before x balance) excess_now)))) (sym lost)
      (record {
        events = lost_told at declared loss.why old before after counts_before (subst (λ (es : List LaneEvent). AreCounted (old ++ es) after) is counts_after) ∙ sym is;
        balances = subst (λ (o : Option Lock). Balances balance bits o) (sym none) tt;
      })

-- ---- a word that shows nothing

module _ (s : Settings) (link : IsLink s) (bits : List Bool) (excess_now : ℤ) (balance : Option ℤ) where
  -- a payload word with a legal header
  passes_next : (at r : ℕ) (now : Option Lock) (new : List LaneEvent) (step : LaneStep) → 0 < r → CoversWord s bits at r now new step → is_plain step ≡ true →
      unbalances balance (balance_behind step balance excess_now) ≡ false → balance ≡ balance_of bits at r → excess_now ≡ excess 67 (ones_in 67 (code_at bits (at + 67 * r))) →
      (new ≡ []) × Balances (balance_behind step balance excess_now) bits now
  passes_next at r now new step some k plain balanced is e =
      let f : (r == 0) ≡ false = ne_eqb r 0 (λ z. omega (arith, z, some)) in
      let w : LaneStep = steps.Word (received_at s bits at r) (role_of s (r % s.metaframe)) (at + 67 * r) in
      let own : step ≡ w = k.step_is ∙ ap (λ b. cond b (steps.Locked (at + 67 * r)) w) f in
      let parts = plain_parts (received_at s bits at r) (role_of s (r % s.metaframe)) (subst (λ (x : LaneStep). is_plain x ≡ true) own plain) in
      let behind : balance_after balance excess_now ≡ balance_of bits at (r + 1) = ap (λ b. balance_after b excess_now) is ∙ ap (balance_after (balance_of bits at r)) e ∙ balance_more bits at r in
      let turned : has_event s bits at r kinds.Balance ≡ false =
      sym (unbalances_is s bits at r) ∙ sym (ap (λ b. unbalances b (balance_of bits at (r + 1))) is) ∙ sym (ap (unbalances balance) behind)
      ∙ subst (λ (x : LaneStep). unbalances balance (balance_behind x balance excess_now) ≡ false) own balanced in
      let ends = k.ends in (
        k.events ∙ no_events s link bits at r some parts.0 parts.1 turned,
        subst (λ (x : LaneStep). Balances (balance_behind x balance excess_now) bits now) (sym own)
            (subst (λ (o : Option Lock). Balances (balance_after balance excess_now) bits o) (sym k.now_is) (behind, omega (arith, ends))),
      )

  -- the word of any step that shows nothing but a balance
  tells_nothing : (before_lock now : Option Lock) (new : List LaneEvent) (step : LaneStep) → Tells s bits before_lock now new step → is_plain step ≡ true →
      unbalances balance (balance_behind step balance excess_now) ≡ false → Balances balance bits before_lock →
      ((q : ℕ) → q + 67 ≡ length bits → excess_now ≡ excess 67 (ones_in 67 (code_at bits q))) → (new ≡ []) × Balances (balance_behind step balance excess_now) bits now
  tells_nothing before_lock now new step (Quiet same none nothing) plain balanced bal code = (
    none,
    subst (λ (x : LaneStep). Balances (balance_behind x balance excess_now) bits now) (sym nothing) (subst (λ (o : Option Lock). Balances balance bits o) (sym same) bal),
  )
  tells_nothing before_lock now new step (First at k) plain balanced bal code = absurd (false≢true (subst (λ (x : LaneStep). is_plain x ≡ true) k.step_is plain))
  tells_nothing before_lock now new step (Next at r some is k) plain balanced bal code =
      let own : Balances balance bits (Some (record { at = at; count = r; lost = false })) = subst (λ (o : Option Lock). Balances balance bits o) is bal in
      passes_next at r now new step some k plain balanced own.0 (code (at + 67 * r) k.ends)
  tells_nothing before_lock now new step (Loses at declared loss none is lost) plain balanced bal code = absurd (false≢true (subst (λ (x : LaneStep). is_plain x ≡ true) lost plain))

-- ---- some bits more

reported : (s : Settings) (bits : List Bool) (report : LaneReport) → IsReport s bits report → (attempts : List Attempt) → AreAttempts s.metaframe bits attempts → AreCounted (lane_events s bits attempts) report
reported s bits report is attempts are =
    subst (λ (r : LaneReport). AreCounted (lane_events s bits attempts) r) (sym (is attempts are))
    (events_are_counted s bits (lane_events s bits attempts) attempts (record { attempts = attempts; are = are; events_are = refl }) are)

-- the same events are counted the same
still_counted : (old all : List LaneEvent) (before after : LaneReport) → all ≡ old → after ≡ before → AreCounted old before → AreCounted all after
still_counted old all before after e f h = subst (λ (es : List LaneEvent). AreCounted es after) (sym e) (subst (λ (r : LaneReport). AreCounted old r) (sym f) h)

-- where none of them ends a word
goes_on_quiet : (v w : InspectorView) (width x : ℕ) (more : List Bool) → length more ≡ width → Brings v.lock w.lock more (replicate width steps.Nothing) → IsPushed v w width x →
    ((bits : List Bool) → v.window ≡ high_number bits % 2 ^ 128 → w.window ≡ high_number (bits ++ more) % 2 ^ 128) → GoesOn v w more []
goes_on_quiet v w width x more len brings pushed window = record {
  inspects = λ s bits k.
      let own = steps_exist s bits in
      let now = brings s bits own.0 k.stands own.1 in
      let before = attempts_exist s.metaframe bits in
      let long = long_of s k.stands.link in
      let stays : (attempts : List Attempt) → AreAttempts s.metaframe (bits ++ more) attempts → Stays s long bits more before.0 attempts = λ attempts are. quiet s long more bits own.0 own.1.long (subst (λ (n : ℕ). AreSteps s (bits ++ more) (own.0 ++ replicate n steps.Nothing)) (sym len) now.1) before.0 attempts before.1 are in
      record {
        stands = now.0;
        count = pushed.counts;
        window = window bits k.window;
        balances = λ attempts are.
            subst (λ (o : Option Lock). Balances w.balance (bits ++ more) o) (sym (stays attempts are).lock)
            (subst (λ (b : Option ℤ). Balances b (bits ++ more) (open_of bits before.0)) (sym pushed.balance)
            (balances_stay s v.balance bits more (open_of bits before.0) (omega (arith, long)) (k.balances before.0 before.1)));
        counts = λ attempts are. still_counted (lane_events s bits before.0) (lane_events s (bits ++ more) attempts) v.counted w.counted (stays attempts are).events pushed.counted (k.counts before.0 before.1);
      };
  events = λ s bits events k are.
      let own = steps_exist s bits in
      let now = brings s bits own.0 k.stands own.1 in
      let after = attempts_exist s.metaframe (bits ++ more) in
      let stays = quiet s (long_of s k.stands.link) more bits own.0 own.1.long (subst (λ (n : ℕ). AreSteps s (bits ++ more) (own.0 ++ replicate n steps.Nothing)) (sym len) now.1) are.attempts after.0 are.are after.1 in
      record { attempts = after.0; are = after.1; events_are = append-nil events ∙ are.events_are ∙ sym stays.events };
}

module _ (v u : InspectorView) (width x : ℕ) (front : List Bool) (b : Bool) (back : List Bool) (step : LaneStep)
    (brings : Brings v.lock u.lock (front ++ b ∷ back) (replicate (length front) steps.Nothing ++ step ∷ replicate (length back) steps.Nothing))
    (few : length back ≤ 55) (pushed : IsPushed v u width x)
    (window : (bits : List Bool) → v.window ≡ high_number bits % 2 ^ 128 → u.window ≡ high_number (bits ++ (front ++ b ∷ back)) % 2 ^ 128) where
  -- ---- the word that one of them may end

  module _ (s : Settings) (bits : List Bool) (k : Inspects v s bits) where
    seam : bits ++ (front ++ b ∷ back) ≡ (bits ++ front) ++ b ∷ back
    seam = sym (append_assoc bits front (b ∷ back))

    own : (given : List LaneStep) × AreSteps s bits given
    own = steps_exist s bits

    now : Stands u.lock s (bits ++ (front ++ b ∷ back)) × AreSteps s (bits ++ (front ++ b ∷ back)) (own.0 ++ (replicate (length front) steps.Nothing ++ step ∷ replicate (length back) steps.Nothing))
    now = brings s bits own.0 k.stands own.1

    walked : (old all : List Attempt) → AreAttempts s.metaframe bits old → AreAttempts s.metaframe (bits ++ (front ++ b ∷ back)) all → Walked s (long_of s k.stands.link) bits front b back step old all
    walked old all h j = walk s (long_of s k.stands.link) bits front b back own.0 step own.1.long own.1
        (subst (λ (bs : List Bool). AreSteps s bs ((own.0 ++ replicate (length front) steps.Nothing) ++ step ∷ replicate (length back) steps.Nothing)) seam
        (subst (λ (g : List LaneStep). AreSteps s (bits ++ (front ++ b ∷ back)) g) (sym (append_assoc own.0 (replicate (length front) steps.Nothing) (step ∷ replicate (length back) steps.Nothing))) now.1))
        old all h (subst (λ (bs : List Bool). AreAttempts s.metaframe bs all) seam j)

    -- the code of the word that ends with the bit
    code_is : (q : ℕ) → q + 67 ≡ length ((bits ++ front) ++ b ∷ []) → excess_before u (length back) ≡ excess 67 (ones_in 67 (code_at ((bits ++ front) ++ b ∷ []) q))
    code_is q e = ap (λ n. excess 67 (ones_in 67 n)) (code_before ((bits ++ front) ++ b ∷ []) back u.window (length back) q few refl e
        (window bits k.window ∙ ap (λ bs. high_number bs % 2 ^ 128) (seam ∙ sym (append_assoc (bits ++ front) (b ∷ []) back))))

    -- the balance up to its last bit
    balance_there : (old : List Attempt) → AreAttempts s.metaframe bits old → Balances u.balance ((bits ++ front) ++ b ∷ []) (open_of bits old)
    balance_there old are =
        let long = long_of s k.stands.link in
        subst (λ (y : Option ℤ). Balances y ((bits ++ front) ++ b ∷ []) (open_of bits old)) (sym pushed.balance)
        (balances_stay s v.balance (bits ++ front) (b ∷ []) (open_of bits old) (omega (arith, long)) (balances_stay s v.balance bits front (open_of bits old) (omega (arith, long)) (k.balances old are)))

    -- and past the bits after it
    balance_past : (balance : Option ℤ) (all : List Attempt) (middle : Option Lock) → open_of ((bits ++ front) ++ b ∷ back) all ≡ middle → Balances balance ((bits ++ front) ++ b ∷ []) middle →
        Balances balance (bits ++ (front ++ b ∷ back)) (open_of (bits ++ (front ++ b ∷ back)) all)
    balance_past balance all middle e bal =
        let long = long_of s k.stands.link in
        subst (λ (bs : List Bool). Balances balance bs (open_of bs all)) (sym seam)
        (subst (λ (o : Option Lock). Balances balance ((bits ++ front) ++ b ∷ back) o) (sym e)
        (subst (λ (bs : List Bool). Balances balance bs middle) (append_assoc (bits ++ front) (b ∷ []) back)
        (balances_stay s balance ((bits ++ front) ++ b ∷ []) back middle (omega (arith, long)) bal)))

    -- its events
    grown : (old all : List Attempt) (are : AreAttempts s.metaframe bits old) (are_all : AreAttempts s.metaframe (bits ++ (front ++ b ∷ back)) all) →
        lane_events s (bits ++ (front ++ b ∷ back)) all ≡ lane_events s bits old ++ (walked old all are are_all).new
    grown old all are are_all = ap (λ bs. lane_events s bs all) seam ∙ (walked old all are are_all).appended

  -- ---- where it is told

  module _ (w : InspectorView) (after : LaneReport) (given : WordEvents)
      (second : (s : Settings) (bits : List Bool) → Stands u.lock s bits → IsReport s bits after)
      (shown : IsShown u w u.counted after step (length back) given) where
    told_word : (s : Settings) (bits : List Bool) (k : Inspects v s bits) (old all : List Attempt) (are : AreAttempts s.metaframe bits old) (are_all : AreAttempts s.metaframe (bits ++ (front ++ b ∷ back)) all) →
        (events_in given ≡ (walked s bits k old all are are_all).new) × Balances w.balance (bits ++ (front ++ b ∷ back)) (open_of (bits ++ (front ++ b ∷ back)) all)
    told_word s bits k old all are are_all =
        let g = walked s bits k old all are are_all in
        let word_bits = (bits ++ front) ++ b ∷ [] in
        let t = tells_all s k.stands.link word_bits (excess_before u (length back)) (lane_events s bits old) u.counted after
        (still_counted (lane_events s bits old) (lane_events s bits old) v.counted u.counted refl pushed.counted (k.counts old are)) u.balance (open_of bits old) g.middle g.new step g.tells
        (subst (λ (es : List LaneEvent). AreCounted es after) (grown s bits k old all are are_all) (reported s (bits ++ (front ++ b ∷ back)) after (second s (bits ++ (front ++ b ∷ back)) (now s bits k).0) all are_all))
        (balance_there s bits k old are) (code_is s bits k) in (
          shown.events ∙ ap (λ y. told step u.counted after (unbalances (balance_before step u.balance) y)) shown.balance ∙ t.events,
          balance_past s bits k w.balance all g.middle g.lock (subst (λ (y : Option ℤ). Balances y word_bits g.middle) (sym shown.balance) t.balances),
        )

    pub goes_on_word : GoesOn v w (front ++ b ∷ back) (events_in given)
    goes_on_word = record {
      inspects = λ s bits k.
          let n = now s bits k in
          let old = attempts_exist s.metaframe bits in
          record {
            stands = subst (λ (y : LaneView). Stands y s (bits ++ (front ++ b ∷ back))) (sym shown.lock) n.0;
            count = shown.taken ∙ pushed.counts ∙ ap (λ (y : LaneView). y.taken) (sym shown.lock);
            window = shown.window ∙ window bits k.window;
            balances = λ attempts are. (told_word s bits k old.0 attempts old.1 are).1;
            counts = λ attempts are.
                subst (λ (r : LaneReport). AreCounted (lane_events s (bits ++ (front ++ b ∷ back)) attempts) r) (sym shown.counted)
                (reported s (bits ++ (front ++ b ∷ back)) after (second s (bits ++ (front ++ b ∷ back)) n.0) attempts are);
          };
      events = λ s bits events k are.
          let all = attempts_exist s.metaframe (bits ++ (front ++ b ∷ back)) in
          let t = told_word s bits k are.attempts all.0 are.are all.1 in
          record { attempts = all.0; are = all.1; events_are = ap (λ xs. events ++ xs) t.0 ∙ ap (λ xs. xs ++ (walked s bits k are.attempts all.0 are.are all.1).new) are.events_are ∙ sym (grown s bits k are.attempts all.0 are.are all.1) };
    }

  -- ---- where it is passed over

  module _ (w : InspectorView) (passed : IsPassed u w step (length back)) where
    passed_word : (s : Settings) (bits : List Bool) (k : Inspects v s bits) (old all : List Attempt) (are : AreAttempts s.metaframe bits old) (are_all : AreAttempts s.metaframe (bits ++ (front ++ b ∷ back)) all) →
        (lane_events s (bits ++ (front ++ b ∷ back)) all ≡ lane_events s bits old) × Balances w.balance (bits ++ (front ++ b ∷ back)) (open_of (bits ++ (front ++ b ∷ back)) all)
    passed_word s bits k old all are are_all =
        let g = walked s bits k old all are are_all in
        let word_bits = (bits ++ front) ++ b ∷ [] in
        let t = tells_nothing s k.stands.link word_bits (excess_before u (length back)) u.balance (open_of bits old) g.middle g.new step g.tells passed.plain
        (ap (unbalances u.balance) (sym passed.only_counted.balance) ∙ passed.only_counted.balanced) (balance_there s bits k old are) (code_is s bits k) in (
          grown s bits k old all are are_all ∙ ap (λ xs. lane_events s bits old ++ xs) t.0 ∙ append-nil (lane_events s bits old),
          balance_past s bits k w.balance all g.middle g.lock (subst (λ (y : Option ℤ). Balances y word_bits g.middle) (sym passed.only_counted.balance) t.1),
        )

    pub goes_past_word : GoesOn v w (front ++ b ∷ back) []
    goes_past_word = record {
      inspects = λ s bits k.
          let old = attempts_exist s.metaframe bits in
          record {
            stands = subst (λ (y : LaneView). Stands y s (bits ++ (front ++ b ∷ back))) (sym passed.only_counted.lock) (now s bits k).0;
            count = passed.only_counted.taken ∙ pushed.counts ∙ ap (λ (y : LaneView). y.taken) (sym passed.only_counted.lock);
            window = passed.only_counted.window ∙ window bits k.window;
            balances = λ attempts are. (passed_word s bits k old.0 attempts old.1 are).1;
            counts = λ attempts are.
                still_counted (lane_events s bits old.0) (lane_events s (bits ++ (front ++ b ∷ back)) attempts) v.counted w.counted (passed_word s bits k old.0 attempts old.1 are).0 (passed.only_counted.counted ∙ pushed.counted) (k.counts old.0 old.1);
          };
      events = λ s bits events k are.
          let all = attempts_exist s.metaframe (bits ++ (front ++ b ∷ back)) in
          record { attempts = all.0; are = all.1; events_are = append-nil events ∙ are.events_are ∙ sym (passed_word s bits k are.attempts all.0 are.are all.1).0 };
    }

-- ---- no bits

no_locks : (L p : ℕ) → LocksWords [] p → ⊥
no_locks L p h = let there = legal_here L [] [] (p + 67 * 0) (h 0 (omega arith)) in omega (arith, there)

no_attempts : (s : Settings) → AreAttempts s.metaframe [] []
no_attempts s = λ p le h. no_locks s.metaframe p h

pub no_lane_events : (s : Settings) → AreLaneEvents s [] []
no_lane_events s = record { attempts = []; are = no_attempts s; events_are = refl }

pub begins : (v : InspectorView) (s : Settings) → Stands v.lock s [] → v.taken ≡ v.lock.taken → v.window ≡ high_number [] % 2 ^ 128 → IsReport s [] v.counted → Inspects v s []
begins v s k e f r = record {
  stands = k;
  count = e;
  window = f;
  counts = λ attempts are. reported s [] v.counted r attempts are;
  balances = λ attempts are. subst (λ (xs : List Attempt). Balances v.balance [] (open_of [] xs)) (determined s.metaframe [] [] attempts (no_attempts s) are) tt;
}

no_number : high_number [] ≡ 0
unfolding low_number
no_number = refl

pub no_window : 0 ≡ high_number [] % 2 ^ 128
no_window = ap (λ (n : ℕ). n % 2 ^ 128) (sym no_number)

-- ---- the bits of a number

split_at : (bits : List Bool) (k : ℕ) → k < length bits → take k bits ++ (get_or bits k false ∷ drop (suc k) bits) ≡ bits
split_at [] k h = absurd (omega (arith, h))
split_at (b ∷ bits) zero h = refl
split_at (b ∷ bits) (suc k) h = ap (λ bs. b ∷ bs) (split_at bits k (omega (arith, h)))

-- of this many bits one, at this place, ends a word
module _ (v u : InspectorView) (width place x : ℕ) (step : LaneStep) (lt : place < width) (most : width ≤ place + 56) (low : x < 2 ^ width)
    (brings : Brings v.lock u.lock (bits_of width x) (replicate place steps.Nothing ++ step ∷ replicate (width - 1 - place) steps.Nothing)) (pushed : IsPushed v u width x) where
  abbrev front : List Bool
  front = take place (bits_of width x)

  abbrev bit : Bool
  bit = get_or (bits_of width x) place false

  abbrev back : List Bool
  back = drop (suc place) (bits_of width x)

  cut : front ++ bit ∷ back ≡ bits_of width x
  cut = let len = length-bits_of width x in split_at (bits_of width x) place (omega (arith, lt, len))

  front_long : length front ≡ place
  front_long = let len = length-bits_of width x in length-take-le place (bits_of width x) (omega (arith, lt, len))

  back_long : length back ≡ width - 1 - place
  back_long = let len = length-bits_of width x in let e = length-drop (suc place) (bits_of width x) in omega (arith, e, len, lt)

  few : length back ≤ 55
  few = let b = back_long in omega (arith, b, most)

  brings_cut : Brings v.lock u.lock (front ++ bit ∷ back) (replicate (length front) steps.Nothing ++ step ∷ replicate (length back) steps.Nothing)
  brings_cut =
      subst (λ (bs : List Bool). Brings v.lock u.lock bs (replicate (length front) steps.Nothing ++ step ∷ replicate (length back) steps.Nothing)) (sym cut)
      (subst (λ (n : ℕ). Brings v.lock u.lock (bits_of width x) (replicate n steps.Nothing ++ step ∷ replicate (length back) steps.Nothing)) (sym front_long)
      (subst (λ (n : ℕ). Brings v.lock u.lock (bits_of width x) (replicate place steps.Nothing ++ step ∷ replicate n steps.Nothing)) (sym back_long) brings))

  window_cut : (so_far : List Bool) → v.window ≡ high_number so_far % 2 ^ 128 → u.window ≡ high_number (so_far ++ (front ++ bit ∷ back)) % 2 ^ 128
  window_cut so_far e = pushed.window ∙ window_more so_far v.window width x low e ∙ ap (λ bs. high_number (so_far ++ bs) % 2 ^ 128) (sym cut)

  -- a word that is told
  pub goes_on_cut : (w : InspectorView) (after : LaneReport) (given : WordEvents) → ((s : Settings) (bits : List Bool) → Stands u.lock s bits → IsReport s bits after) →
      IsShown u w u.counted after step (width - 1 - place) given → GoesOn v w (bits_of width x) (events_in given)
  goes_on_cut w after given second shown =
      subst (λ (bs : List Bool). GoesOn v w bs (events_in given)) cut
      (goes_on_word v u width x front bit back step brings_cut few pushed window_cut w after given second (subst (λ (n : ℕ). IsShown u w u.counted after step n given) (sym back_long) shown))

  -- one that is passed over
  pub goes_past_cut : (w : InspectorView) → IsPassed u w step (width - 1 - place) → GoesOn v w (bits_of width x) []
  goes_past_cut w passed =
      subst (λ (bs : List Bool). GoesOn v w bs []) cut
      (goes_past_word v u width x front bit back step brings_cut few pushed window_cut w (subst (λ (n : ℕ). IsPassed u w step n) (sym back_long) passed))

-- one that is told after it was not passed over, with these events
pub told_of : (v u p w : InspectorView) (width place x : ℕ) (step : LaneStep) (events : List LaneEvent) → place < width → width ≤ place + 56 → x < 2 ^ width →
    Brings v.lock u.lock (bits_of width x) (replicate place steps.Nothing ++ step ∷ replicate (width - 1 - place) steps.Nothing) → IsPushed v u width x → p ≡ u →
    IsTold p w step (width - 1 - place) events → GoesOn v w (bits_of width x) events
told_of v u p w width place x step events lt most low brings pushed same told =
    let t = subst (λ (q : InspectorView). IsTold q w step (width - 1 - place) events) same told in
    subst (λ (es : List LaneEvent). GoesOn v w (bits_of width x) es) (sym t.events_are) (goes_on_cut v u width place x step lt most low brings pushed w t.report t.given t.is_report t.shown)

-- none of them ends a word
pub goes_on_none : (v w : InspectorView) (width x : ℕ) → x < 2 ^ width → Brings v.lock w.lock (bits_of width x) (replicate width steps.Nothing) → IsPushed v w width x → GoesOn v w (bits_of width x) []
goes_on_none v w width x low brings pushed =
    goes_on_quiet v w width x (bits_of width x) (length-bits_of width x) brings pushed (λ so_far e. pushed.window ∙ window_more so_far v.window width x low e)
