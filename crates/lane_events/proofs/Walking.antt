-- The events of a lane over some bits more, of which one ends a word or none does.
use Rattle.std.proofs.Common.{ℕ, ◌≡◌, refl, sym, ap, ◌∙◌, subst, ◌+◌, ◌*◌, ◌%◌, ◌≤◌, ◌==◌, cond, Bool, List, [], ◌∷◌, ◌++◌, length, take, replicate, get_or, arith, Option, append_assoc}
use Rattle.std.proofs.Math.Seq.{take-append_seam, take-length}
use Rattle.std.proofs.lemmas.List.{append-nil, length-append, length-replicate}
use Rattle.std.proofs.lemmas.Option.{get_or_from_slice_get}
use Rattle.lk_base.specs.Link.{Settings}
use Rattle.lane_model.proofs.Numbers.{split}
use Rattle.lane_model.specs.Framing.{role_of}
use Rattle.lock_model.specs.Received.{Lock, received_at}
use Rattle.lock_model.specs.declared.types.LaneStep.{LaneStep}
use Rattle.lock_model.specs.declared.types.LaneStep.TheVariants as steps
use Rattle.lock_model.specs.Locks.{Attempt, AreAttempts}
use Rattle.lock_model.specs.Steps.{AreSteps, step_of}
use Rattle.lock_model.proofs.Determined.{determined}
use Rattle.lock_model.proofs.Existing.{attempts_exist}
use Rattle.lock_model.proofs.StepsHold.{first_steps}
use Rattle.lane_events.specs.declared.types.LaneEvent.{LaneEvent}
use Rattle.lane_events.specs.Events.{lane_events}
use Rattle.lane_events.specs.Inspection.{open_of}
use Rattle.lane_events.proofs.AllGrow.{grown_by_bit}
use Rattle.lane_events.proofs.Grow.{First, Grown, Loses, Next, Quiet, Tells}

last_of : (own : List LaneStep) (x d : LaneStep) → get_or (own ++ x ∷ []) (length own) d ≡ x
last_of [] x d = refl
last_of (y ∷ own) x d = last_of own x d

no_step : (r : ℕ) (at : ℕ) (word : LaneStep) → (word ≡ steps.Nothing → ⊥) → cond (r == 0) (steps.Locked at) word ≡ steps.Nothing → ⊥
no_step r at word n e = split {b = r == 0} (λ t. locked (subst (λ (b : Bool). cond b (steps.Locked at) word ≡ steps.Nothing) t e)) (λ f. n (subst (λ (b : Bool). cond b (steps.Locked at) word ≡ steps.Nothing) f e))
  where
    locked : steps.Locked at ≡ steps.Nothing → ⊥
    locked h = cc

-- a step that is nothing tells nothing
tells_nothing : (s : Settings) (bits : List Bool) (before now : Option Lock) (new : List LaneEvent) (step : LaneStep) → Tells s bits before now new step → step ≡ steps.Nothing →
    (now ≡ before) × (new ≡ [])
tells_nothing s bits before now new step (Quiet e f g) h = (e, f)
tells_nothing s bits before now new step (First at k) h =
    absurd (no_step 0 (at + 67 * 0) (steps.Word (received_at s bits at 0) (role_of s (0 % s.metaframe)) (at + 67 * 0)) (λ e. cc) (sym k.step_is ∙ h))
tells_nothing s bits before now new step (Next at r some e k) h =
    absurd (no_step r (at + 67 * r) (steps.Word (received_at s bits at r) (role_of s (r % s.metaframe)) (at + 67 * r)) (λ e. cc) (sym k.step_is ∙ h))
tells_nothing s bits before now new step (Loses at declared loss e f g) h = absurd (let i = sym g ∙ h in cc)

module _ (s : Settings) (long : 32 ≤ s.metaframe) where
  -- the last step of all is that of the last bit
  last_step : (bits : List Bool) (b : Bool) (own : List LaneStep) (x : LaneStep) → AreSteps s (bits ++ b ∷ []) (own ++ x ∷ []) → length own ≡ length bits →
      (attempts : List Attempt) → AreAttempts s.metaframe (bits ++ b ∷ []) attempts → step_of s (bits ++ b ∷ []) attempts ≡ x
  last_step bits b own x are len attempts a =
      let l = length-append bits (b ∷ []) in
      let e : length bits + 1 ≡ length (bits ++ b ∷ []) = omega (arith, l) in
      let whole : take (length bits + 1) (bits ++ b ∷ []) ≡ bits ++ b ∷ [] = ap (λ n. take n (bits ++ b ∷ [])) e ∙ take-length (bits ++ b ∷ []) in
      let here = are.each (length bits) attempts (omega (arith, l)) (subst (λ (bs : List Bool). AreAttempts s.metaframe bs attempts) (sym whole) a) in
      ap (λ bs. step_of s bs attempts) (sym whole)
      ∙ sym (get_or_from_slice_get (own ++ x ∷ []) (length bits) (step_of s (take (length bits + 1) (bits ++ b ∷ [])) attempts) steps.Nothing here)
      ∙ ap (λ n. get_or (own ++ x ∷ []) n steps.Nothing) (sym len) ∙ last_of own x steps.Nothing

  -- the steps of one bit more, of those of all
  next_steps : (bits : List Bool) (b : Bool) (more : List Bool) (own : List LaneStep) (x : LaneStep) (rest : List LaneStep) → length own ≡ length bits →
      AreSteps s (bits ++ b ∷ more) (own ++ x ∷ rest) → AreSteps s (bits ++ b ∷ []) (own ++ x ∷ [])
  next_steps bits b more own x rest len are =
      let l = length-append bits (b ∷ []) in
      let m = length-append own (x ∷ []) in
      let e : length (bits ++ b ∷ []) ≡ length (own ++ x ∷ []) = omega (arith, l, m, len) in
      let all : AreSteps s ((bits ++ b ∷ []) ++ more) ((own ++ x ∷ []) ++ rest) =
      subst (λ (bs : List Bool). AreSteps s bs ((own ++ x ∷ []) ++ rest)) (sym (append_assoc bits (b ∷ []) more)) (subst (λ (g : List LaneStep). AreSteps s (bits ++ b ∷ more) g) (sym (append_assoc own (x ∷ []) rest)) are) in
      subst (λ (g : List LaneStep). AreSteps s (bits ++ b ∷ []) g) (ap (λ n. take n ((own ++ x ∷ []) ++ rest)) e ∙ take-append_seam (own ++ x ∷ []) rest) (first_steps s (bits ++ b ∷ []) more ((own ++ x ∷ []) ++ rest) all)

  -- what a step of one bit tells
  one_bit : (bits : List Bool) (b : Bool) (own : List LaneStep) (x : LaneStep) → AreSteps s (bits ++ b ∷ []) (own ++ x ∷ []) → length own ≡ length bits →
      (before now : List Attempt) → AreAttempts s.metaframe bits before → AreAttempts s.metaframe (bits ++ b ∷ []) now →
      Grown s (bits ++ b ∷ []) (open_of bits before) (open_of (bits ++ b ∷ []) now) (lane_events s bits before) (lane_events s (bits ++ b ∷ []) now) x
  one_bit bits b own x are len before now h k =
      subst (λ (step : LaneStep). Grown s (bits ++ b ∷ []) (open_of bits before) (open_of (bits ++ b ∷ []) now) (lane_events s bits before) (lane_events s (bits ++ b ∷ []) now) step)
      (last_step bits b own x are len now k) (grown_by_bit s long bits b before now h k)

  pub record Stays (bits more : List Bool) (before now : List Attempt) : Type 0 where
    pub lock : open_of (bits ++ more) now ≡ open_of bits before
    pub events : lane_events s (bits ++ more) now ≡ lane_events s bits before

  -- bits that end no word change nothing
  pub quiet : (more bits : List Bool) (own : List LaneStep) → length own ≡ length bits → AreSteps s (bits ++ more) (own ++ replicate (length more) steps.Nothing) →
      (before now : List Attempt) → AreAttempts s.metaframe bits before → AreAttempts s.metaframe (bits ++ more) now → Stays bits more before now
  quiet [] bits own len are before now h k =
      let nil = append-nil bits in
      let same : now ≡ before = determined s.metaframe bits now before (subst (λ (bs : List Bool). AreAttempts s.metaframe bs now) nil k) h in
      record { lock = ap (λ bs. open_of bs now) nil ∙ ap (open_of bits) same; events = ap (λ bs. lane_events s bs now) nil ∙ ap (lane_events s bits) same }
  quiet (b ∷ more) bits own len are before now h k =
      let first = next_steps bits b more own steps.Nothing (replicate (length more) steps.Nothing) len are in
      let mid = attempts_exist s.metaframe (bits ++ b ∷ []) in
      let grown = one_bit bits b own steps.Nothing first len before mid.0 h mid.1 in
      let told = tells_nothing s (bits ++ b ∷ []) (open_of bits before) (open_of (bits ++ b ∷ []) mid.0) grown.new steps.Nothing grown.tells refl in
      let l = length-append bits (b ∷ []) in
      let m = length-append own (steps.Nothing ∷ []) in
      let seam : (bits ++ b ∷ []) ++ more ≡ bits ++ b ∷ more = append_assoc bits (b ∷ []) more in
      let rest = quiet more (bits ++ b ∷ []) (own ++ steps.Nothing ∷ []) (omega (arith, l, m, len))
      (subst (λ (bs : List Bool). AreSteps s bs ((own ++ steps.Nothing ∷ []) ++ replicate (length more) steps.Nothing)) (sym seam)
      (subst (λ (g : List LaneStep). AreSteps s (bits ++ b ∷ more) g) (sym (append_assoc own (steps.Nothing ∷ []) (replicate (length more) steps.Nothing))) are))
      mid.0 now mid.1 (subst (λ (bs : List Bool). AreAttempts s.metaframe bs now) (sym seam) k) in
      record {
        lock = ap (λ bs. open_of bs now) (sym seam) ∙ rest.lock ∙ told.0;
        events = ap (λ bs. lane_events s bs now) (sym seam) ∙ rest.events ∙ grown.appended ∙ ap (λ xs. lane_events s bits before ++ xs) told.1 ∙ append-nil _;
      }

  -- bits of which one ends a word, or may: what its step tells is so of all
  pub record Walked (bits front : List Bool) (b : Bool) (back : List Bool) (x : LaneStep) (before now : List Attempt) : Type 0 where
    pub new : List LaneEvent
    pub appended : lane_events s ((bits ++ front) ++ b ∷ back) now ≡ lane_events s bits before ++ new
    pub middle : Option Lock
    pub tells : Tells s ((bits ++ front) ++ b ∷ []) (open_of bits before) middle new x
    pub lock : open_of ((bits ++ front) ++ b ∷ back) now ≡ middle

  pub walk : (bits front : List Bool) (b : Bool) (back : List Bool) (own : List LaneStep) (x : LaneStep) → length own ≡ length bits → AreSteps s bits own →
      AreSteps s ((bits ++ front) ++ b ∷ back) ((own ++ replicate (length front) steps.Nothing) ++ x ∷ replicate (length back) steps.Nothing) →
      (before now : List Attempt) → AreAttempts s.metaframe bits before → AreAttempts s.metaframe ((bits ++ front) ++ b ∷ back) now → Walked bits front b back x before now
  walk bits front b back own x len mine are before now h k =
      let l = length-append bits front in
      let m = length-append own (replicate (length front) steps.Nothing) in
      let n = length-replicate (length front) steps.Nothing in
      let len_front : length (own ++ replicate (length front) steps.Nothing) ≡ length (bits ++ front) = omega (arith, l, m, n, len) in
      let at_front = attempts_exist s.metaframe (bits ++ front) in
      let at_word = attempts_exist s.metaframe ((bits ++ front) ++ b ∷ []) in
      let steps_front : AreSteps s (bits ++ front) (own ++ replicate (length front) steps.Nothing) =
      subst (λ (g : List LaneStep). AreSteps s (bits ++ front) g) (ap (λ n. take n ((own ++ replicate (length front) steps.Nothing) ++ x ∷ replicate (length back) steps.Nothing)) (sym len_front) ∙ take-append_seam (own ++ replicate (length front) steps.Nothing) (x ∷ replicate (length back) steps.Nothing))
      (first_steps s (bits ++ front) (b ∷ back) ((own ++ replicate (length front) steps.Nothing) ++ x ∷ replicate (length back) steps.Nothing) are) in
      let stays_front = quiet front bits own len steps_front before at_front.0 h at_front.1 in
      let steps_word = next_steps (bits ++ front) b back (own ++ replicate (length front) steps.Nothing) x (replicate (length back) steps.Nothing) len_front are in
      let grown = one_bit (bits ++ front) b (own ++ replicate (length front) steps.Nothing) x steps_word len_front at_front.0 at_word.0 at_front.1 at_word.1 in
      let seam : ((bits ++ front) ++ b ∷ []) ++ back ≡ (bits ++ front) ++ b ∷ back = append_assoc (bits ++ front) (b ∷ []) back in
      let p = length-append (bits ++ front) (b ∷ []) in
      let q = length-append (own ++ replicate (length front) steps.Nothing) (x ∷ []) in
      let stays_back = quiet back ((bits ++ front) ++ b ∷ []) ((own ++ replicate (length front) steps.Nothing) ++ x ∷ []) (omega (arith, p, q, len_front))
      (subst (λ (bs : List Bool). AreSteps s bs (((own ++ replicate (length front) steps.Nothing) ++ x ∷ []) ++ replicate (length back) steps.Nothing)) (sym seam)
      (subst (λ (g : List LaneStep). AreSteps s ((bits ++ front) ++ b ∷ back) g) (sym (append_assoc (own ++ replicate (length front) steps.Nothing) (x ∷ []) (replicate (length back) steps.Nothing))) are))
      at_word.0 now at_word.1 (subst (λ (bs : List Bool). AreAttempts s.metaframe bs now) (sym seam) k) in
      record {
        new = grown.new;
        appended = ap (λ bs. lane_events s bs now) (sym seam) ∙ stays_back.events ∙ grown.appended ∙ ap (λ xs. xs ++ grown.new) stays_front.events;
        middle = open_of ((bits ++ front) ++ b ∷ []) at_word.0;
        tells = subst (λ (o : Option Lock). Tells s ((bits ++ front) ++ b ∷ []) o (open_of ((bits ++ front) ++ b ∷ []) at_word.0) grown.new x) stays_front.lock grown.tells;
        lock = ap (λ bs. open_of bs now) (sym seam) ∙ stays_back.lock;
      }
