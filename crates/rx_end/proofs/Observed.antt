-- What an observer is told on the way of a receiver, and what it has seen at the end.
use Rattle.std.proofs.Common.{ℕ, zero, suc, ◌≡◌, refl, sym, ap, ap₂, ◌∙◌, subst, ◌<◌, ◌*◌, ◌^◌, Bool, true, false, List, [], ◌∷◌, ◌++◌, append-nil, map, take, arith, inl, inr}
use Rattle.std.specs.Bool.{OnFalse, OnTrue}
use Rattle.std.proofs.lemmas.Bool.{OnFalse_at, OnTrue_at, and_parts, cases_Bool}
use Rattle.epoch_model.proofs.Leasts.{clash}
use Rattle.lk_base.specs.declared.word.Aligned.{Aligned}
use Rattle.lk_base.specs.Link.{Settings}
use Rattle.event_model.specs.Fed.{AllBegin, Fed, Goes, all_finished, longest, whole}
use Rattle.event_model.specs.Given.{AreItems}
use Rattle.deskew.specs.Ticks.{ticks_of}
use Rattle.deskew.proofs.Running.{running_ends}
use Rattle.reassembly.specs.States as reassembly
use Rattle.rx_front.specs.Calls.{nothing_fed}
use Rattle.rx_front.specs.Standing as front
use Rattle.rx_front.specs.Standing.{MovesOn, Progress, begun, locks_at}
use Rattle.rx_front.specs.States as fronts
use Rattle.rx_front.proofs.Known.{known_here}
use Rattle.rx_end.specs.declared.stage.Stage.{Stage}
use Rattle.rx_end.specs.Stages.{is_closed}
use Rattle.rx_end.specs.States.{State}
use Rattle.rx_end.specs.Observing.{AsksItem, AsksLocks, AsksWords, Feeds, HasSeen, HasTold, HasToldSome, IsAtEnd, IsFresh, Keeping, Knows, Learns, SawAll, Seeing, TakesItem, TakesLocks, TakesWords, Tells}

abbrev fed_of : List ℕ → Bool → Fed
fed_of bytes finished = record { bytes = bytes; finished = finished }

-- a receiver with these parts
abbrev pub state_of : fronts.State → reassembly.State → Stage → State
state_of f r stage = record { front = f; reassembly = r; stage = stage }

-- ---- what a call does to a front, whatever was fed and taken

-- nothing is taken of it
abbrev pub Stays : fronts.State → fronts.State → Type 0
Stays f g = (s : Settings) (fed : List Fed) (items : List Aligned) (t : Progress) → front.Stands f s fed items t → front.Stands g s fed items t

-- this many of the words that wait are taken
abbrev pub PassesOn : fronts.State → fronts.State → ℕ → Type 0
PassesOn f g count = (s : Settings) (fed : List Fed) (items : List Aligned) (t : Progress) → front.Stands f s fed items t → front.Stands g s fed (items ++ take count f.waiting) t

-- it gives this item
abbrev pub GivesOn : fronts.State → fronts.State → Aligned → Type 0
GivesOn f g item = (s : Settings) (fed : List Fed) (items : List Aligned) (t : Progress) → front.Stands f s fed items t → front.Stands g s fed (items ++ item ∷ []) t

-- its clock moves on
abbrev pub MovesEach : fronts.State → fronts.State → Type 0
MovesEach f g = (s : Settings) (fed : List Fed) (items : List Aligned) (t : Progress) → front.Stands f s fed items t → MovesOn g s fed items t

module _ {O : Type 0} (keeps : Keeping O) (saw : Seeing O) where
  -- ---- nothing is taken of the front

  pub known_on : (o : O) (f g : fronts.State) (s : Settings) (fed : List Fed) (items : List Aligned) (t : Progress) → Stays f g → Knows keeps o f s fed items t (λ i. locks_at i t) items →
      Knows keeps o g s fed items t (λ i. locks_at i t) items
  known_on o f g s fed items t stays k = record { few = k.few; stands = stays s fed items t k.stands; kept = k.kept }

  kept_on : (o : O) (v w : State) (s : Settings) (fed : List Fed) → Stays v.front w.front → (is_closed w.stage ≡ true → (is_closed v.stage ≡ true → IsAtEnd v.front) → IsAtEnd w.front) → HasTold keeps o v s fed → HasTold keeps o w s fed
  kept_on o v w s fed stays closes k = record { items = k.items; t = k.t; knows = known_on o v.front w.front s fed k.items k.t stays k.knows; closed = λ e. closes e k.closed }

  pub nothing_told : (o : O) (v w : State) → Stays v.front w.front → (is_closed w.stage ≡ true → (is_closed v.stage ≡ true → IsAtEnd v.front) → IsAtEnd w.front) → Tells keeps saw o o v w
  unfolding kept_on
  nothing_told o v w stays closes = record {
    told = λ s fed k. kept_on o v w s fed stays closes k;
    seen = λ s fed lanes begin l. record { told = kept_on o v w s fed stays closes l.told; seen = l.seen };
  }

  -- the front is the same
  pub same_front : (o : O) (v w : State) → w.front ≡ v.front → is_closed w.stage ≡ is_closed v.stage → Tells keeps saw o o v w
  same_front o v w f e = nothing_told o v w (λ s fed items t st. subst (λ (g : fronts.State). front.Stands g s fed items t) (sym f) st)
      (λ c closed. subst (λ (g : fronts.State). IsAtEnd g) (sym f) (closed (sym e ∙ c)))

  -- after the last bit nothing more comes
  pub closed_now : (o : O) (b : Bool) (v w : State) → w.front ≡ v.front → OnTrue b (IsAtEnd v.front) → OnFalse b (w ≡ v) → Tells keeps saw o o v w
  closed_now o b v w f end same = elim (cases_Bool b) [
    | inl e ↦ nothing_told o v w (λ s fed items t st. subst (λ (g : fronts.State). front.Stands g s fed items t) (sym f) st) (λ c before. subst (λ (g : fronts.State). IsAtEnd g) (sym f) (OnTrue_at e end))
    | inr e ↦ same_front o v w f (ap (λ (u : State). is_closed u.stage) (OnFalse_at e same))
  ]

  -- ---- one after another

  pub told_on : (o p q : O) (u v w : State) → Tells keeps saw o p u v → Tells keeps saw p q v w → Tells keeps saw o q u w
  told_on o p q u v w first second = record {
    told = λ s fed k. second.told s fed (first.told s fed k);
    seen = λ s fed lanes begin l. second.seen s fed lanes begin (first.seen s fed lanes begin l);
  }

  pub some_on : (asks : Bool) (o p : O) (v w : State) → Tells keeps saw o p v w → (asks ≡ true → HasToldSome keeps o v) → asks ≡ true → HasToldSome keeps p w
  some_on asks o p v w tells some e = (let k = some e in (k.0, k.1, tells.told k.0 k.1 k.2))

  -- ---- words

  pub words_asked : (asks : Bool) (o : O) (v : State) (f : fronts.State) → v.front ≡ f → (asks ≡ true → HasToldSome keeps o v) → asks ≡ true → AsksWords keeps o f
  words_asked asks o v f same some e =
      let k = some e in
      record { s = k.0; fed = k.1; items = k.2.items; t = k.2.t; knows = subst (λ (g : fronts.State). Knows keeps o g k.0 k.1 k.2.items k.2.t (λ i. locks_at i k.2.t) k.2.items) same k.2.knows }

  module _ (o p : O) (v w : State) (count : ℕ) (takes : TakesWords keeps saw o p v.front count) (passes : PassesOn v.front w.front count) (runs : is_closed w.stage ≡ false) where
    words_kept : (s : Settings) (fed : List Fed) → HasTold keeps o v s fed → HasTold keeps p w s fed
    words_kept s fed k = record {
      items = k.items ++ take count v.front.waiting;
      t = k.t;
      knows = record { few = k.knows.few; stands = passes s fed k.items k.t k.knows.stands; kept = (takes s fed k.items k.t k.knows).kept };
      closed = λ e. absurd (clash e runs);
    }

    pub words_told : Tells keeps saw o p v w
    unfolding words_kept
    words_told = record {
      told = words_kept;
      seen = λ s fed lanes begin l. record { told = words_kept s fed l.told; seen = (takes s fed l.told.items l.told.t l.told.knows).seen lanes begin l.seen };
    }

  -- ---- an item

  pub item_known : (o : O) (f g : fronts.State) (item : Aligned) (s : Settings) (fed : List Fed) (items : List Aligned) (t : Progress) → GivesOn f g item →
      Knows keeps o f s fed items t (λ i. locks_at i t) items → Knows keeps o g s fed (items ++ item ∷ []) t (λ i. locks_at i t) items
  item_known o f g item s fed items t gives k = record { few = k.few; stands = gives s fed items t k.stands; kept = k.kept }

  pub item_asked : (asks : Bool) (o : O) (v : State) (g : fronts.State) (item : Aligned) → GivesOn v.front g item → (asks ≡ true → HasToldSome keeps o v) → asks ≡ true → AsksItem keeps o g item
  item_asked asks o v g item gives some e =
      let k = some e in
      record { s = k.0; fed = k.1; items = k.2.items; t = k.2.t; knows = item_known o v.front g item k.0 k.1 k.2.items k.2.t gives k.2.knows }

  module _ (o p : O) (v w : State) (item : Aligned) (gives : GivesOn v.front w.front item) (takes : TakesItem keeps saw o p w.front item) (runs : is_closed w.stage ≡ false) where
    item_kept : (s : Settings) (fed : List Fed) → HasTold keeps o v s fed → HasTold keeps p w s fed
    item_kept s fed k = record {
      items = k.items ++ item ∷ [];
      t = k.t;
      knows = record {
        few = k.knows.few;
        stands = gives s fed k.items k.t k.knows.stands;
        kept = (takes s fed k.items k.t (item_known o v.front w.front item s fed k.items k.t gives k.knows)).kept;
      };
      closed = λ e. absurd (clash e runs);
    }

    pub item_told : Tells keeps saw o p v w
    unfolding item_kept
    item_told = record {
      told = item_kept;
      seen = λ s fed lanes begin l. record {
        told = item_kept s fed l.told;
        seen = (takes s fed l.told.items l.told.t (item_known o v.front w.front item s fed l.told.items l.told.t gives l.told.knows)).seen lanes begin l.seen;
      };
    }

  -- ---- the clock moves on

  pub moved_known : (o : O) (f g : fronts.State) (s : Settings) (fed : List Fed) (items : List Aligned) (t : Progress) (moves : MovesEach f g) (k : Knows keeps o f s fed items t (λ i. locks_at i t) items) →
      Knows keeps o g s fed items (moves s fed items t k.stands).to (λ i. locks_at i t) items
  moved_known o f g s fed items t moves k = record { few = k.few; stands = (moves s fed items t k.stands).stands; kept = k.kept }

  pub locks_asked : (asks : Bool) (o : O) (v : State) (g : fronts.State) → MovesEach v.front g → (asks ≡ true → HasToldSome keeps o v) → asks ≡ true → AsksLocks keeps o g
  locks_asked asks o v g moves some e =
      let k = some e in
      let m = moves k.0 k.1 k.2.items k.2.t k.2.knows.stands in
      record { s = k.0; fed = k.1; items = k.2.items; t = m.to; before = λ i. locks_at i k.2.t; later = m.locks; knows = moved_known o v.front g k.0 k.1 k.2.items k.2.t moves k.2.knows }

  module _ (o p : O) (v w : State) (moves : MovesEach v.front w.front) (takes : TakesLocks keeps saw o p w.front) (runs : is_closed w.stage ≡ false) where
    learns : (s : Settings) (fed : List Fed) (items : List Aligned) (t : Progress) (k : Knows keeps o v.front s fed items t (λ i. locks_at i t) items) →
        Learns keeps saw o p s fed (λ i. locks_at i t) (λ i. locks_at i (moves s fed items t k.stands).to) items items
    learns s fed items t k =
        let m = moves s fed items t k.stands in
        takes s fed items m.to (λ i. locks_at i t) m.locks (moved_known o v.front w.front s fed items t moves k)

    moved_kept : (s : Settings) (fed : List Fed) → HasTold keeps o v s fed → HasTold keeps p w s fed
    moved_kept s fed k =
        let m = moves s fed k.items k.t k.knows.stands in
        record { items = k.items; t = m.to; knows = record { few = k.knows.few; stands = m.stands; kept = (learns s fed k.items k.t k.knows).kept }; closed = λ e. absurd (clash e runs) }

    pub locks_told : Tells keeps saw o p v w
    unfolding moved_kept
    locks_told = record {
      told = moved_kept;
      seen = λ s fed lanes begin l. record { told = moved_kept s fed l.told; seen = (learns s fed l.told.items l.told.t l.told.knows).seen lanes begin l.seen };
    }

  -- ---- the first call

  pub told_fresh : (o : O) (v : State) (s : Settings) → IsFresh v s → keeps o s (λ i. []) [] → HasTold keeps o v s (nothing_fed s.lanes)
  told_fresh o v s fresh kept = record {
    items = [];
    t = begun s.lanes;
    knows = record { few = none_fed s.lanes; stands = fresh.front; kept = kept };
    closed = λ e. absurd (fresh.runs e);
  }
    where
      none_fed : (n : ℕ) → longest (nothing_fed n) < 2 ^ 57
      none_fed zero = omega arith
      none_fed (suc n) = (let r = none_fed n in omega (arith, r))

  pub seen_fresh : (o : O) (v : State) (s : Settings) (lanes : List (List ℕ)) → IsFresh v s → keeps o s (λ i. []) [] → saw o s lanes (λ i. []) [] → HasSeen keeps saw o v s (nothing_fed s.lanes) lanes
  unfolding told_fresh
  seen_fresh o v s lanes fresh kept seen = record { told = told_fresh o v s fresh kept; seen = seen }

  -- ---- lanes are fed

  pub told_fed : (o : O) (more : List Fed → List Fed) (v w : State) (s : Settings) (fed : List Fed) → Feeds more v w → HasTold keeps o v s fed → HasTold keeps o w s (more fed)
  told_fed o more v w s fed f k = record {
    items = k.items;
    t = k.t;
    knows = record { few = f.few s fed k.items k.t k.knows.stands k.knows.few; stands = f.stands s fed k.items k.t k.knows.stands; kept = k.knows.kept };
    closed = λ e. f.at_end (k.closed (ap is_closed (sym f.stage) ∙ e));
  }

  pub seen_fed : (o : O) (more : List Fed → List Fed) (v w : State) (s : Settings) (fed : List Fed) (lanes : List (List ℕ)) → Feeds more v w → HasSeen keeps saw o v s fed lanes → HasSeen keeps saw o w s (more fed) lanes
  unfolding told_fed
  seen_fed o more v w s fed lanes f l = record { told = told_fed o more v w s fed f l.told; seen = l.seen }

  -- ---- the end

  pub saw_all : (o : O) (v : State) (s : Settings) (fed : List Fed) (lanes : List (List ℕ)) → HasSeen keeps saw o v s fed lanes → is_closed v.stage ≡ true → AllBegin fed lanes → SawAll keeps saw o v.front s lanes
  saw_all o v s fed lanes l closed begin =
      let k = l.told in
      let end = k.closed closed in
      let st = k.knows.stands in
      let time = st.time in
      let left = end.left in
      let round = subst (λ (b : Bool). front.AtRound b fed k.t.rounds) end.over st.at_round in
      let are = all_whole fed lanes round.0 begin in
      let last = round.1 in
      record {
        items = k.items;
        t = k.t;
        knows = subst (λ (xs : List Fed). Knows keeps o v.front s xs k.items k.t (λ i. locks_at i k.t) k.items) are k.knows;
        seen = l.seen;
        past = subst (λ (xs : List Fed). 8 * longest xs < k.t.clock) are (omega (arith, time, left, last));
        all = λ known shows. all_taken v.front s fed k.items k.t end st known (subst (λ (xs : List Fed). AreItems s k.t.clock xs known) (sym are) shows);
      }
    where
      same_fed : (lane : Fed) (bytes : List ℕ) → lane.finished ≡ true → Goes lane (whole bytes) → lane ≡ whole bytes
      same_fed lane bytes e g =
          let same : lane.bytes ≡ bytes = sym (append-nil lane.bytes) ∙ ap (λ (r : List ℕ). lane.bytes ++ r) (sym (g.over e).1) ∙ sym g.bytes in
          ap₂ fed_of same e

      all_whole : (fed : List Fed) (lanes : List (List ℕ)) → all_finished fed ≡ true → AllBegin fed lanes → fed ≡ map whole lanes
      all_whole [] [] e b = refl
      all_whole [] (bytes ∷ lanes) e b = absurd b
      all_whole (lane ∷ fed) [] e b = absurd b
      all_whole (lane ∷ fed) (bytes ∷ lanes) e b =
          let parts = and_parts lane.finished (all_finished fed) e in
          ap (λ (x : Fed). x ∷ fed) (same_fed lane bytes parts.0 b.0) ∙ ap (λ (xs : List Fed). whole bytes ∷ xs) (all_whole fed lanes parts.1 b.1)

      -- all items that are known were taken, where nothing waits
      all_taken : (f : fronts.State) (s : Settings) (fed : List Fed) (items : List Aligned) (t : Progress) → IsAtEnd f → front.Stands f s fed items t → (known : List Aligned) → AreItems s t.clock fed known → known ≡ items
      all_taken f s fed items t end st known are =
          let given : items ++ f.waiting ≡ items = ap (λ (w : List Aligned). items ++ w) end.none ∙ append-nil items in
          (running_ends f.deskew s (ticks_of t.columns t.clock) (items ++ f.waiting) end.settled st.deskew).0 known (known_here f s fed items t st known are) ∙ given
