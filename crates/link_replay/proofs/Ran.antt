-- Data words that go on as sent.
use Rattle.std.proofs.Common.{ℕ, zero, suc, ◌≡◌, refl, sym, ap, ◌∙◌, subst, ◌+◌, ◌-◌, ◌%◌, ◌≤◌, ◌<◌, ◌==◌, Bool, true, false, cond, List, [], ◌∷◌, ◌++◌, length, get_or, take, drop, Option, Some, inl, inr, arith, eqb-true, eq-eqb}
use Rattle.std.proofs.lemmas.Bool.{and_from, eqb-false}
use Rattle.std.proofs.lemmas.List.{get_or-drop, take_more}
use Rattle.lk_base.specs.declared.position.Pos.{Pos}
use Rattle.lk_base.specs.declared.word.Aligned.{Aligned}
use Rattle.lk_base.specs.declared.word.Word.{Word}
use Rattle.lk_base.specs.declared.word.Word.TheVariants as sent
use Rattle.lk_base.specs.declared.word.RxWord.{RxWord}
use Rattle.lk_base.specs.declared.word.RxWord.TheVariants as received
use Rattle.lk_base.specs.Link.{IsLink, group_of}
use Rattle.lk_base.specs.Positions.{words_from}
use Rattle.lk_base.specs.Words.{as_sent, word_at}
use Rattle.lk_base.proofs.Bits.{digit_small}
use Rattle.epoch_model.specs.SoFar.{LaneSoFar}
use Rattle.link_laws.specs.Accidents.{is_same_word}
use Rattle.reassembly.specs.declared.stretch.Stretch.{Stretch as Checked}
use Rattle.link_replay.specs.declared.alike.Alike.{Alike}
use Rattle.link_replay.specs.declared.alike.Alike.TheVariants as kinds
use Rattle.link_replay.specs.Places.{IsSlot, place_of}
use Rattle.link_replay.specs.Runs.{AreSameData, alike_after, first_of, goes_on, is_same_data}
use Rattle.link_replay.specs.Standing.{Holds, IsSame, RunsOn, TakesNext, TakesWord, Watch, Watches, skews_of, with_stretch}
use Rattle.link_replay.specs.Stretches.{GoesOn, Running, Takes, TakesSlot, ran, ready}
use Rattle.link_replay.proofs.Items.{takes_word, words_held, words_more}
use Rattle.link_replay.proofs.Slots.{slot_further}
use Rattle.link_replay.proofs.StretchSteps.{word-on}

-- a received data word that is a sent one
pub record IsData (r : RxWord) (w : Word) : Type 0 where
  pub number : ℕ
  pub received_is : r ≡ received.Data number
  pub same : is_same_word r (as_sent w) ≡ true

is-data : (r : RxWord) (w : Word) → is_same_data r w ≡ true → IsData r w
is-data (received.Data x) (sent.Data y) e = record { number = x; received_is = refl; same = e }
is-data (received.Data x) (sent.Control y) e = absurd (clash e)
  where
    clash : false ≡ true → ⊥
    clash e = cc
is-data (received.Control x) w e = absurd (clash e)
  where
    clash : false ≡ true → ⊥
    clash e = cc
is-data received.Bad w e = absurd (clash e)
  where
    clash : false ≡ true → ⊥
    clash e = cc

-- one more received word is the same
pub same-on : (ws : List RxWord) (words : List Word) (n k : ℕ) → AreSameData ws words n k → is_same_data (get_or ws k received.Bad) (word_at words (n + k)) ≡ true → AreSameData ws words n (k + 1)
same-on ws words n k same last i lt = by (i == k) refl
  where
    by : (b : Bool) → (i == k) ≡ b → is_same_data (get_or ws i received.Bad) (word_at words (n + i)) ≡ true
    by true e = (let at : i ≡ k = eqb-true i k e in rw at last)
    by false e = same i (omega (arith, lt, eqb-false i k e))

module _ (words : List Word) (s : Running) (n : ℕ) (ws : List RxWord) (count : ℕ) (goes : GoesOn words s n ws count) where
  abbrev word : ℕ → RxWord
  word k = get_or ws k received.Bad

  -- how they stand after one more
  ran-alike : (k : ℕ) → k < count → alike_after words (ran n k s).alike (Some (n + k)) (word k) ≡ kinds.Up (first_of s.alike n) (n + suc k)
  ran-alike zero lt =
      let here : n + zero ≡ n = omega arith in
      let next : n + 1 ≡ n + suc zero = omega arith in
      let found = is-data (word zero) (word_at words (n + zero)) (goes.same zero lt) in
      let same : is_same_word (word zero) (as_sent (word_at words n)) ≡ true = ap (λ (i : ℕ). is_same_word (word zero) (as_sent (word_at words i))) (sym here) ∙ found.same in
      ap (λ (i : ℕ). alike_after words s.alike (Some i) (word zero)) here
      ∙ ap (λ (b : Bool). cond b (kinds.Up (first_of s.alike n) (n + 1)) kinds.Not) (and_from (goes_on words s.alike n) (is_same_word (word zero) (as_sent (word_at words n))) (goes.on (omega (arith, lt))) same)
      ∙ ap (kinds.Up (first_of s.alike n)) next
  ran-alike (suc k) lt =
      let next : (n + suc k) + 1 ≡ n + suc (suc k) = omega arith in
      let found = is-data (word (suc k)) (word_at words (n + suc k)) (goes.same (suc k) lt) in
      ap (λ (b : Bool). cond b (kinds.Up (first_of s.alike n) ((n + suc k) + 1)) kinds.Not)
      (and_from (n + suc k == n + suc k) (is_same_word (word (suc k)) (as_sent (word_at words (n + suc k)))) (eq-eqb (n + suc k) (n + suc k) refl) found.same)
      ∙ ap (kinds.Up (first_of s.alike n)) next

  ran-checked : (k : ℕ) → (ran n k s).checked ≡ s.checked
  ran-checked zero = refl
  ran-checked (suc k) = refl

  -- one more of them
  ran-on : (at : Pos) (k : ℕ) → k < count → TakesSlot (ran n k s) (ran n (suc k) s) words (Some (n + k)) at (word k) false
  ran-on at k lt place epoch own slotted is =
      word-on place words (ran n k s) (ran n (suc k) s) epoch at (word k) (Some (n + k)) false own slotted takes is
    where
      after : Alike
      after = alike_after words (ran n k s).alike (Some (n + k)) (word k)

      one : (w : RxWord) (b : Alike) (x : ℕ) → w ≡ received.Data x → b ≡ kinds.Up (first_of s.alike n) (n + suc k) → Takes (ready words b (ran n k s)) (ran n (suc k) s) at w b false
      one w b x e f = rw (e, f) (ap (λ (c : Checked). let r : Running = record { checked = c; alike = kinds.Up (first_of s.alike n) (n + suc k) } in r) (sym (ran-checked k)), refl)

      takes : Takes (ready words after (ran n k s)) (ran n (suc k) s) at (word k) after false
      takes = (let found = is-data (word k) (word_at words (n + k)) (goes.same k lt) in one (word k) after found.number found.received_is (ran-alike k lt))

-- ---- the whole

-- what a run leaves as it was
ran-still : (v : Watch) (words : List Word) (slot : Option ℕ) (at : Pos) (word : RxWord) (s : Running) → TakesSlot v.stretch s words slot at word false → TakesWord v (with_stretch s v) words slot at word
ran-still v words slot at word s goes = takes_word v s v.stretches words slot at word false (omega arith) goes

module _ (v : Watch) (words : List Word) (locks : ℕ → List ℕ) (items : List Aligned) (group index n from count : ℕ) (ws : List RxWord) (goes : GoesOn words v.stretch from (drop n ws) count) (within : n + count ≤ length ws) where
  -- after this many of the words
  abbrev after : ℕ → Watch
  after k = with_stretch (ran from k v.stretch) v

  abbrev given : ℕ → List Aligned
  given k = items ++ words_from group index (take k ws)

  module _ (k : ℕ) (lt : k < count) where
    here : (n + k) + 1 ≡ n + suc k
    here = omega arith

    more : take ((n + k) + 1) ws ≡ take (n + k) ws ++ get_or (drop n ws) k received.Bad ∷ []
    more = take_more ws (n + k) received.Bad (omega (arith, lt, within)) ∙ ap (λ (w : RxWord). take (n + k) ws ++ w ∷ []) (sym (get_or-drop n ws k received.Bad))

    takes : TakesWord (after k) (after (suc k)) words (Some (from + k)) (record { group = group; index = index + (n + k) }) (get_or (drop n ws) k received.Bad)
    takes = ran-still (after k) words (Some (from + k)) _ _ (ran from (suc k) v.stretch) (ran-on words v.stretch from (drop n ws) count goes (record { group = group; index = index + (n + k) }) k lt)

    one-held : Holds (after k) words locks (given (n + k)) → Holds (after (suc k)) words locks (given (n + suc k))
    one-held h = subst (λ (i : ℕ). Holds (after (suc k)) words locks (given i)) here
        (words_held (after k) (after (suc k)) words locks items group index (n + k) ws _ (Some (from + k)) (omega (arith, lt, within)) more takes h)

    one-watched : (lanes : List LaneSoFar) → IsSlot (place_of v.settings v.skew) (length words) (record { group = group; index = index + (n + k) }) (Some (from + k)) →
        Watches (after k) words lanes locks (given (n + k)) → Watches (after (suc k)) words lanes locks (given (n + suc k))
    one-watched lanes slotted w = subst (λ (i : ℕ). Watches (after (suc k)) words lanes locks (given i)) here
        (words_more (after k) (after (suc k)) words locks items group index (n + k) ws _ (Some (from + k)) (omega (arith, lt, within)) more takes lanes slotted w)

  zero-on : n + zero ≡ n
  zero-on = omega arith

  pub run-held : Holds v words locks (given n) → (k : ℕ) → k ≤ count → Holds (after k) words locks (given (n + k))
  run-held h zero le = subst (λ (i : ℕ). Holds v words locks (given i)) (sym zero-on) h
  run-held h (suc k) le = one-held k (omega (arith, le)) (run-held h k (omega (arith, le)))

  pub run-watched : (lanes : List LaneSoFar) → index + (n + count) ≤ group_of v.settings → IsLink v.settings → length words % group_of v.settings ≡ 0 →
      IsSlot (place_of v.settings v.skew) (length words) (record { group = group; index = index + n }) (Some from) →
      Watches v words lanes locks (given n) → (k : ℕ) → k ≤ count → Watches (after k) words lanes locks (given (n + k))
  run-watched lanes inside link whole slotted w zero le = subst (λ (i : ℕ). Watches v words lanes locks (given i)) (sym zero-on) w
  run-watched lanes inside link whole slotted w (suc k) le =
      let e : (index + n) + k ≡ index + (n + k) = omega arith in
      let here = slot_further v.settings v.skew (length words) from k (record { group = group; index = index + n }) link whole (omega (arith, inside, le)) slotted in
      one-watched k (omega (arith, le)) lanes (subst (λ (i : ℕ). IsSlot (place_of v.settings v.skew) (length words) (record { group = group; index = i }) (Some (from + k))) e here)
      (run-watched lanes inside link whole slotted w k (omega (arith, le)))

-- what the next words of a group lead to, of which n were taken
pub record NextOn (v u : Watch) (words : List Word) (group index n count : ℕ) (ws : List RxWord) : Type 0 where
  pub same : IsSame v u
  pub skew : u.skew ≡ v.skew
  pub room : u.stretches ≤ v.stretches + count
  pub holds : (locks : ℕ → List ℕ) (items : List Aligned) → Holds v words locks (items ++ words_from group index (take n ws)) → Holds u words locks (items ++ words_from group index (take (n + count) ws))
  pub watches : (lanes : List LaneSoFar) (locks : ℕ → List ℕ) (items : List Aligned) → Watches v words lanes locks (items ++ words_from group index (take n ws)) →
      Watches u words lanes locks (items ++ words_from group index (take (n + count) ws))

module _ (v : Watch) (words : List Word) (slot : Option ℕ) (group index n : ℕ) (ws : List RxWord) (lt : n < length ws)
    (slotted : IsLink v.settings → length words % group_of v.settings ≡ 0 → IsSlot (place_of v.settings v.skew) (length words) (record { group = group; index = index + n }) slot) where
  run-next : (u : Watch) (count : ℕ) → 1 ≤ count → n + count ≤ length ws → RunsOn v u words slot (group_of v.settings - (index + n)) (drop n ws) count → NextOn v u words group index n count ws
  run-next u count some most r =
      let inside = r.inside in
      subst (λ (x : Watch). NextOn v x words group index n count ws) (sym r.is) (record {
        same = record { settings = refl; skews = refl };
        skew = refl;
        room = omega arith;
        holds = λ locks items h. run-held v words locks items group index n r.from count ws r.goes most h count (omega arith);
        watches = λ lanes locks items w. (
            let at = subst (λ (o : Option ℕ). IsSlot (place_of v.settings v.skew) (length words) (record { group = group; index = index + n }) o) r.slot_is (slotted w.held.link w.held.whole) in
            run-watched v words locks items group index n r.from count ws r.goes most lanes (omega (arith, inside, some)) w.held.link w.held.whole at w count (omega arith));
      })

  first-next : (u : Watch) → TakesWord v u words slot (record { group = group; index = index + n }) (get_or (drop n ws) 0 received.Bad) → NextOn v u words group index n 1 ws
  first-next u k =
      let low = digit_small k.strange in
      let counted = ap (λ (x : Watch). x.stretches) k.is in
      let here : n + 0 ≡ n = omega arith in
      let word : get_or ws n received.Bad ≡ get_or (drop n ws) 0 received.Bad = ap (λ (i : ℕ). get_or ws i received.Bad) (sym here) ∙ sym (get_or-drop n ws 0 received.Bad) in
      let more : take (n + 1) ws ≡ take n ws ++ get_or (drop n ws) 0 received.Bad ∷ [] = take_more ws n received.Bad lt ∙ ap (λ (w : RxWord). take n ws ++ w ∷ []) word in
      record {
        same = record { settings = ap (λ (x : Watch). x.settings) k.is; skews = ap (λ (x : Watch). skews_of x.lanes) k.is };
        skew = ap (λ (x : Watch). x.skew) k.is;
        room = omega (arith, counted, low);
        holds = λ locks items h. words_held v u words locks items group index n ws _ slot (omega (arith, lt)) more k h;
        watches = λ lanes locks items w. words_more v u words locks items group index n ws _ slot (omega (arith, lt)) more k lanes (slotted w.held.link w.held.whole) w;
      }

  pub next-on : (u : Watch) (count : ℕ) → 1 ≤ count → n + count ≤ length ws →
      TakesNext v u words slot (group_of v.settings - (index + n)) (record { group = group; index = index + n }) (drop n ws) count → NextOn v u words group index n count ws
  next-on u count some most takes = elim takes [
    | inl runs ↦ run-next u count some most runs
    | inr one ↦ subst (λ (i : ℕ). NextOn v u words group index n i ws) (sym one.0) (first-next u one.1)
  ]
