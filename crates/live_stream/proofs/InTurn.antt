-- The order of the channels after one more entry, and after one more block of words; and which of them is first.
use Rattle.std.proofs.Common.{◌≡◌, ◌≢◌, ◌↔◌, ◌⊎◌, inl, inr, ℕ, zero, suc, ◌+◌, ◌*◌, ◌<◌, ◌≤◌, true, false, not, List, [], ◌∷◌, ◌++◌, length, map, filter, take, drop, get_or, ◌==◌, nat_eq, nat_lt, if◌then◌else◌, Option, Some, None, Contains, All, refl, sym, ap, ap₂, subst, ◌∙◌, arith}
use Rattle.std.specs.List.{AllPairs, remove}
use Rattle.std.specs.Option.{option_map_or}
use Rattle.std.proofs.lemmas.Bool.Decides.{nat_tests}
use Rattle.std.proofs.lemmas.Bool.{cases_eq}
use Rattle.std.proofs.lemmas.List.{map-append}
use Rattle.std.proofs.lemmas.List.Elements.{Contains-get_or}
use Rattle.lk_base.specs.Words.{block}
use Rattle.lk_base.specs.declared.word.Word.{Word}
use Rattle.lk_base.specs.declared.word.Word.TheVariants.{Control}
use Rattle.stream_model.specs.Calendar.{Told}
use Rattle.stream_model.specs.BurstStream.{mark_cmp, row_mark, burst_mark, later, last_burst, is_burst_on}
use Rattle.calendar.specs.Changes.{state_in}
use Rattle.burst_scheduler.specs.Ring.{turned, key_by}
use Rattle.burst_scheduler.proofs.Lines.{IsOrdered, same_keys, moved, less_time, not_itself}
use Rattle.burst_scheduler.proofs.Ring.{turned_other, turned_kept, turned_on, key_of}
use Rattle.burst_scheduler.proofs.Blocks.{last_block}
use Rattle.burst_scheduler.proofs.Turning.{was_off}
use Rattle.burst_scheduler.proofs.Bursting.{key_early, turned_early}
use Rattle.burst_scheduler.proofs.FlowRows.{last_at}
use Rattle.burst_scheduler.proofs.Rings.{not_there}
use Rattle.live_stream.specs.Turns.{AreInTurn, IsTurn}
use Rattle.live_stream.specs.Waiting.{channels_of}
use Rattle.live_stream.specs.declared.waiting.Waiting.{Waiting}

as_ordered : (channels : List ℕ) (told : List Told) (w : List Word) (line : List ℕ) → AreInTurn channels told w line → IsOrdered (Contains channels) (key_by told w) line
as_ordered channels told w line h = record { exact = h.exact; ordered = h.ordered }

as_turns : (channels : List ℕ) (told : List Told) (w : List Word) (line : List ℕ) → IsOrdered (Contains channels) (key_by told w) line → AreInTurn channels told w line
as_turns channels told w line o = record { exact = o.exact; ordered = o.ordered }

same : (channels : List ℕ) (c : ℕ) → Contains channels c ↔ Contains channels c
same channels c = ((λ h. h), (λ h. h))

-- ---- one more entry

-- the entry does not turn its channel on
pub turns_kept : (channels : List ℕ) (told : List Told) (w : List Word) (line : List ℕ) (e : Told) → (e.on ≡ state_in told e.channel) ⊎ (e.on ≡ false) → AreInTurn channels told w line → AreInTurn channels (e ∷ told) w line
turns_kept channels told w line e kept h =
    as_turns channels (e ∷ told) w line (same_keys (Contains channels) (Contains channels) (key_by told w) (key_by (e ∷ told) w) line (same channels) (λ c k. sym (key_of (e ∷ told) told w c (mark c))) (as_ordered channels told w line h))
  where
    mark : (c : ℕ) → turned (e ∷ told) c ≡ turned told c
    mark c = elim (cases_eq c e.channel) [
      | inl s ↦ subst (λ n. turned (e ∷ told) n ≡ turned told n) (sym s) (turned_kept told e kept)
      | inr ne ↦ turned_other told e c ne
    ]

-- its channel is none of the listed ones
pub turns_unknown : (channels : List ℕ) (told : List Told) (w : List Word) (line : List ℕ) (e : Told) → (Contains channels e.channel → ⊥) → AreInTurn channels told w line → AreInTurn channels (e ∷ told) w line
turns_unknown channels told w line e never h =
    as_turns channels (e ∷ told) w line (same_keys (Contains channels) (Contains channels) (key_by told w) (key_by (e ∷ told) w) line (same channels)
    (λ c k. sym (key_of (e ∷ told) told w c (turned_other told e c (λ z. never (subst (Contains channels) z k))))) (as_ordered channels told w line h))

key_now : (told : List Told) (w : List Word) (e : Told) → IsTurn told w e → e.on ≡ true → (o : Option ℕ) → last_burst w e.channel (length w) ≡ o → option_map_or (λ s. later (turned (e ∷ told) e.channel) (burst_mark s)) o (turned (e ∷ told) e.channel) ≡ row_mark e
key_now told w e come on None at = turned_on told e on (was_off e.on (state_in told e.channel) come.changes on)
key_now told w e come on (Some s) at =
    let early : s < e.slot = come.bursts s at in
    let test : nat_lt (2 * e.slot + 1) (2 * s + 2) ≡ false = grind (arith, nat_tests) in
    ap (λ m. later m (burst_mark s)) (turned_on told e on (was_off e.on (state_in told e.channel) come.changes on)) ∙ ap (λ b. if b then burst_mark s else row_mark e) test

-- the entry turns its channel on, which goes to the back
pub turns_on : (channels : List ℕ) (told : List Told) (w : List Word) (line : List ℕ) (e : Told) → IsTurn told w e → e.on ≡ true → Contains channels e.channel → AreInTurn channels told w line → AreInTurn channels (e ∷ told) w (filter (λ c. not (c == e.channel)) line ++ e.channel ∷ [])
turns_on channels told w line e come on known h =
    as_turns channels (e ∷ told) w (filter (λ c. not (c == e.channel)) line ++ e.channel ∷ [])
    (moved (Contains channels) (Contains channels) (key_by told w) (key_by (e ∷ told) w) line e.channel (as_ordered channels told w line h)
    (λ c ne. same channels c) (λ c ne. sym (key_of (e ∷ told) told w c (turned_other told e c ne))) known
    (λ c k ne. ap (mark_cmp (key_by told w c)) (key_now told w e come on (last_burst w e.channel (length w)) refl) ∙ come.latest c))

-- ---- one more block

module _ (channels : List ℕ) (told : List Told) (w : List Word) (x : ℕ) (ds : List ℕ) (line : List ℕ) (h : AreInTurn channels told w line) where
  same_last : (c : ℕ) → is_burst_on c (Control x) ≡ false → last_burst (w ++ block x ds) c (length (w ++ block x ds)) ≡ last_burst w c (length w)
  same_last c off = last_block w x ds c ∙ ap (λ b. if b then Some (length w) else last_burst w c (length w)) off

  same_key : (c : ℕ) → is_burst_on c (Control x) ≡ false → key_by told w c ≡ key_by told (w ++ block x ds) c
  same_key c off = ap (λ (o : Option ℕ). option_map_or (λ s. later (turned told c) (burst_mark s)) o (turned told c)) (sym (same_last c off))

  -- an idle leaves the order as it is
  pub turns_idle : ((c : ℕ) → is_burst_on c (Control x) ≡ false) → AreInTurn channels told (w ++ block x ds) line
  turns_idle idle = as_turns channels told (w ++ block x ds) line
      (same_keys (Contains channels) (Contains channels) (key_by told w) (key_by told (w ++ block x ds)) line (same channels) (λ c k. same_key c (idle c)) (as_ordered channels told w line h))

  -- the channel of a burst goes to the back, since its burst mark is the latest
  pub turns_burst : (ch : ℕ) → ((c : ℕ) → c ≢ ch → is_burst_on c (Control x) ≡ false) → is_burst_on ch (Control x) ≡ true → Contains channels ch → All (λ (d : Told). d.slot ≤ length w) told
      → AreInTurn channels told (w ++ block x ds) (filter (λ c. not (c == ch)) line ++ ch ∷ [])
  turns_burst ch others on known early =
      let own : (turned told ch).time < 2 * length w + 2 = turned_early (length w) ch told early in
      let key : key_by told (w ++ block x ds) ch ≡ burst_mark (length w) = (
      let t : nat_lt (turned told ch).time (2 * length w + 2) ≡ true = grind (arith, nat_tests) in
      ap (λ (o : Option ℕ). option_map_or (λ s. later (turned told ch) (burst_mark s)) o (turned told ch)) (last_block w x ds ch ∙ ap (λ b. if b then Some (length w) else last_burst w ch (length w)) on)
      ∙ ap (λ b. if b then burst_mark (length w) else turned told ch) t) in
      as_turns channels told (w ++ block x ds) (filter (λ c. not (c == ch)) line ++ ch ∷ [])
      (moved (Contains channels) (Contains channels) (key_by told w) (key_by told (w ++ block x ds)) line ch (as_ordered channels told w line h) (λ c ne. same channels c) (λ c ne. same_key c (others c ne)) known
      (λ c k ne. ap (mark_cmp (key_by told w c)) key ∙ less_time (key_by told w c) (burst_mark (length w)) (key_early w told c early (last_burst w c (length w)) (λ s at. (last_at w c (length w) s at).0))))

-- ---- a queue that goes to the back

-- no channel stands twice in the order
pub apart : (channels : List ℕ) (told : List Told) (w : List Word) (line : List ℕ) → AreInTurn channels told w line → AllPairs (λ (a b : ℕ). a ≡ b → ⊥) line
apart channels told w line h i j d l k e = not_itself (key_by told w (get_or line j d)) (ap (λ n. mark_cmp (key_by told w n) (key_by told w (get_or line j d))) (sym e) ∙ h.ordered i j d l k)

pub not_first : (x : ℕ) (xs : List ℕ) → AllPairs (λ (a b : ℕ). a ≡ b → ⊥) (x ∷ xs) → Contains xs x → ⊥
not_first x xs d i = let k : ℕ = i.0 in let low : 0 < suc k = omega arith in let high : suc k < length (x ∷ xs) = omega (arith, i.1) in d 0 (suc k) x low high (sym i.2)

pub rest_apart : (x : ℕ) (xs : List ℕ) → AllPairs (λ (a b : ℕ). a ≡ b → ⊥) (x ∷ xs) → AllPairs (λ (a b : ℕ). a ≡ b → ⊥) xs
rest_apart x xs d i j e l k = d (suc i) (suc j) e (omega arith) (omega arith)

-- the order without the one at a place is the order without its channel
pub remove_is : (line : List ℕ) (at : ℕ) → AllPairs (λ (a b : ℕ). a ≡ b → ⊥) line → at < length line → remove line at ≡ filter (λ c. not (c == get_or line at 0)) line
remove_is [] at d h = absurd (omega arith)
remove_is (x ∷ xs) zero d h =
    let own : nat_eq x x ≡ true = grind (arith, nat_tests) in
    rw own (sym (not_there x xs (not_first x xs d)))
remove_is (x ∷ xs) (suc at) d h =
    let inside : at < length xs = omega arith in
    let other : nat_eq x (get_or xs at 0) ≡ false = elim (cases_eq x (get_or xs at 0)) [
      | inl e ↦ absurd (not_first x xs d (subst (Contains xs) (sym e) (Contains-get_or xs at 0 inside)))
      | inr ne ↦ grind (arith, nat_tests)
    ] in
    rw other (ap (λ ys. x ∷ ys) (remove_is xs at (rest_apart x xs d) inside))

map_take : (n : ℕ) (turns : List Waiting) → map (λ (q : Waiting). q.channel) (take n turns) ≡ take n (channels_of turns)
map_take zero turns = refl
map_take (suc n) [] = refl
map_take (suc n) (q ∷ turns) = ap (λ cs. q.channel ∷ cs) (map_take n turns)

map_drop : (n : ℕ) (turns : List Waiting) → map (λ (q : Waiting). q.channel) (drop n turns) ≡ drop n (channels_of turns)
map_drop zero turns = refl
map_drop (suc n) [] = refl
map_drop (suc n) (q ∷ turns) = map_drop n turns

pub channels_removed : (turns : List Waiting) (at : ℕ) → channels_of (remove turns at) ≡ remove (channels_of turns) at
channels_removed turns at = map-append (λ (q : Waiting). q.channel) (take at turns) (drop (suc at) turns) ∙ ap₂ (λ xs ys. xs ++ ys) (map_take at turns) (map_drop (suc at) turns)

-- the channels where the queue at a place, perhaps changed, goes to the back
pub moved_back : (turns now : List Waiting) (at : ℕ) (q : Waiting) → AllPairs (λ (a b : ℕ). a ≡ b → ⊥) (channels_of turns) → at < length (channels_of turns) → q.channel ≡ get_or (channels_of turns) at 0 → now ≡ remove turns at ++ q ∷ []
    → channels_of now ≡ filter (λ c. not (c == q.channel)) (channels_of turns) ++ q.channel ∷ []
moved_back turns now at q d h e is =
    ap channels_of is ∙ map-append (λ (p : Waiting). p.channel) (remove turns at) (q ∷ [])
    ∙ ap (λ cs. cs ++ q.channel ∷ []) (channels_removed turns at ∙ remove_is (channels_of turns) at d h ∙ ap (λ n. filter (λ c. not (c == n)) (channels_of turns)) (sym e))
