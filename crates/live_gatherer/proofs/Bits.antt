-- A word stands in its lane at its bit.
use Rattle.std.proofs.Common.{ℕ, zero, suc, ◌≡◌, refl, sym, ap, ◌∙◌, subst, ◌+◌, ◌*◌, ◌/◌, ◌%◌, ◌<◌, ◌≤◌, Bool, true, false, List, [], ◌∷◌, ◌++◌, length, map, drop, get_or, nat_lt, arith, Option, Some, None}
use Rattle.std.specs.Prelude.{if◌then◌else◌}
use Rattle.std.specs.List.{list_all}
use Rattle.std.proofs.lemmas.Bool.Decides.{nat_tests}
use Rattle.std.proofs.lemmas.List.{length-map}
use Rattle.std.proofs.lemmas.List.FromFn.{length-map-range_with_len}
use Rattle.std.proofs.lemmas.Option.{same_Some}
use Rattle.lk_base.specs.declared.fault.Why.{Why}
use Rattle.lk_base.specs.declared.position.Pos.{Pos}
use Rattle.lk_base.specs.declared.word.Aligned.{Aligned}
use Rattle.lk_base.specs.declared.word.Aligned.TheVariants.{Group, Word, Break}
use Rattle.lk_base.specs.declared.word.RxWord.{RxWord}
use Rattle.lk_base.specs.Link.{Settings}
use Rattle.lk_base.specs.Positions.{words_from}
use Rattle.lock_model.specs.Tracks.{Track}
use Rattle.epoch_model.specs.Groups.{IsSyncOf, SyncAt, SyncsOf, behind_for, covers, is_there, no_sync, place, placed_word, size_of, sync_for, word_for}
use Rattle.epoch_model.specs.SoFar.{LaneSoFar, tracks_in, word_item}
use Rattle.event_model.specs.Fed.{Fed}
use Rattle.deskew.specs.Cursor.{Cursor, Follows, FollowsIn, IsGroupAt, Leads, first_cursor}
use Rattle.deskew.specs.Stands.{kept_lanes, ring_of}
use Rattle.deskew.specs.States as deskew
use Rattle.deskew.specs.Steps.{start_at}
use Rattle.deskew.specs.Lanes.{fresh_lane}
use Rattle.deskew.specs.Ticks.{lane_shown, lanes_shown, steps_in, ticks_of}
use Rattle.deskew.specs.declared.phase.Phase.{Phase}
use Rattle.deskew.specs.declared.phase.Phase.TheVariants as phases
use Rattle.rx_front.specs.Standing as front
use Rattle.rx_front.specs.Standing.{Progress}
use Rattle.rx_front.specs.States.{State}
use Rattle.rx_front.proofs.Clocked.{shown_at_clock}
use Rattle.rx_front.proofs.Known.{clock_in}
use Rattle.live_gatherer.specs.Bits.{AreWords, IsShownBy, Shows}
use Rattle.live_gatherer.specs.Taking.{bit_of}

-- ---- words

pub are_words_from : (group index : ℕ) (words : List RxWord) → AreWords (words_from group index words)
are_words_from group index [] = tt
are_words_from group index (w ∷ words) = are_words_from group (index + 1) words

pub are_words_drop : (n : ℕ) (items : List Aligned) → AreWords items → AreWords (drop n items)
are_words_drop zero items h = h
are_words_drop (suc n) [] h = tt
are_words_drop (suc n) (Group at ∷ items) h = absurd h
are_words_drop (suc n) (Word at w ∷ items) h = are_words_drop n items h
are_words_drop (suc n) (Break at why ∷ items) h = absurd h

pub are_words_none : (items : List Aligned) → length items ≡ 0 → AreWords items
are_words_none [] e = tt
are_words_none (x ∷ items) e = absurd (omega (arith, e))

-- ---- lists by place

kept_start : (L room : ℕ) (lanes : List LaneSoFar) (starts : List ℕ) (i : ℕ) (d : deskew.LaneState) → length starts ≡ length lanes → i < length starts → (get_or (kept_lanes L room lanes starts) i d).start ≡ get_or starts i 0
kept_start L room [] [] i d e lt = absurd (omega (arith, lt))
kept_start L room [] (x ∷ starts) i d e lt = absurd (omega (arith, e))
kept_start L room (lane ∷ lanes) [] i d e lt = absurd (omega (arith, lt))
kept_start L room (lane ∷ lanes) (x ∷ starts) zero d e lt = refl
kept_start L room (lane ∷ lanes) (x ∷ starts) (suc i) d e lt = kept_start L room lanes starts i d (omega (arith, e)) (omega (arith, lt))

place_at : (group : List SyncAt) (i : ℕ) → i < length group → get_or (map place group) i 0 ≡ place (get_or group i no_sync)
place_at [] i lt = absurd (omega (arith, lt))
place_at (x ∷ group) zero lt = refl
place_at (x ∷ group) (suc i) lt = place_at group i (omega (arith, lt))

syncs_count : (L : ℕ) (tracks : List (List Track)) (group : List SyncAt) → SyncsOf L tracks group → length group ≡ length tracks
syncs_count L [] [] h = refl
syncs_count L [] (x ∷ group) h = absurd h
syncs_count L (lane ∷ tracks) [] h = absurd h
syncs_count L (lane ∷ tracks) (x ∷ group) h = ap suc (syncs_count L tracks group h.1)

sync_at : (L : ℕ) (tracks : List (List Track)) (group : List SyncAt) (i : ℕ) → SyncsOf L tracks group → i < length group → IsSyncOf L (get_or tracks i []) (get_or group i no_sync)
sync_at L [] [] i h lt = absurd (omega (arith, lt))
sync_at L [] (x ∷ group) i h lt = absurd h
sync_at L (lane ∷ tracks) [] i h lt = absurd h
sync_at L (lane ∷ tracks) (x ∷ group) zero h lt = h.0
sync_at L (lane ∷ tracks) (x ∷ group) (suc i) h lt = sync_at L tracks group i h.1 (omega (arith, lt))

-- ---- a word follows

-- of what may follow only a word is one
only_word : (more there on waits : Bool) (a : Aligned) (g e : Pos) (why : Why) (at : Pos) (w : RxWord) →
    (if more then (if there then Some a else (if waits then None else Some (Break e why))) else (if on then Some (Group g) else (if waits then None else Some (Break e why)))) ≡ Some (Word at w) →
    (more ≡ true) × (there ≡ true) × (a ≡ Word at w)
only_word true true on waits a g e why at w h = (refl, refl, same_Some a (Word at w) h)
only_word true false on true a g e why at w h = absurd (let f : ◌≡◌ {A = Option Aligned} None (Some (Word at w)) = h in cc)
only_word true false on false a g e why at w h = absurd (let f : ◌≡◌ {A = Aligned} (Break e why) (Word at w) = same_Some (Break e why) (Word at w) h in cc)
only_word false there true waits a g e why at w h = absurd (let f : ◌≡◌ {A = Aligned} (Group g) (Word at w) = same_Some (Group g) (Word at w) h in cc)
only_word false there false true a g e why at w h = absurd (let f : ◌≡◌ {A = Option Aligned} None (Some (Word at w)) = h in cc)
only_word false there false false a g e why at w h = absurd (let f : ◌≡◌ {A = Aligned} (Break e why) (Word at w) = same_Some (Break e why) (Word at w) h in cc)

at_word : (more there : Bool) (a b c : Cursor) → more ≡ true → there ≡ true → (if more then (if there then a else b) else c) ≡ a
at_word true true a b c e f = refl
at_word true false a b c e f = absurd (let g : false ≡ true = f in cc)
at_word false there a b c e f = absurd (let g : false ≡ true = e in cc)

pub record WordFollows (s : Settings) (lanes : List LaneSoFar) (c : Cursor) (at : Pos) (w : RxWord) (d : Cursor) : Type 0 where
  pub group : List SyncAt
  pub is_at : IsGroupAt s lanes c.starts group
  pub count : ℕ
  pub there : is_there s group count ≡ true
  pub placed : word_item (placed_word s group count) ≡ Word at w
  pub same : d.starts ≡ c.starts

word_follows_in : (phase : Phase) (s : Settings) (lanes : List LaneSoFar) (c : Cursor) (at : Pos) (w : RxWord) (d : Cursor) → FollowsIn s lanes phase c (Word at w) d → WordFollows s lanes c at w d
word_follows_in phases.First s lanes c at w d h = absurd (let f = h.item in cc)
word_follows_in phases.Between s lanes c at w d h = absurd (let f = h.item in cc)
word_follows_in (phases.Inside count) s lanes c at w d h =
    let is = only_word (nat_lt count (size_of s h.group)) (is_there s h.group count) (list_all (covers s.metaframe) h.group) _ (word_item (placed_word s h.group count)) _ _ _ at w h.item in
    record {
      group = h.group;
      is_at = h.at;
      count = count;
      there = is.1;
      placed = is.2;
      same = ap (λ (x : Cursor). x.starts) (h.cursor ∙ at_word (nat_lt count (size_of s h.group)) (is_there s h.group count) _ _ _ is.0 is.1) ∙ h.at.places;
    }

word_follows : (s : Settings) (lanes : List LaneSoFar) (c : Cursor) (at : Pos) (w : RxWord) (d : Cursor) → Follows s lanes c (Word at w) d → WordFollows s lanes c at w d
word_follows s lanes c at w d h = word_follows_in c.phase s lanes c at w d h

-- ---- items that lead on

leads_split : (s : Settings) (lanes : List LaneSoFar) (c : Cursor) (xs ys : List Aligned) (d : Cursor) → Leads s lanes c (xs ++ ys) d → (m : Cursor) × Leads s lanes c xs m × Leads s lanes m ys d
leads_split s lanes c [] ys d h = (c, refl, h)
leads_split s lanes c (x ∷ xs) ys d (m, follows, rest) = let (k, before, after) = leads_split s lanes m xs ys d rest in (k, (m, follows, before), after)

same_starts : (s : Settings) (lanes : List LaneSoFar) (c : Cursor) (items : List Aligned) (d : Cursor) → AreWords items → Leads s lanes c items d → d.starts ≡ c.starts
same_starts s lanes c [] d h e = ap (λ (x : Cursor). x.starts) (sym e)
same_starts s lanes c (Group at ∷ items) d h leads = absurd h
same_starts s lanes c (Break at why ∷ items) d h leads = absurd h
same_starts s lanes c (Word at w ∷ items) d h (m, follows, rest) = same_starts s lanes m items d h rest ∙ (word_follows s lanes c at w m follows).same

-- ---- the word that was given last, before words that wait

abbrev index_of : Aligned → ℕ
index_of (Group at) = 0
index_of (Word at w) = at.index
index_of (Break at why) = 0

bit_is : (start skips row at word : ℕ) → start ≡ at + 67 * word → start + 67 * (skips + 2 + row) ≡ at + 67 * (word + (skips + 2 + row))
bit_is start skips row at word e = omega (arith, e)

abbrev word_of : Aligned → RxWord → RxWord
word_of (Group at) d = d
word_of (Word at w) d = w
word_of (Break at why) d = d

shown_at : (s : Settings) (lanes : List LaneSoFar) (c d : Cursor) (at : Pos) (w : RxWord) (starts : List ℕ) (start lane : ℕ) → WordFollows s lanes c at w d → starts ≡ c.starts → length lanes ≡ s.lanes → 1 ≤ s.lanes → lane ≡ at.index % s.lanes →
    lane < s.lanes → start ≡ get_or starts lane 0 → IsShownBy (get_or (tracks_in lanes) lane []) (bit_of start s.skips (at.index / s.lanes)) w
shown_at s lanes c d at w starts start lane h same many some lane_is within start_is =
    let group = h.group in
    let syncs = syncs_count s.metaframe (tracks_in lanes) group h.is_at.syncs in
    let mapped = length-map lanes (λ (l : LaneSoFar). l.tracks) in
    let size : length group ≡ s.lanes = omega (arith, syncs, mapped, many) in
    let index : h.count ≡ at.index = ap index_of h.placed in
    let own : h.count % length group ≡ lane = ap (λ (n : ℕ). n % length group) index ∙ ap (λ (n : ℕ). at.index % n) size ∙ sym lane_is in
    let row : h.count / length group ≡ at.index / s.lanes = ap (λ (n : ℕ). n / length group) index ∙ ap (λ (n : ℕ). at.index / n) size in
    let x = get_or group lane no_sync in
    let sync : sync_for group h.count ≡ x = ap (λ (n : ℕ). get_or group n no_sync) own in
    let behind : behind_for s group h.count ≡ s.skips + 2 + at.index / s.lanes = ap (λ (n : ℕ). s.skips + 2 + n) row in
    let there : covers (s.skips + 2 + at.index / s.lanes) x ≡ true = subst (λ (n : ℕ). covers n x ≡ true) behind (subst (λ (y : SyncAt). covers (behind_for s group h.count) y ≡ true) sync h.there) in
    let at_start : start ≡ place x = start_is ∙ ap (λ (ns : List ℕ). get_or ns lane 0) (same ∙ sym h.is_at.places) ∙ place_at group lane (omega (arith, size, within)) in
    let word : word_for x (s.skips + 2 + at.index / s.lanes) ≡ w =
    ap (λ (n : ℕ). word_for x n) (sym behind) ∙ ap (λ (y : SyncAt). word_for y (behind_for s group h.count)) (sym sync) ∙ ap (λ (a : Aligned). word_of a w) h.placed in
    record {
      track = x.track;
      known = (sync_at s.metaframe (tracks_in lanes) group lane h.is_at.syncs (omega (arith, size, within))).known;
      number = x.word + (s.skips + 2 + at.index / s.lanes);
      covered = grind (arith, nat_tests);
      at = bit_is start s.skips (at.index / s.lanes) x.track.at x.word at_start;
      is = word;
    }

pub shows : (v : State) (s : Settings) (fed : List Fed) (before : List Aligned) (at : Pos) (w : RxWord) (t : Progress) (lane : ℕ) → front.Stands v s fed (before ++ Word at w ∷ []) t → AreWords v.waiting → lane ≡ at.index % s.lanes → lane < s.lanes →
    Shows s fed lane (bit_of (start_at lane v.deskew) s.skips (at.index / s.lanes)) w
shows v s fed before at w t lane st words lane_is within =
    let ticks = ticks_of t.columns t.clock in
    let lanes = lanes_shown s.lanes ticks in
    let k = st.deskew.keeps in
    let (m, first, rest) = leads_split s lanes (first_cursor s) (before ++ Word at w ∷ []) v.waiting _ k.leads in
    let (c, begin, step) = leads_split s lanes (first_cursor s) before (Word at w ∷ []) m first in
    let (d, follows, is) = step in
    let h = word_follows s lanes c at w d follows in
    let many : length lanes ≡ s.lanes = length-map-range_with_len (λ (i : ℕ). lane_shown (steps_in i ticks)) 0 s.lanes in
    let each = k.each in
    let start_is : start_at lane v.deskew ≡ get_or k.starts lane 0 =
    ap (λ (ls : List deskew.LaneState). (get_or ls lane (fresh_lane 0)).start) k.lanes ∙ kept_start s.metaframe (ring_of s) lanes k.starts lane (fresh_lane 0) (omega (arith, each, many)) (omega (arith, each, within)) in
    let low = st.link.lanes.0 in
    record {
      clock = t.clock;
      in_time = (clock_in v s fed (before ++ Word at w ∷ []) t st).1;
      shown = λ received bits. subst (λ (ls : List LaneSoFar). IsShownBy (get_or (tracks_in ls) lane []) (bit_of (start_at lane v.deskew) s.skips (at.index / s.lanes)) w)
          (shown_at_clock v.lanes s t.rounds t.clock fed t.columns received st.link st.lane_count (clock_in v s fed (before ++ Word at w ∷ []) t st).0 st.lanes bits)
          (shown_at s lanes c d at w k.starts (start_at lane v.deskew) lane h (same_starts s lanes m v.waiting _ words rest ∙ ap (λ (x : Cursor). x.starts) (sym is) ∙ h.same) many low lane_is within start_is);
    }
