-- The numbers of received words have 64 bits, so that the words are read as they were written.
use Rattle.std.proofs.Common.{ℕ, zero, suc, ◌≡◌, sym, subst, ◌+◌, ◌*◌, ◌/◌, ◌%◌, ◌^◌, ◌<◌, ◌==◌, Bool, true, false, List, [], ◌∷◌, ◌++◌, length, map, flat_map, get_or, All, Contains, Option, None, Some, arith, inl, inr, lit<}
use Rattle.std.specs.List.{range_with_len}
use Rattle.std.proofs.lemmas.Nat.{mod_below, xor_lt}
use Rattle.std.proofs.lemmas.List.Elements.{All-append}
use Rattle.lk_base.specs.declared.word.Aligned.{Aligned}
use Rattle.lk_base.specs.declared.word.Aligned.TheVariants.{Group, Word, Break}
use Rattle.lk_base.specs.declared.word.RxWord.{RxWord}
use Rattle.lk_base.specs.declared.word.RxWord.TheVariants.{Data, Control, Bad}
use Rattle.lk_base.specs.Link.{Settings}
use Rattle.lane_model.specs.declared.role.Role.{Role}
use Rattle.lane_model.specs.declared.role.Role.TheVariants as roles
use Rattle.lane_model.specs.Coding.{header_in, payload_in, word_of_code}
use Rattle.lane_model.specs.Framing.{role_of}
use Rattle.lane_model.specs.Key.{key_word, key_place}
use Rattle.lane_model.proofs.KeyHolds.{key_word-below}
use Rattle.lock_model.specs.Locks.{code_at, loaded}
use Rattle.lock_model.specs.Received.{Lock, received_at, unscrambled, unscrambled_as}
use Rattle.lock_model.specs.Tracks.{Track, track_of}
use Rattle.epoch_model.specs.GroupLaw.{HasAttempts}
use Rattle.epoch_model.specs.Groups.{SyncAt, SyncsOf, behind_for, metaframes_on, moved, name_of, no_sync, placed_word, size_of, sync_for}
use Rattle.epoch_model.specs.SoFar.{EpochSoFar, EpochsSoFar, LaneSoFar, ending_of, is_waiting, items_of, items_of_epoch, items_of_group, last_group, tracks_in, word_item}
use Rattle.event_model.specs.Fed.{Fed}
use Rattle.event_model.specs.Given.{AreItems, lanes_at}
use Rattle.receive_model.proofs.Cuts.{split}
use Rattle.lane_words.specs.Gathered.{between, words_after}
use Rattle.lk_base.specs.Words.{number_of}

-- ---- a word of a lane

abbrev Fits : RxWord → Type 0
Fits word = number_of word < 2 ^ 64

bad_fits : Fits Bad
bad_fits = lit< tt

payload_fits : (code : ℕ) → payload_in code < 2 ^ 64
payload_fits code = split (code / 2 ^ 66 == 1)
    (λ h. rw h (omega arith))
    (λ h. rw h (mod_below code (2 ^ 64) (lit< tt)))

code_fits : (code : ℕ) → Fits (word_of_code code)
unfolding word_of_code
code_fits code = split (header_in code == 1)
    (λ h. rw h (payload_fits code))
    (λ h. rw h (split (header_in code == 2) (λ g. rw g (payload_fits code)) (λ g. rw g bad_fits)))

unscrambled_fits : (key : ℕ) → key < 2 ^ 64 → (word : RxWord) → Fits word → Fits (unscrambled key word)
unscrambled_fits key low (Data x) h = xor_lt 64 x key h low
unscrambled_fits key low (Control x) h = xor_lt 64 x key h low
unscrambled_fits key low Bad h = h

as_role_fits : (role : Role) (key : ℕ) → key < 2 ^ 64 → (word : RxWord) → Fits word → Fits (unscrambled_as role key word)
as_role_fits roles.Sync key low word h = h
as_role_fits roles.State key low word h = h
as_role_fits roles.Skip key low word h = unscrambled_fits key low word h
as_role_fits (roles.Payload n) key low word h = unscrambled_fits key low word h
as_role_fits roles.Diagnostic key low word h = unscrambled_fits key low word h

received_fits : (s : Settings) (bits : List Bool) (at r : ℕ) → Fits (received_at s bits at r)
received_fits s bits at r =
    as_role_fits (role_of s (r % s.metaframe)) (key_word (loaded bits at) (key_place s.metaframe r)) (key_word-below (loaded bits at) (key_place s.metaframe r)) _ (code_fits (code_at bits (at + 67 * r)))

-- ---- the words of a lane's lock

abbrev TrackFits : Track → Type 0
TrackFits track = (i : ℕ) → Fits (get_or track.words i Bad)

covered_fit : (s : Settings) (bits : List Bool) (at : ℕ) (numbers : List ℕ) (i : ℕ) → Fits (get_or (map (received_at s bits at) numbers) i Bad)
covered_fit s bits at [] i = bad_fits
covered_fit s bits at (r ∷ numbers) zero = received_fits s bits at r
covered_fit s bits at (r ∷ numbers) (suc i) = covered_fit s bits at numbers i

known_fits : (s : Settings) (bits : List Bool) (locks : List Lock) (x : Track) → Contains (map (track_of s bits) locks) x → TrackFits x
known_fits s bits [] x (k, lt, e) = absurd (omega arith)
known_fits s bits (lock ∷ locks) x (zero, lt, e) = subst TrackFits e (covered_fit s bits lock.at (range_with_len 0 lock.count))
known_fits s bits (lock ∷ locks) x (suc k, lt, e) = known_fits s bits locks x (k, omega arith, e)

-- ---- a group

abbrev GroupFits : List SyncAt → Type 0
GroupFits [] = Unit {0}
GroupFits (x ∷ group) = TrackFits x.track × GroupFits group

syncs_fit : (s : Settings) (clock : ℕ) (fed : List Fed) (received : List (HasAttempts s.metaframe)) (group : List SyncAt) → SyncsOf s.metaframe (tracks_in (lanes_at s clock fed received)) group → GroupFits group
syncs_fit s clock [] received [] h = tt
syncs_fit s clock [] received (x ∷ group) h = absurd h
syncs_fit s clock (lane ∷ fed) [] [] h = tt
syncs_fit s clock (lane ∷ fed) [] (x ∷ group) h = absurd h
syncs_fit s clock (lane ∷ fed) (bits ∷ received) [] h = absurd h
syncs_fit s clock (lane ∷ fed) (bits ∷ received) (x ∷ group) h = (known_fits s bits.bits _ x.track h.0.known, syncs_fit s clock fed received group h.1)

moved_fits : (n : ℕ) (group : List SyncAt) → GroupFits group → GroupFits (moved n group)
moved_fits n [] h = tt
moved_fits n (x ∷ group) h = (h.0, moved_fits n group h.1)

sync_fits : (group : List SyncAt) → GroupFits group → (k : ℕ) → TrackFits (get_or group k no_sync).track
sync_fits [] h k = λ i. bad_fits
sync_fits (x ∷ group) h zero = h.0
sync_fits (x ∷ group) h (suc k) = sync_fits group h.1 k

-- ---- items

abbrev ItemsFit : List Aligned → Type 0
ItemsFit [] = Unit {0}
ItemsFit (Group at ∷ items) = ItemsFit items
ItemsFit (Word at word ∷ items) = Fits word × ItemsFit items
ItemsFit (Break at why ∷ items) = ItemsFit items

items_append : (xs ys : List Aligned) → ItemsFit xs → ItemsFit ys → ItemsFit (xs ++ ys)
items_append [] ys h k = k
items_append (Group at ∷ xs) ys h k = items_append xs ys h k
items_append (Word at word ∷ xs) ys h k = (h.0, items_append xs ys h.1 k)
items_append (Break at why ∷ xs) ys h k = items_append xs ys h k

words_of_group : (s : Settings) (group : List SyncAt) → GroupFits group → (numbers : List ℕ) → ItemsFit (map word_item (map (placed_word s group) numbers))
words_of_group s group h [] = tt
words_of_group s group h (w ∷ numbers) = (sync_fits group h (w % length group) ((sync_for group w).word + behind_for s group w), words_of_group s group h numbers)

group_fits : (s : Settings) (group : List SyncAt) (count : ℕ) → GroupFits group → ItemsFit (items_of_group s group count)
group_fits s group count h = words_of_group s group h (range_with_len 0 count)

groups_fit : (s : Settings) (first : List SyncAt) → GroupFits first → (count : ℕ) (numbers : List ℕ) → ItemsFit (flat_map (λ m. items_of_group s (metaframes_on s m first) count) numbers)
groups_fit s first h count [] = tt
groups_fit s first h count (m ∷ numbers) =
    items_append (items_of_group s (metaframes_on s m first) count) (flat_map (λ m. items_of_group s (metaframes_on s m first) count) numbers)
    (group_fits s (metaframes_on s m first) count (moved_fits (m * s.metaframe) first h)) (groups_fit s first h count numbers)

epoch_fits : (s : Settings) (e : EpochSoFar) → GroupFits e.first → ItemsFit (items_of_epoch s e)
epoch_fits s e h =
    items_append (flat_map (λ m. items_of_group s (metaframes_on s m e.first) (size_of s e.first)) (range_with_len 0 e.whole)) (items_of_group s (last_group s e) e.count)
    (groups_fit s e.first h (size_of s e.first) (range_with_len 0 e.whole)) (group_fits s (last_group s e) e.count (moved_fits (e.whole * s.metaframe) e.first h))

module _ (s : Settings) (clock : ℕ) (fed : List Fed) (received : List (HasAttempts s.metaframe)) where
  abbrev lanes : List LaneSoFar
  lanes = lanes_at s clock fed received

  ending_fits : (e : EpochSoFar) → ItemsFit (ending_of s lanes e)
  ending_fits e = split (is_waiting s lanes e) (λ h. rw h tt) (λ h. rw h tt)

  epochs_fit : (before : Option ℕ) (epochs : List EpochSoFar) → EpochsSoFar s s.deskew lanes before epochs → ItemsFit (items_of s lanes epochs)
  epochs_fit before [] h = tt
  epochs_fit before (e ∷ rest) h =
      items_append (items_of_epoch s e ++ ending_of s lanes e) (items_of s lanes rest)
      (items_append (items_of_epoch s e) (ending_of s lanes e) (epoch_fits s e (syncs_fit s clock fed received e.first h.0.is.syncs)) (ending_fits e))
      (elim h.2 [ inl waiting ↦ subst (λ (es : List EpochSoFar). ItemsFit (items_of s lanes es)) (sym waiting.1) tt | inr over ↦ epochs_fit (Some (name_of (last_group s e))) rest over.1 ])

items_fit : (s : Settings) (clock : ℕ) (fed : List Fed) (items : List Aligned) → AreItems s clock fed items → ItemsFit items
items_fit s clock fed items h = subst ItemsFit (sym h.are.shown) (epochs_fit s clock fed h.received None h.are.epochs h.are.are)

-- ---- the words that are gathered

between_fits : (broken : Bool) → All Fits (between broken)
between_fits false = λ k d lt. absurd (omega arith)
between_fits true = λ k d lt. let e : k ≡ 0 = omega arith in rw e bad_fits

words_fit : (broken : Bool) (items : List Aligned) → ItemsFit items → All Fits (words_after broken items)
words_fit broken [] h = λ k d lt. absurd (omega arith)
words_fit broken (Group at ∷ items) h = All-append Fits (between broken) (words_after false items) (between_fits broken) (words_fit false items h)
words_fit broken (Word at word ∷ items) h =
    All-append Fits (between broken) (word ∷ words_after false items) (between_fits broken)
    (All-append Fits (word ∷ []) (words_after false items) (λ k d lt. let e : k ≡ 0 = omega arith in rw e h.0) (words_fit false items h.1))
words_fit broken (Break at why ∷ items) h = All-append Fits (between broken) (words_after true items) (between_fits broken) (words_fit true items h)

-- of the items of lanes
pub gathered_fit : (s : Settings) (clock : ℕ) (fed : List Fed) (items : List Aligned) → AreItems s clock fed items → All (λ word. number_of word < 2 ^ 64) (words_after false items)
gathered_fit s clock fed items h = words_fit false items (items_fit s clock fed items h)
