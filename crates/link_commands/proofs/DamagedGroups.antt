-- What is received of two lanes of a stream of six groups, of which one bit is inverted: three groups, in one epoch.
use Rattle.std.proofs.Common.{ℕ, zero, suc, ◌≡◌, ◌<◌, ◌+◌, ◌*◌, ◌/◌, ◌%◌, inl, inr, refl, sym, ap, ap₂, ◌∙◌, subst, true, List, [], ◌∷◌, length, map, arith, lit<, lit≤, Contains, Some, None}
use Rattle.std.proofs.lemmas.Bool.{ltb-true}
use Rattle.std.proofs.lemmas.Simd.{map-map}
use Rattle.lk_base.specs.Checksum.{bits_of_bytes}
use Rattle.lk_base.specs.Link.{group_of}
use Rattle.lk_base.specs.declared.word.Word.{Word}
use Rattle.lk_base.proofs.Lists.{contains_none, contains_cons}
use Rattle.stream_model.specs.BurstStream.{Source, IsBurstStream}
use Rattle.lock_model.specs.Tracks.{Track}
use Rattle.receive_model.specs.Positions.{Epoch}
use Rattle.receive_model.specs.Events.{events}
use Rattle.epoch_model.specs.Groups.{IsGroup, IsBehind, IsNextGroup, SyncAt, goes_on, is_there, metaframes_on, name_of}
use Rattle.epoch_model.specs.GroupLaw.{HasAttempts, tracks_received}
use Rattle.epoch_model.specs.SoFar.{EpochsSoFar, GoesAsFar, LaneSoFar, last_group}
use Rattle.epoch_model.proofs.Ranges.{all_range-true}
use Rattle.link_laws.specs.Accidents.{accidents_in, no_accidents}
use Rattle.link_laws.specs.PremisesMet.{channel_1, two_lanes}
use Rattle.link_laws.specs.Received.{AreGrouped, AreReceived, bits_of_lanes, whole_lane}
use Rattle.link_laws.proofs.OfBits.{epochs_determined, grouped_epochs, grouped_same}
use Rattle.link_plan.specs.Listing.{channels_in_order}
use Rattle.run_shell.specs.Outcome.{Outcome}
use Rattle.receipts.proofs.Settings.{plan_setting}
use Rattle.link_commands.specs.DamagedMet.{damaged_epoch_of, flipped_reading, locks_of, over_lanes_of, three_groups_of, whole_lock_of}
use Rattle.link_commands.specs.Delivery.{LosesNoLock}
use Rattle.link_commands.specs.Linked.{IsLinkedBy, sent_over}
use Rattle.link_commands.specs.PremisesMet.{skewed_plan}
use Rattle.link_commands.proofs.CleanRuns.{reports_kept}
use Rattle.link_commands.proofs.DamagedLocks.{have_locks}
use Rattle.link_commands.proofs.Delivers.{what_comes}

-- ---- groups of these locks

only : (one x : Track) → Contains (one ∷ []) x → one ≡ x
only one x c = elim (contains_cons one x [] c) [ inl e ↦ sym e | inr later ↦ absurd (contains_none x later) ]

module _ (w : List Word) where
  -- each is named by a Sync of lane 0's lock
  named : (group : List SyncAt) → IsGroup 32 7 (locks_of w) group → (word : ℕ) × (name_of group ≡ 6901 + 67 * word) × (word % 32 ≡ 0) × (word < 96)
  named [] is = absurd is.syncs
  named (x ∷ group) is =
      let one : whole_lock_of w ≡ x.track = only (whole_lock_of w) x.track is.syncs.0.known in
      let at : x.track.at ≡ 6901 = sym (ap (λ (t : Track). t.at) one) in
      let many : length x.track.words ≡ 96 = sym (ap (λ (t : Track). length t.words) one) in
      let covered : x.word + 0 < length x.track.words = ltb-true (x.word + 0) (length x.track.words) is.syncs.0.covered in
      (x.word, ap (λ n. n + 67 * x.word) at, is.syncs.0.framing, omega (arith, many, covered))

  first_group : IsNextGroup 32 7 (locks_of w) None (three_groups_of w).first
  first_group = record {
    is = record {
      syncs = (record { known = (0, omega arith, refl); framing = refl; covered = refl }, (record { known = (0, omega arith, refl); framing = refl; covered = refl }, tt));
      low = 6901;
      near = (lit≤ tt, lit≤ tt, (lit≤ tt, lit≤ tt, tt));
    };
    behind = tt;
    least = λ other is behind. (let (word, name, framing, below) = named other is in let base : name_of (three_groups_of w).first ≡ 6901 = refl in omega (arith, name, base));
  }

  -- ---- how far they go

  goes_before : (m : ℕ) → m < 2 → goes_on two_lanes (metaframes_on two_lanes m (three_groups_of w).first) ≡ true
  goes_before zero lt = refl
  goes_before (suc zero) lt = refl
  goes_before (suc (suc m)) lt = absurd (omega arith)

  all_there : (n : ℕ) → n < 56 → is_there two_lanes (last_group two_lanes (three_groups_of w)) n ≡ true
  all_there n lt = all_range-true (is_there two_lanes (last_group two_lanes (three_groups_of w))) 0 56 n refl (omega arith) (omega (arith, lt))

  as_far : GoesAsFar two_lanes (three_groups_of w)
  as_far = record {
    ends = (refl, λ m lt none. (let more = goes_before m lt in cc));
    lacks = (inl refl, λ n lt lacks. elim lacks [ inl e ↦ omega (arith, e, lt) | inr none ↦ (let there = all_there n lt in cc) ]);
  }

  none_behind : (group : List SyncAt) → IsGroup 32 7 (locks_of w) group → IsBehind (Some 11189) (name_of group) → ⊥
  none_behind group is behind = let (word, name, framing, below) = named group is in omega (arith, name, framing, below, behind)

  pub grouped : EpochsSoFar two_lanes two_lanes.deskew (over_lanes_of w) None (three_groups_of w ∷ [])
  grouped = (first_group, as_far, inr (refl, λ group is behind. none_behind group is behind))

-- ---- what is received, whatever packets the plan has

module _ (packets : List (ℕ × List ℕ)) (source : Source) (w : List Word) (stream : IsBurstStream source w) (six : length w / group_of two_lanes ≡ 6) (o : Outcome) (h : IsLinkedBy (flipped_reading packets) w o) where
  pub locked : (lanes : List (HasAttempts 32)) → bits_of_lanes lanes ≡ map bits_of_bytes h.over.lanes → map (tracks_received two_lanes) lanes ≡ locks_of w
  locked lanes e = (have_locks source w stream six h.over.lanes lanes h.over.are_lanes e).0

  abbrev over_lane : List Track → LaneSoFar
  over_lane tracks = record { tracks = tracks; over = true }

  -- the lanes of the accidents
  whole : map (whole_lane two_lanes) h.are_counts.lanes ≡ over_lanes_of w
  whole =
      sym (map-map over_lane (tracks_received two_lanes) h.are_counts.lanes) ∙ ap (map over_lane) (locked h.are_counts.lanes h.are_counts.bits)

  its_groups : AreGrouped two_lanes h.are_counts.lanes (three_groups_of w ∷ [])
  its_groups = subst (λ (lanes : List LaneSoFar). EpochsSoFar two_lanes two_lanes.deskew lanes None (three_groups_of w ∷ [])) (sym whole) (grouped w)

  pub none_there : accidents_in (sent_over (flipped_reading packets) w) (locks_of w) (three_groups_of w ∷ []) ≡ no_accidents → h.counts ≡ no_accidents
  none_there none =
      h.are_counts.counted
      ∙ ap₂ (accidents_in (sent_over (flipped_reading packets) w)) (locked h.are_counts.lanes h.are_counts.bits)
      (grouped_same two_lanes h.are_counts.lanes h.are_counts.lanes h.are_counts.epochs (three_groups_of w ∷ []) (lit< tt) refl h.are_counts.are its_groups)
      ∙ none

  pub one_epoch : (all : List Epoch) → AreReceived two_lanes (map bits_of_bytes h.over.lanes) all → all ≡ damaged_epoch_of w ∷ []
  one_epoch all are =
      epochs_determined two_lanes (map bits_of_bytes h.over.lanes) all (damaged_epoch_of w ∷ []) (lit< tt) are
      (record { lanes = h.are_counts.lanes; bits = h.are_counts.bits; are = grouped_epochs two_lanes h.are_counts.lanes (three_groups_of w ∷ []) its_groups })

  pub lose_none : LosesNoLock h.reports
  lose_none = reports_kept two_lanes h.over.lanes h.reports h.are_counts.lanes h.are_counts.bits h.are_reports (have_locks source w stream six h.over.lanes h.are_counts.lanes h.over.are_lanes h.are_counts.bits).1

  pub setting_is : h.setting ≡ channel_1
  unfolding channels_in_order
  setting_is = plan_setting skewed_plan h.setting channel_1 h.is_setting (record { channels = refl; max_packet = refl; wide = refl })

  pub events_are : h.events ≡ events channel_1 (damaged_epoch_of w ∷ [])
  events_are = h.are_events.shown ∙ ap₂ events setting_is (one_epoch h.are_events.epochs (what_comes (flipped_reading packets) w o h))
