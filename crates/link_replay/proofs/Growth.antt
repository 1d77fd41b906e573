-- A group of lanes so far is one of the whole lanes, with its Syncs at the same places.
use Rattle.std.proofs.Common.{ℕ, ◌≡◌, refl, sym, ap, ap₂, ◌∙◌, subst, ◌+◌, ◌*◌, List, [], ◌∷◌, ◌++◌, append-nil, append_assoc, length, map}
use Rattle.std.specs.List.{range_with_len}
use Rattle.std.proofs.lemmas.List.Sums.{fold-append}
use Rattle.lk_base.specs.Link.{Settings, IsLink}
use Rattle.lock_model.specs.declared.types.LaneStep.{LaneStep}
use Rattle.lock_model.specs.Tracks.{Track, grown, shown_tracks}
use Rattle.epoch_model.specs.Groups.{AreNear, SyncAt, IsSyncOf, SyncsOf, Within, place}
use Rattle.epoch_model.specs.GroupLaw.{HasAttempts, tracks_received}
use Rattle.epoch_model.specs.SoFar.{LaneSoFar, tracks_in}
use Rattle.deskew.specs.Ticks.{AreLaneSteps, lane_shown}
use Rattle.deskew.proofs.Growing.{sync_grows}
use Rattle.deskew.proofs.Onward.{head_places}
use Rattle.deskew.proofs.Shorter.{lane_shorter}
use Rattle.deskew.proofs.Stepped.{step_fits}
use Rattle.link_laws.specs.Received.{whole_lane}
use Rattle.link_replay.specs.Standing.{ArePlaces}

-- a Sync of the first steps of a lane is one of all its steps
record Later (L : ℕ) (x : SyncAt) (tracks : List Track) : Type 0 where
  sync : SyncAt
  is : IsSyncOf L tracks sync
  at : place sync ≡ place x

later : (s : Settings) (xs ys : List LaneStep) (x : SyncAt) → IsLink s → AreLaneSteps s (xs ++ ys) → IsSyncOf s.metaframe (shown_tracks xs) x → Later s.metaframe x (shown_tracks (xs ++ ys))
later s xs [] x link are is = record { sync = x; is = subst (λ (zs : List LaneStep). IsSyncOf s.metaframe (shown_tracks zs) x) (sym (append-nil xs)) is; at = refl }
later s xs (z ∷ ys) x link are is =
    let all : (xs ++ z ∷ []) ++ ys ≡ xs ++ (z ∷ ys) = append_assoc xs (z ∷ []) ys in
    let are_so : AreLaneSteps s ((xs ++ z ∷ []) ++ ys) = subst (λ (zs : List LaneStep). AreLaneSteps s zs) (sym all) are in
    let fits = step_fits s xs z link (lane_shorter s (xs ++ z ∷ []) ys are_so) in
    let here = sync_grows s.metaframe (length xs) (lane_shown xs) z x fits is in
    let more : grown (shown_tracks xs) z ≡ shown_tracks (xs ++ z ∷ []) = sym (fold-append grown [] xs (z ∷ [])) in
    let rest = later s (xs ++ z ∷ []) ys here.0 link are_so (subst (λ (ts : List Track). IsSyncOf s.metaframe ts here.0) more here.1) in
    record { sync = rest.sync; is = subst (λ (zs : List LaneStep). IsSyncOf s.metaframe (shown_tracks zs) rest.sync) all rest.is; at = rest.at ∙ here.2.at }

-- these are the first steps of a whole lane
pub record Begins (s : Settings) (given : List LaneStep) (lane : HasAttempts s.metaframe) : Type 0 where
  pub more : List LaneStep
  pub are : AreLaneSteps s (given ++ more)
  pub shown : shown_tracks (given ++ more) ≡ tracks_received s lane

-- those of the lanes from number i on
abbrev pub AllBegin : (s : Settings) → (ℕ → List LaneStep) → ℕ → List (HasAttempts s.metaframe) → Type 0
AllBegin s given i [] = Unit {0}
AllBegin s given i (lane ∷ all) = Begins s (given i) lane × AllBegin s given (i + 1) all

record Whole (s : Settings) (all : List (HasAttempts s.metaframe)) (group : List SyncAt) : Type 0 where
  syncs : List SyncAt
  are : SyncsOf s.metaframe (tracks_in (map (whole_lane s) all)) syncs
  at : map place syncs ≡ map place group

whole : (s : Settings) (given : ℕ → List LaneStep) (i : ℕ) (all : List (HasAttempts s.metaframe)) (group : List SyncAt) → IsLink s → AllBegin s given i all →
    SyncsOf s.metaframe (tracks_in (map (λ k. lane_shown (given k)) (range_with_len i (length all)))) group → Whole s all group
whole s given i [] [] link b g = record { syncs = []; are = tt; at = refl }
whole s given i [] (x ∷ group) link b g = absurd g
whole s given i (lane ∷ all) [] link b g = absurd g
whole s given i (lane ∷ all) (x ∷ group) link b g =
    let here = later s (given i) b.0.more x link b.0.are g.0 in
    let rest = whole s given (i + 1) all group link b.1 g.1 in
    record {
      syncs = here.sync ∷ rest.syncs;
      are = (subst (λ (ts : List Track). IsSyncOf s.metaframe ts here.sync) b.0.shown here.is, rest.are);
      at = ap₂ (λ p ps. p ∷ ps) here.at rest.at;
    }

-- how near they are shows in their places
near_places : (low count : ℕ) (xs ys : List SyncAt) → map place ys ≡ map place xs → Within low count xs → Within low count ys
near_places low count xs ys e w = (let P : List ℕ → Type 0 = λ ps. AreNear low count ps in subst P (sym e) w)

pub whole_places : (s : Settings) (given : ℕ → List LaneStep) (all : List (HasAttempts s.metaframe)) (name : ℕ) (starts : List ℕ) → IsLink s → length all ≡ s.lanes → AllBegin s given 0 all →
    ArePlaces s (map (λ k. lane_shown (given k)) (range_with_len 0 s.lanes)) name starts → ArePlaces s (map (whole_lane s) all) name starts
whole_places s given all name starts link n b p =
    let lanes : map (λ k. lane_shown (given k)) (range_with_len 0 s.lanes) ≡ map (λ k. lane_shown (given k)) (range_with_len 0 (length all)) =
    ap (λ m. map (λ k. lane_shown (given k)) (range_with_len 0 m)) (sym n) in
    let w = whole s given 0 all p.group link b (subst (λ (ls : List LaneSoFar). SyncsOf s.metaframe (tracks_in ls) p.group) lanes p.is.syncs) in
    let are : map place w.syncs ≡ starts = w.at ∙ p.are in
    record {
      group = w.syncs;
      is = record { syncs = w.are; low = p.is.low; near = near_places p.is.low (67 * s.deskew) p.group w.syncs w.at p.is.near };
      name_is = sym (head_places w.syncs starts are) ∙ head_places p.group starts p.are ∙ p.name_is;
      are = are;
    }
