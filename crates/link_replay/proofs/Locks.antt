-- The locks that are declared, and the strange ones that are counted.
use Rattle.std.proofs.Common.{ℕ, zero, suc, ◌≡◌, refl, sym, ap, ap₂, ◌∙◌, subst, ◌+◌, ◌*◌, ◌<◌, ◌≤◌, ◌^◌, not, Bool, Option, Some, None, List, [], ◌∷◌, ◌++◌, append-nil, append_assoc, length, map, filter, fold, get_or, All, arith, inl, inr}
use Rattle.std.specs.List.{cons_option}
use Rattle.std.proofs.lemmas.Bool.{cases_Bool}
use Rattle.std.proofs.lemmas.List.{length-append, length-map, map-append}
use Rattle.lk_base.specs.Link.{Settings, IsLink}
use Rattle.lk_base.specs.declared.word.RxWord.{RxWord}
use Rattle.lock_model.specs.declared.types.LaneStep.{LaneStep}
use Rattle.lock_model.specs.declared.types.LaneStep.TheVariants as steps
use Rattle.lock_model.specs.Tracks.{Track, grown, shown_tracks, with_loss, with_word}
use Rattle.receive_model.proofs.Cuts.{split}
use Rattle.receive_model.proofs.Ends.{filter-append}
use Rattle.deskew.specs.Stands.{last_track}
use Rattle.deskew.specs.Ticks.{AreLaneSteps, lane_shown}
use Rattle.deskew.proofs.Clock.{OnClock, Ordered}
use Rattle.deskew.proofs.Stepped.{on_clock}
use Rattle.rx_front.specs.Locks.{lock_of, locks_in}
use Rattle.link_replay.specs.Lanes.{AllCounted, AreNoted, HaveFew, WatchedLane, is_sent_at, noted, strange_positions, strange_sum}
use Rattle.link_replay.specs.Standing.{skews_of}
use Rattle.link_replay.proofs.Stepping.{FirstMade}

-- ---- the locks of steps are those of their tracks

ats-word : (w : RxWord) (tracks : List Track) → map (λ (x : Track). x.at) (with_word w tracks) ≡ map (λ (x : Track). x.at) tracks
ats-word w [] = refl
ats-word w (x ∷ []) = refl
ats-word w (x ∷ y ∷ rest) = ap (λ ns. x.at ∷ ns) (ats-word w (y ∷ rest))

ats-loss : (tracks : List Track) → map (λ (x : Track). x.at) (with_loss tracks) ≡ map (λ (x : Track). x.at) tracks
ats-loss [] = refl
ats-loss (x ∷ []) = refl
ats-loss (x ∷ y ∷ rest) = ap (λ ns. x.at ∷ ns) (ats-loss (y ∷ rest))

ats-grown : (x : LaneStep) (tracks : List Track) → map (λ (t : Track). t.at) (grown tracks x) ≡ map (λ (t : Track). t.at) tracks ++ cons_option (lock_of x) []
ats-grown steps.Nothing tracks = sym (append-nil (map (λ (t : Track). t.at) tracks))
ats-grown steps.Ended tracks = sym (append-nil (map (λ (t : Track). t.at) tracks))
ats-grown (steps.Word w role at) tracks = ats-word w tracks ∙ sym (append-nil (map (λ (t : Track). t.at) tracks))
ats-grown (steps.Lost why at) tracks = ats-loss tracks ∙ sym (append-nil (map (λ (t : Track). t.at) tracks))
ats-grown (steps.Locked at) tracks = map-append (λ (t : Track). t.at) tracks _

cons-option : (o : Option ℕ) (xs : List ℕ) → cons_option o [] ++ xs ≡ cons_option o xs
cons-option None xs = refl
cons-option (Some x) xs = refl

ats-all : (own : List LaneStep) (tracks : List Track) → map (λ (t : Track). t.at) (fold grown tracks own) ≡ map (λ (t : Track). t.at) tracks ++ locks_in own
ats-all [] tracks = sym (append-nil (map (λ (t : Track). t.at) tracks))
ats-all (x ∷ own) tracks =
    ats-all own (grown tracks x)
    ∙ ap (λ ns. ns ++ locks_in own) (ats-grown x tracks)
    ∙ append_assoc (map (λ (t : Track). t.at) tracks) (cons_option (lock_of x) []) (locks_in own)
    ∙ ap (λ ns. map (λ (t : Track). t.at) tracks ++ ns) (cons-option (lock_of x) (locks_in own))

pub track_locks : (own : List LaneStep) → map (λ (t : Track). t.at) (shown_tracks own) ≡ locks_in own
track_locks own = ats-all own []

-- ---- they are few, since they stand apart

few_tracks : (L : ℕ) (t : Track) (rest : List Track) → Ordered L (t ∷ rest) → t.at + 67 * length (t ∷ rest) ≤ (last_track (t ∷ rest)).at + 67 * length (last_track (t ∷ rest)).words
few_tracks L t [] o = omega (arith, o)
few_tracks L t (u ∷ rest) o =
    let more = few_tracks L u rest o.3 in
    let a = o.0 in
    let b = o.2 in
    omega (arith, more, a, b)

all_few : (L n : ℕ) (tracks : List Track) → Ordered L tracks → (last_track tracks).at + 67 * length (last_track tracks).words ≤ n → 67 * length tracks ≤ n
all_few L n [] o came = omega arith
all_few L n (t ∷ rest) o came = (let f = few_tracks L t rest o in omega (arith, f, came))

pub few_locks : (s : Settings) (own : List LaneStep) → IsLink s → AreLaneSteps s own → 67 * length (locks_in own) ≤ length own
few_locks s own link are =
    let on : OnClock s.metaframe (length own) (lane_shown own) = on_clock s own link are in
    let few = all_few s.metaframe (length own) (shown_tracks own) on.ordered on.came in
    let n : length (locks_in own) ≡ length (shown_tracks own) = sym (ap length (track_locks own)) ∙ length-map (shown_tracks own) (λ (t : Track). t.at) in
    omega (arith, few, n)

-- ---- the strange ones

fewer : {A : Type 0} (p : A → Bool) (xs : List A) → length (filter p xs) ≤ length xs
fewer p [] = omega arith
fewer p (x ∷ xs) = (let rest = fewer p xs in elim (cases_Bool (p x)) [ inl h ↦ rw h (omega (arith, rest)) | inr h ↦ rw h (omega (arith, rest)) ])

-- of the locks of tracks
pub strange-tracks : (L made skew : ℕ) (tracks : List Track) →
    length (filter (λ (x : Track). not (is_sent_at L made skew x.at)) tracks) ≡ length (strange_positions L made skew (map (λ (t : Track). t.at) tracks))
strange-tracks L made skew [] = refl
strange-tracks L made skew (x ∷ rest) = split (not (is_sent_at L made skew x.at)) (λ h. rw h (ap suc (strange-tracks L made skew rest))) (λ h. rw h (strange-tracks L made skew rest))

-- the lanes from number i on, each with its lock more
abbrev NotedFrom : ℕ → ℕ → (ℕ → Option ℕ) → ℕ → List WatchedLane → List WatchedLane → Type 0
NotedFrom L made declared i lanes now = (j : ℕ) (v : WatchedLane) → j < length lanes → get_or now j v ≡ noted L made (declared (i + j)) (get_or lanes j v)

noted_on : (L made : ℕ) (declared : ℕ → Option ℕ) (i : ℕ) (v w : WatchedLane) (lanes now : List WatchedLane) → NotedFrom L made declared i (v ∷ lanes) (w ∷ now) → NotedFrom L made declared (i + 1) lanes now
noted_on L made declared i v w lanes now h j u lt =
    let e : i + suc j ≡ i + 1 + j = omega arith in
    h (suc j) u (omega (arith, lt)) ∙ ap (λ (k : ℕ). noted L made (declared k) (get_or lanes j u)) e

first_noted : (L made : ℕ) (declared : ℕ → Option ℕ) (i : ℕ) (v w : WatchedLane) (lanes now : List WatchedLane) → NotedFrom L made declared i (v ∷ lanes) (w ∷ now) → w ≡ noted L made (declared i) v
first_noted L made declared i v w lanes now h = (let e : i + 0 ≡ i = omega arith in h 0 v (omega arith) ∙ ap (λ (k : ℕ). noted L made (declared k) v) e)

strange_more : (L made skew : ℕ) (xs ys : List ℕ) → length (strange_positions L made skew (xs ++ ys)) ≡ length (strange_positions L made skew xs) + length (strange_positions L made skew ys)
strange_more L made skew xs ys =
    let test : ℕ → Bool = λ at. not (is_sent_at L made skew at) in
    ap length (filter-append test xs ys) ∙ length-append (strange_positions L made skew xs) (strange_positions L made skew ys)

counted_on : (L made : ℕ) (declared : ℕ → Option ℕ) (before later : ℕ → List ℕ) (i : ℕ) (lanes now : List WatchedLane) → length now ≡ length lanes → NotedFrom L made declared i lanes now →
    ((k : ℕ) → later k ≡ before k ++ cons_option (declared k) []) → AllCounted L made before i lanes → AllCounted L made later i now
counted_on L made declared before later i [] [] n h g c = tt
counted_on L made declared before later i [] (w ∷ now) n h g c = absurd (omega (arith, n))
counted_on L made declared before later i (v ∷ lanes) [] n h g c = absurd (omega (arith, n))
counted_on L made declared before later i (v ∷ lanes) (w ∷ now) n h g c = (
  (let P : WatchedLane → Type 0 = λ x. x.strange ≡ length (strange_positions L made x.skew (later i)) in
      subst P (sym (first_noted L made declared i v w lanes now h))
      (ap (λ k. k + length (strange_positions L made v.skew (cons_option (declared i) []))) c.0
      ∙ sym (ap (λ xs. length (strange_positions L made v.skew xs)) (g i) ∙ strange_more L made v.skew (before i) (cons_option (declared i) [])))),
  counted_on L made declared before later (i + 1) lanes now (omega (arith, n)) (noted_on L made declared i v w lanes now h) g c.1,
)

skews_kept : (L made : ℕ) (declared : ℕ → Option ℕ) (i : ℕ) (lanes now : List WatchedLane) → length now ≡ length lanes → NotedFrom L made declared i lanes now → skews_of now ≡ skews_of lanes
skews_kept L made declared i [] [] n h = refl
skews_kept L made declared i [] (w ∷ now) n h = absurd (omega (arith, n))
skews_kept L made declared i (v ∷ lanes) [] n h = absurd (omega (arith, n))
skews_kept L made declared i (v ∷ lanes) (w ∷ now) n h =
    ap₂ (λ k ks. k ∷ ks) (ap (λ (x : WatchedLane). x.skew) (first_noted L made declared i v w lanes now h)) (skews_kept L made declared (i + 1) lanes now (omega (arith, n)) (noted_on L made declared i v w lanes now h))

module _ (L made : ℕ) (declared : ℕ → Option ℕ) (lanes now : List WatchedLane) (a : AreNoted L made declared lanes now) where
  from_first : NotedFrom L made declared 0 lanes now
  from_first j v lt = (let e : j ≡ 0 + j = omega arith in a.each j v lt ∙ ap (λ (k : ℕ). noted L made (declared k) (get_or lanes j v)) e)

  pub noted_skews : skews_of now ≡ skews_of lanes
  noted_skews = skews_kept L made declared 0 lanes now a.count from_first

  pub noted_counted : (before later : ℕ → List ℕ) → ((k : ℕ) → later k ≡ before k ++ cons_option (declared k) []) → AllCounted L made before 0 lanes → AllCounted L made later 0 now
  noted_counted before later g c = counted_on L made declared before later 0 lanes now a.count from_first g c

-- where the locks are few
pub counts_few : (L made n : ℕ) (locks : ℕ → List ℕ) (i : ℕ) (lanes : List WatchedLane) → n < 67 * 2 ^ 60 → ((k : ℕ) → i ≤ k → k < i + length lanes → 67 * length (locks k) ≤ n) → AllCounted L made locks i lanes → HaveFew lanes
counts_few L made n locks i [] small few c = λ k d lt. absurd (omega (arith, lt))
counts_few L made n locks i (v ∷ lanes) small few c = cons (counts_few L made n locks (i + 1) lanes small (λ k a b. few k (omega (arith, a)) (omega (arith, b))) c.1)
  where
    here : v.strange < 2 ^ 60
    here =
        let f = few i (omega arith) (omega arith) in
        let g = fewer (λ at. not (is_sent_at L made v.skew at)) (locks i) in
        let e = c.0 in
        omega (arith, f, g, e, small)

    cons : HaveFew lanes → HaveFew (v ∷ lanes)
    cons rest zero d lt = here
    cons rest (suc k) d lt = rest k d (omega (arith, lt))

pub sum_few : (L made n : ℕ) (locks : ℕ → List ℕ) (i : ℕ) (lanes : List WatchedLane) → ((k : ℕ) → i ≤ k → k < i + length lanes → 67 * length (locks k) ≤ n) → AllCounted L made locks i lanes →
    67 * strange_sum lanes ≤ length lanes * n
sum_few L made n locks i [] few c = omega arith
sum_few L made n locks i (v ∷ lanes) few c =
    let f = few i (omega arith) (omega arith) in
    let g = fewer (λ at. not (is_sent_at L made v.skew at)) (locks i) in
    let h = c.0 in
    let rest = sum_few L made n locks (i + 1) lanes (λ k a b. few k (omega (arith, a)) (omega (arith, b))) c.1 in
    let e : suc (length lanes) * n ≡ length lanes * n + n = omega arith in
    omega (arith, f, g, h, rest, e)

-- no lock was declared
pub none_counted : (L made : ℕ) (locks : ℕ → List ℕ) (i : ℕ) (lanes : List WatchedLane) → ((k : ℕ) → locks k ≡ []) → All (λ v. v.strange ≡ 0) lanes → AllCounted L made locks i lanes
none_counted L made locks i [] none h = tt
none_counted L made locks i (v ∷ lanes) none h =
    (h 0 v (omega arith) ∙ sym (ap (λ ns. length (strange_positions L made v.skew ns)) (none i)), none_counted L made locks (i + 1) lanes none (λ k d lt. h (suc k) d (omega (arith, lt))))

-- ---- one lane after the other

-- lane number i with its lock more
abbrev pub IsNoted : ℕ → ℕ → (ℕ → Option ℕ) → ℕ → WatchedLane → WatchedLane → Type 0
IsNoted L made declared i v w = w ≡ noted L made (declared i) v

pub all_noted : (L made : ℕ) (declared : ℕ → Option ℕ) (i : ℕ) (before later : List WatchedLane) → length before ≤ i → FirstMade (IsNoted L made declared) i before later → AreNoted L made declared before later
all_noted L made declared i before later le h = record { count = h.count; each = λ j v lt. h.made j v (omega (arith, le, lt)) lt }
