-- A counter is told what a front shows.
use Rattle.std.proofs.Common.{ℕ, ◌≡◌, refl, sym, ap, ◌∙◌, subst, ◌+◌, ◌*◌, ◌^◌, ◌<◌, ◌≤◌, Bool, true, false, List, [], ◌∷◌, ◌++◌, length, map, arith}
use Rattle.std.proofs.Math.Nat.{mul-le-mul_right}
use Rattle.std.proofs.lemmas.List.{length-append}
use Rattle.std.specs.List.{cons_option}
use Rattle.lk_base.specs.declared.word.Aligned.{Aligned}
use Rattle.lk_base.specs.declared.word.Aligned.TheVariants.{Break, Group, Word}
use Rattle.lk_base.specs.declared.word.Word.{Word as SentWord}
use Rattle.lk_base.specs.Link.{Settings}
use Rattle.event_model.specs.Fed.{AllBegin, Fed, longest}
use Rattle.link_laws.specs.Accidents.{made}
use Rattle.link_laws.specs.Received.{whole_lane}
use Rattle.rx_front.specs.Locks.{declared_at}
use Rattle.rx_front.specs.Standing.{AtRound, Progress, locks_at}
use Rattle.rx_front.specs.States.{State}
use Rattle.rx_front.proofs.Clocked.{lane_count}
use Rattle.rx_end.specs.Observing.{AreLater, Knows, Learns}
use Rattle.link_replay.specs.Counting.{Counter, Counts, HasCounted}
use Rattle.link_replay.specs.Groups.{starts_of}
use Rattle.link_replay.specs.Lanes.{HaveFew, strange_sum}
use Rattle.link_replay.specs.Standing.{ArePlaces, Holds, IsSame, ShowsItem, TellsItem, Watch, Watches, sent_of, skews_of}
use Rattle.link_replay.proofs.Locks.{counts_few, sum_few}
use Rattle.link_replay.proofs.OfFront.{locks_few}
use Rattle.link_replay.proofs.Told.{few_given, group_named, group_told}

-- ---- what is counted is small

rounds_few : (over : Bool) (fed : List Fed) (rounds : ℕ) → AtRound over fed rounds → longest fed < 2 ^ 57 → rounds ≤ 2 ^ 57
rounds_few false fed rounds h few = omega (arith, h, few)
rounds_few true fed rounds h few = (let e = h.1 in omega (arith, e, few))

-- the locks of each lane stand apart
abbrev pub AreApart : Settings → Progress → (ℕ → List ℕ) → Type 0
AreApart s t locks = (i : ℕ) → i < s.lanes → 67 * length (locks i) ≤ t.clock

-- those before stand no closer
pub apart_before : (s : Settings) (f : State) (t : Progress) (before : ℕ → List ℕ) → AreLater f before (λ i. locks_at i t) → AreApart s t (λ i. locks_at i t) → AreApart s t before
apart_before s f t before later apart i lt =
    let a = apart i lt in
    let e = ap length (later i) ∙ length-append (before i) (cons_option (declared_at i f) []) in
    omega (arith, a, e)

module _ (c : Counter) (f : State) (s : Settings) (fed : List Fed) (taken : List Aligned) (t : Progress) (locks : ℕ → List ℕ) (told : List Aligned) (k : Knows Counts c f s fed taken t locks told) where
  pub clock_few : t.clock ≤ 2 ^ 60
  clock_few =
      let few = rounds_few f.over fed t.rounds k.stands.at_round k.few in
      let time = k.stands.time in
      omega (arith, few, time)

  pub lanes_many : (length c.watch.lanes ≡ length f.lanes) × (length c.watch.lanes ≤ 64) × (1 ≤ length c.watch.lanes) × (length c.watch.lanes ≡ s.lanes)
  lanes_many =
      let h = k.kept.held in
      let n = h.count in
      let e = ap (λ (x : Settings). x.lanes) k.kept.settings in
      let l = lane_count f.lanes s t.rounds fed t.columns k.stands.lanes in
      let m = k.stands.lane_count in
      let some = h.link.lanes.0 in
      let most = h.link.lanes.1 in
      (omega (arith, n, e, l, m), omega (arith, n, most), omega (arith, n, some), omega (arith, n, e))

  pub locks_apart : AreApart s t (λ i. locks_at i t)
  locks_apart i lt = locks_few f s fed taken t k.stands i lt

  few_at : AreApart s t locks → (i : ℕ) → 0 ≤ i → i < 0 + length c.watch.lanes → 67 * length (locks i) ≤ t.clock
  few_at apart i le lt = (let e = lanes_many.3 in apart i (omega (arith, lt, e)))

  pub have_few : AreApart s t locks → HaveFew c.watch.lanes
  have_few apart =
      let n = clock_few in
      counts_few c.watch.settings.metaframe (made (sent_of c.watch c.words)) t.clock locks 0 c.watch.lanes (omega (arith, n)) (few_at apart) k.kept.held.locks_are

  pub strange_few : AreApart s t locks → strange_sum c.watch.lanes < 2 ^ 64
  strange_few apart =
      let sum = sum_few c.watch.settings.metaframe (made (sent_of c.watch c.words)) t.clock locks 0 c.watch.lanes (few_at apart) k.kept.held.locks_are in
      let m = lanes_many.1 in
      let n = clock_few in
      let p = product (length c.watch.lanes) t.clock m n in
      omega (arith, sum, p)
    where
      product : (n c : ℕ) → n ≤ 64 → c ≤ 2 ^ 60 → n * c ≤ 64 * 2 ^ 60
      product n c a b = (let p = mul-le-mul_right c a in omega (arith, p, b))

  pub items_few : length taken + length f.waiting ≤ 2 ^ 61
  items_few =
      let g = few_given f s fed taken t k.stands in
      let long = k.stands.link.metaframe.1 in
      let n = clock_few in
      omega (arith, g, long, n)

-- ---- words

module _ (words : List SentWord) (v u : Watch) (same : IsSame v u) where
  abbrev was : Counter
  was = record { watch = v; words = words }

  abbrev now : Counter
  now = record { watch = u; words = words }

  -- what was sent is the same
  pub given_same : sent_of u words ≡ sent_of v words
  given_same = by same.settings same.skews
    where
      by : u.settings ≡ v.settings → skews_of u.lanes ≡ skews_of v.lanes → sent_of u words ≡ sent_of v words
      by e k = cc

  -- more is taken
  module _ (f : State) (s : Settings) (fed : List Fed) (taken : List Aligned) (t : Progress) (before later : ℕ → List ℕ) (told all : List Aligned) (k : Knows Counts was f s fed taken t before told) where
    pub learns : (Holds v words before told → Holds u words later all) →
        ((lanes : List (List ℕ)) → AllBegin fed lanes → (seen : HasCounted was s lanes before told) → Watches u words (map (whole_lane s) seen.all) later all) →
        Learns Counts HasCounted was now s fed before later told all
    learns holds watches = record {
      kept = record { settings = same.settings ∙ k.kept.settings; held = holds k.kept.held };
      seen = λ lanes begin seen. record { all = seen.all; bits = seen.bits; watches = watches lanes begin seen };
    }

-- ---- an item

module _ (c : Counter) (f : State) (s : Settings) (fed : List Fed) (items : List Aligned) (t : Progress) (locks : ℕ → List ℕ) (none : f.waiting ≡ []) where
  pub tells : (item : Aligned) → Knows Counts c f s fed (items ++ item ∷ []) t locks items → TellsItem c.watch item (starts_of f)
  tells (Group name) k =
      let told = group_named f s fed items t none name k.stands in
      let low = told.2 in
      let n = clock_few c f s fed (items ++ Group name ∷ []) t locks items k in
      let m = lanes_many c f s fed (items ++ Group name ∷ []) t locks items k in
      let e = told.0 in
      let l = m.3 in
      record { low = omega (arith, low, n); head = told.1; each = omega (arith, e, l); most = m.1; some = m.2; skew = k.kept.held.head }
  tells (Word name word) k = tt
  tells (Break name why) k = tt

  pub shows : (item : Aligned) → Knows Counts c f s fed (items ++ item ∷ []) t locks items → (lanes : List (List ℕ)) → AllBegin fed lanes → (seen : HasCounted c s lanes locks items) →
      ShowsItem c.watch.settings (map (whole_lane s) seen.all) item (starts_of f)
  shows (Group name) k lanes begin seen =
      subst (λ (x : Settings). ArePlaces x (map (whole_lane s) seen.all) name.group (starts_of f)) (sym k.kept.settings)
      (group_told f s fed items t none lanes seen.all seen.bits begin name k.stands)
  shows (Word name word) k lanes begin seen = tt
  shows (Break name why) k lanes begin seen = tt

pub no_items : (items : List Aligned) → length items ≡ 0 → items ≡ []
no_items [] e = refl
no_items (a ∷ items) e = absurd (omega (arith, e))
