-- Lanes of which the first took bytes.
use Rattle.std.proofs.Common.{ℕ, zero, suc, ◌≡◌, sym, ap, ◌∙◌, subst, ◌*◌, ◌<◌, ◌≤◌, true, List, [], ◌∷◌, length, get_or, arith, All}
use Rattle.std.proofs.lemmas.List.Elements.{All-cons, All-get_or, All-head, All-tail}
use Rattle.std.proofs.lemmas.List.Sums.{AllPass-from_list_all}
use Rattle.rx_front.specs.States.{Lane}
use Rattle.rx_front.specs.Calls.{lanes_fed, lanes_finished}
use Rattle.rx_front.specs.Lanes.{AreEach, AreTaken, AreWide, HasBytes, are_ready, fed_lane, finished_lane, is_ready}
use Rattle.rx_front.proofs.FirstDid.{FirstDid}

module _ (R : ℕ → Lane → Lane → Type 0) where
  pub all_did : (i : ℕ) (lanes now : List Lane) → length lanes ≤ i → FirstDid R i lanes now → AreEach R lanes now
  all_did i lanes now le h = record { same = h.same; each = λ j d e lt. h.did j d e (omega (arith, lt, le)) lt }

  -- the next lane is ready
  pub next_ready : (i : ℕ) (lanes now : List Lane) (d : Lane) → i < length lanes → FirstDid R i lanes now → are_ready lanes ≡ true → is_ready (get_or now i d) ≡ true
  next_ready i lanes now d lt h ready = ap is_ready (h.kept i d (omega arith)) ∙ AllPass-from_list_all is_ready lanes ready i d lt

  -- the next lane has this many bytes
  pub next_there : (n i : ℕ) (lanes now : List Lane) (d : Lane) → i < length lanes → FirstDid R i lanes now → All (HasBytes n) lanes → HasBytes n (get_or now i d)
  next_there n i lanes now d lt h has = subst (HasBytes n) (sym (h.kept i d (omega arith))) (All-get_or (HasBytes n) lanes i d lt has)

-- they keep the steps of as many rounds
pub are_wide : (n : ℕ) (lanes later : List Lane) → AreTaken n lanes later → AreWide (8 * n) later
are_wide n lanes later t = λ i d lt. (t.each i d d (let e = t.same in omega (arith, e, lt))).long

-- bytes that come, and the end, leave what is so of the steps that are kept
pub kept_fed : (P : Lane → Type 0) (i : ℕ) (bytes : List ℕ) (lanes : List Lane) → ((v : Lane) → P v → P (fed_lane bytes v)) → All P lanes → All P (lanes_fed i bytes lanes)
kept_fed P i bytes [] keep all = all
kept_fed P zero bytes (v ∷ lanes) keep all = All-cons P (fed_lane bytes v) lanes (keep v (All-head P v lanes all)) (All-tail P v lanes all)
kept_fed P (suc i) bytes (v ∷ lanes) keep all = All-cons P v (lanes_fed i bytes lanes) (All-head P v lanes all) (kept_fed P i bytes lanes keep (All-tail P v lanes all))

pub kept_finished : (P : Lane → Type 0) (i : ℕ) (lanes : List Lane) → ((v : Lane) → P v → P (finished_lane v)) → All P lanes → All P (lanes_finished i lanes)
kept_finished P i [] keep all = all
kept_finished P zero (v ∷ lanes) keep all = All-cons P (finished_lane v) lanes (keep v (All-head P v lanes all)) (All-tail P v lanes all)
kept_finished P (suc i) (v ∷ lanes) keep all = All-cons P v (lanes_finished i lanes) (All-head P v lanes all) (kept_finished P i lanes keep (All-tail P v lanes all))
