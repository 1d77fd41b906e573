-- The relation of lanes by their places.
use Rattle.std.proofs.Common.{ℕ, zero, suc, ◌≡◌, refl, ap, ◌*◌, ◌<◌, List, [], ◌∷◌, length, get_or, arith}
use Rattle.lk_base.specs.Link.{Settings}
use Rattle.lock_model.specs.declared.types.LaneStep.{LaneStep}
use Rattle.event_model.specs.Fed.{Fed}
use Rattle.deskew.specs.Ahead.{AreLong}
use Rattle.rx_front.specs.States.{Lane}
use Rattle.rx_front.specs.Lanes.{AllStand, LaneStands}
use Rattle.rx_front.proofs.Rounds.{column_length}

-- as many lanes, and as many columns, as there was fed
pub count_columns : (lanes : List Lane) (s : Settings) (rounds : ℕ) (fed : List Fed) (columns : List (List LaneStep)) → AllStand lanes s rounds fed columns → (length columns ≡ length fed) × (length lanes ≡ length fed)
count_columns [] s rounds [] [] st = (refl, refl)
count_columns (v ∷ lanes) s rounds (lane ∷ fed) (column ∷ columns) st = (let k = count_columns lanes s rounds fed columns st.1 in (ap suc k.0, ap suc k.1))
count_columns lanes s rounds fed columns st = absurd st

-- each lane
pub stands_at : (lanes : List Lane) (s : Settings) (rounds : ℕ) (fed : List Fed) (columns : List (List LaneStep)) (i : ℕ) (d : Lane) (e : Fed) → i < length lanes → AllStand lanes s rounds fed columns →
    LaneStands (get_or lanes i d) s rounds (get_or fed i e) (get_or columns i [])
stands_at (v ∷ lanes) s rounds (lane ∷ fed) (column ∷ columns) zero d e lt st = st.0
stands_at (v ∷ lanes) s rounds (lane ∷ fed) (column ∷ columns) (suc i) d e lt st = stands_at lanes s rounds fed columns i d e (omega (arith, lt)) st.1
stands_at lanes s rounds fed columns i d e lt st = absurd (first_of (assumption, omega arith))

pub all_stand : (lanes : List Lane) (s : Settings) (rounds : ℕ) (fed : List Fed) (columns : List (List LaneStep)) → length lanes ≡ length fed → length columns ≡ length fed →
    ((i : ℕ) (d : Lane) (e : Fed) → i < length lanes → LaneStands (get_or lanes i d) s rounds (get_or fed i e) (get_or columns i [])) → AllStand lanes s rounds fed columns
all_stand [] s rounds [] [] m n h = tt
all_stand (v ∷ lanes) s rounds (lane ∷ fed) (column ∷ columns) m n h =
    (h 0 v lane (omega arith), all_stand lanes s rounds fed columns (omega (arith, m)) (omega (arith, n)) (λ i d e lt. h (suc i) d e (omega (arith, lt))))
all_stand lanes s rounds fed columns m n h = absurd (omega (arith, m, n))

-- how many steps each has
pub columns_long : (lanes : List Lane) (s : Settings) (rounds : ℕ) (fed : List Fed) (columns : List (List LaneStep)) → AllStand lanes s rounds fed columns → AreLong (8 * rounds) columns
columns_long [] s rounds [] [] st = tt
columns_long (v ∷ lanes) s rounds (lane ∷ fed) (column ∷ columns) st = (column_length s rounds lane column st.0.completed, columns_long lanes s rounds fed columns st.1)
columns_long lanes s rounds fed columns st = absurd st
