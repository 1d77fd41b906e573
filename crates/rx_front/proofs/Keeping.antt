-- Lanes that are in a declared lock, or far from one, lane by lane.
use Rattle.std.proofs.Common.{ℕ, ◌≡◌, ◌<◌, true, List, length, get_or}
use Rattle.std.specs.Prelude.{◌⊎◌}
use Rattle.std.proofs.lemmas.List.{get_or_default}
use Rattle.lane_lock.specs.Search.{IsFar}
use Rattle.deskew.specs.Ahead.{is_locked}
use Rattle.deskew.specs.States as deskew
use Rattle.rx_front.specs.States.{Lane}

-- lane number i is
abbrev pub KeepsAt : List deskew.LaneState → List Lane → ℕ → Type 0
KeepsAt ls lanes i = (e : deskew.LaneState) (d : Lane) → i < length ls → (is_locked (get_or ls i e) ≡ true) ⊎ IsFar (get_or lanes i d).lock

pub keeps_at : (i : ℕ) (ls : List deskew.LaneState) (lanes : List Lane) (e : deskew.LaneState) (d : Lane) → i < length lanes → (is_locked (get_or ls i e) ≡ true) ⊎ IsFar (get_or lanes i d).lock → KeepsAt ls lanes i
keeps_at i ls lanes e d lt k = λ f g there. rw (get_or_default ls i f e there, get_or_default lanes i g d lt) k
