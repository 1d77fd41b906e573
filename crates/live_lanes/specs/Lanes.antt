-- What calls ask of the lanes of a link, and what they make of each.
use Rattle.std.specs.Prelude.{ℕ, ◌≡◌, ◌<◌, ◌≤◌, ◌+◌, ◌==◌, cond, Bool, List, [], ◌∷◌, ◌++◌, length, map, get_or, drop, nat_le}
use Rattle.std.specs.List.{list_all}
use Rattle.lk_base.specs.declared.word.Word.{Word}
use Rattle.lk_base.specs.Link.{Settings}
use Rattle.lane_model.specs.Framing.{role_of}
use Rattle.metaframe.specs.Writing.{is_payload}
use Rattle.tx_end.specs.Lanes.{Carries, IsCarried}
use Rattle.live_lanes.specs.States.{Lane, Lanes}

-- ---- what can be asked

-- there is room for the bytes of one word more: nine at most
abbrev pub lane_has_room : Lane → Bool
lane_has_room l = nat_le (length l.waiting + 9) 4096

-- on each lane
abbrev pub has_room : Lanes → Bool
has_room v = list_all lane_has_room v.lanes

-- the next word of each lane is a payload word
abbrev pub wants_payload : Lanes → Bool
wants_payload v = is_payload (role_of v.link v.place)

-- the bytes of lane number i that are made and not taken; none if there is no such lane
abbrev pub waiting_on : ℕ → Lanes → List ℕ
waiting_on i v = get_or (map (λ (l : Lane). l.waiting) v.lanes) i []

-- ---- what is made

-- lane number i before its first word
abbrev pub IsFresh : Settings → ℕ → Lane → Type 0
IsFresh s i l = Carries l.writer s i [] 0 [] × (length l.writer.bits < 8) × (l.waiting ≡ [])

-- A lane made one word more, and what it was given is now this: whatever it carried in its bytes it carries still.
pub record MakesWord (now_given : List Word → List Word) (old new : Lane) : Type 0 where
  pub carries : (s : Settings) (lane : ℕ) (given : List Word) (made : ℕ) (taken : List ℕ) →
      Carries old.writer s lane given made (taken ++ old.waiting) → Carries new.writer s lane (now_given given) (made + 1) (taken ++ new.waiting)
  -- the whole bytes of it wait
  pub few : length new.writer.bits < 8
  pub longer : length old.waiting < length new.waiting

-- it is a framing word
abbrev pub MakesFraming : Lane → Lane → Type 0
MakesFraming old new = MakesWord (λ given. given) old new

-- it is this payload word
abbrev pub MakesPayload : Word → Lane → Lane → Type 0
MakesPayload word old new = MakesWord (λ given. given ++ word ∷ []) old new

-- A lane made its last byte: its bytes are all, the last with zeros after the last bits.
pub record MakesEnd (old new : Lane) : Type 0 where
  pub all : (s : Settings) (lane : ℕ) (given : List Word) (made : ℕ) (taken : List ℕ) →
      Carries old.writer s lane given made (taken ++ old.waiting) → IsCarried s lane given made (taken ++ new.waiting)
  pub kept : length old.waiting ≤ length new.waiting

-- each lane of one list is so to the one at its place in the other
pub record AreEach (R : ℕ → Lane → Lane → Type 0) (old new : List Lane) : Type 0 where
  pub same : length new ≡ length old
  pub each : (i : ℕ) (d e : Lane) → i < length old → R i (get_or old i d) (get_or new i e)

-- on each lane more bytes wait than before
abbrev pub AreLonger : Lanes → Lanes → Type 0
AreLonger old new = (i : ℕ) → i < length old.lanes → length (waiting_on i old) < length (waiting_on i new)

-- on each lane as many bytes wait as before, or more
abbrev pub AreKept : Lanes → Lanes → Type 0
AreKept old new = (i : ℕ) → length (waiting_on i old) ≤ length (waiting_on i new)

-- the first n of the bytes that waited on a lane are gone, and the others wait as before
abbrev pub AreGone : ℕ → ℕ → Lanes → Lanes → Type 0
AreGone lane n old new = (i : ℕ) → waiting_on i new ≡ cond (i == lane) (drop n (waiting_on i old)) (waiting_on i old)
