-- The places of the lanes in their metaframes, and the rows of their payload words.
use Rattle.std.proofs.Common.{ℕ, ◌≡◌, refl, ap, ◌∙◌, subst, ◌+◌, ◌-◌, ◌*◌, ◌/◌, ◌%◌, ◌<◌, false, List, [], ◌∷◌, ◌++◌, length, get_or, map, arith}
use Rattle.std.proofs.Math.Nat.{zero-mul}
use Rattle.std.specs.List.{range_with_len}
use Rattle.std.proofs.lemmas.List.{get_or-map}
use Rattle.std.proofs.lemmas.Nat.{div-mul-add}
use Rattle.lk_base.specs.declared.word.Word.{Word}
use Rattle.lk_base.specs.declared.word.Word.TheVariants.{Data}
use Rattle.lk_base.specs.Link.{Settings}
use Rattle.lane_model.specs.Framing.{role_of}
use Rattle.lane_model.specs.Striping.{lane_payload, share}
use Rattle.metaframe.specs.Writing.{is_payload, payload_place}
use Rattle.metaframe.specs.Writing as metaframe
use Rattle.tx_end.specs.declared.lane_writer.LaneWriter.{LaneWriter}
use Rattle.tx_end.specs.Lanes.{Carries}
use Rattle.tx_end.proofs.Groups.{payload_append}
use Rattle.live_lanes.specs.States.{Lane, Lanes}
use Rattle.live_lanes.specs.Lanes.{waiting_on}
use Rattle.live_lanes.specs.Laws.{AllWantTheSame}
use Rattle.live_lanes.specs.Standing.{IsSent, Progress, Stands}

-- ---- lanes that are there

pub some_lane : (lanes : List Lane) → 0 < length lanes → Lane
some_lane [] h = absurd (omega (arith, h))
some_lane (l ∷ lanes) h = l

pub lane_of : (v : Lanes) (p : Progress) → Stands v p → Lane
lane_of v p k = some_lane v.lanes (omega (arith, k.count, k.limits.lanes.0))

pub waiting_is : (v : Lanes) (i : ℕ) (d : Lane) → i < length v.lanes → waiting_on i v ≡ (get_or v.lanes i d).waiting
waiting_is v i d h = get_or-map (λ (l : Lane). l.waiting) v.lanes i d [] h

-- until they have ended
pub open_lane : (v : Lanes) (p : Progress) (i : ℕ) (d : Lane) → Stands v p → v.ended ≡ false → i < p.settings.lanes →
    Carries (get_or v.lanes i d).writer p.settings i (lane_payload p.settings.lanes p.payload i) p.columns (p.taken i ++ (get_or v.lanes i d).waiting) × (length (get_or v.lanes i d).writer.bits < 8)
open_lane v p i d k going h = subst (λ e. IsSent e p i (get_or v.lanes i d)) going (k.each i d h)

-- ---- places

-- how many payload words a lane was given
pub given_count : (l : LaneWriter) (s : Settings) (lane made : ℕ) (given : List Word) (bytes : List ℕ) → Carries l s lane given made bytes → length given ≡ payload_place s made
given_count l s lane made given bytes k = k.writes.count ∙ ap (payload_place s) k.count

pub wants_by_place : (l : LaneWriter) (s : Settings) (lane made : ℕ) (given : List Word) (bytes : List ℕ) → Carries l s lane given made bytes → metaframe.wants_payload l.framing ≡ is_payload (role_of s (made % s.metaframe))
wants_by_place l s lane made given bytes k = rw (k.writes.settings, k.writes.position, k.count) refl

pub all_want_the_same : AllWantTheSame
all_want_the_same v p i d k going h =
    wants_by_place (get_or v.lanes i d).writer p.settings i p.columns (lane_payload p.settings.lanes p.payload i) (p.taken i ++ (get_or v.lanes i d).waiting) (open_lane v p i d k going h).0
    ∙ rw (k.link, k.place) refl

-- ---- rows

one_each : (lanes total i : ℕ) → i < lanes → total ≡ lanes → share lanes total i ≡ 1
one_each lanes total i h count =
    let e : total + (lanes - 1 - i) ≡ 1 * lanes + (lanes - 1 - i) = omega (arith, count) in
    ap (λ n. n / lanes) e ∙ div-mul-add 1 lanes (lanes - 1 - i) (omega (arith, h))

-- of one row a lane takes its word
pub row_lane : (lanes i : ℕ) (words : List Word) → i < lanes → length words ≡ lanes → lane_payload lanes words i ≡ get_or words i (Data 0) ∷ []
row_lane lanes i words h count =
    let first : 0 * lanes + i ≡ i = (let e = zero-mul lanes in omega (arith, e)) in
    ap (λ m. map (λ n. get_or words (n * lanes + i) (Data 0)) (range_with_len 0 m)) (one_each lanes (length words) i h count) ∙ ap (λ j. get_or words j (Data 0) ∷ []) first

-- and of the rows so far and one more
pub row_more : (lanes n i : ℕ) (words row : List Word) → i < lanes → length words ≡ n * lanes → length row ≡ lanes → lane_payload lanes (words ++ row) i ≡ lane_payload lanes words i ++ get_or row i (Data 0) ∷ []
row_more lanes n i words row h rows one = payload_append lanes n i words row h rows ∙ ap (λ (g : List Word). lane_payload lanes words i ++ g) (row_lane lanes i row h one)
