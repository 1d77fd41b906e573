-- The payload words of a lane in whole groups.
use Rattle.std.proofs.Common.{ℕ, ◌≡◌, refl, sym, ap, ◌∙◌, ◌+◌, ◌-◌, ◌*◌, ◌/◌, ◌<◌, ◌≤◌, List, [], ◌++◌, length, get_or, length-append, arith, subst, inl, inr}
use Rattle.std.proofs.Math.Nat.{add-mul-div_right, mul-le-mul}
use Rattle.std.proofs.lemmas.Nat.{div-mul-add}
use Rattle.std.proofs.lemmas.Bool.{cases_lt}
use Rattle.std.proofs.lemmas.List.{ext_get_or, get_or_append_left, get_or-append_right}
use Rattle.lk_base.specs.declared.word.Word.{Word}
use Rattle.lk_base.specs.declared.word.Word.TheVariants.{Data}
use Rattle.lk_base.specs.Link.{Settings, group_of}
use Rattle.lane_model.specs.Framing.{payloads}
use Rattle.lane_model.specs.Striping.{lane_payload, share}
use Rattle.lane_model.proofs.StripingHolds.{length-lane_payload, striping_holds}
use Rattle.tx_end.specs.declared.lane_writer.LaneWriter.{LaneWriter}
use Rattle.tx_end.specs.Lanes.{Fills, HasFilled}

share_more : (lanes n b i : ℕ) → i < lanes → share lanes (n * lanes + b) i ≡ n + share lanes b i
share_more lanes n b i h =
    let e : n * lanes + b + (lanes - 1 - i) ≡ b + (lanes - 1 - i) + n * lanes = omega arith in
    ap (λ x. x / lanes) e ∙ add-mul-div_right (b + (lanes - 1 - i)) n {z = lanes} (omega (arith, h)) ∙ omega arith

none : (lanes i : ℕ) → i < lanes → share lanes 0 i ≡ 0
none lanes i h =
    let e : 0 + (lanes - 1 - i) ≡ 0 * lanes + (lanes - 1 - i) = omega arith in
    ap (λ x. x / lanes) e ∙ div-mul-add 0 lanes (lanes - 1 - i) (omega (arith, h))

pub no_payload : (lanes i : ℕ) → i < lanes → lane_payload lanes [] i ≡ []
no_payload lanes i h = rw (none lanes i h) refl

shift : (n m l i : ℕ) → n ≤ m → m * l + i - n * l ≡ (m - n) * l + i
shift n m l i h =
    let e : m ≡ (m - n) + n = omega (arith, h) in
    let k : m * l ≡ (m - n) * l + n * l = ap (λ x. x * l) e ∙ omega arith in
    omega (arith, k)

-- after whole rows a lane takes its own of the words that follow
pub payload_append : (lanes n i : ℕ) (words more : List Word) → i < lanes → length words ≡ n * lanes → lane_payload lanes (words ++ more) i ≡ lane_payload lanes words i ++ lane_payload lanes more i
payload_append lanes n i words more h e =
    let d : Word = Data 0 in
    let one : length (lane_payload lanes words i) ≡ n = length-lane_payload lanes words i ∙ ap (λ m. share lanes m i) (e ∙ omega arith) ∙ share_more lanes n 0 i h ∙ ap (λ m. n + m) (none lanes i h) ∙ omega arith in
    let long : length (lane_payload lanes (words ++ more) i) ≡ n + share lanes (length more) i =
    length-lane_payload lanes (words ++ more) i ∙ ap (λ m. share lanes m i) (length-append words more ∙ ap (λ m. m + length more) e) ∙ share_more lanes n (length more) i h in
    let two = length-lane_payload lanes more i in
    let both = length-append (lane_payload lanes words i) (lane_payload lanes more i) in
    ext_get_or d (lane_payload lanes (words ++ more) i) (lane_payload lanes words i ++ lane_payload lanes more i) (omega (arith, one, long, two, both))
    (λ k lt. striping_holds.word lanes (words ++ more) i k d h ∙ elim (cases_lt k n) [
      | inl l ↦
          let below : k * lanes + i < length words = row k n lanes i l h e in
          get_or_append_left words more d (k * lanes + i) below ∙ sym (striping_holds.word lanes words i k d h)
          ∙ sym (get_or_append_left (lane_payload lanes words i) (lane_payload lanes more i) d k (omega (arith, one, l)))
      | inr l ↦
          let past : n * lanes ≤ k * lanes + i = over k n lanes i l in
          get_or-append_right words more (n * lanes) (k * lanes + i) d e past ∙ ap (λ m. get_or more m d) (shift n k lanes i l)
          ∙ sym (striping_holds.word lanes more i (k - n) d h) ∙ sym (get_or-append_right (lane_payload lanes words i) (lane_payload lanes more i) n k d one l)
    ])
  where
    row : (k n lanes i : ℕ) {m : ℕ} → k < n → i < lanes → m ≡ n * lanes → k * lanes + i < m
    row k n lanes i {m} l h e =
        let a : (k + 1) * lanes ≤ n * lanes = mul-le-mul (omega (arith, l)) (omega arith) in
        let b : (k + 1) * lanes ≡ k * lanes + lanes = omega arith in
        omega (arith, a, b, h, e)

    over : (k n lanes i : ℕ) → n ≤ k → n * lanes ≤ k * lanes + i
    over k n lanes i l = (let a : n * lanes ≤ k * lanes = mul-le-mul l (omega arith) in omega (arith, a))

pub regroup_words : (m l p : ℕ) → m * (l * p) ≡ m * p * l
regroup_words m l p = omega arith

-- a lane made its metaframe of one group more
pub filled_more : (s : Settings) (i m : ℕ) (words group : List Word) (old new : LaneWriter) (bytes more : List ℕ) → i < s.lanes → length words ≡ m * group_of s → HasFilled old s i (lane_payload s.lanes words i) m bytes → Fills s i group old new more →
    HasFilled new s i (lane_payload s.lanes (words ++ group) i) (m + 1) (bytes ++ more)
filled_more s i m words group old new bytes more h e k fills =
    subst (λ (g : List Word). HasFilled new s i g (m + 1) (bytes ++ more)) (sym (payload_append s.lanes (m * payloads s) i words group h (e ∙ regroup_words m s.lanes (payloads s))))
    (fills (lane_payload s.lanes words i) m bytes k)
