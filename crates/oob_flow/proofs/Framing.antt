-- Frames one after another.
use Rattle.std.proofs.Common.{◌≡◌, ℕ, ◌+◌, ◌<◌, ◌≤◌, ◌==◌, Bool, true, false, List, [], ◌∷◌, ◌++◌, length, map, take, drop, reverse, find, get_or, nat_le, All, Option, ◌&&◌, if◌then◌else◌, refl, sym, ap, ap₂, ◌∙◌, subst, eq-eqb, append_assoc, append-nil, inl, inr, arith}
use Rattle.std.specs.Option.{option_map_or}
use Rattle.std.proofs.lemmas.Bool.{cases_eq, ne_eqb}
use Rattle.std.proofs.lemmas.Bool.Decides.{nat_tests}
use Rattle.std.proofs.lemmas.List.{take_more, take_all, take-append-drop, reverse-append, length-map, length-take-le, length-drop, get_or-take, get_or-drop}
use Rattle.std.proofs.lemmas.List.Elements.{All-head, All-tail, All-weaker}
use Rattle.std.specs.List.Sorted.{IsNonDecreasingBy}
use Rattle.calendar.proofs.States.{all_reverse, local_all}
use Rattle.stream_model.specs.declared.rows.LocalRow.{LocalRow}
use Rattle.stream_model.specs.Calendar.{is_locally_on}
use Rattle.calendar.specs.Outgoing.{last_local}
use Rattle.oob_flow.specs.Frames.{frame_length, frame_samples}
use Rattle.oob_flow.specs.Sending.{StandsOut, with_state, showing, one_given}
use Rattle.oob_flow.specs.declared.outgoing.OobOut.{OobOut}
use Rattle.oob_flow.proofs.Blocks.{frame_samples_length}

same_function : (f g : ℕ → Bool) → ((c : ℕ) → f c ≡ g c) → f ≡ g
same_function f g h = λ i. λ c. h c i

-- ---- one more row

turned : (x y : ℕ) → (x == y) ≡ (y == x)
turned x y = elim (cases_eq x y) [
  | inl e ↦ eq-eqb x y e ∙ sym (eq-eqb y x (sym e))
  | inr n ↦ ne_eqb x y n ∙ sym (ne_eqb y x (λ e. n (sym e)))
]

last_of : (rows : List LocalRow) (row : LocalRow) (c : ℕ) → with_state (last_local rows) row.channel row.on c ≡ last_local (rows ++ row ∷ []) c
last_of rows row c =
    let back : reverse (rows ++ row ∷ []) ≡ row ∷ reverse rows = reverse-append rows (row ∷ []) in
    by (c == row.channel) (c == row.channel) refl (turned row.channel c) ∙ sym (ap (λ (rs : List LocalRow). option_map_or (λ (r : LocalRow). r.on) (find (λ (r : LocalRow). r.channel == c) rs) true) back)
  where
    by : (t u : Bool) → (c == row.channel) ≡ t → (row.channel == c) ≡ u → (if c == row.channel then row.on else last_local rows c) ≡ option_map_or (λ (r : LocalRow). r.on) (find (λ (r : LocalRow). r.channel == c) (row ∷ reverse rows)) true
    by true true e f = rw (e, f) refl
    by false false e f = rw (e, f) refl
    by true false e f = cc (turned row.channel c)
    by false true e f = cc (turned row.channel c)

pub row_set : (local : List LocalRow) (n : ℕ) (d : LocalRow) → n < length local → with_state (last_local (take n local)) (get_or local n d).channel (get_or local n d).on ≡ last_local (take (n + 1) local)
row_set local n d h =
    same_function (with_state (last_local (take n local)) (get_or local n d).channel (get_or local n d).on) (last_local (take (n + 1) local))
    (λ c. last_of (take n local) (get_or local n d) c ∙ ap (λ (rows : List LocalRow). last_local rows c) (sym (take_more local n d h)))

-- ---- the samples of a frame

-- the first samples of a frame of these states stand after others
pub record IsWithin (out : OobOut) (entries : List ℕ) (states : ℕ → Bool) (shown : List Bool) (n : ℕ) (before now : List ℕ) : Type 0 where
  pub stands : StandsOut out entries states (if n == 0 then shown else map states entries) (if n == frame_length (length entries) then 0 else n)
  pub samples : now ≡ before ++ take n (frame_samples (map states entries))

pub none_yet : (out : OobOut) (entries : List ℕ) (states : ℕ → Bool) (shown : List Bool) (before : List ℕ) → StandsOut out entries states shown 0 → IsWithin out entries states shown 0 before before
none_yet out entries states shown before s =
    let some : (0 == frame_length (length entries)) ≡ false = (let l : 0 < frame_length (length entries) = s.within in grind (arith, nat_tests)) in
    record {
      stands = rw some s;
      samples = sym (append-nil before);
    }

pub one_more : (old new : OobOut) (entries : List ℕ) (states : ℕ → Bool) (shown : List Bool) (n sample : ℕ) (before now then_now : List ℕ) → n < frame_length (length entries) → IsWithin old entries states shown n before now
    → ((es : List ℕ) (st : ℕ → Bool) (sh : List Bool) (g : ℕ) → StandsOut old es st sh g → sample ≡ get_or (frame_samples (showing es st sh g)) g 0)
    → ((es : List ℕ) (st : ℕ → Bool) (sh : List Bool) (g : ℕ) → StandsOut old es st sh g → StandsOut new es st (showing es st sh g) (one_given es g))
    → then_now ≡ now ++ sample ∷ [] → IsWithin new entries states shown (n + 1) before then_now
one_more old new entries states shown n sample before now then_now within w value goes pushed =
    let not_whole : (n == frame_length (length entries)) ≡ false = grind (arith, nat_tests) in
    let place : (if n == frame_length (length entries) then 0 else n) ≡ n = rw not_whole refl in
    let own : StandsOut old entries states (if n == 0 then shown else map states entries) n = subst (StandsOut old entries states (if n == 0 then shown else map states entries)) place w.stands in
    let shows : showing entries states (if n == 0 then shown else map states entries) n ≡ map states entries = by (n == 0) in
    let later : (n + 1 == 0) ≡ false = (let p : 0 < n + 1 = omega arith in grind (arith, nat_tests)) in
    let len : length (frame_samples (map states entries)) ≡ frame_length (length entries) = frame_samples_length (map states entries) (omega (arith, length-map entries states, own.low)) ∙ ap frame_length (length-map entries states) in
    let next : take (n + 1) (frame_samples (map states entries)) ≡ take n (frame_samples (map states entries)) ++ get_or (frame_samples (map states entries)) n 0 ∷ [] = take_more (frame_samples (map states entries)) n 0 (omega arith) in
    let is : sample ≡ get_or (frame_samples (map states entries)) n 0 = value entries states (if n == 0 then shown else map states entries) n own ∙ ap (λ (s : List Bool). get_or (frame_samples s) n 0) shows in
    record {
      stands = rw later (subst (λ (s : List Bool). StandsOut new entries states s (one_given entries n)) shows (goes entries states (if n == 0 then shown else map states entries) n own));
      samples = pushed ∙ ap₂ (λ (xs : List ℕ) (x : ℕ). xs ++ x ∷ []) w.samples is ∙ append_assoc before (take n (frame_samples (map states entries))) (get_or (frame_samples (map states entries)) n 0 ∷ []) ∙ ap (λ (xs : List ℕ). before ++ xs) (sym next);
    }
  where
    by : (z : Bool) → (if z then map states entries else (if z then shown else map states entries)) ≡ map states entries
    by true = refl
    by false = refl

module _ (out : OobOut) (entries : List ℕ) (states : ℕ → Bool) (shown : List Bool) (n : ℕ) (before now : List ℕ) (low : 1 ≤ length entries) (end : n ≡ frame_length (length entries)) (w : IsWithin out entries states shown n before now) where
  some : 0 < n
  some = omega (arith, w.stands.within, end)

  pub whole_stands : StandsOut out entries states (map states entries) 0
  whole_stands =
      let all : (n == frame_length (length entries)) ≡ true = eq-eqb n (frame_length (length entries)) end in
      let late : (n == 0) ≡ false = (let p : 0 < n = some in grind (arith, nat_tests)) in
      let a : (if n == frame_length (length entries) then 0 else n) ≡ 0 = rw all refl in
      let b : (if n == 0 then shown else map states entries) ≡ map states entries = rw late refl in
      subst (StandsOut out entries states (map states entries)) a (subst (λ (s : List Bool). StandsOut out entries states s (if n == frame_length (length entries) then 0 else n)) b w.stands)

  pub whole_samples : now ≡ before ++ frame_samples (map states entries)
  whole_samples =
      let len : length (frame_samples (map states entries)) ≡ frame_length (length entries) = frame_samples_length (map states entries) (omega (arith, length-map entries states, low)) ∙ ap frame_length (length-map entries states) in
      w.samples ∙ ap (λ (xs : List ℕ). before ++ xs) (take_all n (frame_samples (map states entries)) (omega arith))

-- ---- the rows that a frame shows

find_behind : (p : LocalRow → Bool) (xs ys : List LocalRow) → All (λ (r : LocalRow). p r ≡ false) xs → find p (xs ++ ys) ≡ find p ys
find_behind p [] ys h = refl
find_behind p (x ∷ xs) ys h = let here : p x ≡ false = All-head (λ (r : LocalRow). p r ≡ false) x xs h in rw here (find_behind p xs ys (All-tail (λ (r : LocalRow). p r ≡ false) x xs h))

late_fails : (c t : ℕ) (row : LocalRow) → t < row.slot → ((row.channel == c) && nat_le row.slot t) ≡ false
late_fails c t row h = let test : nat_le row.slot t ≡ false = grind (arith, nat_tests) in rw test (by (row.channel == c))
  where
    by : (b : Bool) → (b && false) ≡ false
    by true = refl
    by false = refl

-- rows of later slots do not show
early_rows : (front back : List LocalRow) (c t : ℕ) → All (λ (r : LocalRow). r.slot ≤ t) front → All (λ (r : LocalRow). t < r.slot) back → is_locally_on (front ++ back) c t ≡ last_local front c
early_rows front back c t early late =
    let fails : All (λ (r : LocalRow). ((r.channel == c) && nat_le r.slot t) ≡ false) (reverse back) =
    all_reverse (λ (r : LocalRow). ((r.channel == c) && nat_le r.slot t) ≡ false) back (All-weaker (λ (r : LocalRow). t < r.slot) (λ (r : LocalRow). ((r.channel == c) && nat_le r.slot t) ≡ false) (late_fails c t) back late) in
    ap (λ (rs : List LocalRow). option_map_or (λ (r : LocalRow). r.on) (find (λ (r : LocalRow). (r.channel == c) && nat_le r.slot t) rs) true) (reverse-append front back)
    ∙ ap (λ (o : Option LocalRow). option_map_or (λ (r : LocalRow). r.on) o true) (find_behind (λ (r : LocalRow). (r.channel == c) && nat_le r.slot t) (reverse back) (reverse front) fails)
    ∙ local_all front c t early

module _ (local : List LocalRow) (n t : ℕ) (within : n ≤ length local) (order : IsNonDecreasingBy (λ (r : LocalRow). r.slot) local) (early : (i : ℕ) (d : LocalRow) → i < n → (get_or local i d).slot ≤ t) (late : n < length local → (d : LocalRow) → t < (get_or local n d).slot) where
  taken_early : All (λ (r : LocalRow). r.slot ≤ t) (take n local)
  taken_early k d l =
      let small : k < n = omega (arith, length-take-le n local within) in
      subst (λ (r : LocalRow). r.slot ≤ t) (sym (get_or-take n local k d small)) (early k d small)

  others_late : All (λ (r : LocalRow). t < r.slot) (drop n local)
  others_late k d l =
      let len = length-drop n local in
      let first : t < (get_or local n d).slot = late (omega arith) d in
      let later : (get_or local n d).slot ≤ (get_or local (n + k) d).slot = order n (n + k) d (omega arith) (omega arith) in
      subst (λ (r : LocalRow). t < r.slot) (sym (get_or-drop n local k d)) (omega arith)

  pub shown_by : (c : ℕ) → is_locally_on local c t ≡ last_local (take n local) c
  shown_by c = ap (λ (rs : List LocalRow). is_locally_on rs c t) (sym (take-append-drop n local)) ∙ early_rows (take n local) (drop n local) c t taken_early others_late

  pub states_by : (entries : List ℕ) → map (last_local (take n local)) entries ≡ map (λ (c : ℕ). is_locally_on local c t) entries
  states_by entries = sym (ap (λ (f : ℕ → Bool). map f entries) (same_function (λ (c : ℕ). is_locally_on local c t) (last_local (take n local)) shown_by))
