-- How a live transmitter goes on.
use Rattle.std.proofs.Common.{ℕ, zero, suc, ◌≡◌, ◌⊎◌, ◌↔◌, inl, inr, refl, sym, ap, ◌∙◌, subst, ◌+◌, ◌-◌, ◌*◌, ◌/◌, ◌%◌, ◌<◌, ◌≤◌, Bool, true, false, ◌||◌, if◌then◌else◌, nat_le, List, [], ◌∷◌, ◌++◌, length, map, get_or, arith, append_assoc, append-nil, length-append, Option, Some, None, is_some, Result, Ok, Err, OnOk, OnErr, is_err, MatchOption}
use Rattle.std.specs.Option.{option_or}
use Rattle.std.proofs.Math.Nat.{mod-add-mod, mod-eq_of_lt, mod-lt, mod_self, mul-le-mul}
use Rattle.std.proofs.lemmas.Bool.{cases_lt, false≢true}
use Rattle.std.proofs.lemmas.Bool.Decides.{nat_tests}
use Rattle.std.proofs.lemmas.List.{nil_from_length}
use Rattle.std.proofs.lemmas.List.Sums.{AllPass-from_list_all}
use Rattle.std.proofs.lemmas.Nat.{mod-mul-add, mul-add-lt}
use Rattle.std.proofs.lemmas.Option.{slice_get_within}
use Rattle.lk_base.specs.declared.word.Word.{Word}
use Rattle.lk_base.specs.declared.word.Word.TheVariants.{Control}
use Rattle.lk_base.specs.Link.{Settings, IsLink, group_of}
use Rattle.lane_model.specs.Framing.{payloads, role_of}
use Rattle.metaframe.specs.Writing.{is_payload, payload_place}
use Rattle.metaframe.proofs.Places.{stands as stands_at}
use Rattle.tx_end.proofs.LanePlaces.{payload_there}
use Rattle.live_stream.specs.LiveStream.{Given, IsWholeLiveStream}
use Rattle.live_stream.specs.Gives.{Gives, closed_at, flow_added, local_added, local_refusal_of, most_words, packet_added, packets_closed_in, refusal_of}
use Rattle.live_stream.specs.declared.refused.Closed.{Closed}
use Rattle.live_stream.specs.declared.refused.LocalRefused.{LocalRefused}
use Rattle.live_stream.specs.declared.refused.LocalRefused.TheVariants as local_refused
use Rattle.live_stream.specs.declared.refused.Refused.{Refused}
use Rattle.live_stream.specs.declared.refused.Refused.TheVariants as refused
use Rattle.live_stream.specs.declared.scheduler.LiveScheduler.{LiveScheduler}
use Rattle.live_lanes.specs.States.{Lane, Lanes}
use Rattle.live_lanes.specs.Lanes.{has_room, lane_has_room, waiting_on, wants_payload}
use Rattle.live_lanes.specs.Standing.{Progress, Stands, framed, progress, took, with_row}
use Rattle.live_lanes.proofs.Places.{lane_of, waiting_is}
use Rattle.live_lanes.proofs.Taken.{are_whole_bytes}
use Rattle.live_end.specs.States.{State, state}
use Rattle.live_end.specs.Calls.{AreMore, GoesOn, HaveRoom, IsFlow, IsLocal, IsPacket, IsStill, MakesRow, MakesWords, Rests}
use Rattle.live_end.specs.Sending.{IsOver, Sends, Sent, progress_of, sent, with_close, with_columns, with_flow, with_given, with_local, with_packet, with_packets_closed, with_taken}

-- ---- words more

with_none : (x : Sent) → with_columns 0 [] x ≡ x
with_none x = ap (λ (w : List Word). sent x.settings x.given w (x.columns + 0) x.taken) (append-nil x.words) ∙ ap (λ n. sent x.settings x.given x.words n x.taken) (let e : x.columns + 0 ≡ x.columns = omega arith in e)

with_both : (x : Sent) (n m : ℕ) (words more : List Word) → with_columns m more (with_columns n words x) ≡ with_columns (n + m) (words ++ more) x
with_both x n m words more =
    ap (λ (w : List Word). sent x.settings x.given w (x.columns + n + m) x.taken) (append_assoc x.words words more) ∙ ap (λ c. sent x.settings x.given (x.words ++ (words ++ more)) c x.taken) (let e : x.columns + n + m ≡ x.columns + (n + m) = omega arith in e)

module _ (lane count : ℕ) where
  pub makes_none : (t : State) → MakesWords lane count t t
  makes_none t x k = (0, [], (λ n low. absurd (omega (arith, low))), subst (Sends t) (sym (with_none x)) k)

  -- a word more, where these bytes want it
  pub makes_more : (t u v : State) → MakesWords lane count t u → ((x : Sent) → Sends u x → AreMore x x.columns lane count × HaveRoom x x.columns) → MakesRow u v → MakesWords lane count t v
  makes_more t u v a wanted b x k =
      let (n, words, each, l) = a x k in
      let (more, r) = b (with_columns n words x) l in (
        n + 1,
        words ++ more,
        (λ m low. elim (cases_lt m n) [
          | inl before ↦ each m before
          | inr here ↦ (let e : m ≡ n = omega (arith, low, here) in subst (λ i. AreMore x (x.columns + i) lane count × HaveRoom x (x.columns + i)) (sym e) (wanted (with_columns n words x) l))
        ]),
        subst (Sends v) (with_both x n 1 words more) r,
      )

  -- what is sent stays so
  pub makes_same : (t u v : State) → MakesWords lane count t u → ((x : Sent) → Sends u x → Sends v x) → MakesWords lane count t v
  makes_same t u v a same x k = (let (n, words, each, l) = a x k in (n, words, each, same (with_columns n words x) l))

-- ---- what is given more

never_whole : (g : Given) (w : List Word) → g.closed ≡ None → IsWholeLiveStream g w → ⊥
never_whole g w none k = (let (closed, z, is, _, _) = k.finish in absurd (cc))

given_of : Given → Option ℕ → Given
given_of g closed = record g { closed = closed }

same_some : (a b : ℕ) → ◌≡◌ {A = Option ℕ} (Some a) (Some b) → a ≡ b
same_some a b e = cc

-- a stream that is closed here goes on
closing_goes : (g : Given) (w : List Word) → g.closed ≡ None → IsWholeLiveStream (closed_at g w) w → ⊥
closing_goes g w none k =
    let (closed, z, is, ending, _) = k.finish in
    let here : option_or g.closed (Some (length w)) ≡ Some (length w) = ap (λ (o : Option ℕ). option_or o (Some (length w))) none in
    let at : length w ≡ closed = same_some (length w) closed (sym here ∙ is) in
    let there : z < length w = slice_get_within w z (Control ending.0.control.0) ending.0.control.1 in
    let past : closed ≤ z = ending.0.after in
    absurd (omega (arith, past, at, there))

closed_same : (g : Given) (w : List Word) (c : ℕ) → g.closed ≡ Some c → closed_at g w ≡ g
unfolding given_of
closed_same g w c is = ap (given_of g) (ap (λ (o : Option ℕ). option_or o (Some (length w))) is ∙ sym is)

module _ (sch now : LiveScheduler) (lanes : Lanes) (row : List Word) (x : Sent) (k : Sends (state sch lanes row) x) where
  given_sends : (g : Given) → Gives now g x.words → g.shape.group ≡ x.given.shape.group → g.max_packet ≡ x.given.max_packet → (IsWholeLiveStream g x.words → IsWholeLiveStream x.given x.words) → (IsWholeLiveStream x.given x.words → IsWholeLiveStream g x.words) →
      Sends (state now lanes row) (with_given g x)
  given_sends g gives same long back forth = record {
    gives = gives;
    stands = k.stands;
    row = k.row;
    group = same ∙ k.group;
    longest = long ∙ k.longest;
    goes = λ a b w. k.goes a b (back w);
    whole = λ e. forth (k.whole e);
  }

  -- something that a stream takes only before it is closed
  pub more_sends : (g : Given) → Gives now g x.words → g.shape.group ≡ x.given.shape.group → g.max_packet ≡ x.given.max_packet → g.closed ≡ x.given.closed → x.given.closed ≡ None → Sends (state now lanes row) (with_given g x)
  more_sends g gives same long closed none = given_sends g gives same long (λ w. absurd (never_whole g x.words (closed ∙ none) w)) (λ w. absurd (never_whole x.given x.words none w))

  pub same_sends : Gives now x.given x.words → Sends (state now lanes row) x
  same_sends gives = record { gives = gives; stands = k.stands; row = k.row; group = k.group; longest = k.longest; goes = k.goes; whole = k.whole }

  close_by : (o : Option ℕ) → x.given.closed ≡ o → Gives now (closed_at x.given x.words) x.words → Sends (state now lanes row) (with_close x)
  close_by None none gives = given_sends (closed_at x.given x.words) gives refl refl (λ w. absurd (closing_goes x.given x.words none w)) (λ w. absurd (never_whole x.given x.words none w))
  close_by (Some c) is gives =
      let same = closed_same x.given x.words c is in
      given_sends (closed_at x.given x.words) gives refl refl (subst (λ (g : Given). IsWholeLiveStream g x.words) same) (subst (λ (g : Given). IsWholeLiveStream g x.words) (sym same))

  pub packets_sends : ((g : Given) (w : List Word) → IsWholeLiveStream g w ↔ IsWholeLiveStream (packets_closed_in g) w) → Gives now (packets_closed_in x.given) x.words → Sends (state now lanes row) (with_packets_closed x)
  packets_sends either gives = given_sends (packets_closed_in x.given) gives refl refl (λ w. (either x.given x.words).1 w) (λ w. (either x.given x.words).0 w)

  pub close_sends : Gives now (closed_at x.given x.words) x.words → Sends (state now lanes row) (with_close x)
  close_sends gives = close_by x.given.closed refl gives

ok_none : (o : Option Refused) (done : Unit {0}) → MatchOption o ((Path (Result (Unit {0}) Refused) (Ok done) (Ok tt)) ⊎ (Path (Result (Unit {0}) Refused) (Ok done) (Err refused.OutOfMemory))) (λ why. Path (Result (Unit {0}) Refused) (Ok done) (Err why)) → o ≡ None
ok_none None done h = refl
ok_none (Some why) done h = absurd (cc)

err_why : (o : Option Refused) (e : Refused) → MatchOption o ((Path (Result (Unit {0}) Refused) (Err e) (Ok tt)) ⊎ (Path (Result (Unit {0}) Refused) (Err e) (Err refused.OutOfMemory))) (λ why. Path (Result (Unit {0}) Refused) (Err e) (Err why)) →
    (o ≡ Some e) ⊎ ((o ≡ None) × (e ≡ refused.OutOfMemory))
err_why None e (inl h) = absurd (cc)
err_why None e (inr h) = inr (refl, cc)
err_why (Some why) e h = inl (cc)

not_closed : (b : Bool) (o : Option ℕ) (rest : Option Refused) → (if b || is_some o then Some refused.Closed else rest) ≡ None → o ≡ None
not_closed b None rest e = refl
not_closed true (Some c) rest e = absurd (cc)
not_closed false (Some c) rest e = absurd (cc)

-- a packet that is not refused comes before the stream is closed
not_refused : (g : Given) (channel : ℕ) (bytes : List ℕ) → refusal_of g channel bytes ≡ None → g.closed ≡ None
not_refused g channel bytes e = not_closed g.packets_closed g.closed _ e

pub packet_is : (sch now : LiveScheduler) (lanes : Lanes) (row : List Word) (channel : ℕ) (bytes : List ℕ) (r : Result (Unit {0}) Refused) →
    OnOk r ((g : Given) (w : List Word) → Gives sch g w → Gives now (packet_added g w channel bytes) w) → OnErr r ((g : Given) (w : List Word) → Gives sch g w → Gives now g w) →
    ((g : Given) (w : List Word) → Gives sch g w → MatchOption (refusal_of g channel bytes) ((r ≡ Ok tt) ⊎ (r ≡ Err refused.OutOfMemory)) (λ why. r ≡ Err why)) → IsPacket (state sch lanes row) (state now lanes row) channel bytes r
packet_is sch now lanes row channel bytes (Ok done) ok err why = (
  refl,
  λ x k.
      let none = ok_none (refusal_of x.given channel bytes) done (why x.given x.words k.gives) in
      (none, more_sends sch now lanes row x k (packet_added x.given x.words channel bytes) (ok x.given x.words k.gives) refl refl refl (not_refused x.given channel bytes none)),
)
packet_is sch now lanes row channel bytes (Err e) ok err why = (
  refl,
  λ x k.
      (err_why (refusal_of x.given channel bytes) e (why x.given x.words k.gives), same_sends sch now lanes row x k (err x.given x.words k.gives)),
)

pub packet_keeps : (t u : State) (channel : ℕ) (bytes : List ℕ) (r : Result (Unit {0}) Refused) → IsPacket t u channel bytes r → (x : Sent) → Sends t x → (y : Sent) × Sends u y
packet_keeps t u channel bytes (Ok done) h x k = (with_packet channel bytes x, (h.1 x k).1)
packet_keeps t u channel bytes (Err why) h x k = (x, (h.1 x k).1)

by_closed : (o : Option ℕ) → (o ≡ None) ⊎ ((c : ℕ) × (o ≡ Some c))
by_closed None = inl refl
by_closed (Some c) = inr (c, refl)

pub flow_is : (sch now : LiveScheduler) (lanes : Lanes) (row : List Word) (word : ℕ) (r : Result (Unit {0}) Closed) →
    ((g : Given) (w : List Word) → Gives sch g w → g.closed ≡ None → (r ≡ Ok tt) × Gives now (flow_added g w word) w) → ((g : Given) (w : List Word) (slot : ℕ) → Gives sch g w → g.closed ≡ Some slot → (is_err r ≡ true) × Gives now g w) →
    IsFlow (state sch lanes row) (state now lanes row) word r
flow_is sch now lanes row word (Ok done) going past = (
  refl,
  λ x k. elim (by_closed x.given.closed) [
    | inl none ↦ (none, more_sends sch now lanes row x k (flow_added x.given x.words word) (going x.given x.words k.gives none).1 refl refl refl none)
    | inr some ↦ absurd (false≢true (past x.given x.words some.0 k.gives some.1).0)
  ],
)
flow_is sch now lanes row word (Err why) going past = (
  refl,
  λ x k. elim (by_closed x.given.closed) [
    | inl none ↦ (let e = (going x.given x.words k.gives none).0 in absurd (cc))
    | inr some ↦ (ap (λ (o : Option ℕ). is_some o) some.1, same_sends sch now lanes row x k (past x.given x.words some.0 k.gives some.1).1)
  ],
)

pub flow_keeps : (t u : State) (word : ℕ) (r : Result (Unit {0}) Closed) → IsFlow t u word r → (x : Sent) → Sends t x → (y : Sent) × Sends u y
flow_keeps t u word (Ok done) h x k = (with_flow word x, (h.1 x k).1)
flow_keeps t u word (Err why) h x k = (x, (h.1 x k).1)

-- ---- a state of this end's own

local_none : (o : Option LocalRefused) (done : Unit {0}) → MatchOption o (Path (Result (Unit {0}) LocalRefused) (Ok done) (Ok tt)) (λ why. Path (Result (Unit {0}) LocalRefused) (Ok done) (Err why)) → o ≡ None
local_none None done h = refl
local_none (Some why) done h = absurd (cc)

local_why : (o : Option LocalRefused) (e : LocalRefused) → MatchOption o (Path (Result (Unit {0}) LocalRefused) (Err e) (Ok tt)) (λ why. Path (Result (Unit {0}) LocalRefused) (Err e) (Err why)) → o ≡ Some e
local_why None e h = absurd (cc)
local_why (Some why) e h = cc

local_not_closed : (o : Option ℕ) (rest : Option LocalRefused) → (if is_some o then Some local_refused.Closed else rest) ≡ None → o ≡ None
local_not_closed None rest e = refl
local_not_closed (Some c) rest e = absurd (cc)

-- a state that is not refused comes before the stream is closed
local_open : (g : Given) (channel : ℕ) → local_refusal_of g channel ≡ None → g.closed ≡ None
local_open g channel e = local_not_closed g.closed _ e

pub local_is : (sch now : LiveScheduler) (lanes : Lanes) (row : List Word) (channel : ℕ) (on : Bool) (r : Result (Unit {0}) LocalRefused) →
    OnOk r ((g : Given) (w : List Word) → Gives sch g w → Gives now (local_added g w channel on) w) → OnErr r ((g : Given) (w : List Word) → Gives sch g w → Gives now g w) →
    ((g : Given) (w : List Word) → Gives sch g w → MatchOption (local_refusal_of g channel) (r ≡ Ok tt) (λ why. r ≡ Err why)) → IsLocal (state sch lanes row) (state now lanes row) channel on r
local_is sch now lanes row channel on (Ok done) ok err why = (
  refl,
  λ x k.
      let none = local_none (local_refusal_of x.given channel) done (why x.given x.words k.gives) in
      (none, more_sends sch now lanes row x k (local_added x.given x.words channel on) (ok x.given x.words k.gives) refl refl refl (local_open x.given channel none)),
)
local_is sch now lanes row channel on (Err e) ok err why = (
  refl,
  λ x k.
      (local_why (local_refusal_of x.given channel) e (why x.given x.words k.gives), same_sends sch now lanes row x k (err x.given x.words k.gives)),
)

pub local_keeps : (t u : State) (channel : ℕ) (on : Bool) (r : Result (Unit {0}) LocalRefused) → IsLocal t u channel on r → (x : Sent) → Sends t x → (y : Sent) × Sends u y
local_keeps t u channel on (Ok done) h x k = (with_local channel on x, (h.1 x k).1)
local_keeps t u channel on (Err why) h x k = (x, (h.1 x k).1)

-- ---- words more of each lane

-- the next place is in the same metaframe, or its end
next_place : (r m : ℕ) → r < m → 1 ≤ (r + 1) % m → (r + 1) % m ≡ r + 1
next_place r m h some = elim (cases_lt (r + 1) m) [
  | inl l ↦ mod-eq_of_lt l
  | inr l ↦
      let e : r + 1 ≡ m = omega (arith, h, l) in
      let none : (r + 1) % m ≡ 0 = ap (λ n. n % m) e ∙ mod_self m in
      absurd (omega (arith, some, none))
]

-- a number of words that is no multiple of a group
apart : (p l q j k m : ℕ) → (q * p + j) * l + k ≡ l * p * m → j < p → k < l → 1 ≤ j * l + k → ⊥
apart p l q j k m e below within some =
    let low : j * l + k < l * p = mul-add-lt j l k p below within in
    let left : (q * p + j) * l + k ≡ q * (l * p) + (j * l + k) = omega arith in
    let right : l * p * m ≡ m * (l * p) + 0 = omega arith in
    let a = mod-mul-add q (l * p) (j * l + k) low in
    let b = mod-mul-add m (l * p) 0 (omega (arith, low)) in
    let same : j * l + k ≡ 0 = sym a ∙ ap (λ n. n % (l * p)) (sym left ∙ e ∙ right) ∙ b in
    omega (arith, some, same)

module _ (s : Settings) (limits : IsLink s) (g : Given) (group : g.shape.group ≡ group_of s) (columns : ℕ) (here : s.skips + 2 ≤ columns % s.metaframe) (within : columns % s.metaframe + 1 < s.metaframe) where
  inside : columns % s.metaframe - (s.skips + 2) < payloads s
  inside = omega (arith, here, within)

  -- so many words stand before the end of a group
  pub goes_inside : (w : List Word) (k : ℕ) → length w ≡ payload_place s columns * s.lanes + k → k < s.lanes → 1 ≤ (columns % s.metaframe - (s.skips + 2)) * s.lanes + k → IsWholeLiveStream g w → ⊥
  goes_inside w k long low some whole =
      let (closed, z, _, _, end) = whole.finish in
      apart (payloads s) s.lanes (columns / s.metaframe) (columns % s.metaframe - (s.skips + 2)) k (z / g.shape.group + 2)
      (sym long ∙ end ∙ ap (λ n. n * (z / g.shape.group + 2)) group) inside low some

module _ (sch : LiveScheduler) (lanes : Lanes) (row : List Word) (x : Sent) (k : Sends (state sch lanes row) x) where
  abbrev s : Settings
  s = x.settings

  below : x.columns % s.metaframe < s.metaframe
  below = mod-lt x.columns (omega (arith, k.stands.limits.metaframe.0))

  next_at : (next : Lanes) (p : Progress) → p.settings ≡ s → p.columns ≡ x.columns + 1 → Stands next p → 1 ≤ next.place → next.place ≡ lanes.place + 1
  next_at next p same one q some =
      let is : next.place ≡ (x.columns % s.metaframe + 1) % s.metaframe = q.place ∙ ap (λ n. n % p.settings.metaframe) one ∙ ap (λ (t : Settings). (x.columns + 1) % t.metaframe) same ∙ sym (mod-add-mod x.columns s.metaframe 1) in
      is ∙ next_place (x.columns % s.metaframe) s.metaframe below (omega (arith, some, is)) ∙ ap (λ n. n + 1) (sym k.stands.place)

  pub framed_sends : (next : Lanes) → Stands next (framed (progress_of x)) → next.ended ≡ false → (lanes.place ≡ 0 → IsWholeLiveStream x.given x.words → ⊥) → Sends (state sch next row) (with_columns 1 [] x)
  framed_sends next q going begun =
      let same : x.words ++ [] ≡ x.words = append-nil x.words in
      record {
        gives = subst (Gives sch x.given) (sym same) k.gives;
        stands = subst (λ (w : List Word). Stands next (progress s w (x.columns + 1) x.taken)) (sym same) q;
        row = k.row;
        group = k.group;
        longest = k.longest;
        goes = λ a b w.
            let whole = subst (IsWholeLiveStream x.given) same w in
            let at = next_at next (framed (progress_of x)) refl refl q a in
            elim (cases_lt 0 lanes.place) [
              | inl some ↦ k.goes (omega (arith, some)) (omega (arith, at, b)) whole
              | inr none ↦ begun (omega (arith, none)) whole
            ];
        whole = λ e. absurd (false≢true (sym going ∙ e));
      }

  wants_at : wants_payload lanes ≡ true → (s.skips + 2 ≤ x.columns % s.metaframe) × (x.columns % s.metaframe + 1 < s.metaframe)
  wants_at wants =
      let r : ℕ = x.columns % s.metaframe in
      let is : is_payload (role_of s r) ≡ true = sym (rw (k.stands.link, k.stands.place) refl) ∙ wants in
      let t = payload_there s r (role_of s r) (stands_at s r) is in
      (t.0, let m = k.stands.limits.metaframe.0 in omega (arith, t.1, m))

  -- a row more can be made
  pub row_goes : wants_payload lanes ≡ true → length x.words + 64 ≤ most_words → GoesOn (length row) x.given x.words
  row_goes wants few more low (inr most) =
      let a = length-append x.words more in
      let b = k.stands.limits.lanes.1 in
      absurd (omega (arith, a, b, few, most, low, k.row))
  row_goes wants few more low (inl whole) =
      let at = wants_at wants in
      let place = k.stands.place in
      elim (cases_lt 0 (length more)) [
        | inl some ↦
            goes_inside s k.stands.limits x.given k.group x.columns at.0 at.1 (x.words ++ more) (length more) (length-append x.words more ∙ ap (λ n. n + length more) k.stands.rows) (omega (arith, low, k.row)) (omega (arith, some)) whole
        | inr none ↦
            let nil : more ≡ [] = nil_from_length more (omega (arith, none)) in
            let same : x.words ++ more ≡ x.words = ap (λ (v : List Word). x.words ++ v) nil ∙ append-nil x.words in
            k.goes (omega (arith, place, at.0)) (omega (arith, place, at.1)) (subst (IsWholeLiveStream x.given) same whole)
      ]

  pub put_sends : (now : LiveScheduler) (next : Lanes) (new : List Word) → wants_payload lanes ≡ true → length new ≡ length row → Gives now x.given (x.words ++ new) → Stands next (with_row new (progress_of x)) → next.ended ≡ false →
      Sends (state now next new) (with_columns 1 new x)
  put_sends now next new wants long gives q going = record {
    gives = gives;
    stands = q;
    row = long ∙ k.row;
    group = k.group;
    longest = k.longest;
    goes = λ a b w.
        let at = wants_at wants in
        let here = next_at next (with_row new (progress_of x)) refl refl q a in
        let place = k.stands.place in
        let same : next.place ≡ (x.columns + 1) % s.metaframe = q.place in
        let many = k.stands.limits.lanes.0 in
        let some : 1 ≤ (x.columns + 1) % s.metaframe - (s.skips + 2) = omega (arith, at.0, here, place, same) in
        let wide : 1 * 1 ≤ ((x.columns + 1) % s.metaframe - (s.skips + 2)) * s.lanes = mul-le-mul some many in
        goes_inside s k.stands.limits x.given k.group (x.columns + 1) (omega (arith, at.0, here, place, same)) (omega (arith, b, same)) (x.words ++ new) 0 (q.rows ∙ (let e : payload_place s (x.columns + 1) * s.lanes ≡ payload_place s (x.columns + 1) * s.lanes + 0 = omega arith in e)) (omega (arith, many)) (omega (arith, wide)) w;
    whole = λ e. absurd (false≢true (sym going ∙ e));
  }

  -- the lanes end with the stream
  pub end_sends : (next : Lanes) → Stands next (progress_of x) → IsWholeLiveStream x.given x.words → Sends (state sch next row) x
  end_sends next q whole = record {
    gives = k.gives;
    stands = q;
    row = k.row;
    group = k.group;
    longest = k.longest;
    goes = λ a b w. k.goes (let e = k.stands.place in let f = q.place in omega (arith, a, e, f)) (let e = k.stands.place in let f = q.place in omega (arith, b, e, f)) w;
    whole = λ e. whole;
  }

  -- bytes of a lane are taken
  pub taken_sends : (next : Lanes) (lane : ℕ) (bytes : List ℕ) → Stands next (took lane bytes (progress_of x)) → next.ended ≡ lanes.ended → Sends (state sch next row) (with_taken lane bytes x)
  taken_sends next lane bytes q same = record {
    gives = k.gives;
    stands = q;
    row = k.row;
    group = k.group;
    longest = k.longest;
    goes = λ a b w. k.goes (let e = k.stands.place in let f = q.place in omega (arith, a, e, f)) (let e = k.stands.place in let f = q.place in omega (arith, b, e, f)) w;
    whole = λ e. k.whole (sym same ∙ e);
  }

-- ---- the room that is left

below_room : (n : ℕ) → nat_le (n + 9) 4096 ≡ true → n < 4096
below_room n e = grind (arith, nat_tests)

pub first_below : (lanes : Lanes) (p : Progress) → Stands lanes p → has_room lanes ≡ true → length (waiting_on 0 lanes) < 4096
first_below lanes p k room =
    let d : Lane = lane_of lanes p k in
    let there : 0 < length lanes.lanes = (let c = k.count in let m = k.limits.lanes.0 in omega (arith, c, m)) in
    let own = AllPass-from_list_all lane_has_room lanes.lanes room 0 d there in
    rw (waiting_is lanes 0 d there) (below_room (length (get_or lanes.lanes 0 d).waiting) own)

-- the bytes that wait are those that the words complete, but for the ones that were taken
pub wanted_more : (lanes : Lanes) (x : Sent) (lane count : ℕ) → Stands lanes (progress_of x) → lanes.ended ≡ false → lane < length lanes.lanes → length (waiting_on lane lanes) < count → AreMore x x.columns lane count
wanted_more lanes x lane count k going there low =
    let whole = are_whole_bytes lanes (progress_of x) lane k going (omega (arith, there, k.count)) in
    omega (arith, whole, low)

room_left : (n : ℕ) → nat_le (n + 9) 4096 ≡ true → n + 9 ≤ 4096
room_left n e = grind (arith, nat_tests)

-- of each lane so many bytes wait that there is room for a word more
pub with_room : (lanes : Lanes) (x : Sent) → Stands lanes (progress_of x) → lanes.ended ≡ false → has_room lanes ≡ true → HaveRoom x x.columns
with_room lanes x k going room i h =
    let d : Lane = lane_of lanes (progress_of x) k in
    let there : i < length lanes.lanes = omega (arith, h, k.count) in
    let low = room_left (length (get_or lanes.lanes i d).waiting) (AllPass-from_list_all lane_has_room lanes.lanes room i d there) in
    let same = ap (λ (b : List ℕ). length b) (waiting_is lanes i d there) in
    let whole = are_whole_bytes lanes (progress_of x) i k going h in
    omega (arith, whole, low, same)

-- a lane on which bytes wait is there
some_there : (lanes : List Lane) (lane n : ℕ) → n < length (get_or (map (λ (l : Lane). l.waiting) lanes) lane []) → lane < length lanes
some_there [] lane n h = absurd (omega (arith, h))
some_there (l ∷ lanes) zero n h = omega arith
some_there (l ∷ lanes) (suc lane) n h = (let k = some_there lanes lane n h in omega (arith, k))

pub lane_there : (lanes : Lanes) (lane n : ℕ) → n < length (waiting_on lane lanes) → lane < length lanes.lanes
lane_there lanes lane n h = some_there lanes.lanes lane n h

pub lanes_there : (lanes : Lanes) (p : Progress) → Stands lanes p → 0 < length lanes.lanes
lanes_there lanes p k = (let c = k.count in let m = k.limits.lanes.0 in omega (arith, c, m))

-- ---- the end

pub whole_if : (g : Given) (w : List Word) (b : Bool) → (b ≡ true) ↔ IsOver g w → length w < most_words → (b ≡ true) ↔ IsWholeLiveStream g w
whole_if g w b h few = (
  λ t. elim (h.0 t) [
    | inl whole ↦ whole
    | inr most ↦ absurd (omega (arith, most, few))
  ],
  λ whole. h.1 (inl whole),
)

pub rests_still : (t : State) → Rests t → ((x : Sent) → Sends t x → t.lanes.place ≡ 0 → IsWholeLiveStream x.given x.words → most_words < length x.words + 64) → IsStill t
rests_still t (inl ended) past = inl ended
rests_still t (inr (inl full)) past = inr (inl full)
rests_still t (inr (inr f)) past = inr (inr (λ x k. elim (f x k) [
  | inl p ↦ past x k p.0 p.1
  | inr most ↦ most
]))
