-- Words without a fault: the bursts of each channel among the verified words go on as the rules ask.
use Rattle.std.proofs.Common.{ℕ, ◌≡◌, ◌+◌, ◌*◌, ◌≤◌, ◌<◌, ◌==◌, nat_lt, nat_le, Bool, true, false, not, ◌&&◌, ◌||◌, cond, List, [], ◌∷◌, ◌++◌, append_assoc, append-nil, length, reverse, map, filter, Option, Some, None, is_some, refl, sym, ap, ap₂, subst, subst₂, ◌∙◌, arith, eqb-true, leb-false, le-leb, ltb-false}
use Rattle.std.specs.List.{list_any}
use Rattle.std.specs.Option.{option_map, option_map_or, option_and_then}
use Rattle.std.proofs.lemmas.Bool.{and_right, or_right, not-false}
use Rattle.std.proofs.lemmas.Bool.Decides.{nat_tests}
use Rattle.std.proofs.lemmas.List.{reverse-append, length-reverse}
use Rattle.lk_base.specs.declared.position.Pos.{Pos}
use Rattle.lk_base.specs.declared.word.RxWord.{RxWord}
use Rattle.lk_base.specs.declared.word.RxWord.TheVariants.{Data, Control, Bad}
use Rattle.lk_base.specs.Fields.{channel_number, eop_field, has_burst, has_sop, has_end, is_control_word}
use Rattle.lk_base.specs.Words.{is_bad}
use Rattle.control_words.specs.declared.fields.Eop.TheVariants as eops
use Rattle.control_words.specs.ControlWord.{end_of}
use Rattle.receive_model.specs.Lists.{first_of, neighbours}
use Rattle.receive_model.specs.Positions.{Placed, placed_from, numbered}
use Rattle.receive_model.specs.Stretches.{Headed, headed, is_no_control, between, data_among, Verified, last_word, stretches}
use Rattle.receive_model.specs.Pieces.{Burst, bursts, is_of_channel}
use Rattle.receive_model.proofs.Cuts.{split, same}
use Rattle.receive_model.proofs.HeadsOn.{headed-cons}
use Rattle.word_rules.specs.declared.burst.Burst.{Burst as Closed}
use Rattle.word_rules.specs.Places.{known, burst_before}
use Rattle.word_rules.specs.Bursts.{bursts_on, is_ended, burst_bytes, whole_bytes, since_sop}
use Rattle.word_rules.specs.Rules.{is_open, last_burst, is_listed, passes_limit}
use Rattle.word_rules.specs.Channels.{held_of, held}
use Rattle.word_rules.specs.Faults.{Plan, faults_from, faults}
use Rattle.rule_laws.proofs.Places.{behind}
use Rattle.rule_laws.proofs.Behind.{burst_of, bursts_of, known_of, any_bad_of}
use Rattle.rule_laws.proofs.Unbroken.{Keeps, keeps_at, faults_on}
use Rattle.rule_laws.proofs.ToldPieces.{EndFits, GoRight}

-- ---- one burst more of a channel

-- the packet goes on after these bursts, the last first
abbrev pub going_of : List Closed → Bool
going_of bs = option_map_or (λ (b : Closed). not (is_ended b)) (first_of bs) false

no_end_goes_on : (x : ℕ) → has_end x ≡ false → end_of x ≡ eops.Going
no_end_goes_on x h = let below : eop_field x < 1 = leb-false 1 (eop_field x) h in let zero : eop_field x ≡ 0 = omega arith in rw zero refl

-- what is known of the bytes before the burst b, and with it: they are not too many, where v closes it
record More (m : ℕ) (b : Closed) (v : Verified) (o with_it : Option ℕ) : Type 0 where
  fits : EndFits m o b.size (Some v)
  bytes : with_it ≡ cond (has_end b.closer) None (option_map (λ n. 8 * b.size + n) o)

more_none : (m : ℕ) (b : Closed) (v : Verified) → More m b v None None
more_none m b v = record { fits = tt; bytes = split (has_end b.closer) (λ t. rw t refl) (λ t. rw t refl) }

-- after bursts of which none is ended, and which have w bytes
more_known : (m w : ℕ) (b : Closed) (v : Verified) → v.number ≡ b.closer → is_control_word b.closer ≡ true → nat_lt m (w + burst_bytes b.size (end_of b.closer)) ≡ false
    → More m b v (Some w) (cond (not (is_ended b || false) && nat_le (8 * b.size + w) m) (Some (8 * b.size + w)) None)
more_known m w b v same accepted h =
    let all : w + burst_bytes b.size (end_of b.closer) ≤ m = ltb-false m (w + burst_bytes b.size (end_of b.closer)) h in
    record {
      fits = subst (λ y. w + burst_bytes b.size (end_of y) ≤ m) (sym same) all;
      bytes = split (has_end b.closer)
          (λ t. rw (accepted, t) refl)
          (λ t.
          let whole : w + 8 * b.size ≤ m = rw (no_end_goes_on b.closer t) at all in
          rw (accepted, t, le-leb (8 * b.size + w) m (omega arith)) refl);
    }

more_of : (m : ℕ) (b : Closed) (v : Verified) (r : List Closed) → v.number ≡ b.closer → is_control_word b.closer ≡ true → passes_limit m (end_of b.closer) (b ∷ r) ≡ false
    → More m b v (held_of m r) (held_of m (b ∷ r))
more_of m b v r same accepted h = split (list_any is_ended r)
    (λ t. rw (t, or_right (is_ended b) true refl) (more_none m b v))
    (λ t. split (nat_le (whole_bytes r) m)
    (λ few. rw (t, few) (more_known m (whole_bytes r) b v same accepted (rw (t, few) at h)))
    (λ many.
    let over : m < whole_bytes r = leb-false (whole_bytes r) m many in
    let none : nat_le (8 * b.size + whole_bytes r) m ≡ false = grind (arith, nat_tests) in
    rw (t, many, none, and_right (not (is_ended b || false)) false refl) (more_none m b v)))

more : (m : ℕ) (b : Closed) (v : Verified) (bs : List Closed) → v.number ≡ b.closer → is_control_word b.closer ≡ true → option_map_or (passes_limit m (end_of b.closer)) (since_sop (b ∷ bs)) false ≡ false
    → More m b v (cond (has_sop b.word) (Some 0) (held m bs)) (held m (b ∷ bs))
more m b v bs same accepted h = split (has_sop b.word)
    (λ t.
    let least : held_of m [] ≡ Some 0 = rw (le-leb 0 m (omega arith)) refl in
    rw t (subst (λ o. More m b v o (held_of m (b ∷ []))) least (more_of m b v [] same accepted (rw t at h))))
    (λ t. rw t (by (since_sop bs) (rw t at h)))
  where
    by : (o : Option (List Closed)) → option_map_or (passes_limit m (end_of b.closer)) (option_map (λ (rest : List Closed). b ∷ rest) o) false ≡ false
        → More m b v (option_and_then (held_of m) o) (option_and_then (held_of m) (option_map (λ (rest : List Closed). b ∷ rest) o))
    by None h = more_none m b v
    by (Some r) h = more_of m b v r same accepted h

-- a burst as the rules have it, in front of the bursts after it as the receiver has them
one_more : (listed : Bool) (m : ℕ) (bs : List Closed) (at : Pos) (x : ℕ) (w : Verified) (tail : List Burst) → listed ≡ true → is_control_word w.number ≡ true
    → has_sop x ≡ not (going_of bs)
    → option_map_or (passes_limit m (end_of w.number)) (since_sop (record { word = x; size = length w.data_before; closer = w.number } ∷ bs)) false ≡ false
    → GoRight listed m (going_of (record { word = x; size = length w.data_before; closer = w.number } ∷ bs)) (held m (record { word = x; size = length w.data_before; closer = w.number } ∷ bs)) tail
    → GoRight listed m (going_of bs) (held m bs) (record { at = at; number = x; next = Some w } ∷ tail)
one_more listed m bs at x w tail is_known accepted sop long rest =
    let b : Closed = record { word = x; size = length w.data_before; closer = w.number } in
    let told = more m b w bs refl accepted long in
    let going : going_of (b ∷ bs) ≡ not (has_end w.number) = rw accepted refl in
    (is_known, sop, told.fits, subst₂ (λ g o. GoRight listed m g o tail) going told.bytes rest)

-- ---- one Control word

-- no Bad word is among these
pub record Clear (e : List RxWord) : Type 0 where
  all : known e ≡ e
  none : list_any is_bad e ≡ false

clear_start : Clear []
clear_start = record { all = refl; none = refl }

clear_on : (xs : List ℕ) (x : ℕ) (e : List RxWord) → Clear e → Clear (behind xs x e)
clear_on xs x e c = record { all = known_of xs x e ∙ ap (behind xs x) c.all; none = any_bad_of xs x e ∙ c.none }

one_of_two : (s o q : Bool) → q ≡ true → (s && o) ≡ false → (not s && (not o && q)) ≡ false → s ≡ not o
one_of_two true true q t h k = h
one_of_two true false q t h k = refl
one_of_two false true q t h k = refl
one_of_two false false q t h k = sym k ∙ t

module _ (p : Plan) (channel : ℕ) where
  -- the closed bursts of the channel before the Control word x, the last first
  abbrev closed_on : List RxWord → ℕ → List Closed
  closed_on e x = bursts_on p.limits.wide channel x e

  listed_right : (e : List RxWord) (x : ℕ) → Keeps p e x → has_burst x ≡ true → channel_number p.limits.wide x ≡ channel → is_listed p.channels channel ≡ true
  listed_right e x k burst same =
      let accepted = not-false (is_control_word x) k.control in
      not-false (is_listed p.channels channel) (rw (accepted, burst, same) at k.channel)

  sop_right : (e : List RxWord) (x : ℕ) → Clear e → Keeps p e x → has_burst x ≡ true → channel_number p.limits.wide x ≡ channel → has_sop x ≡ not (going_of (closed_on e x))
  sop_right e x c k burst same =
      let accepted = not-false (is_control_word x) k.control in
      let open_is : is_open p.limits.wide e x ≡ going_of (closed_on e x) = ap₂ (λ i ws. going_of (bursts_on p.limits.wide i x ws)) same c.all in
      let seen : (is_some (last_burst p.limits.wide e x) || not (list_any is_bad e)) ≡ true = or_right (is_some (last_burst p.limits.wide e x)) (not (list_any is_bad e)) (ap not c.none) in
      one_of_two (has_sop x) (is_open p.limits.wide e x) (is_some (last_burst p.limits.wide e x) || not (list_any is_bad e)) seen (rw (accepted, burst) at k.sop) (rw (accepted, burst) at k.going_on)
      ∙ ap not open_is

  -- the closed bursts before the next Control word
  closed_more : (ys : List ℕ) (x y : ℕ) (e : List RxWord) → is_control_word x ≡ true
      → closed_on (behind ys x e) y ≡ cond (has_burst x && (channel_number p.limits.wide x == channel)) (record { word = x; size = length ys; closer = y } ∷ closed_on e x) (closed_on e x)
  closed_more ys x y e accepted =
      let size : 0 + length ys ≡ length ys = omega arith in
      ap (filter (λ (b : Closed). channel_number p.limits.wide b.word == channel)) (bursts_of ys y 0 x e)
      ∙ rw (accepted, size) (split (has_burst x)
      (λ t. rw t refl)
      (λ t. rw t refl))

  long_right : (ys : List ℕ) (x y : ℕ) (e : List RxWord) → Clear e → is_control_word x ≡ true → Keeps p (behind ys x e) y → has_burst x ≡ true → channel_number p.limits.wide x ≡ channel
      → option_map_or (passes_limit p.limits.max_packet (end_of y)) (since_sop (closed_on (behind ys x e) y)) false ≡ false
  long_right ys x y e c accepted k burst same =
      let closes = not-false (is_control_word y) k.control in
      let found : burst_before (behind ys x e) ≡ Some x = burst_of ys x e ∙ rw (accepted, burst) refl in
      let here = rw (closes, found) at k.long in
      subst₂ (λ i ws. option_map_or (passes_limit p.limits.max_packet (end_of y)) (since_sop (bursts_on p.limits.wide i y ws)) false ≡ false) same (clear_on ys x e c).all here

  -- the bursts of the receiver from a control word on, given those after it
  abbrev from_head : Headed → List Headed → List Burst
  from_head z later = bursts (last_word (between (z, z)) ∷ map last_word (map between (neighbours (z ∷ later)))) None

  -- they go on as the rules ask, after the words e
  abbrev Right : List RxWord → Headed → List Headed → Type 0
  Right e z later =
      GoRight (is_listed p.channels channel) p.limits.max_packet (going_of (closed_on e z.number)) (held p.limits.max_packet (closed_on e z.number))
      (filter (is_of_channel p.limits.wide channel) (from_head z later))

  -- the words after the control word x, which has the data xs so far: the last first
  abbrev Next : ℕ → List RxWord → List ℕ → List Placed → List Headed → Type 0
  Next x e xs inner [] = Unit {0}
  Next x e xs inner (z ∷ later) = Keeps p (behind (reverse (data_among inner) ++ xs) x e) z.number × Right (behind (reverse (data_among inner) ++ xs) x e) z later

  right_last : (e : List RxWord) (at : Pos) (x : ℕ) (inner : List Placed) → Clear e → Keeps p e x → Right e (record { at = at; number = x; following = inner }) []
  right_last e at x inner c k = split (has_burst x)
      (λ burst. split (channel_number p.limits.wide x == channel)
      (λ t. let same = eqb-true (channel_number p.limits.wide x) channel t in rw (burst, t) (listed_right e x k burst same, sop_right e x c k burst same, tt, tt))
      (λ f. rw (burst, f) tt))
      (λ idle. rw idle tt)

  right_more : (e : List RxWord) (at : Pos) (x : ℕ) (inner : List Placed) (z : Headed) (later : List Headed) → Clear e → Keeps p e x → Next x e [] inner (z ∷ later)
      → Right e (record { at = at; number = x; following = inner }) (z ∷ later)
  right_more e at x inner z later c k (kz, rz) =
      let accepted = not-false (is_control_word x) k.control in
      let ds = data_among inner in
      let ys = reverse ds ++ [] in
      let m = p.limits.max_packet in
      let w = last_word (between (record { at = at; number = x; following = inner }, z)) in
      let size : length ys ≡ length ds = ap length (append-nil (reverse ds)) ∙ length-reverse ds in
      let is = closed_more ys x z.number e accepted in
      let P : List Closed → Type 0 = λ bs. GoRight (is_listed p.channels channel) m (going_of bs) (held m bs) (filter (is_of_channel p.limits.wide channel) (from_head z later)) in
      let L : List Closed → Type 0 = λ bs. option_map_or (passes_limit m (end_of z.number)) (since_sop bs) false ≡ false in
      split (has_burst x)
      (λ burst. split (channel_number p.limits.wide x == channel)
      (λ t.
      let same = eqb-true (channel_number p.limits.wide x) channel t in
      let one : closed_on (behind ys x e) z.number ≡ record { word = x; size = length ds; closer = z.number } ∷ closed_on e x = is ∙ rw (burst, t, size) refl in
      rw (burst, t)
      (one_more (is_listed p.channels channel) m (closed_on e x) at x w (filter (is_of_channel p.limits.wide channel) (from_head z later))
      (listed_right e x k burst same) (not-false (is_control_word z.number) kz.control) (sop_right e x c k burst same)
      (subst L one (long_right ys x z.number e c accepted kz burst same)) (subst P one rz)))
      (λ f. let same_ones : closed_on (behind ys x e) z.number ≡ closed_on e x = is ∙ rw (burst, f) refl in rw (burst, f) (subst P same_ones rz)))
      (λ idle. let same_ones : closed_on (behind ys x e) z.number ≡ closed_on e x = is ∙ rw idle refl in rw idle (subst P same_ones rz))

  right_at : (e : List RxWord) (at : Pos) (x : ℕ) (inner : List Placed) (heads : List Headed) → Clear e → Keeps p e x → Next x e [] inner heads
      → Right e (record { at = at; number = x; following = inner }) heads
  right_at e at x inner [] c k next = right_last e at x inner c k
  right_at e at x inner (z ∷ later) c k next = right_more e at x inner z later c k next

  next_of : (x : ℕ) (e : List RxWord) → Clear e → (q : Placed) (n : ℕ) (xs : List ℕ) (words : List RxWord) → faults_from p (behind xs x e) words ≡ []
      → Next x e xs (same is_no_control q (placed_from n words)) (headed (placed_from n words))
  next_of x e c q n xs [] h = tt
  next_of x e c q n xs (Data d ∷ words) h =
      let here : Placed = record { at = numbered n; word = Data d } in
      rw (headed-cons here (placed_from (n + 1) words))
      (by (headed (placed_from (n + 1) words)) (same is_no_control here (placed_from (n + 1) words)) (next_of x e c here (n + 1) (d ∷ xs) words (faults_on p (behind xs x e) (Data d) words h).1))
    where
      by : (heads : List Headed) (inner : List Placed) → Next x e (d ∷ xs) inner heads → Next x e xs (record { at = numbered n; word = Data d } ∷ inner) heads
      by [] inner right = tt
      by (z ∷ later) inner right =
          let ds = data_among inner in
          let pushed : reverse ds ++ d ∷ xs ≡ reverse (d ∷ ds) ++ xs = sym (ap (λ ys. ys ++ xs) (reverse-append (d ∷ []) ds) ∙ append_assoc (reverse ds) (d ∷ []) xs) in
          subst (λ ys. Keeps p (behind ys x e) z.number × Right (behind ys x e) z later) pushed right
  next_of x e c q n xs (Control y ∷ words) h =
      let here : Placed = record { at = numbered n; word = Control y } in
      let on = faults_on p (behind xs x e) (Control y) words h in
      let kept = keeps_at p (behind xs x e) y (first_of words) on.0 in
      let clear = clear_on xs x e c in
      rw (headed-cons here (placed_from (n + 1) words))
      (kept, right_at (behind xs x e) (numbered n) y (same is_no_control here (placed_from (n + 1) words)) (headed (placed_from (n + 1) words)) clear kept (next_of y (behind xs x e) clear here (n + 1) [] words on.1))
  next_of x e c q n xs (Bad ∷ words) h = cc

  -- all bursts of the channel among the verified words
  pub run_right : (words : List RxWord) → faults p words ≡ [] → (going : Bool) × (known_bytes : Option ℕ)
      × GoRight (is_listed p.channels channel) p.limits.max_packet going known_bytes (filter (is_of_channel p.limits.wide channel) (bursts (map last_word (stretches (placed_from 0 words))) None))
  run_right [] h = (false, None, tt)
  run_right (Data d ∷ words) h = cc
  run_right (Bad ∷ words) h = cc
  run_right (Control x ∷ words) h =
      let here : Placed = record { at = numbered 0; word = Control x } in
      let on = faults_on p [] (Control x) words h in
      rw (headed-cons here (placed_from 1 words))
      (by (headed (placed_from 1 words)) (same is_no_control here (placed_from 1 words)) (next_of x [] clear_start here 1 [] words on.1))
    where
      by : (heads : List Headed) (inner : List Placed) → Next x [] [] inner heads → (going : Bool) × (known_bytes : Option ℕ)
          × GoRight (is_listed p.channels channel) p.limits.max_packet going known_bytes (filter (is_of_channel p.limits.wide channel) (bursts (map last_word (map between (neighbours (record { at = numbered 0; number = x; following = inner } ∷ heads)))) None))
      by [] inner next = (false, None, tt)
      by (z ∷ later) inner (kz, rz) = (
        going_of (closed_on (behind (reverse (data_among inner) ++ []) x []) z.number),
        held p.limits.max_packet (closed_on (behind (reverse (data_among inner) ++ []) x []) z.number),
        rz,
      )
