-- Packets of a stream begin, go on and end as the rules ask, and none is too long.
use Rattle.std.proofs.Common.{ℕ, ◌≡◌, ◌↔◌, inl, inr, ◌+◌, ◌-◌, ◌*◌, ◌%◌, ◌≤◌, Bool, true, false, cond, not, ◌&&◌, List, [], ◌∷◌, ◌++◌, length, reverse, Some, None, Option, if◌then◌else◌, ◌==◌, nat_lt, nat_le, All, refl, sym, ap, ap₂, subst, ◌∙◌, arith, eqb-true, eq-eqb, le-leb}
use Rattle.std.specs.Option.{option_map, option_map_or}
use Rattle.std.specs.List.{list_any}
use Rattle.std.proofs.lemmas.Bool.{cases_eq, ne_eqb, le-ltb, and_left, and_right, or_parts}
use Rattle.lk_base.specs.Words.{block}
use Rattle.lk_base.specs.Fields.{burst_field, sop_field, eop_field, has_burst, has_sop, has_end, channel_number, is_control_word}
use Rattle.lk_base.specs.declared.word.Word.{Word}
use Rattle.lk_base.specs.declared.word.Word.TheVariants.{Control}
use Rattle.lk_base.specs.declared.word.RxWord.{RxWord}
use Rattle.control_words.specs.declared.fields.Eop.TheVariants as eops
use Rattle.control_words.specs.ControlWord.{end_of, end_of_format}
use Rattle.stream_model.specs.BurstStream.{Source, Chunk, data_words, parts, chunks_of, bursts_in, format_after, IsBurstStream}
use Rattle.stream_model.proofs.Bursts.{is_carried}
use Rattle.delivery_laws.specs.LawOnWords.{NumbersFit}
use Rattle.delivery_laws.proofs.Fill.{count_words}
use Rattle.receive_model.specs.Lists.{first_of}
use Rattle.receive_model.proofs.Cuts.{split}
use Rattle.word_rules.specs.declared.limits.WordLimits.{WordLimits}
use Rattle.word_rules.specs.Places.{is_burst_word, known, burst_before}
use Rattle.word_rules.specs.Bursts.{bursts_from, bursts_on, is_ended, burst_bytes, whole_bytes, since_sop}
use Rattle.word_rules.specs.Rules.{is_open, breaks_sop, breaks_open, breaks_long, passes_limit}
use Rattle.word_rules.specs.declared.burst.Burst.{Burst}
use Rattle.rule_laws.proofs.Pieces.{Turns, Room, IsPiece, turns_source, room_source}
use Rattle.rule_laws.proofs.Places.{Blocks, Start, More, behind, right_of}
use Rattle.rule_laws.proofs.Behind.{burst_of, bursts_of}
use Rattle.rule_laws.proofs.Facts.{all_known}
use Rattle.rule_laws.proofs.Carrying.{number_at, after_back, over_after, turns_after, bytes_after, bytes_fit, CarriedBy, AllCarried, Fronted, first_left, on_channel, fronted}

-- ---- how a chunk ends

pub test_of : (n : ℕ) (b : Bool) → (n ≡ 1) ↔ (b ≡ true) → (n == 1) ≡ b
test_of n true h = eq-eqb n 1 (h.1 refl)
test_of n false h = ne_eqb n 1 (λ e. let t : false ≡ true = h.0 e in cc)

has_end_format : (last : Bool) (n : ℕ) → nat_le 1 (if last then 8 + n % 8 else 0) ≡ last
has_end_format true n = le-leb 1 (8 + n % 8) (omega arith)
has_end_format false n = refl

pub ends_where_last : (x : ℕ) (chunk : Chunk) → eop_field x ≡ format_after chunk → has_end x ≡ chunk.is_last
ends_where_last x chunk h = ap (nat_le 1) h ∙ has_end_format chunk.is_last (length chunk.bytes)

-- the valid bytes of the last word of so many bytes
abbrev pub valid : ℕ → ℕ
valid n = if n % 8 == 0 then 8 else n % 8

end_last : (n : ℕ) → end_of_format (8 + n % 8) ≡ eops.End (valid n)
end_last n = elim (cases_eq (n % 8) 0) [
  | inl e ↦ rw e refl
  | inr ne ↦ (
      let a : (8 + n % 8 == 0) ≡ false = ne_eqb (8 + n % 8) 0 (λ e. omega arith) in
      let b : (8 + n % 8 == 1) ≡ false = ne_eqb (8 + n % 8) 1 (λ e. omega arith) in
      let c : (8 + n % 8 == 8) ≡ false = ne_eqb (8 + n % 8) 8 (λ e. ne (omega arith)) in
      let d : (n % 8 == 0) ≡ false = ne_eqb (n % 8) 0 ne in
      let v : 8 + n % 8 - 8 ≡ n % 8 = omega arith in
      rw (a, b, c, d, v) refl)
]

pub end_of_chunk : (x : ℕ) (chunk : Chunk) → eop_field x ≡ format_after chunk → end_of x ≡ cond chunk.is_last (eops.End (valid (length chunk.bytes))) eops.Going
end_of_chunk x chunk h = ap end_of_format h ∙ by chunk.is_last (length chunk.bytes)
  where
    by : (last : Bool) (n : ℕ) → end_of_format (if last then 8 + n % 8 else 0) ≡ cond last (eops.End (valid n)) eops.Going
    by true n = end_last n
    by false n = refl

last_bytes : (n : ℕ) → 1 ≤ n → 8 * parts 8 n - (8 - valid n) ≡ n
last_bytes n some = elim (cases_eq (n % 8) 0) [
  | inl e ↦ rw e (omega arith)
  | inr ne ↦ (let d : (n % 8 == 0) ≡ false = ne_eqb (n % 8) 0 ne in let positive : 1 ≤ n % 8 = omega arith in rw d (omega arith))
]

-- the bytes that the words say are those of the chunk
pub bytes_said : (source : Source) (chunk : Chunk) (size x : ℕ) → IsPiece source.shape chunk → size ≡ length (data_words chunk.bytes) → eop_field x ≡ format_after chunk → burst_bytes size (end_of x) ≡ length chunk.bytes
bytes_said source chunk size x piece is end =
    ap₂ burst_bytes (is ∙ count_words chunk.bytes) (end_of_chunk x chunk end) ∙ by chunk.is_last (length chunk.bytes) piece.some (λ e. piece.whole e)
  where
    by : (last : Bool) (n : ℕ) → 1 ≤ n → (last ≡ false → n % 32 ≡ 0) → burst_bytes (parts 8 n) (cond last (eops.End (valid n)) eops.Going) ≡ n
    by true n some whole = last_bytes n some
    by false n some whole = (let w = whole refl in omega arith)

-- ---- open packets

ended_is : (source : Source) (chunk : Chunk) (b : Burst) → CarriedBy source chunk b → is_ended b ≡ chunk.is_last
ended_is source chunk b c = rw c.accepted (ends_where_last b.closer chunk c.end)

open_by : (source : Source) (rs : List Chunk) (bs : List Burst) → AllCarried source rs bs → option_map_or (λ (b : Burst). not (is_ended b)) (first_of bs) false ≡ not (over_after rs)
open_by source [] [] h = refl
open_by source [] (b ∷ bs) h = absurd h
open_by source (r ∷ rs) [] h = absurd h
open_by source (r ∷ rs) (b ∷ bs) (h, hs) = ap not (ended_is source r b h)

module _ (source : Source) (s : WordLimits) (fit : NumbersFit s.wide source) where
  -- the bursts before x on the channel of a word
  bursts_at : (p : List Word) (e : List RxWord) (x c channel : ℕ) → Blocks source p e x → c ≡ channel → bursts_on s.wide c x (known e) ≡ on_channel source s.wide fit channel (bursts_from x 0 e)
  bursts_at p e x c channel before same = ap₂ (λ (k : ℕ) (ws : List RxWord). bursts_on s.wide k x ws) same (all_known source p e x before)

  open_at : (p : List Word) (e : List RxWord) (x : ℕ) (before : Blocks source p e x) → is_open s.wide e x ≡ not (over_after (fronted source s.wide fit (channel_number true x) p e x before).rs)
  open_at p e x before =
      let f = fronted source s.wide fit (channel_number true x) p e x before in
      ap (λ (bs : List Burst). option_map_or (λ (b : Burst). not (is_ended b)) (first_of bs) false) (bursts_at p e x (channel_number s.wide x) (channel_number true x) before (number_at source s.wide p x fit (right_of source p e x before)))
      ∙ open_by source f.rs (on_channel source s.wide fit (channel_number true x) (bursts_from x 0 e)) f.carried

  -- a burst word has SOP exactly where its channel has no open packet
  sop_at : (p : List Word) (e : List RxWord) (x : ℕ) (q : List Word) → Blocks source p e x → IsBurstStream source (p ++ Control x ∷ q) → burst_field x ≡ 1 → is_open s.wide e x ≡ not (has_sop x)
  sop_at p e x q before stream burst =
      let channel : ℕ = channel_number true x in
      let c = is_carried source p x q stream burst in
      let f = fronted source s.wide fit channel p e x before in
      let left = first_left f.rs f.rest c.chunk (chunks_of source channel) (bursts_in p channel) f.whole f.count c.next in
      let turns : Turns true (after_back f.rs f.rest) = subst (λ (cs : List Chunk). Turns true cs) (sym f.whole) (turns_source source channel) in
      let first : Turns (over_after f.rs) (c.chunk ∷ left.0) = subst (λ (cs : List Chunk). Turns (over_after f.rs) cs) left.1 (turns_after f.rs f.rest turns) in
      let sop : has_sop x ≡ c.chunk.is_first = test_of (sop_field x) c.chunk.is_first c.start in
      open_at p e x before ∙ ap not (sym first.0 ∙ sym sop)

  neither : (a : Bool) → (a && not a) ≡ false
  neither true = refl
  neither false = refl

  or_open : (a b : Bool) → (not a && (not (not a) && b)) ≡ false
  or_open true b = refl
  or_open false b = refl

  pub keeps_sop : (p : List Word) (e : List RxWord) (x : ℕ) (q : List Word) → Blocks source p e x → IsBurstStream source (p ++ Control x ∷ q) → breaks_sop s e x ≡ false
  keeps_sop p e x q before stream = split (has_burst x)
      (λ h. and_right (is_burst_word x) (has_sop x && is_open s.wide e x) (ap (λ (b : Bool). has_sop x && b) (sop_at p e x q before stream (eqb-true (burst_field x) 1 h)) ∙ neither (has_sop x)))
      (λ h. and_left (is_burst_word x) (has_sop x && is_open s.wide e x) (and_right (is_control_word x) (has_burst x) h))

  pub keeps_open : (p : List Word) (e : List RxWord) (x : ℕ) (q : List Word) → Blocks source p e x → IsBurstStream source (p ++ Control x ∷ q) → breaks_open s e x ≡ false
  keeps_open p e x q before stream = split (has_burst x)
      (λ h. rw (sop_at p e x q before stream (eqb-true (burst_field x) 1 h)) (and_right (is_burst_word x) _ (or_open (has_sop x) _)))
      (λ h. rw h (and_left (is_control_word x && false) _ (and_right (is_control_word x) false refl)))

-- ---- the bytes of a packet

module _ (source : Source) where
  whole_size : (chunk : Chunk) (b : Burst) → CarriedBy source chunk b → is_ended b ≡ false → 8 * b.size ≡ length chunk.bytes
  whole_size chunk b c h =
      let goes_on : chunk.is_last ≡ false = sym (ended_is source chunk b c) ∙ h in
      let whole : length chunk.bytes % 32 ≡ 0 = c.piece.whole goes_on in
      let size : b.size ≡ parts 8 (length chunk.bytes) = c.size ∙ count_words chunk.bytes in
      omega arith

  some_same : (xs ys : List Burst) → Some xs ≡ Some ys → ys ≡ xs
  some_same xs ys h = cc

  pub data Mapped (b : Burst) (o : Option (List Burst)) (ys : List Burst) : Type 0 where
    Put : (zs : List Burst) → o ≡ Some zs → ys ≡ b ∷ zs → Mapped b o ys

  mapped : (b : Burst) (o : Option (List Burst)) (ys : List Burst) → option_map (λ (rest : List Burst). b ∷ rest) o ≡ Some ys → Mapped b o ys
  mapped b None ys h = cc
  mapped b (Some zs) ys h = Put zs refl (some_same (b ∷ zs) ys h)

  whole_is : (rs : List Chunk) (bs before : List Burst) → AllCarried source rs bs → since_sop bs ≡ Some before → list_any is_ended before ≡ false → whole_bytes before ≡ bytes_after rs
  whole_is [] [] before h e none = cc
  whole_is [] (b ∷ bs) before h e none = absurd h
  whole_is (r ∷ rs) [] before h e none = absurd h
  whole_is (r ∷ rs) (b ∷ bs) before (h, hs) e none =
      let sop : has_sop b.word ≡ r.is_first = test_of (sop_field b.word) r.is_first h.sop in
      split (has_sop b.word)
      (λ t.
      let first : r.is_first ≡ true = sym sop ∙ t in
      let is : before ≡ b ∷ [] = some_same (b ∷ []) before (rw t at e) in
      let going : is_ended b ≡ false = (or_parts (is_ended b) false (subst (λ (bs : List Burst). list_any is_ended bs ≡ false) is none)).0 in
      let size = whole_size r b h going in
      rw (is, first) (omega arith))
      (λ t.
      let first : r.is_first ≡ false = sym sop ∙ t in
      elim (mapped b (since_sop bs) before (rw t at e)) [
        | Put zs there is ↦ (
            let parts = or_parts (is_ended b) (list_any is_ended zs) (subst (λ (bs : List Burst). list_any is_ended bs ≡ false) is none) in
            let size = whole_size r b h parts.0 in
            let rest = whole_is rs bs zs hs there parts.1 in
            rw (is, first) (omega arith))
      ])

  not_more : (m n : ℕ) (a b : Bool) → n ≤ m → (a && (b && nat_lt m n)) ≡ false
  not_more m n a b h = rw (le-ltb m n h) (and_right a (b && false) (and_right b false refl))

  long_none : (m : ℕ) (rs : List Chunk) (b : Burst) (bs : List Burst) → AllCarried source rs (b ∷ bs) → bytes_after rs ≤ m → option_map_or (passes_limit m (end_of b.closer)) (since_sop (b ∷ bs)) false ≡ false
  long_none m [] b bs h fits = absurd h
  long_none m (r ∷ rs) b bs (h, hs) fits =
      let sop : has_sop b.word ≡ r.is_first = test_of (sop_field b.word) r.is_first h.sop in
      let size : burst_bytes b.size (end_of b.closer) ≡ length r.bytes = bytes_said source r b.size b.closer h.piece h.size h.end in
      split (has_sop b.word)
      (λ t.
      let first : r.is_first ≡ true = sym sop ∙ t in
      let here : length r.bytes ≤ m = omega (arith, rw first at fits) in
      rw t (not_more m (0 + burst_bytes b.size (end_of b.closer)) true (nat_le 0 m) (omega arith)))
      (λ t.
      let first : r.is_first ≡ false = sym sop ∙ t in
      let all : bytes_after rs + length r.bytes ≤ m = rw first at fits in
      rw t (by (since_sop bs) refl size all))
    where
      by : (o : Option (List Burst)) → since_sop bs ≡ o → burst_bytes b.size (end_of b.closer) ≡ length r.bytes → bytes_after rs + length r.bytes ≤ m
          → option_map_or (passes_limit m (end_of b.closer)) (option_map (λ (rest : List Burst). b ∷ rest) o) false ≡ false
      by None e size all = refl
      by (Some before) e size all = split (list_any is_ended before)
          (λ t. rw t refl)
          (λ t.
          let whole = whole_is rs bs before hs e t in
          not_more m (whole_bytes before + burst_bytes b.size (end_of b.closer)) (not (list_any is_ended before)) (nat_le (whole_bytes before) m) (omega arith))

module _ (source : Source) (s : WordLimits) (fit : NumbersFit s.wide source) (fits : All (λ (p : ℕ × List ℕ). length p.1 ≤ s.max_packet) source.packets) where
  bursts_here : (p : List Word) (e : List RxWord) (y : ℕ) (xs : List ℕ) (x : ℕ) → Blocks source p e y → is_burst_word y ≡ true
      → on_channel source s.wide fit (channel_number true y) (bursts_from x 0 (behind xs y e)) ≡ record { word = y; size = 0 + length xs; closer = x } ∷ on_channel source s.wide fit (channel_number true y) (bursts_from y 0 e)
  bursts_here p e y xs x before h =
      let same : (channel_number s.wide y == channel_number true y) ≡ true = eq-eqb (channel_number s.wide y) (channel_number true y) (number_at source s.wide p y fit (right_of source p e y before)) in
      ap (on_channel source s.wide fit (channel_number true y)) (bursts_of xs x 0 y e) ∙ rw (h, same) refl

  fits_here : (channel : ℕ) (p : List Word) (b : Burst) (bs : List Burst) (x : ℕ) → Fronted source channel p (b ∷ bs) → b.closer ≡ x → option_map_or (passes_limit s.max_packet (end_of x)) (since_sop (b ∷ bs)) false ≡ false
  fits_here channel p b bs x f closes =
      subst (λ (k : ℕ). option_map_or (passes_limit s.max_packet (end_of k)) (since_sop (b ∷ bs)) false ≡ false) closes
      (long_none source s.max_packet f.rs b bs f.carried (by f.rs f.rest f.carried f.whole))
    where
      by : (rs rest : List Chunk) → AllCarried source rs (b ∷ bs) → after_back rs rest ≡ chunks_of source channel → bytes_after rs ≤ s.max_packet
      by [] rest h whole = absurd h
      by (r ∷ rs) rest h whole = bytes_fit s.max_packet r rs rest (subst (λ (cs : List Chunk). Room s.max_packet 0 cs) (sym whole) (room_source source s.max_packet channel 0 fits))

  pub keeps_long : (p : List Word) (e : List RxWord) (x : ℕ) → Blocks source p e x → breaks_long s e x ≡ false
  keeps_long _ _ _ (Start x right) = and_right (is_control_word x) false refl
  keeps_long _ _ _ (More p e y xs x before right closed) = split (is_burst_word y)
      (λ h.
      let all : List Word = p ++ block y (reverse xs) in
      let f = fronted source s.wide fit (channel_number true y) all (behind xs y e) x (More p e y xs x before right closed) in
      let here = bursts_here p e y xs x before h in
      let front : Fronted source (channel_number true y) all (record { word = y; size = 0 + length xs; closer = x } ∷ on_channel source s.wide fit (channel_number true y) (bursts_from y 0 e)) =
      subst (λ (bs : List Burst). Fronted source (channel_number true y) all bs) here f in
      let is : bursts_on s.wide (channel_number s.wide y) x (known (behind xs y e)) ≡ record { word = y; size = 0 + length xs; closer = x } ∷ on_channel source s.wide fit (channel_number true y) (bursts_from y 0 e) =
      bursts_at source s fit all (behind xs y e) x (channel_number s.wide y) (channel_number true y) (More p e y xs x before right closed) (number_at source s.wide p y fit (right_of source p e y before)) ∙ here in
      let found : burst_before (behind xs y e) ≡ Some y = burst_of xs y e ∙ rw h refl in
      let none : option_map_or (passes_limit s.max_packet (end_of x)) (since_sop (bursts_on s.wide (channel_number s.wide y) x (known (behind xs y e)))) false ≡ false =
      ap (λ (bs : List Burst). option_map_or (passes_limit s.max_packet (end_of x)) (since_sop bs) false) is
      ∙ fits_here (channel_number true y) all (record { word = y; size = 0 + length xs; closer = x }) (on_channel source s.wide fit (channel_number true y) (bursts_from y 0 e)) x front refl in
      and_right (is_control_word x) _ (ap (λ (o : Option ℕ). option_map_or (λ word. option_map_or (passes_limit s.max_packet (end_of x)) (since_sop (bursts_on s.wide (channel_number s.wide word) x (known (behind xs y e)))) false) o false) found ∙ none))
      (λ h.
      let found : burst_before (behind xs y e) ≡ None = burst_of xs y e ∙ rw h refl in
      and_right (is_control_word x) _ (ap (λ (o : Option ℕ). option_map_or (λ word. option_map_or (passes_limit s.max_packet (end_of x)) (since_sop (bursts_on s.wide (channel_number s.wide word) x (known (behind xs y e)))) false) o false) found))
