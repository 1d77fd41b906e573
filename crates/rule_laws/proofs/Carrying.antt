-- The closed bursts of a channel before a control word carry the first of its chunks.
use Rattle.std.proofs.Common.{ℕ, suc, ◌≡◌, ◌↔◌, ◌+◌, ◌≤◌, Bool, true, false, cond, List, [], ◌∷◌, ◌++◌, length, reverse, filter, Some, slice_get, ◌==◌, refl, sym, ap, subst, ◌∙◌, arith, eqb-true, eq-eqb}
use Rattle.std.proofs.lemmas.Bool.{and_from, and_left, and_right}
use Rattle.std.proofs.lemmas.List.{length-reverse}
use Rattle.lk_base.specs.Words.{block}
use Rattle.lk_base.specs.Fields.{burst_field, sop_field, eop_field, has_burst, channel_number, is_control_word}
use Rattle.lk_base.specs.declared.word.Word.{Word}
use Rattle.lk_base.specs.declared.word.Word.TheVariants.{Control}
use Rattle.lk_base.specs.declared.word.RxWord.{RxWord}
use Rattle.stream_model.specs.BurstStream.{Source, Chunk, data_words, chunks_of, is_burst_on, bursts_in, format_after, IsRightControl}
use Rattle.stream_model.proofs.BurstsHold.{narrow_right}
use Rattle.delivery_laws.specs.LawOnWords.{NumbersFit}
use Rattle.receive_model.proofs.Cuts.{split}
use Rattle.word_rules.specs.Places.{is_burst_word}
use Rattle.word_rules.specs.Bursts.{bursts_from}
use Rattle.word_rules.specs.declared.burst.Burst.{Burst}
use Rattle.rule_laws.proofs.Pieces.{Turns, Room, bytes_with, IsPiece, piece_at}
use Rattle.rule_laws.proofs.Places.{Blocks, Start, More, Holds, IsClosed, behind, right_of}
use Rattle.rule_laws.proofs.Behind.{bursts_of}
use Rattle.rule_laws.proofs.Facts.{accepted_at, bursts_more}

-- the channel of a control word, however numbers are read
pub number_at : (source : Source) (wide : Bool) (p : List Word) (x : ℕ) → NumbersFit wide source → IsRightControl source p x → channel_number wide x ≡ channel_number true x
number_at source true p x fit right = refl
number_at source false p x fit right = sym (narrow_right source p x fit right).0

-- ---- a list and the same with its front turned round

-- the elements rs, the last first, and then others
abbrev pub after_back : List Chunk → List Chunk → List Chunk
after_back [] rest = rest
after_back (r ∷ rs) rest = after_back rs (r ∷ rest)

pub get_seam : (rs rest : List Chunk) (k : ℕ) → slice_get (after_back rs rest) (length rs + k) ≡ slice_get rest k
get_seam [] rest k = let e : 0 + k ≡ k = omega arith in rw e refl
get_seam (r ∷ rs) rest k = let e : suc (length rs) + k ≡ length rs + suc k = omega arith in rw e (get_seam rs (r ∷ rest) (suc k))

-- whether a packet is over after these chunks, the last first
abbrev pub over_after : List Chunk → Bool
over_after [] = true
over_after (r ∷ rs) = r.is_last

pub turns_after : (rs rest : List Chunk) → Turns true (after_back rs rest) → Turns (over_after rs) rest
turns_after [] rest h = h
turns_after (r ∷ rs) rest h = (turns_after rs (r ∷ rest) h).1

-- the bytes of the packet that the last of these chunks is of, up to it
abbrev pub bytes_after : List Chunk → ℕ
bytes_after [] = 0
bytes_after (r ∷ rs) = bytes_with (bytes_after rs) r

pub room_after : (m : ℕ) (rs rest : List Chunk) → Room m 0 (after_back rs rest) → Room m (bytes_after rs) rest
room_after m [] rest h = h
room_after m (r ∷ rs) rest h = (room_after m rs (r ∷ rest) h).1

pub bytes_fit : (m : ℕ) (r : Chunk) (rs rest : List Chunk) → Room m 0 (after_back (r ∷ rs) rest) → bytes_after (r ∷ rs) ≤ m
bytes_fit m r rs rest h = (room_after m rs (r ∷ rest) h).0

-- ---- bursts that carry chunks

pub record CarriedBy (source : Source) (chunk : Chunk) (b : Burst) : Type 0 where
  pub piece : IsPiece source.shape chunk
  pub sop : (sop_field b.word ≡ 1) ↔ (chunk.is_first ≡ true)
  pub size : b.size ≡ length (data_words chunk.bytes)
  pub end : eop_field b.closer ≡ format_after chunk
  pub accepted : is_control_word b.closer ≡ true

abbrev pub AllCarried : Source → List Chunk → List Burst → Type 0
AllCarried source [] [] = Unit {0}
AllCarried source [] (b ∷ bs) = ⊥
AllCarried source (r ∷ rs) [] = ⊥
AllCarried source (r ∷ rs) (b ∷ bs) = CarriedBy source r b × AllCarried source rs bs

-- the bursts, the last first, carry the chunks of the channel before those that are left
pub record Fronted (source : Source) (channel : ℕ) (p : List Word) (bs : List Burst) : Type 0 where
  pub rs : List Chunk
  pub rest : List Chunk
  pub whole : after_back rs rest ≡ chunks_of source channel
  pub count : length rs ≡ bursts_in p channel
  pub carried : AllCarried source rs bs

-- the first that is left
pub first_left : (rs rest : List Chunk) (chunk : Chunk) (all : List Chunk) (n : ℕ) → after_back rs rest ≡ all → length rs ≡ n → slice_get all n ≡ Some chunk → (later : List Chunk) × (rest ≡ chunk ∷ later)
first_left rs rest chunk all n whole count at = by rest (sym (get_seam rs rest 0) ∙ ap (slice_get (after_back rs rest)) (let e : length rs + 0 ≡ n = omega arith in e) ∙ ap (λ (cs : List Chunk). slice_get cs n) whole ∙ at)
  where
    by : (rest : List Chunk) → slice_get rest 0 ≡ Some chunk → (later : List Chunk) × (rest ≡ chunk ∷ later)
    by [] h = cc
    by (r ∷ rest) h = let e : r ≡ chunk = cc in (rest, ap (λ (c : Chunk). c ∷ rest) e)

fronted_more : (source : Source) (channel : ℕ) (p : List Word) (y : ℕ) (xs : List ℕ) (x : ℕ) (bs : List Burst) → is_control_word x ≡ true → burst_field y ≡ 1 → channel_number true y ≡ channel
    → Holds source p y xs x → Fronted source channel p bs → Fronted source channel (p ++ block y (reverse xs)) (record { word = y; size = length xs; closer = x } ∷ bs)
fronted_more source channel p y xs x bs right burst on h f =
    let next : slice_get (chunks_of source channel) (bursts_in p channel) ≡ Some h.chunk = rw on at h.next in
    let left = first_left f.rs f.rest h.chunk (chunks_of source channel) (bursts_in p channel) f.whole f.count next in
    let one : is_burst_on channel (Control y) ≡ true = rw (burst, eq-eqb (channel_number true y) channel on) refl in
    let more : bursts_in (p ++ block y (reverse xs)) channel ≡ bursts_in p channel + 1 = bursts_more p y (reverse xs) channel ∙ rw one refl in
    let count = f.count in
    let long : length (reverse xs) ≡ length xs = length-reverse xs in
    let same : length (reverse xs) ≡ length (data_words h.chunk.bytes) = ap length h.words in
    record {
      rs = h.chunk ∷ f.rs;
      rest = left.0;
      whole = subst (λ (cs : List Chunk). after_back f.rs cs ≡ chunks_of source channel) left.1 f.whole;
      count = omega arith;
      carried = (record { piece = piece_at source channel (bursts_in p channel) h.chunk next; sop = h.start; size = sym long ∙ same; end = h.end; accepted = right }, f.carried);
    }

fronted_other : (source : Source) (channel : ℕ) (p : List Word) (y : ℕ) (ds : List ℕ) (bs : List Burst) → is_burst_on channel (Control y) ≡ false → Fronted source channel p bs → Fronted source channel (p ++ block y ds) bs
fronted_other source channel p y ds bs off f =
    let same : bursts_in (p ++ block y ds) channel ≡ bursts_in p channel + 0 = bursts_more p y ds channel ∙ rw off refl in
    let count = f.count in
    record { rs = f.rs; rest = f.rest; whole = f.whole; count = omega arith; carried = f.carried }

module _ (source : Source) (wide : Bool) (fit : NumbersFit wide source) (channel : ℕ) where
  abbrev pub on_channel : List Burst → List Burst
  on_channel bs = filter (λ (b : Burst). channel_number wide b.word == channel) bs

  fronted_block : (p : List Word) (e : List RxWord) (y : ℕ) (xs : List ℕ) (x : ℕ) → Blocks source p e y → is_control_word x ≡ true → IsClosed source p y xs x → Fronted source channel p (on_channel (bursts_from y 0 e))
      → Fronted source channel (p ++ block y (reverse xs)) (on_channel (bursts_from x 0 (behind xs y e)))
  fronted_block p e y xs x before right closed f =
      let number : channel_number wide y ≡ channel_number true y = number_at source wide p y fit (right_of source p e y before) in
      let zero_more : 0 + length xs ≡ length xs = omega arith in
      let is : bursts_from x 0 (behind xs y e) ≡ cond (is_burst_word y) (record { word = y; size = length xs; closer = x } ∷ bursts_from y 0 e) (bursts_from y 0 e) =
      bursts_of xs x 0 y e ∙ ap (λ (k : ℕ). cond (is_burst_word y) (record { word = y; size = k; closer = x } ∷ bursts_from y 0 e) (bursts_from y 0 e)) zero_more in
      let P : List Burst → Type 0 = λ bs. Fronted source channel (p ++ block y (reverse xs)) (on_channel bs) in
      let control : is_control_word y ≡ true = accepted_at source p e y before in
      subst P (sym is)
      (split (has_burst y)
      (λ h.
      let burst : burst_field y ≡ 1 = eqb-true (burst_field y) 1 h in
      let word : is_burst_word y ≡ true = and_from (is_control_word y) (has_burst y) control h in
      rw word
      (split (channel_number true y == channel)
      (λ on.
      let narrow : (channel_number wide y == channel) ≡ true = ap (λ (n : ℕ). n == channel) number ∙ on in
      rw narrow (fronted_more source channel p y xs x (on_channel (bursts_from y 0 e)) right burst (eqb-true (channel_number true y) channel on) (closed.burst burst) f))
      (λ off.
      let narrow : (channel_number wide y == channel) ≡ false = ap (λ (n : ℕ). n == channel) number ∙ off in
      rw narrow (fronted_other source channel p y (reverse xs) (on_channel (bursts_from y 0 e)) (and_right (has_burst y) (channel_number true y == channel) off) f))))
      (λ h.
      let word : is_burst_word y ≡ false = and_right (is_control_word y) (has_burst y) h in
      rw word (fronted_other source channel p y (reverse xs) (on_channel (bursts_from y 0 e)) (and_left (has_burst y) (channel_number true y == channel) h) f)))

  pub fronted : (p : List Word) (e : List RxWord) (x : ℕ) → Blocks source p e x → Fronted source channel p (on_channel (bursts_from x 0 e))
  fronted _ _ _ (Start x right) = record { rs = []; rest = chunks_of source channel; whole = refl; count = refl; carried = tt }
  fronted _ _ _ (More p e y xs x before right closed) =
      fronted_block p e y xs x before (accepted_at source (p ++ block y (reverse xs)) (behind xs y e) x (More p e y xs x before right closed)) closed (fronted p e y before)
