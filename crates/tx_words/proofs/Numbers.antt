-- Which packet of its channel an SOP word starts.
use Rattle.std.proofs.Common.{◌≡◌, ◌↔◌, ℕ, zero, suc, ◌+◌, ◌-◌, ◌<◌, ◌≤◌, ◌==◌, ◌&&◌, refl, sym, ap, ◌∙◌, subst, cond, true, false, Bool, List, [], ◌∷◌, ◌++◌, append_assoc, append-nil, flat_map, take, length, get_or, slice_get, count_by, Option, Some, arith, eqb-true, length-append}
use Rattle.std.specs.Option.{option_map_or}
use Rattle.std.proofs.Math.Seq.{take-append_seam}
use Rattle.std.proofs.lemmas.Bool.{and_parts, false≢true}
use Rattle.std.proofs.lemmas.List.Sums.{sum_by-cons, count_by_more_yes, count_by_more_no}
use Rattle.std.proofs.lemmas.Option.{slice_get_within}
use Rattle.lk_base.specs.Fields.{burst_field, sop_field, channel_number, has_sop}
use Rattle.lk_base.specs.declared.shape.Shape.{Shape}
use Rattle.lk_base.specs.declared.word.Word.{Word}
use Rattle.lk_base.specs.declared.word.Word.TheVariants.{Data, Control}
use Rattle.receive_model.proofs.Cuts.{split}
use Rattle.stream_model.specs.BurstStream.{Source, IsAt, Chunk, next_chunk, chunk_of_burst, chunks_by, chunks_of, is_burst_on, bursts_in}
use Rattle.stream_model.proofs.Cutting.{can_cut, cut_more}
use Rattle.stream_model.proofs.Blocks.{IsGood}
use Rattle.stream_model.proofs.Bursts.{at_seam}
use Rattle.delivery_laws.proofs.Links.{bursts-push, test_of}
use Rattle.tx_words.specs.Sent.{starts_on}
use Rattle.tx_words.proofs.Opening.{count-push}
use Rattle.tx_words.proofs.Slots.{HaveBytes}
use Rattle.tx_words.proofs.ListedSent.{IsRun, packet-run}

-- how many of these chunks are the first of their packets
abbrev pub firsts : List Chunk → ℕ
firsts chunks = count_by (λ (k : Chunk). k.is_first) chunks

firsts-cons : (x : Chunk) (xs : List Chunk) → firsts (x ∷ xs) ≡ cond x.is_first 1 0 + firsts xs
firsts-cons x xs = sum_by-cons (λ (k : Chunk). cond k.is_first 1 0) x xs

-- none of these is the first of its packet
abbrev Later : List Chunk → Type 0
Later [] = Unit {0}
Later (x ∷ xs) = (x.is_first ≡ false) × Later xs

run-later : (x : Chunk) (later : List Chunk) → IsRun false x later → Later (x ∷ later)
run-later x [] h = (h.0, tt)
run-later x (y ∷ later) h = (h.0, run-later y later h.2)

later_of : (b : Bool) (x : Chunk) (later : List Chunk) → IsRun b x later → Later later
later_of b x [] h = tt
later_of b x (y ∷ later) h = run-later y later h.2

first_of_run : (b : Bool) (x : Chunk) (later : List Chunk) → IsRun b x later → x.is_first ≡ b
first_of_run b x [] h = h.0
first_of_run b x (y ∷ later) h = h.0

skip : (later more : List Chunk) (k : ℕ) → Later later → firsts (take k (later ++ more)) ≡ firsts (take (k - length later) more)
skip [] more k h = let e : k - 0 ≡ k = omega arith in ap (λ n. firsts (take n more)) (sym e)
skip (x ∷ later) more zero h = let e : 0 - suc (length later) ≡ 0 = omega arith in ap (λ n. firsts (take n more)) (sym e)
skip (x ∷ later) more (suc k) h =
    let none = h.0 in
    let e : suc k - suc (length later) ≡ k - length later = omega arith in
    firsts-cons x (take k (later ++ more)) ∙ rw none (omega arith) ∙ skip later more k h.1 ∙ ap (λ n. firsts (take n more)) (sym e)

past : (later more : List Chunk) (k : ℕ) (chunk : Chunk) → Later later → slice_get (later ++ more) k ≡ Some chunk → chunk.is_first ≡ true → (length later ≤ k) × (slice_get more (k - length later) ≡ Some chunk)
past [] more k chunk h is first = let e : k - 0 ≡ k = omega arith in (omega arith, ap (slice_get more) e ∙ is)
past (x ∷ later) more zero chunk h is first = absurd (let same : x ≡ chunk = cc is in let no : true ≡ false = sym first ∙ ap (λ (k : Chunk). k.is_first) (sym same) ∙ h.0 in cc)
past (x ∷ later) more (suc k) chunk h is first = let r = past later more k chunk h.1 is first in let e : suc k - suc (length later) ≡ k - length later = omega arith in (omega (arith, r.0), ap (slice_get more) e ∙ r.1)

-- this chunk, after b others, is the first of packet n
pub record Begins (shape : Shape) (ps : List (List ℕ)) (b n : ℕ) (chunk : Chunk) : Type 0 where
  pub packet : List ℕ
  pub named : slice_get ps n ≡ Some packet
  pub first : chunk ≡ next_chunk shape.burst_max shape.burst_min true packet
  pub place : b ≡ length (flat_map (chunks_by shape) (take n ps))

first_chunk : (shape : Shape) (bytes : List ℕ) (d : Chunk) → 0 < length bytes → get_or (chunks_by shape bytes) 0 d ≡ next_chunk shape.burst_max shape.burst_min true bytes
first_chunk shape bytes d some = ap (λ (l : List Chunk). get_or l 0 d) (cut_more shape.burst_max shape.burst_min (can_cut shape) true bytes some)

pub begins : (shape : Shape) (ps : List (List ℕ)) (b : ℕ) (chunk : Chunk) → HaveBytes ps → slice_get (flat_map (chunks_by shape) ps) b ≡ Some chunk → chunk.is_first ≡ true
    → Begins shape ps b (firsts (take b (flat_map (chunks_by shape) ps))) chunk
begins shape [] b chunk each is first = cc
begins shape (bytes ∷ ps) zero chunk (some, each) is first =
    let run = packet-run shape bytes some in
    let got = rw run.is at is in
    let same : run.head ≡ chunk = cc got in
    let zero_at : get_or (chunks_by shape bytes) 0 run.head ≡ next_chunk shape.burst_max shape.burst_min true bytes = first_chunk shape bytes run.head some in
    record {
      packet = bytes;
      named = refl;
      first = sym same ∙ ap (λ (l : List Chunk). get_or l 0 run.head) (sym run.is) ∙ zero_at;
      place = refl;
    }
begins shape (bytes ∷ ps) (suc k) chunk (some, each) is first =
    let run = packet-run shape bytes some in
    let more : List Chunk = flat_map (chunks_by shape) ps in
    let later = later_of true run.head run.later run.run in
    let got = rw run.is at is in
    let p = past run.later more k chunk later got first in
    let rest = begins shape ps (k - length run.later) chunk each p.1 first in
    let head_first : run.head.is_first ≡ true = first_of_run true run.head run.later run.run in
    let n : firsts (take (suc k) (chunks_by shape bytes ++ more)) ≡ suc (firsts (take (k - length run.later) more)) =
    ap (λ (l : List Chunk). firsts (take (suc k) (l ++ more))) run.is ∙ firsts-cons run.head (take k (run.later ++ more)) ∙ rw (head_first, skip run.later more k later) (omega arith) in
    subst (λ m. Begins shape (bytes ∷ ps) (suc k) m chunk) (sym n)
    (record {
      packet = rest.packet;
      named = rest.named;
      first = rest.first;
      place =
          let len : length (chunks_by shape bytes ++ flat_map (chunks_by shape) (take (firsts (take (k - length run.later) more)) ps)) ≡ length (chunks_by shape bytes) + length (flat_map (chunks_by shape) (take (firsts (take (k - length run.later) more)) ps)) = length-append (chunks_by shape bytes) (flat_map (chunks_by shape) (take (firsts (take (k - length run.later) more)) ps)) in
          let one : length (chunks_by shape bytes) ≡ suc (length run.later) = ap length run.is in
          by k (length run.later) _ _ _ p.0 rest.place one len;
    })
  where
    by : (k l a b c : ℕ) → l ≤ k → k - l ≡ a → b ≡ suc l → c ≡ b + a → suc k ≡ c
    by k l a b c h e f g = omega arith

pub few_firsts : (shape : Shape) (ps : List (List ℕ)) (b : ℕ) → HaveBytes ps → firsts (take b (flat_map (chunks_by shape) ps)) ≤ length ps
few_firsts shape [] zero each = omega arith
few_firsts shape [] (suc b) each = omega arith
few_firsts shape (bytes ∷ ps) zero each = omega arith
few_firsts shape (bytes ∷ ps) (suc k) (some, each) =
    let run = packet-run shape bytes some in
    let more : List Chunk = flat_map (chunks_by shape) ps in
    let later = later_of true run.head run.later run.run in
    let rest = few_firsts shape ps (k - length run.later) each in
    let head_first : run.head.is_first ≡ true = first_of_run true run.head run.later run.run in
    let n : firsts (take (suc k) (chunks_by shape bytes ++ more)) ≡ suc (firsts (take (k - length run.later) more)) =
    ap (λ (l : List Chunk). firsts (take (suc k) (l ++ more))) run.is ∙ firsts-cons run.head (take k (run.later ++ more)) ∙ rw (head_first, skip run.later more k later) (omega arith) in
    subst (λ m. m ≤ suc (length ps)) (sym n) (omega arith)

-- ---- the words

-- each burst word carries its chunk, and has SOP where that is the first of a packet
pub record Follows (source : Source) (w : List Word) : Type 0 where
  pub carried : (s x : ℕ) → IsAt w s (Control x) → burst_field x ≡ 1 → (chunk : Chunk) × (chunk_of_burst source (take s w) (Control x) ≡ Some chunk)
  pub start : (s x : ℕ) → IsAt w s (Control x) → burst_field x ≡ 1 → (sop_field x ≡ 1) ↔ (option_map_or (λ (p : Chunk). p.is_first) (chunk_of_burst source (take s w) (Control x)) false ≡ true)

pub follows : (source : Source) (w : List Word) → IsGood source w → Follows source w
follows source w g = record {
  carried = λ s x at burst. let c = g.chunks s x at burst in (c.0, c.1);
  start = λ s x at burst. (g.controls s x at).start burst;
}

carried_get : (source : Source) (p : List Word) (x channel : ℕ) (chunk : Chunk) → burst_field x ≡ 1 → channel_number true x ≡ channel → chunk_of_burst source p (Control x) ≡ Some chunk
    → slice_get (chunks_of source channel) (bursts_in p channel) ≡ Some chunk
carried_get source p x channel chunk burst here is = rw (burst, here) at is

module _ (source : Source) (channel : ℕ) where
  -- this many bursts of the channel so far, and as many SOP words as there are first chunks among theirs
  pub record Counted (p : List Word) : Type 0 where
    pub within : bursts_in p channel ≤ length (chunks_of source channel)
    pub number : count_by (starts_on channel) p ≡ firsts (take (bursts_in p channel) (chunks_of source channel))

  pub none : Counted []
  none = record { within = omega arith; number = refl }

  -- the chunk that the word carries
  pub chunk_next : (p : List Word) (x : ℕ) (q : List Word) → Follows source (p ++ Control x ∷ q) → is_burst_on channel (Control x) ≡ true
      → (chunk : Chunk) × (slice_get (chunks_of source channel) (bursts_in p channel) ≡ Some chunk) × (has_sop x ≡ chunk.is_first) × (chunk_of_burst source p (Control x) ≡ Some chunk)
  chunk_next p x q f on =
      let both = and_parts (burst_field x == 1) (channel_number true x == channel) on in
      let burst : burst_field x ≡ 1 = eqb-true (burst_field x) 1 both.0 in
      let here : channel_number true x ≡ channel = eqb-true (channel_number true x) channel both.1 in
      let below : take (length p) (p ++ Control x ∷ q) ≡ p = take-append_seam p (Control x ∷ q) in
      let c = f.carried (length p) x (at_seam p (Control x) q) burst in
      let s = f.start (length p) x (at_seam p (Control x) q) burst in
      let is : chunk_of_burst source p (Control x) ≡ Some c.0 = ap (λ b. chunk_of_burst source b (Control x)) (sym below) ∙ c.1 in
      let get = carried_get source p x channel c.0 burst here is in
      let start : (sop_field x ≡ 1) ↔ (c.0.is_first ≡ true) = subst (λ (o : Option Chunk). (sop_field x ≡ 1) ↔ (option_map_or (λ (k : Chunk). k.is_first) o false ≡ true)) c.1 s in
      (c.0, get, test_of (sop_field x) c.0.is_first start, is)

  one : (p : List Word) (word : Word) (q : List Word) → Follows source (p ++ word ∷ q) → Counted p → Counted (p ++ word ∷ [])
  one p (Data x) q f c =
      let same : bursts_in (p ++ Data x ∷ []) channel ≡ bursts_in p channel = bursts-push p (Data x) channel ∙ omega arith in
      let starts_same : count_by (starts_on channel) (p ++ Data x ∷ []) ≡ count_by (starts_on channel) p = count-push (starts_on channel) p (Data x) ∙ omega arith in
      record { within = rw same c.within; number = starts_same ∙ c.number ∙ ap (λ n. firsts (take n (chunks_of source channel))) (sym same) }
  one p (Control x) q f c = split (is_burst_on channel (Control x))
      (λ h.
      let both = and_parts (burst_field x == 1) (channel_number true x == channel) h in
      let n = chunk_next p x q f h in
      let within : bursts_in p channel < length (chunks_of source channel) = slice_get_within (chunks_of source channel) (bursts_in p channel) n.0 n.1 in
      let more : bursts_in (p ++ Control x ∷ []) channel ≡ bursts_in p channel + 1 = bursts-push p (Control x) channel ∙ rw h (omega arith) in
      let get : get_or (chunks_of source channel) (bursts_in p channel) n.0 ≡ n.0 = got (chunks_of source channel) (bursts_in p channel) n.0 n.1 in
      let sop : has_sop x ≡ n.0.is_first = n.2 in
      let start : starts_on channel (Control x) ≡ n.0.is_first = by (burst_field x == 1) (has_sop x) (channel_number true x == channel) n.0.is_first both.0 both.1 sop in
      let count : count_by (starts_on channel) (p ++ Control x ∷ []) ≡ count_by (starts_on channel) p + cond n.0.is_first 1 0 = count-push (starts_on channel) p (Control x) ∙ ap (λ b. count_by (starts_on channel) p + cond b 1 0) start in
      let chunk_more : firsts (take (bursts_in p channel + 1) (chunks_of source channel)) ≡ firsts (take (bursts_in p channel) (chunks_of source channel)) + cond n.0.is_first 1 0 = split n.0.is_first
      (λ y. count_by_more_yes (λ (k : Chunk). k.is_first) (chunks_of source channel) (bursts_in p channel) n.0 within (ap (λ (k : Chunk). k.is_first) get ∙ y) ∙ rw y refl)
      (λ y. count_by_more_no (λ (k : Chunk). k.is_first) (chunks_of source channel) (bursts_in p channel) n.0 within (ap (λ (k : Chunk). k.is_first) get ∙ y) ∙ rw y (omega arith)) in
      record {
        within = omega (arith, more, within);
        number = count ∙ ap (λ m. m + cond n.0.is_first 1 0) c.number ∙ sym chunk_more ∙ ap (λ m. firsts (take m (chunks_of source channel))) (sym more);
      })
      (λ h.
      let same : bursts_in (p ++ Control x ∷ []) channel ≡ bursts_in p channel = bursts-push p (Control x) channel ∙ rw h (omega arith) in
      let start : starts_on channel (Control x) ≡ false = not_on (burst_field x == 1) (has_sop x) (channel_number true x == channel) h in
      let starts_same : count_by (starts_on channel) (p ++ Control x ∷ []) ≡ count_by (starts_on channel) p = count-push (starts_on channel) p (Control x) ∙ rw start (omega arith) in
      record { within = rw same c.within; number = starts_same ∙ c.number ∙ ap (λ n. firsts (take n (chunks_of source channel))) (sym same) })
    where
      by : (a b c d : Bool) → a ≡ true → c ≡ true → b ≡ d → (a && (b && c)) ≡ d
      by true true c d e f g = f ∙ g
      by true false c d e f g = g
      by false b c d e f g = absurd (false≢true e)

      not_on : (a b c : Bool) → (a && c) ≡ false → (a && (b && c)) ≡ false
      not_on true true c h = h
      not_on true false c h = refl
      not_on false b c h = refl

      got : {A : Type 0} (xs : List A) (i : ℕ) (x : A) → slice_get xs i ≡ Some x → get_or xs i x ≡ x
      got [] i x h = refl
      got (y ∷ xs) zero x h = cc
      got (y ∷ xs) (suc i) x h = got xs i x h

  pub counted : (p q r : List Word) → Follows source (p ++ (q ++ r)) → Counted p → Counted (p ++ q)
  counted p [] r f c = subst Counted (sym (append-nil p)) c
  counted p (word ∷ q) r f c =
      subst Counted (append_assoc p (word ∷ []) q)
      (counted (p ++ word ∷ []) q r (subst (Follows source) (sym (append_assoc p (word ∷ []) (q ++ r))) f) (one p word (q ++ r) f c))
