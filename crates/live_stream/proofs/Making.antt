-- A scheduler that was given nothing yet.
use Rattle.std.proofs.Common.{◌≡◌, inl, inr, ℕ, ◌*◌, ◌/◌, ◌<◌, ◌≤◌, List, [], length, map, take, drop, get_or, false, Option, Some, None, All, refl, sym, ap, ap₂, subst, ◌∙◌, arith}
use Rattle.std.specs.List.{AllPairs}
use Rattle.std.specs.List.Sorted.{IsNonDecreasing, IsPermutation}
use Rattle.std.proofs.lemmas.Bool.{cases_lt}
use Rattle.std.proofs.lemmas.List.Elements.{All-nil}
use Rattle.std.proofs.lemmas.List.Sorted.{Contains-permutation, IsPermutation-sym}
use Rattle.burst_scheduler.proofs.Filling.{still_distinct}
use Rattle.lk_base.specs.declared.shape.Shape.{Shape}
use Rattle.lk_base.specs.declared.word.Word.{Word}
use Rattle.lk_base.specs.declared.word.Word.TheVariants.{Data, Control}
use Rattle.control_words.specs.ControlWord.{eop_format}
use Rattle.stream_model.specs.BurstStream.{IsAt, start_mark, mark_cmp, data_since, end_format}
use Rattle.calendar.specs.Incoming.{Stands}
use Rattle.burst_scheduler.specs.Queues.{sizes_of}
use Rattle.burst_scheduler.proofs.Filling.{key_start}
use Rattle.burst_scheduler.proofs.Lines.{less_row}
use Rattle.burst_scheduler.proofs.Making.{no_words, since_none, no_end}
use Rattle.burst_scheduler.specs.Bursts.{IsFreshLine}
use Rattle.live_stream.specs.LiveStream.{Given}
use Rattle.live_stream.specs.Waiting.{channels_of}
use Rattle.live_stream.specs.Turns.{AreInTurn, HaveLeft}
use Rattle.live_stream.specs.Gives.{Gives, AreRight, HasEnd, nothing_given, planned, source_of}
use Rattle.live_stream.specs.declared.scheduler.LiveScheduler.{LiveScheduler}
use Rattle.live_stream.specs.Waiting.{IsEmpty}
use Rattle.live_stream.proofs.Left.{empty_left}

-- the numbers of a scheduler that was given nothing
pub record IsFresh (s : LiveScheduler) (shape : Shape) (max_packet : ℕ) : Type 0 where
  pub sizes : s.sizes ≡ sizes_of shape
  pub short : s.short ≡ shape.burst_short / 8
  pub group : s.group ≡ shape.group
  pub warm : s.warm ≡ shape.warmup * shape.group
  pub slot : s.slot ≡ 0
  pub free : s.free ≡ 0
  pub longest : s.max_packet ≡ max_packet
  pub packets_closed : s.packets_closed ≡ false
  pub closed : s.closed ≡ None
  pub finish : s.finish ≡ None

first_turns : (channels line : List ℕ) → AllPairs (λ (x y : ℕ). x ≡ y → ⊥) channels → IsPermutation channels line → IsNonDecreasing line → AreInTurn channels [] [] line
first_turns channels line distinct same rising = record {
  exact = λ c. (Contains-permutation line channels c (IsPermutation-sym channels line same), Contains-permutation channels line c same);
  ordered = λ i j d l k.
      let a : ℕ = get_or line i d in
      let b : ℕ = get_or line j d in
      let up : a ≤ b = rising i j d (omega (arith, l)) k in
      let apart : a ≡ b → ⊥ = still_distinct channels line same distinct i j d l k in
      ap₂ mark_cmp (key_start a) (key_start b) ∙ less_row (start_mark a) (start_mark b) refl (below a b up apart);
}
  where
    below : (a b : ℕ) → a ≤ b → (a ≡ b → ⊥) → a < b
    below a b h ne = elim (cases_lt a b) [ inl l ↦ l | inr g ↦ absurd (ne (let s : a ≡ b = omega arith in s)) ]

module _ (s : LiveScheduler) (shape : Shape) (max_packet : ℕ) (channels entries : List ℕ) (fresh : IsFresh s shape max_packet) (line : IsFreshLine s.burst entries) where
  none : planned s [] ≡ []
  none = ap₂ (λ g n. map Data (drop g (take n s.burst.run.items))) line.given line.count

  pub nothing_yet : AllPairs (λ (x y : ℕ). x ≡ y → ⊥) channels → Stands s.incoming entries [] → IsPermutation channels (channels_of s.turns.items) → IsNonDecreasing (channels_of s.turns.items)
      → All IsEmpty s.turns.items → Gives s (nothing_given shape max_packet channels entries) []
  nothing_yet distinct incoming same rising empty =
      let g : Given = nothing_given shape max_packet channels entries in
      record {
        words = record {
          settings = record { sizes = fresh.sizes; short = fresh.short; group = fresh.group; warm = fresh.warm };
          given_by = record { packets = All-nil _; flow = All-nil _; local = All-nil _; accepted = All-nil _ };
          slot = fresh.slot;
          right = subst (AreRight g) (sym none) (record { sized = λ t word at. no_words t word at; data_in_bursts = λ t x at. no_words t (Data x) at; chunks = λ t x at b. no_words t (Control x) at; controls = λ t x at. no_words t (Control x) at });
          begun = λ t x at. no_words t (Control x) (subst (λ (v : List Word). IsAt v t (Control x)) none at);
          has = λ t x at b. no_words t (Control x) (subst (λ (v : List Word). IsAt v t (Control x)) none at);
          incoming = incoming;
          turns = subst (λ (v : List Word). AreInTurn channels [] v (channels_of s.turns.items)) (sym none) (first_turns channels (channels_of s.turns.items) distinct same rising);
          left = subst (HaveLeft s.turns.items s.sizes (source_of g)) (sym none) (λ k d l. let e = empty k d l in empty_left s.sizes (get_or s.turns.items k d) e);
          burst = record {
            outgoing = line.outgoing;
            long = line.long;
            given = (let a = line.given in let b = line.count in (omega (arith, a), omega (arith, b)));
            since = ap data_since none ∙ since_none ∙ sym (ap (λ n. take n s.burst.run.items) line.count);
            end = ap eop_format line.eop ∙ sym (no_end (source_of g)) ∙ sym (ap (end_format (source_of g)) none);
          };
          spaces = record { near = λ t l e. absurd (let n = ap length none in omega (arith, l, n)); far = inl fresh.free };
        };
        distinct = distinct;
        longest = fresh.longest;
        packets_closed = fresh.packets_closed;
        closed = fresh.closed;
        closed_by = λ c e. let no : None ≡ Some c = e in cc;
        finish = subst (λ (f : Option ℕ). HasEnd f g 0 (planned s [])) (sym fresh.finish) (λ closed z e ending. let no : None ≡ Some closed = e in cc);
      }
