-- What a burst line holds after one word more.
use Rattle.std.proofs.Common.{◌≡◌, ℕ, zero, suc, ◌+◌, ◌<◌, ◌≤◌, min, List, [], ◌∷◌, ◌++◌, length, map, take, drop, get_or, cond, refl, sym, ap, ◌∙◌, subst, arith, append_assoc, append-nil, add-zero}
use Rattle.std.specs.Option.{option_map_or}
use Rattle.std.proofs.lemmas.List.{drop_all, length-take, get_or-take}
use Rattle.std.proofs.lemmas.List.Sums.{sum_by-append}
use Rattle.std.proofs.Props.{props}
use Rattle.control_words.specs.declared.fields.Eop.{Eop}
use Rattle.control_words.specs.declared.fields.Eop.TheVariants.{End}
use Rattle.lk_base.specs.Words.{is_control, block}
use Rattle.lk_base.specs.declared.word.Word.{Word}
use Rattle.lk_base.specs.declared.word.Word.TheVariants.{Data, Control}
use Rattle.control_words.specs.ControlWord.{eop_format}
use Rattle.calendar.specs.Outgoing.{StandsOut}
use Rattle.calendar.specs.declared.outgoing.CalendarOut.{CalendarOut}
use Rattle.stream_model.specs.BurstStream.{Source, chunk_of_burst, controls_in, data_since, end_format, format_after}
use Rattle.stream_model.proofs.Blocks.{data_since_block, end_format_block}
use Rattle.burst_scheduler.specs.Bursts.{HoldsBurst, KeepsRun, left_of, planned_after, with_outgoing}
use Rattle.burst_scheduler.specs.declared.line.BurstLine.{BurstLine}

-- once the burst was given nothing of it is to come
pub all_given : (line : BurstLine) (w : List Word) → line.count ≤ line.given → planned_after line w ≡ w
all_given line w h =
    let few : length (take line.count line.run.items) ≡ min line.count (length line.run.items) = length-take line.count line.run.items in
    let none : left_of line ≡ [] = drop_all line.given (take line.count line.run.items) (omega arith) in
    ap (λ ds. w ++ map Data ds) none ∙ append-nil w

-- a line is the same by whatever proof that its end is in range
abbrev IsInRange : Eop → Type 0
IsInRange eop = (n : ℕ) → eop ≡ End n → (1 ≤ n) × (n ≤ 8)

is_prop : (eop : Eop) → IsProp (IsInRange eop)
is_prop eop = hlevel props

pub other_range : (line : BurstLine) (outgoing : CalendarOut) (range : IsInRange line.eop) → record line { outgoing = outgoing; end_in_range = range } ≡ with_outgoing line outgoing
other_range line outgoing range = ap (λ (p : IsInRange line.eop). record line { outgoing = outgoing; end_in_range = p }) (is_prop line.eop range line.end_in_range)

-- ---- a data word more

drop_next : (xs : List ℕ) (n : ℕ) → n < length xs → drop n xs ≡ get_or xs n 0 ∷ drop (n + 1) xs
drop_next [] n h = absurd (omega arith)
drop_next (x ∷ xs) zero h = refl
drop_next (x ∷ xs) (suc n) h = let e : suc n + 1 ≡ suc (n + 1) = omega arith in rw e (drop_next xs n (omega arith))

-- the words to come lose their first word to the words given
data_next : (w : List Word) (xs : List ℕ) (n : ℕ) → n < length xs → (w ++ Data (get_or xs n 0) ∷ []) ++ map Data (drop (n + 1) xs) ≡ w ++ map Data (drop n xs)
data_next w xs n h = append_assoc w (Data (get_or xs n 0) ∷ []) (map Data (drop (n + 1) xs)) ∙ ap (λ ds. w ++ map Data ds) (sym (drop_next xs n h))

same_controls : (w : List Word) (d : ℕ) → controls_in (w ++ Data d ∷ []) ≡ controls_in w
same_controls w d = sum_by-append (λ (v : Word). cond (is_control v) 1 0) w (Data d ∷ []) ∙ add-zero _

module _ (old new : BurstLine) (source : Source) (w : List Word) (d : ℕ) (h : HoldsBurst old source w) (k : KeepsRun old new) (below : old.given < old.count) (given : new.given ≡ old.given + 1) (is : d ≡ get_or old.run.items old.given 0) where
  kept : take new.count new.run.items ≡ take old.count old.run.items
  kept = ap (λ n. take n new.run.items) k.count ∙ ap (λ v. take old.count v.items) k.run

  pub planned_data : planned_after new (w ++ Data d ∷ []) ≡ planned_after old w
  planned_data =
      let xs : List ℕ = take old.count old.run.items in
      let many : length xs ≡ old.count = (let n = length-take old.count old.run.items in let c = h.given.1 in let r = h.long in omega (arith, n, c, r)) in
      let value : d ≡ get_or xs old.given 0 = is ∙ sym (get_or-take old.count old.run.items old.given 0 below) in
      ap (λ n. (w ++ Data d ∷ []) ++ map Data (drop n (take new.count new.run.items))) given
      ∙ ap (λ ds. (w ++ Data d ∷ []) ++ map Data (drop (old.given + 1) ds)) kept
      ∙ ap (λ n. (w ++ Data n ∷ []) ++ map Data (drop (old.given + 1) xs)) value
      ∙ data_next w xs old.given (omega (arith, below, many))

  pub holds_data : HoldsBurst new source (w ++ Data d ∷ [])
  holds_data = record {
    outgoing = subst (StandsOut new.outgoing source.entries source.local) (sym (same_controls w d)) (subst (λ (c : CalendarOut). StandsOut c source.entries source.local (controls_in w)) (sym k.outgoing) h.outgoing);
    long = ap (λ v. length v.items) k.run ∙ h.long;
    given = (let c = k.count in let few = h.given.1 in (omega (arith, below, given, c), omega (arith, c, few)));
    since = ap data_since planned_data ∙ h.since ∙ sym kept;
    end = ap eop_format k.eop ∙ h.end ∙ ap (end_format source) (sym planned_data);
  }

-- ---- a block more: a control word, and the data words after it, which are still to come

one_control : (w : List Word) (x : ℕ) → controls_in (w ++ Control x ∷ []) ≡ controls_in w + 1
one_control w x = sum_by-append (λ (v : Word). cond (is_control v) 1 0) w (Control x ∷ [])

module _ (line : BurstLine) (w : List Word) (x : ℕ) (ds : List ℕ) (given : line.given ≡ 0) (run : take line.count line.run.items ≡ ds) where
  pub planned_block : planned_after line (w ++ Control x ∷ []) ≡ w ++ block x ds
  planned_block =
      ap (λ n. (w ++ Control x ∷ []) ++ map Data (drop n (take line.count line.run.items))) given
      ∙ ap (λ xs. (w ++ Control x ∷ []) ++ map Data xs) run
      ∙ append_assoc w (Control x ∷ []) (map Data ds)

  pub holds_block : (source : Source) → StandsOut line.outgoing source.entries source.local (controls_in w + 1) → length line.run.items ≡ 512 → line.count ≤ 512
      → eop_format line.eop ≡ option_map_or format_after (chunk_of_burst source w (Control x)) 0 → HoldsBurst line source (w ++ Control x ∷ [])
  holds_block source outgoing long count end = record {
    outgoing = subst (StandsOut line.outgoing source.entries source.local) (sym (one_control w x)) outgoing;
    long = long;
    given = (let z = given in omega (arith, z), count);
    since = ap data_since planned_block ∙ data_since_block w x ds ∙ sym run;
    end = end ∙ sym (end_format_block source w x ds) ∙ ap (end_format source) (sym planned_block);
  }
