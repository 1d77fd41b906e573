-- Items are gathered one after another.
use Rattle.std.proofs.Common.{◌≡◌, ℕ, ◌+◌, ◌≤◌, Bool, false, List, [], ◌∷◌, ◌++◌, length, sym, ap, ◌∙◌, append-nil, append_assoc, Option, Result, Ok, Err}
use Rattle.lk_base.specs.declared.word.Aligned.{Aligned}
use Rattle.lk_base.specs.declared.word.RxWord.{RxWord}
use Rattle.lk_base.specs.Positions.{words_from}
use Rattle.lk_outside.specs.Files.{Files}
use Rattle.run_stops.specs.declared.stop.Stop.{Stop}
use Rattle.run_stops.specs.declared.stop.Stop.TheVariants as stop
use Rattle.lane_words.specs.declared.places.PlaceRow.{PlaceRow}
use Rattle.lane_words.specs.Gathered.{between, ends_broken, epochs_in, gathered_words, is_break, own_epochs, own_rows, own_words, places}
use Rattle.lane_words.proofs.Growths.{broken_more, broken_run, epochs_more, epochs_run, places_more, places_run, words_more, words_run}
use Rattle.gather_commands.specs.declared.gathered.Gathered.{Gathered}
use Rattle.gather_commands.specs.Growing.{Gathers, IsCutShort, IsGathered, IsStopped, Puts}
use Rattle.gather_commands.proofs.Stops.{put_stopped, same_put, same_stopped, stopped_more}

module _ (out : List ℕ) (items : List Aligned) (broken : Bool) (was now : Option Files) (e : broken ≡ ends_broken false items) where
  abbrev before : List RxWord
  before = gathered_words items ++ between broken

  same_before : gathered_words items ++ between (ends_broken false items) ≡ before
  same_before = ap (λ (b : Bool). gathered_words items ++ between b) (sym e)

  -- ---- words

  module _ (group index : ℕ) (words : List RxWord) (some : 1 ≤ length words) (run : List Aligned) (is : run ≡ words_from group index words) where
    words_are : before ++ words ≡ gathered_words (items ++ run)
    words_are = sym (ap (λ (xs : List Aligned). gathered_words (items ++ xs)) is ∙ words_run items group index words some ∙ ap (λ (ws : List RxWord). ws ++ words) same_before)

    rows_are : places items ≡ places (items ++ run)
    rows_are = sym (ap (λ (xs : List Aligned). places (items ++ xs)) is ∙ places_run items group index words some)

    -- the word between was to be given first
    pub run_cut : (why : Stop) → IsStopped out before (places items) why was now → IsCutShort out (items ++ run) why was now
    run_cut why h = same_stopped out (before ++ words) _ (places items ++ []) _ why was now words_are (append-nil (places items) ∙ rows_are) (stopped_more out before words (places items) [] was now why h)

    pub run_gathers : {T : Type 0} (result : Result T Stop) (g : Gathered) → g.epochs ≡ epochs_in items → g.broken ≡ false → Puts out (before ++ words) (places items) result g.files was now → Gathers out (items ++ run) result g was now
    run_gathers (Ok t) g epochs unbroken h = record {
      files = same_put out (before ++ words) _ (places items) _ g.files was now words_are rows_are h;
      epochs = epochs ∙ sym (ap (λ (xs : List Aligned). epochs_in (items ++ xs)) is ∙ epochs_run items group index words some);
      broken = unbroken ∙ sym (ap (λ (xs : List Aligned). ends_broken false (items ++ xs)) is ∙ broken_run items group index words some);
    }
    run_gathers (Err why) g epochs unbroken h = same_stopped out (before ++ words) _ (places items) _ why was now words_are rows_are h

  -- ---- an item

  module _ (x : Aligned) where
    abbrev rows : List PlaceRow
    rows = places items ++ own_rows (length before) x

    item_words : before ++ own_words x ≡ gathered_words (items ++ x ∷ [])
    item_words = sym (words_more items x ∙ ap (λ (ws : List RxWord). ws ++ own_words x) same_before)

    item_rows : rows ≡ places (items ++ x ∷ [])
    item_rows = sym (places_more items x ∙ ap (λ (ws : List RxWord). places items ++ own_rows (length ws) x) same_before)

    pub item_cut : (why : Stop) → IsStopped out before (places items) why was now → IsCutShort out (items ++ x ∷ []) why was now
    item_cut why h = same_stopped out (before ++ own_words x) _ rows _ why was now item_words item_rows (stopped_more out before (own_words x) (places items) (own_rows (length before) x) was now why h)

    pub item_gathers : {T : Type 0} (result : Result T Stop) (g : Gathered) → g.epochs ≡ epochs_in items + own_epochs x → g.broken ≡ is_break x → Puts out (before ++ own_words x) rows result g.files was now → Gathers out (items ++ x ∷ []) result g was now
    item_gathers (Ok t) g epochs breaks h = record {
      files = same_put out (before ++ own_words x) _ rows _ g.files was now item_words item_rows h;
      epochs = epochs ∙ sym (epochs_more items x);
      broken = breaks ∙ sym (broken_more items x);
    }
    item_gathers (Err why) g epochs breaks h = same_stopped out (before ++ own_words x) _ rows _ why was now item_words item_rows h

    -- memory ran out before
    pub item_memory : (g : Gathered) → IsGathered out items g was now → IsCutShort out (items ++ x ∷ []) stop.OutOfMemory was now
    item_memory g h =
        same_stopped out (gathered_words items ++ (between broken ++ own_words x)) _ rows _ stop.OutOfMemory was now
        (sym (append_assoc (gathered_words items) (between broken) (own_words x)) ∙ item_words) item_rows
        (put_stopped out (gathered_words items) (between broken ++ own_words x) (places items) (own_rows (length before) x) was now g.files h.files)
