-- How the giving of words and rows ends.
use Rattle.std.proofs.Common.{◌≡◌, ◌≢◌, ℕ, zero, suc, List, [], ◌∷◌, ◌++◌, length, refl, sym, ap, ◌∙◌, subst, arith, append-nil, Option, Result, Ok, Err, Contains}
use Rattle.std.proofs.lemmas.List.{length-map}
use lib.Chars.{codes}
use Rattle.csv_rows.specs.Written.{rows_text}
use Rattle.lk_base.specs.declared.word.Aligned.{Aligned}
use Rattle.lk_base.specs.declared.word.RxWord.{RxWord}
use Rattle.lk_outside.specs.Files.{Files, Told}
use Rattle.run_stops.specs.declared.stop.Stop.{Stop}
use Rattle.run_stops.specs.declared.stop.Stop.TheVariants as stop
use Rattle.run_stops.specs.Stops.{IsOfStore, StoreStops}
use Rattle.run_stops.proofs.Moves.{told_by, told_refl}
use Rattle.run_shell.specs.Names.{words_name}
use Rattle.run_shell.specs.Outcome.{HoldsPart}
use Rattle.run_shell.specs.Open.{Open}
use Rattle.run_shell.specs.Outputs.{Differ, Grown, IsOpen, Prefixes, blank, more as more_at, open_names, outs}
use Rattle.run_shell.proofs.Fills.{blank_prefixes, open_part, part_more}
use Rattle.run_shell.proofs.Works.{part_none}
use Rattle.gather_commands.specs.declared.files.GatheredFiles.{GatheredFiles}
use Rattle.gather_commands.specs.declared.gathered.Gathered.{Gathered}
use Rattle.lane_words.specs.declared.places.PlaceRow.{PlaceRow}
use Rattle.lane_words.specs.WordsFile.{rx_words_file}
use Rattle.gather_commands.specs.Table.{contents_of, gathered_contents, gathered_names, heading, place_rows, places_name, places_table}
use Rattle.lane_words.specs.Gathered.{gathered_words, places}
use Rattle.gather_commands.specs.Growing.{HasPut, IsCutShort, IsGathered, IsStopped, Puts}
use Rattle.lane_words.proofs.Growths.{places_first, words_first}
use Rattle.gather_commands.proofs.Tables.{file_more, table_more, table_none}

-- ---- the names

append_injective : (p a b : List ℕ) → p ++ a ≡ p ++ b → a ≡ b
append_injective [] a b e = e
append_injective (x ∷ p) a b e = append_injective p a b (cc)

two_names : (out : List ℕ) → words_name out ≢ places_name out
two_names out e = let h : codes ".words" ≡ codes ".places.csv" = append_injective out (codes ".words") (codes ".places.csv") e in let l = ap length h in omega (arith, l)

-- the names of the words file and of the table differ
pub names_differ : (out : List ℕ) → Differ (gathered_names out)
names_differ out zero zero d lt le = absurd (omega arith)
names_differ out zero (suc zero) d lt le = two_names out
names_differ out zero (suc (suc j)) d lt le = absurd (omega arith)
names_differ out (suc i) zero d lt le = absurd (omega arith)
names_differ out (suc i) (suc zero) d lt le = absurd (omega arith)
names_differ out (suc i) (suc (suc j)) d lt le = absurd (omega arith)

-- ---- more words and rows

pub contents_begin : (words more : List RxWord) (rows further : List PlaceRow) → Prefixes (contents_of words rows) (contents_of (words ++ more) (rows ++ further))
contents_begin words more rows further = ((rx_words_file more, sym (file_more words more)), ((place_rows further, sym (table_more rows further)), tt))

module _ (out : List ℕ) (words more : List RxWord) (rows further : List PlaceRow) (was now : Option Files) where
  pub stopped_more : (why : Stop) → IsStopped out words rows why was now → IsStopped out (words ++ more) (rows ++ further) why was now
  stopped_more why h = record {
    by_store = h.by_store;
    part = told_by was now (λ u v k. part_more (gathered_names out) (contents_of words rows) (contents_of (words ++ more) (rows ++ further)) u v (contents_begin words more rows further) k) h.part;
  }

  -- memory ran out before more was given
  pub put_stopped : (f : GatheredFiles) → HasPut out words rows f was now → IsStopped out (words ++ more) (rows ++ further) stop.OutOfMemory was now
  put_stopped f h = record {
    by_store = tt;
    part = subst (λ (ns : List (List ℕ)). Told was now (HoldsPart (outs ns (contents_of (words ++ more) (rows ++ further))))) h.names
        (open_part f.outputs (contents_of words rows) (contents_of (words ++ more) (rows ++ further)) was now (contents_begin words more rows further) h.given);
  }

-- the same words and rows
pub same_stopped : (out : List ℕ) (words other : List RxWord) (rows further : List PlaceRow) (why : Stop) (was now : Option Files) → words ≡ other → rows ≡ further → IsStopped out words rows why was now → IsStopped out other further why was now
same_stopped out words other rows further why was now e f h = subst (λ (ws : List RxWord). IsStopped out ws further why was now) e (subst (λ (rs : List PlaceRow). IsStopped out words rs why was now) f h)

pub same_put : (out : List ℕ) (words other : List RxWord) (rows further : List PlaceRow) (g : GatheredFiles) (was now : Option Files) → words ≡ other → rows ≡ further → HasPut out words rows g was now → HasPut out other further g was now
same_put out words other rows further g was now e f h = subst (λ (ws : List RxWord). HasPut out ws further g was now) e (subst (λ (rs : List PlaceRow). HasPut out words rs g was now) f h)

-- the items before were gathered, or cut short
pub cut_more : (out : List ℕ) (items rest : List Aligned) (why : Stop) (was now : Option Files) → IsCutShort out items why was now → IsCutShort out (items ++ rest) why was now
cut_more out items rest why was now h =
    let (words, is_words) = words_first items rest in
    let (rows, is_rows) = places_first items rest in
    same_stopped out (gathered_words items ++ words) (gathered_words (items ++ rest)) (places items ++ rows) (places (items ++ rest)) why was now (sym is_words) (sym is_rows)
    (stopped_more out (gathered_words items) words (places items) rows was now why h)

-- nothing was created, and memory ran out
pub none_stopped : (out : List ℕ) (words : List RxWord) (rows : List PlaceRow) (was : Option Files) → IsStopped out words rows stop.OutOfMemory was was
none_stopped out words rows was = record { by_store = tt; part = told_refl (HoldsPart (outs (gathered_names out) (contents_of words rows))) was (λ u. part_none (outs (gathered_names out) (contents_of words rows)) u) }

-- ---- one output grew

module _ (out : List ℕ) (words : List RxWord) (rows : List PlaceRow) (opens later : List Open) (given : List (List ℕ)) (was now : Option Files) (named : open_names opens ≡ gathered_names out) (is : given ≡ contents_of words rows) where
  pub grown_stopped : (T : Type 0) (why : Stop) → StoreStops {T = T} (Contains (open_names opens)) (Err why) → Grown {T = T} opens later given (Err why) was now → IsStopped out words rows why was now
  grown_stopped T why store h = record {
    by_store = subst (λ (ns : List (List ℕ)). IsOfStore (Contains ns) why) named store;
    part = subst (λ (ns : List (List ℕ)). Told was now (HoldsPart (outs ns (contents_of words rows)))) named
        (subst (λ (gs : List (List ℕ)). Told was now (HoldsPart (outs (open_names opens) gs))) is h);
  }

  pub grown_put : (T : Type 0) (t : T) (f : GatheredFiles) → f.outputs ≡ later → f.words ≡ length words → open_names later ≡ open_names opens → Grown {T = T} opens later given (Ok t) was now → HasPut out words rows f was now
  grown_put T t f at count same h = record {
    names = ap open_names at ∙ same ∙ named;
    given = subst (λ (os : List Open). IsOpen os (contents_of words rows) was now) (sym at) (subst (λ (gs : List (List ℕ)). IsOpen later gs was now) is h);
    count = count;
  }

  pub grown_puts : {T : Type 0} (result : Result T Stop) (f : GatheredFiles) → f.outputs ≡ later → f.words ≡ length words → open_names later ≡ open_names opens → StoreStops (Contains (open_names opens)) result → Grown opens later given result was now → Puts out words rows result f was now
  grown_puts {T = T} (Ok t) f at count same store h = grown_put T t f at count same h
  grown_puts {T = T} (Err why) f at count same store h = grown_stopped T why store h

-- a part of what was gathered stands
pub gathered_part : (out : List ℕ) (items : List Aligned) (g : Gathered) (was now : Option Files) → IsGathered out items g was now → Told was now (HoldsPart (outs (gathered_names out) (gathered_contents items)))
gathered_part out items g was now h =
    (same_stopped out (gathered_words items ++ []) (gathered_words items) (places items ++ []) (places items) stop.OutOfMemory was now (append-nil (gathered_words items)) (append-nil (places items))
    (put_stopped out (gathered_words items) [] (places items) [] was now g.files h.files)).part

-- a part of what first items come to is a part of what all come to
pub items_part : (out : List ℕ) (items rest : List Aligned) (was now : Option Files) → Told was now (HoldsPart (outs (gathered_names out) (gathered_contents items))) → Told was now (HoldsPart (outs (gathered_names out) (gathered_contents (items ++ rest))))
items_part out items rest was now h = (cut_more out items rest stop.OutOfMemory was now (record { by_store = tt; part = h })).part

-- ---- the same, as calls give it

-- the room for bytes changed, and nothing else
pub same_files : (out : List ℕ) (words : List RxWord) (rows : List PlaceRow) (f g : GatheredFiles) (was now : Option Files) → g.outputs ≡ f.outputs → g.words ≡ f.words → HasPut out words rows f was now → HasPut out words rows g was now
same_files out words rows f g was now e d h = record {
  names = ap open_names e ∙ h.names;
  given = subst (λ (os : List Open). IsOpen os (contents_of words rows) was now) (sym e) h.given;
  count = d ∙ h.count;
}

module _ (out : List ℕ) (words other : List RxWord) (rows further : List PlaceRow) (was now : Option Files) (e : words ≡ other) (f : rows ≡ further) where
  pub same_puts : {T : Type 0} (result : Result T Stop) (g : GatheredFiles) → Puts out words rows result g was now → Puts out other further result g was now
  same_puts (Ok t) g h = same_put out words other rows further g was now e f h
  same_puts (Err why) g h = same_stopped out words other rows further why was now e f h

-- memory ran out before these words were given
pub words_stopped : (out : List ℕ) (words more : List RxWord) (rows : List PlaceRow) (f : GatheredFiles) (was now : Option Files) → HasPut out words rows f was now → IsStopped out (words ++ more) rows stop.OutOfMemory was now
words_stopped out words more rows f was now h =
    same_stopped out (words ++ more) (words ++ more) (rows ++ []) rows stop.OutOfMemory was now refl (append-nil rows) (put_stopped out words more rows [] was now f h)

-- memory ran out before these rows were given
pub rows_stopped : (out : List ℕ) (words : List RxWord) (rows further : List PlaceRow) (f : GatheredFiles) (was now : Option Files) → HasPut out words rows f was now → IsStopped out words (rows ++ further) stop.OutOfMemory was now
rows_stopped out words rows further f was now h =
    same_stopped out (words ++ []) words (rows ++ further) (rows ++ further) stop.OutOfMemory was now (append-nil words) refl (put_stopped out words [] rows further was now f h)

-- there are two outputs
pub two_opens : (out : List ℕ) (opens : List Open) → open_names opens ≡ gathered_names out → length opens ≡ 2
two_opens out opens e = sym (length-map opens (λ (x : Open). x.name)) ∙ ap (λ (ns : List (List ℕ)). length ns) e

pub opens_differ : (out : List ℕ) (opens : List Open) → open_names opens ≡ gathered_names out → Differ (open_names opens)
opens_differ out opens e = subst Differ (sym e) (names_differ out)

-- these bytes more of the words file
pub words_given : (words more : List RxWord) (rows : List PlaceRow) (bytes : List ℕ) → bytes ≡ rx_words_file more → more_at (contents_of words rows) 0 bytes ≡ contents_of (words ++ more) rows
words_given words more rows bytes e = ap (λ (b : List ℕ). b ∷ places_table rows ∷ []) (ap (λ (b : List ℕ). rx_words_file words ++ b) e ∙ file_more words more)

-- these bytes more of the table
pub rows_given : (words : List RxWord) (rows further : List PlaceRow) (bytes : List ℕ) → bytes ≡ place_rows further → more_at (contents_of words rows) 1 bytes ≡ contents_of words (rows ++ further)
rows_given words rows further bytes e = ap (λ (b : List ℕ). rx_words_file words ∷ b ∷ []) (ap (λ (b : List ℕ). places_table rows ++ b) e ∙ table_more rows further)

-- the heading of the table, after nothing
pub heading_given : (out : List ℕ) (names : List (List ℕ)) (bytes : List ℕ) → names ≡ gathered_names out → bytes ≡ rows_text (heading ∷ []) → more_at (blank names) 1 bytes ≡ contents_of [] []
heading_given out names bytes e f = rw (e, f) (ap (λ (b : List ℕ). [] ∷ b ∷ []) table_none)

-- the outputs were not created
pub created_stopped : (out : List ℕ) (names : List (List ℕ)) (words : List RxWord) (rows : List PlaceRow) (why : Stop) (was now : Option Files) → names ≡ gathered_names out → IsOfStore (Contains names) why → Told was now (HoldsPart (outs names (blank names))) → IsStopped out words rows why was now
created_stopped out names words rows why was now e store h = record {
  by_store = subst (λ (ns : List (List ℕ)). IsOfStore (Contains ns) why) e store;
  part = subst (λ (ns : List (List ℕ)). Told was now (HoldsPart (outs ns (contents_of words rows)))) e
      (told_by was now (λ u v k. part_more names (blank names) (contents_of words rows) u v (blank_prefixes names (contents_of words rows) (ap (λ (ns : List (List ℕ)). length ns) (sym e))) k) h);
}

pub same_contents : (words : List RxWord) (rows : List PlaceRow) → Prefixes (contents_of words rows) (contents_of words rows)
same_contents words rows = (([], sym (append-nil (rx_words_file words))), (([], sym (append-nil (places_table rows))), tt))
