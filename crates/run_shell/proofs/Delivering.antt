-- Outputs that are filled one after another with contents that were made before.
use Rattle.std.proofs.Common.{◌≡◌, ℕ, zero, suc, ◌<◌, ◌≤◌, ◌+◌, arith, List, [], ◌∷◌, ◌++◌, length, map, take, drop, get_or, refl, rules, sym, ap, ◌∙◌, subst, inl, inr, Option, Some, None, IfSome, IsSome, Result, Err, Ok, Contains}
use Rattle.std.proofs.lemmas.List.{length-map, take-append-drop}
use Rattle.run_stops.specs.declared.stop.Stop.{Stop}
use Rattle.run_shell.specs.declared.finished.Finished.{Finished}
use Rattle.lk_outside.specs.Files.{Files, file, Told, Extends}
use Rattle.run_shell.specs.Outcome.{Outcome, Holds, HoldsPart}
use Rattle.run_stops.specs.Stops.{StoreStops}
use Rattle.run_shell.specs.Open.{Open}
use Rattle.run_shell.specs.Outputs.{Differ, AppendedBy, outs, blank, Prefixes, more, open_names, in_turn, FilledAll, FilledInTurn}
use Rattle.run_shell.specs.Writing.{Writes, Begin, delivered}
use Rattle.run_shell.proofs.Creating.{named}
use Rattle.run_shell.proofs.Fills.{blank_prefixes, grows, part_more, prefix_part, stands_at}
use Rattle.run_stops.proofs.Moves.{told_by, told_then}
use Rattle.run_shell.proofs.Writing.{stop_writes, done_writes}

-- this many of the outputs were given their contents
pub filled : ℕ → List (List ℕ) → List (List ℕ) → List (List ℕ)
filled zero ns cs = blank ns
filled (suc k) (n ∷ ns) (c ∷ cs) = c ∷ filled k ns cs
filled (suc k) _ _ = []

filled_one : (k : ℕ) (ns cs : List (List ℕ)) → k < length cs → length cs ≡ length ns → more (filled k ns cs) k (get_or cs k []) ≡ filled (suc k) ns cs
unfolding filled
filled_one zero [] [] lt e = absurd (omega arith)
filled_one zero [] (c ∷ cs) lt e = absurd (omega arith)
filled_one zero (n ∷ ns) [] lt e = absurd (omega arith)
filled_one zero (n ∷ ns) (c ∷ cs) lt e = refl
filled_one (suc k) [] [] lt e = absurd (omega arith)
filled_one (suc k) [] (c ∷ cs) lt e = absurd (omega arith)
filled_one (suc k) (n ∷ ns) [] lt e = absurd (omega arith)
filled_one (suc k) (n ∷ ns) (c ∷ cs) lt e = ap (λ r. c ∷ r) (filled_one k ns cs (omega arith) (omega arith))

pub filled_more : (k : ℕ) (ns cs : List (List ℕ)) → k < length cs → length cs ≡ length ns → more (filled k ns cs) k (get_or cs k []) ≡ filled (k + 1) ns cs
filled_more k ns cs lt e =
    let next : suc k ≡ k + 1 = omega arith in
    filled_one k ns cs lt e ∙ ap (λ m. filled m ns cs) next

pub filled_all : (ns cs : List (List ℕ)) → length cs ≡ length ns → filled (length cs) ns cs ≡ cs
unfolding filled
filled_all [] [] e = refl
filled_all [] (c ∷ cs) e = absurd (omega arith)
filled_all (n ∷ ns) [] e = absurd (omega arith)
filled_all (n ∷ ns) (c ∷ cs) e = ap (λ r. c ∷ r) (filled_all ns cs (omega arith))

-- the next of the contents, that of this item
pub next_filled : {X : Type 0} (f : X → List ℕ) (ns : List (List ℕ)) (xs : List X) (k : ℕ) (x : X) (bytes : List ℕ) → length (map f xs) ≡ length ns → k < length xs → x ≡ get_or xs k x → bytes ≡ f x → more (filled k ns (map f xs)) k bytes ≡ filled (k + 1) ns (map f xs)
next_filled f ns xs k x bytes each lt is value =
    let (below, at) = named f xs k x bytes lt is value in
    ap (more (filled k ns (map f xs)) k) at ∙ filled_more k ns (map f xs) below each

pub place_below : {X : Type 0} (f : X → List ℕ) (ns : List (List ℕ)) (xs : List X) (opens : List Open) (k : ℕ) → length (map f xs) ≡ length ns → open_names opens ≡ ns → k < length xs → k < length opens
place_below f ns xs opens k each names lt =
    let a : length (map f xs) ≡ length xs = length-map xs f in
    let b : length (open_names opens) ≡ length opens = length-map opens (λ (o : Open). o.name) in
    let c : length (open_names opens) ≡ length ns = ap length names in
    omega arith

pub up_to : {X : Type 0} (f : X → List ℕ) (xs : List X) (k : ℕ) → k ≤ length xs → k ≤ length (map f xs)
up_to f xs k le = let a : length (map f xs) ≡ length xs = length-map xs f in omega arith

pub ends_filled : {X : Type 0} (f : X → List ℕ) (ns : List (List ℕ)) (xs : List X) (k : ℕ) → length (map f xs) ≡ length ns → length xs ≤ k → k ≤ length xs → filled k ns (map f xs) ≡ map f xs
ends_filled f ns xs k each ge le =
    let a : length (map f xs) ≡ length xs = length-map xs f in
    let all : k ≡ length (map f xs) = omega arith in
    ap (λ n. filled n ns (map f xs)) all ∙ filled_all ns (map f xs) each

nothing : (ys : List ℕ) → ys ++ [] ≡ ys
nothing ys = search rules

pub filled_begins : (k : ℕ) (ns cs : List (List ℕ)) → length cs ≡ length ns → k ≤ length cs → Prefixes (filled k ns cs) cs
unfolding filled
filled_begins zero ns cs e le = blank_prefixes ns cs e
filled_begins (suc k) [] [] e le = absurd (omega arith)
filled_begins (suc k) [] (c ∷ cs) e le = absurd (omega arith)
filled_begins (suc k) (n ∷ ns) [] e le = absurd (omega arith)
filled_begins (suc k) (n ∷ ns) (c ∷ cs) e le = (([], sym (nothing c)), filled_begins k ns cs (omega arith) (omega arith))

-- there are as many names as contents
pub below_names : {X Y : Type 0} (f : X → List ℕ) (h : Y → List ℕ) (ns : List Y) (xs : List X) (k : ℕ) → length (map f xs) ≡ length (map h ns) → k < length xs → k < length ns
below_names f h ns xs k each lt =
    let a : length (map f xs) ≡ length xs = length-map xs f in
    let b : length (map h ns) ≡ length ns = length-map ns h in
    omega arith

-- at first nothing was given
pub at_first : (ns cs : List (List ℕ)) → blank ns ≡ filled 0 ns cs
unfolding filled
at_first ns cs = refl

module _ (names contents : List (List ℕ)) (each : length contents ≡ length names) (f : Finished) where
  abbrev IsDelivered : Outcome → Type 0
  IsDelivered o = o ≡ delivered names contents f

  begin : (k : ℕ) → k ≤ length contents → (o : Outcome) → IsDelivered o → Begin names (filled k names contents) o.files
  begin k le o e = (contents, ap (λ (p : Outcome). p.files) e, filled_begins k names contents each le)

  pub nothing_delivered : (T : Type 0) (s : Stop) (x y : Option Files) → StoreStops {T = T} (Contains names) (Err s) → Told x y (HoldsPart (outs names (blank names))) → Writes IsDelivered names (Err s) x y
  nothing_delivered T s x y store h = stop_writes IsDelivered names T s (blank names) x y (λ o e. (contents, ap (λ (p : Outcome). p.files) e, blank_prefixes names contents each)) store h

  -- this many of them were given their contents, and a part of that is there
  pub delivery_stops : (T : Type 0) (k : ℕ) (s : Stop) (x y : Option Files) → k ≤ length contents → StoreStops {T = T} (Contains names) (Err s) → Told x y (HoldsPart (outs names (filled k names contents))) → Writes IsDelivered names (Err s) x y
  delivery_stops T k s x y le store h = stop_writes IsDelivered names T s (filled k names contents) x y (begin k le) store h

  pub delivery_ends : (x y : Option Files) → Told x y (Holds (outs names contents)) → Writes IsDelivered names (Ok f) x y
  delivery_ends x y h = done_writes IsDelivered names f contents (delivered names contents f) x y refl refl refl refl h

  -- this many of them were given their contents, if the names are those of outputs that are open
  pub named_stops : (T : Type 0) (k : ℕ) (s : Stop) (ns : List (List ℕ)) → ns ≡ names → (x y : Option Files) → k ≤ length contents → StoreStops {T = T} (Contains ns) (Err s) → Told x y (HoldsPart (outs ns (filled k names contents))) → Writes IsDelivered names (Err s) x y
  named_stops T k s ns is x y le store h =
      delivery_stops T k s x y le (subst (λ ms. StoreStops {T = T} (Contains ms) (Err s)) is store) (subst (λ ms. Told x y (HoldsPart (outs ms (filled k names contents)))) is h)

  pub named_ends : (ns : List (List ℕ)) → ns ≡ names → (x y : Option Files) → Told x y (Holds (outs ns contents)) → Writes IsDelivered names (Ok f) x y
  named_ends ns is x y h = delivery_ends x y (subst (λ ms. Told x y (Holds (outs ms contents))) is h)

-- ---- each to its end before the next

filled_length : (k : ℕ) (ns cs : List (List ℕ)) → k ≤ length cs → length cs ≡ length ns → length (filled k ns cs) ≡ length ns
unfolding filled
filled_length zero ns cs le e = length-map ns (λ (n : List ℕ). [])
filled_length (suc k) [] [] le e = absurd (omega arith)
filled_length (suc k) [] (c ∷ cs) le e = absurd (omega arith)
filled_length (suc k) (n ∷ ns) [] le e = absurd (omega arith)
filled_length (suc k) (n ∷ ns) (c ∷ cs) le e = ap suc (filled_length k ns cs (omega arith) (omega arith))

blank_same : (ns cs : List (List ℕ)) → length cs ≡ length ns → blank ns ≡ blank cs
blank_same [] [] e = refl
blank_same [] (c ∷ cs) e = absurd (omega arith)
blank_same (n ∷ ns) [] e = absurd (omega arith)
blank_same (n ∷ ns) (c ∷ cs) e = ap (λ (r : List (List ℕ)). [] ∷ r) (blank_same ns cs (omega arith))

-- after this many whole contents there are the first bytes of the next
filled_part : (k m : ℕ) (ns cs : List (List ℕ)) → k < length cs → length cs ≡ length ns → more (filled k ns cs) k (take m (get_or cs k [])) ≡ in_turn k m cs
unfolding filled
filled_part zero m [] [] lt e = absurd (omega arith)
filled_part zero m [] (c ∷ cs) lt e = absurd (omega arith)
filled_part zero m (n ∷ ns) [] lt e = absurd (omega arith)
filled_part zero m (n ∷ ns) (c ∷ cs) lt e = ap (λ (r : List (List ℕ)). take m c ∷ r) (blank_same ns cs (omega arith))
filled_part (suc k) m [] [] lt e = absurd (omega arith)
filled_part (suc k) m [] (c ∷ cs) lt e = absurd (omega arith)
filled_part (suc k) m (n ∷ ns) [] lt e = absurd (omega arith)
filled_part (suc k) m (n ∷ ns) (c ∷ cs) lt e = ap (λ (r : List (List ℕ)). c ∷ r) (filled_part k m ns cs (omega arith) (omega arith))

in_turn_begins : (k m : ℕ) (cs : List (List ℕ)) → Prefixes (in_turn k m cs) cs
in_turn_begins k m [] = tt
in_turn_begins zero m (c ∷ cs) = ((drop m c, sym (take-append-drop m c)), blank_prefixes cs cs refl)
in_turn_begins (suc k) m (c ∷ cs) = (([], sym (nothing c)), in_turn_begins k m cs)

module _ (names contents : List (List ℕ)) (each : length contents ≡ length names) (differ : Differ names) where
  module _ (k : ℕ) (name : List ℕ) (lt : k < length contents) (at : name ≡ get_or names k []) (x y : Option Files) (stand : Told x y (Holds (outs names (filled k names contents)))) where
    below : k < length names
    below = omega arith

    len : length (filled k names contents) ≡ length names
    len = filled_length k names contents (omega arith) each

    -- the next output is there
    pub turn_there : IfSome y (λ files. IsSome (file files name))
    turn_there = by x y stand
      where
        by : (a b : Option Files) → Told a b (Holds (outs names (filled k names contents))) → IfSome b (λ files. IsSome (file files name))
        by None None p = tt
        by None (Some v) p = absurd p
        by (Some u) None p = tt
        by (Some u) (Some v) p =
            let here : file v (get_or names k []) ≡ Some (get_or (filled k names contents) k []) = stands_at names (filled k names contents) k u v differ below len p in
            subst (λ n. IsSome (file v n)) (sym at) (subst (λ c. IsSome c) (sym here) refl)

    module _ (content : List ℕ) (is : content ≡ get_or contents k []) (z : Option Files) where
      -- it was filled to its end
      pub turn_on : Told y z (Extends name content) → Told x z (Holds (outs names (filled (k + 1) names contents)))
      turn_on h =
          let whole : more (filled k names contents) k content ≡ filled (k + 1) names contents = ap (more (filled k names contents) k) is ∙ filled_more k names contents lt each in
          subst (λ cs. Told x z (Holds (outs names cs))) whole
          (told_then x y z (λ u v w p q. grows names (filled k names contents) k content u v w differ below len p (subst (λ n. Extends n content v w) at q)) stand h)

      -- it was filled in part
      pub turn_stops : (s : Stop) → Told y z (AppendedBy {T = Unit {0}} name content (Err s)) → Told x z (FilledInTurn {T = Unit {0}} names contents (Err s))
      turn_stops s h =
          told_then x y z (λ u v w p (m, le, q).
          let part : more (filled k names contents) k (take m content) ≡ in_turn k m contents = ap (λ c. more (filled k names contents) k (take m c)) is ∙ filled_part k m names contents lt each in
          inr (k, m, subst (λ cs. Holds (outs names cs) u w) part (grows names (filled k names contents) k (take m content) u v w differ below len p (subst (λ n. Extends n (take m content) v w) at q)))) stand h

  -- at first each is there and empty
  pub turns_begin : (x y : Option Files) → Told x y (Holds (outs names (blank names))) → Told x y (Holds (outs names (filled 0 names contents)))
  turns_begin x y h = subst (λ cs. Told x y (Holds (outs names cs))) (at_first names contents) h

  -- at last each is filled
  pub turns_end : (k : ℕ) (x y : Option Files) → length contents ≤ k → k ≤ length contents → Told x y (Holds (outs names (filled k names contents))) → Told x y (Holds (outs names contents))
  turns_end k x y ge le h =
      let all : k ≡ length contents = omega arith in
      subst (λ cs. Told x y (Holds (outs names cs))) (ap (λ n. filled n names contents) all ∙ filled_all names contents each) h

-- none was filled yet
pub none_filled : (names contents : List (List ℕ)) (s : Stop) (x y : Option Files) → Told x y (HoldsPart (outs names (blank names))) → Told x y (FilledInTurn {T = Unit {0}} names contents (Err s))
none_filled names contents s x y h = told_by x y (λ u v p. inl p) h

-- what is filled in turn is filled
pub in_turn_fills : (names contents : List (List ℕ)) (r : Result (Unit {0}) Stop) (x y : Option Files) → length contents ≡ length names → Told x y (FilledInTurn names contents r) → Told x y (FilledAll names contents r)
in_turn_fills names contents (Ok t) x y each h = h
in_turn_fills names contents (Err s) x y each h = told_by x y by h
  where
    by : (u v : Files) → FilledInTurn {T = Unit {0}} names contents (Err s) u v → HoldsPart (outs names contents) u v
    by u v (inl p) = part_more names (blank names) contents u v (blank_prefixes names contents each) p
    by u v (inr (k, m, p)) = prefix_part names (in_turn k m contents) contents u v (in_turn_begins k m contents) p
