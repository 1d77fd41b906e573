-- Lanes that are read one after another.
use Rattle.std.proofs.Common.{◌≡◌, ℕ, zero, suc, ◌+◌, ◌<◌, ◌≤◌, List, [], ◌∷◌, ◌++◌, length, map, drop, get_or, refl, sym, ap, ◌∙◌, subst, append_assoc, append-nil, arith, Option, Some, None, IfSome, Result, Ok, Err, Contains, All, Vec, Global}
use Rattle.std.proofs.lemmas.List.{map-append}
use Rattle.std.proofs.lemmas.List.Elements.{All-append, All-cons, All-nil}
use Rattle.lk_outside.specs.Files.{Files, file}
use Rattle.run_stops.specs.declared.stop.Stop.{Stop}
use Rattle.run_stops.specs.Reading.{Reads, Refusal, behind, bytes_in, vec_items}
use Rattle.run_stops.proofs.Readings.{behind_ok, behind_stops, bytes_by_ok}
use Rattle.run_shell.proofs.Creating.{named_at}
use Rattle.damage_commands.specs.PlanLanes.{lanes_in, whole_lane_limit}

-- the first of these lanes were read, and all are these with those after them
abbrev pub Led : List (List ℕ) → ℕ → List (List ℕ) → Files → Type 0
Led names i front files = lanes_in files names ≡ behind (lanes_in files (drop i names)) (λ lanes. Ok (front ++ lanes))

behind_nothing : (r : Result (List (List ℕ)) Refusal) → r ≡ behind r (λ lanes. Ok ([] ++ lanes))
behind_nothing (Ok lanes) = refl
behind_nothing (Err e) = refl

drop_here : (names : List (List ℕ)) (i : ℕ) (d : List ℕ) → i < length names → drop i names ≡ get_or names i d ∷ drop (suc i) names
drop_here [] i d lt = absurd (omega arith)
drop_here (n ∷ names) zero d lt = refl
drop_here (n ∷ names) (suc i) d lt = drop_here names i d (omega arith)

drop_next : (names : List (List ℕ)) (i : ℕ) (d : List ℕ) → i < length names → drop i names ≡ get_or names i d ∷ drop (i + 1) names
drop_next names i d lt = let e : suc i ≡ i + 1 = omega arith in drop_here names i d lt ∙ ap (λ k. get_or names i d ∷ drop k names) e

behind_twice : (front : List (List ℕ)) (bytes : List ℕ) (r : Result (List (List ℕ)) Refusal) → behind (behind r (λ lanes. Ok (bytes ∷ lanes))) (λ lanes. Ok (front ++ lanes)) ≡ behind r (λ lanes. Ok ((front ++ bytes ∷ []) ++ lanes))
behind_twice front bytes (Ok lanes) = ap Ok (sym (append_assoc front (bytes ∷ []) lanes))
behind_twice front bytes (Err e) = refl

module _ (names : List (List ℕ)) (i : ℕ) (name : List ℕ) (lt : i < length names) (is : name ≡ get_or names i []) (files : Files) (front : List (List ℕ)) where
  next_in : lanes_in files (drop i names) ≡ behind (bytes_in files name whole_lane_limit) (λ bytes. behind (lanes_in files (drop (i + 1) names)) (λ lanes. Ok (bytes ∷ lanes)))
  unfolding lanes_in
  next_in = ap (lanes_in files) (drop_next names i [] lt ∙ ap (λ n. n ∷ drop (i + 1) names) (sym is))

  led_next : (bytes : List ℕ) → Led names i front files → bytes_in files name whole_lane_limit ≡ Ok bytes → Led names (i + 1) (front ++ bytes ∷ []) files
  led_next bytes e had =
      e ∙ ap (λ r. behind r (λ lanes. Ok (front ++ lanes))) (next_in ∙ ap (λ r. behind r (λ b. behind (lanes_in files (drop (i + 1) names)) (λ lanes. Ok (b ∷ lanes)))) had)
      ∙ behind_twice front bytes (lanes_in files (drop (i + 1) names))

  among : Contains names name
  among = named_at names i name lt is

  led_stops : (T : Type 0) (value : T → List (List ℕ)) (s : Stop) → Led names i front files → Reads vec_items (λ n. n ≡ name) (Err s) (bytes_in files name whole_lane_limit) → Reads value (Contains names) (Err s) (lanes_in files names)
  led_stops T value s e h =
      subst (λ r. Reads value (Contains names) (Err s) r) (sym (e ∙ ap (λ r. behind r (λ lanes. Ok (front ++ lanes))) next_in))
      (behind_stops (List (List ℕ)) (List (List ℕ)) (List (List ℕ)) T _ (λ lanes. Ok (front ++ lanes)) (λ v. v) value (Contains names) (Contains names) s (λ q k. k)
      (behind_stops (List ℕ) (List (List ℕ)) (Vec ℕ Global) (List (List ℕ)) (bytes_in files name whole_lane_limit) (λ bytes. behind (lanes_in files (drop (i + 1) names)) (λ lanes. Ok (bytes ∷ lanes))) vec_items (λ v. v) (λ n. n ≡ name) (Contains names) s (λ q k. subst (Contains names) (sym k) among) h))

drop_all : (names : List (List ℕ)) (i : ℕ) → length names ≤ i → drop i names ≡ []
drop_all [] zero le = refl
drop_all [] (suc i) le = refl
drop_all (n ∷ names) zero le = absurd (omega arith)
drop_all (n ∷ names) (suc i) le = drop_all names i (omega arith)

led_all : (names : List (List ℕ)) (i : ℕ) (front : List (List ℕ)) (files : Files) → length names ≤ i → Led names i front files → lanes_in files names ≡ Ok front
unfolding lanes_in
led_all names i front files le e = e ∙ ap (λ ns. behind (lanes_in files ns) (λ lanes. Ok (front ++ lanes))) (drop_all names i le) ∙ ap Ok (append-nil front)

-- ---- where the files are told

abbrev pub items_of : List (Vec ℕ Global) → List (List ℕ)
items_of lanes = map vec_items lanes

pub begin_there : (names : List (List ℕ)) (lanes : List (Vec ℕ Global)) (x : Option Files) → lanes ≡ [] → IfSome x (Led names 0 (items_of lanes))
begin_there names lanes None e = tt
begin_there names lanes (Some files) e = subst (λ (ls : List (Vec ℕ Global)). Led names 0 (items_of ls) files) (sym e) (behind_nothing (lanes_in files names))

module _ (names : List (List ℕ)) (i : ℕ) (name : List ℕ) (lt : i < length names) (is : name ≡ get_or names i []) (old : List (Vec ℕ Global)) where
  pub goes_there : (v : Vec ℕ Global) (new : List (Vec ℕ Global)) (x y : Option Files) → y ≡ x → new ≡ old ++ v ∷ [] → IfSome x (Led names i (items_of old)) → IfSome y (λ files. bytes_in files name whole_lane_limit ≡ Ok v.items) → IfSome x (Led names (i + 1) (items_of new))
  goes_there v new None y same pushed led h = tt
  goes_there v new (Some files) y same pushed led h =
      subst (λ (front : List (List ℕ)). Led names (i + 1) front files) (sym (ap items_of pushed ∙ map-append vec_items old (v ∷ [])))
      (led_next names i name lt is files (items_of old) v.items led (subst (λ z. IfSome z (λ fs. bytes_in fs name whole_lane_limit ≡ Ok v.items)) same h))

  pub stops_there : (T : Type 0) (value : T → List (List ℕ)) (s : Stop) (x y : Option Files) → y ≡ x → IfSome x (Led names i (items_of old)) → IfSome y (λ files. Reads vec_items (λ n. n ≡ name) (Err s) (bytes_in files name whole_lane_limit)) → IfSome x (λ files. Reads value (Contains names) (Err s) (lanes_in files names))
  stops_there T value s None y same led h = tt
  stops_there T value s (Some files) y same led h =
      led_stops names i name lt is files (items_of old) T value s led (subst (λ z. IfSome z (λ fs. Reads vec_items (λ n. n ≡ name) (Err s) (bytes_in fs name whole_lane_limit))) same h)

pub all_there : (names : List (List ℕ)) (i : ℕ) (lanes : List (Vec ℕ Global)) (x : Option Files) → length names ≤ i → IfSome x (Led names i (items_of lanes)) → IfSome x (λ files. lanes_in files names ≡ Ok (items_of lanes))
all_there names i lanes None le led = tt
all_there names i lanes (Some files) le led = led_all names i (items_of lanes) files le led

abbrev Fits : Vec ℕ Global → Type 0
Fits v = length v.items ≤ whole_lane_limit

pub fit_more : (old new : List (Vec ℕ Global)) (v : Vec ℕ Global) → new ≡ old ++ v ∷ [] → All Fits old → length v.items ≤ whole_lane_limit → All Fits new
fit_more old new v e h k = subst (All Fits) (sym e) (All-append Fits old (v ∷ []) h (All-cons Fits v [] k (All-nil Fits)))

pub no_lanes_fit : (lanes : List (Vec ℕ Global)) → lanes ≡ [] → All Fits lanes
no_lanes_fit lanes e = subst (All Fits) (sym e) (All-nil Fits)

-- ---- what was read

same_lanes : (a b : List (List ℕ)) → ◌≡◌ {A = Result (List (List ℕ)) Refusal} (Ok a) (Ok b) → a ≡ b
same_lanes a b e = cc

-- the first of the lanes, and the others
lanes_cut : (files : Files) (name : List ℕ) (names lanes : List (List ℕ)) → lanes_in files (name ∷ names) ≡ Ok lanes →
    (bytes : List ℕ) × (rest : List (List ℕ)) × (bytes_in files name whole_lane_limit ≡ Ok bytes) × (lanes_in files names ≡ Ok rest) × (bytes ∷ rest ≡ lanes)
unfolding lanes_in
lanes_cut files name names lanes e =
    let (bytes, first, more) = behind_ok (bytes_in files name whole_lane_limit) (λ bytes. behind (lanes_in files names) (λ rest. Ok (bytes ∷ rest))) lanes e in
    let (rest, others, all) = behind_ok (lanes_in files names) (λ rest. Ok (bytes ∷ rest)) lanes more in
    (bytes, rest, first, others, same_lanes (bytes ∷ rest) lanes all)

pub lane_read : (files : Files) (names lanes : List (List ℕ)) (i : ℕ) → lanes_in files names ≡ Ok lanes → i < length names → file files (get_or names i []) ≡ Some (get_or lanes i [])
lane_read files [] lanes i e lt = absurd (omega arith)
lane_read files (name ∷ names) lanes zero e lt =
    let (bytes, rest, first, others, all) = lanes_cut files name names lanes e in
    subst (λ (ls : List (List ℕ)). file files name ≡ Some (get_or ls 0 [])) all (bytes_by_ok name whole_lane_limit (file files name) bytes first)
lane_read files (name ∷ names) lanes (suc i) e lt =
    let (bytes, rest, first, others, all) = lanes_cut files name names lanes e in
    subst (λ (ls : List (List ℕ)). file files (get_or names i []) ≡ Some (get_or ls (suc i) [])) all (lane_read files names rest i others (omega (arith, lt)))

pub as_many_read : (files : Files) (names lanes : List (List ℕ)) → lanes_in files names ≡ Ok lanes → length lanes ≡ length names
unfolding lanes_in
as_many_read files [] lanes e = ap length (sym (same_lanes [] lanes e))
as_many_read files (name ∷ names) lanes e =
    let (bytes, rest, first, others, all) = lanes_cut files name names lanes e in
    ap length (sym all) ∙ ap suc (as_many_read files names rest others)
