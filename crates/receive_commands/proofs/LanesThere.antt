-- Lanes that are asked for one after another.
use Rattle.std.proofs.Common.{◌≡◌, ℕ, zero, suc, ◌+◌, ◌<◌, ◌≤◌, List, [], ◌∷◌, ◌++◌, length, drop, get_or, refl, sym, ap, ◌∙◌, subst, append_assoc, arith, Option, Some, None, IfSome, Result, Ok, Err, Contains}
use Rattle.lk_base.specs.Limits.{lane_limit}
use Rattle.lk_outside.specs.Files.{Files}
use Rattle.run_stops.specs.declared.stop.Stop.{Stop}
use Rattle.run_stops.specs.Reading.{Reads, Refusal, behind, bytes_in}
use Rattle.run_shell.proofs.Creating.{named_at}
use Rattle.run_stops.proofs.Readings.{behind_stops}
use Rattle.receive_commands.specs.Receive.{lanes_in}

-- the first lanes are there, so that all are as those after them
abbrev pub Led : List (List ℕ) → ℕ → Files → Type 0
Led names i files = (front : List (List ℕ)) × (lanes_in files names ≡ behind (lanes_in files (drop i names)) (λ lanes. Ok (front ++ lanes)))

behind_nothing : (r : Result (List (List ℕ)) Refusal) → r ≡ behind r (λ lanes. Ok ([] ++ lanes))
behind_nothing (Ok lanes) = refl
behind_nothing (Err e) = refl

pub led_first : (names : List (List ℕ)) (files : Files) → Led names 0 files
led_first names files = ([], behind_nothing (lanes_in files names))

drop_here : (names : List (List ℕ)) (i : ℕ) (d : List ℕ) → i < length names → drop i names ≡ get_or names i d ∷ drop (suc i) names
drop_here [] i d lt = absurd (omega arith)
drop_here (n ∷ names) zero d lt = refl
drop_here (n ∷ names) (suc i) d lt = drop_here names i d (omega arith)

drop_next : (names : List (List ℕ)) (i : ℕ) (d : List ℕ) → i < length names → drop i names ≡ get_or names i d ∷ drop (i + 1) names
drop_next names i d lt = let e : suc i ≡ i + 1 = omega arith in drop_here names i d lt ∙ ap (λ k. get_or names i d ∷ drop k names) e

behind_twice : (front : List (List ℕ)) (bytes : List ℕ) (r : Result (List (List ℕ)) Refusal) → behind (behind r (λ lanes. Ok (bytes ∷ lanes))) (λ lanes. Ok (front ++ lanes)) ≡ behind r (λ lanes. Ok ((front ++ bytes ∷ []) ++ lanes))
behind_twice front bytes (Ok lanes) = ap Ok (sym (append_assoc front (bytes ∷ []) lanes))
behind_twice front bytes (Err e) = refl

module _ (names : List (List ℕ)) (i : ℕ) (name : List ℕ) (lt : i < length names) (is : name ≡ get_or names i []) (files : Files) where
  next_in : lanes_in files (drop i names) ≡ behind (bytes_in files name lane_limit) (λ bytes. behind (lanes_in files (drop (i + 1) names)) (λ lanes. Ok (bytes ∷ lanes)))
  unfolding lanes_in
  next_in = ap (lanes_in files) (drop_next names i [] lt ∙ ap (λ n. n ∷ drop (i + 1) names) (sym is))

  pub led_next : Led names i files → ((bytes : List ℕ) × (bytes_in files name lane_limit ≡ Ok bytes)) → Led names (i + 1) files
  led_next (front, e) (bytes, had) = (
    front ++ bytes ∷ [],
    e ∙ ap (λ r. behind r (λ lanes. Ok (front ++ lanes))) (next_in ∙ ap (λ r. behind r (λ b. behind (lanes_in files (drop (i + 1) names)) (λ lanes. Ok (b ∷ lanes)))) had)
        ∙ behind_twice front bytes (lanes_in files (drop (i + 1) names)),
  )

  among : Contains names name
  among = named_at names i name lt is

  pub led_stops : (s : Stop) → Led names i files → Reads {T = List ℕ} (λ v. v) (λ n. n ≡ name) (Err s) (bytes_in files name lane_limit) → Reads {T = List (List ℕ)} (λ v. v) (Contains names) (Err s) (lanes_in files names)
  led_stops s (front, e) h =
      subst (λ r. Reads {T = List (List ℕ)} (λ v. v) (Contains names) (Err s) r) (sym (e ∙ ap (λ r. behind r (λ lanes. Ok (front ++ lanes))) next_in))
      (behind_stops (List (List ℕ)) (List (List ℕ)) (List (List ℕ)) (List (List ℕ)) _ (λ lanes. Ok (front ++ lanes)) (λ v. v) (λ v. v) (Contains names) (Contains names) s (λ q k. k)
      (behind_stops (List ℕ) (List (List ℕ)) (List ℕ) (List (List ℕ)) (bytes_in files name lane_limit) (λ bytes. behind (lanes_in files (drop (i + 1) names)) (λ lanes. Ok (bytes ∷ lanes))) (λ v. v) (λ v. v) (λ n. n ≡ name) (Contains names) s (λ q k. subst (Contains names) (sym k) among) h))

drop_all : (names : List (List ℕ)) (i : ℕ) → length names ≤ i → drop i names ≡ []
drop_all [] zero le = refl
drop_all [] (suc i) le = refl
drop_all (n ∷ names) zero le = absurd (omega arith)
drop_all (n ∷ names) (suc i) le = drop_all names i (omega arith)

pub led_all : (names : List (List ℕ)) (i : ℕ) (files : Files) → length names ≤ i → Led names i files → (lanes : List (List ℕ)) × (lanes_in files names ≡ Ok lanes)
unfolding lanes_in
led_all names i files le (front, e) = (front ++ [], e ∙ ap (λ ns. behind (lanes_in files ns) (λ lanes. Ok (front ++ lanes))) (drop_all names i le))

-- ---- where the files are told

pub begin_there : (names : List (List ℕ)) (x : Option Files) → IfSome x (Led names 0)
begin_there names None = tt
begin_there names (Some files) = led_first names files

module _ (names : List (List ℕ)) (i : ℕ) (name : List ℕ) (lt : i < length names) (is : name ≡ get_or names i []) where
  pub goes_there : (x y : Option Files) → y ≡ x → IfSome x (Led names i) → IfSome y (λ files. (bytes : List ℕ) × (bytes_in files name lane_limit ≡ Ok bytes)) → IfSome x (Led names (i + 1))
  goes_there None y same led h = tt
  goes_there (Some files) y same led h = led_next names i name lt is files led (subst (λ z. IfSome z (λ fs. (bytes : List ℕ) × (bytes_in fs name lane_limit ≡ Ok bytes))) same h)

  pub stops_there : (s : Stop) (x y : Option Files) → y ≡ x → IfSome x (Led names i) → IfSome y (λ files. Reads {T = List ℕ} (λ v. v) (λ n. n ≡ name) (Err s) (bytes_in files name lane_limit)) → IfSome x (λ files. Reads {T = List (List ℕ)} (λ v. v) (Contains names) (Err s) (lanes_in files names))
  stops_there s None y same led h = tt
  stops_there s (Some files) y same led h = led_stops names i name lt is files s led (subst (λ z. IfSome z (λ fs. Reads {T = List ℕ} (λ v. v) (λ n. n ≡ name) (Err s) (bytes_in fs name lane_limit))) same h)

pub all_there : (names : List (List ℕ)) (i : ℕ) (x : Option Files) → length names ≤ i → IfSome x (Led names i) → IfSome x (λ files. (lanes : List (List ℕ)) × (lanes_in files names ≡ Ok lanes))
all_there names i None le led = tt
all_there names i (Some files) le led = led_all names i files le led
