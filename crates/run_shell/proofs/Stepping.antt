-- The steps of a run with any outputs.
use Rattle.std.proofs.Common.{◌≡◌, ◌≢◌, ℕ, zero, suc, ◌+◌, ◌<◌, true, false, List, [], ◌∷◌, ◌++◌, length, take, get_or, set, refl, sym, ap, ◌∙◌, subst, arith, Option, Some, None, cond}
use Rattle.std.specs.Option.{option_or}
use Rattle.std.specs.Str.{bytes_eq}
use Rattle.std.proofs.Math.Seq.{take-add}
use Rattle.lk_outside.specs.Files.{file}
use Rattle.run_shell.specs.Outcome.{Output, content_of, cut}
use Rattle.run_shell.specs.Steps.{name_at, content_at, IsDistinct, CreateGoesOn, AppendGoesOn, OthersStay}
use Rattle.run_shell.proofs.Fills.{name_cases, same, other}

some_none : (x : List ℕ) (r : Option (List ℕ)) → cond true (Some x) r ≡ None → ⊥
some_none x r e = cc

-- a name that no output has is not that of one of them
not_among : (outputs : List Output) (q : List ℕ) (i : ℕ) → i < length outputs → content_of outputs q ≡ None → name_at outputs i ≢ q
not_among [] q i lt none e = absurd (omega arith)
not_among (o ∷ os) q zero lt none e = some_none o.content (content_of os q) (subst (λ b. cond b (Some o.content) (content_of os q) ≡ None) (subst (λ n. bytes_eq n q ≡ true) (sym e) (same q)) none)
not_among (o ∷ os) q (suc i) lt none e =
    elim (bytes_eq o.name q) as (λ b. cond b (Some o.content) (content_of os q) ≡ None → ⊥) [
      | true ↦ λ n. some_none o.content (content_of os q) n
      | false ↦ λ n. not_among os q i (omega arith) n e
    ] none

apart : (o : Output) (os : List Output) (i : ℕ) → i < length os → content_of os o.name ≡ None → bytes_eq o.name (name_at os i) ≡ false
apart o os i lt none = other o.name (name_at os i) (λ e. not_among os o.name i lt none (sym e))

create_here : (outputs : List Output) (ns : List ℕ) → IsDistinct outputs → length ns < length outputs → content_of (cut outputs (ns ++ 0 ∷ [])) (name_at outputs (length ns)) ≡ Some []
create_here [] ns d lt = absurd (omega arith)
create_here (o ∷ os) [] d lt = ap (λ b. cond b (Some (take 0 o.content)) (content_of (cut os []) o.name)) (same o.name)
create_here (o ∷ os) (n ∷ ns) d lt =
    let below : length ns < length os = omega arith in
    ap (λ b. cond b (Some (take n o.content)) (content_of (cut os (ns ++ 0 ∷ [])) (name_at os (length ns)))) (apart o os (length ns) below d.0) ∙ create_here os ns d.1 below

no_lengths : (outputs : List Output) (q : List ℕ) → content_of (cut outputs []) q ≡ None
no_lengths [] q = refl
no_lengths (o ∷ os) q = refl

create_others : (outputs : List Output) (ns : List ℕ) (q : List ℕ) → q ≢ name_at outputs (length ns) → content_of (cut outputs (ns ++ 0 ∷ [])) q ≡ content_of (cut outputs ns) q
create_others [] ns q ne = refl
create_others (o ∷ os) [] q ne = ap (λ b. cond b (Some (take 0 o.content)) (content_of (cut os []) q)) (other o.name q (λ e. ne (sym e))) ∙ no_lengths os q
create_others (o ∷ os) (n ∷ ns) q ne = ap (λ r. cond (bytes_eq o.name q) (Some (take n o.content)) r) (create_others os ns q ne)

pub create_goes_on : CreateGoesOn
create_goes_on outputs ns old mid new d lt h s q =
    name_cases (name_at outputs (length ns)) q
    (λ e. subst (λ n. file new n ≡ option_or (content_of (cut outputs (ns ++ 0 ∷ [])) n) (file old n)) e
    (s.here ∙ ap (λ c. option_or c (file old (name_at outputs (length ns)))) (sym (create_here outputs ns d lt))))
    (λ ne. s.others q (λ e. ne (sym e)) ∙ h q ∙ ap (λ c. option_or c (file old q)) (sym (create_others outputs ns q (λ e. ne (sym e)))))

pub append_here : (outputs : List Output) (ns : List ℕ) (i m : ℕ) → IsDistinct outputs → i < length ns → i < length outputs → content_of (cut outputs (set ns i m)) (name_at outputs i) ≡ Some (take m (content_at outputs i))
append_here [] ns i m d l k = absurd (omega arith)
append_here (o ∷ os) [] i m d l k = absurd (omega arith)
append_here (o ∷ os) (n ∷ ns) zero m d l k = ap (λ b. cond b (Some (take m o.content)) (content_of (cut os ns) o.name)) (same o.name)
append_here (o ∷ os) (n ∷ ns) (suc i) m d l k =
    let below : i < length os = omega arith in
    ap (λ b. cond b (Some (take n o.content)) (content_of (cut os (set ns i m)) (name_at os i))) (apart o os i below d.0) ∙ append_here os ns i m d.1 (omega arith) below

append_others : (outputs : List Output) (ns : List ℕ) (i m : ℕ) (q : List ℕ) → q ≢ name_at outputs i → content_of (cut outputs (set ns i m)) q ≡ content_of (cut outputs ns) q
append_others [] ns i m q ne = refl
append_others (o ∷ os) [] i m q ne = refl
append_others (o ∷ os) (n ∷ ns) zero m q ne =
    let no = other o.name q (λ e. ne (sym e)) in
    ap (λ b. cond b (Some (take m o.content)) (content_of (cut os ns) q)) no ∙ sym (ap (λ b. cond b (Some (take n o.content)) (content_of (cut os ns) q)) no)
append_others (o ∷ os) (n ∷ ns) (suc i) m q ne = ap (λ r. cond (bytes_eq o.name q) (Some (take n o.content)) r) (append_others os ns i m q ne)

pub append_goes_on : AppendGoesOn
append_goes_on outputs ns i m old mid new d l k h s q =
    let n = get_or ns i 0 in
    name_cases (name_at outputs i) q
    (λ e. subst (λ x. file new x ≡ option_or (content_of (cut outputs (set ns i (n + m))) x) (file old x)) e
    (s.here ∙ ap (λ c. Some c) (sym (take-add n m (content_at outputs i))) ∙ ap (λ c. option_or c (file old (name_at outputs i))) (sym (append_here outputs ns i (n + m) d l k))))
    (λ ne. s.others q (λ e. ne (sym e)) ∙ h q ∙ ap (λ c. option_or c (file old q)) (sym (append_others outputs ns i (n + m) q (λ e. ne (sym e)))))

cut_none : (outputs : List Output) (ns : List ℕ) (q : List ℕ) → content_of outputs q ≡ None → content_of (cut outputs ns) q ≡ None
cut_none [] ns q none = refl
cut_none (o ∷ os) [] q none = refl
cut_none (o ∷ os) (n ∷ ns) q none =
    elim (bytes_eq o.name q) as (λ b. cond b (Some o.content) (content_of os q) ≡ None → cond b (Some (take n o.content)) (content_of (cut os ns) q) ≡ None) [
      | true ↦ λ e. absurd (some_none o.content (content_of os q) e)
      | false ↦ λ e. cut_none os ns q e
    ] none

pub others_stay : OthersStay
others_stay outputs ns old mid q none h = h q ∙ ap (λ c. option_or c (file old q)) (cut_none outputs ns q none)
