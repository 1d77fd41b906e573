-- What one more entry tells.
use Rattle.std.proofs.Common.{◌≡◌, ◌≢◌, ℕ, ◌+◌, ◌<◌, Bool, true, false, not, List, [], ◌∷◌, ◌++◌, length, map, reverse, nat_eq, get_or, refl, sym, ap, ◌∙◌, arith, append_assoc, append-nil, eq-eqb, subst, inl, inr}
use Rattle.std.specs.Bool.{beq}
use Rattle.std.specs.List.{range_with_len}
use Rattle.std.proofs.lemmas.List.{reverse-append, get_or-set_same, get_or-set_other}
use Rattle.std.proofs.Math.ListN.{set}
use Rattle.std.proofs.lemmas.Bool.{cases_eq}
use Rattle.std.proofs.lemmas.Bool.Decides.{nat_tests}
use Rattle.stream_model.specs.Calendar.{Told}
use Rattle.lk_base.specs.Checksum.{differ}
use Rattle.lk_base.proofs.Lists.{range_more}
use Rattle.calendar.specs.Changes.{change, state_in, change_of, changes}
use Rattle.calendar.specs.Incoming.{HasStates}

-- one more entry is before all that was told
pub back_more : (es told : List Told) (e : Told) → reverse (es ++ e ∷ []) ++ told ≡ e ∷ (reverse es ++ told)
back_more es told e = ap (λ xs. xs ++ told) (reverse-append es (e ∷ []))

changes_append : (told es : List Told) (e : Told) → changes told (es ++ e ∷ []) ≡ changes told es ++ change_of (reverse es ++ told) e
changes_append told [] e = append-nil (change_of told e)
changes_append told (d ∷ es) e =
    ap (λ xs. change_of told d ++ xs) (changes_append (d ∷ told) es e)
    ∙ ap (λ xs. change_of told d ++ (changes (d ∷ told) es ++ change_of xs e)) (sym (ap (λ xs. xs ++ told) (reverse-append (d ∷ []) es) ∙ append_assoc (reverse es) (d ∷ []) told))
    ∙ sym (append_assoc (change_of told d) (changes (d ∷ told) es) (change_of (reverse (d ∷ es) ++ told) e))

pub states_more : (f : ℕ → Told) (n : ℕ) (told : List Told) → reverse (map f (range_with_len 0 (n + 1))) ++ told ≡ f n ∷ (reverse (map f (range_with_len 0 n)) ++ told)
states_more f n told = ap (λ xs. reverse xs ++ told) (range_more f n) ∙ back_more (map f (range_with_len 0 n)) told (f n)

pub changes_more : (f : ℕ → Told) (n : ℕ) (told : List Told) → changes told (map f (range_with_len 0 (n + 1))) ≡ changes told (map f (range_with_len 0 n)) ++ change_of (reverse (map f (range_with_len 0 n)) ++ told) (f n)
changes_more f n told = ap (changes told) (range_more f n) ∙ changes_append told (map f (range_with_len 0 n)) (f n)

-- ---- states

pub state_same : (told : List Told) (e : Told) → state_in (e ∷ told) e.channel ≡ e.on
state_same told e = let h : nat_eq e.channel e.channel ≡ true = eq-eqb e.channel e.channel refl in rw h refl

pub state_other : (told : List Told) (e : Told) (c : ℕ) → c ≢ e.channel → state_in (e ∷ told) c ≡ state_in told c
state_other told e c ne = let h : nat_eq e.channel c ≡ false = grind (arith, nat_tests) in rw h refl

pub states_set : (on : List Bool) (told : List Told) (e : Told) → length on ≡ 65536 → HasStates on told → HasStates (set on e.channel e.on) (e ∷ told)
states_set on told e wide has c h = elim (cases_eq c e.channel) [
  | inl s ↦ (let below : e.channel < length on = omega arith in subst (λ (n : ℕ). get_or (set on e.channel e.on) n false ≡ state_in (e ∷ told) n) (sym s) (get_or-set_same on e.channel e.on false below ∙ sym (state_same told e)))
  | inr n ↦ get_or-set_other on e.channel c e.on false n ∙ has c h ∙ sym (state_other told e c n)
]

pub states_kept : (on : List Bool) (told : List Told) (e : Told) → e.channel < 65536 → get_or on e.channel false ≡ e.on → HasStates on told → HasStates on (e ∷ told)
states_kept on told e small same has c h = elim (cases_eq c e.channel) [
  | inl s ↦ subst (λ (n : ℕ). get_or on n false ≡ state_in (e ∷ told) n) (sym s) (same ∙ sym (state_same told e))
  | inr n ↦ has c h ∙ sym (state_other told e c n)
]

pub turned : (a b d s : Bool) → not (beq a b) ≡ true → d ≡ b → a ≡ s → differ d s ≡ true
turned true true d s h e f = cc
turned false false d s h e f = cc
turned true false true s h e f = cc
turned true false false false h e f = cc
turned true false false true h e f = refl
turned false true false s h e f = cc
turned false true true true h e f = cc
turned false true true false h e f = refl

pub kept : (a b d s : Bool) → not (beq a b) ≡ false → d ≡ b → a ≡ s → differ d s ≡ false
kept true false d s h e f = cc
kept false true d s h e f = cc
kept true true false s h e f = cc
kept true true true false h e f = cc
kept true true true true h e f = refl
kept false false true s h e f = cc
kept false false false true h e f = cc
kept false false false false h e f = refl

pub beq_same : (a b : Bool) → not (beq a b) ≡ false → a ≡ b
beq_same true true h = refl
beq_same false false h = refl
beq_same true false h = cc
beq_same false true h = cc

pub change_yes : (told : List Told) (e : Told) → differ e.on (state_in told e.channel) ≡ true → change_of told e ≡ change e.channel e.on ∷ []
change_yes told e h = rw h refl

pub change_no : (told : List Told) (e : Told) → differ e.on (state_in told e.channel) ≡ false → change_of told e ≡ []
change_no told e h = rw h refl
