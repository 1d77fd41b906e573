-- The attempts of a lane with one bit more.
use Rattle.std.proofs.Common.{ℕ, ◌≡◌, refl, sym, ◌∙◌, subst, ◌+◌, ◌*◌, ◌<◌, ◌≤◌, ◌==◌, Bool, true, false, not, ◌&&◌, cond, List, [], ◌∷◌, ◌++◌, length, arith, Option, Some, None, inl, inr, MatchOption, ne_eqb}
use Rattle.std.specs.Prelude.{nat_le}
use Rattle.std.proofs.lemmas.List.{length-append}
use Rattle.std.proofs.lemmas.Bool.{le-leb, lt-leb, cases_lt, false≢true}
use Rattle.lock_model.specs.declared.types.LostWhy.{LostWhy}
use Rattle.lock_model.specs.declared.types.LostWhy.TheVariants as whys
use Rattle.lock_model.specs.Locks.{has_word, has_illegal, loses_headers, LocksWords, IsWordLock, IsDeclared, loss_at, Loss, IsFirstLoss, IsAttempt, Attempt, AttemptsFrom, next_search, further}
use Rattle.lock_model.proofs.Determined.{same_attempt, same_declared}
use Rattle.lock_model.proofs.Prefixes.{legal_same, legal_here, declared_stays, declared_back, last_here, lock_stays, loss_here, loss_same}
use Rattle.lk_base.proofs.LeastLemmas.{one_least}

-- what is to hold of a declaration, if there is one, and of a loss
abbrev pub Declared : ℕ → List Bool → ℕ → Option ℕ → Type 0
Declared L bits p o = MatchOption o ((d : ℕ) → IsDeclared L bits p d → ⊥) (IsDeclared L bits p)

abbrev pub LostOr : ℕ → List Bool → ℕ → Option ℕ → Option Loss → Type 0
LostOr L bits p o l = MatchOption l ((t : ℕ) → loss_at L bits p o t ≡ None) (IsFirstLoss L bits p o)

-- a declared word is there
pub declared_here : (L : ℕ) (bits : List Bool) (p d : ℕ) → IsDeclared L bits p d → p + 67 * d + 67 ≤ length bits
declared_here L bits p d is = let there = last_here L bits [] bits p is.from is.least.0 in let e = is.at in omega (arith, there, e)

no_loss_past : (L : ℕ) (bits : List Bool) (p : ℕ) (o : Option ℕ) (t : ℕ) → length bits < p + 67 * t + 67 → loss_at L bits p o t ≡ None
no_loss_past L bits p o t h = let e : has_word bits (p + 67 * t) ≡ false = lt-leb (p + 67 * t + 67) (length bits) h in rw e refl

pub none_some : {A : Type 0} {o : Option A} {x : A} → o ≡ None → o ≡ Some x → ⊥
none_some none some = cc

-- the place of a losing word, or before it
pub not_yet : (L : ℕ) (bits : List Bool) (p d t : ℕ) → t ≤ d → loss_at L bits p (Some d) t ≡ None
not_yet L bits p d t h = let e : nat_le t d ≡ true = le-leb t d h in both (has_word bits (p + 67 * t)) _ e
  where
    both : (there : Bool) (o : Option LostWhy) → nat_le t d ≡ true → cond there (cond (nat_le t d) None o) None ≡ None
    both true o e = rw e refl
    both false o e = refl

-- a losing word stands after the declaring Sync
pub lost_behind : (L : ℕ) (bits : List Bool) (p d t : ℕ) (why : LostWhy) → loss_at L bits p (Some d) t ≡ Some why → d < t
lost_behind L bits p d t why e = elim (cases_lt d t) [ inl lt ↦ lt | inr ge ↦ absurd (none_some (not_yet L bits p d t ge) e) ]

-- ---- no loss in the 64 words of a word lock

legal_not_illegal : (a b : Bool) → (a && b) ≡ true → (a && not b) ≡ false
legal_not_illegal true true h = refl
legal_not_illegal true false h = absurd (false≢true h)
legal_not_illegal false b h = refl

keeps_headers : (bits : List Bool) (p t : ℕ) → LocksWords bits p → t < 64 → loses_headers bits p t ≡ false
unfolding loses_headers
keeps_headers bits p t h lt = let e : has_illegal bits (p + 67 * t) ≡ false = legal_not_illegal _ _ (h t lt) in rw e refl

not_lost : (L : ℕ) (bits : List Bool) (p t : ℕ) → 32 ≤ L → LocksWords bits p → t < 64 → loss_at L bits p None t ≡ None
not_lost L bits p t long h lt =
    both (has_word bits (p + 67 * t)) (loses_headers bits p t) (t + 1 == 6 * L) (keeps_headers bits p t h lt) (ne_eqb (t + 1) (6 * L) (λ e. omega (arith, long, lt, e)))
  where
    both : (a b c : Bool) → b ≡ false → c ≡ false → cond a (cond b (Some whys.Headers) (cond c (Some whys.Unframed) None)) None ≡ None
    both true b c f g = rw (f, g) refl
    both false b c f g = refl

module _ (L : ℕ) (bits : List Bool) (b : Bool) where
  pub longer_by_one : length (bits ++ b ∷ []) ≡ length bits + 1
  longer_by_one = length-append bits (b ∷ [])

  -- ---- word locks

  -- a place that locks with the bit more, and not before: the bit ends its 64th word
  pub locks_now : (p : ℕ) → (LocksWords bits p → ⊥) → LocksWords (bits ++ b ∷ []) p → p + 67 * 64 ≡ length bits + 1
  locks_now p before now =
      let there = legal_here L (bits ++ b ∷ []) [] (p + 67 * 63) (now 63 (omega arith)) in
      let len = longer_by_one in
      elim (cases_lt (length bits) (p + 67 * 64)) [
        | inl lt ↦ omega (arith, there, len, lt)
        | inr le ↦ absurd (before (λ t h. sym (legal_same L bits (b ∷ []) (p + 67 * t) (omega (arith, le, h))) ∙ now t h))
      ]

  -- no place after the bits locks
  locks_inside : (p : ℕ) → LocksWords (bits ++ b ∷ []) p → p + 67 * 64 ≤ length bits + 1
  locks_inside p now =
      let there = legal_here L (bits ++ b ∷ []) [] (p + 67 * 63) (now 63 (omega arith)) in
      let len = longer_by_one in omega (arith, there, len)

  -- the word lock of the first attempt is that on the bits before
  pub same_start : (first p q : ℕ) → IsWordLock bits first p → IsWordLock (bits ++ b ∷ []) first q → p ≡ q
  same_start first p q is now = one_least (λ q. (first ≤ q) × LocksWords (bits ++ b ∷ []) q) p q (lock_stays L bits (b ∷ []) first p is) now

  -- a new word lock is neither declared nor lost
  pub new_lock : (p : ℕ) (o : Option ℕ) (l : Option Loss) → 32 ≤ L → p + 67 * 64 ≡ length bits + 1 → LocksWords (bits ++ b ∷ []) p →
      Declared L (bits ++ b ∷ []) p o → LostOr L (bits ++ b ∷ []) p o l → (o ≡ None) × (l ≡ None)
  new_lock p None None long at locks is lost = (refl, refl)
  new_lock p None (Some loss) long at locks is lost = absurd (
      let there = loss_here L (bits ++ b ∷ []) [] p None loss.word loss.why lost.why in
      let len = longer_by_one in
      none_some (not_lost L (bits ++ b ∷ []) p loss.word long locks (omega (arith, there, len, at))) lost.why)
  new_lock p (Some d) l long at locks is lost = absurd (
      let there = declared_here L (bits ++ b ∷ []) p d is in
      let len = longer_by_one in
      let e = is.at in omega (arith, there, len, at, e, long))

  -- nothing comes after a loss at the word that the bit ends
  pub nothing_behind : (p : ℕ) (l : Option Loss) (rest : List Attempt) → AttemptsFrom L (bits ++ b ∷ []) (next_search p l) rest →
      ((loss : Loss) → l ≡ Some loss → p + 67 * loss.word + 67 ≡ length bits + 1) → rest ≡ []
  nothing_behind p l [] h late = refl
  nothing_behind p None (a ∷ rest) h late = absurd h
  nothing_behind p (Some loss) (a ∷ rest) h late = absurd (
      let at = late loss refl in
      let le : p + 67 * (loss.word + 1) + further loss.why ≤ a.starts = h.0.0.0 in
      let there = locks_inside a.starts h.0.0.1 in omega (arith, at, le, there))

  -- ---- a declaration and a loss that were not there before stand at the word that the bit ends

  pub declared_now : (p d : ℕ) → (IsDeclared L bits p d → ⊥) → IsDeclared L (bits ++ b ∷ []) p d → p + 67 * d + 67 ≡ length bits + 1
  declared_now p d before now =
      let there = declared_here L (bits ++ b ∷ []) p d now in
      let len = longer_by_one in
      elim (cases_lt (length bits) (p + 67 * d + 67)) [
        | inl lt ↦ omega (arith, there, len, lt)
        | inr le ↦ absurd (before (declared_back L bits (b ∷ []) p d le now))
      ]

  lost_now : (p : ℕ) (o : Option ℕ) (t : ℕ) (why : LostWhy) → loss_at L bits p o t ≡ None → loss_at L (bits ++ b ∷ []) p o t ≡ Some why → p + 67 * t + 67 ≡ length bits + 1
  lost_now p o t why before now =
      let there = loss_here L (bits ++ b ∷ []) [] p o t why now in
      let len = longer_by_one in
      elim (cases_lt (length bits) (p + 67 * t + 67)) [
        | inl lt ↦ omega (arith, there, len, lt)
        | inr le ↦ absurd (none_some before (sym (loss_same L bits (b ∷ []) p o t le) ∙ now))
      ]

  -- a loss of an attempt that was not lost before stands there
  pub lost_at_end : (p : ℕ) (o o' : Option ℕ) (l : Option Loss) → Declared L bits p o → ((t : ℕ) → loss_at L bits p o t ≡ None) →
      Declared L (bits ++ b ∷ []) p o' → LostOr L (bits ++ b ∷ []) p o' l → (loss : Loss) → l ≡ Some loss → p + 67 * loss.word + 67 ≡ length bits + 1
  lost_at_end p o o' None is none is' lost loss e = absurd (none_some refl e)
  lost_at_end p (Some d) o' (Some x) is none is' lost loss e =
      let same : Some d ≡ o' = same_declared L (bits ++ b ∷ []) p (Some d) o' (declared_stays L bits (b ∷ []) p d is) is' in
      let first : IsFirstLoss L (bits ++ b ∷ []) p (Some d) x = subst (λ (o : Option ℕ). IsFirstLoss L (bits ++ b ∷ []) p o x) (sym same) lost in
      of_same x loss e (lost_now p (Some d) x.word x.why (none x.word) first.why)
    where
      of_same : (x y : Loss) → Some x ≡ Some y → p + 67 * x.word + 67 ≡ length bits + 1 → p + 67 * y.word + 67 ≡ length bits + 1
      of_same x y e f = let g : x ≡ y = cc in subst (λ (z : Loss). p + 67 * z.word + 67 ≡ length bits + 1) g f
  lost_at_end p None None (Some x) is none is' lost loss e = of_same x loss e (lost_now p None x.word x.why (none x.word) lost.why)
    where
      of_same : (x y : Loss) → Some x ≡ Some y → p + 67 * x.word + 67 ≡ length bits + 1 → p + 67 * y.word + 67 ≡ length bits + 1
      of_same x y e f = let g : x ≡ y = cc in subst (λ (z : Loss). p + 67 * z.word + 67 ≡ length bits + 1) g f
  lost_at_end p None (Some d) (Some x) is none is' lost loss e = absurd (
      let there = loss_here L (bits ++ b ∷ []) [] p (Some d) x.word x.why lost.why in
      let len = longer_by_one in
      let at = declared_now p d (is d) is' in
      none_some (not_yet L (bits ++ b ∷ []) p d x.word (omega (arith, there, len, at))) lost.why)

  -- ---- where the bit ends no word of the word lock at p

  module _ (p : ℕ) (idle : (t : ℕ) → p + 67 * t + 67 ≡ length bits + 1 → ⊥) where
    declared_idle : (o : Option ℕ) → Declared L bits p o → Declared L (bits ++ b ∷ []) p o
    declared_idle None is = λ d now. idle d (declared_now p d (is d) now)
    declared_idle (Some d) is = declared_stays L bits (b ∷ []) p d is

    none_idle : (o : Option ℕ) → ((t : ℕ) → loss_at L bits p o t ≡ None) → (t : ℕ) → loss_at L (bits ++ b ∷ []) p o t ≡ None
    none_idle o is t = elim (cases_lt (length bits) (p + 67 * t + 67)) [
      | inl lt ↦ no_loss_past L (bits ++ b ∷ []) p o t (let e = longer_by_one in let i = idle t in elim (cases_lt (length bits + 1) (p + 67 * t + 67)) [
        | inl more ↦ omega (arith, e, more)
        | inr le ↦ absurd (i (omega (arith, lt, le)))
      ])
      | inr le ↦ loss_same L bits (b ∷ []) p o t le ∙ is t
    ]

    pub idle_same : (o : Option ℕ) (a : Attempt) → a.starts ≡ p → Declared L bits p o → ((t : ℕ) → loss_at L bits p o t ≡ None) → IsAttempt L (bits ++ b ∷ []) a →
        record { starts = p; declared = o; lost = None } ≡ a
    idle_same o a e d l is = same_attempt L (bits ++ b ∷ []) (record { starts = p; declared = o; lost = None }) a (sym e) (record { declared = declared_idle o d; lost = none_idle o l }) is
