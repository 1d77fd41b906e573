-- Marks of the positions after which their phase hit alone.
use Rattle.std.proofs.Common.{ℕ, ◌≡◌, refl, sym, ap, subst, ◌∙◌, ◌+◌, ◌-◌, ◌*◌, Bool, false, List, [], ◌∷◌, ◌++◌, length, arith, inl, inr, length-append}
use Rattle.std.proofs.lemmas.Bool.{cases_lt}
use Rattle.std.proofs.lemmas.List.{get_or_append_left}
use Rattle.std.proofs.Math.Seq.{get_or-append_right}
use Rattle.phase_finder.specs.Runs.{hit_at}
use Rattle.lane_lock.specs.Marks.{IsAlive, MarkList, Recalls, RecallsAlive}

-- no position
pub alive_none : (v : MarkList) (hits given : List Bool) → hits ≡ [] → given ≡ [] → Recalls v [] → RecallsAlive v hits given
alive_none v hits given e f r = subst (RecallsAlive v hits) (sym f) (subst (λ (xs : List Bool). RecallsAlive v xs []) (sym e) (record { kept = []; recalls = r; long = refl; alive = λ m is. refl }))

-- one more leaves fewer alive
fewer_alive : (hits : List Bool) (hit : Bool) (m : ℕ) → IsAlive (hits ++ hit ∷ []) m → IsAlive hits m
fewer_alive hits hit m is j lt =
    let l = length-append hits (hit ∷ []) in
    sym (get_or_append_left hits (hit ∷ []) false (m + j * 67) lt) ∙ is j (omega (arith, l, lt))

pub one_alive : (hits kept given : List Bool) (hit mark : Bool) → length kept ≡ length given → ((m : ℕ) → IsAlive hits m → hit_at kept m ≡ hit_at given m) →
    (m : ℕ) → IsAlive (hits ++ hit ∷ []) m → hit_at (kept ++ mark ∷ []) m ≡ hit_at (given ++ mark ∷ []) m
one_alive hits kept given hit mark e alive m is = elim (cases_lt m (length kept)) [
  | inl lt ↦
      get_or_append_left kept (mark ∷ []) false m lt ∙ alive m (fewer_alive hits hit m is)
      ∙ sym (get_or_append_left given (mark ∷ []) false m (omega (arith, lt, e)))
  | inr le ↦
      get_or-append_right kept (mark ∷ []) m false le ∙ ap (λ (n : ℕ). hit_at (mark ∷ []) (m - n)) e
      ∙ sym (get_or-append_right given (mark ∷ []) m false (omega (arith, le, e)))
]

pub alive_more : (v w : MarkList) (hits given : List Bool) (hit mark : Bool) → (r : RecallsAlive v hits given) → Recalls w (r.kept ++ mark ∷ []) → RecallsAlive w (hits ++ hit ∷ []) (given ++ mark ∷ [])
alive_more v w hits given hit mark r recalls = record {
  kept = r.kept ++ mark ∷ [];
  recalls = recalls;
  long = length-append r.kept (mark ∷ []) ∙ ap (λ (n : ℕ). n + 1) r.long ∙ sym (length-append given (mark ∷ []));
  alive = one_alive hits r.kept given hit mark r.long r.alive;
}
