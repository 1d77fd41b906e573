-- A chain of nodes that is noted as of a list, node by node.
use Rattle.std.proofs.Common.{ℕ, zero, suc, Bool, true, false, ◌≡◌, ◌≢◌, ◌⊎◌, inl, inr, ◌<◌, ◌≤◌, nat_lt, cond, List, [], ◌∷◌, ◌++◌, length, Some, refl, sym, ap, ◌∙◌, subst, arith, append_assoc, append-nil}
use Rattle.std.specs.List.{AllByRecursion}
use Rattle.std.proofs.lemmas.Bool.{lt-ltb, le-ltb, cases_eq}
use Rattle.lk_index_lists.specs.declared.node.Node.{Node}
use Rattle.lk_index_lists.specs.Rings.{walk, Leads, Absent, Present, IsRun, after_of, before_of, owner_of}
use Rattle.lk_index_lists.proofs.Members.{absent_left, absent_right}

-- a way through nodes to an end is a run
pub run_of : (a b : ℕ → ℕ) (count : ℕ) (x : ℕ) (xs : List ℕ) (z : ℕ) → Leads a b x xs z → AllByRecursion (λ y. y < count) xs → count ≤ z → IsRun a count (a x) xs
run_of a b count x [] z h k p = subst (λ v. count ≤ v) (sym h.0) p
run_of a b count x (y ∷ ys) z h k p = (h.0, subst (λ v. v < count) (sym h.0) k.0, subst (λ v. IsRun a count (a v) ys) (sym h.0) (run_of a b count y ys z h.2 k.1 p))

-- the walk along a run
pub run_walked : (a : ℕ → ℕ) (count most : ℕ) (x : ℕ) (xs : List ℕ) → IsRun a count x xs → length xs ≤ most → walk a count most x ≡ xs
run_walked a count zero x [] r h = refl
run_walked a count zero x (y ∷ ys) r h = absurd (omega arith)
run_walked a count (suc most) x [] r h = ap (λ t. cond t (x ∷ walk a count most (a x)) []) (le-ltb x count r)
run_walked a count (suc most) x (y ∷ ys) r h =
    ap (λ t. cond t (x ∷ walk a count most (a x)) []) (lt-ltb x count r.1)
    ∙ ap (λ v. v ∷ walk a count most (a x)) r.0
    ∙ ap (λ v. y ∷ v) (run_walked a count most (a x) ys r.2 (omega arith))

-- a walk is no longer than its bound
walk_short : (a : ℕ → ℕ) (count most x : ℕ) → length (walk a count most x) ≤ most
walk_short a count zero x = omega arith
walk_short a count (suc most) x = by (nat_lt x count) (walk a count most (a x)) (walk_short a count most (a x))
  where
    by : (t : Bool) (ys : List ℕ) → length ys ≤ most → length (cond t (x ∷ ys) []) ≤ suc most
    by true ys h = omega arith
    by false ys h = omega arith

-- the nodes of a run up to this one are noted as of the list
pub record IsMarking (old new : List Node) (count first node list : ℕ) : Type 0 where
  pub done : List ℕ
  pub rest : List ℕ
  pub all : done ++ rest ≡ walk (after_of old) count count first
  pub run : IsRun (after_of old) count node rest
  pub few : length rest ≤ count
  pub after : (k : ℕ) → after_of new k ≡ after_of old k
  pub before : (k : ℕ) → before_of new k ≡ before_of old k
  pub inside : (k : ℕ) → Present k done → owner_of new k ≡ Some list
  pub outside : (k : ℕ) → Absent k done → owner_of new k ≡ owner_of old k
  pub long : length new ≡ length old

pub marking_none : (old : List Node) (count first list : ℕ) → IsRun (after_of old) count first (walk (after_of old) count count first) → IsMarking old old count first first list
marking_none old count first list r = record {
  done = [];
  rest = walk (after_of old) count count first;
  all = refl;
  run = r;
  few = walk_short (after_of old) count count first;
  after = λ k. refl;
  before = λ k. refl;
  inside = λ k p. absurd p;
  outside = λ k p. refl;
  long = refl;
}

present_end : (k n : ℕ) (xs : List ℕ) → Present k (xs ++ n ∷ []) → (Present k xs) ⊎ (k ≡ n)
present_end k n [] (inl e) = inr e
present_end k n [] (inr p) = absurd p
present_end k n (x ∷ xs) (inl e) = inl (inl e)
present_end k n (x ∷ xs) (inr p) = elim (present_end k n xs p) [ inl q ↦ inl (inr q) | inr e ↦ inr e ]

module _ (old now new : List Node) (count first node node' list : ℕ) (m : IsMarking old now count first node list) (small : node < count) (after : (k : ℕ) → after_of new k ≡ after_of now k) (before : (k : ℕ) → before_of new k ≡ before_of now k) (here : owner_of new node ≡ Some list) (else : (k : ℕ) → k ≢ node → owner_of new k ≡ owner_of now k) (long : length new ≡ length now) (next : node' ≡ after_of new node) where
  more : (rest : List ℕ) → m.rest ≡ rest → IsMarking old new count first node' list × (length (walk (after_of old) count count node') < length (walk (after_of old) count count node))
  more [] e = let past : count ≤ node = subst (IsRun (after_of old) count node) e m.run in absurd (omega arith)
  more (y ∷ ys) e =
      let a : ℕ → ℕ = after_of old in
      let r : IsRun a count node (y ∷ ys) = subst (IsRun a count node) e m.run in
      let f : length (y ∷ ys) ≤ count = subst (λ v. length v ≤ count) e m.few in
      let on : node' ≡ a node = next ∙ after node ∙ m.after node in
      let r' : IsRun a count node' ys = subst (λ v. IsRun a count v ys) (sym on) r.2 in
      let w : length (walk a count count node) ≡ length (y ∷ ys) = ap length (run_walked a count count node (y ∷ ys) r f) in
      let w' : length (walk a count count node') ≡ length ys = ap length (run_walked a count count node' ys r' (omega arith)) in (
        record {
          done = m.done ++ node ∷ [];
          rest = ys;
          all = append_assoc m.done (node ∷ []) ys ∙ ap (λ v. m.done ++ v ∷ ys) r.0 ∙ ap (λ v. m.done ++ v) (sym e) ∙ m.all;
          run = r';
          few = omega arith;
          after = λ k. after k ∙ m.after k;
          before = λ k. before k ∙ m.before k;
          inside = λ k p. elim (cases_eq k node) [
            | inl same ↦ ap (owner_of new) same ∙ here
            | inr ne ↦ elim (present_end k node m.done p) [ inl q ↦ else k ne ∙ m.inside k q | inr same ↦ absurd (ne same) ]
          ];
          outside = λ k p. else k (absent_right k m.done (node ∷ []) p).0 ∙ m.outside k (absent_left k m.done (node ∷ []) p);
          long = long ∙ m.long;
        },
        omega arith,
      )

  pub marking_more : IsMarking old new count first node' list
  marking_more = (more m.rest refl).0

  pub marking_less : length (walk (after_of old) count count node') < length (walk (after_of old) count count node)
  marking_less = (more m.rest refl).1

-- where the run has ended, all of it is noted
pub marking_all : (old new : List Node) (count first node list : ℕ) (m : IsMarking old new count first node list) → count ≤ node → m.done ≡ walk (after_of old) count count first
marking_all old new count first node list m past = by m.rest refl
  where
    by : (rest : List ℕ) → m.rest ≡ rest → m.done ≡ walk (after_of old) count count first
    by [] e = sym (append-nil m.done) ∙ ap (λ v. m.done ++ v) (sym e) ∙ m.all
    by (y ∷ ys) e = let r : IsRun (after_of old) count node (y ∷ ys) = subst (IsRun (after_of old) count node) e m.run in let w : node < count = r.1 in absurd (omega arith)
