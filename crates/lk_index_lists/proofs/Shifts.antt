-- A node that moves from the front of one list to the end of another.
use Rattle.std.proofs.Common.{ℕ, ◌≡◌, ◌≢◌, inl, inr, ◌+◌, ◌<◌, List, [], ◌∷◌, ◌++◌, length, set, drop, Some, None, sym, ap, ◌∙◌, subst, get_or-set_same, get_or-set_other, slice_get}
use Rattle.std.proofs.lemmas.Bool.{cases_eq}
use Rattle.std.proofs.lemmas.List.{length-set}
use Rattle.lk_index_lists.specs.declared.node.Node.{Node}
use Rattle.lk_index_lists.specs.Held.{Held, list_at, without, placed, IsLinked}
use Rattle.lk_index_lists.specs.Rings.{Leads, IsKept, IsJoined, IsShifted, lists_of, after_of, before_of, owner_of, nowhere}
use Rattle.lk_index_lists.proofs.Carries.{joined_same}
use Rattle.lk_index_lists.proofs.Kept.{unlinked}
use Rattle.lk_index_lists.proofs.Values.{first_is, first_stands, first_linked, without_first}
use Rattle.lk_index_lists.proofs.Shown.{shows, apart_shown, same_lists, list_in, detached_kept, detached_shown, attached_kept, attached_shown}

-- the node as of no list
abbrev cleared : List Node → ℕ → List Node
cleared nodes node = set nodes node (record { before = before_of nodes node; after = after_of nodes node; list = None })

after_cleared : (nodes : List Node) (node : ℕ) → node < length nodes → (k : ℕ) → after_of (cleared nodes node) k ≡ after_of nodes k
after_cleared nodes node h k = elim (cases_eq k node) [
  | inl e ↦ ap (after_of (cleared nodes node)) e ∙ ap (λ (n : Node). n.after) (get_or-set_same nodes node _ nowhere h) ∙ ap (after_of nodes) (sym e)
  | inr ne ↦ ap (λ (n : Node). n.after) (get_or-set_other nodes node k _ nowhere ne)
]

before_cleared : (nodes : List Node) (node : ℕ) → node < length nodes → (k : ℕ) → before_of (cleared nodes node) k ≡ before_of nodes k
before_cleared nodes node h k = elim (cases_eq k node) [
  | inl e ↦ ap (before_of (cleared nodes node)) e ∙ ap (λ (n : Node). n.before) (get_or-set_same nodes node _ nowhere h) ∙ ap (before_of nodes) (sym e)
  | inr ne ↦ ap (λ (n : Node). n.before) (get_or-set_other nodes node k _ nowhere ne)
]

owner_cleared : (nodes : List Node) (node k : ℕ) → k ≢ node → owner_of (cleared nodes node) k ≡ owner_of nodes k
owner_cleared nodes node k ne = ap (λ (n : Node). n.list) (get_or-set_other nodes node k _ nowhere ne)

joined_from : (a b a' b' a'' b'' : ℕ → ℕ) (x y : ℕ) → IsJoined a' b' a'' b'' x y → ((k : ℕ) → a' k ≡ a k) → ((k : ℕ) → b' k ≡ b k) → IsJoined a b a'' b'' x y
joined_from a b a' b' a'' b'' x y j e f = record {
  onward = j.onward;
  back = j.back;
  onward_else = λ k h. j.onward_else k h ∙ e k;
  back_else = λ k h. j.back_else k h ∙ f k;
}

-- the links and notes that were made are those of a node that was linked out and in
pub shifted_by : (old one two three new : List Node) (start end l node : ℕ) → node < length one → before_of old node ≡ start → IsJoined (after_of old) (before_of old) (after_of one) (before_of one) start (after_of old node) → ((k : ℕ) → owner_of one k ≡ owner_of old k) → length one ≡ length old → IsJoined (after_of one) (before_of one) (after_of two) (before_of two) (before_of one end) node → ((k : ℕ) → owner_of two k ≡ owner_of one k) → IsJoined (after_of two) (before_of two) (after_of three) (before_of three) node end → ((k : ℕ) → owner_of three k ≡ owner_of two k) → ((k : ℕ) → after_of new k ≡ after_of three k) → ((k : ℕ) → before_of new k ≡ before_of three k) → owner_of new node ≡ Some l → ((k : ℕ) → k ≢ node → owner_of new k ≡ owner_of three k) → IsShifted old new end l node
shifted_by old one two three new start end l node h first j1 o1 long j2 o2 j3 o3 after before owner else =
    let mid : List Node = cleared one node in
    let am : (k : ℕ) → after_of mid k ≡ after_of one k = after_cleared one node h in
    let bm : (k : ℕ) → before_of mid k ≡ before_of one k = before_cleared one node h in
    record {
      mid = mid;
      out = subst (λ v. IsJoined (after_of old) (before_of old) (after_of mid) (before_of mid) v (after_of old node)) (sym first) (joined_same (after_of old) (before_of old) (after_of one) (before_of one) (after_of mid) (before_of mid) start (after_of old node) j1 am bm);
      out_owner = ap (λ (n : Node). n.list) (get_or-set_same one node _ nowhere h);
      out_else = λ k ne. owner_cleared one node k ne ∙ o1 k;
      out_long = length-set one node _ ∙ long;
      put = record {
        after_between = after_of two;
        before_between = before_of two;
        first = subst (λ v. IsJoined (after_of mid) (before_of mid) (after_of two) (before_of two) v node) (sym (bm end)) (joined_from (after_of mid) (before_of mid) (after_of one) (before_of one) (after_of two) (before_of two) (before_of one end) node j2 (λ k. sym (am k)) (λ k. sym (bm k)));
        second = joined_same (after_of two) (before_of two) (after_of three) (before_of three) (after_of new) (before_of new) node end j3 after before;
        owner = owner;
        owner_else = λ k ne. else k ne ∙ o3 k ∙ o2 k ∙ sym (owner_cleared one node k ne);
      };
    }

module _ (nodes : List Node) (count links : ℕ) (kept : IsKept nodes count) (held : Held) (shown : shows nodes count links ≡ held) where
  -- before a list's first node is its end
  pub first_back : (l n : ℕ) → l < length held.lists → slice_get (list_at held.lists l) 0 ≡ Some n → before_of nodes n ≡ count + l
  first_back l n h e =
      let ls : List (List ℕ) = lists_of nodes count in
      let same : ls ≡ held.lists = same_lists nodes count links kept held shown in
      let is : list_at ls l ≡ n ∷ drop 1 (list_at held.lists l) = ap (λ v. list_at v l) same ∙ first_is n (list_at held.lists l) e in
      let ring : Leads (after_of nodes) (before_of nodes) (count + l) (n ∷ drop 1 (list_at held.lists l)) (count + l) = subst (λ v. Leads (after_of nodes) (before_of nodes) (count + l) v (count + l)) is (kept.carried.ring l (list_in nodes count links kept held shown l h)) in
      ring.1

  module _ (nodes' : List Node) (from to n : ℕ) (s : IsShifted nodes nodes' (count + to) to n) (long : length nodes' ≡ length nodes) (hf : from < length held.lists) (ht : to < length held.lists) (ne : from ≢ to) (small : n < held.nodes) (first : slice_get (list_at held.lists from) 0 ≡ Some n) where
    mid_kept : IsKept s.mid count
    mid_kept = detached_kept nodes count links kept held shown s.mid n s.out s.out_owner s.out_else s.out_long small (first_linked held.lists from n first)

    mid_shown : shows s.mid count links ≡ placed held from (without n (list_at held.lists from))
    mid_shown = detached_shown nodes count links kept held shown s.mid from n s.out s.out_owner s.out_else s.out_long small (first_stands held.lists from n first)

    to_there : to < length (set held.lists from (without n (list_at held.lists from)))
    to_there = subst (λ m. to < m) (sym (length-set held.lists from (without n (list_at held.lists from)))) ht

    out : IsLinked (set held.lists from (without n (list_at held.lists from))) n → ⊥
    out f = unlinked s.mid count mid_kept n s.out_owner (subst (λ ls. IsLinked ls n) (sym (ap (λ (h : Held). h.lists) mid_shown)) f)

    pub shifted_kept : IsKept nodes' count
    shifted_kept = attached_kept s.mid count links mid_kept (placed held from (without n (list_at held.lists from))) mid_shown nodes' to n s.put (long ∙ sym s.out_long) to_there small out

    pub shifted_shown : shows nodes' count links ≡ placed (placed held from (drop 1 (list_at held.lists from))) to (list_at held.lists to ++ n ∷ [])
    shifted_shown =
        attached_shown s.mid count links mid_kept (placed held from (without n (list_at held.lists from))) mid_shown nodes' to n s.put (long ∙ sym s.out_long) to_there small out
        ∙ ap (λ v. placed (placed held from (without n (list_at held.lists from))) to (v ++ n ∷ [])) (get_or-set_other held.lists from to (without n (list_at held.lists from)) [] (λ h. ne (sym h)))
        ∙ ap (λ v. placed (placed held from v) to (list_at held.lists to ++ n ∷ [])) (without_first held (apart_shown nodes count links kept held shown) from n first)
