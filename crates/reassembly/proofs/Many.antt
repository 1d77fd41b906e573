-- Words that all are kept of an open packet: the pool has cells for them, and shows the packet with them.
use Rattle.std.proofs.Common.{ℕ, zero, suc, ◌≡◌, ◌+◌, ◌-◌, ◌*◌, ◌/◌, ◌%◌, ◌<◌, ◌≤◌, refl, sym, ap, ◌∙◌, subst, true, List, [], ◌∷◌, ◌++◌, length, set, flat_map, Option, Some, None, arith, length-append}
use Rattle.std.specs.Int.{w64, to_be_bytes}
use Rattle.std.proofs.lemmas.List.Sums.{sum_by-cons}
use Rattle.std.proofs.Math.Nat.{suc-mul}
use Rattle.lk_base.proofs.Bits.{length-words}
use Rattle.cell_pool.specs.Stored.{Stored, bytes_at, cells_for, used_by, with_bytes}
use Rattle.reassembly.specs.Folds.{are_kept, grown_by}
use Rattle.reassembly.specs.Packets.{IsRoomy, delivered_bytes, with_kept}
use Rattle.reassembly.proofs.Delivered.{shown}
use Rattle.reassembly.proofs.Folds.{all_fit}
use Rattle.reassembly.proofs.Room.{all_most, roomy_next}

-- all lists but one use at most as many cells as fit the others
others_most : (many : ℕ) (xs : List (List ℕ)) (q : ℕ) → q < length xs → ((p : ℕ) → cells_for (length (bytes_at xs p)) ≤ many) → used_by xs + many ≤ length xs * many + cells_for (length (bytes_at xs q))
others_most many [] q w h = absurd (omega arith)
others_most many (x ∷ xs) zero w h =
    let rest : used_by xs ≤ length xs * many = all_most many xs (λ p. h (suc p)) in
    let e : used_by (x ∷ xs) ≡ cells_for (length x) + used_by xs = sum_by-cons (λ (bytes : List ℕ). cells_for (length bytes)) x xs in
    let m : suc (length xs) * many ≡ length xs * many + many = suc-mul (length xs) many in
    omega arith
others_most many (x ∷ xs) (suc q) w h =
    let here : cells_for (length x) ≤ many = h 0 in
    let rest : used_by xs + many ≤ length xs * many + cells_for (length (bytes_at xs q)) = others_most many xs q (omega arith) (λ p. h (suc p)) in
    let e : used_by (x ∷ xs) ≡ cells_for (length x) + used_by xs = sum_by-cons (λ (bytes : List ℕ). cells_for (length bytes)) x xs in
    let m : suc (length xs) * many ≡ length xs * many + many = suc-mul (length xs) many in
    omega arith

none_delivered : (d : Option ℕ) (lists : List (List ℕ)) → delivered_bytes d lists ≡ None → d ≡ None
none_delivered None lists h = refl
none_delivered (Some p) lists h = absurd (cc)

module _ (greatest : ℕ) (pool : Stored) (d : Option ℕ) (roomy : IsRoomy greatest pool d) (place : ℕ) (inside : place < length pool.lists) (xs : List ℕ) where
  module _ (none : delivered_bytes d pool.lists ≡ None) (fit : length xs ≤ (greatest - length (bytes_at pool.lists place) + 7) / 8) where
    none_is : d ≡ None
    none_is = none_delivered d pool.lists none

    roomy_none : IsRoomy greatest pool None
    roomy_none = subst (λ (o : Option ℕ). IsRoomy greatest pool o) none_is roomy

    whole_bytes : length (bytes_at pool.lists place) % 8 ≡ 0
    whole_bytes = roomy_none.whole place

    both : (are_kept greatest (bytes_at pool.lists place) xs ≡ true) × (grown_by greatest (bytes_at pool.lists place) xs ≡ bytes_at pool.lists place ++ flat_map (to_be_bytes w64) xs)
    both = all_fit greatest xs (bytes_at pool.lists place) whole_bytes fit

    long_now : length (bytes_at pool.lists place ++ flat_map (to_be_bytes w64) xs) ≡ length (bytes_at pool.lists place) + 8 * length xs
    long_now = length-append (bytes_at pool.lists place) (flat_map (to_be_bytes w64) xs) ∙ ap (λ k. length (bytes_at pool.lists place) + k) (length-words xs)

    pub many_room : used_by pool.lists + cells_for (length (bytes_at pool.lists place) + 8 * length xs) ≤ pool.cells + cells_for (length (bytes_at pool.lists place))
    many_room =
        let whole : length (bytes_at pool.lists place) % 8 ≡ 0 = whole_bytes in
        let short : length (bytes_at pool.lists place) ≤ 8 * ((greatest + 7) / 8) = roomy.short place in
        let cells : pool.cells ≡ length pool.lists * cells_for greatest = roomy.cells in
        let few : used_by pool.lists + cells_for greatest ≤ length pool.lists * cells_for greatest + cells_for (length (bytes_at pool.lists place)) =
        others_most (cells_for greatest) pool.lists place inside (λ q. let l : length (bytes_at pool.lists q) ≤ 8 * ((greatest + 7) / 8) = roomy.short q in omega arith) in
        let enough : cells_for (length (bytes_at pool.lists place) + 8 * length xs) ≤ cells_for greatest = omega arith in
        let all : used_by pool.lists + cells_for (length (bytes_at pool.lists place) + 8 * length xs) ≤ length pool.lists * cells_for greatest + cells_for (length (bytes_at pool.lists place)) = omega arith in
        subst (λ k. used_by pool.lists + cells_for (length (bytes_at pool.lists place) + 8 * length xs) ≤ k + cells_for (length (bytes_at pool.lists place))) (sym cells) all

    pub many_roomy : IsRoomy greatest (with_bytes pool place (bytes_at pool.lists place ++ flat_map (to_be_bytes w64) xs)) d
    many_roomy =
        let long : length (bytes_at pool.lists place ++ flat_map (to_be_bytes w64) xs) ≡ length (bytes_at pool.lists place) + 8 * length xs = long_now in
        let whole : length (bytes_at pool.lists place) % 8 ≡ 0 = whole_bytes in
        let short : length (bytes_at pool.lists place) ≤ 8 * ((greatest + 7) / 8) = roomy.short place in
        subst (λ (o : Option ℕ). IsRoomy greatest (with_bytes pool place (bytes_at pool.lists place ++ flat_map (to_be_bytes w64) xs)) o) (sym none_is)
        (roomy_next greatest pool roomy_none place (bytes_at pool.lists place ++ flat_map (to_be_bytes w64) xs) inside (omega arith) (omega arith))

    pub many_kept : are_kept (shown greatest d pool.lists).greatest (bytes_at (shown greatest d pool.lists).kept place) xs ≡ true
    many_kept = subst (λ (o : Option ℕ). are_kept greatest (bytes_at (shown greatest o pool.lists).kept place) xs ≡ true) (sym none_is) both.0

    pub many_shown : shown greatest d (set pool.lists place (bytes_at pool.lists place ++ flat_map (to_be_bytes w64) xs)) ≡ with_kept (shown greatest d pool.lists) place (grown_by greatest (bytes_at (shown greatest d pool.lists).kept place) xs)
    many_shown =
        subst (λ (o : Option ℕ). shown greatest o (set pool.lists place (bytes_at pool.lists place ++ flat_map (to_be_bytes w64) xs)) ≡ with_kept (shown greatest o pool.lists) place (grown_by greatest (bytes_at (shown greatest o pool.lists).kept place) xs)) (sym none_is)
        (ap (λ (bytes : List ℕ). shown greatest None (set pool.lists place bytes)) (sym both.1))
