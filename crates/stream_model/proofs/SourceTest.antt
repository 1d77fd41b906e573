-- Tests of lists, and that a source keeps what a source keeps where a test says so.
use Rattle.std.proofs.Common.{◌≡◌, ℕ, zero, suc, ◌^◌, ◌<◌, ◌==◌, Bool, true, false, not, ◌&&◌, nat_eq, nat_lt, nat_le, List, [], ◌∷◌, length, map, get_or, All, Contains, Decides, refl, sym, ap, ◌∙◌, subst, arith}
use Rattle.std.specs.List.{list_all, list_any, IsDistinct, AllByRecursion}
use Rattle.std.specs.List.Sorted.{IsNonDecreasing}
use Rattle.std.proofs.lemmas.Bool.{and_parts, eq-eqb, eqb-true, false≢true, leb-true, ltb-true, not-true}
use Rattle.std.proofs.lemmas.List.{get_or_default}
use Rattle.std.proofs.lemmas.List.Folds.{Any-from_list_any, list_any_at}
use Rattle.std.proofs.lemmas.List.Sums.{AllPass-from_list_all, list_all-from_AllPass}
use Rattle.lk_base.specs.Limits.{longest_packet}
use Rattle.stream_model.specs.BurstStream.{Source, IsPacket, IsSource}
use Rattle.stream_model.specs.declared.rows.FlowRow.{FlowRow}
use Rattle.stream_model.specs.declared.rows.LocalRow.{LocalRow}

-- ---- elements of a list

module _ {X : Type 0} (p : X → Bool) (xs : List X) where
  pub all_at : (x : X) → list_all p xs ≡ true → Contains xs x → p x ≡ true
  all_at x h (k, l, e) = subst (λ y. p y ≡ true) e (AllPass-from_list_all p xs h k x l)

  pub all_from : ((x : X) → Contains xs x → p x ≡ true) → list_all p xs ≡ true
  all_from h = list_all-from_AllPass p xs (λ k d l. h (get_or xs k d) (k, l, get_or_default xs k (get_or xs k d) d l))

  pub all_by : (P : X → Type 0) → ((x : X) → p x ≡ true → P x) → list_all p xs ≡ true → All P xs
  all_by P sound h k d l = sound (get_or xs k d) (AllPass-from_list_all p xs h k d l)

  pub any_at : (x : X) → Contains xs x → p x ≡ true → list_any p xs ≡ true
  any_at x (k, l, e) h = list_any_at p xs k x l (ap p e ∙ h)

  pub any_found : list_any p xs ≡ true → (x : X) × Contains xs x × (p x ≡ true)
  any_found h = let (k, x, l, e, is) = Any-from_list_any p xs h in (x, (k, l, e), is)

pub all_below : (most : ℕ) (xs : List ℕ) → list_all (λ x. nat_lt x most) xs ≡ true → All (λ x. x < most) xs
all_below most xs h = all_by (λ x. nat_lt x most) xs (λ x. x < most) (λ x. ltb-true x most) h

abbrev pub is_listed : List ℕ → ℕ → Bool
is_listed xs c = list_any (λ d. d == c) xs

pub listed_decides : (xs : List ℕ) (c : ℕ) → Decides (is_listed xs c) (Contains xs c)
listed_decides xs c = (
  λ h. (let r = any_found (λ d. d == c) xs h in subst (Contains xs) (eqb-true r.0 c r.2) r.1),
  λ is. any_at (λ d. d == c) xs c is (eq-eqb c c refl),
)

pub unlisted : (xs : List ℕ) (c : ℕ) → is_listed xs c ≡ false → Contains xs c → ⊥
unlisted xs c h is = false≢true (sym h ∙ (listed_decides xs c).1 is)

-- ---- lists of numbers

abbrev pub are_distinct : List ℕ → Bool
are_distinct [] = true
are_distinct (x ∷ xs) = list_all (λ y. not (nat_eq x y)) xs && are_distinct xs

others_differ : (x : ℕ) (ys : List ℕ) → list_all (λ y. not (nat_eq x y)) ys ≡ true → AllByRecursion (λ y. nat_eq x y ≡ false) ys
others_differ x [] h = tt
others_differ x (y ∷ ys) h = let both = and_parts _ _ h in (not-true (nat_eq x y) both.0, others_differ x ys both.1)

distinct : (xs : List ℕ) → are_distinct xs ≡ true → IsDistinct nat_eq xs
unfolding IsDistinct
distinct [] h = tt
distinct (x ∷ xs) h = let both = and_parts _ _ h in (others_differ x xs both.0, distinct xs both.1)

abbrev pub are_in_order : List ℕ → Bool
are_in_order [] = true
are_in_order (x ∷ xs) = list_all (nat_le x) xs && are_in_order xs

in_order : (xs : List ℕ) → are_in_order xs ≡ true → IsNonDecreasing xs
in_order [] h i j d le lt = absurd (omega arith)
in_order (x ∷ xs) h zero zero d le lt = omega arith
in_order (x ∷ xs) h zero (suc j) d le lt = leb-true x (get_or xs j d) (AllPass-from_list_all (nat_le x) xs (and_parts _ _ h).0 j d (omega arith))
in_order (x ∷ xs) h (suc i) zero d le lt = absurd (omega arith)
in_order (x ∷ xs) h (suc i) (suc j) d le lt = in_order xs (and_parts _ _ h).1 i j d (omega arith) (omega arith)

-- ---- a source

abbrev pub packet_ok : List ℕ → Bool
packet_ok bytes = nat_le 1 (length bytes) && (nat_le (length bytes) longest_packet && list_all (λ byte. nat_lt byte 256) bytes)

packet : (bytes : List ℕ) → packet_ok bytes ≡ true → IsPacket longest_packet bytes
packet bytes h =
    let some = and_parts _ _ h in
    let fits = and_parts _ _ some.1 in
    record { some = leb-true 1 (length bytes) some.0; fits = leb-true (length bytes) longest_packet fits.0; bytes = all_below 256 bytes fits.1 }

abbrev pub source_ok : Source → Bool
source_ok source =
    nat_le 1 (length source.channels)
    && (are_distinct source.channels
    && (list_all (λ channel. nat_lt channel 65536) source.channels
    && (nat_le 1 (length source.entries)
    && (nat_le (length source.entries) 1024
    && (list_all (is_listed source.channels) source.entries
    && (list_all (λ (p : ℕ × List ℕ). is_listed source.channels p.0) source.packets
    && (list_all (λ (p : ℕ × List ℕ). packet_ok p.1) source.packets
    && (are_in_order (map (λ (row : FlowRow). row.slot) source.flow)
    && (list_all (λ (row : FlowRow). nat_lt row.word (2 ^ 64)) source.flow
    && are_in_order (map (λ (row : LocalRow). row.slot) source.local))))))))))

pub is_source : (source : Source) → source_ok source ≡ true → IsSource source
is_source source h =
    let some_channel = and_parts _ _ h in
    let differ = and_parts _ _ some_channel.1 in
    let fit = and_parts _ _ differ.1 in
    let some_entry = and_parts _ _ fit.1 in
    let few = and_parts _ _ some_entry.1 in
    let entries = and_parts _ _ few.1 in
    let packets = and_parts _ _ entries.1 in
    let are = and_parts _ _ packets.1 in
    let flow = and_parts _ _ are.1 in
    let words = and_parts _ _ flow.1 in
    record {
      some_channel = leb-true _ _ some_channel.0;
      channels_differ = distinct source.channels differ.0;
      channels_fit = all_below 65536 source.channels fit.0;
      some_entry = leb-true _ _ some_entry.0;
      entries_fit = leb-true _ _ few.0;
      entries_listed = all_by (is_listed source.channels) source.entries (Contains source.channels) (λ c. (listed_decides source.channels c).0) entries.0;
      packets_listed = all_by (λ (p : ℕ × List ℕ). is_listed source.channels p.0) source.packets (λ (p : ℕ × List ℕ). Contains source.channels p.0) (λ p. (listed_decides source.channels p.0).0) packets.0;
      packets_fit = all_by (λ (p : ℕ × List ℕ). packet_ok p.1) source.packets (λ (p : ℕ × List ℕ). IsPacket longest_packet p.1) (λ p. packet p.1) are.0;
      flow_in_order = in_order (map (λ (row : FlowRow). row.slot) source.flow) flow.0;
      flow_words = all_by (λ (row : FlowRow). nat_lt row.word (2 ^ 64)) source.flow (λ (row : FlowRow). row.word < 2 ^ 64) (λ row. ltb-true row.word (2 ^ 64)) words.0;
      local_in_order = in_order (map (λ (row : LocalRow). row.slot) source.local) words.1;
    }
