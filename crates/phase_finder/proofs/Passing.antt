-- Steps that were passed over, and phases that missed of late.
use Rattle.std.proofs.Common.{ℕ, zero, suc, ◌≡◌, refl, sym, ap, ◌∙◌, ◌+◌, ◌-◌, ◌*◌, ◌%◌, ◌<◌, ◌≤◌, Bool, true, false, List, [], ◌∷◌, ◌++◌, length, get_or, arith, inl, inr, length-append}
use Rattle.std.proofs.Math.Nat.{add-mul}
use Rattle.std.proofs.lemmas.Bool.{cases_lt, false_from_ne_true}
use Rattle.std.proofs.lemmas.List.{get_or-append_right}
use Rattle.phase_finder.specs.Runs.{hit_at}
use Rattle.phase_finder.specs.Phases.{IsCount, Phases, Watches, highest}

-- no counter is above the highest
pub below_highest : (counts : List ℕ) (i : ℕ) → get_or counts i 0 ≤ highest counts
below_highest [] i = omega arith
below_highest (c ∷ counts) zero = omega arith
below_highest (c ∷ counts) (suc i) = let h = below_highest counts i in omega arith

-- where no phase has more than h hits in a row, each missed at one of its last h + 1 steps, or it has fewer
pub missed_since : (v : Phases) (period need first h : ℕ) (hits : List Bool) → Watches v period need first hits → highest v.counts ≤ h → h < need →
    (n : ℕ) → length hits ≤ n → n < length hits + period → (c : ℕ) × (c ≤ h) × ((m : ℕ) → m + (c + 1) * period ≡ n → hit_at hits m ≡ false)
missed_since v period need first h hits w few less n above below =
    let most : get_or v.counts (n % period) 0 ≤ h = (let b = below_highest v.counts (n % period) in omega arith) in (
      get_or v.counts (n % period) 0,
      most,
      λ m at. false_from_ne_true (hit_at hits m) ((w.counts n above below).ends (omega arith) m at),
    )

-- earlier steps of a phase stand before later ones
farther_back : (c k period : ℕ) → c ≤ k → (c + 1) * period ≤ (k + 1) * period
farther_back c k period h =
    let e : (c + 1 + (k - c)) * period ≡ (c + 1) * period + (k - c) * period = add-mul (c + 1) (k - c) period in
    let t : c + 1 + (k - c) ≡ k + 1 = omega arith in
    let f : (k + 1) * period ≡ (c + 1) * period + (k - c) * period = ap (λ (x : ℕ). x * period) (sym t) ∙ e in
    omega arith

-- steps after these are the same after others, as many
same_after : (one two last : List Bool) (m : ℕ) → length one ≡ length two → length one ≤ m → hit_at (two ++ last) m ≡ hit_at (one ++ last) m
same_after one two last m long h =
    get_or-append_right two last (length one) m false (sym long) h ∙ sym (get_or-append_right one last (length one) m false refl h)

-- hits before the last miss of a phase do not count
module _ (period need : ℕ) (one two last : List Bool) (long : length one ≡ length two) (n m k : ℕ)
    (at : m + (k + 1) * period ≡ n) (since : length one ≤ m) (missed : hit_at (one ++ last) m ≡ false) where
  count_ends : (c : ℕ) → IsCount period need (one ++ last) n c → c ≤ k
  count_ends c r = elim (cases_lt k c) [
    | inl l ↦
        let p = r.hit k l in
        let e : p.0 ≡ m = omega (arith, p.1) in
        absurd (let q : true ≡ false = sym p.2 ∙ ap (hit_at (one ++ last)) e ∙ missed in cc)
    | inr l ↦ l
  ]

  pub same_count : (c : ℕ) → IsCount period need (one ++ last) n c → IsCount period need (two ++ last) n c
  same_count c r =
      let end = count_ends c r in
      record {
        most = r.most;
        hit = λ j h.
            let p = r.hit j h in
            let f = farther_back j k period (omega arith) in
            (p.0, p.1, same_after one two last p.0 long (omega (arith, p.1)) ∙ p.2);
        ends = λ h j e is.
            let f = farther_back c k period end in
            r.ends h j e (sym (same_after one two last j long (omega arith)) ∙ is);
      }

-- where each phase missed among the last steps, it makes no difference which steps before them hit
pub others_agree : (v : Phases) (period need first : ℕ) (one two last : List Bool) → 1 ≤ period → length one ≡ length two →
    ((n : ℕ) → length (one ++ last) ≤ n → n < length (one ++ last) + period →
    (m : ℕ) × (k : ℕ) × (m + (k + 1) * period ≡ n) × (length one ≤ m) × (hit_at (one ++ last) m ≡ false)) →
    Watches v period need first (one ++ last) → Watches v period need first (two ++ last)
others_agree v period need first one two last low long misses w =
    let e : length (one ++ last) ≡ length (two ++ last) = length-append one last ∙ ap (λ (x : ℕ). x + length last) long ∙ sym (length-append two last) in
    record {
      of_period = w.of_period;
      of_need = w.of_need;
      from_first = w.from_first;
      of_hits = w.of_hits ∙ e;
      counts = λ n above below.
          let p = misses n (omega arith) (omega arith) in
          same_count period need one two last long n p.0 p.1 p.2 p.3 p.4 (get_or v.counts (n % period) 0) (w.counts n (omega arith) (omega arith));
    }
