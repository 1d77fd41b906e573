-- Payload words that show nothing are passed over by their codes.
use Rattle.std.proofs.Common.{ℕ, zero, suc, ◌≡◌, refl, sym, ap, ◌∙◌, subst, ◌+◌, ◌*◌, ◌/◌, ◌%◌, ◌^◌, ◌<◌, false, List, [], ◌∷◌, ◌++◌, length, get_or, arith, Option, Some, None, is_some, not}
use Rattle.std.specs.Prelude.{ℤ}
use Rattle.std.specs.Int.Count.{ones_in}
use Rattle.std.proofs.Math.Nat.{add-mul, mul-add-mod_self_right, mul_assoc}
use Rattle.std.proofs.Math.Pow.{mod-mod-pow}
use Rattle.std.proofs.lemmas.Bool.{true≢false}
use Rattle.std.proofs.lemmas.Nat.{mod_low}
use Rattle.lk_base.specs.Checksum.{bits_of}
use Rattle.lane_model.specs.Coding.{excess}
use Rattle.lane_model.specs.LaneBits.{bits_of_codes}
use Rattle.lane_model.specs.declared.role.Role.TheVariants as roles
use Rattle.lock_model.specs.declared.types.LaneReport.{LaneReport}
use Rattle.lock_model.specs.declared.types.LaneStep.TheVariants as steps
use Rattle.lane_lock.specs.Lane.{LaneView}
use Rattle.lane_lock.specs.Run.{are_codes}
use Rattle.lane_lock.specs.Taken.{TakesCode, TakesCodes}
use Rattle.lane_events.specs.Balance.{balance_after, balance_over}
use Rattle.lane_events.specs.Inspection.{GoesOn, InspectorView}
use Rattle.lane_events.specs.Steps.{unbalances}
use Rattle.lane_events.proofs.Inspecting.{goes_past_cut}
use Rattle.lane_events.proofs.LastBits.{kept}
use Rattle.lane_events.proofs.Until.{goes_after, goes_none}

-- ---- the balance after codes

abbrev pub balance_next : Option ℤ → ℕ → Option ℤ
balance_next before code = balance_after before (excess 67 (ones_in 67 code))

pub over_more : (before : Option ℤ) (codes : List ℕ) (code : ℕ) → balance_over before (codes ++ code ∷ []) ≡ balance_next (balance_over before codes) code
over_more before [] code = refl
over_more before (c ∷ codes) code = over_more (balance_next before c) codes code

over_none : (codes : List ℕ) → balance_over None codes ≡ None
over_none [] = refl
over_none (code ∷ codes) = over_none codes

-- where they do not unbalance the lock, neither does the first of them, nor do the others
balanced_parts : (before next : Option ℤ) (codes : List ℕ) → (before ≡ None → next ≡ None) → unbalances before (balance_over next codes) ≡ false →
    (unbalances before next ≡ false) × (unbalances next (balance_over next codes) ≡ false)
balanced_parts None next codes same h = (refl, ap (λ (x : Option ℤ). unbalances x (balance_over next codes)) (same refl))
balanced_parts (Some n) None codes same h = absurd (true≢false (sym (ap (unbalances (Some n)) (over_none codes)) ∙ h))
balanced_parts (Some n) (Some m) codes same h = (refl, h)

-- ---- the last bits after codes

abbrev pub window_over : ℕ → List ℕ → ℕ
window_over window [] = window
window_over window (code ∷ codes) = window_over ((window * 2 ^ 67 + code) % 2 ^ 128) codes

-- those of two codes alone
two_last : (window a b : ℕ) → ((window * 2 ^ 67 + a) % 2 ^ 128 * 2 ^ 67 + b) % 2 ^ 128 ≡ (a * 2 ^ 67 + b) % 2 ^ 128
two_last window a b =
    kept (window * 2 ^ 67 + a) (2 ^ 67) (2 ^ 128) b
    ∙ ap (λ (n : ℕ). n % 2 ^ 128) (regrouped window a b (2 ^ 67) (2 ^ 128) 64 refl)
    ∙ mul-add-mod_self_right (window * 64) (2 ^ 128) (a * 2 ^ 67 + b)
  where
    regrouped : (w a b k m f : ℕ) → k * k ≡ f * m → (w * k + a) * k + b ≡ w * f * m + (a * k + b)
    regrouped w a b k m f e =
        let p = add-mul (w * k) a k in
        let q : w * k * k ≡ w * f * m = mul_assoc w k k ∙ ap (λ (x : ℕ). w * x) e ∙ sym (mul_assoc w f m) in
        omega (arith, p, q)

pub last_window : (codes : List ℕ) (n window : ℕ) → length codes ≡ n + 2 → window_over window codes ≡ (get_or codes n 0 * 2 ^ 67 + get_or codes (suc n) 0) % 2 ^ 128
last_window [] n window e = absurd (omega (arith, e))
last_window (a ∷ []) n window e = absurd (omega (arith, e))
last_window (a ∷ b ∷ []) zero window e = two_last window a b
last_window (a ∷ b ∷ c ∷ codes) zero window e = absurd (omega (arith, e))
last_window (a ∷ b ∷ codes) (suc n) window e = last_window (b ∷ codes) n ((window * 2 ^ 67 + a) % 2 ^ 128) (omega (arith, e))

-- the last of them
code_last : (window code : ℕ) → code < 2 ^ 67 → (window * 2 ^ 67 + code) % 2 ^ 128 / 2 ^ 0 % 2 ^ 67 ≡ code
code_last window code low =
    let whole : (window * 2 ^ 67 + code) % 2 ^ 128 / 2 ^ 0 ≡ (window * 2 ^ 67 + code) % 2 ^ 128 = over_one ((window * 2 ^ 67 + code) % 2 ^ 128) in
    ap (λ (n : ℕ). n % 2 ^ 67) whole ∙ mod-mod-pow (window * 2 ^ 67 + code) 61 67 ∙ mod_low window 67 code low
  where
    over_one : (n : ℕ) → n / 2 ^ 0 ≡ n
    over_one n = omega arith

-- ---- they are passed over

abbrev pub inspects_at : LaneView → ℕ → Option ℤ → LaneReport → InspectorView
inspects_at lock window balance counted = record { lock = lock; taken = lock.taken; window = window; balance = balance; counted = counted }

passes_one : (k u : LaneView) (window code : ℕ) (balance : Option ℤ) (counted : LaneReport) → TakesCode k u code → code < 2 ^ 67 → unbalances balance (balance_next balance code) ≡ false →
    GoesOn (inspects_at k window balance counted) (inspects_at u ((window * 2 ^ 67 + code) % 2 ^ 128) (balance_next balance code) counted) (bits_of 67 code) []
passes_one k u window code balance counted t low balanced =
    let next = (window * 2 ^ 67 + code) % 2 ^ 128 in
    goes_past_cut (inspects_at k window balance counted) (inspects_at u next balance counted) 67 66 code (steps.Word t.word (roles.Payload t.number) t.at) (omega arith) (omega arith) low t.brings
    (record { taken = t.taken; counts = refl; window = refl; balance = refl; counted = refl })
    (inspects_at u next (balance_next balance code) counted)
    (record {
      plain = ap not t.legal;
      only_counted = record {
        lock = refl;
        taken = refl;
        window = refl;
        balance = ap (balance_next balance) (sym (code_last window code low));
        balanced = balanced;
        counted = refl;
      };
    })

none_stays : (before : Option ℤ) (code : ℕ) → before ≡ None → balance_next before code ≡ None
none_stays None code e = refl
none_stays (Some n) code e = absurd (true≢false (ap is_some e))

pub passes_all : (codes : List ℕ) (k l : LaneView) (window : ℕ) (balance : Option ℤ) (counted : LaneReport) → TakesCodes k l codes → are_codes codes → unbalances balance (balance_over balance codes) ≡ false →
    GoesOn (inspects_at k window balance counted) (inspects_at l (window_over window codes) (balance_over balance codes) counted) (bits_of_codes codes) []
unfolding bits_of_codes
passes_all [] k l window balance counted same below balanced =
    subst (λ (x : LaneView). GoesOn (inspects_at k window balance counted) (inspects_at x window balance counted) [] []) (sym same) (goes_none (inspects_at k window balance counted))
passes_all (code ∷ codes) k l window balance counted takes below balanced =
    let (u, one, rest) = takes in
    let parts = balanced_parts balance (balance_next balance code) codes (none_stays balance code) balanced in
    let next = (window * 2 ^ 67 + code) % 2 ^ 128 in
    goes_after (inspects_at k window balance counted) (inspects_at u next (balance_next balance code) counted) (inspects_at l (window_over next codes) (balance_over (balance_next balance code) codes) counted)
    (bits_of 67 code) (bits_of_codes codes) [] (passes_one k u window code balance counted one below.0 parts.0) (passes_all codes u l next (balance_next balance code) counted rest below.1 parts.1)
