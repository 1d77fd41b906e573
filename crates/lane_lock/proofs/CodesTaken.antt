-- Payload words that are taken by their codes.
use Rattle.std.proofs.Common.{ℕ, zero, suc, ◌≡◌, refl, sym, ap, subst, ◌∙◌, ◌+◌, ◌*◌, ◌^◌, ◌<◌, ◌≤◌, ◌==◌, ◌&&◌, not, cond, Bool, true, false, List, [], ◌∷◌, ◌++◌, length, map, take, drop, set, get_or, arith}
use Rattle.std.proofs.Math.Seq.{take-add}
use Rattle.std.proofs.lemmas.Bool.{and_parts, eqb-true, false≢true}
use Rattle.std.proofs.lemmas.Grind.{take-set_at}
use Rattle.lk_base.specs.Checksum.{bits_of}
use Rattle.lane_model.specs.Coding.{is_legal, word_of_code}
use Rattle.lane_model.specs.Key.{key_word, start_of}
use Rattle.lane_model.specs.LaneBits.{bits_of_codes}
use Rattle.coding_67b.proofs.Runs.{code_more}
use Rattle.lane_lock.specs.Inside.{payload_number}
use Rattle.lane_lock.specs.Lane.{LaneView}
use Rattle.lane_lock.specs.Run.{RunState, all_legal, are_codes, keyed_word, lane_ran, run_of, watch_ran, word_ran, words_ran}
use Rattle.lane_lock.specs.Taken.{TakesCodes, payloads_next}
use Rattle.lane_lock.specs.Watch.{payloads_ahead}
use Rattle.lane_lock.proofs.EightWords.{code_legal, codes_more}
use Rattle.lane_lock.proofs.KeyedWords.{bad_unscrambled}
use Rattle.lane_lock.proofs.PayloadRuns.{ahead_taken, code_taken, none_ran}
use Rattle.lane_lock.proofs.PayloadWords.{some_where}
use Rattle.lane_lock.proofs.RunsReached.{last_code, last_is}
use Rattle.lane_lock.proofs.WatchSteps.{bad_is_illegal}

-- ---- codes that are read one after another

-- the first of them are those of these bits
pub record AreFirst (codes : List ℕ) (place : ℕ) (given : List Bool) : Type 0 where
  pub bits : bits_of_codes (take place codes) ≡ take (67 * place) given
  pub below : are_codes (take place codes)
  pub long : length codes ≡ 8

pub first_more : (codes : List ℕ) (place code : ℕ) (given : List Bool) → AreFirst codes place given → place < 8 → code < 2 ^ 67 → bits_of 67 code ≡ take 67 (drop (67 * place) given) →
    length (set codes place code) ≡ 8 → AreFirst (set codes place code) (place + 1) given
first_more codes place code given k here low bits long =
    let was = k.long in
    let put : take (place + 1) (set codes place code) ≡ take place codes ++ code ∷ [] = take-set_at codes place (place + 1) code refl (omega (arith, here, was)) in
    let n : 67 * place + 67 ≡ 67 * (place + 1) = omega arith in
    record {
      bits = ap bits_of_codes put ∙ code_more (take place codes) code ∙ ap (λ (x : List Bool). x ++ bits_of 67 code) k.bits
          ∙ ap (λ (x : List Bool). take (67 * place) given ++ x) bits ∙ sym (take-add (67 * place) 67 given) ∙ ap (λ (m : ℕ). take m given) n;
      below = subst are_codes (sym put) (codes_more (take place codes) code k.below low);
      long = long;
    }

-- ---- their headers

-- whether the first of them have legal headers, as `legal` says
abbrev pub AreLegal : Bool → ℕ → List ℕ → Type 0
AreLegal legal place codes = (legal ≡ true → all_legal (take place (map word_of_code codes))) × (legal ≡ false → all_legal (map word_of_code codes) → ⊥)

legal_first : (codes : List ℕ) (place : ℕ) → place < length codes → is_legal (get_or codes place 0) ≡ true → all_legal (take place (map word_of_code codes)) → all_legal (take (suc place) (map word_of_code codes))
legal_first [] place here legal k = absurd (omega (arith, here))
legal_first (code ∷ codes) zero here legal k = (sym (bad_is_illegal code) ∙ ap not legal, tt)
legal_first (code ∷ codes) (suc place) here legal k = (k.0, legal_first codes place (omega (arith, here)) legal k.1)

one_illegal : (codes : List ℕ) (place : ℕ) → place < length codes → is_legal (get_or codes place 0) ≡ false → all_legal (map word_of_code codes) → ⊥
one_illegal codes place here bad legal = false≢true (sym (code_legal codes place here legal) ∙ sym (bad_is_illegal (get_or codes place 0)) ∙ ap not bad)

pub legal_next : (codes : List ℕ) (place : ℕ) (so_far this : Bool) → place < length codes → this ≡ is_legal (get_or codes place 0) → AreLegal so_far place codes → AreLegal (so_far && this) (place + 1) codes
legal_next codes place true true here is k =
    let n : suc place ≡ place + 1 = omega arith in
    (λ _. subst (λ (m : ℕ). all_legal (take m (map word_of_code codes))) n (legal_first codes place here (sym is) (k.0 refl)), λ e. absurd (false≢true (sym e)))
legal_next codes place true false here is k = (λ e. absurd (false≢true e), λ _. one_illegal codes place here (sym is))
legal_next codes place false this here is k = (λ e. absurd (false≢true e), λ _. k.1 refl)

-- ---- they are taken

-- a lock is declared whose next word begins here
pub next_begins : (v : LaneView) → 1 ≤ payloads_next v → (v.watching ≡ true) × (v.at ≡ v.taken) × (payloads_next v ≡ payloads_ahead v.watch)
next_begins v some =
    let p = some_where (v.watching && (v.at == v.taken)) (payloads_ahead v.watch) some in
    let both = and_parts v.watching (v.at == v.taken) p.0 in
    (both.0, eqb-true v.at v.taken both.1, ap (λ (b : Bool). cond b (payloads_ahead v.watch) 0) p.0)

takes_from : (v : LaneView) → v.watching ≡ true → v.at ≡ v.taken → (codes : List ℕ) (n last : ℕ) (run : RunState) → length codes ≤ payloads_ahead (watch_ran v.watch n run) → are_codes codes → all_legal (map word_of_code codes) →
    TakesCodes (lane_ran v n last run) (lane_ran v (n + length codes) (last_code last codes) (words_ran run (map word_of_code codes))) codes
takes_from v ew begins [] n last run ahead below legal = let e : n + 0 ≡ n = omega arith in ap (λ (m : ℕ). lane_ran v m last run) e
takes_from v ew begins (code ∷ codes) n last run ahead below legal =
    let word = word_of_code code in
    let next : 1 ≤ payloads_ahead (watch_ran v.watch n run) = omega (arith, ahead) in
    let moves = ahead_taken v.watch n run word next in
    let e : n + 1 + length codes ≡ n + suc (length codes) = omega arith in (
      lane_ran v (n + 1) code (word_ran run word),
      record {
        word = keyed_word run.inside.state word;
        number = payload_number run.inside;
        at = v.at + 67 * n;
        legal = bad_unscrambled (key_word (start_of run.inside.state) 0) word ∙ legal.0;
        taken = omega arith;
        brings = code_taken v n last code run ew begins next below.0 legal.0;
      },
      subst (λ (m : ℕ). TakesCodes (lane_ran v (n + 1) code (word_ran run word)) (lane_ran v m (last_code code codes) (words_ran (word_ran run word) (map word_of_code codes))) codes) e
          (takes_from v ew begins codes (n + 1) code (word_ran run word) (omega (arith, ahead, moves)) below.1 legal.1),
    )

pub eight_taken : (v w : LaneView) (codes : List ℕ) (run new : RunState) → 8 ≤ payloads_next v → length codes ≡ 8 → are_codes codes → all_legal (map word_of_code codes) → run ≡ run_of v.watch →
    new ≡ words_ran run (map word_of_code codes) → w ≡ lane_ran v 8 (get_or codes 7 0) new → TakesCodes v w codes
eight_taken v w codes run new ahead long below legal is e f =
    let b = next_begins v (omega (arith, ahead)) in
    let most = b.2 in
    let n : 0 + length codes ≡ 8 = omega (arith, long) in
    let all = takes_from v b.0 b.1 codes 0 v.window (run_of v.watch) (ahead_all v codes (omega (arith, ahead, most, long))) below legal in
    let now : new ≡ words_ran (run_of v.watch) (map word_of_code codes) = e ∙ ap (λ (x : RunState). words_ran x (map word_of_code codes)) is in
    let there : lane_ran v (0 + length codes) (last_code v.window codes) (words_ran (run_of v.watch) (map word_of_code codes)) ≡ w =
    ap (λ (m : ℕ). lane_ran v m (last_code v.window codes) (words_ran (run_of v.watch) (map word_of_code codes))) n
    ∙ ap (λ (x : ℕ). lane_ran v 8 x (words_ran (run_of v.watch) (map word_of_code codes))) (last_is v.window codes 7 long)
    ∙ ap (lane_ran v 8 (get_or codes 7 0)) (sym now) ∙ sym f in
    subst (λ (y : LaneView). TakesCodes v y codes) there (subst (λ (x : LaneView). TakesCodes x (lane_ran v (0 + length codes) (last_code v.window codes) (words_ran (run_of v.watch) (map word_of_code codes))) codes) (sym (none_ran v)) all)
  where
    ahead_all : (v : LaneView) (codes : List ℕ) → length codes ≤ payloads_ahead v.watch → length codes ≤ payloads_ahead (watch_ran v.watch 0 (run_of v.watch))
    ahead_all v codes h = h
