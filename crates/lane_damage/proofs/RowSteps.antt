-- What one more row changes, and what all rows do together.
use Rattle.std.proofs.Common.{ℕ, ◌≡◌, refl, sym, ap, ◌∙◌, subst, ◌+◌, ◌-◌, ◌*◌, ◌≤◌, ◌<◌, Bool, true, false, cond, List, [], ◌∷◌, ◌++◌, length, map, take, get_or, arith, inl, inr}
use Rattle.std.specs.Prelude.{◌⊎◌, ◌&&◌, ◌||◌, filter, max, min, nat_le, nat_lt}
use Rattle.std.specs.List.{enumerate_from}
use Rattle.std.proofs.lemmas.Bool.{cases_lt, cases_Bool, and_from, le-leb, lt-leb, lt-ltb, le-ltb}
use Rattle.std.proofs.lemmas.List.{map-append, take_more, length-map, ext_get_or}
use Rattle.std.proofs.lemmas.List.FromFn.{length-enumerate_from}
use Rattle.lk_base.specs.Checksum.{bits_of_bytes}
use Rattle.lane_model.specs.Damage.{DarkBits, LaneDamage, received_bit}
use Rattle.lane_model.proofs.FilesHold.{length-flat_map_bits}
use Rattle.lane_damage.specs.declared.rows.Stretch.{Stretch}
use Rattle.lane_damage.specs.Stretches.{dark_bits}
use Rattle.lane_damage.specs.Bits.{IsChanged, bit_in, damaged_from, darkened_by, turned_by}
use Rattle.lane_damage.proofs.Covers.{covered, covered-more, covers, covers-from}
use Rattle.lane_damage.proofs.Numbered.{numbered}

-- ---- dark stretches

and_none : (a b : Bool) → b ≡ false → (a && b) ≡ false
and_none true b e = e
and_none false b e = refl

pub covers-none : (x : DarkBits) (n : ℕ) → (n < x.first) ⊎ (x.first + x.count ≤ n) → covers n x ≡ false
covers-none x n (inl early) = let e = lt-leb x.first n early in rw e refl
covers-none x n (inr late) = and_none (nat_le x.first n) (nat_lt n (x.first + x.count)) (le-ltb n (x.first + x.count) late)

-- whether a bit of the piece is between these places says whether the stretch covers it
within : (s : Stretch) (start long from to p : ℕ) → from ≡ max s.first start → to ≡ min s.end (start + long) → p < long →
    (nat_le (from - start) p && nat_lt p (to - start)) ≡ covers (start + p) (dark_bits s)
within s start long from to p f t h = elim (cases_lt (start + p) s.first) [
  | inl early ↦ (let e = lt-leb (from - start) p (omega (arith, early, f)) in rw e (sym (covers-none (dark_bits s) (start + p) (inl early))))
  | inr late ↦ elim (cases_lt (start + p) s.end) [
    | inl before ↦
        and_from (nat_le (from - start) p) (nat_lt p (to - start)) (le-leb (from - start) p (omega (arith, late, f))) (lt-ltb p (to - start) (omega (arith, before, t, h)))
        ∙ sym (covers-from (dark_bits s) (start + p) late (omega (arith, late, before)))
    | inr past ↦
        and_none (nat_le (from - start) p) (nat_lt p (to - start)) (le-ltb p (to - start) (omega (arith, past, t)))
        ∙ sym (covers-none (dark_bits s) (start + p) (inr (omega (arith, late, past))))
  ]
]

both : (a c b : Bool) → cond c false (cond a false b) ≡ cond (a || c) false b
both true true b = refl
both true false b = refl
both false true b = refl
both false false b = refl

front-more : (darks : List Stretch) (k : ℕ) (d : Stretch) → k < length darks → map dark_bits (take (k + 1) darks) ≡ map dark_bits (take k darks) ++ dark_bits (get_or darks k d) ∷ []
front-more darks k d lt = ap (map dark_bits) (take_more darks k d lt) ∙ map-append dark_bits (take k darks) (get_or darks k d ∷ [])

-- one stretch more, that makes these bits 0
pub darkened_more : (darks : List Stretch) (k start from to : ℕ) (d : Stretch) (old mid new : List ℕ) → k < length darks → from ≡ max (get_or darks k d).first start →
    to ≡ min (get_or darks k d).end (start + 8 * length old) → IsChanged (darkened_by (map dark_bits (take k darks))) start old mid → length new ≡ length mid →
    ((p : ℕ) → bit_in new p ≡ cond (nat_le (from - start) p && nat_lt p (to - start)) false (bit_in mid p)) → IsChanged (darkened_by (map dark_bits (take (k + 1) darks))) start old new
darkened_more darks k start from to d old mid new lt f t was long now =
    let s = get_or darks k d in
    let front = map dark_bits (take k darks) in
    subst (λ (ds : List DarkBits). IsChanged (darkened_by ds) start old new) (sym (front-more darks k d lt))
    (record {
      long = long ∙ was.long;
      each = λ p h.
          now p
          ∙ ap (λ c. cond c false (bit_in mid p)) (within s start (8 * length old) from to p f t h)
          ∙ ap (cond (covers (start + p) (dark_bits s)) false) (was.each p h)
          ∙ both (covered front (start + p)) (covers (start + p) (dark_bits s)) (bit_in old p)
          ∙ ap (λ c. cond c false (bit_in old p)) (sym (covered-more front (dark_bits s) (start + p)));
    })

-- where no bit of the piece is covered
pub same_bits : (from to start p : ℕ) (m : Bool) → to ≤ from → m ≡ cond (nat_le (from - start) p && nat_lt p (to - start)) false m
same_bits from to start p m le = elim (cases_lt p (from - start)) [
  | inl early ↦ (let e = lt-leb (from - start) p early in rw e refl)
  | inr late ↦ ap (λ c. cond c false m) (sym (and_none (nat_le (from - start) p) (nat_lt p (to - start)) (le-ltb p (to - start) (omega (arith, late, le)))))
]

-- ---- all rows

-- what is first turned and then darkened is damaged
pub damaged-all : (d : LaneDamage) (start : ℕ) (old mid new : List ℕ) → IsChanged (turned_by d.flips) start old mid → IsChanged (darkened_by d.darks) start mid new →
    bits_of_bytes new ≡ damaged_from d start (bits_of_bytes old)
damaged-all d start old mid new turned darkened =
    let a = length-flat_map_bits 8 old in
    let b = length-flat_map_bits 8 new in
    let m = turned.long in
    let n = darkened.long in
    let long : length (damaged_from d start (bits_of_bytes old)) ≡ length (bits_of_bytes old) =
    length-map (enumerate_from start (bits_of_bytes old)) (received_bit d) ∙ length-enumerate_from start (bits_of_bytes old) in
    ext_get_or false (bits_of_bytes new) (damaged_from d start (bits_of_bytes old)) (omega (arith, a, b, m, n, long)) (λ p h.
    let there : p < 8 * length old = omega (arith, a, b, m, n, h) in
    darkened.each p (omega (arith, there, m))
    ∙ ap (darkened_by d.darks (start + p)) (turned.each p there)
    ∙ sym (numbered (received_bit d) start (bits_of_bytes old) p (omega (arith, there, a))))

-- ---- rows that are kept

-- those are kept that have later bits
pub kept-darks : (n : ℕ) (darks : List Stretch) → map dark_bits (filter (λ (s : Stretch). nat_lt n (max s.first s.end)) darks) ≡ filter (λ (d : DarkBits). nat_lt n (d.first + d.count)) (map dark_bits darks)
kept-darks n [] = refl
kept-darks n (s ∷ darks) =
    let e : max s.first s.end ≡ s.first + (s.end - s.first) = omega arith in
    elim (cases_Bool (nat_lt n (max s.first s.end))) [
      | inl h ↦ rw (h, ap (nat_lt n) (sym e) ∙ h) (ap (λ ds. dark_bits s ∷ ds) (kept-darks n darks))
      | inr h ↦ rw (h, ap (nat_lt n) (sym e) ∙ h) (kept-darks n darks)
    ]
