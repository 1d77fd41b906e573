-- No bit is struck where a lane arrives as it was sent.
use Rattle.std.proofs.Common.{ℕ, ◌≡◌, ◌↔◌, refl, sym, ap, ◌∙◌, ◌+◌, Bool, true, false, List, [], ◌∷◌, ◌++◌, length, take, replicate, arith, subst}
use Rattle.std.specs.List.{enumerate_from}
use Rattle.std.proofs.lemmas.List.{append_cancel_left, length-append, length-map}
use Rattle.std.proofs.lemmas.List.FromFn.{length-enumerate_from}
use Rattle.std.proofs.Math.Seq.{take-append_seam}
use Rattle.lk_base.specs.Checksum.{bits_of_bytes, differ, digit}
use Rattle.lane_model.specs.Damage.{LaneDamage, damaged_bits, received_bit, received_bits}
use Rattle.lane_model.specs.LaneBits.{IsFileOf}
use Rattle.damage_commands.specs.Struck.{differing, struck}
use Rattle.link_replay.specs.Damages.{lane_damage}
use Rattle.damage_commands.specs.DamageLaws.{ArrivesAsSent, NoneStruck}

same_bit : (b c : Bool) (n : ℕ) → digit (differ b c) + n ≡ 0 → b ≡ c
same_bit true true n e = refl
same_bit false false n e = refl
same_bit true false n e = absurd (omega (arith, e))
same_bit false true n e = absurd (omega (arith, e))

rest_same : (b c : Bool) (n : ℕ) → digit (differ b c) + n ≡ 0 → n ≡ 0
rest_same b c n e = omega (arith, e)

same_bits : (bits others : List Bool) → length bits ≡ length others → differing bits others ≡ 0 → bits ≡ others
unfolding differing
same_bits [] [] l e = refl
same_bits [] (c ∷ others) l e = absurd (omega (arith, l))
same_bits (b ∷ bits) [] l e = absurd (omega (arith, l))
same_bits (b ∷ bits) (c ∷ others) l e =
    let first : b ≡ c = same_bit b c (differing bits others) e in
    let rest : bits ≡ others = same_bits bits others (omega (arith, l)) (rest_same b c (differing bits others) e) in
    ap (λ (x : Bool). x ∷ bits) first ∙ ap (λ (xs : List Bool). c ∷ xs) rest

none_itself : (bits : List Bool) → differing bits bits ≡ 0
unfolding differing
none_itself [] = refl
none_itself (true ∷ bits) = let e = none_itself bits in omega (arith, e)
none_itself (false ∷ bits) = let e = none_itself bits in omega (arith, e)

pub as_long : (damage : LaneDamage) (sent : List Bool) → length (damaged_bits damage sent) ≡ length sent
as_long damage sent = length-map (enumerate_from 0 sent) (received_bit damage) ∙ length-enumerate_from 0 sent

pub undamaged : (damage : LaneDamage) (sent : List Bool) → struck damage sent ≡ 0 → damaged_bits damage sent ≡ sent
undamaged damage sent e = same_bits (damaged_bits damage sent) sent (as_long damage sent) e

unstruck : (damage : LaneDamage) (sent : List Bool) → damaged_bits damage sent ≡ sent → struck damage sent ≡ 0
unstruck damage sent e = ap (λ (xs : List Bool). differing xs sent) e ∙ none_itself sent

pub none_struck : NoneStruck
none_struck damage sent = (
  λ e. ap (λ (xs : List Bool). replicate damage.skew true ++ xs) (undamaged damage sent e),
  λ e. unstruck damage sent (append_cancel_left (replicate damage.skew true) (damaged_bits damage sent) sent e),
)

-- ---- of files

front_of : (one other xs ys : List Bool) → length one ≡ length other → one ++ xs ≡ other ++ ys → one ≡ other
front_of one other xs ys l e = sym (take-append_seam one xs) ∙ ap (λ n. take n (one ++ xs)) l ∙ ap (take (length other)) e ∙ take-append_seam other ys

arrives : (damage : LaneDamage) (sent received : List ℕ) → IsFileOf received (received_bits damage (bits_of_bytes sent)) →
    (struck damage (bits_of_bytes sent) ≡ 0) ↔ IsFileOf received (replicate damage.skew true ++ bits_of_bytes sent)
arrives damage sent received file =
    (λ e. subst (IsFileOf received) ((none_struck damage (bits_of_bytes sent)).0 e) file, λ same. (none_struck damage (bits_of_bytes sent)).1 (is same))
  where
    ones : List Bool
    ones = replicate damage.skew true

    is : IsFileOf received (ones ++ bits_of_bytes sent) → received_bits damage (bits_of_bytes sent) ≡ ones ++ bits_of_bytes sent
    is same =
        let a = length-append ones (damaged_bits damage (bits_of_bytes sent)) in
        let b = length-append ones (bits_of_bytes sent) in
        let c = as_long damage (bits_of_bytes sent) in
        front_of (received_bits damage (bits_of_bytes sent)) (ones ++ bits_of_bytes sent) (replicate file.padding false) (replicate same.padding false) (omega (arith, a, b, c)) (sym file.holds ∙ same.holds)

pub arrives_as_sent : ArrivesAsSent
arrives_as_sent schedule lane sent received file = arrives (lane_damage schedule lane) sent received file
