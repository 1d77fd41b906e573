-- Numbers of at most 20 digits.
use Rattle.std.proofs.Common.{ℕ, ◌<◌, ◌≤◌, ◌^◌, arith, lit≤}
use Rattle.std.proofs.Math.Nat.{pow-le-pow_right}

ten : 10 ^ 19 ≤ 10000000000000000000
ten = lit≤ tt

pub within : (n i : ℕ) → n < 10 ^ i → i < 20 → n < 10000000000000000000
within n i h k =
    let pos : 0 < 10 = omega arith in
    let below : i ≤ 19 = omega arith in
    let le : 10 ^ i ≤ 10 ^ 19 = pow-le-pow_right pos below in
    let lit : 10 ^ 19 ≤ 10000000000000000000 = ten in
    omega arith
