-- The rows of a diagram are low.
use Rattle.std.proofs.Common.{ℕ, ◌*◌, ◌<◌, ◌≤◌, ◌^◌, arith}
use Rattle.std.proofs.lemmas.Nat.{mul-le}

pub rows_low : (a b : ℕ) → a ≤ 64 → b < 2 ^ 20 → a * b < 2 ^ 26
rows_low a b few low =
    let most = mul-le a b 64 1048575 few (omega (arith, low)) in
    omega (arith, most)
