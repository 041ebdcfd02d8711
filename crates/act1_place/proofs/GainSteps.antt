-- A gain as a signed number.
use Rattle.std.proofs.Common.{ℕ, ◌≡◌, ◌+◌, ◌≤◌, ◌^◌, ◌-ℤ◌, to_z, of_z, w64, arith}
use Rattle.std.specs.Prelude.{pos}
use Rattle.std.proofs.lemmas.Int.{ints}

pub as_gain : (p r t u : ℕ) → p ≤ 2 ^ 50 → r ≤ 2 ^ 50 → t + r ≡ u + p → to_z w64 (of_z w64 (to_z w64 p -ℤ to_z w64 r)) ≡ pos t -ℤ pos u
as_gain p r t u small few e = omega (arith, ints)
