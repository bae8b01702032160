-- The counters of keys.
use Rattle.std.proofs.Common.{◌≡◌, ℕ, ◌/◌, ◌%◌, ◌^◌, ◌<◌, arith}
use Rattle.std.proofs.lemmas.Bool.Decides.{nat_tests}
use Rattle.zb_base.specs.Key.{key_of}
use Rattle.zb_views.specs.View.{counter_at}

-- the counter of a key that the partition draws
pub counter_at-key_of : (p n : ℕ) → n < 2 ^ 51 → counter_at p (key_of p n) ≡ n
counter_at-key_of p n h =
    let q : key_of p n / 2 ^ 51 ≡ p = omega arith in
    let r : key_of p n % 2 ^ 51 ≡ n = omega arith in
    grind (arith, nat_tests)
