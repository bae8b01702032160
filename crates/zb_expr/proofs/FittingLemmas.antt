-- Which whole numbers fit into 64 bits.
use Rattle.std.proofs.Common.{◌≡◌, ◌<◌, ◌^◌, ℤ, pos, negsuc, Ok, Err, arith}
use Rattle.std.proofs.lemmas.Bool.Decides.{nat_tests}
use Rattle.std.specs.Prelude.{FitsSigned}
use Rattle.std.specs.Int.{w64}
use Rattle.zb_base.specs.declared.value.Value.TheVariants as values
use Rattle.zb_process.specs.Expr.{Overflow, fitting}

-- one that fits is a value
pub fitting-fits : (z : ℤ) → FitsSigned w64 z → fitting z ≡ Ok (values.Int z)
fitting-fits (pos n) h = let few : n < 2 ^ 63 = h.sfits in grind (arith, nat_tests)
fitting-fits (negsuc n) h = let few : n < 2 ^ 63 = h.sfits in grind (arith, nat_tests)

-- one that doesn't fit is none
pub fitting-far : (z : ℤ) → ¬ FitsSigned w64 z → fitting z ≡ Err Overflow
fitting-far (pos n) h = let far : ¬ (n < 2 ^ 63) = λ few. h (record { sfits = few }) in grind (arith, nat_tests)
fitting-far (negsuc n) h = let far : ¬ (n < 2 ^ 63) = λ few. h (record { sfits = few }) in grind (arith, nat_tests)

pub ruleset fitted = (fitting-fits, fitting-far)
