-- What an instruction of postfix code takes, and the value that it gives.
use Rattle.std.specs.Prelude.{ℕ, Option, Result, Ok, Err, List, [], ◌∷◌}
use Rattle.zb_base.specs.Results.{◌>>=◌}
use Rattle.zb_base.specs.declared.value.Value.{Value}
use Rattle.zb_base.specs.declared.value.Value.TheVariants as values
use Rattle.zb_process.specs.Expr.{ValueFault, Kind, known, whole_numbers, opposite, negative, between}
use Rattle.zb_expr.specs.declared.instruction.Instruction.{Instruction}
use Rattle.zb_expr.specs.declared.instruction.Instruction.TheVariants.{Constant, Name, List as OfList, Not, Minus, Binary}

-- how many operands an instruction takes (own)
abbrev pub arity : Instruction → ℕ
arity (Constant v) = 0
arity (Name t) = 0
arity (OfList n) = n
arity Not = 1
arity Minus = 1
arity (Binary o) = 2

-- the value of an instruction over those of its operands, where names have these values (own)
abbrev pub value_over : (List ℕ → Option Value) → Instruction → List Value → Result Value ValueFault
value_over names (Constant v) vs = Ok v
value_over names (Name t) vs = known (names t)
value_over names (OfList n) vs = whole_numbers vs >>= (λ zs. Ok (values.List zs))
value_over names Not (v ∷ []) = opposite v
value_over names Minus (v ∷ []) = negative v
value_over names (Binary o) (v ∷ w ∷ []) = between o v w
value_over names i vs = Err Kind
