-- What a stack holds.
use Rattle.zb_base.specs.declared.value.Value.{Value}
use Rattle.zb_expr.specs.declared.operand.Held.{Held}
use Rattle.zb_expr.specs.declared.operand.Held.TheVariants.{Lent, Made}

-- the value that is held
abbrev pub value_held : Held → Value
value_held (Lent v) = v.now
value_held (Made v) = v
