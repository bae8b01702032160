-- What was answered, against the value of an expression or its first fault.
use Rattle.std.specs.Prelude.{◌≡◌, Result, Ok, Err}
use Rattle.zb_process.specs.Expr.{ValueFault, Unknown, Kind, Overflow}
use Rattle.zb_expr.specs.declared.fault.EvalFault.{EvalFault}
use Rattle.zb_expr.specs.declared.fault.EvalFault.TheVariants as faults

-- the fault that was told is this one, unless memory ran out
abbrev pub IsTold : {A : Type 0} → EvalFault → Result A ValueFault → Type 0
IsTold faults.Unknown is = is ≡ Err Unknown
IsTold faults.Kind is = is ≡ Err Kind
IsTold faults.Overflow is = is ≡ Err Overflow
IsTold faults.Memory is = Unit {0}

-- what was answered, seen by view, is this value, or the fault that was told
abbrev pub EvaluatesAs : {A B : Type 0} → (A → B) → Result A EvalFault → Result B ValueFault → Type 0
EvaluatesAs view (Ok x) is = is ≡ Ok (view x)
EvaluatesAs view (Err e) is = IsTold e is

-- the same of an answer as it is
abbrev pub Evaluates : {A : Type 0} → Result A EvalFault → Result A ValueFault → Type 0
Evaluates answer is = EvaluatesAs (λ x. x) answer is
