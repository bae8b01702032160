-- Laws of a call whose result is handed on.
use Rattle.std.proofs.Common.{Result, Ok, Err, OnOk, OnErr, IfErr}

-- a premise goes in under Ok
pub on_ok_under : {T E : Type 0} (r : Result T E) (A P : Type 0) → (A → OnOk r P) → OnOk r (A → P)
on_ok_under (Ok x) A P f = f
on_ok_under (Err e) A P f = tt

-- what each of two clauses says of an error
pub if_err_both : {T E : Type 0} (r : Result T E) (A P : Type 0) (Q R : E → Type 0) → (A → OnErr r P) → IfErr r Q → ((e : E) → (A → P) → Q e → R e) → IfErr r R
if_err_both (Ok x) A P Q R f q g = tt
if_err_both (Err e) A P Q R f q g = g e f q
