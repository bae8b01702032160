-- What a stack of values holds, as postfix code is run: the values of the trees that the code writes.
use Rattle.std.proofs.Common.{◌≡◌, ℕ, zero, suc, ◌+◌, ◌-◌, ◌<◌, ◌≤◌, IsTrue, Option, Some, None, Result, Ok, Err, List, [], ◌∷◌, ◌++◌, length, take, drop, slice_index_or, refl, sym, ◌∙◌, ap, append-nil, length-append, length-take, length-drop, arith}
use Rattle.std.proofs.lemmas.List.{take-append-drop, take_at, drop_at}
use Rattle.zb_base.specs.declared.value.Value.{Value}
use Rattle.zb_base.specs.declared.value.Value.TheVariants as values
use Rattle.zb_base.specs.Results.{◌>>=◌}
use Rattle.zb_process.specs.Tree as trees
use Rattle.zb_process.specs.Tree.{Tree, trees_of}
use Rattle.zb_process.specs.Expr.{ValueFault, Unknown, Kind, Overflow, value_of, values_of, whole_numbers, opposite, negative, between}
use Rattle.zb_expr.specs.declared.instruction.Instruction.{Instruction}
use Rattle.zb_expr.specs.declared.instruction.Instruction.TheVariants as instructions
use Rattle.zb_expr.specs.Instructions.{arity, value_over}
use Rattle.zb_expr.specs.Postfix.{tree_over, with_instruction, trees_behind, is_one, one_tree, writes_one, tree_written}
use Rattle.zb_expr.specs.Outcome.{IsTold}
use Rattle.zb_expr.specs.declared.fault.EvalFault.{EvalFault}
use Rattle.zb_expr.specs.declared.fault.EvalFault.TheVariants as faults
use Rattle.zb_expr.proofs.CodeLemmas.{instruction-gives, behind-gives}

-- these, and behind them those that are there, or the fault
abbrev pub with_front : {A : Type 0} → List A → Result (List A) ValueFault → Result (List A) ValueFault
with_front xs (Ok ys) = Ok (xs ++ ys)
with_front xs (Err e) = Err e

-- the stack behind an instruction
unfoldable pub step : (List ℕ → Option Value) → Instruction → List Value → Result (List Value) ValueFault
step names i vs = value_over names i (drop (length vs - arity i) vs) >>= (λ v. Ok (take (length vs - arity i) vs ++ v ∷ []))

-- the stack behind several
abbrev pub stack_behind : (List ℕ → Option Value) → List Value → List Instruction → Result (List Value) ValueFault
stack_behind names vs [] = Ok vs
stack_behind names vs (i ∷ is) = step names i vs >>= (λ ws. stack_behind names ws is)

joined_more : (xs : List Value) (v : Value) (r : Result (List Value) ValueFault) → (r >>= (λ ys. Ok ((v ∷ xs) ++ ys))) ≡ ((r >>= (λ ys. Ok (xs ++ ys))) >>= (λ vs. Ok (v ∷ vs)))
joined_more xs v (Ok ys) = refl
joined_more xs v (Err e) = refl

append_by : (rv : Result Value ValueFault) (rt ru : Result (List Value) ValueFault) → (rv >>= (λ v. (rt >>= (λ xs. ru >>= (λ ys. Ok (xs ++ ys)))) >>= (λ vs. Ok (v ∷ vs)))) ≡ ((rv >>= (λ v. rt >>= (λ vs. Ok (v ∷ vs)))) >>= (λ xs. ru >>= (λ ys. Ok (xs ++ ys))))
append_by (Err e) rt ru = refl
append_by (Ok v) (Err e) ru = refl
append_by (Ok v) (Ok xs) ru = sym (joined_more xs v ru)

bind_same : (r : Result (List Value) ValueFault) → r ≡ (r >>= (λ ys. Ok ([] ++ ys)))
bind_same (Ok ys) = refl
bind_same (Err e) = refl

-- the values of two lists of trees, one behind the other
values-append : (names : List ℕ → Option Value) (ts us : List Tree) → values_of names (trees_of (ts ++ us)) ≡ (values_of names (trees_of ts) >>= (λ xs. values_of names (trees_of us) >>= (λ ys. Ok (xs ++ ys))))
values-append names [] us = bind_same (values_of names (trees_of us))
values-append names (t ∷ ts) us = rw (values-append names ts us) (append_by (value_of names t) (values_of names (trees_of ts)) (values_of names (trees_of us)))

length_by : (rv : Result Value ValueFault) (rs : Result (List Value) ValueFault) (n : ℕ) (vs : List Value) → ((ws : List Value) → rs ≡ Ok ws → length ws ≡ n) → (rv >>= (λ v. rs >>= (λ ws. Ok (v ∷ ws)))) ≡ Ok vs → length vs ≡ suc n
length_by (Err e) rs n vs h k = absurd cc
length_by (Ok v) (Err e) n vs h k = absurd cc
length_by (Ok v) (Ok ws) n vs h k =
    let same : v ∷ ws ≡ vs = cc in
    let few : length ws ≡ n = h ws refl in
    rw (← same) (omega arith)

-- there are as many values as trees
values-length : (names : List ℕ → Option Value) (ts : List Tree) (vs : List Value) → values_of names (trees_of ts) ≡ Ok vs → length vs ≡ length ts
values-length names [] vs h = let same : [] ≡ vs = cc in rw (← same) refl
values-length names (t ∷ ts) vs h = length_by (value_of names t) (values_of names (trees_of ts)) (length ts) vs (values-length names ts) h

bind_assoc : {A B C : Type 0} (r : Result A ValueFault) (f : A → Result B ValueFault) (g : B → Result C ValueFault) → ((r >>= f) >>= g) ≡ (r >>= (λ x. f x >>= g))
bind_assoc (Ok x) f g = refl
bind_assoc (Err e) f g = refl

bind_ok : {A : Type 0} (r : Result A ValueFault) → (r >>= (λ x. Ok x)) ≡ r
bind_ok (Ok x) = refl
bind_ok (Err e) = refl

over_one : (r : Result Value ValueFault) (f : Value → Result Value ValueFault) (g : List Value → Result Value ValueFault) → ((v : Value) → g (v ∷ []) ≡ f v) → (r >>= f) ≡ ((r >>= (λ v. Ok (v ∷ []))) >>= g)
over_one (Ok v) f g same = sym (same v)
over_one (Err e) f g same = refl

over_two : (r q : Result Value ValueFault) (f : Value → Value → Result Value ValueFault) (g : List Value → Result Value ValueFault) → ((v w : Value) → g (v ∷ w ∷ []) ≡ f v w) → (r >>= (λ v. q >>= f v)) ≡ ((r >>= (λ v. (q >>= (λ w. Ok (w ∷ []))) >>= (λ vs. Ok (v ∷ vs)))) >>= g)
over_two (Err e) q f g same = refl
over_two (Ok v) (Err e) f g same = refl
over_two (Ok v) (Ok w) f g same = sym (same v w)

-- the tree of an instruction has the value of the instruction
over-is : (names : List ℕ → Option Value) (i : Instruction) (ts : List Tree) (t : Tree) → tree_over i ts ≡ Some t → value_of names t ≡ (values_of names (trees_of ts) >>= (λ vs. value_over names i vs))
over-is names (instructions.Constant (values.Int z)) [] t h = let same : trees.Int z ≡ t = cc in rw (← same) refl
over-is names (instructions.Constant (values.Bool b)) [] t h = let same : trees.Truth b ≡ t = cc in rw (← same) refl
over-is names (instructions.Constant (values.Text s)) [] t h = let same : trees.Text s ≡ t = cc in rw (← same) refl
over-is names (instructions.Constant (values.List zs)) [] t h = absurd cc
over-is names (instructions.Constant v) (u ∷ us) t h = absurd cc
over-is names (instructions.Name s) [] t h = let same : trees.Name s ≡ t = cc in rw (← same) refl
over-is names (instructions.Name s) (u ∷ us) t h = absurd cc
over-is names (instructions.List n) ts t h =
    let same : trees.Members (trees_of ts) ≡ t = cc in
    rw (← same) (bind_assoc (values_of names (trees_of ts)) whole_numbers (λ zs. Ok (values.List zs)))
over-is names instructions.Not [] t h = absurd cc
over-is names instructions.Not (u ∷ []) t h =
    let same : trees.Not u ≡ t = cc in
    rw (← same) (over_one (value_of names u) opposite (λ vs. value_over names instructions.Not vs) (λ v. refl))
over-is names instructions.Not (u ∷ w ∷ us) t h = absurd cc
over-is names instructions.Minus [] t h = absurd cc
over-is names instructions.Minus (u ∷ []) t h =
    let same : trees.Minus u ≡ t = cc in
    rw (← same) (over_one (value_of names u) negative (λ vs. value_over names instructions.Minus vs) (λ v. refl))
over-is names instructions.Minus (u ∷ w ∷ us) t h = absurd cc
over-is names (instructions.Binary o) [] t h = absurd cc
over-is names (instructions.Binary o) (u ∷ []) t h = absurd cc
over-is names (instructions.Binary o) (u ∷ w ∷ []) t h =
    let same : trees.Binary o u w ≡ t = cc in
    rw (← same) (over_two (value_of names u) (value_of names w) (λ v x. between o v x) (λ vs. value_over names (instructions.Binary o) vs) (λ v x. refl))
over-is names (instructions.Binary o) (u ∷ w ∷ x ∷ us) t h = absurd cc

at_last : (r : Result Value ValueFault) (xs : List Value) → ((r >>= (λ v. Ok (v ∷ []))) >>= (λ ys. Ok (xs ++ ys))) ≡ (r >>= (λ v. Ok (xs ++ v ∷ [])))
at_last (Ok v) xs = refl
at_last (Err e) xs = refl

step_by : (names : List ℕ → Option Value) (i : Instruction) (k m : ℕ) (rx ry : Result (List Value) ValueFault) (rv : Result Value ValueFault) → ((xs : List Value) → rx ≡ Ok xs → length xs ≡ k) → ((ys : List Value) → ry ≡ Ok ys → k + length ys ≡ m) → k ≡ m - arity i → rv ≡ (ry >>= (λ vs. value_over names i vs)) → (rx >>= (λ xs. (rv >>= (λ v. Ok (v ∷ []))) >>= (λ ys. Ok (xs ++ ys)))) ≡ ((rx >>= (λ xs. ry >>= (λ ys. Ok (xs ++ ys)))) >>= (λ vs. step names i vs))
unfolding step
step_by names i k m (Err e) ry rv n p below h = refl
step_by names i k m (Ok xs) (Err e) rv n p below h = rw h refl
step_by names i k m (Ok xs) (Ok ys) rv n p below h =
    let front : length xs ≡ k = n xs refl in
    let behind : k + length ys ≡ m = p ys refl in
    let at : length xs ≡ length (xs ++ ys) - arity i = omega (arith, length-append xs ys) in
    rw (h, drop_at xs ys (length (xs ++ ys) - arity i) at, take_at xs ys (length (xs ++ ys) - arity i) at) (at_last (value_over names i ys) xs)

-- an instruction does to values what it does to trees
step-is : (names : List ℕ → Option Value) (i : Instruction) (ts : List Tree) (t : Tree) → tree_over i (drop (length ts - arity i) ts) ≡ Some t → values_of names (trees_of (take (length ts - arity i) ts ++ t ∷ [])) ≡ (values_of names (trees_of ts) >>= (λ vs. step names i vs))
step-is names i ts t h =
    let k : ℕ = length ts - arity i in
    let few : k ≤ length ts = omega arith in
    let split : values_of names (trees_of ts) ≡ (values_of names (trees_of (take k ts)) >>= (λ xs. values_of names (trees_of (drop k ts)) >>= (λ ys. Ok (xs ++ ys)))) = ap (λ (us : List Tree). values_of names (trees_of us)) (sym (take-append-drop k ts)) ∙ values-append names (take k ts) (drop k ts) in
    let front : (xs : List Value) → values_of names (trees_of (take k ts)) ≡ Ok xs → length xs ≡ k = λ xs e. omega (arith, values-length names (take k ts) xs e, length-take k ts) in
    let behind : (ys : List Value) → values_of names (trees_of (drop k ts)) ≡ Ok ys → k + length ys ≡ length ts = λ ys e. omega (arith, values-length names (drop k ts) ys e, length-drop k ts) in
    let same = step_by names i k (length ts) (values_of names (trees_of (take k ts))) (values_of names (trees_of (drop k ts))) (value_of names t) front behind refl (over-is names i (drop k ts) t h) in
    rw (split, values-append names (take k ts) (t ∷ [])) same

step-of : (names : List ℕ → Option Value) (i : Instruction) (ts us : List Tree) → with_instruction ts i ≡ Some us → values_of names (trees_of us) ≡ (values_of names (trees_of ts) >>= (λ vs. step names i vs))
step-of names i ts us h =
    let found = instruction-gives i ts us h in
    rw (← found.2) (step-is names i ts found.0 found.1)

-- code does to values what it does to trees
pub run-is : (names : List ℕ → Option Value) (is : List Instruction) (ts us : List Tree) → trees_behind ts is ≡ Some us → values_of names (trees_of us) ≡ (values_of names (trees_of ts) >>= (λ vs. stack_behind names vs is))
run-is names [] ts us h = let same : ts ≡ us = cc in rw (← same) (sym (bind_ok (values_of names (trees_of ts))))
run-is names (i ∷ is) ts us h =
    let found = behind-gives i is ts us h in
    rw (run-is names is found.0 us found.2, step-of names i ts found.0 found.1) (bind_assoc (values_of names (trees_of ts)) (λ vs. step names i vs) (λ vs. stack_behind names vs is))

take_all : (vs : List Value) (n : ℕ) → length vs ≤ n → take n vs ≡ vs
take_all [] zero h = refl
take_all [] (suc n) h = refl
take_all (v ∷ vs) zero h = absurd (omega arith)
take_all (v ∷ vs) (suc n) h = ap (λ (ws : List Value). v ∷ ws) (take_all vs n (omega arith))

-- a slice up to the end
pub to_end : (vs ws : List Value) (k : ℕ) → ws ≡ vs → take (length ws - k) (drop k ws) ≡ drop k vs
to_end vs ws k h = rw h (take_all (drop k vs) (length vs - k) (omega (arith, length-drop k vs)))

-- the value of the next instruction stands on the stack
pub stack-on : (names : List ℕ → Option Value) (is : List Instruction) (k below : ℕ) (i : Instruction) (vs : List Value) (v : Value) → k < length is → i ≡ slice_index_or is k i → below ≡ length vs - arity i → value_over names i (drop below vs) ≡ Ok v → stack_behind names (take below vs ++ v ∷ []) (drop (k + 1) is) ≡ stack_behind names vs (drop k is)
unfolding step
stack-on names [] k below i vs v few here at h = absurd (omega arith)
stack-on names (j ∷ is) zero below i vs v few here at h = rw (← here, ← at, h)
stack-on names (j ∷ is) (suc k) below i vs v few here at h =
    let next : suc k + 1 ≡ suc (k + 1) = omega arith in
    rw next (stack-on names is k below i vs v (omega arith) here at h)

-- the fault of the next instruction is that of all
pub stack-fault : (names : List ℕ → Option Value) (is : List Instruction) (k below : ℕ) (i : Instruction) (vs : List Value) (e : ValueFault) → k < length is → i ≡ slice_index_or is k i → below ≡ length vs - arity i → value_over names i (drop below vs) ≡ Err e → stack_behind names vs (drop k is) ≡ Err e
unfolding step
stack-fault names [] k below i vs e few here at h = absurd (omega arith)
stack-fault names (j ∷ is) zero below i vs e few here at h = rw (← here, ← at, h)
stack-fault names (j ∷ is) (suc k) below i vs e few here at h = stack-fault names is k below i vs e (omega arith) here at h

-- where no instruction is left, the stack stays
pub stack-over : (names : List ℕ → Option Value) (is : List Instruction) (k : ℕ) (vs : List Value) → length is ≤ k → stack_behind names vs (drop k is) ≡ Ok vs
stack-over names [] zero vs h = refl
stack-over names [] (suc k) vs h = refl
stack-over names (i ∷ is) zero vs h = absurd (omega arith)
stack-over names (i ∷ is) (suc k) vs h = stack-over names is k vs (omega arith)

-- a fault that is told of one is told of another that has it too
pub told-too : {A B : Type 0} (fault : EvalFault) (a : Result A ValueFault) (b : Result B ValueFault) → ((e : ValueFault) → a ≡ Err e → b ≡ Err e) → IsTold fault a → IsTold fault b
told-too faults.Unknown a b too h = too Unknown h
told-too faults.Kind a b too h = too Kind h
told-too faults.Overflow a b too h = too Overflow h
told-too faults.Memory a b too h = tt

alone_by : (r : Result Value ValueFault) (e : ValueFault) → (r >>= (λ v. Ok (v ∷ []))) ≡ Err e → r ≡ Err e
alone_by (Ok v) e h = absurd cc
alone_by (Err f) e h = let same : f ≡ e = cc in rw same refl

-- the value of one tree is what stands on the stack alone
pub alone_told : (names : List ℕ → Option Value) (t : Tree) (fault : EvalFault) → IsTold fault (values_of names (trees_of (t ∷ []))) → IsTold fault (value_of names t)
alone_told names t fault h = told-too fault (values_of names (trees_of (t ∷ []))) (value_of names t) (λ e k. alone_by (value_of names t) e k) h

alone_ok : (r : Result Value ValueFault) (vs : List Value) → (r >>= (λ v. Ok (v ∷ []))) ≡ Ok vs → (v : Value) × (r ≡ Ok v) × (vs ≡ v ∷ [])
alone_ok (Ok v) vs h = (v, refl, sym cc)
alone_ok (Err f) vs h = absurd cc

last_alone : (ys : List Value) (x v : Value) → v ∷ [] ≡ ys ++ x ∷ [] → v ≡ x
last_alone [] x v h = cc
last_alone (y ∷ []) x v h = absurd cc
last_alone (y ∷ z ∷ ys) x v h = absurd cc

-- what stands last is the value, where it stands alone
pub alone_last : (names : List ℕ → Option Value) (t : Tree) (vs ys : List Value) (x : Value) → values_of names (trees_of (t ∷ [])) ≡ Ok vs → vs ≡ ys ++ x ∷ [] → value_of names t ≡ Ok x
alone_last names t vs ys x h k =
    let alone = alone_ok (value_of names t) vs h in
    let same : alone.0 ≡ x = last_alone ys x alone.0 (sym alone.2 ∙ k) in
    alone.1 ∙ ap Ok same

-- and something stands there
pub alone_some : (names : List ℕ → Option Value) (t : Tree) (vs ys : List Value) (n : ℕ) → values_of names (trees_of (t ∷ [])) ≡ Ok vs → vs ≡ ys ++ [] → ys ≡ take (n - 1) vs → n ≡ 0 → ⊥
alone_some names t vs ys n h all rest none =
    let alone = alone_ok (value_of names t) vs h in
    let empty : take (n - 1) vs ≡ [] = rw none refl in
    let nothing : vs ≡ [] = cc (all, append-nil ys, rest, empty) in
    absurd (cc (nothing, alone.2))

one_by : (written : Option (List Tree)) → IsTrue (is_one written) → written ≡ Some (one_tree written ∷ [])
one_by None h = absurd cc
one_by (Some []) h = absurd cc
one_by (Some (t ∷ [])) h = refl
one_by (Some (t ∷ u ∷ us)) h = absurd cc

-- code that writes one tree writes that
pub one-written : (is : List Instruction) → IsTrue (writes_one is) → trees_behind [] is ≡ Some (tree_written is ∷ [])
one-written is h = one_by (trees_behind [] is) h
