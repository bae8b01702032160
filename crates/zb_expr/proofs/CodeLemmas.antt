-- What code writes as it grows.
use Rattle.std.proofs.Common.{◌≡◌, ℕ, ◌+◌, ◌-◌, ◌<◌, Option, Some, None, List, [], ◌∷◌, ◌++◌, length, take, drop, slice_index_or, refl, append_assoc, append-nil, length-append, arith}
use Rattle.std.proofs.lemmas.List.{take_at, drop_at, take_more}
use Rattle.zb_format.specs.Reading.{◌>>=◌}
use Rattle.zb_process.specs.Tree.{Tree}
use Rattle.zb_process.proofs.NestingLemmas.{nesting-member}
use Rattle.zb_expr.specs.declared.instruction.Instruction.{Instruction}
use Rattle.zb_expr.specs.Instructions.{arity}
use Rattle.zb_expr.specs.Postfix.{tree_over, with_instruction, trees_behind, WritesMore}

bind_some : {A : Type 0} (found : Option A) → (found >>= (λ x. Some x)) ≡ found
bind_some None = refl
bind_some (Some x) = refl

bind_on : {A B : Type 0} (found : Option A) (f h : A → Option B) (g : B → Option B) → ((x : A) → h x ≡ f x >>= g) → (found >>= h) ≡ (found >>= f) >>= g
bind_on None f h g same = refl
bind_on (Some x) f h g same = same x

bind_gives : {A B : Type 0} (found : Option A) (f : A → Option B) (y : B) → (found >>= f) ≡ Some y → (x : A) × (found ≡ Some x) × (f x ≡ Some y)
bind_gives None f y h = absurd cc
bind_gives (Some x) f y h = (x, refl, h)

-- where an instruction goes on, it has a tree
pub instruction-gives : (i : Instruction) (ts us : List Tree) → with_instruction ts i ≡ Some us → (t : Tree) × (tree_over i (drop (length ts - arity i) ts) ≡ Some t) × (take (length ts - arity i) ts ++ t ∷ [] ≡ us)
unfolding with_instruction
instruction-gives i ts us h =
    let found = bind_gives (tree_over i (drop (length ts - arity i) ts)) (λ t. Some (take (length ts - arity i) ts ++ t ∷ [])) us h in
    (found.0, found.1, cc (found.2))

-- where code goes on, so does its first instruction
pub behind-gives : (i : Instruction) (is : List Instruction) (ts us : List Tree) → trees_behind ts (i ∷ is) ≡ Some us → (ws : List Tree) × (with_instruction ts i ≡ Some ws) × (trees_behind ws is ≡ Some us)
behind-gives i is ts us h = bind_gives (with_instruction ts i) (λ ws. trees_behind ws is) us h

-- the last instruction goes on with the trees of the others
pub behind-append : (is : List Instruction) (i : Instruction) (ts : List Tree) → trees_behind ts (is ++ i ∷ []) ≡ trees_behind ts is >>= (λ us. with_instruction us i)
behind-append [] i ts = bind_some (with_instruction ts i)
behind-append (j ∷ is) i ts =
    bind_on (with_instruction ts j) (λ us. trees_behind us is) (λ us. trees_behind us (is ++ i ∷ [])) (λ us. with_instruction us i) (λ us. behind-append is i us)

-- an instruction takes its operands, which are the last trees
pub instruction-over : (i : Instruction) (ts operands : List Tree) (t : Tree) → length operands ≡ arity i → tree_over i operands ≡ Some t → with_instruction (ts ++ operands) i ≡ Some (ts ++ t ∷ [])
unfolding with_instruction
instruction-over i ts operands t n h =
    let below : length ts ≡ length (ts ++ operands) - arity i = omega (arith, length-append ts operands) in
    rw (take_at ts operands (length (ts ++ operands) - arity i) below, drop_at ts operands (length (ts ++ operands) - arity i) below, h)

-- code that is as before writes nothing more
pub writes-nothing : (code : List Instruction) → WritesMore code [] code
unfolding WritesMore
writes-nothing code ts h = rw (append-nil ts) h

-- what is written behind what is written
pub writes-both : (old mid new : List Instruction) (ts us : List Tree) → WritesMore old ts mid → WritesMore mid us new → WritesMore old (ts ++ us) new
unfolding WritesMore
writes-both old mid new ts us h k vs written = rw (← append_assoc vs ts us) (k (vs ++ ts) (h vs written))

-- one more of several
pub writes-more : (old mid new : List Instruction) (ts : List Tree) (k : ℕ) (t : Tree) → k < length ts → t ≡ slice_index_or ts k t → WritesMore old (take k ts) mid → WritesMore mid (t ∷ []) new → WritesMore old (take (k + 1) ts) new
writes-more old mid new ts k t few here h next =
    let more : take (k + 1) ts ≡ take k ts ++ t ∷ [] = rw here (take_more ts k t few) in
    rw more (writes-both old mid new (take k ts) (t ∷ []) h next)

-- with an instruction, the operands become its tree
pub writes-over : (old mid new : List Instruction) (i : Instruction) (operands : List Tree) (t : Tree) → WritesMore old operands mid → length operands ≡ arity i → tree_over i operands ≡ Some t → new ≡ mid ++ i ∷ [] → WritesMore old (t ∷ []) new
unfolding WritesMore
writes-over old mid new i operands t h n over grown ts written =
    rw (grown, behind-append mid i [], h ts written) (instruction-over i ts operands t n over)

-- from nothing, only that is written
pub writes-alone : (code : List Instruction) (t : Tree) → WritesMore [] (t ∷ []) code → trees_behind [] code ≡ Some (t ∷ [])
unfolding WritesMore
writes-alone code t h = h [] refl

pub ruleset members = (nesting-member)
