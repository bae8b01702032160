-- Laws of lists that grow at their end.
use Rattle.std.proofs.Common.{◌≡◌, ℕ, suc, ◌+◌, List, [], ◌∷◌, ◌++◌, length, sym, subst, arith}
use Rattle.std.proofs.lemmas.List.{append-nil}
use Rattle.zb_desk.specs.Numbered.{EachFrom}

-- nothing more
pub append_none : {A : Type 0} (xs : List A) → xs ≡ xs ++ []
append_none xs = sym (append-nil xs)

-- one numbered pair more
pub EachFrom_more : {A B : Type 0} (R : ℕ → A → B → Type 0) (n : ℕ) (xs : List A) (ys : List B) (x : A) (y : B) → EachFrom R n xs ys → R (n + length xs) x y → EachFrom R n (xs ++ x ∷ []) (ys ++ y ∷ [])
EachFrom_more R n [] [] x y each here = (let first : n + 0 ≡ n = omega arith in subst (λ (k : ℕ). R k x y) first here, tt)
EachFrom_more R n (a ∷ xs) (b ∷ ys) x y each here =
    (each.0, EachFrom_more R (suc n) xs ys x y each.1 (let behind : n + length (a ∷ xs) ≡ suc n + length xs = omega arith in subst (λ (k : ℕ). R k x y) behind here))
EachFrom_more R n [] (b ∷ ys) x y each here = absurd each
EachFrom_more R n (a ∷ xs) [] x y each here = absurd each
