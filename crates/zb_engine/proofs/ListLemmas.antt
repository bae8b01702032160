-- Laws of lists that grow at their end.
use Rattle.std.proofs.Common.{◌≡◌, ℕ, zero, suc, ◌+◌, List, [], ◌∷◌, ◌++◌, sym, ap, ◌∙◌, arith}
use Rattle.std.proofs.lemmas.List.{append-nil}
use Rattle.std.specs.List.{AllZip, range_with_len}

-- one number more
pub range_with_len_more : (a n : ℕ) → range_with_len a (suc n) ≡ range_with_len a n ++ (a + n) ∷ []
range_with_len_more a zero = ap (λ k. k ∷ []) (omega arith)
range_with_len_more a (suc n) =
    let last : (a + 1) + n ≡ a + suc n = omega arith in
    ap (λ ks. a ∷ ks) (range_with_len_more (a + 1) n ∙ ap (λ k. range_with_len (a + 1) n ++ k ∷ []) last)

-- one pair more
pub AllZip_more : {A B : Type 0} (R : A → B → Type 0) (xs : List A) (ys : List B) (x : A) (y : B) → AllZip R xs ys → R x y → AllZip R (xs ++ x ∷ []) (ys ++ y ∷ [])
AllZip_more R [] [] x y zip here = (here, tt)
AllZip_more R (a ∷ xs) (b ∷ ys) x y zip here = (zip.0, AllZip_more R xs ys x y zip.1 here)
AllZip_more R [] (b ∷ ys) x y zip here = absurd zip
AllZip_more R (a ∷ xs) [] x y zip here = absurd zip

-- nothing more
pub append_none : {A : Type 0} (xs : List A) → xs ≡ xs ++ []
append_none xs = sym (append-nil xs)
