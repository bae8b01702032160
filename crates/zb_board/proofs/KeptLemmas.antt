-- Numbers that are kept under keys, and the places of models that are.
use Rattle.std.proofs.Common.{◌≡◌, ℕ, ◌==◌, nat_lt, List, [], ◌∷◌, ◌++◌, length, position, Bool, true, false, cond, if◌then◌else◌, not, Option, Some, None, refl, sym, ap, ◌∙◌, arith, nat_cmp, length-append}
use Rattle.std.specs.BTreeMap.{is_at}
use Rattle.std.specs.Option.{option_or}
use Rattle.std.specs.Ordering.{is_eq}
use Rattle.std.specs.declared.cmp.Ordering.TheVariants.{Less, Equal, Greater}
use Rattle.std.proofs.lemmas.Bool.Decides.{nat_tests}
use Rattle.std.proofs.lemmas.Grind.{common_steps}
use Rattle.std.proofs.lemmas.List.Folds.{position_or_len_push}
use Rattle.std.proofs.lemmas.List.Sums.{prefix_len-le-length}
use Rattle.zb_tokens.specs.declared.board.Deployed.{Deployed}
use Rattle.zb_board.specs.Kept.{number_under, ArePlaced}

-- two numbers are the same
pub same_number : (a b : ℕ) → is_at (nat_cmp a) b ≡ (a == b)
same_number a b = by_tests (nat_lt a b) (a == b) (λ is. grind (arith, nat_tests))
  where
    by_tests : (t u : Bool) → (t ≡ true → u ≡ false) → is_eq (cond t Less (cond u Equal Greater)) ≡ u
    by_tests true u apart = sym (apart refl)
    by_tests false true apart = refl
    by_tests false false apart = refl

-- the first that passes, where one more stands behind the others
module _ {A : Type 0} (p : A → Bool) (xs : List A) (y : A) where
  pub position_more : position p (xs ++ y ∷ []) ≡ option_or (position p xs) (if p y then Some (length xs) else None)
  position_more = grind (arith, nat_tests, common_steps, position_or_len_push p xs y, prefix_len-le-length (λ x. not (p x)) xs, length-append xs (y ∷ []))

-- what is there, with nothing behind it
pub none_behind : {A : Type 0} (o : Option A) → o ≡ option_or o None
none_behind None = refl
none_behind (Some x) = refl

-- the places with one model more
pub placed_more : (models : List Deployed) (kept more : List (ℕ × ℕ)) (d : Deployed) (place : ℕ) → ArePlaced models kept → place ≡ length models
    → ((key : ℕ) → number_under more key ≡ option_or (number_under kept key) (if d.key == key then Some place else None)) → ArePlaced (models ++ d ∷ []) more
placed_more models kept more d place right last first key =
    first key
    ∙ (ap (λ (o : Option ℕ). option_or o (if d.key == key then Some place else None)) (right key)
    ∙ (ap (λ (n : ℕ). option_or (position (λ (x : Deployed). x.key == key) models) (if d.key == key then Some n else None)) last
    ∙ sym (position_more (λ (x : Deployed). x.key == key) models d)))
