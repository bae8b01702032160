-- What a loop makes of a list, item by item.
use Rattle.std.proofs.Common.{◌≡◌, ◌≤◌, ◌<◌, ◌+◌, ◌∙◌, ◌||◌, ℕ, Bool, true, false, List, ap, drop, get_or, length, map, refl, sym}
use Rattle.std.specs.Prelude.{Result, Ok, Err, IfOk}
use Rattle.std.specs.List.{fold}
use Rattle.std.proofs.lemmas.List.{drop_all, drop_more}

module _ {A B X : Type 0} (f : B → A → B) (g : X → A) (b : B) (xs : List X) (i : ℕ) where
  pub with_next : (c : B) (d : X) → i < length xs → c ≡ f b (g (get_or xs i d)) → fold f c (map g (drop (i + 1) xs)) ≡ fold f b (map g (drop i xs))
  with_next c d within next = ap (λ y. fold f y (map g (drop (i + 1) xs))) next ∙ sym (ap (λ l. fold f b (map g l)) (drop_more xs i d within))

  pub with_all : length xs ≤ i → fold f b (map g (drop i xs)) ≡ b
  with_all ends = ap (λ l. fold f b (map g l)) (drop_all i xs ends)

-- what follows of a value where there is one
pub if_ok : {X E : Type 0} (P Q : X → Type 0) (r : Result X E) → IfOk r P → ((x : X) → P x → Q x) → IfOk r Q
if_ok P Q (Ok x) is follows = follows x is
if_ok P Q (Err e) is follows = tt

pub nothing_more : (b : Bool) → (b || false) ≡ b
nothing_more true = refl
nothing_more false = refl
