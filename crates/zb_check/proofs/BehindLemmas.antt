-- What is found by what stands in front of it, item by item.
use Rattle.std.proofs.Common.{◌≤◌, map, arith, length-take, ◌≡◌, ℕ, ◌+◌, ◌<◌, List, [], ◌∷◌, take, drop, reverse, length, get_or, Some, Bool, true, false, cond, ap, bytes_eq, sym, ◌∙◌}
use Rattle.std.proofs.lemmas.List.{take_more, drop_more, reverse-append, get_or-map, length-map, length-reverse}
use Rattle.zb_process.specs.declared.model.Node.{Node}
use Rattle.zb_faults.specs.Faults.{find_behind, depth_among}

-- at a place, where the test of the item there is known
module _ {A : Type 0} (test : List A → A → Bool) (xs : List A) (i : ℕ) (x : A) (passes : Bool) (within : i < length xs) (is : x ≡ get_or xs i x) (tested : passes ≡ test (reverse (take i xs)) x) where
  -- what stands in front of the next place
  pub one_more : reverse (take (i + 1) xs) ≡ x ∷ reverse (take i xs)
  one_more = ap reverse (take_more xs i x within) ∙ (reverse-append (take i xs) (get_or xs i x ∷ []) ∙ ap (λ y. y ∷ reverse (take i xs)) (sym is))

  step : find_behind test (reverse (take i xs)) (drop i xs) ≡ cond passes (Some x) (find_behind test (reverse (take (i + 1) xs)) (drop (i + 1) xs))
  step =
      ap (find_behind test (reverse (take i xs))) (drop_more xs i x within ∙ ap (λ y. y ∷ drop (i + 1) xs) (sym is))
      ∙ (ap (λ t. cond t (Some x) (find_behind test (x ∷ reverse (take i xs)) (drop (i + 1) xs))) (sym tested)
      ∙ ap (λ b. cond passes (Some x) (find_behind test b (drop (i + 1) xs))) (sym one_more))

  pub found_here : passes ≡ true → find_behind test (reverse (take i xs)) (drop i xs) ≡ Some x
  found_here so = step ∙ ap (λ t. cond t (Some x) (find_behind test (reverse (take (i + 1) xs)) (drop (i + 1) xs))) so

  pub found_later : passes ≡ false → find_behind test (reverse (take i xs)) (drop i xs) ≡ find_behind test (reverse (take (i + 1) xs)) (drop (i + 1) xs)
  found_later so = step ∙ ap (λ t. cond t (Some x) (find_behind test (reverse (take (i + 1) xs)) (drop (i + 1) xs))) so

-- an item of a list, and what is made of it
pub within_mapped : {A B : Type 0} (f : A → B) (xs : List A) (i : ℕ) → i < length xs → i < length (map f xs)
within_mapped f xs i within = let same = length-map xs f in omega arith

pub read_mapped : {A B : Type 0} (f : A → B) (xs : List A) (i : ℕ) (x : A) → i < length xs → x ≡ get_or xs i x → f x ≡ get_or (map f xs) i (f x)
read_mapped f xs i x within is = ap f is ∙ sym (get_or-map f xs i x (f x) within)

-- nothing stands in more than there are
pub depth_bound : (xs : List Node) (id : List ℕ) → depth_among xs id ≤ length xs
depth_bound [] id = omega arith
depth_bound (x ∷ xs) id = by_test (bytes_eq x.id id) (depth_bound xs x.parent) (depth_bound xs id)
  where
    by_test : (t : Bool) → depth_among xs x.parent ≤ length xs → depth_among xs id ≤ length xs → cond t (depth_among xs x.parent + 1) (depth_among xs id) ≤ length (x ∷ xs)
    by_test true above other = omega arith
    by_test false above other = omega arith

pub depth_within : (xs : List Node) (i : ℕ) (id : List ℕ) → depth_among (reverse (take i xs)) id ≤ i
depth_within xs i id =
    let deep = depth_bound (reverse (take i xs)) id in
    let same = length-reverse (take i xs) in
    let cut = length-take i xs in
    omega arith
