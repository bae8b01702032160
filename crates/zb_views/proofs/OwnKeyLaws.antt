-- Things with keys of their own: one more, some of them, changed ones, and the one with a key.
use Rattle.std.proofs.Common.{◌≡◌, ℕ, zero, suc, ◌==◌, List, [], ◌∷◌, ◌++◌, map, filter, Bool, true, false, cond, if◌then◌else◌, Some, None, Contains, refl, ap, ◌∙◌, arith}
use Rattle.std.specs.List.{find}
use Rattle.std.proofs.lemmas.Bool.Decides.{nat_tests}
use Rattle.zb_pairs.proofs.FoundLemmas.{none_here, none_later, none_more, none_kept, none_mapped}
use Rattle.zb_views.specs.OwnKeys.{HaveOwnKeys}

module _ {A : Type 0} (key : A → ℕ) where
  abbrev has : ℕ → A → Bool
  has k x = key x == k

  -- one more has its own key
  pub own_more : (xs : List A) (x : A) → HaveOwnKeys key xs → find (has (key x)) xs ≡ None → HaveOwnKeys key (xs ++ x ∷ [])
  own_more [] x own none = (refl, tt)
  own_more (y ∷ xs) x own none =
      let apart : (key y == key x) ≡ false = none_here (has (key x)) y xs none in
      let other : (key x == key y) ≡ false = grind (arith, nat_tests, apart) in
      (none_more (has (key y)) xs x own.0 other, own_more xs x own.1 (none_later (has (key x)) y xs none))

  -- some of them have theirs
  pub own_kept : (keeps : A → Bool) (xs : List A) → HaveOwnKeys key xs → HaveOwnKeys key (filter keeps xs)
  own_kept keeps [] own = tt
  own_kept keeps (x ∷ xs) own = by_test (keeps x) (own_kept keeps xs own.1)
    where
      by_test : (t : Bool) → HaveOwnKeys key (filter keeps xs) → HaveOwnKeys key (cond t (x ∷ filter keeps xs) (filter keeps xs))
      by_test true later = (none_kept (has (key x)) keeps xs own.0, later)
      by_test false later = later

  -- and so they have where the keys stay
  pub own_mapped : (f : A → A) (xs : List A) → ((x : A) → key (f x) ≡ key x) → HaveOwnKeys key xs → HaveOwnKeys key (map f xs)
  own_mapped f [] keeps own = tt
  own_mapped f (x ∷ xs) keeps own =
      rw (keeps x) (none_mapped (has (key x)) f xs (λ y. ap (λ (k : ℕ). k == key x) (keeps y)) own.0, own_mapped f xs keeps own.1)

  -- the one with its key is itself
  pub own_found : (xs : List A) (x : A) → HaveOwnKeys key xs → Contains xs x → find (has (key x)) xs ≡ Some x
  own_found [] x own (i, within, is) = absurd (omega (arith, within))
  own_found (y ∷ xs) x own (zero, within, is) =
      let same : y ≡ x = is in
      let here : (key y == key x) ≡ true = (let one : key y ≡ key x = ap key same in grind (arith, nat_tests, one)) in
      rw here (ap Some same)
  own_found (y ∷ xs) x own (suc i, within, is) = by_test (key y == key x) refl (own_found xs x own.1 (i, omega (arith, within), is))
    where
      by_test : (t : Bool) → (key y == key x) ≡ t → find (has (key x)) xs ≡ Some x → (if t then Some y else find (has (key x)) xs) ≡ Some x
      by_test false other later = later
      by_test true here later =
          let one : key x ≡ key y = grind (arith, nat_tests, here) in
          let none : find (has (key x)) xs ≡ None = ap (λ (k : ℕ). find (has k) xs) one ∙ own.0 in
          absurd (cc (none, later))
