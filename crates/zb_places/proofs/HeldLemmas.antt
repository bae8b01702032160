-- Rows with their numbers, and without them.
use Rattle.std.proofs.Common.{◌≡◌, ℕ, suc, ◌+◌, ◌≤◌, ◌==◌, List, [], ◌∷◌, ◌++◌, map, filter, length, All, Bool, true, false, ◌||◌, not, cond, if◌then◌else◌, is_some, Option, Some, None, option_map, refl, sym, ap, ◌∙◌, arith}
use Rattle.std.specs.List.{find, list_any}
use Rattle.std.specs.Option.{option_map_or}
use Rattle.std.proofs.lemmas.Bool.Decides.{nat_tests}
use Rattle.std.proofs.lemmas.List.{length-map, map-append}
use Rattle.std.proofs.lemmas.List.Elements.{All-nil, All-cons}
use Rattle.zb_table.specs.Rows.{Ascend, row_at, without}
use Rattle.zb_table.proofs.Changing.{without_none}
use Rattle.zb_groups.specs.declared.held.Held.{Held}
use Rattle.zb_groups.proofs.RowLemmas.{each_found, numbers_stay, numbers_counted}
use Rattle.zb_tokens.specs.declared.board.Token.{Token}
use Rattle.zb_tokens.specs.Edits.{removed, without_first}
use Rattle.zb_tokens.proofs.GameLaws.{found_holds}
use Rattle.zb_places.specs.Places.{held_tokens, count_in_scope, IsFewer}

module _ {A : Type 0} where
  -- the number of a row, and the rows without their numbers
  abbrev pub number_in : Held A → ℕ
  number_in h = h.number

  abbrev pub rows_of : List (Held A) → List A
  rows_of rows = map (λ h. h.row) rows

module _ {A : Type 0} (p : A → Bool) where
  -- a test of rows, put to rows with numbers
  abbrev pub on_row : Held A → Bool
  on_row h = p h.row

  pub any_row : (rows : List (Held A)) → list_any p (rows_of rows) ≡ list_any on_row rows
  any_row [] = refl
  any_row (h ∷ rows) = ap (λ (t : Bool). p h.row || t) (any_row rows)

  filter_by : (t : Bool) (h : Held A) (rows : List (Held A)) → rows_of (filter on_row rows) ≡ filter p (rows_of rows) → rows_of (cond t (h ∷ filter on_row rows) (filter on_row rows)) ≡ cond t (h.row ∷ filter p (rows_of rows)) (filter p (rows_of rows))
  filter_by true h rows later = ap (λ (l : List A). h.row ∷ l) later
  filter_by false h rows later = later

  pub filter_row : (rows : List (Held A)) → rows_of (filter on_row rows) ≡ filter p (rows_of rows)
  filter_row [] = refl
  filter_row (h ∷ rows) = filter_by (p h.row) h rows (filter_row rows)

  find_by : (t : Bool) (h : Held A) (rows : List (Held A)) → find p (rows_of rows) ≡ option_map (λ (x : Held A). x.row) (find on_row rows) → cond t (Some h.row) (find p (rows_of rows)) ≡ option_map (λ (x : Held A). x.row) (cond t (Some h) (find on_row rows))
  find_by true h rows later = refl
  find_by false h rows later = later

  pub find_row : (rows : List (Held A)) → find p (rows_of rows) ≡ option_map (λ (h : Held A). h.row) (find on_row rows)
  find_row [] = refl
  find_row (h ∷ rows) = find_by (p h.row) h rows (find_row rows)

  some_by : (t : Bool) (x : A) (xs : List A) → list_any p xs ≡ is_some (find p xs) → (t || list_any p xs) ≡ is_some (cond t (Some x) (find p xs))
  some_by true x xs later = refl
  some_by false x xs later = later

  -- one passes where one is found
  pub any_some : (xs : List A) → list_any p xs ≡ is_some (find p xs)
  any_some [] = refl
  any_some (x ∷ xs) = some_by (p x) x xs (any_some xs)

  some_mapped : (found : Option (Held A)) → is_some (option_map (λ (h : Held A). h.row) found) ≡ is_some (option_map number_in found)
  some_mapped None = refl
  some_mapped (Some h) = refl

  -- where the number of one is found
  pub any_number : (rows : List (Held A)) → list_any p (rows_of rows) ≡ is_some (option_map number_in (find on_row rows))
  any_number rows = any_some (rows_of rows) ∙ (ap is_some (find_row rows) ∙ some_mapped (find on_row rows))

  none_by : (t : Bool) (x : A) (xs : List A) → (list_any p xs ≡ false → removed p xs ≡ None) → (t || list_any p xs) ≡ false → (if t then Some xs else option_map (λ ys. x ∷ ys) (removed p xs)) ≡ None
  none_by true x xs later is = absurd (cc)
  none_by false x xs later is = ap (option_map (λ (ys : List A). x ∷ ys)) (later is)

  none_removed : (xs : List A) → list_any p xs ≡ false → removed p xs ≡ None
  none_removed [] is = refl
  none_removed (x ∷ xs) is = none_by (p x) x xs (none_removed xs) is

  -- where none passes none goes
  pub none_gone : (xs : List A) → list_any p xs ≡ false → xs ≡ without_first p xs
  none_gone xs is = let none = none_removed xs is in rw none refl

  in_front : (x : A) (xs : List A) (o : Option (List A)) → option_map_or (λ ys. ys) (option_map (λ ys. x ∷ ys) o) (x ∷ xs) ≡ x ∷ option_map_or (λ ys. ys) o xs
  in_front x xs None = refl
  in_front x xs (Some ys) = refl

  above_by : (t : Bool) (low : ℕ) (x : Held A) (rows : List (Held A)) (h : Held A) → low ≤ x.number → (find on_row rows ≡ Some h → x.number + 1 ≤ h.number) → cond t (Some x) (find on_row rows) ≡ Some h → low ≤ h.number
  above_by true low x rows h le later is = let same : x.number ≡ h.number = cc in omega (arith, le, same)
  above_by false low x rows h le later is = let above = later is in omega (arith, le, above)

  found_above : (low : ℕ) (rows : List (Held A)) (h : Held A) → Ascend number_in low rows → find on_row rows ≡ Some h → low ≤ h.number
  found_above low [] h up is = absurd (cc)
  found_above low (x ∷ rows) h up is = above_by (p x.row) low x rows h up.0 (found_above (x.number + 1) rows h up.1) is

  gone_by : (t : Bool) (x : Held A) (rows : List (Held A)) (h : Held A) → p x.row ≡ t → Ascend number_in (x.number + 1) rows → (find on_row rows ≡ Some h → rows_of (without number_in h.number rows) ≡ without_first p (rows_of rows)) → cond t (Some x) (find on_row rows) ≡ Some h
      → rows_of (without number_in h.number (x ∷ rows)) ≡ without_first p (x.row ∷ rows_of rows)
  gone_by true x rows h it up later is =
      let one : x.number ≡ h.number = cc in
      let same : (x.number == h.number) ≡ true = grind (arith, nat_tests, one) in
      let gone : without number_in h.number rows ≡ rows = without_none number_in h.number (x.number + 1) rows up (omega (arith, one)) in
      rw (same, it, gone) refl
  gone_by false x rows h out up later is =
      let above : x.number + 1 ≤ h.number = found_above (x.number + 1) rows h up is in
      let other : (x.number == h.number) ≡ false = grind (arith, nat_tests, above) in
      rw (other, out) (ap (λ (l : List A). x.row ∷ l) (later is) ∙ sym (in_front x.row (rows_of rows) (removed p (rows_of rows))))

  -- without the number of the first that passes, the first that passes is gone
  pub first_gone : (low : ℕ) (rows : List (Held A)) (h : Held A) → Ascend number_in low rows → find on_row rows ≡ Some h → rows_of (without number_in h.number rows) ≡ without_first p (rows_of rows)
  first_gone low [] h up is = absurd (cc)
  first_gone low (x ∷ rows) h up is = gone_by (p x.row) x rows h refl up.1 (first_gone (x.number + 1) rows h up.1) is

-- a row that is found is the one with its number, and passes
pub own_number : {A : Type 0} (q : Held A → Bool) (rows : List (Held A)) (h : Held A) → Ascend number_in 0 rows → find q rows ≡ Some h → (row_at number_in h.number rows ≡ Some h) × (q h ≡ true)
own_number q rows h up is = found_holds q (λ (x : Held _). row_at number_in x.number rows ≡ Some x) rows h (each_found number_in 0 rows up) is

abbrev pub scope_of : Token → ℕ
scope_of t = t.scope

-- a token more
pub tokens_more : (rows : List (Held Token)) (h : Held Token) → held_tokens (rows ++ h ∷ []) ≡ held_tokens rows ++ h.row ∷ []
tokens_more rows h = map-append (λ (x : Held Token). x.row) rows (h ∷ [])

-- how many tokens are in a scope, by their numbers
pub counted : (scope : ℕ) (rows : List (Held Token)) → count_in_scope scope (held_tokens rows) ≡ length (filter (λ h. h.row.scope == scope) rows)
counted scope rows = ap (λ (l : List Token). length l) (sym (filter_row (λ (t : Token). t.scope == scope) rows)) ∙ length-map (filter (λ h. h.row.scope == scope) rows) (λ (h : Held Token). h.row)

-- a token without which as many are in the other scopes
pub one_fewer : (scope : ℕ) (rows : List (Held Token)) (h : Held Token) → Ascend number_in 0 rows → row_at number_in h.number rows ≡ Some h → (h.row.scope == scope) ≡ true → IsFewer scope rows (without number_in h.number rows)
one_fewer scope rows h up found its = record {
  stays = λ x. not (x.number == h.number);
  among = refl;
  elsewhere = λ other apart.
      let out : (h.row.scope == other) ≡ false = grind (arith, nat_tests) in
      counted other (without number_in h.number rows)
      ∙ (sym (numbers_counted scope_of other (without number_in h.number rows))
      ∙ (ap (λ (l : List ℕ). length l) (numbers_stay scope_of h.number other 0 h rows up out found)
      ∙ (numbers_counted scope_of other rows ∙ sym (counted other rows))));
}

-- none is gone
pub none_fewer : (scope : ℕ) (rows : List (Held Token)) → IsFewer scope rows rows
none_fewer scope rows = record { stays = λ x. true; among = all_stay rows; elsewhere = λ other apart. refl }
  where
    all_stay : (xs : List (Held Token)) → xs ≡ filter (λ x. true) xs
    all_stay [] = refl
    all_stay (x ∷ xs) = ap (λ (l : List (Held Token)). x ∷ l) (all_stay xs)

module _ (scope other : ℕ) (apart : (scope == other) ≡ false) where
  out_by : (t u : Bool) (x : Token) (xs : List Token) → (x.scope == scope) ≡ t → (x.scope == other) ≡ u → count_in_scope other (filter (λ t. not (t.scope == scope)) xs) ≡ count_in_scope other xs
      → count_in_scope other (cond (not t) (x ∷ filter (λ t. not (t.scope == scope)) xs) (filter (λ t. not (t.scope == scope)) xs)) ≡ length (cond u (x ∷ filter (λ t. t.scope == other) xs) (filter (λ t. t.scope == other) xs))
  out_by true true x xs its others later = absurd (let same : (scope == other) ≡ true = grind (arith, nat_tests) in cc)
  out_by true false x xs its others later = later
  out_by false true x xs its others later = rw others (ap (λ (n : ℕ). suc n) later)
  out_by false false x xs its others later = rw others later

  -- without the tokens of a scope as many are in another one
  pub scope_out : (xs : List Token) → count_in_scope other (filter (λ t. not (t.scope == scope)) xs) ≡ count_in_scope other xs
  scope_out [] = refl
  scope_out (x ∷ xs) = out_by (x.scope == scope) (x.scope == other) x xs refl refl (scope_out xs)

-- where none passes, each fails
none_here : (t : Bool) (later : Bool) → (t || later) ≡ false → (t ≡ false) × (later ≡ false)
none_here true later is = absurd (cc)
none_here false later is = (refl, is)

pub none_passing : {A : Type 0} (p : A → Bool) (xs : List A) → list_any p xs ≡ false → All (λ x. p x ≡ false) xs
none_passing p [] is = All-nil (λ x. p x ≡ false)
none_passing p (x ∷ xs) is =
    let r = none_here (p x) (list_any p xs) is in
    All-cons (λ y. p y ≡ false) x xs r.0 (none_passing p xs r.1)
