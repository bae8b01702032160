-- The first pair that is listed is that of the row that is due first.
use Rattle.std.proofs.Common.{◌≡◌, ℕ, ◌&&◌, ◌||◌, List, [], ◌∷◌, filter, slice_get, Bool, true, false, cond, Option, Some, None, option_map, refl, sym, ap, ◌∙◌}
use Rattle.std.specs.List.{find}
use Rattle.std.specs.List.Sorted.{IsStrictlySortedBy}
use Rattle.std.specs.Option.{option_map_or}
use Rattle.zb_table.specs.Earliest.{place_in_time, first_due}
use Rattle.zb_table.specs.Rows.{Ascend}
use Rattle.zb_pairs.specs.Pairs.{is_number, is_row_under, place_cmp}
use Rattle.zb_lists.specs.Moments.{due_pair, is_among, is_passing, is_waited_for}
use Rattle.zb_pairs.proofs.FoundLemmas.{filter_all}
use Rattle.zb_lists.proofs.OrderLemmas.{order_sorted}
use Rattle.zb_lists.proofs.PassingLemmas.{first_in_order, first_row}
use Rattle.zb_lists.specs.Listed.{row_found}
use Rattle.zb_lists.proofs.MemberLemmas.{pair_itself}

module _ {A : Type 0} (key : A → ℕ) (moment : A → Option ℕ) (now : ℕ) (rows : List A) (up : Ascend key 0 rows) (moments : List (ℕ × ℕ)) (sorted : IsStrictlySortedBy place_cmp moments)
    (listed : (n k : ℕ) → is_among moments n k ≡ option_map_or (λ r. is_number n (moment r)) (row_found key rows k) false) where
  -- where a row waits, it is listed
  waits_listed : (n k : ℕ) → is_waited_for key moment rows n k ≡ true → is_among moments n k ≡ true
  waits_listed n k waits = listed n k ∙ by_row (row_found key rows k) waits
    where
      by_row : (o : Option A) → is_row_under moment n o ≡ true → option_map_or (λ r. is_number n (moment r)) o false ≡ true
      by_row None is = absurd (cc)
      by_row (Some r) is = is

  module _ (q : A → Bool) (asks : ℕ → Bool) (answers : (k : ℕ) (r : A) → row_found key rows k ≡ Some r → asks k ≡ q r) where
    abbrev passing : ℕ → ℕ → Bool
    passing n k = is_passing key moment q rows n k

    -- of what is listed the rows pass whose keys do
    asked : (n k : ℕ) → is_among moments n k ≡ true → asks k ≡ passing n k
    asked n k has = by_row (row_found key rows k) refl (sym (listed n k) ∙ has)
      where
        by_row : (o : Option A) → row_found key rows k ≡ o → option_map_or (λ r. is_number n (moment r)) o false ≡ true → asks k ≡ option_map_or (λ r. is_number n (moment r) && q r) o false
        by_row None at is = absurd (cc)
        by_row (Some r) at is = rw is (answers k r at)

    find_asked : (ps : List (ℕ × ℕ)) → ((n k : ℕ) → is_among ps n k ≡ true → is_among moments n k ≡ true) → find (λ p. asks p.1) ps ≡ find (λ p. passing p.0 p.1) ps
    find_asked [] among = refl
    find_asked (p ∷ ps) among = rw here (by_test (passing p.0 p.1) (find_asked ps (λ n k is. among n k (behind n k is))))
      where
        behind : (n k : ℕ) → is_among ps n k ≡ true → is_among (p ∷ ps) n k ≡ true
        behind n k is = rw is (joined _)
          where
            joined : (b : Bool) → (b || true) ≡ true
            joined true = refl
            joined false = refl

        here : asks p.1 ≡ passing p.0 p.1
        here = asked p.0 p.1 (among p.0 p.1 (rw (pair_itself p) refl))

        by_test : (t : Bool) → find (λ o. asks o.1) ps ≡ find (λ o. passing o.0 o.1) ps → cond t (Some p) (find (λ o. asks o.1) ps) ≡ cond t (Some p) (find (λ o. passing o.0 o.1) ps)
        by_test true later = refl
        by_test false later = later

    -- the first that is listed, of those whose keys pass, is that of the row that is due first of those that do
    pub due_listed : due_pair now (find (λ p. asks p.1) moments) ≡ option_map (place_in_time key moment) (first_due key moment now (filter q rows))
    due_listed =
        ap (due_pair now) (find_asked moments (λ n k is. is))
        ∙ first_row key moment q now rows up (λ n k. is_among moments n k) waits_listed (due_pair now (find (λ p. passing p.0 p.1) moments)) (first_in_order passing now moments (order_sorted moments sorted))

  -- and the first of all that of the first of all
  pub first_listed : due_pair now (slice_get moments 0) ≡ option_map (place_in_time key moment) (first_due key moment now rows)
  first_listed =
      ap (due_pair now) (sym (first_of moments)) ∙ (due_listed (λ r. true) (λ k. true) (λ k r at. refl) ∙ ap (λ (l : List A). option_map (place_in_time key moment) (first_due key moment now l)) (filter_all rows))
    where
      first_of : (ps : List (ℕ × ℕ)) → find (λ p. true) ps ≡ slice_get ps 0
      first_of [] = refl
      first_of (p ∷ ps) = refl
