-- Subscriptions as they are listed: under the names and the correlation keys of their messages.
use Rattle.std.proofs.Common.{◌≡◌, ℕ, ◌==◌, List, [], ◌∷◌, ◌++◌, map, filter, Bool, true, false, ◌&&◌, cond, Option, Some, refl, ap, ◌∙◌}
use Rattle.std.specs.List.{All, find, flat_map}
use Rattle.std.proofs.lemmas.List.Elements.{All-head, All-tail}
use Rattle.std.specs.Option.{option_map, option_map_or, option_and_then}
use Rattle.zb_table.specs.Rows.{Ascend}
use Rattle.zb_table.proofs.Ascending.{finds_own}
use Rattle.zb_lists.specs.Listed.{is_label}
use Rattle.zb_views.specs.declared.subscription.Subscription.{Subscription}
use Rattle.zb_subscriptions.specs.declared.opened.Opened.{Opened}
use Rattle.zb_views.specs.Subscriptions.{wants_messages}
use Rattle.zb_subscriptions.specs.Opened.{label_of_opened, kept_at, key_at, passes_place}
use Rattle.zb_subscriptions.proofs.OpenedLemmas.{place_in, its}

module _ (name correlation_key : List ℕ) (all : List Opened) where
  abbrev pub is_its : Opened → Bool
  is_its o = is_label name correlation_key (label_of_opened o)

  abbrev Own : Opened → Type 0
  Own o = find (λ (x : Opened). x.place == o.place) all ≡ Some o

  keys_among : (os : List Opened) → All Own os → flat_map (key_at all) (map place_in (filter is_its os)) ≡ map (λ s. s.key) (filter (wants_messages name correlation_key) (map its os))
  keys_among [] own = refl
  keys_among (o ∷ os) own = by_test (is_its o) (keys_among os (All-tail Own o os own))
    where
      by_test : (t : Bool) → flat_map (key_at all) (map place_in (filter is_its os)) ≡ map (λ (s : Subscription). s.key) (filter (wants_messages name correlation_key) (map its os))
          → flat_map (key_at all) (map place_in (cond t (o ∷ filter is_its os) (filter is_its os))) ≡ map (λ (s : Subscription). s.key) (cond t (its o ∷ filter (wants_messages name correlation_key) (map its os)) (filter (wants_messages name correlation_key) (map its os)))
      by_test true later =
          let own_key : key_at all o.place ≡ o.subscription.key ∷ [] = ap (λ (x : Option Opened). option_map_or (λ (y : Opened). y.subscription.key ∷ []) x []) (All-head Own o os own) in
          ap (λ (l : List ℕ). l ++ flat_map (key_at all) (map place_in (filter is_its os))) own_key ∙ ap (λ (l : List ℕ). o.subscription.key ∷ l) later
      by_test false later = later

  -- the keys of the subscriptions that are listed under two texts
  pub keys_there : Ascend place_in 0 all → flat_map (key_at all) (map place_in (filter is_its all)) ≡ map (λ s. s.key) (filter (wants_messages name correlation_key) (map its all))
  keys_there up = keys_among all (λ i d within. finds_own place_in 0 all i d within up)

  module _ (passes : Subscription → Bool) where
    abbrev its_first : List Opened → Option Subscription
    its_first os = option_map its (option_and_then (kept_at all) (find (passes_place passes all) (map place_in (filter is_its os))))

    abbrev both : Subscription → Bool
    both s = wants_messages name correlation_key s && passes s

    first_among : (os : List Opened) → All Own os → its_first os ≡ find both (map its os)
    first_among [] own = refl
    first_among (o ∷ os) own = by_tests (is_its o) (passes (its o)) refl (first_among os (All-tail Own o os own))
      where
        here : kept_at all o.place ≡ Some o
        here = All-head Own o os own

        by_tests : (a b : Bool) → passes (its o) ≡ b → its_first os ≡ find both (map its os)
            → option_map its (option_and_then (kept_at all) (find (passes_place passes all) (map place_in (cond a (o ∷ filter is_its os) (filter is_its os))))) ≡ cond (a && b) (Some (its o)) (find both (map its os))
        by_tests true true so later = rw (here, so, here) refl
        by_tests true false so later = rw (here, so) later
        by_tests false b so later = later

    -- the first of them that passes
    pub first_there : Ascend place_in 0 all → its_first all ≡ find both (map its all)
    first_there up = first_among all (λ i d within. finds_own place_in 0 all i d within up)
