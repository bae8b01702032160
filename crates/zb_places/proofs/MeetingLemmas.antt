-- Tokens that are met by one that has come where flows join.
use Rattle.std.proofs.Common.{◌≡◌, ℕ, List, [], ◌∷◌, map, filter, All, Bool, true, false, ◌||◌, cond, if◌then◌else◌, Option, Some, None, refl, sym, ap, subst, ◌∙◌}
use Rattle.std.specs.List.{find, list_any}
use Rattle.std.specs.Option.{option_map_or}
use Rattle.std.specs.Str.{bytes_eq}
use Rattle.std.proofs.lemmas.List.Elements.{All-head, All-tail, All-weaker}
use Rattle.std.proofs.lemmas.Slice.Eq.{bytes_eq-Decides}
use Rattle.zb_process.specs.declared.model.Flow.{Flow}
use Rattle.zb_process.specs.declared.model.Model.{Model}
use Rattle.zb_groups.specs.declared.held.Held.{Held}
use Rattle.zb_tokens.specs.declared.board.Token.{Token}
use Rattle.zb_tokens.specs.declared.board.Spot.{Spot}
use Rattle.zb_tokens.specs.declared.board.Spot.TheVariants as spots
use Rattle.zb_tokens.specs.Board.{flows_in, is_spot, spot_of}
use Rattle.zb_tokens.specs.Forced.{entry_at, way_by}
use Rattle.zb_tokens.specs.MoveEnter.{has_come, joins, spots_of}
use Rattle.zb_places.specs.Places.{comes_in, counts_for, first_there, held_tokens, is_kept, IsFirst, IsMetAt}
use Rattle.zb_places.proofs.FlowLemmas.{flows_to, spot_among, spot_apart}
use Rattle.zb_places.proofs.SpotLemmas.{only_spot, spot_itself}

-- what is said of those of some flows that pass one test is said of the first that passes another one, where it passes the first
found_among : (p q : Flow → Bool) (P : Flow → Type 0) (flows : List Flow) (f : Flow) → find p flows ≡ Some f → q f ≡ true → All P (filter q flows) → (p f ≡ true) × P f
found_among p q P [] f is it all = absurd (cc)
found_among p q P (x ∷ flows) f is it all = by_tests (λ later. found_among p q P flows f later it) (p x) (q x) refl refl is all
  where
    by_tests : (find p flows ≡ Some f → All P (filter q flows) → (p f ≡ true) × P f) → (t u : Bool) → p x ≡ t → q x ≡ u → cond t (Some x) (find p flows) ≡ Some f → All P (cond u (x ∷ filter q flows) (filter q flows)) → (p f ≡ true) × P f
    by_tests later true true one its is all =
        let same : x ≡ f = cc in
        (sym (ap p same) ∙ one, subst P same (All-head P x (filter q flows) all))
    by_tests later true false one its is all = absurd (let same : x ≡ f = cc in let both : true ≡ false = sym it ∙ (sym (ap q same) ∙ its) in cc)
    by_tests later false true other its is all = later is (All-tail P x (filter q flows) all)
    by_tests later false false other its is all = later is all

-- what is said of the flows with an id is said of one of them into a node, if there is one
into_node : (id node : List ℕ) (P : Flow → Type 0) (flows : List Flow) → list_any (bytes_eq id) (map (λ f. f.id) (filter (λ f. bytes_eq f.to node) flows)) ≡ true → All P (filter (λ f. bytes_eq f.id id) flows) → (f : Flow) × P f × (f.to ≡ node)
into_node id node P [] is all = absurd (cc)
into_node id node P (x ∷ flows) is all = by_tests (λ later. into_node id node P flows later) (bytes_eq x.to node) (bytes_eq id x.id) refl refl is
  where
    turned : (u : Bool) → bytes_eq id x.id ≡ u → bytes_eq x.id id ≡ u
    turned true same = let one : id ≡ x.id = (bytes_eq-Decides id x.id).0 same in (bytes_eq-Decides x.id id).1 (sym one)
    turned false apart = by_other (bytes_eq x.id id) refl
      where
        by_other : (t : Bool) → bytes_eq x.id id ≡ t → bytes_eq x.id id ≡ false
        by_other true same = absurd (let one : x.id ≡ id = (bytes_eq-Decides x.id id).0 same in let both = (bytes_eq-Decides id x.id).1 (sym one) in cc)
        by_other false apart = apart

    rest : All P (cond (bytes_eq x.id id) (x ∷ filter (λ f. bytes_eq f.id id) flows) (filter (λ f. bytes_eq f.id id) flows)) → All P (filter (λ f. bytes_eq f.id id) flows)
    rest = by_own (bytes_eq x.id id)
      where
        by_own : (t : Bool) → All P (cond t (x ∷ filter (λ f. bytes_eq f.id id) flows) (filter (λ f. bytes_eq f.id id) flows)) → All P (filter (λ f. bytes_eq f.id id) flows)
        by_own true own = All-tail P x (filter (λ f. bytes_eq f.id id) flows) own
        by_own false own = own

    first : bytes_eq id x.id ≡ true → P x
    first same = All-head P x (filter (λ f. bytes_eq f.id id) flows) (rw (turned true same) at all)

    by_tests : (list_any (bytes_eq id) (map (λ f. f.id) (filter (λ f. bytes_eq f.to node) flows)) ≡ true → All P (filter (λ f. bytes_eq f.id id) flows) → (f : Flow) × P f × (f.to ≡ node))
        → (t u : Bool) → bytes_eq x.to node ≡ t → bytes_eq id x.id ≡ u → list_any (bytes_eq id) (map (λ (f : Flow). f.id) (cond t (x ∷ filter (λ f. bytes_eq f.to node) flows) (filter (λ f. bytes_eq f.to node) flows))) ≡ true → (f : Flow) × P f × (f.to ≡ node)
    by_tests later true true leads same is = (x, first same, (bytes_eq-Decides x.to node).0 leads)
    by_tests later true false leads apart is = later (rw apart at is) (rest all)
    by_tests later false u away same is = later is (rest all)

-- the parts of ways that are one
one_way : (a b : List ℕ × List ℕ) → Some a ≡ Some b → a ≡ b
one_way a b is = cc

node_of : (a b : List ℕ × List ℕ) → Some a ≡ Some b → a.0 ≡ b.0
node_of a b is = ap (λ (w : List ℕ × List ℕ). w.0) (one_way a b is)

via_of : (a b : List ℕ × List ℕ) → Some a ≡ Some b → a.1 ≡ b.1
via_of a b is = ap (λ (w : List ℕ × List ℕ). w.1) (one_way a b is)

module _ (m : Model) (rows : List (Held Token)) (scope : ℕ) where
  -- the first token on a flow is among those with some numbers
  abbrev pub IsKeptOn : List ℕ → Flow → Type 0
  IsKeptOn met f = (h : Held Token) → first_there scope (spots.OnFlow f.id) rows ≡ Some h → is_kept met h.number ≡ true

  -- and so it is where there are more
  pub on_more : (met more : List ℕ) (flows : List Flow) → ((n : ℕ) → is_kept met n ≡ true → is_kept more n ≡ true) → All (IsKeptOn met) flows → All (IsKeptOn more) flows
  on_more met more flows still all = All-weaker (IsKeptOn met) (IsKeptOn more) (λ f on h is. still h.number (on h is)) flows all

  -- as are those that are met at the ends of flows
  pub met_more : (met more : List ℕ) (flows : List Flow) → ((n : ℕ) → is_kept met n ≡ true → is_kept more n ≡ true) → All (λ f. IsMetAt m rows scope f.to met) flows → All (λ f. IsMetAt m rows scope f.to more) flows
  met_more met more flows still all = All-weaker (λ f. IsMetAt m rows scope f.to met) (λ f. IsMetAt m rows scope f.to more) (λ f is h first its way joined comes. still h.number (is h first its way joined comes)) flows all

  module _ (h : Held Token) (first : IsFirst rows h) (its : h.row.scope ≡ scope) where
    -- a first token is the first at its spot
    there : (spot : Spot) → h.row.spot ≡ spot → first_there scope spot rows ≡ Some h
    there spot is = ap (λ (s : ℕ). first_there s spot rows) (sym its) ∙ (ap (λ (s : Spot). first_there h.row.scope s rows) (sym is) ∙ first)

    module _ (node : List ℕ) (met : List ℕ) (on : All (IsKeptOn met) (flows_to m node)) (before : (x : Held Token) → first_there scope (spots.BeforeNode node) rows ≡ Some x → is_kept met x.number ≡ true) where
      by_flow : (id : List ℕ) (found : Option Flow) → h.row.spot ≡ spots.OnFlow id → find (λ x. bytes_eq x.id id) m.flows ≡ found → entry_at m (spots.OnFlow id) ≡ Some (node, []) → is_kept met h.number ≡ true
      by_flow id None is at way = absurd (let none = rw at at way in cc)
      by_flow id (Some f) is at way =
          let to : f.to ≡ node = node_of (f.to, way_by m f.to id) (node, []) (rw at at way) in
          let r = found_among (λ x. bytes_eq x.id id) (λ x. bytes_eq x.to node) (IsKeptOn met) m.flows f at ((bytes_eq-Decides f.to node).1 to) on in
          let same : f.id ≡ id = (bytes_eq-Decides f.id id).0 r.0 in
          r.1 h (there (spots.OnFlow f.id) (is ∙ ap (λ (i : List ℕ). spots.OnFlow i) (sym same)))

      by_spot : (spot : Spot) → h.row.spot ≡ spot → entry_at m spot ≡ Some (node, []) → is_kept met h.number ≡ true
      by_spot (spots.BeforeNode n) is way =
          let same : n ≡ node = node_of (n, []) (node, []) way in
          before h (there (spots.BeforeNode node) (is ∙ ap (λ (i : List ℕ). spots.BeforeNode i) same))
      by_spot (spots.OnFlow id) is way = by_flow id (find (λ x. bytes_eq x.id id) m.flows) is refl way

      pub met_here : entry_at m h.row.spot ≡ Some (node, []) → is_kept met h.number ≡ true
      met_here way = by_spot h.row.spot refl way

-- a token that can enter a node at which flows join has a token there on each
module _ (m : Model) (rows : List (Held Token)) (h : Held Token) (node : List ℕ) (way : entry_at m h.row.spot ≡ Some (node, [])) where
  pub comes_there : comes_in m (held_tokens rows) h.row ≡ has_come m (held_tokens rows) h.row.scope node []
  comes_there = rw way refl

-- the flow on which a spot is, if it is on one
abbrev flow_of : Spot → List ℕ
flow_of (spots.OnFlow flow) = flow
flow_of (spots.BeforeNode node) = []

-- what meets a token is met by it
module _ (m : Model) (rows : List (Held Token)) (t : Token) (met : List ℕ) (h : Held Token) (first : IsFirst rows h) (its : h.row.scope ≡ t.scope) (apart : is_spot h.row.spot t.spot ≡ false)
    (comes : comes_in m (held_tokens rows) h.row ≡ true) where
  -- it isn't at its spot
  elsewhere : {G : Type 0} → h.row.spot ≡ t.spot → G
  elsewhere same = absurd (let both : is_spot h.row.spot h.row.spot ≡ false = ap (is_spot h.row.spot) same ∙ apart in let one = spot_itself h.row.spot in cc)

  -- where flows join it comes by none
  joined_way : (spot : Spot) (w : List ℕ × List ℕ) → entry_at m spot ≡ Some w → joins m w.0 ≡ true → entry_at m spot ≡ Some (w.0, [])
  joined_way (spots.BeforeNode n) w way joined = let node : n ≡ w.0 = node_of (n, []) w way in ap (λ (k : List ℕ). Some (k, [])) node
  joined_way (spots.OnFlow id) w way joined = by_flow (find (λ x. bytes_eq x.id id) m.flows) refl way
    where
      by_flow : (found : Option Flow) → find (λ x. bytes_eq x.id id) m.flows ≡ found → entry_at m (spots.OnFlow id) ≡ Some w → entry_at m (spots.OnFlow id) ≡ Some (w.0, [])
      by_flow None at way = absurd (let none = rw at at way in cc)
      by_flow (Some f) at way =
          let to : f.to ≡ w.0 = node_of (f.to, way_by m f.to id) w (rw at at way) in
          let joins_there : joins m f.to ≡ true = ap (joins m) to ∙ joined in
          rw (at, joins_there) (ap (λ (k : List ℕ). Some (k, [])) to)

  -- elsewhere it comes by its flow
  own_way : (spot : Spot) (w : List ℕ × List ℕ) → entry_at m spot ≡ Some w → joins m w.0 ≡ false → w.1 ≡ flow_of spot
  own_way (spots.BeforeNode n) w way apart = sym (via_of (n, []) w way)
  own_way (spots.OnFlow id) w way apart = by_flow (find (λ x. bytes_eq x.id id) m.flows) refl way
    where
      by_flow : (found : Option Flow) → find (λ x. bytes_eq x.id id) m.flows ≡ found → entry_at m (spots.OnFlow id) ≡ Some w → w.1 ≡ id
      by_flow None at way = absurd (let none = rw at at way in cc)
      by_flow (Some f) at way =
          let one : Some (f.to, way_by m f.to id) ≡ Some w = rw at at way in
          let not_there : joins m f.to ≡ false = ap (joins m) (node_of (f.to, way_by m f.to id) w one) ∙ apart in
          sym (via_of (f.to, way_by m f.to id) w one) ∙ rw not_there refl

  -- the node to which it comes, and by which flow
  module _ (w : List ℕ × List ℕ) (way : entry_at m h.row.spot ≡ Some w) where
    -- by one on a flow into the gateway, or into it
    on_flow : (id : List ℕ) → t.spot ≡ spots.OnFlow id → All (λ f. IsMetAt m rows t.scope f.to met) (filter (λ f. bytes_eq f.id id) m.flows) → (u : Bool) → joins m w.0 ≡ u
        → list_any (is_spot (spots.OnFlow id)) (if u then map spots.OnFlow (flows_in m w.0) else spot_of w.1 w.0 ∷ []) ≡ true → is_kept met h.number ≡ true
    on_flow id on all true joined is =
        let r = into_node id w.0 (λ f. IsMetAt m rows t.scope f.to met) m.flows (sym (spot_among id (flows_in m w.0)) ∙ is) all in
        let at : IsMetAt m rows t.scope w.0 met = subst (λ (n : List ℕ). IsMetAt m rows t.scope n met) r.2 r.1 in
        at h first its (joined_way h.row.spot w way joined) joined comes
    on_flow id on all false alone is = by_spot h.row.spot refl (own_way h.row.spot w way alone) (only_spot (spots.OnFlow id) (spot_of w.1 w.0) is)
      where
        by_spot : (spot : Spot) → h.row.spot ≡ spot → w.1 ≡ flow_of spot → spots.OnFlow id ≡ spot_of w.1 w.0 → is_kept met h.number ≡ true
        by_spot (spots.BeforeNode n) at via own = absurd (let before : spots.OnFlow id ≡ spots.BeforeNode w.0 = own ∙ ap (λ (v : List ℕ). spot_of v w.0) via in cc)
        by_spot (spots.OnFlow []) at via own = absurd (let before : spots.OnFlow id ≡ spots.BeforeNode w.0 = own ∙ ap (λ (v : List ℕ). spot_of v w.0) via in cc)
        by_spot (spots.OnFlow (byte ∷ flow)) at via own = elsewhere (at ∙ (sym (own ∙ ap (λ (v : List ℕ). spot_of v w.0) via) ∙ sym on))

    -- by one before the node
    before_node : (n : List ℕ) → t.spot ≡ spots.BeforeNode n → ((x : Held Token) → first_there t.scope (spots.OnFlow []) rows ≡ Some x → is_kept met x.number ≡ true) → (u : Bool) → joins m w.0 ≡ u
        → list_any (is_spot (spots.BeforeNode n)) (if u then map spots.OnFlow (flows_in m w.0) else spot_of w.1 w.0 ∷ []) ≡ true → is_kept met h.number ≡ true
    before_node n on none true joined is = absurd (let apart = spot_apart n (flows_in m w.0) in cc)
    before_node n on none false alone is = by_spot h.row.spot refl (own_way h.row.spot w way alone) (only_spot (spots.BeforeNode n) (spot_of w.1 w.0) is)
      where
        by_spot : (spot : Spot) → h.row.spot ≡ spot → w.1 ≡ flow_of spot → spots.BeforeNode n ≡ spot_of w.1 w.0 → is_kept met h.number ≡ true
        by_spot (spots.BeforeNode k) at via own =
            let same : spots.BeforeNode k ≡ spots.BeforeNode w.0 = before_own k at in
            elsewhere (at ∙ (same ∙ (sym (own ∙ ap (λ (v : List ℕ). spot_of v w.0) via) ∙ sym on)))
          where
            before_own : (k : List ℕ) → h.row.spot ≡ spots.BeforeNode k → spots.BeforeNode k ≡ spots.BeforeNode w.0
            before_own k at = ap (λ (i : List ℕ). spots.BeforeNode i) (node_of (k, []) w (sym (ap (entry_at m) at) ∙ way))
        by_spot (spots.OnFlow []) at via own = none h (there m rows t.scope h first its (spots.OnFlow []) at)
        by_spot (spots.OnFlow (byte ∷ flow)) at via own = absurd (let on_it : spots.BeforeNode n ≡ spots.OnFlow (byte ∷ flow) = own ∙ ap (λ (v : List ℕ). spot_of v w.0) via in cc)

  -- one on a flow meets those at the ends of the flows with its id
  pub met_on : (id : List ℕ) → t.spot ≡ spots.OnFlow id → All (λ f. IsMetAt m rows t.scope f.to met) (filter (λ f. bytes_eq f.id id) m.flows) → counts_for m t.spot h.row ≡ true → is_kept met h.number ≡ true
  met_on id on all counts = by_way (entry_at m h.row.spot) refl (sym (ap (λ (s : Spot). counts_for m s h.row) on) ∙ counts)
    where
      by_way : (way : Option (List ℕ × List ℕ)) → entry_at m h.row.spot ≡ way → option_map_or (λ w. list_any (is_spot (spots.OnFlow id)) (spots_of m w.0 w.1)) way false ≡ true → is_kept met h.number ≡ true
      by_way None way is = absurd (cc)
      by_way (Some w) way is = on_flow w way id on all (joins m w.0) refl is

  -- one before a node meets those on a flow without an id
  pub met_before : (n : List ℕ) → t.spot ≡ spots.BeforeNode n → ((x : Held Token) → first_there t.scope (spots.OnFlow []) rows ≡ Some x → is_kept met x.number ≡ true) → counts_for m t.spot h.row ≡ true → is_kept met h.number ≡ true
  met_before n on none counts = by_way (entry_at m h.row.spot) refl (sym (ap (λ (s : Spot). counts_for m s h.row) on) ∙ counts)
    where
      by_way : (way : Option (List ℕ × List ℕ)) → entry_at m h.row.spot ≡ way → option_map_or (λ w. list_any (is_spot (spots.BeforeNode n)) (spots_of m w.0 w.1)) way false ≡ true → is_kept met h.number ≡ true
      by_way None way is = absurd (cc)
      by_way (Some w) way is = before_node w way n on none (joins m w.0) refl is
