-- Laws of cells that leave, in the subject's own words.
use Rattle.std.proofs.Common.{◌≡◌, ℕ, List, [], ◌∷◌, map, filter, All, option_and_then, Bool, true, false, not, ◌&&◌, ◌||◌, if◌then◌else◌, is_some, IsTrue, Option, Some, None, Result, Ok, Err, refl, sym, ap, ◌∙◌, subst}
use Rattle.std.specs.Option.{option_map_or}
use Rattle.std.specs.Str.{bytes_eq}
use Rattle.std.proofs.lemmas.Bool.{not-true}
use Rattle.std.proofs.lemmas.List.Elements.{All-nil, All-cons, All-contains, filter_passes}
use Rattle.std.proofs.lemmas.Option.{cond_some}
use Rattle.std.proofs.lemmas.Slice.Eq.{bytes_eq-Decides}
use Rattle.zb_base.specs.Results.{◌>>=◌}
use Rattle.zb_process.specs.declared.model.Model.{Model}
use Rattle.zb_process.specs.declared.model.Node.{Node}
use Rattle.zb_process.specs.declared.model.Flow.{Flow}
use Rattle.zb_process.specs.declared.model.NodeKind.{NodeKind}
use Rattle.zb_process.specs.declared.model.NodeKind.TheVariants as kinds
use Rattle.zb_faults.specs.Elements.{is_exclusive_gateway, is_event_gateway}
use Rattle.zb_tokens.specs.declared.board.Cell.{Cell}
use Rattle.zb_tokens.specs.Board.{Board, model_under, node_with, is_at, owes_none}
use Rattle.zb_tokens.specs.Names.{value_seen}
use Rattle.zb_tokens.specs.Incidents.{Hindrance}
use Rattle.zb_tokens.specs.Choice.{Gateway, gateway_in, gateway_of, choice_at}
use Rattle.zb_tokens.specs.Chosen.{IsAtGateway, IsChosen, IsUndecided}
use Rattle.zb_tokens.specs.MoveLeave.{may_take, flows_of, are_among, ids_eq, is_single, may_owe, exit_of}
use Rattle.zb_tokens.proofs.EffectLaws.{chained_from}
use Rattle.zb_tokens.proofs.ChoiceLaws.{is_choice, chosen_out, is_undecided}

-- a text is the same as itself
pub same_bytes : (xs : List ℕ) → bytes_eq xs xs ≡ true
same_bytes xs = (bytes_eq-Decides xs xs).1 refl

-- a list of ids is the same as itself
pub ids_same : (ids : List (List ℕ)) → ids_eq ids ids ≡ true
ids_same [] = refl
ids_same (id ∷ ids) = rw (same_bytes id, ids_same ids) refl

-- ids are among themselves, in order
pub among_themselves : (ids : List (List ℕ)) → are_among ids ids ≡ true
among_themselves [] = refl
among_themselves (id ∷ ids) = rw (same_bytes id, among_themselves ids) refl

-- the id of each of some flows is among their ids
either_way : (t rest : Bool) → rest ≡ true → (if t then true else rest) ≡ true
either_way true rest is = refl
either_way false rest is = is

each_among : (fs : List Flow) → All (λ (f : Flow). are_among (f.id ∷ []) (map (λ (x : Flow). x.id) fs) ≡ true) fs
each_among [] = All-nil (λ (f : Flow). are_among (f.id ∷ []) [] ≡ true)
each_among (x ∷ fs) = All-cons (λ (f : Flow). are_among (f.id ∷ []) (x.id ∷ map (λ (y : Flow). y.id) fs) ≡ true) x fs (rw (same_bytes x.id) refl)
    (λ k d within. either_way (bytes_eq _ x.id) (are_among (_ ∷ []) (map (λ (y : Flow). y.id) fs)) (each_among fs k d within))

-- what is known of a result that goes on from another
went_on : {A B E : Type 0} (f : A → B) (r : Result A E) (y : B) → (r >>= (λ x. Ok (f x))) ≡ Ok y → (x : A) × (r ≡ Ok x) × (f x ≡ y)
went_on f (Ok x) y is = (x, refl, cc)
went_on f (Err e) y is = absurd (cc)

stopped : {A B E : Type 0} (f : A → B) (r : Result A E) (e : E) → (r >>= (λ x. Ok (f x))) ≡ Err e → r ≡ Err e
stopped f (Ok x) e is = absurd (cc)
stopped f (Err d) e is = cc

unless_some : {A : Type 0} (t : Bool) (o : Option A) (x : A) → (if t then None else o) ≡ Some x → (t ≡ false) × (o ≡ Some x)
unless_some true o x is = absurd (cc)
unless_some false o x is = (refl, is)

-- the gateway of a cell is an exclusive one of its model
at_gateway : (b : Board) (c : Cell) (g : Gateway) → gateway_of b c ≡ Some g → IsAtGateway b c g
at_gateway b c g is =
    let r = unless_some (owes_none c) (option_and_then (λ m. gateway_in m c.node) (model_under b c.definition)) g is in
    let s = chained_from (λ (m : Model). gateway_in m c.node) (model_under b c.definition) g r.1 in
    let u = chained_from (λ (n : Node). if is_exclusive_gateway n.kind then Some (record { node = n; outs = filter (λ f. bytes_eq f.from c.node) s.0.flows }) else None) (node_with s.0 c.node) g s.2 in
    let made : Gateway = record { node = u.0; outs = filter (λ f. bytes_eq f.from c.node) s.0.flows } in
    let w = cond_some (is_exclusive_gateway u.0.kind) made g u.2 in
    record {
      model = s.0;
      leaves = r.0;
      stands = s.1;
      there = subst (λ (x : Gateway). node_with s.0 c.node ≡ Some x.node) w.1 u.1;
      exclusive = subst (λ (x : Gateway). IsTrue (is_exclusive_gateway x.node.kind)) w.1 w.0;
      outs = ap (λ (x : Gateway). x.outs) (sym w.1);
    }

-- and a cell that is at one has it
has_gateway : (b : Board) (c : Cell) (g : Gateway) → IsAtGateway b c g → gateway_of b c ≡ Some g
has_gateway b c g at =
    let leaves = at.leaves in
    let stands = at.stands in
    let there = at.there in
    let exclusive = at.exclusive in
    let with_outs : List Flow → Option Gateway = λ fs. Some (record { node = g.node; outs = fs }) in
    rw (leaves, stands, there, exclusive) (ap with_outs (sym at.outs))

-- a cell that is at no exclusive gateway has none
no_gateway_in : (m : Model) (id : List ℕ) (found : Option Node) → node_with m id ≡ found → is_at m id is_exclusive_gateway ≡ false → gateway_in m id ≡ None
no_gateway_in m id None at other = rw at refl
no_gateway_in m id (Some n) at other = let out : is_exclusive_gateway n.kind ≡ false = rw at at other in rw (at, out) refl

no_gateway : (b : Board) (c : Cell) (m : Model) (root : Bool) → owes_none c ≡ root → model_under b c.definition ≡ Some m → (root || not (is_at m c.node is_exclusive_gateway)) ≡ true → gateway_of b c ≡ None
no_gateway b c m true is stands other = rw is refl
no_gateway b c m false is stands other = rw (is, stands) (no_gateway_in m c.node (node_with m c.node) refl (not-true (is_at m c.node is_exclusive_gateway) other))

-- each flow out of the gateway of a cell leaves its node
outs_leave : (b : Board) (c : Cell) (g : Gateway) → IsAtGateway b c g → All (λ (f : Flow). f.from ≡ c.node) g.outs
outs_leave b c g at =
    let all = filter_passes (λ (f : Flow). bytes_eq f.from c.node) at.model.flows in
    subst (λ (fs : List Flow). All (λ (f : Flow). f.from ≡ c.node) fs) (sym at.outs) (λ k d within. (bytes_eq-Decides _ c.node).0 (all k d within))

-- an exclusive gateway is no event gateway
kinds_apart : (kind : NodeKind) → is_exclusive_gateway kind ≡ true → is_event_gateway kind ≡ false
kinds_apart kinds.ExclusiveGateway is = refl
kinds_apart kind is = absurd (cc)

-- nothing goes where each is kept
each_kept : {A : Type 0} (keep : A → Bool) → ((x : A) → keep x ≡ true) → (xs : List A) → filter keep xs ≡ xs
each_kept keep each [] = refl
each_kept keep each (x ∷ xs) = let it = each x in rw it (ap (λ ys. x ∷ ys) (each_kept keep each xs))

-- so all flows out of the gateway of a cell may be taken
all_go_out : (b : Board) (c : Cell) (g : Gateway) → IsAtGateway b c g → flows_of b c ≡ map (λ (x : Flow). x.id) g.outs
all_go_out b c g at =
    let leaves = at.leaves in
    let stands = at.stands in
    let there = at.there in
    let other = kinds_apart g.node.kind at.exclusive in
    let outs : List Flow = filter (λ (x : Flow). bytes_eq x.from c.node) at.model.flows in
    let its : flows_of b c ≡ map (λ (x : Flow). x.id) (filter (may_take false c) outs) = rw (leaves, stands, there, other) refl in
    its ∙ ap (map (λ (x : Flow). x.id)) (each_kept (may_take false c) (λ f. refl) outs ∙ sym at.outs)

module _ (b : Board) (c : Cell) where
  one_of_outs : (g : Gateway) (f : Flow) → gateway_of b c ≡ Some g → choice_at (value_seen b c.key) g ≡ Ok f → are_among (f.id ∷ []) (flows_of b c) ≡ true
  one_of_outs g f at is =
      let all = all_go_out b c g (at_gateway b c g at) in
      let among = All-contains (λ (x : Flow). are_among (x.id ∷ []) (map (λ (y : Flow). y.id) g.outs) ≡ true) g.outs f (each_among g.outs) (chosen_out (value_seen b c.key) g f (is_choice (value_seen b c.key) g f is)) in
      subst (λ (ids : List (List ℕ)). are_among (f.id ∷ []) ids ≡ true) (sym all) among

  exit_by : (g : Option Gateway) (owed : List (List ℕ)) → gateway_of b c ≡ g → option_map_or (λ x. choice_at (value_seen b c.key) x >>= (λ f. Ok (f.id ∷ []))) g (Ok (flows_of b c)) ≡ Ok owed
      → (are_among owed (flows_of b c) && (if is_some g then is_single owed else true)) ≡ true
  exit_by None owed at is =
      let all : flows_of b c ≡ owed = cc in
      subst (λ (ids : List (List ℕ)). (are_among ids (flows_of b c) && true) ≡ true) all (rw (among_themselves (flows_of b c)) refl)
  exit_by (Some g) owed at is =
      let r = went_on (λ (f : Flow). f.id ∷ []) (choice_at (value_seen b c.key) g) owed is in
      subst (λ (ids : List (List ℕ)). (are_among ids (flows_of b c) && is_single ids) ≡ true) r.2 (rw (one_of_outs g r.0 at r.1) refl)

  -- a cell may owe the flows by which it is left
  pub exit_may_be_owed : (owed : List (List ℕ)) → exit_of b c ≡ Ok owed → may_owe b c owed ≡ true
  exit_may_be_owed owed is = exit_by (gateway_of b c) owed refl is

  -- the flow that is owed at an exclusive gateway is chosen
  pub choice_is_made : (g : Gateway) (owed : List (List ℕ)) → IsAtGateway b c g → exit_of b c ≡ Ok owed → IsChosen b c g owed
  choice_is_made g owed at is =
      let has = has_gateway b c g at in
      let its = sym (ap (λ (o : Option Gateway). option_map_or (λ x. choice_at (value_seen b c.key) x >>= (λ f. Ok (f.id ∷ []))) o (Ok (flows_of b c))) has) ∙ is in
      let r = went_on (λ (f : Flow). f.id ∷ []) (choice_at (value_seen b c.key) g) owed its in
      let chosen = is_choice (value_seen b c.key) g r.0 r.1 in
      record {
        flow = r.0;
        alone = sym r.2;
        leaves = All-contains (λ (f : Flow). f.from ≡ c.node) g.outs r.0 (outs_leave b c g at) (chosen_out (value_seen b c.key) g r.0 chosen);
        chosen = chosen;
      }

  -- and where none is, that is why
  pub choice_fails : (g : Gateway) (hindrance : Hindrance) → IsAtGateway b c g → exit_of b c ≡ Err hindrance → IsUndecided (value_seen b c.key) g hindrance
  choice_fails g hindrance at is =
      let has = has_gateway b c g at in
      let its = sym (ap (λ (o : Option Gateway). option_map_or (λ x. choice_at (value_seen b c.key) x >>= (λ f. Ok (f.id ∷ []))) o (Ok (flows_of b c))) has) ∙ is in
      is_undecided (value_seen b c.key) g hindrance (stopped (λ (f : Flow). f.id ∷ []) (choice_at (value_seen b c.key) g) hindrance its)

  -- at any other node all flows out of it are owed
  pub all_are_owed : (m : Model) → model_under b c.definition ≡ Some m → IsTrue (owes_none c || not (is_at m c.node is_exclusive_gateway)) → exit_of b c ≡ Ok (flows_of b c)
  all_are_owed m stands other =
      let none : gateway_of b c ≡ None = no_gateway b c m (owes_none c) refl stands other in
      rw none refl
