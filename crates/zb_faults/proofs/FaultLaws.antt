-- What holds of a model without faults: each flow stays in one scope, each scope has one start event, and no more than 16 subprocesses stand one in the other.
use Rattle.std.proofs.Common.{◌≡◌, ℕ, ◌+◌, ◌<◌, ◌≤◌, List, [], ◌∷◌, take, drop, reverse, length, get_or, Bool, true, false, cond, ◌&&◌, ◌||◌, not, Option, Some, None, is_some, is_none, IsTrue, refl, ap, sym, ◌∙◌, arith, nat_lt, ◌==◌, zero, suc}
use mathlib.Core.List.{reverse_aux}
use Rattle.std.specs.Option.{option_eq, option_map, option_map_or, option_or}
use Rattle.std.specs.List.{All, find}
use Rattle.std.specs.Str.{bytes_eq}
use Rattle.std.specs.Cmp.Lexicographic.{bytes_decides}
use Rattle.std.proofs.lemmas.Bool.Decides.{nat_tests}
use Rattle.std.proofs.lemmas.List.{drop_more, take_more, reverse-append}
use Rattle.zb_process.specs.declared.model.Model.{Model}
use Rattle.zb_process.specs.declared.model.Node.{Node}
use Rattle.zb_process.specs.declared.model.Flow.{Flow}
use Rattle.zb_faults.specs.Elements.{node_with, is_start, is_message_start, is_subprocess}
use Rattle.zb_faults.specs.Faults.{first_fault, first_fault_among, all_faults, offender, or_found, is_well_formed, find_behind, dangling, crossing, parent_at, starts_in, starts_badly, bad_start, depth_among, is_too_deep, most_nested, most_nodes, most_flows, too_large}
use Rattle.zb_faults.specs.declared.fault.Fault.{Fault}
use Rattle.zb_faults.specs.declared.fault.Fault.TheVariants as faults

-- a model has none of these faults
abbrev pub HasNone : List Fault → Model → Type 0
HasNone [] m = Unit {0}
HasNone (fault ∷ later) m = (offender fault m ≡ None) × HasNone later m

none_so : (fault : Fault) (here : Option (List ℕ)) (later : Option (Fault × List ℕ)) → or_found fault here later ≡ None → (here ≡ None) × (later ≡ None)
none_so fault None later so = (refl, so)
none_so fault (Some id) later so = absurd (cc)

-- where no first one is found among some faults, the model has none of them
pub none_among : (list : List Fault) (m : Model) → first_fault_among list m ≡ None → HasNone list m
none_among [] m so = tt
none_among (fault ∷ later) m so =
    let both = none_so fault (offender fault m) (first_fault_among later m) so in
    (both.0, none_among later m both.1)

none_from : {A : Type 0} (o : Option A) → IsTrue (is_none o) → o ≡ None
none_from None so = refl
none_from (Some x) so = absurd (cc)

-- a model without faults has none of all fourteen
pub well_formed_has_none : (m : Model) → IsTrue (is_well_formed m) → HasNone all_faults m
unfolding first_fault
well_formed_has_none m good = none_among all_faults m (none_from (first_fault m) good)

mapped_none : {A B : Type 0} (f : A → B) (o : Option A) → option_map f o ≡ None → o ≡ None
mapped_none f None so = refl
mapped_none f (Some x) so = absurd (cc)

-- where none is found, none passes
found_none : {A : Type 0} (p : A → Bool) (xs : List A) → find p xs ≡ None → (i : ℕ) (d : A) → i < length xs → p (get_or xs i d) ≡ false
found_none p [] so i d within = absurd (omega arith)
found_none p (x ∷ xs) so i d within = by_test (p x) refl so i within (λ rest j inside. found_none p xs rest j d inside)
  where
    by_test : (t : Bool) → p x ≡ t → cond t (Some x) (find p xs) ≡ None → (i : ℕ) → i < length (x ∷ xs) → (find p xs ≡ None → (j : ℕ) → j < length xs → p (get_or xs j d) ≡ false) → p (get_or (x ∷ xs) i d) ≡ false
    by_test true is so i within later = absurd (cc)
    by_test false is so zero within later = is
    by_test false is so (suc i) within later = later so i (omega arith)

-- a flow whose ends are nodes of one scope
pub record StaysIn (m : Model) (f : Flow) : Type 0 where
  pub origin : Node
  pub target : Node
  pub is_origin : node_with m f.from ≡ Some origin
  pub is_target : node_with m f.to ≡ Some target
  pub same_scope : origin.parent ≡ target.parent

ends_of : (m : Model) (f : Flow) (from to : Option Node) → node_with m f.from ≡ from → node_with m f.to ≡ to → (is_none from || is_none to) ≡ false
    → not (option_eq bytes_eq (option_map (λ n. n.parent) from) (option_map (λ n. n.parent) to)) ≡ false → StaysIn m f
ends_of m f None to is_from is_to there same = absurd (cc)
ends_of m f (Some a) None is_from is_to there same = absurd (cc)
ends_of m f (Some a) (Some b) is_from is_to there same = record { origin = a; target = b; is_origin = is_from; is_target = is_to; same_scope = (bytes_decides a.parent b.parent).0 (one same) }
  where
    one : not (bytes_eq a.parent b.parent) ≡ false → bytes_eq a.parent b.parent ≡ true
    one so = by_test (bytes_eq a.parent b.parent) so
      where
        by_test : (t : Bool) → not t ≡ false → t ≡ true
        by_test true so = refl
        by_test false so = absurd (cc)

-- each flow of a model without faults has its ends in one scope
pub flows_stay : (m : Model) → IsTrue (is_well_formed m) → All (StaysIn m) m.flows
flows_stay m good = λ k d within.
    let none = well_formed_has_none m good in
    let f = get_or m.flows k d in
    ends_of m f (node_with m f.from) (node_with m f.to) refl refl (found_none _ m.flows (mapped_none _ _ none.1.1.1.0) k d within) (found_none _ m.flows (mapped_none _ _ none.1.1.1.1.0) k d within)

one_start : (t : Bool) (subprocesses : Option (List ℕ)) (process : List ℕ) → cond t subprocesses (Some process) ≡ None → (t ≡ true) × (subprocesses ≡ None)
one_start true subprocesses process so = (refl, so)
one_start false subprocesses process so = absurd (cc)

one_of : (n : ℕ) → (n == 1) ≡ true → n ≡ 1
one_of n so = grind (arith, nat_tests)

started : (is_one message : Bool) → (not is_one || message) ≡ false → (is_one ≡ true) × (message ≡ false)
started true message so = (refl, so)
started false message so = absurd (cc)

starts_of : (m : Model) (n : Node) → starts_badly m n ≡ false → is_subprocess n.kind ≡ true → starts_in m is_start n.id ≡ 1
starts_of m n fine is =
    let well = started (starts_in m is_start n.id == 1) (nat_lt 0 (starts_in m is_message_start n.id)) (ap (λ t. t && (not (starts_in m is_start n.id == 1) || nat_lt 0 (starts_in m is_message_start n.id))) (sym is) ∙ fine) in
    one_of _ well.0

-- the process of a model without faults has one start event
pub process_starts_once : (m : Model) → IsTrue (is_well_formed m) → starts_in m is_start [] ≡ 1
process_starts_once m good =
    let none = well_formed_has_none m good in
    one_of _ (one_start _ _ m.process none.1.1.1.1.1.0).0

-- each subprocess of a model without faults has one start event
pub subprocesses_start_once : (m : Model) → IsTrue (is_well_formed m) → All (λ n. is_subprocess n.kind ≡ true → starts_in m is_start n.id ≡ 1) m.nodes
subprocesses_start_once m good = λ k d within.
    let none = well_formed_has_none m good in
    starts_of m (get_or m.nodes k d) (found_none (starts_badly m) m.nodes (mapped_none _ _ (one_start _ _ m.process none.1.1.1.1.1.0).1) k d within)

-- where none is found behind others, none passes
found_none_behind : {A : Type 0} (test : List A → A → Bool) (before xs : List A) → find_behind test before xs ≡ None → (i : ℕ) (d : A) → i < length xs → test (reverse_aux (take i xs) before) (get_or xs i d) ≡ false
found_none_behind test before [] so i d within = absurd (omega arith)
found_none_behind test before (x ∷ xs) so i d within = by_test (test before x) refl so i within (λ rest j inside. found_none_behind test (x ∷ before) xs rest j d inside)
  where
    by_test : (t : Bool) → test before x ≡ t → cond t (Some x) (find_behind test (x ∷ before) xs) ≡ None → (i : ℕ) → i < length (x ∷ xs)
        → (find_behind test (x ∷ before) xs ≡ None → (j : ℕ) → j < length xs → test (reverse_aux (take j xs) (x ∷ before)) (get_or xs j d) ≡ false) → test (reverse_aux (take i (x ∷ xs)) before) (get_or (x ∷ xs) i d) ≡ false
    by_test true is so i within later = absurd (cc)
    by_test false is so zero within later = is
    by_test false is so (suc i) within later = later so i (omega arith)

sized : (nodes flows deep : Bool) (process : List ℕ) → cond (nodes || flows || deep) (Some process) None ≡ None → (nodes ≡ false) × (flows ≡ false) × (deep ≡ false)
sized false false false process so = (refl, refl, refl)
sized true flows deep process so = absurd (cc)
sized false true deep process so = absurd (cc)
sized false false true process so = absurd (cc)

at_most : (n most : ℕ) → nat_lt most n ≡ false → n ≤ most
at_most n most so = grind (arith, nat_tests)

none_there : {A : Type 0} (o : Option A) → is_some o ≡ false → o ≡ None
none_there None so = refl
none_there (Some x) so = absurd (cc)

-- the sizes of a model without faults
pub sizes_are_bound : (m : Model) → IsTrue (is_well_formed m) → (length m.nodes ≤ most_nodes) × (length m.flows ≤ most_flows)
sizes_are_bound m good =
    let none = well_formed_has_none m good in
    let sizes = sized (nat_lt most_nodes (length m.nodes)) (nat_lt most_flows (length m.flows)) (is_some (find_behind is_too_deep [] m.nodes)) m.process none.1.1.1.1.1.1.1.1.1.1.1.1.1.0 in
    (at_most (length m.nodes) most_nodes sizes.0, at_most (length m.flows) most_flows sizes.1)

shallow : (before : List Node) (n : Node) → is_too_deep before n ≡ false → is_subprocess n.kind ≡ true → depth_among before n.parent + 1 ≤ most_nested
shallow before n fine is = at_most (depth_among before n.parent + 1) most_nested (ap (λ t. t && nat_lt most_nested (depth_among before n.parent + 1)) (sym is) ∙ fine)

-- no subprocess of a model without faults is in more than 15 others
pub nesting_is_bound : (m : Model) → IsTrue (is_well_formed m) → (k : ℕ) (d : Node) → k < length m.nodes → is_subprocess (get_or m.nodes k d).kind ≡ true → depth_among (reverse (take k m.nodes)) (get_or m.nodes k d).parent + 1 ≤ most_nested
nesting_is_bound m good k d within =
    let none = well_formed_has_none m good in
    let sizes = sized (nat_lt most_nodes (length m.nodes)) (nat_lt most_flows (length m.flows)) (is_some (find_behind is_too_deep [] m.nodes)) m.process none.1.1.1.1.1.1.1.1.1.1.1.1.1.0 in
    shallow (reverse (take k m.nodes)) (get_or m.nodes k d) (found_none_behind is_too_deep [] m.nodes (none_there _ sizes.2) k d within)
