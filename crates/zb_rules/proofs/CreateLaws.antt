-- The own events of an instance that is made apply: it is made, its root begins, and its variables get their first values.
use Rattle.std.proofs.Common.{◌≡◌, ℕ, ◌+◌, max, ◌==◌, get_or, List, [], ◌∷◌, ◌++◌, map, Bool, true, false, ◌&&◌, if◌then◌else◌, IsTrue, Option, Some, None, All, Contains, refl, ap, ◌∙◌, subst, arith}
use Rattle.std.specs.declared.cmp.Ordering.{Ordering}
use Rattle.std.specs.declared.cmp.Ordering.TheVariants.{Less, Equal, Greater}
use Rattle.std.specs.Ordering.{is_lt, ordering_reverse}
use Rattle.std.specs.List.{find}
use Rattle.std.specs.Str.{bytes_eq}
use Rattle.std.proofs.lemmas.Bool.Decides.{nat_tests}
use Rattle.std.proofs.lemmas.Cmp.{nat_list_cmp_total}
use Rattle.std.proofs.lemmas.List.Elements.{All-nil, All-cons, All-head, All-tail, All-weaker, All-contains, All-contains_itself}
use Rattle.std.proofs.lemmas.List.Folds.{find-append}
use Rattle.std.proofs.lemmas.Slice.Eq.{bytes_eq-Decides}
use Rattle.zb_base.specs.declared.vars.Variable.{Variable}
use Rattle.zb_base.specs.Vars.{order_of, order_at, is_ascending, value_named, with_value}
use Rattle.zb_base.proofs.VarsLaws.{value_of_set}
use Rattle.zb_table.proofs.EarliestLaws.{any_of}
use Rattle.zb_process.specs.declared.model.Model.{Model}
use Rattle.zb_instance_records.specs.declared.instance.ProcessInstanceCreationCreate.{ProcessInstanceCreationCreate}
use Rattle.zb_instance_records.specs.declared.instance.Role.TheVariants as roles
use Rattle.zb_model.specs.declared.record.Event.{Event}
use Rattle.zb_model.specs.declared.record.Event.TheVariants as events
use Rattle.zb_views.specs.declared.definition.Definition.{Definition}
use Rattle.zb_views.specs.View.{next_key}
use Rattle.zb_views.specs.Left.{left_told}
use Rattle.zb_views.specs.declared.left.Left.TheVariants as lefts
use Rattle.zb_views.proofs.ViewLaws.{left_more}
use Rattle.zb_views.specs.Definitions.{definitions, newer_definition, version_of, greatest_version, definition_for}
use Rattle.zb_tokens.specs.declared.board.Cell.{Cell}
use Rattle.zb_tokens.specs.declared.board.Move.TheVariants as moves
use Rattle.zb_tokens.specs.Edits.{edited}
use Rattle.zb_tokens.specs.Board.{Board, cell_at, model_under, new_cell}
use Rattle.zb_tokens.specs.MoveAssign.{with_variable}
use Rattle.zb_tokens.proofs.GameLaws.{holds_some, both_left, both_right}
use Rattle.zb_rules.specs.Shown.{shown, board_of}
use Rattle.zb_rules.specs.Applies.{starts_with, has_definition, holds_own, holds_of_game, applies, all_apply, is_process_of}
use Rattle.zb_rules.specs.Sound.{HasKeys}
use Rattle.zb_rules.specs.Create.{variable_event, instance_under, created}
use Rattle.zb_rules.proofs.MadeLaws.{made_of_any, mapped_holds}
use Rattle.zb_rules.proofs.CellsLaws.{Between}
use Rattle.zb_rules.proofs.AppliedLaws.{some_of, game_holds_from, applied_from, applied_board, board_behind}
use Rattle.zb_rules.proofs.KeysLaws.{HasOrderedCells}
use Rattle.zb_rules.proofs.ScopesLaws.{edited_found}
use Rattle.zb_tokens.proofs.LeaveLaws.{same_bytes}
use Rattle.zb_rules.proofs.ModelsLaws.{Knows}
use Rattle.zb_rules.proofs.OwnLaws.{fresh_from, silent_applies, board_after}

-- a name comes before all behind it, where names ascend
less_from : (o : Ordering) → IsTrue (is_lt o) → o ≡ Less
less_from Less is = refl
less_from Equal is = absurd (cc)
less_from Greater is = absurd (cc)

before_all : (v : Variable) (vs : List Variable) → IsTrue (is_ascending (v ∷ vs)) → All (λ (w : Variable). order_of v.name w.name ≡ Less) vs
before_all v [] up = All-nil (λ (w : Variable). order_of v.name w.name ≡ Less)
before_all v (w ∷ ws) up =
    let behind = both_right (is_lt (order_of v.name w.name)) (is_ascending (w ∷ ws)) up in
    let first = less_from (order_of v.name w.name) (both_left (is_lt (order_of v.name w.name)) (is_ascending (w ∷ ws)) up) in
    All-cons (λ (x : Variable). order_of v.name x.name ≡ Less) w ws first
    (All-weaker (λ (x : Variable). order_of w.name x.name ≡ Less) (λ (x : Variable). order_of v.name x.name ≡ Less) (λ x less. nat_list_cmp_total.trans v.name w.name x.name first less) ws (before_all w ws behind))

-- no variable with one of these names is there
abbrev AreNew : List Variable → List Variable → Type 0
AreNew vs there = All (λ (w : Variable). value_named w.name there ≡ None) vs

new_still : (v w : Variable) (there : List Variable) → order_of v.name w.name ≡ Less → value_named w.name there ≡ None → value_named w.name (with_value v.name v.value there) ≡ None
new_still v w there less new =
    let greater : order_of w.name v.name ≡ Greater = nat_list_cmp_total.antisymm w.name v.name ∙ ap ordering_reverse less in
    rw (value_of_set w.name v.name v.value there, greater) new

all_new : (v : Variable) (vs there : List Variable) → All (λ (w : Variable). order_of v.name w.name ≡ Less) vs → AreNew vs there → AreNew vs (with_value v.name v.value there)
all_new v vs there less new = λ k d within. new_still v (get_or vs k d) there (less k d within) (new k d within)

-- new variables whose names ascend can be set one after the other
assign_all : (p root : ℕ) (vs : List Variable) (before : List Event) (b : Board) (c : Cell) → board_of before ≡ Some b → cell_at b root ≡ Some c → AreNew vs c.variables → IsTrue (is_ascending vs)
    → IsTrue (all_apply p before (map (variable_event root) vs))
assign_all p root [] before b c is found new up = refl
assign_all p root (v ∷ vs) before b c is found new up =
    let e = variable_event root v in
    let edit : Cell → Cell = with_variable v.name v.value in
    let one = All-head (λ (w : Variable). value_named w.name c.variables ≡ None) v vs new in
    let others = All-tail (λ (w : Variable). value_named w.name c.variables ≡ None) v vs new in
    let first : IsTrue (applies p before e) = applied_from p before b e (moves.Assign (record { scope = root; name = v.name; value = v.value })) is refl refl (rw (found, one) refl) in
    let r = applied_board p before b e is first in
    let now : cell_at r.0 root ≡ Some (with_variable v.name v.value c) = mapped_holds (λ (x : Board). cell_at x root ≡ Some (with_variable v.name v.value c)) (λ cells. record b { cells = cells })
    (edited (λ (y : Cell). y.key == root) (with_variable v.name v.value) b.cells) r.0
    (λ cells made. edited_found root (with_variable v.name v.value) c b.cells cells (λ y. refl) found made) r.1.leads in
    let later = assign_all p root vs (before ++ e ∷ []) r.0 (with_variable v.name v.value c) (board_behind p before b e r.0 r.1) now
    (all_new v vs c.variables (before_all v vs up) others) (both_right (is_lt (order_at v.name vs)) (is_ascending vs) up) in
    rw (first, later) refl

-- the version that is found is one of the definitions, of this process
module _ (Q : Definition → Type 0) where
  newer_holds : (d : Definition) (found : Option Definition) (r : Definition) → Q d → ((x : Definition) → found ≡ Some x → Q x) → newer_definition d found ≡ Some r → Q r
  newer_holds d None r here later is = subst Q (let same : d ≡ r = cc in same) here
  newer_holds d (Some x) r here later is = by_test (max d.key x.key == x.key) is
    where
      by_test : (t : Bool) → (if t then Some x else Some d) ≡ Some r → Q r
      by_test true is = subst Q (let same : x ≡ r = cc in same) (later x refl)
      by_test false is = subst Q (let same : d ≡ r = cc in same) here

  version_by : (t : Bool) (d : Definition) (found : Option Definition) (r : Definition) → (IsTrue t → Q d) → ((x : Definition) → found ≡ Some x → Q x) → (if t then newer_definition d found else found) ≡ Some r → Q r
  version_by true d found r here later is = newer_holds d found r (here refl) later is
  version_by false d found r here later is = later r is

  version_holds : (process : List ℕ) (version : ℕ) (ds : List Definition) (r : Definition) → All (λ (d : Definition). IsTrue (bytes_eq d.process process) → Q d) ds → version_of process version ds ≡ Some r → Q r
  version_holds process version [] r all is = absurd (cc)
  version_holds process version (d ∷ ds) r all is =
      let P : Definition → Type 0 = λ d. IsTrue (bytes_eq d.process process) → Q d in
      version_by (bytes_eq d.process process && (d.version == version)) d (version_of process version ds) r
      (λ both. All-head P d ds all (both_left (bytes_eq d.process process) (d.version == version) both)) (λ x found. version_holds process version ds x (All-tail P d ds all) found) is

abbrev pub IsOf : List Event → List ℕ → Definition → Type 0
IsOf es process d = Contains (definitions es) d × IsTrue (bytes_eq d.process process)

pub found_of : (process : List ℕ) (version : ℕ) (es : List Event) (d : Definition) → definition_for process version es ≡ Some d → IsOf es process d
found_of process version es d is =
    let ds = definitions es in
    version_holds (IsOf es process) process (if version == 0 then greatest_version process ds else version) ds d
    (All-weaker (Contains ds) (λ (d : Definition). IsTrue (bytes_eq d.process process) → IsOf es process d) (λ d there same. (there, same)) ds (All-contains_itself ds)) is

-- no cell has the key behind them all
pub none_between : (low high : ℕ) (cells : List Cell) → Between low high cells → find (λ (c : Cell). c.key == high) cells ≡ None
none_between low high [] is = refl
none_between low high (c ∷ cells) is =
    let other : (c.key == high) ≡ false = (let below = is.1 in grind (arith, nat_tests)) in
    rw (other) (none_between (c.key + 1) high cells is.2)

module _ (p : ℕ) (es : List Event) (b : Board) (is : board_of es ≡ Some b) (stands : HasOrderedCells p es b) (knows : Knows p es b) where
  root_found : (definition : ℕ) (node : List ℕ) → find (λ (c : Cell). c.key == next_key p es) (b.cells ++ new_cell (next_key p es) 0 definition node roles.Plain false ∷ []) ≡ Some (new_cell (next_key p es) 0 definition node roles.Plain false)
  root_found definition node =
      let same : (next_key p es == next_key p es) ≡ true = grind (arith, nat_tests) in
      rw (find-append (λ (c : Cell). c.key == next_key p es) b.cells, none_between 1 (next_key p es) b.cells stands.between, same) refl

  -- the root of an instance and its variables apply, behind an event that draws its key and leaves it to be said
  pub root_applies : (e : Event) (message : Option ℕ) (started process : List ℕ) (vs : List Variable) (d : ℕ) (m : Model) → IsTrue (applies p es e) → shown es e ≡ None → left_told es e ≡ lefts.Root (record { key = next_key p es; definition = d; message = message })
      → starts_with (lefts.Root (record { key = next_key p es; definition = d; message = message })) (es ++ e ∷ []) ≡ started → IsTrue (is_ascending vs) → IsTrue (is_process_of d process b) → model_under b d ≡ Some m
      → IsTrue (all_apply p (es ++ e ∷ []) (events.ElementActivating (record { key = next_key p es; scope = 0; definition = d; node = process; role = roles.Plain; via = []; started = started }) ∷ map (variable_event (next_key p es)) vs))
  root_applies e message started process vs d m first silent leaves starts up its found =
      let key = next_key p es in
      let root = events.ElementActivating (record { key = key; scope = 0; definition = d; node = process; role = roles.Plain; via = []; started = started }) in
      let same : (d == d) ≡ true = grind (arith, nat_tests) in
      let same_key : (key == key) ≡ true = grind (arith, nat_tests) in
      let still : board_of (es ++ e ∷ []) ≡ Some b = board_after es b b e is (rw silent refl) in
      let there : IsTrue (holds_of_game (is_process_of d process) (es ++ e ∷ [])) = game_holds_from (is_process_of d process) (es ++ e ∷ []) b still its in
      let own : IsTrue (holds_own p (es ++ e ∷ []) root) = rw (left_more es e, leaves, same_key, same, there, starts) (same_bytes started) in
      let second : IsTrue (applies p (es ++ e ∷ []) root) = applied_from p (es ++ e ∷ []) b root (moves.Start (record { key = key; definition = d })) still own refl (rw found refl) in
      let begun : board_of ((es ++ e ∷ []) ++ root ∷ []) ≡ Some (record b { cells = b.cells ++ new_cell key 0 d m.process roles.Plain false ∷ [] }) = board_after (es ++ e ∷ []) b _ root still (rw found refl) in
      let set = assign_all p key vs ((es ++ e ∷ []) ++ root ∷ []) (record b { cells = b.cells ++ new_cell key 0 d m.process roles.Plain false ∷ [] }) (new_cell key 0 d m.process roles.Plain false) begun (root_found d m.process) (λ k d within. refl) up in
      rw (second, set) refl

  instance_applies : (c : ProcessInstanceCreationCreate) (d : Definition) (m : Model) → HasKeys p es 1 → IsTrue (is_ascending c.variables) → Contains (definitions es) d → IsTrue (is_process_of d.key c.process b) → model_under b d.key ≡ Some m
      → IsTrue (all_apply p es (instance_under (next_key p es) d.key c))
  instance_applies c d m keys up has its found =
      let e = events.ProcessInstanceCreationCreated (record { key = next_key p es; definition = d.key }) in
      let same : (d.key == d.key) ≡ true = grind (arith, nat_tests) in
      let defined : IsTrue (has_definition d.key es) = any_of (λ (x : Definition). x.key == d.key) (definitions es) d has same in
      let first : IsTrue (applies p es e) = silent_applies p es b e is (rw (fresh_from p es keys, defined) refl) refl in
      let rest = root_applies e None [] c.process c.variables d.key m first refl refl refl up its found in
      rw (first, rest) refl

  pub of_process : (d : Definition) (process : List ℕ) → IsOf es process d → IsTrue (is_process_of d.key process b)
  of_process d process of =
      let its = All-contains (λ (x : Definition). IsTrue (is_process_of x.key x.process b)) (definitions es) d knows.defined of.0 in
      subst (λ (id : List ℕ). IsTrue (is_process_of d.key id b)) ((bytes_eq-Decides d.process process).0 of.1) its

  -- the own events of a create apply
  pub create_applies : (c : ProcessInstanceCreationCreate) → HasKeys p es 1 → IsTrue (is_ascending c.variables) → IsTrue (all_apply p es (created p c es))
  create_applies c keys up = made_of_any (λ (x : List Event). IsTrue (all_apply p es x)) (λ (d : Definition). instance_under (next_key p es) d.key c) (definition_for c.process c.version es) refl
      (λ d asked.
      let of = found_of c.process c.version es d asked in
      let its = of_process d c.process of in
      let found = some_of (model_under b d.key) (holds_some _ (model_under b d.key) its) in
      instance_applies c d found.0 keys up of.0 its found.1)
