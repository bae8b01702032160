-- Where an error comes about that is caught: at a boundary event of an activity, which is active.
use Rattle.std.proofs.Common.{◌≡◌, ◌⊎◌, ℕ, ◌+◌, ◌≤◌, ◌<◌, ◌==◌, List, [], ◌∷◌, filter, length, get_or, All, Bool, true, false, ◌&&◌, ◌||◌, not, cond, if◌then◌else◌, IsTrue, IsFalse, is_some, Option, Some, None, option_and_then, refl, inl, inr, ⊎_elim, sym, ap, ◌∙◌, subst, arith}
use Rattle.std.specs.Option.{option_map_or}
use Rattle.std.specs.List.{find, list_any}
use Rattle.std.specs.Str.{bytes_eq}
use Rattle.std.proofs.lemmas.Bool.{and_from, and_parts, or_parts, not-true}
use Rattle.std.proofs.lemmas.Bool.Decides.{nat_tests}
use Rattle.std.proofs.lemmas.List.Elements.{All-nil, All-cons}
use Rattle.zb_process.specs.declared.model.Model.{Model}
use Rattle.zb_process.specs.declared.model.Node.{Node}
use Rattle.zb_process.specs.declared.model.NodeKind.{NodeKind}
use Rattle.zb_process.specs.declared.model.NodeKind.TheVariants as kinds
use Rattle.zb_faults.specs.Elements.{is_activity, is_boundary_of, is_catch, is_event_gateway, is_service_task}
use Rattle.zb_tokens.specs.declared.board.Cell.{Cell}
use Rattle.zb_tokens.specs.declared.board.Phase.{Phase}
use Rattle.zb_tokens.specs.declared.board.Phase.TheVariants as phases
use Rattle.zb_tokens.specs.declared.board.Triggered.{Triggered}
use Rattle.zb_tokens.specs.Board.{Board, CellsAscend, cell_at, model_under, node_with, is_at, is_body, is_inner, is_phase, is_root, holds_cells, up_from}
use Rattle.zb_tokens.specs.Doom.{calls_off, is_doomed}
use Rattle.zb_tokens.specs.declared.board.Catch.{Catch}
use Rattle.zb_tokens.specs.declared.board.Catch.TheVariants as catch_kinds
use Rattle.zb_tokens.specs.Catches.{is_receive_task, is_caught_at, is_awaited_at, may_be_told, waits_beside, waits_itself, awaits}
use Rattle.zb_tokens.specs.Errors.{first_for, error_event, error_event_of, catches, catcher, caught, is_same_event}
use Rattle.zb_tokens.proofs.ErrorLaws.{caught_there, any_there, catcher_near}
use Rattle.zb_tokens.proofs.FoundLaws.{nearest_there}
use Rattle.zb_tokens.proofs.GameLaws.{both_left, both_right, found_holds}
use Rattle.zb_tokens.specs.Incidents.{is_stuck}
use Rattle.zb_tokens.specs.Mappings.{node_of, rim_node}
use Rattle.zb_tokens.specs.Marks.{awaits_work, error_of, is_service_cell, is_unset}
use Rattle.zb_tokens.specs.MoveTrigger.{awaits_event, comes_about_by, is_awaited, is_own_event, fits_trigger, mark_by}
use Rattle.zb_rules.specs.Sound.{runs, holds_by, is_around}
use Rattle.zb_rules.proofs.ScopesLaws.{at_cell}
use Rattle.zb_rules.proofs.MoversLaws.{found_key}

-- a service task is no catch event, and no event gateway, and waits for no message
pub service_apart : (kind : NodeKind) → IsTrue (is_service_task kind) → (is_catch kind ≡ false) × (is_event_gateway kind ≡ false) × (is_receive_task kind ≡ false)
service_apart kinds.ServiceTask is = (refl, refl, refl)
service_apart kind is = absurd (cc)

-- a cell that runs a service task isn't told of an event
service_unmarked : (b : Board) (t : Triggered) (c : Cell) (n : Node) → is_body c ≡ false → node_of b c ≡ Some n → IsTrue (is_service_task n.kind) → mark_by b t c ≡ None
service_unmarked b t c n runs at is =
    let apart = service_apart n.kind is in
    let one = apart.0 in
    let other = apart.1 in
    let none = apart.2 in
    rw (at, runs, one, other, none) refl

-- so one that waits for its work isn't
pub work_unmarked : (b : Board) (t : Triggered) (c : Cell) → IsTrue (awaits_work b c) → mark_by b t c ≡ None
work_unmarked b t c works = by_model (model_under b c.definition) refl (and_parts (not (is_root c || is_body c)) _ service).1
  where
    service : IsTrue (is_service_cell b c)
    service = both_right (is_unset c.mark) _ (both_right (is_phase c.phase phases.Active) _ works)

    apart : (is_root c ≡ false) × (is_body c ≡ false)
    apart = or_parts (is_root c) (is_body c) (not-true (is_root c || is_body c) (and_parts (not (is_root c || is_body c)) _ service).0)

    by_node : (m : Model) (found : Option Node) → model_under b c.definition ≡ Some m → node_with m c.node ≡ found → IsTrue (option_map_or (λ (n : Node). is_service_task n.kind) found false) → mark_by b t c ≡ None
    by_node m None stands at is = absurd (cc)
    by_node m (Some n) stands at is = let inner = apart.0 in service_unmarked b t c n apart.1 (rw (inner, stands) at) is

    by_model : (found : Option Model) → model_under b c.definition ≡ found → IsTrue (option_map_or (λ m. is_at m c.node is_service_task) found false) → mark_by b t c ≡ None
    by_model None stands is = absurd (cc)
    by_model (Some m) stands is = by_node m (node_with m c.node) stands refl is

-- one that catches errors at its boundary is at an activity
activity_of : (b : Board) (code : List ℕ) (c : Cell) (event : Node) → error_event_of b code c ≡ Some event → (n : Node) × (rim_node b c ≡ Some n) × IsTrue (is_activity n.kind)
activity_of b code c event is = by_model (model_under b c.definition) is
  where
    by_kind : (n : Node) (t : Bool) (found : Option Node) → rim_node b c ≡ Some n → is_activity n.kind ≡ t → (if t then found else None) ≡ Some event → (x : Node) × (rim_node b c ≡ Some x) × IsTrue (is_activity x.kind)
    by_kind n true found at it is = (n, at, it)
    by_kind n false found at out is = absurd (cc)

    by_node : (m : Model) (found : Option Node) → rim_node b c ≡ found → option_and_then (error_event m code) found ≡ Some event → (x : Node) × (rim_node b c ≡ Some x) × IsTrue (is_activity x.kind)
    by_node m None at is = absurd (cc)
    by_node m (Some n) at is = by_kind n (is_activity n.kind) (first_for code (filter (is_boundary_of n.id) m.nodes)) at refl is

    by_model : (found : Option Model) → option_and_then (λ m. option_and_then (error_event m code) (rim_node b c)) found ≡ Some event → (x : Node) × (rim_node b c ≡ Some x) × IsTrue (is_activity x.kind)
    by_model None is = absurd (cc)
    by_model (Some m) is = by_node m (rim_node b c) refl is

-- the node at whose boundary events wait for a cell is its own, and the cell is no run of a body
pub rim_is : (b : Board) (c : Cell) (n : Node) → rim_node b c ≡ Some n → (node_of b c ≡ Some n) × IsFalse (is_inner c)
rim_is b c n at = by_inner (is_inner c) refl at
  where
    by_inner : (inner : Bool) → is_inner c ≡ inner → (if inner then None else node_of b c) ≡ Some n → (node_of b c ≡ Some n) × IsFalse (is_inner c)
    by_inner true is at = absurd (cc)
    by_inner false is at = (at, is)

pub node_inner : (b : Board) (c : Cell) (n : Node) → node_of b c ≡ Some n → IsFalse (is_root c)
node_inner b c n at = by_root (is_root c) refl
  where
    by_root : (root : Bool) → is_root c ≡ root → root ≡ false
    by_root false is = refl
    by_root true is = absurd (let none : None ≡ Some n = rw is at at in cc)

-- two events that are the same name the same cell
same_cell : (t u : Triggered) → IsTrue (is_same_event t u) → u.cell ≡ t.cell
same_cell t u same = let key = both_left (u.cell == t.cell) _ same in grind (arith, nat_tests)

-- the event that is caught, and where
pub record ComesAbout (b : Board) (t : Triggered) (c : Cell) : Type 0 where
  pub active : IsTrue (is_phase c.phase phases.Active)
  pub alive : is_doomed b c ≡ false
  pub event : Triggered
  pub is : caught b c ≡ Some event
  pub same : IsTrue (is_same_event t event)

comes_parts : (b : Board) (t : Triggered) (c : Cell) → comes_about_by b t c ≡ true → ComesAbout b t c
comes_parts b t c it = by_caught (caught b c) refl (both_right (not (is_stuck b c)) _ behind)
  where
    inner : IsTrue (not (is_doomed b c) && (not (is_stuck b c) && option_map_or (is_same_event t) (caught b c) false))
    inner = both_right (is_phase c.phase phases.Active) _ it

    behind : IsTrue (not (is_stuck b c) && option_map_or (is_same_event t) (caught b c) false)
    behind = both_right (not (is_doomed b c)) _ inner

    alive_by : (t : Bool) → IsTrue (not t) → t ≡ false
    alive_by false is = refl
    alive_by true is = absurd (cc)

    by_caught : (found : Option Triggered) → caught b c ≡ found → IsTrue (option_map_or (is_same_event t) found false) → ComesAbout b t c
    by_caught None at same = absurd (cc)
    by_caught (Some u) at same = record {
      active = both_left (is_phase c.phase phases.Active) _ it;
      alive = alive_by (is_doomed b c) (both_left (not (is_doomed b c)) _ inner);
      event = u;
      is = at;
      same = same;
    }

-- an event that may come about is one that its cell waits for, or it catches the error of a cell of which something holds
pub waits_or_catches : (P : Cell → Type 0) (b : Board) (t : Triggered) → All P b.cells → IsTrue (fits_trigger b t) → IsTrue (is_awaited b t) ⊎ ((c : Cell) × P c × ComesAbout b t c)
waits_or_catches P b t all fit = by_test (is_awaited b t) refl fit
  where
    by_test : (waits : Bool) → is_awaited b t ≡ waits → IsTrue (waits || list_any (comes_about_by b t) b.cells) → IsTrue (is_awaited b t) ⊎ ((c : Cell) × P c × ComesAbout b t c)
    by_test true at fit = inl at
    by_test false at fit = let r = any_there (comes_about_by b t) P b.cells all fit in inr (r.0, r.1, comes_parts b t r.0 r.2)

-- the cell of an event that catches an error
module _ (b : Board) (t : Triggered) (c d : Cell) (comes : ComesAbout b t d) (found : cell_at b t.cell ≡ Some c) where
  pub host_is : (code : List ℕ) × (error_of d.mark ≡ Some code) × (event : Node) × (error_event_of b code c ≡ Some event)
  host_is =
      let r = caught_there b d comes.event comes.is in
      let at = r.2 in
      let same : Some at.host ≡ Some c = sym at.there ∙ (ap (cell_at b) (same_cell t comes.event comes.same) ∙ found) in
      let one : at.host ≡ c = cc in
      (r.0, r.1, at.event, subst (λ (x : Cell). error_event_of b r.0 x ≡ Some at.event) one at.catches)

  -- an error is caught at an activity, and by no run of a body
  pub caught_node : (n : Node) × (node_of b c ≡ Some n) × IsTrue (is_activity n.kind) × IsFalse (is_inner c)
  caught_node =
      let r = host_is in
      let its = activity_of b r.0 c r.2 r.3 in
      let at = rim_is b c its.0 its.1 in
      (its.0, at.0, its.2, at.1)

-- the cell of an event that may come about is no root
pub told_inner : (b : Board) (t : Triggered) (c : Cell) → cell_at b t.cell ≡ Some c → IsTrue (fits_trigger b t) → (IsTrue (awaits_event b t c) → IsFalse (is_root c)) → IsFalse (is_root c)
told_inner b t c found fit inner = ⊎_elim (λ waits. inner (at_cell (awaits_event b t) (cell_at b t.cell) c found waits))
    (λ r. let n = caught_node b t c r.0 r.2 found in node_inner b c n.0 n.1) (waits_or_catches (λ (x : Cell). Unit {0}) b t (λ k d within. tt) fit)

left_alone : (t : Bool) → IsTrue (t || false) → IsTrue t
left_alone true is = refl
left_alone false is = is

-- a run of a body waits for its own event alone
own_awaited : (b : Board) (t : Triggered) (c : Cell) → is_inner c ≡ true → (catch : Catch) → IsTrue (awaits catch b c t.node) → IsTrue (is_own_event b t c)
own_awaited b t c inner catch waits = by_model (model_under b c.definition) waits
  where
    by_other : (m : Model) (n : Node) (other : Option Node) → IsTrue (option_map_or (λ x. ((bytes_eq c.node t.node && waits_itself c n) || waits_beside m c n x) && is_caught_at x.kind catch) other false) → IsTrue (waits_itself c n && bytes_eq c.node t.node)
    by_other m n None is = absurd (cc)
    by_other m n (Some x) is =
        let either = both_left ((bytes_eq c.node t.node && waits_itself c n) || waits_beside m c n x) _ is in
        let own : IsTrue (bytes_eq c.node t.node && waits_itself c n) = left_alone _ (rw inner at either) in
        let parts = and_parts (bytes_eq c.node t.node) (waits_itself c n) own in
        and_from (waits_itself c n) (bytes_eq c.node t.node) parts.1 parts.0

    by_node : (m : Model) (found : Option Node) → IsTrue (option_map_or (λ n. is_awaited_at catch m c n t.node) found false) → IsTrue (option_map_or (λ n. waits_itself c n && bytes_eq c.node t.node) found false)
    by_node m None is = absurd (cc)
    by_node m (Some n) is = by_other m n (node_with m t.node) is

    by_model : (found : Option Model) → IsTrue (option_map_or (λ m. option_map_or (λ n. is_awaited_at catch m c n t.node) (node_of b c) false) found false) → IsTrue (is_own_event b t c)
    by_model None is = absurd (cc)
    by_model (Some m) is = by_node m (node_of b c) is

-- so it is told of an event for which it waits
waits_plain : (b : Board) (t : Triggered) (c : Cell) → IsTrue (awaits_event b t c) → mark_by b t c ≡ None → IsFalse (is_inner c)
waits_plain b t c waits untold = by_inner (is_inner c) refl
  where
    is_own : is_inner c ≡ true → (time : Bool) → awaits catch_kinds.Time b c t.node ≡ time → IsTrue (time || awaits catch_kinds.Message b c t.node) → IsTrue (is_own_event b t c)
    is_own inner true is either = own_awaited b t c inner catch_kinds.Time is
    is_own inner false is either = own_awaited b t c inner catch_kinds.Message either

    by_inner : (inner : Bool) → is_inner c ≡ inner → inner ≡ false
    by_inner false is = refl
    by_inner true is =
        let own = is_own is (awaits catch_kinds.Time b c t.node) refl (both_right (may_be_told b c) _ waits) in
        absurd (let told = rw own at untold in cc)

-- where it isn't told of it, it is no run of a body
pub told_plain : (b : Board) (t : Triggered) (c : Cell) → cell_at b t.cell ≡ Some c → IsTrue (fits_trigger b t) → mark_by b t c ≡ None → IsFalse (is_inner c)
told_plain b t c found fit untold = ⊎_elim (λ waits. waits_plain b t c (at_cell (awaits_event b t) (cell_at b t.cell) c found waits) untold)
    (λ r. (caught_node b t c r.0 r.2 found).3) (waits_or_catches (λ (x : Cell). Unit {0}) b t (λ k d within. tt) fit)

-- cells that ascend are found by their keys
pub found_here : (low : ℕ) (cells : List Cell) → CellsAscend low cells → All (λ (c : Cell). (low ≤ c.key) × (find (λ x. x.key == c.key) cells ≡ Some c)) cells
found_here low [] up = All-nil (λ (c : Cell). (low ≤ c.key) × (find (λ x. x.key == c.key) [] ≡ Some c))
found_here low (c ∷ cells) up =
    let Found : Cell → Type 0 = λ d. (low ≤ d.key) × (find (λ x. x.key == d.key) (c ∷ cells) ≡ Some d) in
    let same : (c.key == c.key) ≡ true = grind (arith, nat_tests) in
    let later = found_here (c.key + 1) cells up.1 in
    let above = up.0 in
    All-cons Found c cells (above, rw same refl) (λ k d within.
    let r = later k d within in
    let more = r.0 in
    let other : (c.key == (get_or cells k d).key) ≡ false = grind (arith, nat_tests, more) in
    (omega (arith, more, above), rw other r.1))

-- a cell that takes nothing with it, and in which others may be, is active
holds_active : (b : Board) (p : Cell) → IsTrue (holds_by holds_cells b p) → calls_off p ≡ false → IsTrue (is_phase p.phase phases.Active)
holds_active b p holds off = by_phase p.phase (both_left (runs p.phase) _ holds) (or_parts (is_phase p.phase phases.Terminating) p.ending off).0
  where
    by_phase : (phase : Phase) → IsTrue (runs phase) → is_phase phase phases.Terminating ≡ false → IsTrue (is_phase phase phases.Active)
    by_phase phases.Active runs out = refl
    by_phase phases.Terminating runs out = absurd (cc)
    by_phase phase runs out = absurd (cc)

-- going up from an active cell that isn't called off, each cell is active
module _ (b : Board) (up : CellsAscend 1 b.cells) (scopes : All (λ (c : Cell). (c.scope ≡ 0) ⊎ (IsTrue (is_around holds_cells b c.scope) × (c.scope < c.key))) b.cells) where
  scope_active : (c p : Cell) (key : ℕ) → cell_at b key ≡ Some c → cell_at b c.scope ≡ Some p → calls_off p ≡ false → IsTrue (is_phase p.phase phases.Active)
  scope_active c p key found above off = ⊎_elim
      (λ none.
      let lowest = found_key 1 c.scope b.cells p up above in
      absurd (let out : ⊥ = omega (arith, lowest, none) in out))
      (λ r. holds_active b p (at_cell (holds_by holds_cells b) (cell_at b c.scope) p above r.0) off)
      (found_holds (λ (x : Cell). x.key == key) (λ (x : Cell). (x.scope ≡ 0) ⊎ (IsTrue (is_around holds_cells b x.scope) × (x.scope < x.key))) b.cells c scopes found).0

  module _ (passes : Cell → Bool) (h : Cell) where
    -- the cell itself, or one above it
    climb_by : (t : Bool) (c : Cell) (above : Option Cell) → IsTrue (is_phase c.phase phases.Active) → (above ≡ Some h → IsTrue (is_phase h.phase phases.Active)) → cond t (Some c) above ≡ Some h → IsTrue (is_phase h.phase phases.Active)
    climb_by true c above active later is = let same : c ≡ h = cc in subst (λ (x : Cell). IsTrue (is_phase x.phase phases.Active)) same active
    climb_by false c above active later is = later is

    none_off : (t : Bool) (c : Cell) (above : Option Cell) → is_some (cond t (Some c) above) ≡ false → (t ≡ false) × (is_some above ≡ false)
    none_off true c above off = absurd (cc)
    none_off false c above off = (refl, off)

    climbs : (fuel others : List Cell) (key : ℕ) (c : Cell) → cell_at b key ≡ Some c → IsTrue (is_phase c.phase phases.Active) → is_some (find calls_off (up_from others b c.scope)) ≡ false → length fuel ≤ length others + 1
        → find passes (up_from fuel b key) ≡ Some h → IsTrue (is_phase h.phase phases.Active)
    climbs [] others key c found active off few is = absurd (cc)
    climbs (m ∷ fuel) others key c found active off few is =
        climb_by (passes c) c (find passes (up_from fuel b c.scope)) active (λ led. by_others fuel others off few led (λ rest p above on free less on_up. climbs fuel rest c.scope p above on free less on_up)) (rw found at is)
      where
        by_scope : (left rest : List Cell) (p : Option Cell) → cell_at b c.scope ≡ p → is_some (find calls_off (option_map_or (λ x. x ∷ up_from rest b x.scope) p [])) ≡ false → find passes (option_map_or (λ x. x ∷ up_from left b x.scope) p []) ≡ Some h
            → (x : Cell) × (cell_at b c.scope ≡ Some x) × (calls_off x ≡ false) × (is_some (find calls_off (up_from rest b x.scope)) ≡ false)
        by_scope left rest None at off led = absurd (cc)
        by_scope left rest (Some p) at off led = let parts = none_off (calls_off p) p (find calls_off (up_from rest b p.scope)) off in (p, at, parts.0, parts.1)

        by_others : (left others : List Cell) → is_some (find calls_off (up_from others b c.scope)) ≡ false → length (m ∷ left) ≤ length others + 1 → find passes (up_from left b c.scope) ≡ Some h
            → ((rest : List Cell) (p : Cell) → cell_at b c.scope ≡ Some p → IsTrue (is_phase p.phase phases.Active) → is_some (find calls_off (up_from rest b p.scope)) ≡ false → length left ≤ length rest + 1 → find passes (up_from left b c.scope) ≡ Some h → IsTrue (is_phase h.phase phases.Active))
            → IsTrue (is_phase h.phase phases.Active)
        by_others [] others off few led next = absurd (cc)
        by_others (l ∷ left) [] off few led next = absurd (let out : ⊥ = omega (arith, few) in out)
        by_others (l ∷ left) (o ∷ rest) off few led next =
            let r = by_scope left rest (cell_at b c.scope) refl off led in
            next rest r.0 r.1 (scope_active c r.0 key found r.1 r.2) r.3 (omega (arith, few)) led

-- the cell of an event that catches an error is active
pub caught_active : (b : Board) → CellsAscend 1 b.cells → All (λ (c : Cell). (c.scope ≡ 0) ⊎ (IsTrue (is_around holds_cells b c.scope) × (c.scope < c.key))) b.cells
    → (t : Triggered) (c d : Cell) → cell_at b d.key ≡ Some d → ComesAbout b t d → cell_at b t.cell ≡ Some c → IsTrue (is_phase c.phase phases.Active)
caught_active b up scopes t c d its comes found = by_error (error_of d.mark) comes.is
  where
    by_error : (error : Option (List ℕ)) → option_and_then (λ code. catcher b code d.key) error ≡ Some comes.event → IsTrue (is_phase c.phase phases.Active)
    by_error None is = absurd (cc)
    by_error (Some code) is =
        let near = catcher_near b code d.key comes.event is in
        let there : cell_at b comes.event.cell ≡ Some near.0 = ap (cell_at b) (sym near.4) ∙ (nearest_there b (catches b code) d.key near.0 near.2).0 in
        let both : Some near.0 ≡ Some c = sym there ∙ (ap (cell_at b) (same_cell t comes.event comes.same) ∙ found) in
        let same : near.0 ≡ c = cc in
        subst (λ (x : Cell). IsTrue (is_phase x.phase phases.Active)) same (climbs b up scopes (catches b code) near.0 b.cells b.cells d.key d its comes.active comes.alive (omega arith) near.2)

-- so the cell of an event that may come about is
pub told_runs : (b : Board) → CellsAscend 1 b.cells → All (λ (c : Cell). (c.scope ≡ 0) ⊎ (IsTrue (is_around holds_cells b c.scope) × (c.scope < c.key))) b.cells
    → (t : Triggered) (c : Cell) → cell_at b t.cell ≡ Some c → IsTrue (fits_trigger b t) → (IsTrue (awaits_event b t c) → IsTrue (is_phase c.phase phases.Active)) → IsTrue (is_phase c.phase phases.Active)
told_runs b up scopes t c found fit runs = ⊎_elim (λ waits. runs (at_cell (awaits_event b t) (cell_at b t.cell) c found waits))
    (λ r. caught_active b up scopes t c r.0 r.1.1 r.2 found) (waits_or_catches (λ (x : Cell). (1 ≤ x.key) × (cell_at b x.key ≡ Some x)) b t (found_here 1 b.cells up) fit)
