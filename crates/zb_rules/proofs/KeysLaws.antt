-- Laws of the keys of a log whose events apply: those of cells ascend, and lie below the next key.
use Rattle.std.proofs.Common.{◌≡◌, ℕ, ◌+◌, ◌^◌, ◌<◌, ◌≤◌, ◌==◌, List, [], ◌∷◌, ◌++◌, Bool, true, false, ◌&&◌, if◌then◌else◌, IsTrue, Option, Some, None, option_and_then, refl, sym, ap, ◌∙◌, subst, arith}
use Rattle.std.specs.Option.{option_map_or, IfSome}
use Rattle.std.proofs.lemmas.Bool.Decides.{nat_tests}
use Rattle.zb_instance_records.specs.declared.instance.ElementActivating.{ElementActivating}
use Rattle.zb_instance_records.specs.declared.instance.Role.TheVariants as roles
use Rattle.zb_model.specs.declared.record.Event.{Event}
use Rattle.zb_model.specs.declared.record.Event.TheVariants as events
use Rattle.zb_views.specs.View.{counter_at, greatest_among, greatest_counter, next_key}
use Rattle.zb_views.proofs.ViewLaws.{greatest_counter_more, left_more}
use Rattle.zb_views.proofs.CounterLaws.{counter_at-key_of}
use Rattle.zb_views.specs.Jobs.{job_on}
use Rattle.zb_views.specs.declared.job.Job.{Job}
use Rattle.zb_views.specs.Left.{left_told, left, leaves_root}
use Rattle.zb_views.specs.declared.left.Left.{Left}
use Rattle.zb_views.specs.declared.left.Left.TheVariants as lefts
use Rattle.zb_views.specs.declared.begun.Begun.{Begun}
use Rattle.zb_tokens.specs.declared.board.Move.{Move}
use Rattle.zb_tokens.specs.declared.board.Move.TheVariants as moves
use Rattle.zb_tokens.specs.Board.{Board, is_role}
use Rattle.zb_tokens.specs.Game.{empty_board}
use Rattle.zb_tokens.proofs.GameLaws.{both_left, both_right}
use Rattle.zb_views.specs.Jobs.{job_at}
use Rattle.zb_rules.proofs.GrowthLaws.{job_shows, started, cell_shows}
use Rattle.zb_rules.specs.Shown.{shown, move_of_cell, after_shown, board_of}
use Rattle.zb_rules.specs.Applies.{is_fresh, begins_instance, begins_cell, begins_well, all_apply}
use Rattle.zb_rules.proofs.CellsLaws.{Between, between_higher, key_made, between_played}
use Rattle.zb_rules.proofs.AppliedLaws.{Advances, holds_of_all}

-- the next key as a log grows
pub next_key_more : (p : ℕ) (before : List Event) (e : Event) → next_key p before ≤ next_key p (before ++ e ∷ [])
next_key_more p before e = omega (arith, greatest_counter_more p before (e ∷ []))

-- a fresh key lies below the next one
pub fresh_is : (p : ℕ) (before : List Event) (key : ℕ) → IsTrue (is_fresh p before key) → (greatest_counter p before + 1 < 2 ^ 51) × (key ≡ next_key p before)
fresh_is p before key fresh = grind (arith, nat_tests)

-- once an event has named a fresh key, that lies below the next one
pub fresh_below : (p : ℕ) (before : List Event) (e : Event) (key : ℕ) → IsTrue (is_fresh p before key) → counter_at p key ≤ greatest_counter p (e ∷ []) → key < next_key p (before ++ e ∷ [])
fresh_below p before e key fresh named =
    let f = fresh_is p before key fresh in
    let counted : counter_at p (next_key p before) ≡ greatest_counter p before + 1 = counter_at-key_of p (greatest_counter p before + 1) f.0 in
    let its : counter_at p key ≡ greatest_counter p before + 1 = subst (λ (k : ℕ). counter_at p k ≡ greatest_counter p before + 1) (sym f.1) counted in
    omega (arith, f.1, its, greatest_counter_more p before (e ∷ []))

-- the counter of the first key is at most the greatest
pub first_named : (p key : ℕ) (keys : List ℕ) → counter_at p key ≤ greatest_among p (key ∷ keys)
first_named p key keys = omega arith

last_named : (p first second key : ℕ) → counter_at p key ≤ greatest_among p (first ∷ second ∷ key ∷ [])
last_named p first second key = omega arith

-- the keys of the cells of a board of a log ascend, and lie below the next key; those before an instance that begins, below its key
pub record HasOrderedCells (p : ℕ) (es : List Event) (b : Board) : Type 0 where
  pub between : Between 1 (next_key p es) b.cells
  pub begins : (i : Begun) → left es ≡ lefts.Root i → Between 1 i.key b.cells × (i.key < next_key p es)

between_shown : (low high : ℕ) (b after : Board) (move : Option Move) (top : ℕ) → Between low high b.cells → high ≤ top
    → IfSome (option_and_then key_made move) (λ key. (high ≤ key) × (key < top)) → after_shown b move ≡ Some after → Between low top after.cells
between_shown low high b after None top is more new made = between_higher low high top after.cells more (let same : b ≡ after = cc in subst (λ (x : Board). Between low high x.cells) same is)
between_shown low high b after (Some move) top is more new made = between_played low high b is after move top more new made

pub begun_is : (key definition : ℕ) (found : Left) → IsTrue (leaves_root key definition found) → (i : Begun) × (found ≡ lefts.Root i) × (i.key ≡ key)
begun_is key definition lefts.Nothing is = absurd (cc)
begun_is key definition (lefts.Cancels job) is = absurd (cc)
begun_is key definition (lefts.Deletes s) is = absurd (cc)
begun_is key definition (lefts.Root i) is = (i, refl, let first = both_left (i.key == key) (i.definition == definition) is in grind (arith, nat_tests))

-- a cell that begins
module _ (p : ℕ) (before : List Event) (b after : Board) (a : ElementActivating) (s : HasOrderedCells p before b) where
  activating_by : (t : Bool) → IsTrue (if t then begins_instance before a else begins_cell p before a)
      → after_shown b (if t then Some (moves.Start (started a)) else Some (move_of_cell a a.role)) ≡ Some after
      → Between 1 (next_key p (before ++ events.ElementActivating a ∷ [])) after.cells
  activating_by true begins made =
      let r = begun_is a.key a.definition (left before) (both_left (leaves_root a.key a.definition (left before)) _ (both_left _ _ (both_left _ _ begins))) in
      let k = s.begins r.0 r.1 in
      let more = next_key_more p before (events.ElementActivating a) in
      between_played 1 r.0.key b k.0 after (moves.Start (started a)) (next_key p (before ++ events.ElementActivating a ∷ [])) (omega (arith, k.1, more)) (omega (arith, r.2), omega (arith, r.2, k.1, more)) made
  activating_by false begins made =
      let fresh = both_left (is_fresh p before a.key) _ (both_left _ _ begins) in
      let f = fresh_is p before a.key fresh in
      let below = fresh_below p before (events.ElementActivating a) a.key fresh (first_named p a.key (a.scope ∷ a.definition ∷ [])) in
      let top = next_key p (before ++ events.ElementActivating a ∷ []) in
      let new : (next_key p before ≤ a.key) × (a.key < top) = (omega (arith, f.1), below) in
      between_played 1 (next_key p before) b s.between after (move_of_cell a a.role) top (next_key_more p before (events.ElementActivating a))
      (cell_shows (λ (m : Move). IfSome (key_made m) (λ key. (next_key p before ≤ key) × (key < top))) a a.role new new new) made

-- what a cell that begins well meets: a root comes behind its instance, another cell in a scope
pub begins_by : (p : ℕ) (before : List Event) (a : ElementActivating) → IsTrue (begins_well p before a) → IsTrue (if a.scope == 0 then begins_instance before a else begins_cell p before a)
begins_by p before a h = by_test (a.scope == 0) h
  where
    by_test : (t : Bool) → IsTrue (if t then is_role a.role roles.Plain && begins_instance before a else begins_cell p before a) → IsTrue (if t then begins_instance before a else begins_cell p before a)
    by_test true h = both_right (is_role a.role roles.Plain) _ h
    by_test false h = h

keys_between : (p : ℕ) (before : List Event) (b : Board) (e : Event) (after : Board) → Advances p before b e after → HasOrderedCells p before b → Between 1 (next_key p (before ++ e ∷ [])) after.cells
keys_between p before b (events.ElementActivating a) after h s = activating_by p before b after a s (a.scope == 0) (begins_by p before a h.own) h.leads
keys_between p before b (events.JobCompleted key) after h s =
    let e = events.JobCompleted key in
    between_shown 1 (next_key p before) b after (shown before e) (next_key p (before ++ e ∷ [])) s.between (next_key_more p before e) (job_shows (λ (m : Option Move). IfSome (option_and_then key_made m) (λ key. (next_key p before ≤ key) × (key < next_key p (before ++ e ∷ [])))) (λ j. moves.Done j.cell) (job_at key before) tt (λ j. tt)) h.leads
keys_between p before b (events.JobErrorThrown t) after h s =
    let e = events.JobErrorThrown t in
    between_shown 1 (next_key p before) b after (shown before e) (next_key p (before ++ e ∷ [])) s.between (next_key_more p before e) (job_shows (λ (m : Option Move). IfSome (option_and_then key_made m) (λ key. (next_key p before ≤ key) × (key < next_key p (before ++ e ∷ [])))) (λ j. moves.Throw (record { cell = j.cell; code = t.code })) (job_at t.key before) tt (λ j. tt)) h.leads
keys_between p before b e after h s = between_shown 1 (next_key p before) b after (shown before e) (next_key p (before ++ e ∷ [])) s.between (next_key_more p before e) tt h.leads

abbrev pub root_key : Left → ℕ
root_key (lefts.Root i) = i.key
root_key other = 0

-- a cancel is no root
pub no_root : (found : Option Job) (i : Begun) → option_map_or (λ (j : Job). lefts.Cancels j.key) found lefts.Nothing ≡ lefts.Root i → ⊥
no_root None i is = cc
no_root (Some j) i is = cc

keys_begin : (p : ℕ) (before : List Event) (b : Board) (e : Event) (after : Board) → Advances p before b e after → HasOrderedCells p before b → (i : Begun) → left_told before e ≡ lefts.Root i → Between 1 i.key after.cells × (i.key < next_key p (before ++ e ∷ []))
keys_begin p before b (events.ProcessInstanceCreationCreated c) after h s i is =
    let fresh = both_left (is_fresh p before c.key) _ h.own in
    let f = fresh_is p before c.key fresh in
    let below = fresh_below p before (events.ProcessInstanceCreationCreated c) c.key fresh (first_named p c.key (c.definition ∷ [])) in
    let same : b ≡ after = (let led : Some b ≡ Some after = h.leads in cc) in
    let its : c.key ≡ i.key = ap root_key is in
    (subst (λ (x : Board). Between 1 i.key x.cells) same (subst (λ (k : ℕ). Between 1 k b.cells) (sym f.1 ∙ its) s.between), omega (arith, below, its))
keys_begin p before b (events.MessageStartEventSubscriptionCorrelated c) after h s i is =
    let fresh = both_left (is_fresh p before c.instance) _ h.own in
    let f = fresh_is p before c.instance fresh in
    let below = fresh_below p before (events.MessageStartEventSubscriptionCorrelated c) c.instance fresh (last_named p c.message c.definition c.instance) in
    let same : b ≡ after = (let led : Some b ≡ Some after = h.leads in cc) in
    let its : c.instance ≡ i.key = ap root_key is in
    (subst (λ (x : Board). Between 1 i.key x.cells) same (subst (λ (k : ℕ). Between 1 k b.cells) (sym f.1 ∙ its) s.between), omega (arith, below, its))
keys_begin p before b (events.ElementTerminating key) after h s i is = absurd (no_root (job_on key before) i is)
keys_begin p before b e after h s i is = absurd (cc)

-- an event that applies keeps them in order
pub stands_on : (p : ℕ) (before : List Event) (b : Board) (e : Event) (after : Board) → Advances p before b e after → HasOrderedCells p before b → HasOrderedCells p (before ++ e ∷ []) after
stands_on p before b e after h s = record {
  between = keys_between p before b e after h s;
  begins = λ i is. keys_begin p before b e after h s i (sym (left_more before e) ∙ is);
}

-- they are in order where there are none
pub stands_first : (p : ℕ) → HasOrderedCells p [] empty_board
stands_first p = record {
  between = omega arith;
  begins = λ i is. absurd (cc);
}

-- the board of a log whose events apply
pub board_stands : (p : ℕ) (es : List Event) (b : Board) → IsTrue (all_apply p [] es) → board_of es ≡ Some b → HasOrderedCells p es b
board_stands p es b apply is = holds_of_all p (HasOrderedCells p) (stands_on p) es b (stands_first p) apply is
