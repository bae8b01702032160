-- What rests goes on resting, and what is seen or calls off goes on being kept.
use Rattle.std.proofs.Common.{◌≡◌, ℕ, ◌≤◌, ◌==◌, List, Bool, true, false, not, ◌&&◌, ◌||◌, if◌then◌else◌, Option, Some, None, is_some, refl, sym, ap, ◌∙◌, arith}
use Rattle.std.specs.Option.{option_map_or}
use Rattle.std.proofs.lemmas.Bool.Decides.{nat_tests}
use Rattle.zb_process.specs.declared.model.Model.{Model}
use Rattle.zb_tokens.specs.declared.board.Cell.{Cell}
use Rattle.zb_tokens.specs.declared.board.Phase.{Phase}
use Rattle.zb_tokens.specs.declared.board.Phase.TheVariants as phases
use Rattle.zb_tokens.specs.Board.{Board, model_under, is_phase, holds_tokens, is_at, is_body, is_empty, has_child, in_phase, undoes}
use Rattle.zb_tokens.specs.Bodies.{has_item, is_sequential}
use Rattle.zb_tokens.specs.Doom.{calls_off}
use Rattle.zb_tokens.specs.Incidents.{is_stuck}
use Rattle.zb_tokens.specs.Marks.{error_of, has_come_about}
use Rattle.zb_tokens.specs.MoveFinish.{acts_in, rests_at}
use Rattle.zb_board.specs.Indexed.{rests_in, is_resting, is_kept}
use Rattle.zb_board.proofs.TallyLemmas.{child_counted, token_counted, cells_in, tokens_in}

-- a law of tests
pub back : (s t : Bool) → (s ≡ true → t ≡ true) → t ≡ false → s ≡ false
back true t f is = absurd (let it : t ≡ true = f refl in cc)
back false t f is = refl

-- what is in a scope, by its numbers
empty_counted : (b : Board) (scope : ℕ) → is_empty b scope ≡ (not (not (cells_in b scope == 0)) && not (not (tokens_in b scope == 0)))
empty_counted b scope = rw (child_counted b scope, token_counted b scope) refl

-- where something is in a scope on one board, it is so on another one too
abbrev pub IsFuller : Board → Board → ℕ → Type 0
IsFuller b b' scope = (is_empty b scope ≡ false → is_empty b' scope ≡ false) × (has_child b scope ≡ true → has_child b' scope ≡ true)

full_more : (m n m' n' : ℕ) → m ≤ m' → n ≤ n' → (not (not (m == 0)) && not (not (n == 0))) ≡ false → (not (not (m' == 0)) && not (not (n' == 0))) ≡ false
full_more m n m' n' cells tokens some = grind (arith, nat_tests)

child_more : (m m' : ℕ) → m ≤ m' → not (m == 0) ≡ true → not (m' == 0) ≡ true
child_more m m' cells some = grind (arith, nat_tests)

full_some : (m n : ℕ) → (m == 0) ≡ false → (not (not (m == 0)) && not (not (n == 0))) ≡ false
full_some m n some = rw some refl

-- where its numbers don't fall
pub fuller : (b b' : Board) (scope : ℕ) → cells_in b scope ≤ cells_in b' scope → tokens_in b scope ≤ tokens_in b' scope → IsFuller b b' scope
fuller b b' scope cells tokens = (
  λ some. empty_counted b' scope ∙ full_more (cells_in b scope) (tokens_in b scope) (cells_in b' scope) (tokens_in b' scope) cells tokens (sym (empty_counted b scope) ∙ some),
  λ some. child_counted b' scope ∙ child_more (cells_in b scope) (cells_in b' scope) cells (sym (child_counted b scope) ∙ some),
)

-- where a cell is in it
pub fuller_by_child : (b b' : Board) (scope : ℕ) → (cells_in b' scope == 0) ≡ false → IsFuller b b' scope
fuller_by_child b b' scope some = (
  λ _. empty_counted b' scope ∙ full_some (cells_in b' scope) (tokens_in b' scope) some,
  λ _. child_counted b' scope ∙ ap not some,
)

-- a cell that rests goes on resting where its model stays and something stays in it
rests_on : (b b' : Board) (c : Cell) (phase : Phase) → ((m : Model) → model_under b c.definition ≡ Some m → model_under b' c.definition ≡ Some m) → IsFuller b b' c.key → rests_in b c phase ≡ true → rests_in b' c phase ≡ true
rests_on b b' c phases.Activating models full is = is
rests_on b b' c phases.Active models full is = by_error (is_some (error_of c.mark)) is
  where
    by_full : (s t : Bool) → (s ≡ false → t ≡ false) → not s ≡ true → not t ≡ true
    by_full true t f is = absurd (cc)
    by_full false t f is = ap not (f refl)

    by_scope : (m : Model) (t : Bool) → not (if t then is_empty b c.key else has_come_about c.mark || is_at m c.node (rests_at c)) ≡ true → not (if t then is_empty b' c.key else has_come_about c.mark || is_at m c.node (rests_at c)) ≡ true
    by_scope m true is = by_full (is_empty b c.key) (is_empty b' c.key) full.0 is
    by_scope m false is = is

    by_child : (s t : Bool) → (s ≡ true → t ≡ true) → not (not s) ≡ true → not (not t) ≡ true
    by_child true t more is = rw (more refl) refl
    by_child false t more is = absurd (cc)

    by_place : (m : Model) (t : Bool) → not (if t then not (has_child b c.key) else if holds_tokens m c then is_empty b c.key else has_come_about c.mark || is_at m c.node (rests_at c)) ≡ true
        → not (if t then not (has_child b' c.key) else if holds_tokens m c then is_empty b' c.key else has_come_about c.mark || is_at m c.node (rests_at c)) ≡ true
    by_place m true is = by_child (has_child b c.key) (has_child b' c.key) full.1 is
    by_place m false is = by_scope m (holds_tokens m c) is

    by_run : (s t runs : Bool) → (s ≡ true → t ≡ true) → not (not s || runs) ≡ true → not (not t || runs) ≡ true
    by_run true t runs more is = rw (more refl) is
    by_run false t runs more is = absurd (cc)

    by_body : (m : Model) (t : Bool) → not (if t then not (has_child b c.key) || (has_item c && not (is_sequential m c)) else if undoes m c then not (has_child b c.key) else if holds_tokens m c then is_empty b c.key else has_come_about c.mark || is_at m c.node (rests_at c)) ≡ true
        → not (if t then not (has_child b' c.key) || (has_item c && not (is_sequential m c)) else if undoes m c then not (has_child b' c.key) else if holds_tokens m c then is_empty b' c.key else has_come_about c.mark || is_at m c.node (rests_at c)) ≡ true
    by_body m true is = by_run (has_child b c.key) (has_child b' c.key) (has_item c && not (is_sequential m c)) full.1 is
    by_body m false is = by_place m (undoes m c) is

    by_model : (found found' : Option Model) → ((m : Model) → found ≡ Some m → found' ≡ Some m) → option_map_or (λ m. not (acts_in m b c)) found false ≡ true → option_map_or (λ m. not (acts_in m b' c)) found' false ≡ true
    by_model None found' stays is = absurd (cc)
    by_model (Some m) found' stays is = let there : found' ≡ Some m = stays m refl in rw there (by_body m (is_body c) is)

    by_error : (t : Bool) → (not t && option_map_or (λ m. not (acts_in m b c)) (model_under b c.definition) false) ≡ true
        → (not t && option_map_or (λ m. not (acts_in m b' c)) (model_under b' c.definition) false) ≡ true
    by_error true is = absurd (cc)
    by_error false is = by_model (model_under b c.definition) (model_under b' c.definition) models is
rests_on b b' c phases.Completing models full is = is
rests_on b b' c phases.Leaving models full is = is
rests_on b b' c phases.Terminating models full is = full.1 is

-- and where it is stuck, while it is
rest_on : (b b' : Board) (c : Cell) → is_stuck b' c ≡ is_stuck b c → ((m : Model) → model_under b c.definition ≡ Some m → model_under b' c.definition ≡ Some m) → IsFuller b b' c.key → is_resting b c ≡ true → is_resting b' c ≡ true
rest_on b b' c same models full is = by_stuck (is_stuck b' c) (is_stuck b c) same is
  where
    by_stuck : (s t : Bool) → s ≡ t → (t || rests_in b c c.phase) ≡ true → (s || rests_in b' c c.phase) ≡ true
    by_stuck true t same is = refl
    by_stuck false true same is = absurd (cc)
    by_stuck false false same is = rests_on b b' c c.phase models full is

-- a cell is among the ready ones unless it rests
abbrev pub IsSeen : Board → List ℕ → Cell → Type 0
IsSeen b ready c = is_resting b c ≡ false → is_kept ready c.key ≡ true

-- a cell that calls off what is in it is among those that do
abbrev pub IsCalling : List ℕ → Cell → Type 0
IsCalling calling c = calls_off c ≡ true → is_kept calling c.key ≡ true

-- a cell that is seen is seen on another board, where something stays in it, and it is stuck just when it was
pub seen_on : (b b' : Board) (ready ready' : List ℕ) (c : Cell) → is_stuck b' c ≡ is_stuck b c → ((m : Model) → model_under b c.definition ≡ Some m → model_under b' c.definition ≡ Some m) → IsFuller b b' c.key
    → (is_kept ready c.key ≡ true → is_kept ready' c.key ≡ true) → IsSeen b ready c → IsSeen b' ready' c
seen_on b b' ready ready' c same models full still seen moves = still (seen (back _ _ (rest_on b b' c same models full) moves))

-- a cell that was put in a phase calls off what is in it where the phase says so, or where it did before
pub calling_on : (calling calling' : List ℕ) (c : Cell) (phase : Phase) (owed : List (List ℕ)) → ((k : ℕ) → is_kept calling k ≡ true → is_kept calling' k ≡ true) → (is_phase phase phases.Terminating ≡ true → is_kept calling' c.key ≡ true) → IsCalling calling c → IsCalling calling' (in_phase phase owed c)
calling_on calling calling' c phase owed still noted called calls = by_phase (is_phase phase phases.Terminating) calls noted
  where
    or_ending : (t : Bool) → c.ending ≡ true → (t || c.ending) ≡ true
    or_ending true is = refl
    or_ending false is = is

    by_phase : (t : Bool) → (t || c.ending) ≡ true → (t ≡ true → is_kept calling' c.key ≡ true) → is_kept calling' c.key ≡ true
    by_phase true calls noted = noted refl
    by_phase false calls noted = still c.key (called (or_ending (is_phase c.phase phases.Terminating) calls))
