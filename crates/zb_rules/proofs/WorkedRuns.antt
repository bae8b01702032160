-- Runs of bodies, worked out by hand: of a subprocess that runs once for each item of a list, one after the other and side by side, of one without an item, and of one whose collection is no list;
-- of a task with a job for each item; and of what no request makes.
use Rattle.std.proofs.Common.{◌≡◌, ℕ, ℤ, ◌+◌, List, [], ◌∷◌, ◌++◌, Bool, true, false, Option, Some, None, refl}
use Rattle.std.specs.Prelude.{codes, pos}
use Rattle.zb_base.specs.declared.value.Value.{Value}
use Rattle.zb_base.specs.declared.value.Value.TheVariants as values
use Rattle.zb_process.specs.declared.model.Model.{Model}
use Rattle.zb_process.specs.declared.model.Multi.{Multi}
use Rattle.zb_process.specs.declared.model.Node.{Node}
use Rattle.zb_process.specs.declared.model.NodeKind.{NodeKind}
use Rattle.zb_process.specs.declared.model.NodeKind.TheVariants as kinds
use Rattle.zb_process.specs.Tree.{Name}
use Rattle.zb_instance_records.specs.declared.happening.IncidentKind.TheVariants as incidents
use Rattle.zb_instance_records.specs.declared.instance.Role.{Role}
use Rattle.zb_instance_records.specs.declared.instance.Role.TheVariants as roles
use Rattle.zb_model.specs.declared.record.Event.{Event}
use Rattle.zb_model.specs.declared.record.Event.TheVariants as events
use Rattle.zb_faults.specs.Faults.{first_fault}
use Rattle.zb_rules.specs.Applies.{all_apply}
use Rattle.zb_rules.specs.Settling.{turn}

abbrev pub key : ℕ → ℕ
key n = 2251799813685248 + n

abbrev pub node : List ℕ → List ℕ → NodeKind → Option Multi → Node
node parent id kind multi = record { id = id; kind = kind; parent = parent; attached = []; cancel = false; otherwise = []; name = []; expr = None; retries = 0; handler = false; multi = multi; inputs = []; outputs = [] }

-- a subprocess that runs for each item of n, which it has as x: its start event leads to its end event
abbrev runs : Bool → Model
runs sequential = record {
  process = codes "p";
  tag = [];
  nodes = node [] (codes "s") kinds.StartEvent None
      ∷ node [] (codes "u") kinds.SubProcess (Some (record { sequential = sequential; collection = Name (codes "n"); element = codes "x" }))
      ∷ node [] (codes "e") kinds.EndEvent None
      ∷ node (codes "u") (codes "t") kinds.StartEvent None
      ∷ node (codes "u") (codes "d") kinds.EndEvent None
      ∷ [];
  flows = record { id = codes "f"; from = codes "s"; to = codes "u"; condition = None }
      ∷ record { id = codes "h"; from = codes "u"; to = codes "e"; condition = None }
      ∷ record { id = codes "a"; from = codes "t"; to = codes "d"; condition = None }
      ∷ [];
}

runs_are_good : first_fault (runs true) ≡ None
unfolding first_fault
runs_are_good = refl

-- a cell begins in a role
abbrev pub begins : Role → ℕ → ℕ → List ℕ → List ℕ → Event
begins role cell scope id via = events.ElementActivating (record { key = cell; scope = scope; definition = key 1; node = id; role = role; via = via; started = [] })

abbrev pub opens : ℕ → List ℤ → Event
opens cell items = events.ElementActivated (record { key = cell; items = items })

abbrev pub completed : ℕ → List (List ℕ) → Event
completed cell owed = events.ElementCompleted (record { key = cell; owed = owed })

abbrev pub taken : ℕ → List ℕ → Event
taken cell flow = events.SequenceFlowTaken (record { key = cell; flow = flow })

abbrev pub ends : ℕ → List (List ℕ) → List Event
ends cell owed = events.ElementCompleting cell ∷ completed cell owed ∷ []

abbrev pub passes : ℕ → ℕ → List ℕ → List ℕ → List (List ℕ) → List Event
passes cell scope id via owed = begins roles.Plain cell scope id via ∷ opens cell [] ∷ ends cell owed

-- a run begins in the body, for an item
abbrev run_begins : ℕ → ℕ → ℤ → List Event
run_begins cell count item =
    begins roles.Inner cell (key 5) (codes "u") []
    ∷ events.VariableCreated (record { scope = cell; name = codes "loopCounter"; value = values.Int (pos count) })
    ∷ events.VariableCreated (record { scope = cell; name = codes "x"; value = values.Int item })
    ∷ opens cell [] ∷ []

-- an instance with this value of n
abbrev begun : Model → Value → List Event
begun m n =
    events.ProcessCreated (record { key = key 1; version = 1; model = m }) ∷ events.DeploymentCreated (record { key = key 2; definition = key 1 })
    ∷ events.ProcessInstanceCreationCreated (record { key = key 3; definition = key 1 }) ∷ begins roles.Plain (key 3) 0 (codes "p") []
    ∷ events.VariableCreated (record { scope = key 3; name = codes "n"; value = n }) ∷ []

-- it comes to the subprocess, whose body begins
abbrev to_body : List Event
to_body = opens (key 3) [] ∷ passes (key 4) (key 3) (codes "s") [] (codes "f" ∷ []) ++ (taken (key 4) (codes "f") ∷ begins roles.Body (key 5) (key 3) (codes "u") (codes "f") ∷ [])

-- the body ends, and the end event behind it gets this key
abbrev from_body : ℕ → List Event
from_body cell = ends (key 5) (codes "h" ∷ []) ++ (taken (key 5) (codes "h") ∷ passes cell (key 3) (codes "e") (codes "h") [] ++ ends (key 3) [])

-- the turns that follow, at most as many as the fuel has members
abbrev pub turns : List Bool → List Event → List Event
turns [] es = []
turns (more ∷ fuel) es = elim (turn 1 0 es) [
  | None ↦ []
  | Some made ↦ made ++ turns fuel (es ++ made)
]

abbrev pub ten : List Bool → List Bool
ten fuel = true ∷ true ∷ true ∷ true ∷ true ∷ true ∷ true ∷ true ∷ true ∷ true ∷ fuel

abbrev pub many : List Bool
many = ten (ten (ten (ten (ten []))))

abbrev two : Value
two = values.List (pos 7 ∷ pos 9 ∷ [])

-- worked out by hand: the second run begins once the first has completed
abbrev sequential_plays : List Event
sequential_plays =
    to_body
    ++ (opens (key 5) (pos 7 ∷ pos 9 ∷ []) ∷ run_begins (key 6) 1 (pos 7)
    ++ (passes (key 7) (key 6) (codes "t") [] (codes "a" ∷ [])
    ++ (taken (key 7) (codes "a") ∷ passes (key 8) (key 6) (codes "d") (codes "a") []
    ++ (ends (key 6) []
    ++ (run_begins (key 9) 2 (pos 9)
    ++ (passes (key 10) (key 9) (codes "t") [] (codes "a" ∷ [])
    ++ (taken (key 10) (codes "a") ∷ passes (key 11) (key 9) (codes "d") (codes "a") []
    ++ (ends (key 9) []
    ++ from_body (key 12)))))))))

sequential_play : turns many (begun (runs true) two) ≡ sequential_plays
unfolding turn
sequential_play = refl

sequential_applies : all_apply 1 [] (begun (runs true) two ++ sequential_plays) ≡ true
unfolding first_fault
sequential_applies = refl

-- side by side both begin first, and the body completes once both have completed
abbrev parallel_plays : List Event
parallel_plays =
    to_body
    ++ (opens (key 5) (pos 7 ∷ pos 9 ∷ []) ∷ run_begins (key 6) 1 (pos 7)
    ++ (run_begins (key 7) 2 (pos 9)
    ++ (passes (key 8) (key 6) (codes "t") [] (codes "a" ∷ [])
    ++ (taken (key 8) (codes "a") ∷ passes (key 9) (key 7) (codes "t") [] (codes "a" ∷ [])
    ++ (taken (key 9) (codes "a") ∷ passes (key 10) (key 6) (codes "d") (codes "a") []
    ++ (ends (key 6) []
    ++ (passes (key 11) (key 7) (codes "d") (codes "a") []
    ++ (ends (key 7) []
    ++ from_body (key 12)))))))))

parallel_play : turns many (begun (runs false) two) ≡ parallel_plays
unfolding turn
parallel_play = refl

parallel_applies : all_apply 1 [] (begun (runs false) two ++ parallel_plays) ≡ true
unfolding first_fault
parallel_applies = refl

-- where there is no item, the body completes at once
no_item : turns many (begun (runs false) (values.List [])) ≡ to_body ++ (opens (key 5) [] ∷ from_body (key 6))
unfolding turn
no_item = refl

-- a collection that is no list keeps the body from becoming active
no_list : turns many (begun (runs false) (values.Int (pos 7))) ≡ to_body ++ events.IncidentCreated (record { key = key 6; kind = incidents.ExtractValueError; cell = key 5; job = 0; text = codes "KIND" }) ∷ []
unfolding turn
no_list = refl

-- a task that runs for each item of n, side by side
abbrev tasks : Model
tasks = record {
  process = codes "p";
  tag = [];
  nodes = node [] (codes "s") kinds.StartEvent None
      ∷ record (node [] (codes "u") kinds.ServiceTask (Some (record { sequential = false; collection = Name (codes "n"); element = codes "x" }))) { name = codes "pay"; retries = 3 }
      ∷ node [] (codes "e") kinds.EndEvent None
      ∷ [];
  flows = record { id = codes "f"; from = codes "s"; to = codes "u"; condition = None } ∷ record { id = codes "h"; from = codes "u"; to = codes "e"; condition = None } ∷ [];
}

abbrev job : ℕ → ℕ → Event
job under cell = events.JobCreated (record { key = under; cell = cell; kind = codes "pay"; retries = 3 })

-- each run has a job, and its body none
abbrev tasks_play : List Event
tasks_play = to_body ++ (opens (key 5) (pos 7 ∷ pos 9 ∷ []) ∷ run_begins (key 6) 1 (pos 7) ++ (job (key 7) (key 6) ∷ run_begins (key 8) 2 (pos 9) ++ (job (key 9) (key 8) ∷ [])))

tasks_wait : turns many (begun tasks two) ≡ tasks_play
unfolding turn
tasks_wait = refl

tasks_apply : all_apply 1 [] (begun tasks two ++ tasks_play) ≡ true
unfolding first_fault
tasks_apply = refl

-- a run ends with its job, and the body with the last of them
abbrev one_done : List Event
one_done = begun tasks two ++ (tasks_play ++ events.JobCompleted (key 9) ∷ [])

one_ends : turns many one_done ≡ ends (key 8) []
unfolding turn
one_ends = refl

all_end : turns many (one_done ++ (ends (key 8) [] ++ events.JobCompleted (key 7) ∷ [])) ≡ ends (key 6) [] ++ from_body (key 10)
unfolding turn
all_end = refl

-- no third run begins, no second one beside the first where they come one after the other, and no plain cell at a subprocess that runs so
abbrev in_body : Bool → List Event
in_body sequential = begun (runs sequential) two ++ (to_body ++ opens (key 5) (pos 7 ∷ pos 9 ∷ []) ∷ [])

not_beside : all_apply 1 (in_body true ++ run_begins (key 6) 1 (pos 7)) (begins roles.Inner (key 7) (key 5) (codes "u") [] ∷ []) ≡ false
not_beside = refl

no_third : all_apply 1 (in_body false ++ (run_begins (key 6) 1 (pos 7) ++ run_begins (key 7) 2 (pos 9))) (begins roles.Inner (key 8) (key 5) (codes "u") [] ∷ []) ≡ false
no_third = refl

no_early_end : all_apply 1 (in_body true) (events.ElementCompleting (key 5) ∷ []) ≡ false
no_early_end = refl

no_plain : all_apply 1 (begun (runs true) two ++ (opens (key 3) [] ∷ passes (key 4) (key 3) (codes "s") [] (codes "f" ∷ []) ++ (taken (key 4) (codes "f") ∷ []))) (begins roles.Plain (key 5) (key 3) (codes "u") (codes "f") ∷ []) ≡ false
no_plain = refl
