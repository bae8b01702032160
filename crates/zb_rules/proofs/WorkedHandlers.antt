-- Handlers, worked out by hand: two tasks that have finished are undone behind a compensation event, the last one first; and what no request makes.
use Rattle.std.proofs.Common.{◌≡◌, ℕ, ◌+◌, List, [], ◌∷◌, ◌++◌, Bool, true, false, None, refl}
use Rattle.std.specs.Prelude.{codes}
use Rattle.zb_process.specs.declared.model.Model.{Model}
use Rattle.zb_process.specs.declared.model.Node.{Node}
use Rattle.zb_process.specs.declared.model.NodeKind.TheVariants as kinds
use Rattle.zb_instance_records.specs.declared.instance.Role.TheVariants as roles
use Rattle.zb_model.specs.declared.record.Event.{Event}
use Rattle.zb_model.specs.declared.record.Event.TheVariants as events
use Rattle.zb_faults.specs.Faults.{first_fault}
use Rattle.zb_rules.specs.Applies.{all_apply}
use Rattle.zb_rules.specs.Settling.{turn}
use Rattle.zb_rules.proofs.WorkedRuns.{key, node, begins, opens, taken, ends, passes, turns, many}

-- a task whose jobs have this type, or a handler that is one
abbrev task : List ℕ → List ℕ → Bool → Node
task id type handler = record (node [] id kinds.ServiceTask None) { name = type; retries = 3; handler = handler }

-- the compensation event at the boundary of a task, which names its handler
abbrev undone_by : List ℕ → List ℕ → List ℕ → Node
undone_by id attached handler = record (node [] id kinds.CompensationBoundaryEvent None) { attached = attached; name = handler }

-- the trip: a room and then a car are booked, and both are undone at the end
abbrev trip : Model
trip = record {
  process = codes "p";
  tag = [];
  nodes = node [] (codes "s") kinds.StartEvent None
      ∷ task (codes "a") (codes "room") false
      ∷ undone_by (codes "c") (codes "a") (codes "y")
      ∷ task (codes "y") (codes "no room") true
      ∷ task (codes "b") (codes "car") false
      ∷ undone_by (codes "d") (codes "b") (codes "z")
      ∷ task (codes "z") (codes "no car") true
      ∷ node [] (codes "e") kinds.CompensationEndEvent None
      ∷ [];
  flows = record { id = codes "f"; from = codes "s"; to = codes "a"; condition = None }
      ∷ record { id = codes "g"; from = codes "a"; to = codes "b"; condition = None }
      ∷ record { id = codes "h"; from = codes "b"; to = codes "e"; condition = None }
      ∷ [];
}

trip_is_good : first_fault trip ≡ None
unfolding first_fault
trip_is_good = refl

abbrev job : ℕ → ℕ → List ℕ → Event
job under cell type = events.JobCreated (record { key = under; cell = cell; kind = type; retries = 3 })

-- a task begins, and waits for its job
abbrev waits : ℕ → List ℕ → List ℕ → List ℕ → List Event
waits cell id via type = begins roles.Plain (key cell) (key 3) id via ∷ opens (key cell) [] ∷ job (key (cell + 1)) (key cell) type ∷ []

-- so does a handler, in the compensation event
abbrev undoes : ℕ → List ℕ → List ℕ → List Event
undoes cell id type = begins roles.Handler (key cell) (key 9) id [] ∷ opens (key cell) [] ∷ job (key (cell + 1)) (key cell) type ∷ []

-- a worker does its job
abbrev works : ℕ → List ℕ → List ℕ → List Event
works under id type =
    events.JobActivated (record { key = key under; worker = codes "w"; deadline = 60; instance = key 3; node = id; kind = type; retries = 3; variables = [] })
    ∷ events.JobCompleted (key under) ∷ []

-- an instance waits for the room, and then for the car
abbrev begun : List Event
begun =
    events.ProcessCreated (record { key = key 1; version = 1; model = trip }) ∷ events.DeploymentCreated (record { key = key 2; definition = key 1 })
    ∷ events.ProcessInstanceCreationCreated (record { key = key 3; definition = key 1 }) ∷ begins roles.Plain (key 3) 0 (codes "p") []
    ∷ opens (key 3) [] ∷ passes (key 4) (key 3) (codes "s") [] (codes "f" ∷ []) ++ (taken (key 4) (codes "f") ∷ waits 5 (codes "a") (codes "f") (codes "room"))

abbrev booked : List Event
booked = begun ++ (works 6 (codes "a") (codes "room") ++ (ends (key 5) (codes "g" ∷ []) ++ (taken (key 5) (codes "g") ∷ waits 7 (codes "b") (codes "g") (codes "car") ++ works 8 (codes "b") (codes "car"))))

-- the car is undone first
abbrev to_car : List Event
to_car = ends (key 7) (codes "h" ∷ []) ++ (taken (key 7) (codes "h") ∷ begins roles.Plain (key 9) (key 3) (codes "e") (codes "h") ∷ opens (key 9) [] ∷ undoes 10 (codes "z") (codes "no car"))

car_first : turns many booked ≡ to_car
unfolding turn
car_first = refl

-- then the room
abbrev no_car : List Event
no_car = booked ++ (to_car ++ works 11 (codes "z") (codes "no car"))

abbrev to_room : List Event
to_room = ends (key 10) [] ++ undoes 12 (codes "y") (codes "no room")

then_room : turns many no_car ≡ to_room
unfolding turn
then_room = refl

-- and with both the event completes, and its instance
abbrev no_room : List Event
no_room = no_car ++ (to_room ++ works 13 (codes "y") (codes "no room"))

then_end : turns many no_room ≡ ends (key 12) [] ++ (ends (key 9) [] ++ ends (key 3) [])
unfolding turn
then_end = refl

all_applies : all_apply 1 [] (no_room ++ (ends (key 12) [] ++ (ends (key 9) [] ++ ends (key 3) []))) ≡ true
unfolding first_fault
all_applies = refl

-- no handler runs in the order of finishing, none runs twice, and none of an activity that never finished
abbrev at_event : List Event
at_event = booked ++ (ends (key 7) (codes "h" ∷ []) ++ (taken (key 7) (codes "h") ∷ begins roles.Plain (key 9) (key 3) (codes "e") (codes "h") ∷ opens (key 9) [] ∷ []))

not_in_order : all_apply 1 at_event (undoes 10 (codes "y") (codes "no room")) ≡ false
not_in_order = refl

not_twice : all_apply 1 (no_car ++ ends (key 10) []) (undoes 12 (codes "z") (codes "no car")) ≡ false
not_twice = refl

not_beside : all_apply 1 (booked ++ to_car) (undoes 12 (codes "y") (codes "no room")) ≡ false
not_beside = refl

-- and the event doesn't complete before its handlers have
no_early_end : all_apply 1 at_event (events.ElementCompleting (key 9) ∷ []) ≡ false
no_early_end = refl

no_early_end_still : all_apply 1 (booked ++ to_car) (events.ElementCompleting (key 9) ∷ []) ≡ false
no_early_end_still = refl
