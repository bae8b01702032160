-- The kind of a node, by its element and the definition that it has.
use Rattle.std.specs.Prelude.{ℕ, List, [], ◌∷◌, map, codes, Bool, ◌&&◌, is_some, Option, Some, option_map, option_and_then, unwrap_or}
use Rattle.std.specs.List.{find}
use Rattle.std.specs.Str.{bytes_eq}
use Rattle.serde_json.specs.Data.{Data}
use Rattle.serde_json.specs.Find.{get, as_str}
use Rattle.zb_process.specs.declared.model.NodeKind.{NodeKind}
use Rattle.zb_process.specs.declared.model.NodeKind.TheVariants as kinds
use Rattle.zb_reader.specs.Shapes.{timer, message, error, compensate, terminate}
use Rattle.zb_reader.specs.declared.kinds.KindRow.{KindRow}

-- the value that fields lead to, one within the other
abbrev pub value_within : List (List ℕ) → Data → Option Data
value_within [] d = Some d
value_within (name ∷ names) d = option_and_then (value_within names) (get name d)

-- the text that fields lead to
abbrev pub text_within : List (List ℕ) → Data → Option (List ℕ)
text_within names d = option_and_then as_str (value_within names d)

-- the text of a field, and the empty one where it isn't there
abbrev pub text_in : List ℕ → Data → List ℕ
text_in field d = unwrap_or (option_and_then as_str (get field d)) []

-- a kind of nodes: the name of its element, and the fields that lead to the definition that such a node has
pub record KindRule : Type 0 where
  pub element : List ℕ
  pub path : List (List ℕ)
  pub kind : NodeKind

-- a kind by its element and its definition
abbrev pub kind_by : List ℕ → List (List ℕ) → NodeKind → KindRule
kind_by element path kind = record { element = element; path = path; kind = kind }

-- the kinds (BPMN 2.0.2, 10.3 to 10.6); a kind by the element alone stands behind those that have a definition
abbrev pub kind_rules : List KindRule
kind_rules =
    kind_by (codes "startEvent") (message ∷ []) kinds.MessageStartEvent
    ∷ kind_by (codes "startEvent") [] kinds.StartEvent
    ∷ kind_by (codes "endEvent") (terminate ∷ []) kinds.TerminateEndEvent
    ∷ kind_by (codes "endEvent") (compensate ∷ []) kinds.CompensationEndEvent
    ∷ kind_by (codes "endEvent") [] kinds.EndEvent
    ∷ kind_by (codes "serviceTask") [] kinds.ServiceTask
    ∷ kind_by (codes "receiveTask") [] kinds.ReceiveTask
    ∷ kind_by (codes "subProcess") [] kinds.SubProcess
    ∷ kind_by (codes "exclusiveGateway") [] kinds.ExclusiveGateway
    ∷ kind_by (codes "parallelGateway") [] kinds.ParallelGateway
    ∷ kind_by (codes "eventBasedGateway") [] kinds.EventBasedGateway
    ∷ kind_by (codes "intermediateCatchEvent") (timer ∷ codes "timeDate" ∷ []) kinds.DateCatchEvent
    ∷ kind_by (codes "intermediateCatchEvent") (timer ∷ codes "timeDuration" ∷ []) kinds.DurationCatchEvent
    ∷ kind_by (codes "intermediateCatchEvent") (message ∷ []) kinds.MessageCatchEvent
    ∷ kind_by (codes "intermediateThrowEvent") (compensate ∷ []) kinds.CompensationThrowEvent
    ∷ kind_by (codes "intermediateThrowEvent") [] kinds.ThrowEvent
    ∷ kind_by (codes "boundaryEvent") (timer ∷ codes "timeDate" ∷ []) kinds.DateBoundaryEvent
    ∷ kind_by (codes "boundaryEvent") (timer ∷ codes "timeDuration" ∷ []) kinds.DurationBoundaryEvent
    ∷ kind_by (codes "boundaryEvent") (message ∷ []) kinds.MessageBoundaryEvent
    ∷ kind_by (codes "boundaryEvent") (error ∷ []) kinds.ErrorBoundaryEvent
    ∷ kind_by (codes "boundaryEvent") (compensate ∷ []) kinds.CompensationBoundaryEvent
    ∷ []

-- a kind of the code's table
abbrev pub kind_rule : KindRow → KindRule
kind_rule r = kind_by r.0.now (map (λ name. name.now) r.1.now) r.2

-- a node is of the element, and has the definition
abbrev pub is_of_kind : Data → KindRule → Bool
is_of_kind d r = bytes_eq (text_in (codes "kind") d) r.element && is_some (value_within r.path d)

-- the first of some kinds that a node is of
abbrev pub kind_among : List KindRule → Data → Option NodeKind
kind_among rules d = option_map (λ r. r.kind) (find (is_of_kind d) rules)

-- the kind of a node
unfoldable pub kind_in : Data → Option NodeKind
kind_in d = kind_among kind_rules d
