-- The layout of a process model in JSON (own; the names of elements and attributes are those of BPMN 2.0.2, section 10).
use Rattle.std.specs.Prelude.{ℕ, zero, suc, List, [], ◌∷◌, codes, Bool, false, is_some, Option, Some, None, option_map, option_and_then}
use Rattle.std.specs.Option.{option_map_or}
use Rattle.std.specs.List.{find}
use Rattle.std.specs.Str.{bytes_eq}
use Rattle.serde_json.specs.Data.{Data}
use Rattle.serde_json.specs.Find.{get, as_str, as_bool}
use Rattle.zb_reader.specs.Place.{here_unless, place_in_list}
use Rattle.zb_reader.specs.Leaves.{is_short, is_between, is_source}
use Rattle.zb_reader.specs.Rows.{RowRule, ShapeRule, must_have, may_have, may_choose, place_in_object}
use Rattle.zb_reader.specs.declared.table.Leaf.{Leaf}
use Rattle.zb_reader.specs.declared.table.Leaf.TheVariants as leaves
use Rattle.zb_reader.specs.declared.table.Part.{Part}
use Rattle.zb_reader.specs.declared.table.Part.TheVariants as parts
use Rattle.zb_reader.specs.declared.table.Content.{Content}
use Rattle.zb_reader.specs.declared.table.Content.TheVariants as contents
use Rattle.zb_reader.specs.declared.table.Choice.{Choice}
use Rattle.zb_reader.specs.declared.table.Choice.TheVariants as choices

-- an id or a name has at most so many bytes (own)
abbrev pub longest_id : ℕ
longest_id = 255

-- and another text (own)
abbrev pub longest_other : ℕ
longest_other = 32768

-- an id or a name
abbrev pub an_id : Content
an_id = contents.Leaf (leaves.Text longest_id)

-- a truth value
abbrev pub a_flag : Content
a_flag = contents.Leaf leaves.Flag

-- a text that stands for an expression
abbrev pub a_source : Content
a_source = contents.Leaf (leaves.Source longest_other)

-- the field that has the definition of a timer (BPMN 2.0.2, 10.5.5)
abbrev pub timer : List ℕ
timer = codes "timerEventDefinition"

-- that of a message (BPMN 2.0.2, 10.5.5)
abbrev pub message : List ℕ
message = codes "messageEventDefinition"

-- that of an error (BPMN 2.0.2, 10.5.5)
abbrev pub error : List ℕ
error = codes "errorEventDefinition"

-- that of a compensation (BPMN 2.0.2, 10.5.5)
abbrev pub compensate : List ℕ
compensate = codes "compensateEventDefinition"

-- that of a termination (BPMN 2.0.2, 10.5.5)
abbrev pub terminate : List ℕ
terminate = codes "terminateEventDefinition"

-- the field that has the runs of an activity (BPMN 2.0.2, 10.3.8)
abbrev pub multi_instance : List ℕ
multi_instance = codes "multiInstanceLoopCharacteristics"

-- what an activity has beside its own fields (BPMN 2.0.2, 10.3.1)
abbrev pub activity_rows : List RowRule
activity_rows =
    may_have (codes "inputs") (contents.Items parts.Mapping)
    ∷ may_have (codes "outputs") (contents.Items parts.Mapping)
    ∷ may_have multi_instance (contents.Object parts.Multi)
    ∷ []

-- the fields of a node, those of its element behind what each node has
abbrev pub node_rows : List RowRule → List RowRule
node_rows own =
    must_have (codes "id") an_id
    ∷ must_have (codes "kind") (contents.Leaf leaves.Element)
    ∷ may_have (codes "parent") an_id
    ∷ own

-- an element that a node may be: its name, and the fields of such a node
pub record Element : Type 0 where
  pub name : List ℕ
  pub shape : ShapeRule

-- an element of this name, with its choice and its own fields
abbrev pub element : List ℕ → Choice → List RowRule → Element
element name choice own = record { name = name; shape = record { rows = node_rows own; choice = choice } }

-- the elements (BPMN 2.0.2, 10.3 to 10.6)
abbrev pub elements : List Element
elements =
    element (codes "startEvent") choices.Free (may_have message (contents.Object parts.NamedMessage) ∷ [])
    ∷ element (codes "endEvent") choices.AtMostOne (
    may_choose terminate (contents.Object parts.Nothing)
    ∷ may_choose compensate (contents.Object parts.Nothing)
    ∷ [])
    ∷ element (codes "serviceTask") choices.Free (
    must_have (codes "type") an_id
    ∷ may_have (codes "retries") (contents.Leaf (leaves.Number 1 1000000))
    ∷ may_have (codes "isForCompensation") a_flag
    ∷ activity_rows)
    ∷ element (codes "receiveTask") choices.Free (must_have message (contents.Object parts.KeyedMessage) ∷ activity_rows)
    ∷ element (codes "subProcess") choices.Free activity_rows
    ∷ element (codes "exclusiveGateway") choices.Free (may_have (codes "default") an_id ∷ [])
    ∷ element (codes "parallelGateway") choices.Free []
    ∷ element (codes "eventBasedGateway") choices.Free []
    ∷ element (codes "intermediateCatchEvent") choices.One (
    may_choose timer (contents.Object parts.Timer)
    ∷ may_choose message (contents.Object parts.KeyedMessage)
    ∷ [])
    ∷ element (codes "intermediateThrowEvent") choices.Free (may_have compensate (contents.Object parts.Nothing) ∷ [])
    ∷ element (codes "boundaryEvent") choices.One (
    must_have (codes "attachedToRef") an_id
    ∷ may_have (codes "cancelActivity") a_flag
    ∷ may_choose timer (contents.Object parts.Timer)
    ∷ may_choose message (contents.Object parts.KeyedMessage)
    ∷ may_choose error (contents.Object parts.Error)
    ∷ may_choose compensate (contents.Object parts.Handler)
    ∷ [])
    ∷ []

-- the fields of a node that is the element of this name
unfoldable pub shape_named : List ℕ → Option ShapeRule
shape_named name = option_map (λ e. e.shape) (find (λ e. bytes_eq name e.name) elements)

-- fields without a choice among them
abbrev pub free : List RowRule → ShapeRule
free rows = record { rows = rows; choice = choices.Free }

-- a node whose kind is no element has the fields that each node has
abbrev pub node_shape : Option ShapeRule → ShapeRule
node_shape None = free (node_rows [])
node_shape (Some shape) = shape

-- the fields of the element that a node names
abbrev pub shape_at_kind : Data → Option ShapeRule
shape_at_kind d = option_and_then shape_named (option_and_then as_str (get (codes "kind") d))

-- the fields of an object
abbrev pub shape_of : Part → Data → ShapeRule
shape_of parts.Model d = free (
    must_have (codes "process") an_id
    ∷ may_have (codes "versionTag") (contents.Leaf (leaves.Text longest_other))
    ∷ must_have (codes "nodes") (contents.Items parts.Node)
    ∷ must_have (codes "flows") (contents.Items parts.Flow)
    ∷ [])
shape_of parts.Node d = node_shape (shape_at_kind d)
shape_of parts.Flow d = free (
    must_have (codes "id") an_id
    ∷ must_have (codes "sourceRef") an_id
    ∷ must_have (codes "targetRef") an_id
    ∷ may_have (codes "conditionExpression") a_source
    ∷ [])
shape_of parts.Mapping d = free (must_have (codes "source") a_source ∷ must_have (codes "target") an_id ∷ [])
shape_of parts.Multi d = free (
    may_have (codes "isSequential") a_flag
    ∷ must_have (codes "inputCollection") a_source
    ∷ must_have (codes "inputElement") an_id
    ∷ [])
shape_of parts.NamedMessage d = free (must_have (codes "name") an_id ∷ [])
shape_of parts.KeyedMessage d = free (
    must_have (codes "name") an_id
    ∷ must_have (codes "correlationKey") (contents.Leaf (leaves.Source longest_id))
    ∷ [])
shape_of parts.Timer d = record {
  rows = may_choose (codes "timeDate") a_source ∷ may_choose (codes "timeDuration") a_source ∷ [];
  choice = choices.One;
}
shape_of parts.Error d = free (may_have (codes "errorCode") an_id ∷ [])
shape_of parts.Handler d = free (must_have (codes "handler") an_id ∷ [])
shape_of parts.Nothing d = free []

-- what a field may hold that is neither an object nor a list
abbrev pub is_leaf : Leaf → Data → Bool
is_leaf (leaves.Text most) d = is_short most d
is_leaf leaves.Flag d = is_some (as_bool d)
is_leaf (leaves.Number least most) d = is_between least most d
is_leaf (leaves.Source most) d = option_map_or (is_source most) (as_str d) false
is_leaf leaves.Element d = is_some (option_and_then shape_named (as_str d))

-- where a value fails to be such a content, by where it fails to be a part
abbrev pub place_in_content : (Part → Data → Option (List ℕ)) → Content → Data → Option (List ℕ)
place_in_content inner (contents.Leaf leaf) d = here_unless (is_leaf leaf d)
place_in_content inner (contents.Object part) d = inner part d
place_in_content inner (contents.Items part) d = place_in_list (inner part) d

-- where a value fails to be a part that has so few parts within one another
unfoldable pub place_in_part : ℕ → Part → Data → Option (List ℕ)
place_in_part zero part d = None
place_in_part (suc n) part d = place_in_object (place_in_content (place_in_part n)) (shape_of part d) d

-- where a value fails to be a model, in whose nodes stand parts that have no others: the first place in the order of the
-- document; None where it is one
unfoldable pub place_in_model : Data → Option (List ℕ)
place_in_model d = place_in_part 3 parts.Model d
