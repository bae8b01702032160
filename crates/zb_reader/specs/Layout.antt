-- The model that a JSON value is laid out as.
use Rattle.std.specs.Prelude.{ℕ, List, [], ◌∷◌, codes, Bool, false, min, if◌then◌else◌, Option, option_map, option_and_then, unwrap_or}
use Rattle.std.specs.Option.{option_map_or, option_or}
use Rattle.serde_json.specs.Data.{Data, Items, no_items, item}
use Rattle.serde_json.specs.Find.{get, as_array, as_bool}
use Rattle.zb_process.specs.Tree.{Tree, Text}
use Rattle.zb_process.specs.declared.model.Model.{Model}
use Rattle.zb_process.specs.declared.model.Node.{Node}
use Rattle.zb_process.specs.declared.model.Flow.{Flow}
use Rattle.zb_process.specs.declared.model.Mapping.{Mapping}
use Rattle.zb_process.specs.declared.model.Multi.{Multi}
use Rattle.zb_process.specs.declared.model.NodeKind.TheVariants as kinds
use Rattle.zb_reader.specs.Leaves.{unsigned_of, source_of}
use Rattle.zb_reader.specs.Rows.{has_row}
use Rattle.zb_reader.specs.Shapes.{timer, message, error, compensate, multi_instance, shape_of}
use Rattle.zb_reader.specs.Kinds.{text_in, text_within, kind_in}
use Rattle.zb_reader.specs.declared.table.Part.TheVariants as parts

-- the expression that the text of a field stands for, and that of the empty text where it stands for none
abbrev pub tree_in : List ℕ → Data → Tree
tree_in field d = unwrap_or (source_of (text_in field d)) (Text [])

-- the truth value of a field, and this one where it isn't there
abbrev pub flag_in : List ℕ → Bool → Data → Bool
flag_in field otherwise d = unwrap_or (option_and_then as_bool (get field d)) otherwise

-- what the items are, in order
abbrev pub made_of : {A : Type 0} → (Data → A) → Items → List A
made_of made no_items = []
made_of made (item d ds) = made d ∷ made_of made ds

-- the list of a field, and the empty one where it isn't there
abbrev pub list_at : {A : Type 0} → (Data → A) → List ℕ → Data → List A
list_at made field d = option_map_or (made_of made) (option_and_then as_array (get field d)) []

-- a value for a variable
abbrev pub mapping_in : Data → Mapping
mapping_in d = record { source = tree_in (codes "source") d; target = text_in (codes "target") d }

-- a run for each item of a collection; one run at a time is asked for
abbrev pub multi_in : Data → Multi
multi_in d = record { sequential = flag_in (codes "isSequential") false d; collection = tree_in (codes "inputCollection") d; element = text_in (codes "inputElement") d }

-- a node's element has a field of this name
abbrev pub may_hold : List ℕ → Data → Bool
may_hold field d = has_row (shape_of parts.Node d).rows field

-- the job type, the message name, the error code or the handler
abbrev pub name_in : Data → List ℕ
name_in d =
    unwrap_or (option_or (option_or (option_or (text_within (codes "type" ∷ []) d)
    (text_within (message ∷ codes "name" ∷ []) d))
    (text_within (error ∷ codes "errorCode" ∷ []) d))
    (text_within (compensate ∷ codes "handler" ∷ []) d)) []

-- the text of the correlation key or the time
abbrev pub expr_text : Data → Option (List ℕ)
expr_text d =
    option_or (option_or (text_within (message ∷ codes "correlationKey" ∷ []) d)
    (text_within (timer ∷ codes "timeDate" ∷ []) d))
    (text_within (timer ∷ codes "timeDuration" ∷ []) d)

-- three retries where a node may have them and doesn't say how many (Zeebe)
abbrev pub retries_in : Data → ℕ
retries_in d = min (unwrap_or (option_and_then unsigned_of (get (codes "retries") d)) (if may_hold (codes "retries") d then 3 else 0)) 4294967295

-- the node that a value is; what its kind hasn't is empty
abbrev pub node_in : Data → Node
node_in d = record {
  id = text_in (codes "id") d;
  kind = unwrap_or (kind_in d) kinds.EndEvent;
  parent = text_in (codes "parent") d;
  attached = text_in (codes "attachedToRef") d;
  cancel = flag_in (codes "cancelActivity") (may_hold (codes "cancelActivity") d) d;
  otherwise = text_in (codes "default") d;
  name = name_in d;
  expr = option_and_then source_of (expr_text d);
  retries = retries_in d;
  handler = flag_in (codes "isForCompensation") false d;
  multi = option_map multi_in (get multi_instance d);
  inputs = list_at mapping_in (codes "inputs") d;
  outputs = list_at mapping_in (codes "outputs") d;
}

-- the flow that a value is
abbrev pub flow_in : Data → Flow
flow_in d = record {
  id = text_in (codes "id") d;
  from = text_in (codes "sourceRef") d;
  to = text_in (codes "targetRef") d;
  condition = option_and_then source_of (text_within (codes "conditionExpression" ∷ []) d);
}

-- the model that the fields of a value are
abbrev pub model_in : Data → Model
model_in d = record {
  process = text_in (codes "process") d;
  tag = text_in (codes "versionTag") d;
  nodes = list_at node_in (codes "nodes") d;
  flows = list_at flow_in (codes "flows") d;
}

-- the model that a value is laid out as, where no place fails
unfoldable pub model_of : Data → Model
model_of d = model_in d
