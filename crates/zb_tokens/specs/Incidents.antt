-- What keeps a cell from going on, and the incidents that tell of it (Zeebe, incidents).
use Rattle.std.specs.Prelude.{ℕ, ◌==◌, List, codes, Bool, ◌&&◌, not, is_some, Option}
use Rattle.std.specs.List.{find}
use Rattle.std.specs.Str.{bytes_eq}
use Rattle.zb_process.specs.Expr.{ValueFault, Unknown, Kind, Overflow}
use Rattle.zb_instance_records.specs.declared.happening.IncidentKind.{IncidentKind}
use Rattle.zb_instance_records.specs.declared.happening.IncidentKind.TheVariants as kinds
use Rattle.zb_instance_records.specs.Layouts.{incident_byte}
use Rattle.zb_tokens.specs.declared.board.Cell.{Cell}
use Rattle.zb_tokens.specs.declared.board.Incident.{Incident}
use Rattle.zb_tokens.specs.Board.{Board}

-- why a cell can't go on: what kind of incident it is, and its text (Zeebe, incidents)
pub record Hindrance : Type 0 where
  pub kind : IncidentKind
  pub text : List ℕ

-- the text of a fault (own)
abbrev pub text_of : ValueFault → List ℕ
text_of Unknown = codes "UNKNOWN"
text_of Kind = codes "KIND"
text_of Overflow = codes "OVERFLOW"

-- an expression that has no value keeps a cell from going on, with the text of its fault (Zeebe, incidents)
abbrev pub hindrance_of : ValueFault → Hindrance
hindrance_of fault = record { kind = kinds.ExtractValueError; text = text_of fault }

-- an error that nothing catches keeps a cell from going on, with its code (BPMN 2.0.2, 10.5.7; Zeebe, incidents)
abbrev pub error_hindrance : List ℕ → Hindrance
error_hindrance code = record { kind = kinds.UnhandledErrorEvent; text = code }

-- a job is the cause of an incident: it has no try left (Zeebe, incidents)
abbrev pub is_of_job : Incident → Bool
is_of_job i = not (i.job == 0)

-- the incident with a key
abbrev pub incident_at : Board → ℕ → Option Incident
incident_at b key = find (λ i. i.key == key) b.incidents

-- the incident on the cell with a key
abbrev pub incident_on : Board → ℕ → Option Incident
incident_on b cell = find (λ i. i.cell == cell) b.incidents

-- a cell is stuck: an incident stands on it (Zeebe, incidents)
abbrev pub is_stuck : Board → Cell → Bool
is_stuck b c = is_some (incident_on b c.key)

-- an incident tells of this hindrance
abbrev pub tells_of : Incident → Hindrance → Bool
tells_of i t = (incident_byte i.kind == incident_byte t.kind) && bytes_eq i.text t.text
