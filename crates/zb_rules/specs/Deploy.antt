-- Deploying a model (own; the records as in Zeebe).
use Rattle.std.specs.Prelude.{ℕ, ◌+◌, ◌-◌, ◌^◌, min, List, [], ◌∷◌, map, Option, option_map}
use Rattle.std.specs.List.{range_with_len}
use Rattle.zb_process.specs.declared.model.Model.{Model}
use Rattle.zb_model.specs.declared.record.Event.{Event}
use Rattle.zb_model.specs.declared.record.Event.TheVariants as events
use Rattle.zb_model.specs.declared.record.Rejection.{Rejection}
use Rattle.zb_model.specs.declared.record.RejectionKind.TheVariants as kinds
use Rattle.zb_views.specs.View.{next_key}
use Rattle.zb_views.specs.Definitions.{definitions, greatest_version}
use Rattle.zb_faults.specs.Faults.{first_fault, fault_text}
use Rattle.zb_rules.specs.Making.{Making, and_then}

-- why it is rejected: the model has a fault
abbrev pub reason_to_deploy : Model → Option Rejection
reason_to_deploy m = option_map (λ found. record { kind = kinds.InvalidArgument; reason = fault_text found.0 found.1 }) (first_fault m)

-- the version behind this one; it stands still at the greatest number of 32 bits
abbrev pub version_behind : ℕ → ℕ
version_behind version = min (version + 1) (2 ^ 32 - 1)

-- the definition has a fresh key and the next version of its process
abbrev pub definition_of : ℕ → Model → Making
definition_of p m before = events.ProcessCreated (record { key = next_key p before; version = version_behind (greatest_version m.process (definitions before)); model = m }) ∷ []

-- the deployment of a definition has a key of its own (Zeebe, the records)
abbrev pub deployment_of : ℕ → ℕ → Making
deployment_of p definition before = events.DeploymentCreated (record { key = next_key p before; definition = definition }) ∷ []

-- the definition sets out for a partition (Zeebe, the records)
abbrev pub sent_to : (definition partition : ℕ) → Event
sent_to definition partition = events.CommandDistributionDistributing (record { key = definition; partition = partition })

-- and so it does for each of n partitions but the first
abbrev pub sent_to_all : (definition n : ℕ) → List Event
sent_to_all definition n = map (sent_to definition) (range_with_len 2 (n - 1))

-- the definition, then its deployment, and then it sets out for the other ones of n partitions
abbrev pub deployed : (p n : ℕ) → Model → Making
deployed p n m before = let definition = next_key p before in and_then (definition_of p m) (and_then (deployment_of p definition) (λ so_far. sent_to_all definition n)) before
