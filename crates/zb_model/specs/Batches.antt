-- The layouts of outcomes and batches.
use Rattle.std.proofs.Common.{refl}
use Rattle.zb_format.specs.Kinds.{Kinds, no_kind, one_kind, told_of_kind, of_kinds}
use Rattle.zb_format.specs.KindsLaws.{again}
use Rattle.zb_format.specs.Layout.{Layout, both, made, long}
use Rattle.zb_model.specs.Layouts.{command}
use Rattle.zb_model.specs.Outcomes.{outcome_kinds, outcome_told}
use Rattle.zb_model.specs.OutcomeLaws.{outcome_back}
use Rattle.zb_model.specs.declared.record.Outcome.{Outcome}
use Rattle.zb_model.specs.declared.record.Batch.{Batch}

-- what became of a command
unfoldable pub outcome : Layout Outcome
outcome = of_kinds outcome_kinds outcome_told (λ a. refl, (λ a h. h, (λ a. refl, (λ a h. h, tt)))) outcome_back

-- the fields of a batch
unfoldable pub fields : Layout Batch
fields = made (λ b. (b.moment, (b.begin, (b.command, b.outcome)))) (λ p. record { moment = p.0; begin = p.1.0; command = p.1.1.0; outcome = p.1.1.1 }) (λ b. refl) (λ p. refl) (both long (both long (both command outcome)))

-- the format of batches that there is
abbrev pub formats : Kinds Batch
formats = one_kind 1 (λ b. b) fields no_kind

-- a batch: the byte 1 for this format, its moment, its begin, its command and its outcome
unfoldable pub batch : Layout Batch
batch = of_kinds formats (λ b. told_of_kind 1 fields b) (λ b. refl, (λ b h. h, tt)) (λ b rest h. again formats 1 (λ b. b) fields b rest (λ bytes. refl) h)
