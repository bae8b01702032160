use Rattle.zb_tokens.proofs.MappingLaws.{values_mapped, first_fault_mapped}
use Rattle.zb_tokens.proofs.laws.mappings_are_evaluated_first.Goals as goal

pub returns-clause-values : goal.returns-clause-values
returns-clause-values c = values_mapped

pub returns-clause-fault : goal.returns-clause-fault
returns-clause-fault c = first_fault_mapped
