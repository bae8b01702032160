-- Commands whose models are known to have no fault.
use Rattle.std.specs.Prelude.{Bool, true}
use Rattle.zb_faults.specs.Faults.{is_well_formed}
use Rattle.zb_model.specs.declared.record.Command.{Command}
use Rattle.zb_model.specs.declared.record.Command.TheVariants as commands

-- the model that a command deploys, if it deploys one, has no fault (own)
abbrev pub has_no_fault : Command → Bool
has_no_fault (commands.DeploymentCreate m) = is_well_formed m
has_no_fault (commands.DeploymentDistribute c) = is_well_formed c.model
has_no_fault _ = true
