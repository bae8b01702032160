use Rattle.zb_tokens.specs.Board.{model_under}
use Rattle.zb_rules.proofs.AppliedLaws.{some_of}
use Rattle.zb_rules.proofs.GatewayLaws.{leaves_one_way, told_once}
use Rattle.zb_rules.proofs.ModelsLaws.{formed_under}
use Rattle.zb_rules.proofs.OwesLaws.{HasModel}
use Rattle.zb_rules.proofs.MadeLaws.{is_keyed}
use Rattle.zb_rules.proofs.SoundLaws.{board_keeps}
use Rattle.zb_tokens.proofs.GameLaws.{found_holds}
use Rattle.zb_rules.proofs.laws.event_gateways_take_one_way.Goals as goal

pub returns-clause-way : goal.returns-clause-way
returns-clause-way c = λ p es board leave cell apply is found gateway fit.
    let k = board_keeps p es board apply is in
    let has = (found_holds (is_keyed leave.key) (HasModel board) board.cells cell k.models found).0 in
    let m = some_of (model_under board cell.definition) has in
    leaves_one_way board leave cell m.0 (formed_under board cell.definition m.0 k.formed m.1) found m.1 gateway fit

pub returns-clause-chosen : goal.returns-clause-chosen
returns-clause-chosen c = told_once
