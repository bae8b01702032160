-- How proofs tell boards apart.
use Rattle.std.specs.Prelude.{List, refl}
use Rattle.std.specs.Coded.{Coded, code_by, coded×, coded_list}
use Rattle.zb_tokens.specs.declared.board.Cell.{Cell}
use Rattle.zb_tokens.specs.declared.board.Token.{Token}
use Rattle.zb_tokens.specs.declared.board.Incident.{Incident}
use Rattle.zb_tokens.specs.declared.board.Deployed.{Deployed}
use Rattle.zb_tokens.specs.Board.{Board}

-- a board is stored as its four lists
abbrev pub board_code : Coded Deployed → Coded Cell → Coded Token → Coded Incident → Coded Board
board_code deployed cell token incident =
    code_by (List Deployed × (List Cell × (List Token × List Incident))) (coded× (coded_list deployed) (coded× (coded_list cell) (coded× (coded_list token) (coded_list incident))))
    (λ b. (b.models, (b.cells, (b.tokens, b.incidents)))) (λ p. record { models = p.0; cells = p.1.0; tokens = p.1.1.0; incidents = p.1.1.1 }) (λ _. refl)
