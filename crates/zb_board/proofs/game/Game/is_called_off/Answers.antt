use Rattle.std.proofs.Common.{◌≡◌, true, not, ap, sym, ◌∙◌, rules}
use Rattle.zb_board.proofs.ScopeLemmas.{none_called}
use Rattle.zb_board.proofs.game.Game.is_called_off.Goals as goal

pub returns-else-not-has_none_calling : goal.returns-else-not-has_none_calling
returns-else-not-has_none_calling c =
    let none : c.has_none_calling.result ≡ true = search rules in
    ap not none ∙ sym (none_called c.args.self.now (c.has_none_calling.ensures none) c.args.key)
