use Rattle.std.proofs.Common.{◌≡◌, List, ℕ, true, sym, subst}
use Rattle.std.proofs.lemmas.Result.{on_ok_weaker}
use Rattle.zb_board.specs.Indexed.{is_kept}
use Rattle.zb_board.proofs.KeyLemmas.{put_kept, still_kept}
use Rattle.zb_board.proofs.keys.keep.Goals as goal

pub returns-clause-kept : goal.returns-clause-kept
returns-clause-kept c = on_ok_weaker c.add.result
    (λ put. subst (λ (keys : List ℕ). is_kept keys c.args.key ≡ true) (sym put) (put_kept c.args.key c.args.keys.now)) c.add.ensures.ok

pub returns-clause-others : goal.returns-clause-others
returns-clause-others c = on_ok_weaker c.add.result
    (λ put other was. subst (λ (keys : List ℕ). is_kept keys other ≡ true) (sym put) (still_kept c.args.key c.args.keys.now other was)) c.add.ensures.ok
