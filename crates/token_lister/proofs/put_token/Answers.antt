-- `put_token` meets its contract: one token more, or none where the rule skips.
use borrow.Author.Rules.{rules}
use native.Mathlib.Omega.{arith}
use Rattle.token_lister.proofs.Writing.{skipped, token_put}
use Rattle.token_lister.proofs.put_token.Goals as goal

pub returns-then-action-eq0 : goal.returns-then-action-eq0
returns-then-action-eq0 c = (omega arith, c.requires.3, λ l list starts w. skipped l _ _ _ _ _ _ w _ c.if-action-eq0.true)

pub returns : goal.returns
returns c =
    let p = c.requires in
    (omega arith, search rules, λ l list starts w. token_put l _ _ _ _ _ _ w _ c.if-action-eq0.false p.0 (omega (arith, p.1, p.3)))
