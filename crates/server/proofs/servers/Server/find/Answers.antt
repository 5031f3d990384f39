use Rattle.std.proofs.Common.{◌≡◌, ℕ, ◌+◌, ◌<◌, ◌≤◌, true, false, Some, None, get_or, sym, ◌∙◌, arith, rules}
use Rattle.pronto.specs.Refusing.{seek}
use Rattle.server.proofs.Rowwise.{named, seek_down, seek_there}
use Rattle.server.proofs.servers.Server.find.Goals as goal

pub returns-in_err-index : goal.returns-in_err-index
unfolding seek
returns-in_err-index c =
    let a = c.args in
    let xs = a.self.now.rows in
    let others : (p : ℕ) → 0 ≤ p → p < 8 → named a.client a.job (get_or xs p None) ≡ false = λ p l h. search rules in
    rw c.from_residual.ensures (sym (seek_down xs a.client a.job 0 8 (omega arith) others))

pub returns : goal.returns
returns c =
    let a = c.args in
    let xs = a.self.now.rows in
    let i = c.in_ok-index.index in
    let row = c.in_ok-row.row in
    let above : i + 1 ≤ 8 = search rules in
    let there : get_or xs i None ≡ Some row = search rules in
    let own : named a.client a.job (get_or xs i None) ≡ true = search rules in
    let others : (p : ℕ) → i + 1 ≤ p → p < 8 → named a.client a.job (get_or xs p None) ≡ false = λ p l h. search rules in
    sym (seek_down xs a.client a.job (i + 1) 8 above others ∙ seek_there xs a.client a.job i row there (rw there at own))
