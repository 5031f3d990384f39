-- Every cell is what the slot sees, since from 64 on there is no own value.
use Rattle.std.proofs.Common.{false, cond, get_or, Some, None, ap, arith, ◌∙◌, rules}
use Rattle.std.proofs.lemmas.List.{get_or_past}
use Rattle.replica.specs.Meanings.{or_else}
use Rattle.replica.proofs.Made.{made_by}
use Rattle.deferred.proofs.transaction.Transaction.overlay.Goals as goal

pub returns : goal.returns
returns c =
    let written = c.args.self.now.written in
    let values = c.args.self.now.values in
    let cells = c.args.cells in
    made_by _ _ (λ k. or_else (cond (get_or written k false) (Some (get_or values k 0)) None) (get_or cells k 0)) 0 (λ i y q e. search rules) c.from_fn.result 64 c.from_fn.ensures.items
    (λ k past. ap (λ b. or_else (cond b (Some (get_or values k 0)) None) (get_or cells k 0)) (get_or_past written k false (omega arith)) ∙ get_or_past cells k 0 (omega arith))
