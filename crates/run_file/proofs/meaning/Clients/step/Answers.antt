use Rattle.std.proofs.Common.{ap, ◌∙◌}
use Rattle.pronto.specs.declared.acts.Act.{Act}
use Rattle.pronto.specs.declared.acts.TransactionId.{TransactionId}
use Rattle.run_file.specs.declared.steps.Step.TheVariants as step
use Rattle.run_file.specs.Steps.{act_of_job}
use Rattle.run_file.proofs.meaning.Clients.step.Goals as goal

pub returns-in_ok-id-in-Job : goal.returns-in_ok-id-in-Job
returns-in_ok-id-in-Job c =
    let told = c.in_ok-id-in-Job.ensures in
    let id = c.in_ok-id-in-Job.field-0 in
    rw c.in-Job.is
    (id.client, told.0, ap (λ (a : Act). step.Act a) (c.job_act.ensures ∙ ap (λ (t : TransactionId). act_of_job c.in-Job.verb t) told.1))
