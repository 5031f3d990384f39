use Rattle.std.proofs.Common.{◌≡◌, length, ap, arith}
use Rattle.std.proofs.lemmas.Grind.{common_steps}
use Rattle.run_file.specs.Texts.{text_at}
use Rattle.run_file.specs.Files.{names_of}
use Rattle.run_file.proofs.files.RunFile.name.Goals as goal

pub returns-clause-short : goal.returns-clause-short
returns-clause-short c =
    let value : c.unwrap_or.result.now ≡ text_at (names_of c.args.self.now) c.args.client = grind (arith, common_steps) in
    omega (arith, ap length value, c.args.self.now.short_names c.args.client)
