use Rattle.std.proofs.Common.{◌≡◌, rules}
use Rattle.std.proofs.lemmas.Option.{gets}
use Rattle.run_file.specs.Files.{lines_of, line_at}
use Rattle.run_file.proofs.Places.{short_at}
use Rattle.run_file.proofs.files.RunFile.line.Goals as goal

pub returns-clause-short : goal.returns-clause-short
returns-clause-short c =
    let ls = lines_of c.args.self.now in
    let value : c.copied.result ≡ line_at ls c.args.place = search (rules, gets) in
    rw value (short_at ls c.args.place c.args.self.now.short_lines)
