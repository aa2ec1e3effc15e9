use Rattle.std.proofs.Common.{rules}
use Rattle.file_reader.proofs.Opening.{ended_whole}
use Rattle.file_reader.proofs.finished.Goals as goal

pub returns : goal.returns
returns c = search (rules, ended_whole)
