use Rattle.std.proofs.Common.{rules}
use Rattle.std.proofs.lemmas.Bool.Decides.{nat_tests}
use Rattle.cursors.specs.Steps.{below}
use Rattle.cursors.proofs.cursor.Cursor.end_line.Goals as goal

pub returns : goal.returns
unfolding below
returns c = search (rules, nat_tests)
