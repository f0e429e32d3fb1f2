use Rattle.std.proofs.Common.{rules}
use Rattle.std.proofs.lemmas.Bool.Decides.{nat_tests}
use Rattle.cursors.specs.Steps.{block}
use Rattle.cursors.proofs.cursor.Cursor.next_column.Goals as goal

pub returns : goal.returns
unfolding block
returns c = search (rules, nat_tests)
