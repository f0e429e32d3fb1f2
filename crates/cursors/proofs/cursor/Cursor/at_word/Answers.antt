use Rattle.std.proofs.Common.{rules}
use Rattle.std.proofs.lemmas.Bool.Decides.{nat_tests}
use Rattle.columns.specs.Rows.{word_column}
use Rattle.cursors.proofs.cursor.Cursor.at_word.Goals as goal

pub returns : goal.returns
unfolding word_column
returns c = search (rules, nat_tests)
