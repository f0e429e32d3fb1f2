use Rattle.std.proofs.Common.{rules}
use Rattle.cursors.proofs.Passing.{same_test}
use Rattle.cursors.proofs.cursor.Cursor.seat.Goals as goal

pub returns : goal.returns
returns c = search (rules, same_test)
