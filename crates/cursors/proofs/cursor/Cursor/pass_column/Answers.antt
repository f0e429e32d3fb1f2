use Rattle.std.proofs.Common.{◌+◌, ap}
use Rattle.std.proofs.lemmas.List.{take_rest}
use Rattle.cursors.specs.Steps.{past}
use Rattle.cursors.proofs.cursor.Cursor.pass_column.Goals as goal

pub returns : goal.returns
unfolding past
returns c = rw (← c.self.view_is) (ap (λ rest. record { rest = rest; line = c.self.inside.line; column = c.self.inside.column + 1 }) (take_rest c.self.inside.rest.now 6))
