use Rattle.std.proofs.Common.{rules}
use Rattle.columns.proofs.Numbered.{number_says}
use Rattle.columns.proofs.numbers.number.Goals as goal

pub returns-else-column-gt-WIDEST-clause-exact : goal.returns-else-column-gt-WIDEST-clause-exact
returns-else-column-gt-WIDEST-clause-exact c = number_says c.args.column.now _ (search rules)
