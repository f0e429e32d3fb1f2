use Rattle.std.proofs.Common.{rules}
use Rattle.columns.proofs.Fronts.{letters_spaces}
use Rattle.columns.proofs.words.holds.Goals as goal

pub returns : goal.returns
returns c = search (rules, letters_spaces)
