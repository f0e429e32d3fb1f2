use Rattle.std.proofs.Common.{◌∙◌, arith}
use Rattle.std.proofs.lemmas.Bool.Decides.{nat_tests}
use Rattle.cursors.proofs.Passing.{same_test}
use Rattle.cursors.proofs.cursor.Cursor.number.Goals as goal

pub returns : goal.returns
returns g c = c.within.ensures ∙ same_test _ _ (λ v. grind (arith, nat_tests)) _ _
