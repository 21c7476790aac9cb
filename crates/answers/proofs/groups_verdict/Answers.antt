-- `groups_verdict` meets its contract: row 1, and then row 2 of the same counts.
use Rattle.std.proofs.Common.{[], refl, arith}
use Rattle.answers.specs.Meaning.{lent_counts}
use Rattle.answers.proofs.groups_verdict.Goals as goal

pub returns : goal.returns
returns c = grind (arith, c.limit_verdict.ensures [] (lent_counts c.args.values c.args.groups) refl)
