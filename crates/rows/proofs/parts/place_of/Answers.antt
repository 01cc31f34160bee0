-- The position of a job is the place of the first target that is the job.
use Rattle.std.proofs.Common.{ℕ, Bool, eqb, rules}
use Rattle.std.proofs.lemmas.Iterator.{YieldsList-from_slice}
use Rattle.std.proofs.lemmas.Iterator.Search.{position_from_yields_List}
use Rattle.rows.proofs.Scans.{position_is_placed}
use Rattle.rows.proofs.parts.place_of.Goals as goal
use borrow.Author.Tests.{tests}

pub returns : goal.returns
returns c =
    let targets = c.args.targets.now in
    let is_job : ℕ → Bool = λ t. eqb t c.args.job in
    position_is_placed c.args.job targets c.position.result
    (position_from_yields_List is_job _ _ c.position.result c.position.ensures.ran (YieldsList-from_slice targets cc) (λ x b q k. search (rules, tests)))
