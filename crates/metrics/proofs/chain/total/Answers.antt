-- `total` meets its contract. Assumes nothing.
use Rattle.std.proofs.Common.{rules}
use Rattle.std.proofs.iter.Yields.{fronts}
use Rattle.std.proofs.lemmas.Iterator.{YieldsList, zips}
use Rattle.std.specs.List.{zip}
use Rattle.metrics.proofs.StepLaws.{value, pairs, each_pair, folded}
use Rattle.metrics.proofs.chain.total.Goals as goal

pub returns : goal.returns
returns g c =
    let all : YieldsList (zips fronts fronts) value c.zip.result (zip c.args.a.now c.args.b.now) = pairs (search rules) (search rules) in
    folded g.T.Term.term c.args.a.now c.args.b.now c.fold.ensures.runs (search (rules, each_pair)) (search rules)
