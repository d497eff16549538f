use Rattle.std.proofs.Common.{arith, rules, tests}
use Rattle.std.proofs.lemmas.Bool.Decides.{nat_tests}
use Rattle.std.proofs.lemmas.Iterator.{YieldsList-from_slice}
use Rattle.std.proofs.lemmas.Iterator.Search.{all_from_yields_List}
use Rattle.streetmap_web.specs.Log.{is_logged_byte}
use Rattle.streetmap_web.proofs.LogLines.{all_within}
use Rattle.streetmap_web.proofs.log.is_plain.Goals as goal

pub returns-then-contains : goal.returns-then-contains
returns-then-contains c =
    let e = all_from_yields_List is_logged_byte _ _ c.all.result c.all.ensures.ran (YieldsList-from_slice c.args.line.now cc) (λ x b q k. search (rules, tests)) in
    all_within c.all.result _ _ e (grind (arith, nat_tests, c.if-contains.ensures.cases))
