use Rattle.std.proofs.Common.{ℕ, List, Option, eqb, ap, ◌∙◌, rules, tests}
use Rattle.std.specs.Str.Lines.{strip_carriage_return}
use Rattle.std.proofs.lemmas.Iterator.Search.{find_from_yields_List}
use Rattle.std.proofs.lemmas.Iterator.Splits.{YieldsList-from_slice_split}
use Rattle.streetmap_http.specs.Lines.{is_full}
use Rattle.streetmap_web.specs.Log.{or_nothing}
use Rattle.streetmap_web.proofs.log.request_line.Goals as goal

pub returns-in-Some : goal.returns-in-Some
returns-in-Some c =
    let e = find_from_yields_List is_full _ _ c.find-found.result c.find-found.ensures.ran
    (YieldsList-from_slice_split _ (λ b. eqb b 10) c.args.request.now c.split.ensures.rest c.split.ensures.done c.split.ensures.closure (λ x b q k. search (rules, tests)))
    (λ x b q k. search (rules, tests)) in
    let found = rw c.in-Some.is at e in
    c.without_return.ensures ∙ ap (λ (o : Option (List ℕ)). strip_carriage_return (or_nothing o)) found

pub returns-in-None : goal.returns-in-None
returns-in-None c =
    let e = find_from_yields_List is_full _ _ c.find-found.result c.find-found.ensures.ran
    (YieldsList-from_slice_split _ (λ b. eqb b 10) c.args.request.now c.split.ensures.rest c.split.ensures.done c.split.ensures.closure (λ x b q k. search (rules, tests)))
    (λ x b q k. search (rules, tests)) in
    let found = rw c.in-None.is at e in
    ap (λ (o : Option (List ℕ)). strip_carriage_return (or_nothing o)) found
