use Rattle.std.proofs.Common.{sym, ◌∙◌, Result, subst}
use Rattle.std.proofs.lemmas.Result.{err_from_is_err_and}
use Rattle.streetmap_query.specs.declared.fault.QueryFault.{QueryFault}
use Rattle.streetmap_query.specs.Faults.{Fails}
use Rattle.streetmap_query.specs.Parameters.{ParametersValue}
use Rattle.streetmap_query.specs.Views.{parameters_value}
use Rattle.streetmap_query.proofs.PairFacts.{none_left, goes_on, stops_at}
use Rattle.streetmap_query.proofs.query_parser.read_parameters.Goals as goal

pub returns-in_err-parameters : goal.returns-in_err-parameters
returns-in_err-parameters c =
    let l = c.loop-pair in
    let fault = c.in_err-parameters.field-0.0 in
    let p = err_from_is_err_and c.from_residual.result c.from_residual.ensures.1 in
    let stop = stops_at (parameters_value l.parameters) _ _ c.in-Some.pair c.with_decoded.result fault c.in-Some.ensures.steps.0 c.with_decoded.ensures c.in_err-parameters.was in
    rw (p.1, p.2) (subst (λ (k : Result ParametersValue QueryFault). Fails fault k) l.invariant.same stop)

pub loop-pair-preserved : goal.loop-pair-preserved
loop-pair-preserved c =
    let l = c.loop-pair in
    record { can = tt; finite = tt; same = sym (goes_on (parameters_value l.parameters) _ _ c.in-Some.pair c.with_decoded.result c.in_ok-parameters.parameters c.in-Some.ensures.steps.0 c.with_decoded.ensures c.in_ok-parameters.was) ∙ l.invariant.same }

pub returns : goal.returns
returns c = sym c.loop-pair.invariant.same ∙ none_left (parameters_value c.loop-pair.parameters) _ c.in-None.ensures.steps.0
