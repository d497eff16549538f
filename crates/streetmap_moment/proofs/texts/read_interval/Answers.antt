use Rattle.std.proofs.Common.{◌≡◌, rules}
use Rattle.streetmap_moment.specs.Intervals.{interval_of}
use Rattle.streetmap_moment.specs.Views.{interval_result}
use Rattle.streetmap_moment.proofs.ReadFacts.{interval_found, interval_only, interval_fault, interval_once}
use Rattle.streetmap_moment.proofs.texts.read_interval.Goals as goal

pub returns-in_err-start-clause-only : goal.returns-in_err-start-clause-only
returns-in_err-start-clause-only c =
    let value : interval_result c.from_residual.result ≡ interval_of c.args.text.now = search rules in
    interval_only _ _ value

pub returns-in_err-start-clause-fault : goal.returns-in_err-start-clause-fault
returns-in_err-start-clause-fault c =
    let value : interval_result c.from_residual.result ≡ interval_of c.args.text.now = search rules in
    interval_fault _ _ value

pub returns-in_err-start-clause-one_meaning : goal.returns-in_err-start-clause-one_meaning
returns-in_err-start-clause-one_meaning c = interval_once _

pub returns-clause-found : goal.returns-clause-found
returns-clause-found c =
    let value : interval_result c.between.result ≡ interval_of c.args.text.now = search rules in
    interval_found _ _ value

pub returns-clause-only : goal.returns-clause-only
returns-clause-only c =
    let value : interval_result c.between.result ≡ interval_of c.args.text.now = search rules in
    interval_only _ _ value

pub returns-clause-fault : goal.returns-clause-fault
returns-clause-fault c =
    let value : interval_result c.between.result ≡ interval_of c.args.text.now = search rules in
    interval_fault _ _ value

pub returns-clause-one_meaning : goal.returns-clause-one_meaning
returns-clause-one_meaning c = interval_once _
