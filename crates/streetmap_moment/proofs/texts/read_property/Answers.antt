use Rattle.std.proofs.Common.{◌≡◌, rules, Ok}
use Rattle.streetmap_moment.specs.Intervals.{property_of}
use Rattle.streetmap_moment.specs.Views.{interval_result}
use Rattle.streetmap_moment.proofs.ReadFacts.{property_found, property_only, property_fault, property_once}
use Rattle.streetmap_moment.proofs.texts.read_property.Goals as goal

pub returns-in-Some-clause-found : goal.returns-in-Some-clause-found
returns-in-Some-clause-found c =
    let value : interval_result (Ok c.day.result) ≡ property_of c.args.text.now = search rules in
    property_found _ (Ok c.day.result) value

pub returns-in-Some-clause-only : goal.returns-in-Some-clause-only
returns-in-Some-clause-only c =
    let value : interval_result (Ok c.day.result) ≡ property_of c.args.text.now = search rules in
    property_only _ (Ok c.day.result) value

pub returns-in-Some-clause-one_meaning : goal.returns-in-Some-clause-one_meaning
returns-in-Some-clause-one_meaning c = property_once _

pub returns-in-None-clause-found : goal.returns-in-None-clause-found
returns-in-None-clause-found c =
    let value : interval_result c.read_interval.result ≡ property_of c.args.text.now = search rules in
    property_found _ _ value

pub returns-in-None-clause-only : goal.returns-in-None-clause-only
returns-in-None-clause-only c =
    let value : interval_result c.read_interval.result ≡ property_of c.args.text.now = search rules in
    property_only _ _ value

pub returns-in-None-clause-fault : goal.returns-in-None-clause-fault
returns-in-None-clause-fault c =
    let value : interval_result c.read_interval.result ≡ property_of c.args.text.now = search rules in
    property_fault _ _ value

pub returns-in-None-clause-one_meaning : goal.returns-in-None-clause-one_meaning
returns-in-None-clause-one_meaning c = property_once _
