use Rattle.std.proofs.Common.{◌≡◌, rules}
use Rattle.std.specs.Prelude.{ok_or}
use Rattle.streetmap_moment.specs.declared.faults.TimeFault.TheVariants.{BadTime}
use Rattle.streetmap_moment.specs.DateTimeParts.{moment_of}
use Rattle.streetmap_moment.specs.Views.{moment_result}
use Rattle.streetmap_moment.proofs.ReadFacts.{moment_found, moment_only, moment_once}
use Rattle.streetmap_moment.proofs.texts.read_moment.Goals as goal

pub returns-clause-found : goal.returns-clause-found
returns-clause-found c =
    let value : moment_result c.ok_or.result ≡ ok_or (moment_of c.args.text.now) BadTime = search rules in
    moment_found _ _ value

pub returns-clause-only : goal.returns-clause-only
returns-clause-only c =
    let value : moment_result c.ok_or.result ≡ ok_or (moment_of c.args.text.now) BadTime = search rules in
    moment_only _ _ value

pub returns-clause-one_meaning : goal.returns-clause-one_meaning
returns-clause-one_meaning c = moment_once _
