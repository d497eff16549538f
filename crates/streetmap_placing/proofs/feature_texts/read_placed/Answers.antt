use Rattle.serde_json.specs.View.{view}
use Rattle.streetmap_placing.proofs.Valued.{given}
use Rattle.streetmap_placing.proofs.feature_texts.read_placed.Goals as goal

pub returns-clause-value : goal.returns-clause-value
returns-clause-value c =
    given view c.args.numbers.now c.args.text.now c.read_requested.result c.read_requested.ensures
