use Rattle.streetmap_geojson.proofs.Wholes.{reads_once}
use Rattle.streetmap_feature_text.proofs.Again.{feature_again}
use Rattle.streetmap_feature_text.proofs.laws.reads_once.Goals as goal

pub returns-clause-once : goal.returns-clause-once
returns-clause-once c = reads_once

pub returns-clause-again : goal.returns-clause-again
returns-clause-again c = feature_again
