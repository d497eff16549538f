use Rattle.streetmap_feature_text.proofs.WrittenCollections.{collection_again, collection_is_json}
use Rattle.streetmap_feature_text.proofs.laws.collection_reads_again.Goals as goal

pub returns-clause-again : goal.returns-clause-again
returns-clause-again c = collection_again

pub returns-clause-json : goal.returns-clause-json
returns-clause-json c = collection_is_json
