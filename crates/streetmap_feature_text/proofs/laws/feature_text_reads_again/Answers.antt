use Rattle.streetmap_feature_text.proofs.WrittenFeatures.{text_reads_again, text_is_json}
use Rattle.streetmap_feature_text.proofs.laws.feature_text_reads_again.Goals as goal

pub returns-clause-value : goal.returns-clause-value
returns-clause-value c = text_reads_again

pub returns-clause-json : goal.returns-clause-json
returns-clause-json c = text_is_json
