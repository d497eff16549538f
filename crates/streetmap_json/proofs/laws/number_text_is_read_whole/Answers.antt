use Rattle.streetmap_json.proofs.NumberTextForm.{whole_text-fraction, whole_text-other}
use Rattle.streetmap_json.proofs.laws.number_text_is_read_whole.Goals as goal

pub returns-clause-fraction : goal.returns-clause-fraction
returns-clause-fraction c = whole_text-fraction

pub returns-clause-other : goal.returns-clause-other
returns-clause-other c = whole_text-other
