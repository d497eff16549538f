use Rattle.streetmap_http.proofs.TagGrammars.{tags_listed}
use Rattle.streetmap_http.proofs.laws.tags_are_listed.Goals as goal

pub returns : goal.returns
returns c = tags_listed
