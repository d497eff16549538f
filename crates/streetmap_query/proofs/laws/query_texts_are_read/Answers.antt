use Rattle.std.proofs.Common.{refl}
use Rattle.streetmap_query.specs.Query.{query_text}
use Rattle.streetmap_query.proofs.TextFacts.{query_again}
use Rattle.streetmap_query.proofs.laws.query_texts_are_read.Goals as goal

pub returns : goal.returns
returns c = λ q is after datetime. query_again q (query_text q) is after datetime refl
