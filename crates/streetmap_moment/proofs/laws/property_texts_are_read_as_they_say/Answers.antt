use Rattle.streetmap_moment.proofs.PropertyFacts.{property_text_of, property_of_text}
use Rattle.streetmap_moment.proofs.laws.property_texts_are_read_as_they_say.Goals as goal

pub returns-clause-read : goal.returns-clause-read
returns-clause-read c = property_text_of

pub returns-clause-said : goal.returns-clause-said
returns-clause-said c = property_of_text
