use Rattle.std.proofs.Common.{◌∙◌}
use Rattle.streetmap_query.proofs.BoxTextFacts.{found, box_only}
use Rattle.streetmap_query.proofs.box_texts.read_box.Goals as goal

pub returns-clause-found : goal.returns-clause-found
returns-clause-found c = found c.args.text.now c.box_at.result c.box_at.ensures

pub returns-clause-only : goal.returns-clause-only
returns-clause-only c = λ b is. c.box_at.ensures ∙ box_only c.args.text.now b is
