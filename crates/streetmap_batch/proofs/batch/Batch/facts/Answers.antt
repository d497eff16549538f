use Rattle.std.proofs.Common.{All, List, subst, arith}
use Rattle.std.proofs.lemmas.List.{length-map}
use Rattle.std.proofs.lemmas.List.Elements.{All-map}
use Rattle.streetmap_batch.specs.BatchFacts.{IsSoundEdit}
use Rattle.streetmap_batch.specs.BatchView.{edit_value}
use Rattle.streetmap_batch.specs.declared.edit.Edit.{Edit}
use Rattle.streetmap_batch.proofs.batch.Batch.facts.Goals as goal

pub returns : goal.returns
returns c = record {
  named = c.args.self.now.named;
  few = omega (arith, length-map c.args.self.now.edits.items edit_value, c.args.self.now.few);
  made = All-map IsSoundEdit edit_value c.args.self.now.edits.items (subst (λ (es : List Edit). All (λ e. IsSoundEdit (edit_value e)) es) c.deref.ensures.value c.facts_of_each.ensures);
}
