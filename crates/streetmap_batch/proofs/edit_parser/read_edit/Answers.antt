use Rattle.std.proofs.Common.{sym, subst}
use Rattle.streetmap_batch.specs.BatchFaults.{Fails}
use Rattle.streetmap_batch.specs.BatchValue.{EditValue}
use Rattle.streetmap_batch.specs.EditMembers.{IsObjectRead}
use Rattle.streetmap_batch.specs.ParsedBatches.{edit_at}
use Rattle.streetmap_batch.proofs.MemberFacts.{no_object_no_edit}
use Rattle.streetmap_batch.proofs.edit_parser.read_edit.Goals as goal

pub returns-in-None : goal.returns-in-None
returns-in-None c d read =
    let none = subst (IsObjectRead d) c.in-None.is read in
    subst (λ f. Fails {Y = EditValue} f (edit_at c.args.place d)) (sym c.misshapen.ensures) (no_object_no_edit c.args.place d none)
