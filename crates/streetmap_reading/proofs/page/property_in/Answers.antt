use Rattle.std.proofs.Common.{ap, if◌then◌else◌, ◌∙◌}
use Rattle.streetmap_rows.specs.Failures.{is_memory}
use Rattle.streetmap_rows.specs.declared.fault.ReadFault.TheVariants.{Memory, Unread}
use Rattle.streetmap_reading.proofs.page.property_in.Goals as goal

pub returns-in-Err : goal.returns-in-Err
returns-in-Err c = λ name k is fine.
    c.unread.ensures ∙ ap (λ e. if is_memory e then Memory else Unread) (c.in-Err.ensures.reads name k is fine)
