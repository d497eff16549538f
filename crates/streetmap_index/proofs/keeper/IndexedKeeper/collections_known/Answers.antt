use Rattle.std.proofs.Common.{refl, ap, ◌∙◌}
use Rattle.streetmap_ledger.proofs.Calls.{read_so}
use Rattle.streetmap_ledger.specs.SummaryView.{summary_values}
use Rattle.streetmap_index.proofs.Over.{read_over, read_beside}
use Rattle.streetmap_index.proofs.keeper.IndexedKeeper.collections_known.Goals as goal

pub returns-then-self : goal.returns-then-self
returns-then-self g c = read_so (read_beside c.collections_with.ensures refl) (λ s x e is. is e.1.0 (e.1.1 c.if-self.true))

pub returns-in-Ok : goal.returns-in-Ok
returns-in-Ok g c = read_over c.in-Ok.ensures (λ s e known seen. (
  seen.0,
  (
    seen.1,
    c.note.ensures s (ap summary_values c.as_slice.ensures.value ∙ seen.0)
        known,
  ),
))

pub returns-in-Err : goal.returns-in-Err
returns-in-Err g c = read_beside c.in-Err.ensures refl
