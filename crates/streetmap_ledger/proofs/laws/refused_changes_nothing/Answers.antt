use Rattle.streetmap_ledger.proofs.Acceptance.{refused_changes_nothing}
use Rattle.streetmap_ledger.proofs.laws.refused_changes_nothing.Goals as goal

pub returns : goal.returns
returns c = refused_changes_nothing
