use Rattle.streetmap_batch.specs.BatchView.{batch_value}
use Rattle.streetmap_exchange.proofs.ImportLemmas.{is_import, is_made}
use Rattle.streetmap_exchange.proofs.imports.import_batch.Goals as goal

pub returns-clause-found : goal.returns-clause-found
returns-clause-found g c = is_import batch_value c.read_import.result _ _ _ _ c.read_import.ensures

pub returns-clause-only : goal.returns-clause-only
returns-clause-only g c = is_made batch_value c.read_import.result _ _ _ _ c.read_import.ensures
