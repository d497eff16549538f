use Rattle.streetmap_batch.specs.BatchView.{batch_value}
use Rattle.streetmap_batch.proofs.Readings.{is_found, is_read}
use Rattle.streetmap_batch.proofs.batch_parser.read_batch.Goals as goal

pub returns-clause-found : goal.returns-clause-found
returns-clause-found c = is_found batch_value c.read_bytes.result c.args.bytes.now c.read_bytes.ensures

pub returns-clause-only : goal.returns-clause-only
returns-clause-only c = is_read batch_value c.read_bytes.result c.args.bytes.now c.read_bytes.ensures
