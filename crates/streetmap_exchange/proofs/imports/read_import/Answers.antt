use Rattle.std.proofs.Common.{rules}
use Rattle.streetmap_exchange.specs.Imports.{import_of}
use Rattle.streetmap_exchange.proofs.imports.read_import.Goals as goal

pub returns-then-not-is_collection_id : goal.returns-then-not-is_collection_id
unfolding import_of
returns-then-not-is_collection_id c = search rules
