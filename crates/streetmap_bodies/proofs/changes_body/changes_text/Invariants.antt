use Rattle.std.proofs.Common.{◌≡◌, take}
use Rattle.std.specs.Prelude.{string_bytes}
use Rattle.streetmap_ledger.specs.KeptView.{keyed_batches}
use Rattle.streetmap_bodies.specs.Changes.{changes_text}
use Rattle.streetmap_bodies.proofs.changes_body.changes_text.Given as goal

-- that number of lines were written
abbrev pub invariant-loop-batch : goal.invariant-loop-batch
invariant-loop-batch l = record {
  lines : string_bytes l.out ≡ changes_text (keyed_batches (take l.batch-index l.batches));
}
