use Rattle.std.proofs.Common.{◌+◌, ◌*◌, ◌≤◌, string_bytes}
use Rattle.streetmap_packing.specs.PackerView.{packing}
use Rattle.streetmap_loading.specs.Sources.{StaysKnown}
use Rattle.streetmap_loading.proofs.Taking.{Reads}
use Rattle.streetmap_loading.proofs.whole.send_all.Given as goal

-- one edit was read per turn, in at most two batches each
abbrev pub invariant-loop-turn : goal.invariant-loop-turn
invariant-loop-turn g l = record {
  number : (packing l.sending.packer).number ≤ 2 * l.turn + 1;
  batches : l.sending.batches ≤ 2 * l.turn;
  taken : l.sending.taken ≤ 20000 * l.turn;
  reads :
      Reads g.S.Sink.takes l.fn.each (string_bytes l.fn.key) l.fn.sink l.sink
      (g.E.Edits.left l.fn.edits) (g.E.Edits.left l.edits) l.turn l.sending;
  skips : StaysKnown (g.E.Edits.skips l.fn.edits) (g.E.Edits.skips l.edits);
}
