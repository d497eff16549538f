use Rattle.std.proofs.Common.{◌≡◌, ◌<◌, length, set, arith, ap, sym, subst, ◌∙◌, rules}
use Rattle.std.specs.FinMap.{remove}
use Rattle.std.proofs.lemmas.List.Elements.{All-set}
use Rattle.streetmap_outlines.specs.Outlines.{joined, AreOutlines, AreFilled, IsBounded, AreBounded, IsListedChunk, AreListed}
use Rattle.streetmap_outlines.proofs.InChunks.{HasSome, cut_in_chunk, none_in_chunks, shed_at}
use Rattle.streetmap_outlines.proofs.Each.{each_without}
use Rattle.streetmap_outlines.proofs.chunks.Chunks.cut.Goals as goal

pub returns-then-is_empty : goal.returns-then-is_empty
returns-then-is_empty c = λ features held.
    let known = held.chunks in
    let cs = c.args.self.now.chunks.items in
    let place = c.chunk_of-place.result in
    let new = c.cut.new.self in
    let found = c.chunk_of-place.ensures in
    let within : place < length cs = omega arith in
    let still : place < length (set cs place new) = search rules in
    let none : length c.index.result.now.outlines.items ≡ 0 = search rules in
    let done = cut_in_chunk cs place c.index_mut.result.now new c.args.id.now features known.outlines (found.before features known) (found.here features known)
    within c.index_mut.ensures.value c.cut.ensures.outlines in
    let cells = c.args.self.now.cells in
    record {
      chunks = record {
        outlines = subst (λ os. AreOutlines os (remove features c.args.id.now)) (sym (ap joined c.remove.ensures.items
            ∙ shed_at (set cs place new) place c.index.result.now still c.index.ensures none)) done;
        filled = subst AreFilled (sym c.remove.ensures.items) (each_without HasSome cs place new known.filled);
        bounded = subst AreBounded (sym c.remove.ensures.items) (each_without IsBounded cs place new known.bounded);
      };
      listed = subst (AreListed cells) (sym c.remove.ensures.items) (each_without (IsListedChunk cells) cs place new held.listed);
    }

pub returns-else-is_empty : goal.returns-else-is_empty
returns-else-is_empty c = λ features held.
    let known = held.chunks in
    let cells = c.args.self.now.cells in
    let cs = c.args.self.now.chunks.items in
    let place = c.chunk_of-place.result in
    let old = c.index_mut.result.now in
    let new = c.cut.new.self in
    let found = c.chunk_of-place.ensures in
    let within : place < length cs = omega arith in
    let some : 0 < length new.outlines.items = search rules in
    let bounded = subst IsBounded (sym c.index_mut.ensures.value) (known.bounded place old within) in
    let listed = subst (IsListedChunk cells) (sym c.index_mut.ensures.value) (held.listed place old within) in
    record {
      chunks = record {
        outlines = cut_in_chunk cs place old new c.args.id.now features known.outlines (found.before features known) (found.here features known) within
            c.index_mut.ensures.value c.cut.ensures.outlines;
        filled = All-set HasSome cs place new some known.filled;
        bounded = All-set IsBounded cs place new (c.cut.ensures.bounded bounded) known.bounded;
      };
      listed = All-set (IsListedChunk cells) cs place new (c.cut.ensures.listed cells listed) held.listed;
    }

pub returns-else-place-len : goal.returns-else-place-len
returns-else-place-len c = λ features held. record {
  chunks = none_in_chunks c.args.self.now.chunks.items c.chunk_of-place.result c.args.id.now features
      c.chunk_of-place.ensures.bound (λ h. omega arith) held.chunks;
  listed = held.listed;
}
