use Rattle.std.proofs.Common.{◌≡◌, ℕ, ◌+◌, ◌<◌, true, false, length, sym, ap, subst, ◌∙◌, rules}
use Rattle.std.specs.Prelude.{slice_index_or}
use Rattle.std.specs.Result.{OnOk}
use Rattle.std.specs.FinMap.{insert}
use Rattle.std.proofs.lemmas.List.Elements.{All-set}
use Rattle.streetmap_ledger.specs.Outlines.{FeatureOutlineValue}
use Rattle.streetmap_outlines.specs.Outlines.{AreOutlines, AreFilled, IsBounded, AreBounded, IsListedIf, IsListedChunk, AreChunksOf}
use Rattle.streetmap_outlines.specs.Chunks.{reaches}
use Rattle.streetmap_outlines.specs.declared.chunk.Chunk.{Chunk}
use Rattle.streetmap_outlines.proofs.Results.{on_ok_both}
use Rattle.streetmap_outlines.proofs.InChunks.{HasSome, put_in_chunk}
use Rattle.streetmap_outlines.proofs.chunks.Chunks.put.Goals as goal

pub returns : goal.returns
returns c = λ features f held one.
    let was = c.args.self.now.chunks.items in
    let cs = c.list.new.self.chunks.items in
    let cells = c.list.new.self.cells in
    let same : cs ≡ was = ap (λ v. v.items) c.list.ensures.same in
    let known : AreChunksOf cs features = subst (λ xs. AreChunksOf xs features) (sym same) held.chunks in
    let place = c.chunk_of-place.result in
    let found = c.chunk_of-place.ensures in
    let some : 0 < length was = search rules in
    let id = c.as_str.ensures.value ∙ ap (λ (v : FeatureOutlineValue). v.id) one in
    let key = c.as_str.result.now in
    let before = subst (λ xs. (j : ℕ) (d : Chunk) → j < place → reaches key (slice_index_or xs j d).outlines.items ≡ false) (sym same)
    (found.before features held.chunks) in
    let here = subst (λ xs. (d : Chunk) → place + 1 < length xs → reaches key (slice_index_or xs place d).outlines.items ≡ true) (sym same)
    (found.here features held.chunks) in
    let old = c.index_mut.result.now in
    let new = c.put.new.self in
    let within : place < length cs = subst (λ xs. place < length xs) (sym same) (found.bound some) in
    let bounded = subst IsBounded (sym c.index_mut.ensures.value) (known.bounded place old within) in
    let said = c.in_ok-put.ensures in
    let done = put_in_chunk cs place old new key features known.outlines before here within c.index_mut.ensures.value f id
    (λ fs are. said.outlines fs f are one) in
    let all = c.in_ok-list.ensures.kept held.listed in
    let listed_old = subst (IsListedChunk cells) (sym c.index_mut.ensures.value) (all place old within) in
    let under = subst (λ (x : Chunk). IsListedIf cells x.number c.args.outline.extent) (sym c.index_mut.ensures.value)
    (c.in_ok-list.ensures.listed old held.listed) in
    let listed = All-set (IsListedChunk cells) cs place new (said.listed cells listed_old under) all in
    let halved = c.halve.ensures in
    let now = c.halve.new.self in
    let each : OnOk c.halve.result (AreFilled now.chunks.items × AreBounded now.chunks.items) =
    on_ok_both c.halve.result (λ filled bounded. (filled, bounded)) (halved.filled (All-set HasSome cs place new said.some known.filled))
    (halved.bounded (All-set IsBounded cs place new (said.bounded bounded) known.bounded)) in
    let chunks : OnOk c.halve.result (AreChunksOf now.chunks.items (insert features f.id f)) =
    on_ok_both c.halve.result (λ same are. record {
      outlines = subst (λ os. AreOutlines os (insert features f.id f)) (sym same) done;
      filled = are.0;
      bounded =
          are.1;
    }) halved.same each in
    on_ok_both c.halve.result (λ are listed. record { chunks = are; listed = listed }) chunks (halved.listed listed)
