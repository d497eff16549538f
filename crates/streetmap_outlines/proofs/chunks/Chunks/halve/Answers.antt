use Rattle.std.proofs.Common.{◌<◌, length, set, ap, sym, subst, ◌∙◌, arith}
use Rattle.std.proofs.lemmas.List.Elements.{All-set, All-same}
use Rattle.std.proofs.lemmas.Grind.{common_steps}
use Rattle.streetmap_outlines.specs.Outlines.{joined, IsBounded, AreListedUnder, IsListedChunk}
use Rattle.streetmap_outlines.specs.declared.chunk.Chunk.{Chunk}
use Rattle.streetmap_outlines.proofs.Listed.{still_listed}
use Rattle.streetmap_outlines.proofs.InChunks.{HasSome, halved_at}
use Rattle.streetmap_outlines.proofs.Each.{each_inserted}
use Rattle.streetmap_outlines.proofs.chunks.Chunks.halve.Goals as goal

pub returns-clause-same : goal.returns-clause-same
returns-clause-same c =
    ap joined c.in_ok-insert.ensures.items
    ∙ halved_at c.args.self.now.chunks.items c.args.place c.index_mut.result.now c.split_off.new.self c.in_ok-following.following c.requires
    c.index_mut.ensures.value _ c.in_ok-following.ensures.front c.in_ok-following.ensures.following

pub returns-clause-filled : goal.returns-clause-filled
returns-clause-filled c = λ filled.
    let cs = c.args.self.now.chunks.items in
    let place = c.args.place in
    let one = c.split_off.new.self in
    let following = c.in_ok-following.following in
    let front_some : 0 < length one.outlines.items = grind (arith, common_steps) in
    let some : 0 < length following.outlines.items = grind (arith, common_steps) in
    All-same HasSome _ _ c.in_ok-insert.ensures.items (each_inserted HasSome (set cs place one) _ following some
    (All-set HasSome cs place one front_some filled))

pub returns-clause-bounded : goal.returns-clause-bounded
returns-clause-bounded c = λ bounded.
    let cs = c.args.self.now.chunks.items in
    let place = c.args.place in
    let one = c.split_off.new.self in
    let says = c.in_ok-following.ensures.bounded in
    All-same IsBounded _ _ c.in_ok-insert.ensures.items (each_inserted IsBounded (set cs place one) _ c.in_ok-following.following says.1
    (All-set IsBounded cs place one says.0 bounded))

pub returns-clause-listed : goal.returns-clause-listed
returns-clause-listed c = λ listed.
    let cs = c.args.self.now.chunks.items in
    let place = c.args.place in
    let old = c.index_mut.result.now in
    let one = c.split_off.new.self in
    let following = c.in_ok-following.following in
    let cells = c.list_outlines.new.cells in
    let In : Chunk → Type 0 = IsListedChunk cells in
    let still = still_listed c.args.self.now.cells cells c.list_outlines.ensures.kept cs listed in
    let front = c.in_ok-following.ensures.listed cells (subst In (sym c.index_mut.ensures.value) (still place old c.requires)) in
    let rest : In following = subst (AreListedUnder cells following.number) c.as_slice.ensures.value c.in_ok-list_outlines.ensures.listed in
    All-same In _ _ c.in_ok-insert.ensures.items (each_inserted In (set cs place one) _ following rest (All-set In cs place one front still))
