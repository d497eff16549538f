use Rattle.std.proofs.Common.{◌≡◌, [], ◌∷◌, ◌++◌, ap, sym, subst, ◌∙◌, append-nil}
use Rattle.std.specs.FinMap.{insert}
use Rattle.std.proofs.lemmas.List.Elements.{All-nil, All-cons}
use Rattle.streetmap_outlines.specs.Outlines.{joined, AreOutlines, AreFilled, IsBounded, AreBounded, IsListedIf, AreListedUnder, IsListedChunk, AreListed}
use Rattle.streetmap_outlines.proofs.InChunks.{HasSome}
use Rattle.streetmap_outlines.proofs.Listed.{Listed}
use Rattle.streetmap_outlines.proofs.chunks.Chunks.begin.Goals as goal

pub returns : goal.returns
returns c = λ features f held one.
    let cells = c.list_extent.new.cells in
    let first = c.put.new.self in
    let made = c.new-first.result in
    let after = insert features f.id f in
    let none : c.args.self.now.chunks.items ≡ [] = c.requires in
    let empty : made.outlines.items ≡ [] = c.new-first.ensures.same ∙ c.new.ensures.items in
    let said = c.in_ok-put.ensures in
    let start = subst (λ os. AreOutlines os features) (sym empty) (subst (λ cs. AreOutlines (joined cs) features) none held.chunks.outlines) in
    let outlines = said.outlines features f start one in
    let under = subst (λ n. IsListedIf cells n c.args.outline.extent) (sym c.new-first.ensures.number)
    (subst (IsListedIf cells c.args.self.now.next) c.extent.ensures c.in_ok-list_extent.ensures.listed) in
    let listed = said.listed cells (subst (AreListedUnder cells made.number) (sym empty) (All-nil (Listed cells made.number))) under in
    let now : c.push.new.self.items ≡ first ∷ [] = c.in_ok-push.ensures.items ∙ ap (λ cs. cs ++ first ∷ []) none in
    record {
      chunks = record {
        outlines = subst (λ cs. AreOutlines (joined cs) after) (sym now) (subst (λ os. AreOutlines os after) (sym (append-nil first.outlines.items)) outlines);
        filled = subst AreFilled (sym now) (All-cons HasSome first [] said.some (All-nil HasSome));
        bounded = subst AreBounded (sym now) (All-cons IsBounded first [] (said.bounded c.new-first.ensures.bounded) (All-nil IsBounded));
      };
      listed = subst (AreListed cells) (sym now) (All-cons (IsListedChunk cells) first [] listed (All-nil (IsListedChunk cells)));
    }
