use Rattle.std.proofs.Common.{◌≡◌, ◌+◌, ◌++◌, ◌∷◌, [], map, take, subst₂, sym, ap, ◌∙◌, arith}
use Rattle.std.specs.Option.{option_copied}
use Rattle.std.proofs.lemmas.List.{take_more, map-append}
use Rattle.streetmap_batch.specs.BatchView.{edit_value}
use Rattle.streetmap_tables.specs.Insertions.{AreInsertions, IsInsertion}
use Rattle.streetmap_tables.proofs.InsertedEdits.{one_more}
use Rattle.streetmap_tables.proofs.insertions.rows_of.Goals as goal

pub edits-preserved : goal.edits-preserved
edits-preserved c =
    let name = c.args.collection.now in
    let property = option_copied c.args.property in
    let i = c.edits.edit-index in
    let edit = c.edit-item.result in
    let row = c.in-Some.row in
    let is : IsInsertion name property (edit_value edit) row = rw c.in-Some.is at c.in_ok-row.ensures in
    let es : map edit_value (take (i + 1) c.args.edits.now) ≡ map edit_value (take i c.args.edits.now) ++ edit_value edit ∷ [] =
    ap (map edit_value) (take_more c.args.edits.now i edit (omega arith) ∙ ap (λ x. take i c.args.edits.now ++ x ∷ []) (sym c.edit-item.is))
    ∙ map-append edit_value (take i c.args.edits.now) (edit ∷ []) in
    subst₂ (AreInsertions name property) (sym es) (sym c.in_ok-push-in-Some.ensures.items)
    (one_more name property _ c.edits.rows.items (edit_value edit) row c.edits.invariant is)
