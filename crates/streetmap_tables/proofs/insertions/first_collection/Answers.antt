use Rattle.std.proofs.Common.{◌∷◌, Some, option_copied, sym, ap, ◌∙◌}
use Rattle.streetmap_batch.specs.BatchValue as edit
use Rattle.streetmap_tables.proofs.InsertedEdits.{first_is}
use Rattle.streetmap_tables.proofs.insertions.first_collection.Goals as goal

pub returns-in-Some-Insert : goal.returns-in-Some-Insert
returns-in-Some-Insert c =
    let f = c.in-Some-Insert.field-0-1 in
    let at = sym c.first.ensures.value ∙ ap option_copied c.in-Some-Insert.is ∙ ap (λ x. Some x) c.in-Some-Insert.field-0-is in
    let found = first_is c.args.edits.now _ at in
    (f, found.0, found.1 ∙ ap (λ id. edit.insert id f ∷ found.0) (sym c.as_str.ensures.value))
