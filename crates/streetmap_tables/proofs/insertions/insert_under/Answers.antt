use Rattle.std.proofs.Common.{◌∙◌, map, length, sym, subst, ap}
use Rattle.std.specs.Option.{option_copied}
use Rattle.sqlite.specs.Held.{state}
use Rattle.streetmap_batch.specs.BatchView.{edit_value}
use Rattle.streetmap_rows.specs.FeatureRows.{AreRowsOf}
use Rattle.streetmap_tables.specs.Insertions.{AreInsertions}
use Rattle.std.proofs.lemmas.List.{length-map}
use Rattle.streetmap_tables.proofs.InsertedEdits.{entries, rows_are, as_many, made_or_left}
use Rattle.streetmap_rows.proofs.CallsInside.{runs_of, runs_so}
use Rattle.streetmap_tables.proofs.insertions.insert_under.Goals as goal

pub insert_features-requires : goal.insert_features-requires
insert_features-requires g c =
    let are : AreInsertions c.args.collection.now (option_copied c.args.property) (map edit_value c.args.edits.now) c.in-Some.rows.items =
    rw c.in-Some.is at c.in-Ok.ensures in
    ap length c.deref.ensures.value ∙ sym (as_many c.args.collection.now (option_copied c.args.property) _ _ are) ∙ length-map c.args.edits.now edit_value
    ∙ c.requires

pub returns-in-Some : goal.returns-in-Some
returns-in-Some g c =
    runs_so (runs_of c.insert_features.ensures) (λ clean limit inside s represented here.
    let old = state g.S.Store c.args.tx.now.conn.now in
    let new = state g.S.Store c.insert_features.new.tx.conn.now in
    let name = c.args.collection.now in
    let property = option_copied c.args.property in
    let es = map edit_value c.args.edits.now in
    let are : AreInsertions name property es c.in-Some.rows.items = rw c.in-Some.is at c.in-Ok.ensures in
    let puts = c.insert_features.ensures.does clean inside (entries name property es _ are)
    (subst (λ rows. AreRowsOf (entries name property es _ are) rows) (sym c.deref.ensures.value) (rows_are name property es _ are)) limit s here.0
    represented here.1 in
    made_or_left name property es _ are old new s here.0 here.1 here.2 represented c.insert_features.result puts (c.insert_features.ensures.inside clean inside)
    (c.insert_features.ensures.kept clean inside))
