use Rattle.std.proofs.Common.{rules, ◌≡◌, ◌∙◌, Some, arith, map, option_map, string_bytes, sym, ap}
use Rattle.std.proofs.lemmas.Grind.{common_steps}
use Rattle.std.specs.Option.{option_copied}
use Rattle.std.specs.FinMap.{get}
use Rattle.sqlite.specs.Held.{state}
use Rattle.sqlite.specs.State.{HasCleanDisk}
use Rattle.streetmap_batch.specs.BatchView.{edit_value}
use Rattle.streetmap_rows.proofs.ResultCases.{handed_on}
use Rattle.streetmap_tables.specs.Insertions.{HasCollection, IsKnown}
use Rattle.streetmap_tables.proofs.InsertedEdits.{made_on}
use Rattle.streetmap_tables.proofs.KnownCollections.{on_any}
use Rattle.streetmap_rows.proofs.CallsInside.{runs_so, runs_err, runs_both}
use Rattle.streetmap_tables.proofs.insertions.insert_all.Goals as goal

pub returns-in_err-come_to_know : goal.returns-in_err-come_to_know
returns-in_err-come_to_know g c =
    runs_err c.in_err-come_to_know.ensures c.from_residual.ensures.1 (λ clean. record {
      edits = λ limit inside s represented was. handed_on _ _ _ _ c.from_residual.ensures.1
          (c.in_err-come_to_know.ensures.does clean limit inside s represented was);
      knows = first_of (search rules, grind (arith, common_steps));
    })

pub returns-in-Some-known : goal.returns-in-Some-known
returns-in-Some-known g c =
    runs_so (runs_both c.in_ok-come_to_know.ensures c.insert_under.ensures) (λ clean. record {
      edits = λ limit inside s represented was.
          let a = state g.S.Store c.args.tx.now.conn.now in
          let b = state g.S.Store c.come_to_know.new.tx.conn.now in
          let e = state g.S.Store c.insert_under.new.tx.conn.now in
          let it = c.in-Some-known.it in
          let early : HasCleanDisk b = omega (arith, clean, c.insert_under.ensures.survives.clean) in
          let k = c.in_ok-come_to_know.ensures.does early limit inside s represented was in
          let named : string_bytes it.id ≡ c.in-Some.collection.now = rw c.in-Some-known.is at k.0 in
          let has : HasCollection (string_bytes it.id) (option_map string_bytes it.property) s = rw c.in-Some-known.is at k.1 in
          let here : HasCollection c.in-Some.collection.now (option_copied c.as_deref.result) s =
          (has.0, ap (get s.collections) (sym named) ∙ has.1, has.2 ∙ sym c.as_deref.ensures.value) in
          made_on a b e s (map edit_value c.args.edits.now) c.insert_under.result k.4 (c.insert_under.ensures.does clean
          (c.come_to_know.ensures.survives.limit ∙ limit) k.3 s k.2 here);
      knows = λ limit inside s represented was.
          let early : HasCleanDisk (state g.S.Store c.come_to_know.new.tx.conn.now) = omega (arith, clean, c.insert_under.ensures.survives.clean) in
          let known : IsKnown (Some c.in-Some-known.it) s = rw c.in-Some-known.is at (c.in_ok-come_to_know.ensures.does early limit inside s represented was).1
          in
          on_any c.insert_under.result _ known;
    })
