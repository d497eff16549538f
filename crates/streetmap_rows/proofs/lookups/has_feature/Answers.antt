use Rattle.std.proofs.Common.{arith, rules, ◌∷◌, []}
use Rattle.std.proofs.lemmas.Grind.{common_steps}
use Rattle.sqlite.specs.Held.{state}
use Rattle.sqlite.specs.declared.types.Value.TheVariants.{Text as Words}
use Rattle.streetmap_geojson.specs.FeatureValue.{FeatureValue}
use Rattle.streetmap_rows.specs.Rows.{feature_at}
use Rattle.streetmap_rows.proofs.ResultCases.{handed_on, err_handed_on}
use Rattle.streetmap_rows.proofs.ErrorReasons.{queried_inside}
use Rattle.streetmap_rows.proofs.OneRowChosen.{none_empty}
use Rattle.streetmap_rows.proofs.KeyReads.{id_shown, id_reported}
use Rattle.streetmap_rows.proofs.lookups.has_feature.Goals as goal

pub returns : goal.returns
returns g c = record {
  same_reference = first_of (search rules, grind (arith, common_steps));
  does = λ clean limit s represented.
      let ran = rw (c.params-to_sql.ensures, c.params-to_sql-2.ensures) at (c.in_ok-rows.ensures.ok clean) in
      let r = id_shown (state g.S.Store c.args.tx.now.conn.now) (state g.S.Store c.query_all.new.self.conn.now) s represented
      (c.args.collection.now, c.args.id.now) _ ran in (
        none_empty (λ (f : FeatureValue). Words c.args.id.now ∷ []) (feature_at s (c.args.collection.now, c.args.id.now)) _ r.0 c.is_empty.result (search rules),
        r.1,
      );
  reason = first_of (search rules, grind (arith, common_steps));
  survives = first_of (search rules, grind (arith, common_steps));
}

pub returns-in_err-rows : goal.returns-in_err-rows
returns-in_err-rows g c = record {
  same_reference = first_of (search rules, grind (arith, common_steps));
  does = λ clean limit s represented.
      let ran = rw (c.params-to_sql.ensures, c.params-to_sql-2.ensures) at (c.in_err-rows.ensures.err clean) in
      handed_on c.from_residual.result c.in_err-rows.field-0.0 _ _ c.from_residual.ensures.1
      (id_reported (state g.S.Store c.args.tx.now.conn.now) (state g.S.Store c.query_all.new.self.conn.now) s represented limit
      (c.args.collection.now, c.args.id.now) _ ran);
  reason = λ clean. err_handed_on c.from_residual.result c.in_err-rows.field-0.0 _ c.from_residual.ensures.1
      (queried_inside (state g.S.Store c.args.tx.now.conn.now) (state g.S.Store c.query_all.new.self.conn.now) _ _ c.in_err-rows.field-0.0
      (c.in_err-rows.ensures.err clean));
  survives = first_of (search rules, grind (arith, common_steps));
}
