use Rattle.std.proofs.Common.{arith, rules, ◌≡◌, ℤ, option_map, Ok, Err, sym, ap, subst, ◌∙◌}
use Rattle.std.proofs.lemmas.Grind.{common_steps}
use Rattle.sqlite.specs.Held.{state}
use Rattle.sqlite.specs.State.{ExecutesInside}
use Rattle.sqlite.specs.Values.{or_null}
use Rattle.sqlite.specs.declared.types.Value.TheVariants.{Int}
use Rattle.streetmap_grid.specs.Values.{BoxValue}
use Rattle.streetmap_grid.specs.Views.{box_value}
use Rattle.streetmap_rows.specs.Representations.{StandsFor}
use Rattle.streetmap_rows.specs.Elsewhere.{IsSameElsewhere}
use Rattle.streetmap_rows.specs.Statements.{insert_feature}
use Rattle.streetmap_rows.proofs.ResultCases.{handed_on}
use Rattle.streetmap_rows.proofs.StateWrites.{insert_represented, insert_reported}
use Rattle.streetmap_rows.proofs.BoundParameters.{nine, feature_bound}
use Rattle.streetmap_rows.proofs.StatementsInside.{ran_inside, failed_inside}
use Rattle.streetmap_rows.proofs.writes.insert_feature.Goals as goal

pub returns : goal.returns
returns g c =
    let run = c.in_ok-execute.ensures in
    ran_inside _ _ run.same_reference run.survives _ run.runs (λ clean. record {
      writes = λ inside f is limit s t represented leads.
          let old = state g.S.Store c.args.tx.now.conn.now in
          let new = state g.S.Store c.execute.new.self.conn.now in
          let e4 : c.map.result ≡ option_map (λ (b : BoxValue). b.x0) (option_map box_value c.args.extent) = search rules in
          let e5 : c.map-2.result ≡ option_map (λ (b : BoxValue). b.y0) (option_map box_value c.args.extent) = search rules in
          let e6 : c.map-3.result ≡ option_map (λ (b : BoxValue). b.x1) (option_map box_value c.args.extent) = search rules in
          let e7 : c.map-4.result ≡ option_map (λ (b : BoxValue). b.y1) (option_map box_value c.args.extent) = search rules in
          let e8 : c.map-5.result ≡ option_map (λ (s : ℤ × ℤ). s.0) c.args.seconds = search rules in
          let e9 : c.map-6.result ≡ option_map (λ (s : ℤ × ℤ). s.1) c.args.seconds = search rules in
          let ran = subst (λ row. ExecutesInside 0 insert_feature row old new (Ok c.in_ok-execute.field-0))
          (nine c.params-to_sql.ensures c.params-to_sql-2.ensures c.params-to_sql-3.ensures (c.params-to_sql-4.ensures ∙ ap (or_null Int) e4)
          (c.params-to_sql-5.ensures ∙ ap (or_null Int) e5) (c.params-to_sql-6.ensures ∙ ap (or_null Int) e6)
          (c.params-to_sql-7.ensures ∙ ap (or_null Int) e7) (c.params-to_sql-8.ensures ∙ ap (or_null Int) e8)
          (c.params-to_sql-9.ensures ∙ ap (or_null Int) e9) ∙ feature_bound (c.args.collection.now, c.args.id.now) f _ _ _ is)
          (c.in_ok-execute.ensures.runs clean inside) in
          subst (λ x. StandsFor x new.now × IsSameElsewhere old.now new.now) (sym leads.is)
          (insert_represented old new s represented limit (c.args.collection.now, c.args.id.now) leads.collection leads.there f leads.absent leads.fine _
          ran.0);
      ran = λ inside.
          let ran = rw (c.params-to_sql.ensures, c.params-to_sql-2.ensures, c.params-to_sql-3.ensures) at (c.in_ok-execute.ensures.runs clean inside) in
          (_, c.in_ok-execute.field-0, ran);
    })

pub returns-in_err-execute : goal.returns-in_err-execute
returns-in_err-execute g c =
    let run = c.in_err-execute.ensures in
    failed_inside _ _ run.same_reference run.survives run.ended run.runs c.from_residual.ensures.1 (λ clean. record {
      writes = λ inside f is limit s t represented leads.
          let old = state g.S.Store c.args.tx.now.conn.now in
          let new = state g.S.Store c.execute.new.self.conn.now in
          let e4 : c.map.result ≡ option_map (λ (b : BoxValue). b.x0) (option_map box_value c.args.extent) = search rules in
          let e5 : c.map-2.result ≡ option_map (λ (b : BoxValue). b.y0) (option_map box_value c.args.extent) = search rules in
          let e6 : c.map-3.result ≡ option_map (λ (b : BoxValue). b.x1) (option_map box_value c.args.extent) = search rules in
          let e7 : c.map-4.result ≡ option_map (λ (b : BoxValue). b.y1) (option_map box_value c.args.extent) = search rules in
          let e8 : c.map-5.result ≡ option_map (λ (s : ℤ × ℤ). s.0) c.args.seconds = search rules in
          let e9 : c.map-6.result ≡ option_map (λ (s : ℤ × ℤ). s.1) c.args.seconds = search rules in
          let ran = subst (λ row. ExecutesInside 0 insert_feature row old new (Err c.in_err-execute.field-0.0))
          (nine c.params-to_sql.ensures c.params-to_sql-2.ensures c.params-to_sql-3.ensures (c.params-to_sql-4.ensures ∙ ap (or_null Int) e4)
          (c.params-to_sql-5.ensures ∙ ap (or_null Int) e5) (c.params-to_sql-6.ensures ∙ ap (or_null Int) e6)
          (c.params-to_sql-7.ensures ∙ ap (or_null Int) e7) (c.params-to_sql-8.ensures ∙ ap (or_null Int) e8)
          (c.params-to_sql-9.ensures ∙ ap (or_null Int) e9) ∙ feature_bound (c.args.collection.now, c.args.id.now) f _ _ _ is)
          (c.in_err-execute.ensures.runs clean inside) in
          handed_on c.from_residual.result c.in_err-execute.field-0.0 _ _ c.from_residual.ensures.1
          (insert_reported old new s represented limit (c.args.collection.now, c.args.id.now) leads.collection leads.there f leads.absent _ ran);
      ran = first_of (search rules, grind (arith, common_steps));
    })
