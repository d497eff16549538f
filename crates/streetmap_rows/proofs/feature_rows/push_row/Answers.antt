use Rattle.std.proofs.Common.{rules, ◌≡◌, ℤ, option_map, ap, ◌∙◌}
use Rattle.sqlite.specs.Values.{or_null}
use Rattle.sqlite.specs.declared.types.Value.TheVariants.{Int}
use Rattle.streetmap_grid.specs.Values.{BoxValue}
use Rattle.streetmap_grid.specs.Views.{box_value}
use Rattle.streetmap_rows.proofs.BoundParameters.{nine, added, nine_whole}
use Rattle.streetmap_rows.proofs.feature_rows.push_row.Goals as goal

pub returns : goal.returns
returns c =
    let row = c.args.row.now in
    let e4 : c.map.result ≡ option_map (λ (b : BoxValue). b.x0) (option_map box_value row.extent) = search rules in
    let e5 : c.map-2.result ≡ option_map (λ (b : BoxValue). b.y0) (option_map box_value row.extent) = search rules in
    let e6 : c.map-3.result ≡ option_map (λ (b : BoxValue). b.x1) (option_map box_value row.extent) = search rules in
    let e7 : c.map-4.result ≡ option_map (λ (b : BoxValue). b.y1) (option_map box_value row.extent) = search rules in
    let e8 : c.map-5.result ≡ option_map (λ (s : ℤ × ℤ). s.0) row.seconds = search rules in
    let e9 : c.map-6.result ≡ option_map (λ (s : ℤ × ℤ). s.1) row.seconds = search rules in
    added c.extend_from_slice.result c.args.values.now.items c.extend_from_slice.new.self.items _ _ c.extend_from_slice.ensures.items
    (nine c.params-to_sql.ensures c.params-to_sql-2.ensures c.params-to_sql-3.ensures (c.params-to_sql-4.ensures ∙ ap (or_null Int) e4)
    (c.params-to_sql-5.ensures ∙ ap (or_null Int) e5) (c.params-to_sql-6.ensures ∙ ap (or_null Int) e6) (c.params-to_sql-7.ensures ∙ ap (or_null Int) e7)
    (c.params-to_sql-8.ensures ∙ ap (or_null Int) e8) (c.params-to_sql-9.ensures ∙ ap (or_null Int) e9) ∙ nine_whole _ _ _ _ _ _ _ _ _)
