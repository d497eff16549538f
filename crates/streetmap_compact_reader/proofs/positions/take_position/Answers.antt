use Rattle.std.proofs.Common.{◌++◌, ap, sym, ◌∙◌, FitsSigned, w64, rules}
use Rattle.std.proofs.lemmas.Int.{to_z-of_z}
use Rattle.serde_json.specs.Written.{compact_text}
use Rattle.streetmap_grid.specs.Values.{PositionValue}
use Rattle.streetmap_feature_text.specs.Written.{position_data}
use Rattle.streetmap_compact_reader.proofs.PositionFronts.{position_front}
use Rattle.streetmap_compact_reader.proofs.positions.take_position.Goals as goal

pub returns-in-Ok : goal.returns-in-Ok
returns-in-Ok c =
    let fits_x : FitsSigned w64 c.in_ok-x.x = search rules in
    let fits_y : FitsSigned w64 c.in_ok-y.y = search rules in
    let value = simp to_z-of_z at c.in-Ok.ensures.value in
    position_front c.in_ok-x.x c.in_ok-y.y c.in_ok-z.z _ _ _ _ _ _ c.in_ok-opened.ensures c.in_ok-x.ensures c.in_ok-apart.ensures c.in_ok-y.ensures
    c.in_ok-z.ensures
    ∙ ap (λ (p : PositionValue). compact_text (position_data p) ++ c.in_ok-z.after.now) (sym value)
