use Rattle.std.proofs.Common.{◌≡◌, ◌∙◌, sym, ap, arith, w64, to_z, of_z}
use Rattle.std.proofs.lemmas.Int.{ints}
use Rattle.std.specs.Prelude.{option_map}
use Rattle.streetmap_grid.specs.Views.{box_value}
use Rattle.streetmap_query.proofs.BoundFacts.{made}
use Rattle.streetmap_query.proofs.box_texts.ordered.Goals as goal

pub returns : goal.returns
returns c =
    let r = c.requires in
    let e0 : to_z w64 (of_z w64 c.args.x0) ≡ c.args.x0 = omega (arith, ints) in
    let e1 : to_z w64 (of_z w64 c.args.y0) ≡ c.args.y0 = omega (arith, ints) in
    let e2 : to_z w64 (of_z w64 c.args.x1) ≡ c.args.x1 = omega (arith, ints) in
    let e3 : to_z w64 (of_z w64 c.args.y1) ≡ c.args.y1 = omega (arith, ints) in
    let same = rw (e0, e1, e2, e3) at c.new.ensures.value in
    let accepted = rw (e0, e1, e2, e3) at c.new.ensures.accepted in
    let refused = rw (e0, e1, e2, e3) at c.new.ensures.refused in
    ap (option_map box_value) c.ok.ensures.value ∙ made _ c.args.rest.now c.new.result (sym c.is_empty.ensures ∙ c.if-not-is_empty.false) r.west r.south r.east r.north same accepted refused
