use Rattle.std.proofs.Common.{rules, subst, sym, ◌∙◌, ℤ, Some, None, FitsSigned, arith}
use Rattle.std.specs.Int.{w128}
use Rattle.std.specs.List.{before_first, after_first}
use Rattle.std.proofs.lemmas.Int.{to_z-of_z}
use Rattle.streetmap_decimal.specs.Options.{is_comma, IsOptionCount}
use Rattle.streetmap_decimal.proofs.Commas.{no_comma, comma_within, before_comma, after_comma, counted}
use Rattle.streetmap_decimal.proofs.shift.Shift.read.Goals as goal

pub returns-then-comma-text : goal.returns-then-comma-text
returns-then-comma-text c = λ x y h. no_comma c.args.text.now x y
    (sym c.comma_or_len-comma.ensures ∙ c.if-comma-text.true) h

pub returns-in-Some-Some : goal.returns-in-Some-Some
returns-in-Some-Some c =
    let k = c.in-Some-Some in
    let text = c.args.text.now in
    let comma = c.comma_or_len-comma in
    let f : FitsSigned w128 k.easting = search rules in
    let g : FitsSigned w128 k.northing = search rules in
    let easting = counted _ (before_first is_comma text) c.count_of_option-easting.result
    (Some k.easting) (before_comma text comma.result comma.ensures) k.is-0
    c.count_of_option-easting.ensures.reads in
    let northing = counted _ (after_first is_comma text) c.count_of_option-northing.result
    (Some k.northing) (after_comma text comma.result comma.ensures) k.is-1
    c.count_of_option-northing.ensures.reads in (
      subst (λ (z : ℤ). IsOptionCount 18 (before_first is_comma text) z)
          (sym (to_z-of_z w128 k.easting f)) easting,
      subst (λ (z : ℤ). IsOptionCount 18 (after_first is_comma text) z)
          (sym (to_z-of_z w128 k.northing g)) northing,
    )

pub returns-in_default : goal.returns-in_default
returns-in_default c =
    let text = c.args.text.now in
    let comma = c.comma_or_len-comma in
    let k = c.in_default in
    let northing = counted _ (after_first is_comma text) c.count_of_option-northing.result
    None (after_comma text comma.result comma.ensures) k.is-1
    c.count_of_option-northing.ensures.reads in
    λ x y h. northing y h.1

pub returns-in_default-2 : goal.returns-in_default-2
returns-in_default-2 c =
    let text = c.args.text.now in
    let comma = c.comma_or_len-comma in
    let k = c.in_default in
    let easting = counted _ (before_first is_comma text) c.count_of_option-easting.result
    None (before_comma text comma.result comma.ensures) k.is-0
    c.count_of_option-easting.ensures.reads in
    λ x y h. easting x h.0

pub overflow_add-comma : goal.overflow_add-comma
overflow_add-comma c = grind (arith, comma_within c.args.text.now)

pub slice_bounds-count_of_option-count : goal.slice_bounds-count_of_option-count
slice_bounds-count_of_option-count c = omega (arith, comma_within c.args.text.now)

pub slice_bounds-count_of_option-start : goal.slice_bounds-count_of_option-start
slice_bounds-count_of_option-start c = omega (arith, comma_within c.args.text.now)
