use Rattle.std.proofs.Common.{◌≡◌, ℕ, List, Option, None, Some, All, length, refl, sym, subst, rules}
use Rattle.std.specs.Prelude.{IsSome, IfSome}
use Rattle.std.specs.List.{count_by}
use Rattle.streetmap_query.specs.Views.{query_value}
use Rattle.streetmap_cells.specs.Envelopes.{overlaps}
use Rattle.streetmap_cells.specs.declared.envelope.Envelope.{Envelope}
use Rattle.streetmap_outlines.specs.Selections.{CountsWhole}
use Rattle.streetmap_outlines.specs.Within.{DecidesMeeting}
use Rattle.streetmap_outlines.proofs.Counting.{counts_kept}
use Rattle.streetmap_outlines.proofs.selection.count_by_extents.Goals as goal

-- what holds of this number holds of the count, if any
if_counted : (P : ℕ → Type 0) (r : Option ℕ) (n : ℕ) → IfSome r (λ count. count ≡ n) → (IsSome r → P n) → IfSome r P
if_counted P None n is h = tt
if_counted P (Some count) n is h = subst P (sym is) (h refl)

pub returns-in-Some : goal.returns-in-Some
returns-in-Some c = λ bounded.
    let q = c.args.query.now in
    let chunk = c.args.chunk.now in
    let es = chunk.extents.items in
    let window = c.of.result in
    let counted = c.count_in_window.result in
    let says = c.count_in_window.ensures in
    let value = c.as_slice.ensures.value in
    let long : length es ≡ length chunk.outlines.items = search rules in
    if_counted (CountsWhole (query_value q) chunk) counted (count_by (λ e. overlaps e window) es)
    (subst (λ (xs : List Envelope). IfSome counted (λ count. count ≡ count_by (λ e. overlaps e window) xs)) value says.count)
    (λ some. counts_kept q c.in-Some.area window c.in-Some.is c.of.ensures chunk bounded long
    (subst (All (λ e. DecidesMeeting e window)) value (says.reported.0 some)) (c.reaches_into_interval.ensures c.if-not-reaches_into_interval.false))
