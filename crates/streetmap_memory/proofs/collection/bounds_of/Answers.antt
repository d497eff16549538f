use Rattle.std.proofs.Common.{◌≡◌, List, [], ◌∷◌, ◌++◌, subst, ap, sym, ◌∙◌, append_assoc, rules}
use Rattle.std.proofs.lemmas.List.{flat_map_more}
use Rattle.streetmap_grid.specs.Values.{PositionValue}
use Rattle.streetmap_grid.specs.Bounds.{AreBounds}
use Rattle.streetmap_memory.specs.Slots.{live_values}
use Rattle.streetmap_ledger.specs.Summaries.{feature_vertices, all_vertices}
use Rattle.streetmap_memory.proofs.collection.bounds_of.Goals as goal

pub loop-slot-preserved-in-Some-slot : goal.loop-slot-preserved-in-Some-slot
loop-slot-preserved-in-Some-slot c =
    let fs = c.loop-slot.invariant.0 in
    let f = c.in-Some-slot.feature in
    let met : c.loop-slot.slot-iterator ≡ c.in-Some.slot.now ∷ c.next.new.self = search rules in
    let P : List PositionValue → Type 0 = λ vs. AreBounds vs c.grown-bounds.result in (
      fs ++ f ∷ [],
      append_assoc fs (f ∷ []) (live_values c.next.new.self) ∙ (ap (λ o. fs ++ live_values (o ∷ c.next.new.self)) (sym c.in-Some-slot.is)
          ∙ (ap (λ os. fs ++ live_values os) (sym met) ∙ c.loop-slot.invariant.1)),
      subst P (flat_map_more feature_vertices [] fs f) (c.grown-bounds.ensures (all_vertices fs) c.loop-slot.invariant.2),
    )
