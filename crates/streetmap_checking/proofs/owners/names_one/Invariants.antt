use Rattle.std.proofs.Common.{◌≡◌, [], ◌∷◌, map, drop, string_bytes}
use Rattle.sqlite.specs.declared.types.Value.TheVariants.{Text as Words}
use Rattle.sqlite_rules.specs.Lists.{Has}
use Rattle.streetmap_batch.specs.Text.{Text}
use Rattle.streetmap_checking.specs.declared.collections.Head.{Head}
use Rattle.streetmap_checking.proofs.owners.names_one.Given as goal

-- a collection that the row names is among those that are left
abbrev pub invariant-loop-head : goal.invariant-loop-head
invariant-loop-head l =
    (name : Text) → l.row ≡ Words name ∷ [] → Has (map (λ (h : Head). string_bytes h.id) l.heads) name →
    Has (map (λ (h : Head). string_bytes h.id) (drop l.head-index l.heads)) name
