-- The other tables, after one change and after several.
use Rattle.std.proofs.Common.{◌≡◌, refl, sym, subst, ◌∙◌}
use Rattle.sqlite.specs.Effect.{Database}
use Rattle.sqlite.specs.Schema.{Schema}
use Rattle.sqlite_rules.specs.Lists.{Has}
use Rattle.streetmap_rows.specs.Elsewhere.{IsSameElsewhere}
use Rattle.streetmap_tables.specs.Creation.{KeepsOtherTables}

pub others_same : (a b : Database) → b ≡ a → KeepsOtherTables a b
others_same a b same = subst (KeepsOtherTables a) (sym same) (λ t had other. (had, refl))

pub others_elsewhere : (a b : Database) → IsSameElsewhere a b → KeepsOtherTables a b
others_elsewhere a b same t had other = (subst (λ (s : Schema). Has s.tables t) (sym same.schema) had, same.tables t had other)

pub others_then : (a b c : Database) → KeepsOtherTables a b → KeepsOtherTables b c → KeepsOtherTables a c
others_then a b c p q t had other = let one = p t had other in let two = q t one.0 other in (two.0, two.1 ∙ one.1)
