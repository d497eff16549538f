-- What a schema is full for, before one more table and after it.
use Rattle.std.proofs.Common.{◌≡◌, inl, inr, ℕ, ◌+◌, ◌≤◌, ◌<◌, max, Bool, List, [], ◌∷◌, ◌++◌, length, fold, refl, true, false, ◌||◌, is_some, ap, ap₂, sym}
use Rattle.std.proofs.Common.{subst, ◌∙◌, arith, IsTrue}
use Rattle.std.specs.List.{AllByRecursion, list_any, position_from}
use Rattle.std.proofs.lemmas.Bool.{cases_Bool}
use Rattle.std.proofs.lemmas.List.Folds.{list_any-append}
use Rattle.sqlite.specs.Schema.{Schema}
use Rattle.sqlite.specs.Table.{Table}
use Rattle.sqlite.specs.declared.error.Error.{Error}
use Rattle.sqlite_schema.specs.declared.schema.Index.{Index}
use Rattle.sqlite_schema.specs.Names.{same_name}
use Rattle.sqlite_catalog.specs.Change.{past_views, next_tree, created, is_used, automatics}
use Rattle.sqlite_catalog.proofs.StepLemmas.{table_below, index_below}
use Rattle.sqlite_catalog.proofs.ListFacts.{most_from}
use Rattle.sqlite_rules.specs.Lists.{Has}
use Rattle.sqlite_rules.proofs.ListLemmas.{all_has, has_either}
use Rattle.streetmap_tables.specs.CreationRefusals.{IsCreateError, key_indexes}

-- ---- numbers

most_within : {X : Type 0} (f : X → ℕ) (n bound : ℕ) (xs : List X) → n ≤ bound → ((x : X) → Has xs x → f x < bound) → fold (λ n x. max n (f x + 1)) n xs ≤ bound
most_within f n bound [] start all = start
most_within f n bound (x ∷ xs) start all = let one = all x (inl refl) in most_within f (max n (f x + 1)) bound xs (omega (arith, start, one))
    (λ y h. all y (inr h))

automatic_below : (t : Table) (at tree : ℕ) (keys : List (List ℕ)) (i : Index) → Has (automatics t at tree keys) i → i.tree < tree + length keys
automatic_below t at tree [] i h = absurd h
automatic_below t at tree (key ∷ keys) i (inl e) = let same = ap (λ (j : Index). j.tree) e in omega (arith, same)
automatic_below t at tree (key ∷ keys) i (inr h) = let later = automatic_below t (at + 1) (tree + 1) keys i h in omega (arith, later)

module _ (schema : Schema) (table : Table) where
  abbrev new : Table
  new = record table { tree = next_tree schema }

  abbrev bound : ℕ
  bound = next_tree schema + 1 + length table.uniques

  -- a table takes a tree, and each of its indexes one
  next_created : next_tree (created schema table) ≤ bound
  next_created =
      most_within (λ (i : Index). i.tree) _ bound (schema.indexes ++ automatics new 0 (next_tree schema + 1) table.uniques)
      (most_within (λ (t : Table). t.tree) (past_views schema) bound (schema.tables ++ new ∷ [])
      (let views = most_from (λ (t : Table). t.tree) (past_views schema) schema.tables in
      let tables = most_from (λ (i : Index). i.tree) (fold (λ n t. max n (t.tree + 1)) (past_views schema) schema.tables) schema.indexes in
      omega (arith, views, tables))
      (λ t h. elim (has_either schema.tables (new ∷ []) t h) [
        | inl old ↦ (let low = table_below schema t old in omega (arith, low))
        | inr last ↦ elim last [ inl e ↦ (let same = ap (λ (u : Table). u.tree) e in omega (arith, same)) | inr none ↦ absurd none ]
      ]))
      (λ i h. elim (has_either schema.indexes (automatics new 0 (next_tree schema + 1) table.uniques) i h) [
        | inl old ↦ (let low = index_below schema i old in omega (arith, low))
        | inr mine ↦ (let low = automatic_below new 0 (next_tree schema + 1) table.uniques i mine in omega (arith, low))
      ])

-- ---- names

placed_any : {A : Type 0} (p : A → Bool) (n : ℕ) (xs : List A) → is_some (position_from p n xs) ≡ list_any p xs
placed_any p n [] = refl
placed_any p n (x ∷ xs) = elim (cases_Bool (p x)) [ inl here ↦ rw here refl | inr other ↦ rw other (placed_any p (n + 1) xs) ]

pub or_false : (b : Bool) → (b || false) ≡ b
or_false true = refl
or_false false = refl

-- neither the table nor an index that SQLite makes for it has the name, wherever it is
abbrev pub IsOther : Table → List ℕ → Type 0
IsOther table name = (same_name table.name name ≡ false) × ((tree : ℕ) → list_any (λ i. same_name i.name name)
    (automatics (record table { tree = tree }) 0 (tree + 1) table.uniques) ≡ false)

-- another name is used after one more table if it was used before
pub used_same : (schema : Schema) (table : Table) (name : List ℕ) → IsOther table name → is_used (created schema table) name ≡ is_used schema name
used_same schema table name other =
    ap₂ (λ a b. a || b || is_some (position_from (λ v. same_name v.name name) 0 schema.views))
    (placed_any (λ (t : Table). same_name t.name name) 0 (schema.tables ++ new schema table ∷ [])
    ∙ list_any-append (λ (t : Table). same_name t.name name) schema.tables (new schema table ∷ [])
    ∙ ap (λ b. list_any (λ (t : Table). same_name t.name name) schema.tables || (b || false)) other.0 ∙ or_false _
    ∙ sym (placed_any (λ (t : Table). same_name t.name name) 0 schema.tables))
    (placed_any (λ (i : Index). same_name i.name name) 0 (schema.indexes ++ automatics (new schema table) 0 (next_tree schema + 1) table.uniques)
    ∙ list_any-append (λ (i : Index). same_name i.name name) schema.indexes (automatics (new schema table) 0 (next_tree schema + 1) table.uniques)
    ∙ ap (λ b. list_any (λ (i : Index). same_name i.name name) schema.indexes || b) (other.1 (next_tree schema)) ∙ or_false _
    ∙ sym (placed_any (λ (i : Index). same_name i.name name) 0 schema.indexes))

-- the indexes of these tables have other names
abbrev pub AreOther : Table → List Table → Type 0
AreOther table tables = AllByRecursion (λ t. AllByRecursion (λ i. IsOther table i.name) (key_indexes t)) tables

-- what a schema is full for after one more table, it was full for before
pub reported_before : (schema : Schema) (table : Table) (tables : List Table) → AreOther table tables → (e : Error) →
    IsCreateError tables (created schema table) e → IsCreateError (table ∷ tables) schema e
reported_before schema table tables other e (inl store) = inl store
reported_before schema table tables other e (inr (inl high)) = inr (inl (
  high.0,
  let low = next_created schema table in let many = high.1 in
      omega (arith, low, many),
))
reported_before schema table tables other e (inr (inr used)) =
    inr (inr (
      used.0,
      used.1,
      inr used.2,
      used.3,
      used.4,
      subst IsTrue (used_same schema table used.3.name
          (all_has _ (key_indexes used.1) used.3 (all_has _ tables used.1 other used.2) used.4)) used.5,
    ))

-- so it is for a table and more
pub reported_first : (schema : Schema) (table : Table) (tables : List Table) (e : Error) → IsCreateError (table ∷ []) schema e →
    IsCreateError (table ∷ tables) schema e
reported_first schema table tables e (inl store) = inl store
reported_first schema table tables e (inr (inl high)) = inr (inl (high.0, let many = high.1 in omega (arith, many)))
reported_first schema table tables e (inr (inr used)) = elim used.2 [
  | inl first ↦ inr (inr (used.0, used.1, inl first, used.3, used.4, used.5))
  | inr none ↦
      absurd none
]
