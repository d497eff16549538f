-- Why a DROP TABLE may fail.
use Rattle.std.proofs.Common.{◌≡◌, ◌⊎◌, inl, inr, ℕ, Bool, List, [], filter, find, Ok, Err, Result, refl, None, Some, Option, true, false, not, if◌then◌else◌}
use Rattle.std.proofs.Common.{MatchBool, ap, sym, subst, ◌∙◌, arith, slice_get}
use Rattle.std.specs.Prelude.{option_and_then, ◌==◌}
use Rattle.std.proofs.lemmas.Bool.{or_cases, or_left, or_right, true≢false, ne_eqb, both_ways}
use Rattle.sqlite.specs.Schema.{Schema}
use Rattle.sqlite.specs.Table.{Table}
use Rattle.sqlite.specs.Order.{Row}
use Rattle.sqlite.specs.Command.TheVariants.{DropTable}
use Rattle.sqlite.specs.Does.{Drops, Empties, Uncounts, UncountsIn, Tested, HoldWithout, Leaves, Tally, AtPlace, no_rows}
use Rattle.sqlite.specs.declared.run.Mode.{Mode}
use Rattle.sqlite.specs.Rows.{Part, Then, Gives, Task, Edited, sequence}
use Rattle.sqlite.specs.Effect.{Database, IsDatabase}
use Rattle.sqlite.specs.State.{State as Seen, mode_of, ExecutesInside}
use Rattle.sqlite.specs.declared.error.Error.{Error}
use Rattle.sqlite.proofs.StateLemmas.{refers_if_sound}
use Rattle.sqlite_rules.specs.Edit.{edit_of}
use Rattle.sqlite_rules.specs.declared.error.Rowids.TheVariants.{Given}
use Rattle.sqlite_rules.specs.Calls.{ids_of}
use Rattle.sqlite_rules.specs.Lists.{Has}
use Rattle.sqlite_rules.proofs.ListLemmas.{has_filtered, has_found}
use Rattle.sqlite_rules.proofs.RuleLemmas.{refers_at, refers_from, same_table}
use Rattle.sqlite_schema.specs.declared.schema.Among.TheVariants.{All, Due}
use Rattle.sqlite_schema.specs.declared.schema.Reference.{Reference}
use Rattle.sqlite_schema.specs.Names.{same_name, table_named}
use Rattle.sqlite_schema.specs.Rules.{Refers, parent_key, key_in, key_places, has_null, is_held}
use Rattle.sqlite_trees.specs.Tree.{Trees, IsAscending}
use Rattle.sqlite_catalog.specs.Change.{without_table}
use Rattle.sqlite_resolve.specs.Compile.{planned, meaning, returning, command, timed, drop_table, is_reserved}
use Rattle.streetmap_rows.specs.Failures.{IsOfStore}
use Rattle.streetmap_rows.proofs.NamedTables.{is_at}
use Rattle.streetmap_rows.proofs.StoreErrors.{failure_is}
use Rattle.streetmap_rows.proofs.StatementParts.{same_value}
use Rattle.streetmap_rows.proofs.FixedRefused.{refused_as, stopped}
use Rattle.streetmap_rows.proofs.Resolving.{Means, means, command_is, is_plain, is_fit}
use Rattle.streetmap_rows.proofs.InsertRuns.{never_misplaced, never_ends}
use Rattle.streetmap_tables.specs.Drops.{IsDropAlone, CanGo}
use Rattle.streetmap_tables.proofs.Drops.{idle}
use Rattle.streetmap_tables.proofs.LeftOutLists.{find_left}
use Rattle.streetmap_tables.proofs.ViewNames.{no_such_view}

-- ---- the references that are left point where they pointed

module _ (schema : Schema) (db : Trees) (name : List ℕ) (table : Table) (can : CanGo schema name table)
    (apart : IsAscending (λ a b. a.tree ≡ b.tree → ⊥) schema.tables) where
  there : Has schema.tables table
  there = (has_found (λ (t : Table). same_name t.name name) schema.tables table can.named).0

  abbrev stays : Table → Bool
  stays t = not (t.tree == table.tree)

  stays_held : (ref : Reference) (r : Row) → same_name table.name ref.parent ≡ false → (o : Option Table) →
      find (λ (t : Table). same_name t.name ref.parent) schema.tables ≡ o
      → is_held db ref.columns r (option_and_then (λ (t : Table). option_and_then (key_in t) (key_places t ref.parent_columns)) o) ≡ true
      → is_held db ref.columns r (parent_key (filter stays schema.tables) ref) ≡ true
  stays_held ref r other None found held = absurd (true≢false (sym held))
  stays_held ref r other (Some t) found held =
      let had = has_found (λ (u : Table). same_name u.name ref.parent) schema.tables t found in
      let far : stays t ≡ true = ap not (ne_eqb t.tree table.tree (λ same. both_ways _ other
      (subst (λ (x : Table). same_name x.name ref.parent ≡ true) (same_table schema.tables t table apart had.0 there same) had.1))) in
      rw (find_left (λ (u : Table). same_name u.name ref.parent) stays schema.tables t found far) held

  pub refers_left : Refers All schema db → Refers All (without_table schema table.tree) db
  refers_left refers = refers_from All (without_table schema table.tree) db (λ t ref r listed known is at.
      let was = (has_filtered stays schema.tables t listed).0 in
      elim (or_cases (has_null ref.columns r) (is_held db ref.columns r (parent_key schema.tables ref))
      (refers_at All schema db t r ref refers was at known is)) [
        | inl null ↦ or_left (has_null ref.columns r) _ null
        | inr held ↦ or_right (has_null ref.columns r) _ (stays_held ref r (can.free t ref was known)
            (find (λ (u : Table). same_name u.name ref.parent) schema.tables) refl held)
      ])

-- ---- no rule forbids it

module _ (limit : Option ℕ) (params : Row) (mode : Mode) (waits : mode.may_wait ≡ false) (from : Database) (sound : IsDatabase from) (name : List ℕ)
    (table : Table) (can : CanGo from.schema name table) (apart : IsAscending (λ a b. a.tree ≡ b.tree → ⊥) from.schema.tables) where
  abbrev task : Task
  task = record { limit = limit; keys = mode.keys; schema = from.schema; table = table; params = params }

  -- what follows the test of the references, the count and the rows
  abbrev Ends : Trees → Bool → Part (Tally × Database)
  Ends now in_doubt = Then (Leaves (without_table from.schema table.tree) now (λ _. ⊥)) (λ after. Gives (no_rows in_doubt, after))

  abbrev Tests : Trees → Part (Tally × Database)
  Tests now = Then (Tested mode (HoldWithout task now)) (Ends now)

  abbrev Counts : Trees → Part (Tally × Database)
  Counts now = Then (Uncounts task now) Tests

  emptied : (out : Result Trees (Option Error)) → Empties task from.trees out → Gives from.trees out
  emptied out h = subst (λ b. MatchBool b (Edited from.schema mode.keys from.trees (edit_of from.trees table (ids_of (from.trees table.tree)) Given 0 []) out)
      (Gives from.trees out)) (idle from.schema mode.keys name table can) h

  uncounted : (b : Bool) (o : Option Table) (db : Trees) (out : Result Trees (Option Error)) → b ≡ false → UncountsIn task db (if b then o else None) out →
      Gives db out
  uncounted true o db out is h = absurd (true≢false is)
  uncounted false o db out is h = h

  never : (e : Error) → Drops task mode from.trees (Err (Some e)) → ⊥
  never e h = elim (stopped (Empties task from.trees) Counts (Some e) h) [
    | inl early ↦ (let no = emptied (Err (Some e)) early in absurd (cc))
    | inr rest ↦ elim (stopped (Uncounts task rest.0) Tests (Some e) rest.2) [
      | inl early ↦ (let no = uncounted table.is_counted (sequence from.schema) rest.0 (Err (Some e)) can.uncounted early in absurd (cc))
      | inr more ↦ elim (stopped (Tested mode (HoldWithout task more.0)) (Ends more.0) (Some e) more.2) [
        | inl broken ↦ broken.0 (subst (λ a. HoldWithout task more.0 a) (sym (ap (λ b. if b then Due mode.keys else All) waits))
            (holds more.0 (same_value (uncounted table.is_counted (sequence from.schema) rest.0 (Ok more.0) can.uncounted more.1)
            ∙ same_value (emptied (Ok rest.0) rest.1))))
        | inr last ↦ elim (stopped (Leaves (without_table from.schema table.tree) more.0 (λ _. ⊥)) (λ after. Gives (no_rows last.0, after)) (Some e) last.2) [
          | inl left ↦ left
          | inr gave ↦ (let no = gave.2 in absurd (cc))
        ]
      ]
    ]
  ]
    where
      holds : (now : Trees) → now ≡ from.trees → HoldWithout task now All
      holds now same = subst (λ db. Refers All from.schema db × Refers All (without_table from.schema table.tree) db) (sym same)
          (refers_if_sound _ _ sound, refers_left from.schema from.trees name table can apart (refers_if_sound _ _ sound))

-- ---- the statement

module _ (text name : List ℕ) (it : IsDropAlone text name) (old new : Seen) (table : Table) (can : CanGo old.now.schema name table)
    (apart : IsAscending (λ a b. a.tree ≡ b.tree → ⊥) old.now.schema.tables) (sound : IsDatabase old.now) where
  abbrev schema : Schema
  schema = old.now.schema

  module _ (at : ℕ) (named : table_named schema name ≡ Some at) (listed : slice_get schema.tables at ≡ Some table) where
    drops_it : drop_table schema false name ≡ Ok (DropTable at)
    unfolding drop_table is_reserved
    drops_it = rw (it.unreserved, no_such_view old.now sound name table can.named, named) refl

    plan : planned schema it.is.parsed ≡ Ok ([], (DropTable at, None))
    unfolding planned meaning returning command timed
    plan = rw (it.is.drops, it.is.plain, drops_it) refl

    meant : Means schema text 0 (DropTable at)
    meant = means schema text it.is.parsed 0 (DropTable at) it.is.is it.whole it.bare plan

    reported_at : (e : Error) → ExecutesInside 0 text [] old new (Err e) → IsOfStore e
    reported_at e (inr ended) = absurd (never_ends text [] old schema (DropTable at) refl (command_is schema text 0 (DropTable at) meant) (λ q. absurd (cc))
        (λ q. absurd (cc)) (λ n q. absurd (cc)) (λ n q. absurd (cc)) ended.0)
    reported_at e (inl h) =
        elim (refused_as text [] old new schema refl (DropTable at) (command_is schema text 0 (DropTable at) meant)
        (is_plain schema text 0 (DropTable at) meant) (is_fit schema text 0 (DropTable at) meant refl) e h.0) [
          | inl refused ↦ elim refused.0 [
            | inl misplaced ↦ absurd (never_misplaced old (DropTable at) e (λ q. absurd (cc)) (λ q. absurd (cc)) (λ q. absurd (cc)) (λ n q. absurd (cc))
                (λ n q. absurd (cc)) misplaced)
            | inr done ↦ absurd (never old.step_limit [] (mode_of old) refl old.now sound name table can apart e
                (subst (λ o. AtPlace (λ t. Drops (record { limit = old.step_limit; keys = (mode_of old).keys; schema = schema; table = t; params = [] })
                (mode_of old) old.now.trees) o (Err (Some e))) listed done))
          ]
          | inr failed ↦ failure_is e failed.1.0 failed.1.1
        ]

  pub reported_dropped : (e : Error) → ExecutesInside 0 text [] old new (Err e) → IsOfStore e
  reported_dropped =
      let represented = is_at (λ (t : Table). same_name t.name name) 0 schema.tables table can.named in
      reported_at represented.at (represented.position ∙ ap (λ k. Some k) (omega arith)) represented.listed
