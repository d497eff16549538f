-- The DELETE as it runs.
use Rattle.std.proofs.Common.{◌≡◌, inl, inr, ℕ, List, [], false, if◌then◌else◌, Option, Some, None, Ok, Err, Result, sym, ap, subst, subst₂}
use Rattle.std.specs.FinMap.{get}
use Rattle.sqlite.specs.declared.error.Error.{Error}
use Rattle.sqlite.specs.declared.run.Mode.{Mode}
use Rattle.sqlite.specs.Order.{Row}
use Rattle.sqlite.specs.Effect.{Database, Answers}
use Rattle.sqlite.specs.Command.TheVariants.{Delete}
use Rattle.sqlite.specs.Does.{Tally, Does, OnRows, WritesRows, AtPlace}
use Rattle.sqlite.specs.Rows.{Task, Written, Queried}
use Rattle.sqlite.specs.Edit.{Edit, edit_of, Applies}
use Rattle.sqlite.specs.declared.run.Mode.{Mode}
use Rattle.sqlite.proofs.Callers.{one_step}
use Rattle.sqlite_trees.specs.Tree.{Trees}
use Rattle.sqlite_rules.specs.declared.error.Rowids.TheVariants.{Given}
use Rattle.sqlite_rules.specs.Calls.{ids_of}
use Rattle.sqlite_rules.specs.Action.{works}
use Rattle.sqlite_rules.specs.Edit.{taken_by}
use Rattle.sqlite_schema.specs.declared.schema.Schema.{Schema}
use Rattle.sqlite_schema.specs.declared.schema.Keys.TheVariants.{Enforced}
use Rattle.sqlite_schema.specs.declared.schema.Constraint.TheVariants.{Unique}
use Rattle.sqlite_schema.specs.declared.schema.Among.TheVariants.{All, Due}
use Rattle.sqlite_schema.specs.Rules.{Keeps, Refers}
use Rattle.streetmap_rows.specs.Holds.{KeyPair}
use Rattle.streetmap_geojson.specs.FeatureValue.{FeatureValue}
use Rattle.streetmap_ledger.specs.State.{State, Collection}
use Rattle.streetmap_rows.specs.Tables.{Roots, features, IsOurs}
use Rattle.streetmap_rows.specs.Rows.{AreOf}
use Rattle.streetmap_rows.specs.Queries.{program}
use Rattle.streetmap_rows.proofs.NamedTables.{IsFound}
use Rattle.streetmap_rows.specs.Tables.{features_name}
use Rattle.streetmap_rows.proofs.Compiles.{delete_feature_never}
use Rattle.streetmap_rows.proofs.StatementParts.{went, same_value}
use Rattle.streetmap_rows.proofs.FixedRefused.{refused_step}
use Rattle.streetmap_rows.proofs.Deleting.{keys_of, delete_query, edit, gone_is, never, idle, refers}

module _ (s : State) (schema : Schema) (roots : Roots) (ours : IsOurs roots schema) (db : Trees) (of : AreOf s roots db) (p : KeyPair) (c : Collection)
    (collected : get s.collections p.0 ≡ Some c) (d : FeatureValue) (is : get c.features p.1 ≡ Some d)
    (found : IsFound schema features_name (features roots.features)) where
  abbrev pub task_of : Mode → Task
  task_of mode = record { limit = None; keys = mode.keys; schema = schema; table = features roots.features; params = keys_of p }

  abbrev the_edit : List Row → Edit
  the_edit rows = edit_of db (features roots.features) (ids_of rows) Given 0 []

  abbrev mine : Edit
  mine = edit s schema roots ours db of p c collected d is

  edit_is : (rows : List Row) → Answers (record { schema = schema; trees = db }) (program (delete_query roots.features)) (keys_of p) rows → the_edit rows ≡ mine
  edit_is rows h = ap (λ ids. edit_of db (features roots.features) ids Given 0 []) (gone_is s schema roots ours db of p c collected d is found.low rows h)

  no_more : works schema Enforced 0 roots.features (taken_by db mine) [] ≡ []
  no_more = idle s schema roots ours db of p c collected d is

  -- the step of a DELETE that was made
  pub made : (mode : Mode) → mode.keys ≡ Enforced → (w : Written) → WritesRows (task_of mode) db (Delete found.at (program (delete_query roots.features)))
      (Ok w) → Applies schema Enforced db mine w.trees
  made mode keys w h =
      let given = went h in
      let written = went given.2 in
      let trees : w.trees ≡ written.0 = ap (λ (it : Written). it.trees) (same_value written.2) in
      let step = subst₂ (λ k it. Rattle.sqlite_rules.specs.Action.Writes schema k db it (Ok written.0)) keys (edit_is given.0 given.1) written.1 in
      subst (λ next. Applies schema Enforced db mine next) (sym trees) (one_step schema Enforced db written.0 mine no_more step)

  -- the statement is one on the table of the features
  pub at_table : {mode : Mode} (text : List ℕ) (out : Result (Tally × Database) (Option Error)) →
      Does None mode (keys_of p) (record { schema = schema; trees = db }) text None (Delete found.at (program (delete_query roots.features))) out
      → OnRows (task_of mode) mode None (Delete found.at (program (delete_query roots.features))) db out
  at_table {mode} text out h = subst (λ o. AtPlace (λ t. OnRows (record { limit = None; keys = mode.keys; schema = schema; table = t; params = keys_of p }) mode
      None (Delete found.at (program (delete_query roots.features))) db) o out) found.listed h

  pub never_refused : (mode : Mode) (from : Database) (e : Error) (text : List ℕ) → from ≡ record { schema = schema; trees = db } → mode.keys ≡ Enforced →
      mode.may_wait ≡ false → Keeps Unique schema db → Refers All schema db
      → Does None mode (keys_of p) from text None (Delete found.at (program (delete_query roots.features))) (Err (Some e)) → ⊥
  never_refused mode from e text at keys wait keeps was h =
      let on : OnRows (task_of mode) mode None (Delete found.at (program (delete_query roots.features))) db (Err (Some e)) =
      at_table text (Err (Some e)) (subst (λ f. Does None mode (keys_of p) f text None (Delete found.at (program (delete_query roots.features))) (Err (Some e)))
      at h) in
      elim on [
        | inl early ↦ elim early.1 [
          | inl first ↦ delete_feature_never schema roots.features found db p.0 p.1 e (subst
              (λ q. Queried None (record { schema = schema; trees = db }) (program (delete_query roots.features)) (keys_of p) (Err q))
              (same_stop e first.0 early.0 first.2 early.2) first.1)
          | inr given ↦ elim given.2 [
            | inl edited ↦ elim (refused_step schema Enforced db mine edited.1.0 no_more
                (subst₂ (λ k it. Rattle.sqlite_rules.specs.Action.Writes schema k db it (Err edited.1.0)) keys (edit_is given.0 given.1) edited.1.1)) [
                  | inl refused ↦ never s schema roots ours db of p c collected d is keeps refused.0 refused.1
                  | inr big ↦ (let none = rw big at edited.1.2 in let b = edited.2 in let a = early.2 in absurd (cc))
                ]
            | inr gave ↦ (let no = gave.2 in absurd (cc))
          ]
        ]
        | inr written ↦ elim written.2 [
          | inl tested ↦ tested.1.0 (subst (λ a. Refers a schema written.0.trees) (sym (ap (λ b. if b then Due mode.keys else All) wait))
              (refers s schema roots ours db of p c collected d is was written.0.trees (made mode keys written.0 written.1)))
          | inr ended ↦ elim ended.2 [ inl returned ↦ (let no = returned.1 in absurd (cc)) | inr gave ↦ (let no = gave.2 in absurd (cc)) ]
        ]
      ]
    where
      same_stop : (x : Error) (a b : Option Error) → ◌≡◌ {A = Result Written (Option Error)} (Err b) (Err a) →
          ◌≡◌ {A = Result (Tally × Database) (Option Error)} (Err (Some x)) (Err b) → a ≡ Some x
      same_stop x a b p q = cc
