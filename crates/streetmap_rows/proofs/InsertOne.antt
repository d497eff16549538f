-- An INSERT of rows of values, into any table without AUTOINCREMENT.
use Rattle.std.proofs.Common.{◌≡◌, inl, inr, ℕ, ◌/◌, List, [], ◌++◌, length, true, false, if◌then◌else◌, Option, Some, None, Ok, Err, Result, option_map, sym}
use Rattle.std.proofs.Common.{ap, subst, subst₂, ◌∙◌, append-nil}
use Rattle.sqlite.specs.declared.error.Error.{Error}
use Rattle.sqlite.specs.declared.error.Error.TheVariants.{SqliteFailure}
use Rattle.sqlite.specs.declared.error.ErrorCode.TheVariants as code
use Rattle.sqlite.specs.declared.run.Mode.{Mode}
use Rattle.sqlite.specs.Order.{Row}
use Rattle.sqlite.specs.Term.{Term}
use Rattle.sqlite.specs.Effect.{Database, value_rows, edit_error}
use Rattle.sqlite.specs.Command.TheVariants.{Insert}
use Rattle.sqlite.specs.Source.TheVariants.{Values}
use Rattle.sqlite.specs.Does.{Tally, OnRows, WritesRows, Concludes}
use Rattle.sqlite.specs.Rows.{Task, Written, Sourced, stamped}
use Rattle.sqlite.specs.Rowids.TheVariants.{Chosen}
use Rattle.sqlite.specs.Edit.{Edit, edit_of, Applies, IsRefused}
use Rattle.sqlite.proofs.Callers.{one_step}
use Rattle.sqlite_typing.specs.Types.{accepts_terms}
use Rattle.sqlite_trees.specs.Tree.{Trees}
use Rattle.sqlite_value.specs.declared.keys.Order.{Order}
use Rattle.sqlite_rules.proofs.ActionLemmas.{no_works}
use Rattle.sqlite_rules.specs.Action.{Writes}
use Rattle.sqlite_rules.specs.declared.error.Refusal.{Refusal}
use Rattle.sqlite_rules.specs.declared.error.Refusal.TheVariants.{NoRowid}
use Rattle.sqlite_schema.specs.declared.schema.Schema.{Schema}
use Rattle.sqlite_schema.specs.declared.schema.Table.{Table}
use Rattle.sqlite_schema.specs.declared.schema.Column.{Column}
use Rattle.sqlite_schema.specs.declared.schema.Reference.{Reference}
use Rattle.sqlite_schema.specs.declared.schema.Keys.TheVariants.{Enforced}
use Rattle.sqlite_schema.specs.declared.schema.Among.TheVariants.{All, Due}
use Rattle.sqlite_schema.specs.Rules.{Refers}
use Rattle.streetmap_rows.specs.Shapes.{plain_table}
use Rattle.streetmap_rows.proofs.StatementParts.{went, same_value}
use Rattle.streetmap_rows.proofs.FixedRefused.{refused_step}

pub concluded : (task : Task) (mode : Mode) (w : Written) (tally : Tally) (after : Database) → Concludes task mode None w (Ok (tally, after)) → after
    ≡ record { schema = task.schema; trees = w.trees }
concluded task mode w tally after h = ap (λ (p : Tally × Database). p.1) (same_value (went (went h).2).2)

module _ (name : List ℕ) (tree : ℕ) (columns : List Column) (primary : List ℕ) (references : List Reference) (uniques : List (List ℕ)) (orders : List Order)
    (at : ℕ) (terms : List Term) (width : ℕ) (params : Row) (schema : Schema) (db : Trees) (news : List Row) where
  abbrev pub table : Table
  table = record (plain_table name tree columns primary references) { uniques = uniques; orders = orders }

  abbrev pub edit : Edit
  edit = record { table = table; gone = []; news = news }

  abbrev pub task_of : Mode → Task
  task_of mode = record { limit = None; keys = mode.keys; schema = schema; table = table; params = params }

  module _ (fits : accepts_terms terms params ≡ true) (is : edit_of db table [] Chosen 0 (value_rows params width (length terms / width) terms) ≡ edit)
      (mode : Mode) (keys : mode.keys ≡ Enforced) where
    same_edit : (rows : List Row) → rows ≡ value_rows (params ++ []) width (length terms / width) terms → edit_of db table [] Chosen 0 rows ≡ edit
    same_edit rows e = ap (edit_of db table [] Chosen 0) (e ∙ ap (λ q. value_rows q width (length terms / width) terms) (append-nil params)) ∙ is

    pub made : (w : Written) → WritesRows (task_of mode) db (Insert at (Values terms width)) (Ok w) → Applies schema Enforced db edit w.trees
    made w h =
        let given = went h in
        let written = went (went given.2).2 in
        let counted = went written.2 in
        let trees : w.trees ≡ written.0 = ap (λ (it : Written). it.trees) (same_value counted.2) ∙ same_value counted.1 in
        let step = subst₂ (λ k it. Writes schema k db it (Ok written.0)) keys (same_edit given.0 given.1.1) written.1 in
        subst (Applies schema Enforced db edit) (sym trees) (one_step schema Enforced db written.0 edit (no_works schema Enforced 0 tree news) step)

    pub refused_for : mode.may_wait ≡ false → ((why : Refusal) → IsRefused schema Enforced db edit why → why ≡ NoRowid) →
        ((next : Trees) → Applies schema Enforced db edit next → Refers All schema next)
        → (e : Error) → OnRows (task_of mode) mode None (Insert at (Values terms width)) db (Err (Some e)) → e ≡ SqliteFailure code.NoRowid
    refused_for wait only refers e on =
        elim on [
          | inl early ↦ elim early.1 [
            | inl first ↦ elim (subst (λ s. Sourced None (record { schema = schema; trees = db }) (stamped table params) (Values terms width) (Err s))
                (same_stop e first.0 early.0 first.2 early.2) first.1) [
                  | inl mistyped ↦ absurd (let wrong : true ≡ false = sym (ap (accepts_terms terms) (append-nil params) ∙ fits) ∙ mistyped.1 in cc)
                  | inr limited
                      ↦ absurd (let no = limited.1 in cc)
                ]
            | inr given ↦ elim given.2 [
              | inl counter ↦ absurd (let no = counter.1 in cc)
              | inr counted ↦ elim counted.2 [
                | inl edited ↦ elim (refused_step schema Enforced db edit edited.1.0 (no_works schema Enforced 0 tree news)
                    (subst₂ (λ k it. Writes schema k db it (Err edited.1.0)) keys (same_edit given.0 given.1.1) edited.1.1)) [
                      | inl refused ↦ reported e edited.0 edited.1.0 early.0 refused.0 (only refused.0 refused.1) refused.2 edited.1.2 edited.2 early.2
                      | inr big ↦ absurd (let none = rw big at edited.1.2 in let b = edited.2 in let a = early.2 in cc)
                    ]
                | inr written ↦ absurd (elim written.2 [ inl counts ↦ (let no = counts.1 in cc) | inr last ↦ (let no = last.2 in cc) ])
              ]
            ]
          ]
          | inr written ↦ absurd (elim written.2 [
            | inl tested ↦ tested.1.0 (subst (λ a. Refers a schema written.0.trees) (sym (ap (λ b. if b then Due mode.keys else All) wait))
                (refers written.0.trees (made written.0 written.1)))
            | inr ended ↦ elim ended.2 [ inl returned ↦ (let no = returned.1 in cc) | inr gave ↦ (let no = gave.2 in cc) ]
          ])
        ]
      where
        same_stop : (x : Error) (a b : Option Error) → ◌≡◌ {A = Result Written (Option Error)} (Err b) (Err a) →
            ◌≡◌ {A = Result (Tally × Database) (Option Error)} (Err (Some x)) (Err b) → a ≡ Some x
        same_stop x a b p q = cc

        reported : (x : Error) (stop : Option Error) (why : Option Refusal) (out : Option Error) (r : Refusal) → r ≡ NoRowid → why ≡ Some r → stop
            ≡ option_map edit_error why → ◌≡◌ {A = Result Written (Option Error)} (Err out) (Err stop)
            → ◌≡◌ {A = Result (Tally × Database) (Option Error)} (Err (Some x)) (Err out) → x ≡ SqliteFailure code.NoRowid
        reported x stop why out r a b k l m =
            let t : stop ≡ Some (SqliteFailure code.NoRowid) = k ∙ ap (option_map edit_error) b ∙ ap (λ z. Some (edit_error z)) a in
            let o : out ≡ Some x = cc in
            let u : out ≡ stop = cc in
            let all : Some x ≡ Some (SqliteFailure code.NoRowid) = sym o ∙ u ∙ t in cc
