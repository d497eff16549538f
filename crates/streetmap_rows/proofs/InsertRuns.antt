-- An INSERT of rows of values as it runs.
use Rattle.std.proofs.Common.{◌≡◌, inl, inr, ℕ, ◌/◌, List, [], length, true, Option, Some, None, Ok, Err, Result, refl, sym, ap, subst, subst₂, ◌∙◌, slice_get}
use Rattle.sqlite.specs.declared.error.Error.{Error}
use Rattle.sqlite.specs.Order.{Row}
use Rattle.sqlite.specs.Term.{Term}
use Rattle.sqlite.specs.Schema.{Schema}
use Rattle.sqlite.specs.Command.{Command}
use Rattle.sqlite.specs.Command.TheVariants.{Insert, Begin, Commit, Rollback, Release, RollbackTo}
use Rattle.sqlite.specs.Source.TheVariants.{Values}
use Rattle.sqlite.specs.Effect.{Database, IsDatabase, value_rows}
use Rattle.sqlite.specs.Rowids.TheVariants.{Chosen}
use Rattle.sqlite.specs.Edit.{Edit, edit_of, Applies, IsRefused}
use Rattle.sqlite.specs.Listing.{understood}
use Rattle.sqlite.specs.Does.{Does, Tally, OnRows, AtPlace}
use Rattle.sqlite.specs.State.{State as Seen, mode_of, Executes, ExecutesInside, EndsScope, IsMisplaced}
use Rattle.sqlite.proofs.Callers.{IsPlain, command_of, statement_of, runs_as}
use Rattle.sqlite_typing.specs.Types.{accepts_terms}
use Rattle.sqlite_value.specs.declared.keys.Order.{Order}
use Rattle.sqlite_rules.specs.declared.error.Refusal.{Refusal}
use Rattle.sqlite_rules.specs.declared.error.Refusal.TheVariants.{NoRowid}
use Rattle.sqlite_schema.specs.declared.schema.Table.{Table}
use Rattle.sqlite_schema.specs.declared.schema.Column.{Column}
use Rattle.sqlite_schema.specs.declared.schema.Reference.{Reference}
use Rattle.sqlite_schema.specs.declared.schema.Keys.TheVariants.{Enforced}
use Rattle.sqlite_schema.specs.declared.schema.Among.TheVariants.{All}
use Rattle.sqlite_schema.specs.Rules.{Refers}
use Rattle.streetmap_rows.specs.Failures.{IsOfStore}
use Rattle.streetmap_rows.proofs.StoreErrors.{no_rowid_is, failure_is}
use Rattle.streetmap_rows.proofs.Resolving.{IsFit}
use Rattle.streetmap_rows.proofs.StatementParts.{went}
use Rattle.streetmap_rows.proofs.InsertOne.{concluded}
use Rattle.streetmap_rows.proofs.InsertOne as put
use Rattle.streetmap_rows.proofs.FixedRefused.{refused_as}

-- a write is no command of transactions
pub never_misplaced : (old : Seen) (k : Command) (e : Error) → (k ≡ Begin → ⊥) → (k ≡ Commit → ⊥) → (k ≡ Rollback → ⊥) →
    ((name : List ℕ) → k ≡ Release name → ⊥) → ((name : List ℕ) → k ≡ RollbackTo name → ⊥) → IsMisplaced old k e → ⊥
never_misplaced old k e b c r l t (inl h) = elim h.1 [ inl begin ↦ b begin.0 | inr ends ↦ elim ends.0 [ inl commit ↦ c commit | inr back ↦ r back ] ]
never_misplaced old k e b c r l t (inr h) = elim h.2 [ inl release ↦ l h.1 release | inr back ↦ t h.1 back ]

pub never_ends : (sql : List ℕ) (params : Row) (old : Seen) (schema : Schema) (k : Command) → old.now.schema ≡ schema → command_of (understood schema sql) ≡ k
    → (k ≡ Commit → ⊥) → (k ≡ Rollback → ⊥) → ((name : List ℕ) → k ≡ Release name → ⊥) → ((name : List ℕ) → k ≡ RollbackTo name → ⊥) →
    EndsScope 0 sql params old → ⊥
unfolding EndsScope
never_ends sql params old schema k has is c r l t h =
    let same : h.0.command ≡ k = ap command_of (sym h.1.is ∙ ap (λ x. understood x sql) has) ∙ is in
    elim h.2 [
      | inl ends ↦ elim ends [ inl commit ↦ c (sym same ∙ commit) | inr back ↦ r (sym same ∙ back) ]
      | inr marks ↦ elim marks.1 [ inl release ↦ l marks.0 (sym same ∙ release) | inr back ↦ t marks.0 (sym same ∙ back) ]
    ]

module _ (name : List ℕ) (tree : ℕ) (columns : List Column) (primary : List ℕ) (references : List Reference) (uniques : List (List ℕ)) (orders : List Order)
    (at : ℕ) (terms : List Term) (width : ℕ)
    (sql : List ℕ) (params : Row) (old new : Seen) (schema : Schema) (news : List Row) (has : old.now.schema ≡ schema) (limit : old.step_limit ≡ None)
    (is : command_of (understood schema sql) ≡ Insert at (Values terms width)) (plain : IsPlain (understood schema sql))
    (fit : IsFit sql (length params) (understood schema sql)) (fits : accepts_terms terms params ≡ true) where
  abbrev pub table : Table
  table = put.table name tree columns primary references uniques orders at terms width params schema old.now.trees news

  abbrev pub edit : Edit
  edit = put.edit name tree columns primary references uniques orders at terms width params schema old.now.trees news

  module _ (placed : slice_get schema.tables at ≡ Some table) (made : edit_of old.now.trees table [] Chosen 0
      (value_rows params width (length terms / width) terms) ≡ edit) where
    from : old.now ≡ record { schema = schema; trees = old.now.trees }
    from = ap (λ x. record { schema = x; trees = old.now.trees }) has

    at_table : (text : List ℕ) (out : Result (Tally × Database) (Option Error)) → Does None (mode_of old) params
        (record { schema = schema; trees = old.now.trees }) text None (Insert at (Values terms width)) out
        → OnRows (record { limit = None; keys = (mode_of old).keys; schema = schema; table = table; params = params }) (mode_of old) None
        (Insert at (Values terms width)) old.now.trees out
    at_table text out h = subst (λ o. AtPlace (λ t. OnRows (record { limit = None; keys = (mode_of old).keys; schema = schema; table = t; params = params })
        (mode_of old) None (Insert at (Values terms width)) old.now.trees) o out) placed h

    -- what it leaves
    pub record Inserted : Type 0 where
      pub same_schema : new.now.schema ≡ schema
      pub step : Applies schema Enforced old.now.trees edit new.now.trees
      pub sound : IsDatabase new.now

    pub inserted : (count : ℕ) → Executes sql params old new (Ok count) → Inserted
    inserted count h =
        let w = runs_as sql params old new schema has (Insert at (Values terms width)) is plain count h in
        let text = statement_of sql (understood schema sql) in
        let ran : Does None (mode_of old) params (record { schema = schema; trees = old.now.trees }) text None (Insert at (Values terms width))
        (Ok (w.tally, new.now)) =
        subst₂ (λ l f. Does l (mode_of old) params f text None (Insert at (Values terms width)) (Ok (w.tally, new.now))) limit from w.changed in
        let done = went (at_table text (Ok (w.tally, new.now)) ran) in
        let end = concluded (record { limit = None; keys = (mode_of old).keys; schema = schema; table = table; params = params }) (mode_of old) done.0 w.tally
        new.now done.2 in
        record {
          same_schema = ap (λ (x : Database). x.schema) end;
          step = subst (Applies schema Enforced old.now.trees edit) (sym (ap (λ (x : Database). x.trees) end))
              (put.made name tree columns primary references uniques orders at terms width params schema old.now.trees news fits made (mode_of old) refl done.0
              done.1);
          sound = w.sound;
        }

    pub reported : ((why : Refusal) → IsRefused schema Enforced old.now.trees edit why → why ≡ NoRowid) →
        ((next : _) → Applies schema Enforced old.now.trees edit next → Refers All schema next)
        → (e : Error) → ExecutesInside 0 sql params old new (Err e) → IsOfStore e
    reported only refers e (inr ended) = absurd (never_ends sql params old schema _ has is (λ q. absurd (cc)) (λ q. absurd (cc)) (λ n q. absurd (cc))
        (λ n q. absurd (cc)) ended.0)
    reported only refers e (inl h) =
        let text = statement_of sql (understood schema sql) in
        elim (refused_as sql params old new schema has _ is plain fit e h.0) [
          | inl refused ↦ elim refused.0 [
            | inl misplaced ↦ absurd (never_misplaced old _ e (λ q. absurd (cc)) (λ q. absurd (cc)) (λ q. absurd (cc)) (λ n q. absurd (cc)) (λ n q. absurd (cc))
                misplaced)
            | inr done ↦ no_rowid_is e (put.refused_for name tree columns primary references uniques orders at terms width params schema old.now.trees news fits
                made (mode_of old) refl refl only refers e
                (at_table text (Err (Some e)) (subst₂ (λ l f. Does l (mode_of old) params f text None (Insert at (Values terms width)) (Err (Some e))) limit
                from done)))
          ]
          | inr failed ↦ failure_is e failed.1.0 failed.1.1
        ]
