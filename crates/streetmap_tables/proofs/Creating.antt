-- What a CREATE TABLE that succeeded did, over any schema.
use Rattle.std.proofs.Common.{◌≡◌, inl, inr, ℕ, Bool, List, [], length, Ok, Err, Result, refl, None, Option, true, false, not, ◌&&◌, ◌==◌, is_some}
use Rattle.std.proofs.Common.{if◌then◌else◌, MatchBool, ap, sym, subst, ◌∙◌}
use Rattle.sqlite.specs.Schema.{Schema}
use Rattle.sqlite.specs.Table.{Table}
use Rattle.sqlite.specs.Command.{Command}
use Rattle.sqlite.specs.Command.TheVariants.{CreateTable, Nothing}
use Rattle.sqlite.specs.Does.{Tally, Does, MakesTable, MakesSequence, Defines, no_rows, lacks_sequence, sequence_text}
use Rattle.sqlite.specs.declared.run.Mode.{Mode}
use Rattle.sqlite.specs.Rows.{Then, Gives}
use Rattle.sqlite_catalog.specs.Change.{next_tree, created, is_used, KeepsRows}
use Rattle.sqlite.specs.Effect.{Database, IsDatabase}
use Rattle.sqlite.specs.Clock.{timed as timed_with}
use Rattle.sqlite.specs.State.{State as Seen, mode_of, Runs, Writes, ExecutesIn, Executes, shows_rows, text_of}
use Rattle.sqlite.specs.Listing.{understood, reads_listing, if_select, listing_schema}
use Rattle.sqlite.proofs.Callers.{through}
use Rattle.std.specs.Option.{option_or}
use Rattle.std.proofs.lemmas.Bool.{cases_Bool}
use Rattle.sqlite_schema.specs.Names.{table_named, view_named, index_named}
use Rattle.sqlite_schema.specs.declared.command.Returning.{Returning}
use Rattle.sqlite_ast.specs.declared.CreateTable.{CreateTable as Def}
use Rattle.sqlite_syntax.specs.declared.statement.Parsed.{Parsed}
use Rattle.sqlite_catalog.specs.Calls.{CreatesTable}
use Rattle.sqlite_resolve.specs.Compile.{meaning, planned, compiled, command, create_table, creates, is_reserved, is_attached, timed, returning}
use Rattle.sqlite_resolve.specs.Define as define
use Rattle.sqlite_resolve.specs.Lowering.{Checked, and_then}
use Rattle.sqlite_resolve.specs.declared.compiled.Compiled.{Compiled}
use Rattle.sqlite_resolve.specs.declared.error.CompileError.{CompileError}
use Rattle.sqlite_resolve.specs.declared.error.CompileError.TheVariants.{Misuse, Exists, Unsupported}
use Rattle.streetmap_tables.specs.Made.{creating, IsTableText, Created}

only_made : (schema : Schema) (def : Def) (c : Command) → def.if_missing ≡ false → create_table schema [] def ≡ Ok c → c ≡ CreateTable
unfolding create_table creates
only_made schema def c fresh h = go (is_attached schema def.name) (is_reserved def.name) (is_some (index_named schema def.name))
    (is_some (option_or (table_named schema def.name) (view_named schema def.name))) def.if_missing fresh (define.table [] def) h
  where
    ends : (b : Bool) → (if b then Ok CreateTable else Err Unsupported) ≡ Ok c → c ≡ CreateTable
    ends true e = let same : CreateTable ≡ c = cc in sym same
    ends false e = absurd (cc)

    makes : (d : Checked Table) → and_then d (λ t. if length t.computed == length t.stamps.places && not def.resolves then Ok CreateTable else Err Unsupported)
        ≡ Ok c → c ≡ CreateTable
    makes (Ok t) e = ends (length t.computed == length t.stamps.places && not def.resolves) e
    makes (Err why) e = absurd (cc)

    go : (a r o s m : Bool) → m ≡ false → (d : Checked Table)
        → (if a then Err Unsupported else and_then (if r then Err Misuse else (if o then Err Exists else
        (if s then (if m then Ok false else Err Exists) else Ok true))) (λ is_new. if is_new then
        and_then d (λ t. if length t.computed == length t.stamps.places && not def.resolves then Ok CreateTable else Err Unsupported) else Ok Nothing))
        ≡ Ok c
        → c ≡ CreateTable
    go true r o s m f d e = absurd (cc)
    go false true o s m f d e = absurd (cc)
    go false false true s m f d e = absurd (cc)
    go false false false true true f d e = absurd (cc)
    go false false false true false f d e = absurd (cc)
    go false false false false m f d e = makes d e

-- the value of a result, or this one if it has none
abbrev or_this : {A E : Type 0} → A → Result A E → A
or_this a (Ok x) = x
or_this a (Err e) = a

ok_is : {A E : Type 0} (a b : A) → ◌≡◌ {A = Result A E} (Ok a) (Ok b) → a ≡ b
ok_is a b h = ap (or_this a) h

-- what was made, and then no table of counts
made_is : (text : List ℕ) (old : Database) (mode : Mode) (tally : Tally) (new : Database) (table : Table) (it : IsTableText text table) →
    lacks_sequence (created old.schema table) ≡ false
    → IsDatabase new → Defines mode (Then (MakesTable text old) MakesSequence) (Ok (tally, new)) → Created table old new
made_is text old mode tally new table it counts sound changed =
    let whole = through (Then (MakesTable text old) MakesSequence) (λ after. Gives (no_rows mode.in_doubt, after)) (tally, new) changed in
    let step = through (MakesTable text old) MakesSequence whole.0 whole.1 in
    ends whole.0 step.0 step.1 (ap (λ (x : Tally × Database). x.1) (ok_is (tally, new) (no_rows mode.in_doubt, whole.0) whole.2)) step.2
  where
    ends : (after mid : Database) → CreatesTable old.schema text old.trees mid.schema mid.trees → new ≡ after → MakesSequence mid (Ok after) →
        Created table old new
    ends after mid made last quiet =
        let named : made.table ≡ table = ok_is made.table table (sym made.defined ∙ it.defined) in
        let schema : mid.schema ≡ created old.schema table = made.is ∙ ap (created old.schema) named in
        let none : lacks_sequence mid.schema ≡ false = ap lacks_sequence schema ∙ counts in
        let still : after ≡ mid = ok_is after mid (subst (λ b. MatchBool b (MakesTable sequence_text mid (Ok after)) (Gives mid (Ok after))) none quiet) in
        let same : mid ≡ new = sym (last ∙ still) in
        record {
          free = subst (λ (t : Table). is_used old.schema t.name ≡ false) named made.free;
          schema = sym (ap (λ (x : Database). x.schema) same) ∙ schema;
          empty = subst (λ (x : Database). x.trees (next_tree old.schema) ≡ []) same made.empty;
          others = subst (λ (x : Database). KeepsRows old.schema.tables old.trees x.trees) same made.others;
          sound = sound;
        }

module _ (text : List ℕ) (table : Table) (it : IsTableText text table) where
  -- the plan of such a statement, if it has one
  only_planned : (schema : Schema) (plan : List (List ℕ) × (Command × Option Returning)) → planned schema it.parsed ≡ Ok plan → plan ≡ ([], (CreateTable, None))
  unfolding planned meaning returning command timed
  only_planned schema plan h = go (create_table schema [] it.written) refl (rw (it.makes, it.plain) at h)
    where
      go : (r : Checked Command) → create_table schema [] it.written ≡ r → and_then (and_then r (λ c. Ok (c, None))) (λ found. Ok ([], found)) ≡ Ok plan → plan
          ≡ ([], (CreateTable, None))
      go (Ok c) is e =
          let same : ([], (c, None)) ≡ plan = cc in
          sym same ∙ ap (λ k. ([], (k, None))) (only_made schema it.written c it.fresh is)
      go (Err why) is e = absurd (cc)

  only_compiled : (schema : Schema) (c : Compiled) → compiled schema text ≡ Ok c → c ≡ creating it.parsed
  unfolding compiled
  only_compiled schema c h = go (planned schema it.parsed) refl (rw it.is at h)
    where
      p : Parsed
      p = it.parsed

      go : (r : Checked (List (List ℕ) × (Command × Option Returning))) → planned schema it.parsed ≡ r
          → and_then r (λ plan. Ok (record {
            command = plan.1.0;
            returning = plan.1.1;
            names = it.parsed.names;
            formats = plan.0;
            start = it.parsed.start;
            end =
                it.parsed.end;
            tail = it.parsed.tail;
          })) ≡ Ok c → c ≡ creating it.parsed
      go (Ok plan) at e =
          let same : record {
            command = plan.1.0;
            returning = plan.1.1;
            names = it.parsed.names;
            formats = plan.0;
            start = it.parsed.start;
            end =
                it.parsed.end;
            tail = it.parsed.tail;
          } ≡ c = cc in
          sym same ∙ ap (λ (x : List (List ℕ) × (Command × Option Returning)). record {
            command = x.1.0;
            returning = x.1.1;
            names = it.parsed.names;
            formats =
                x.0;
            start = it.parsed.start;
            end = it.parsed.end;
            tail = it.parsed.tail;
          }) (only_planned schema plan at)
      go (Err why) at e = absurd (cc)

  -- it is no query on the listing
  only_understood : (schema : Schema) (c : Compiled) → understood schema text ≡ Ok c → c ≡ creating it.parsed
  unfolding understood
  only_understood schema c h = elim (cases_Bool (reads_listing schema text)) [
    | inl listed ↦ absurd (lists (compiled listing_schema text) refl (rw listed at h))
    | inr other ↦ only_compiled schema c (rw other at h)
  ]
    where
      lists : (r : Result Compiled CompileError) → compiled listing_schema text ≡ r → if_select r ≡ Ok c → ⊥
      lists (Ok k) at e = let same = only_compiled listing_schema k at in absurd (let f = rw same at e in cc)
      lists (Err why) at e = absurd (cc)

  -- no table counts its rowids without a table of counts
  pub created_by : (old new : Seen) → lacks_sequence (created old.now.schema table) ≡ false → (count : ℕ) → Executes text [] old new (Ok count) →
      Created table old.now new.now
  unfolding ExecutesIn
  created_by old new counts count h =
      let same = only_understood old.now.schema h.0 h.1.is in
      let ran : Runs old new h.0.returning h.0.command (text_of text h.0) (timed_with [] h.0.formats h.1.now) count = elim (cases_Bool (shows_rows false h.0)) [
        | inl shows ↦ absurd (let e = (rw shows at h.2).0 in cc)
        | inr runs ↦ rw runs at h.2
      ] in
      let w : Writes old new None CreateTable (text_of text (creating it.parsed)) (timed_with [] [] h.1.now) count =
      subst (λ (c : Compiled). Runs old new c.returning c.command (text_of text c) (timed_with [] c.formats h.1.now) count) same ran in
      let changed : Does old.step_limit (mode_of old) (timed_with [] [] h.1.now) old.now text None CreateTable (Ok (w.tally, new.now)) =
      subst (λ t. Does old.step_limit (mode_of old) (timed_with [] [] h.1.now) old.now t None CreateTable (Ok (w.tally, new.now))) it.whole w.changed in
      made_is text old.now (mode_of old) w.tally new.now table it counts w.sound changed
