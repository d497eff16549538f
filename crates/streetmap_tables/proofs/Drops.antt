-- What a DROP TABLE that succeeded did, over any schema.
use Rattle.std.proofs.Common.{◌≡◌, inl, inr, ℕ, Bool, List, [], ◌∷◌, Ok, Err, Result, refl, None, Some, Option, true, false, is_some, if◌then◌else◌, MatchBool}
use Rattle.std.proofs.Common.{ap, sym, subst, subst₂, ◌∙◌, slice_get, arith}
use Rattle.std.specs.List.{list_any}
use Rattle.std.proofs.lemmas.Bool.{cases_Bool, true≢false}
use Rattle.sqlite.specs.Schema.{Schema}
use Rattle.sqlite.specs.Table.{Table}
use Rattle.sqlite.specs.Order.{Row}
use Rattle.sqlite.specs.Command.{Command}
use Rattle.sqlite.specs.Command.TheVariants.{DropTable}
use Rattle.sqlite.specs.Does.{Tally, Drops, UncountsIn, AtPlace, is_acted_on}
use Rattle.sqlite.specs.declared.run.Mode.{Mode}
use Rattle.sqlite.specs.Rows.{Task, Edited, Gives, sequence}
use Rattle.sqlite_rules.specs.Edit.{edit_of}
use Rattle.sqlite_rules.specs.declared.error.Rowids.TheVariants.{Given}
use Rattle.sqlite_rules.specs.Calls.{ids_of}
use Rattle.sqlite_catalog.specs.Change.{KeepsRows}
use Rattle.sqlite.specs.Effect.{Database, IsDatabase}
use Rattle.sqlite.specs.Clock.{timed as timed_with}
use Rattle.sqlite.specs.State.{State as Seen, mode_of, Runs, Writes, ExecutesIn, Executes, shows_rows, text_of}
use Rattle.sqlite.specs.Listing.{understood, reads_listing, if_select, listing_schema}
use Rattle.sqlite_schema.specs.declared.command.Returning.{Returning}
use Rattle.sqlite_schema.specs.declared.schema.Keys.{Keys}
use Rattle.sqlite_schema.specs.Names.{same_name, table_named, view_named}
use Rattle.sqlite_trees.specs.Tree.{Trees}
use Rattle.sqlite_rules.specs.Lists.{Has}
use Rattle.sqlite_resolve.specs.Compile.{meaning, planned, compiled, command, drop_table, dropped, is_reserved, timed, returning, with_command}
use Rattle.sqlite_resolve.specs.Lowering.{Checked, and_then}
use Rattle.sqlite_resolve.specs.declared.compiled.Compiled.{Compiled}
use Rattle.sqlite_resolve.specs.declared.error.CompileError.{CompileError}
use Rattle.sqlite_resolve.specs.declared.error.CompileError.TheVariants.{Misuse, NoSuchTable}
use Rattle.streetmap_rows.proofs.NamedTables.{is_at}
use Rattle.streetmap_rows.proofs.StatementParts.{went, same_value}
use Rattle.streetmap_tables.specs.Drops.{IsDropText, CanGo, Dropped}

-- ---- the plan of the text

abbrev Planned : Type 0
Planned = List (List ℕ) × (Command × Option Returning)

-- it drops the table of that name
abbrev Finds : Schema → List ℕ → Command → Type 0
Finds schema name c = (at : ℕ) × (table_named schema name ≡ Some at) × (c ≡ DropTable at)

only_dropped : (schema : Schema) (name : List ℕ) (c : Command) → drop_table schema false name ≡ Ok c → Finds schema name c
unfolding drop_table
only_dropped schema name c h = go (is_reserved name) (is_some (view_named schema name)) (table_named schema name) refl h
  where
    go : (r v : Bool) (o : Option ℕ) → table_named schema name ≡ o → (if r then Err Misuse else
        (if v then Err Misuse else dropped DropTable NoSuchTable false o)) ≡ Ok c → Finds schema name c
    go true v o is e = absurd (cc)
    go false true o is e = absurd (cc)
    go false false None is e = absurd (cc)
    go false false (Some at) is e = let same : DropTable at ≡ c = cc in (at, is, sym same)

module _ (text name : List ℕ) (it : IsDropText text name) where
  abbrev Goes : Schema → Compiled → Type 0
  Goes schema c = Finds schema name c.command × (c.returning ≡ None) × (c.formats ≡ [])

  only_planned : (schema : Schema) (plan : Planned) → planned schema it.parsed ≡ Ok plan → Finds schema name plan.1.0 × (plan.1.1 ≡ None) × (plan.0 ≡ [])
  unfolding planned meaning returning command timed
  only_planned schema plan h = go (drop_table schema false name) refl (rw (it.drops, it.plain) at h)
    where
      go : (r : Checked Command) → drop_table schema false name ≡ r → and_then (and_then r (λ c. Ok (c, None))) (λ found. Ok ([], found)) ≡ Ok plan →
          Finds schema name plan.1.0 × (plan.1.1 ≡ None) × (plan.0 ≡ [])
      go (Ok c) is e =
          let same : ([], (c, None)) ≡ plan = cc in (
            subst (Finds schema name) (ap (λ (p : Planned). p.1.0) same) (only_dropped schema name c is),
            ap (λ (p : Planned). p.1.1) (sym same),
            ap (λ (p : Planned). p.0) (sym same),
          )
      go (Err why) is e = absurd (cc)

  only_compiled : (schema : Schema) (c : Compiled) → compiled schema text ≡ Ok c → Goes schema c
  unfolding compiled
  only_compiled schema c h = go (planned schema it.parsed) refl (rw it.is at h)
    where
      go : (r : Checked Planned) → planned schema it.parsed ≡ r → and_then r (λ plan. Ok (with_command it.parsed plan)) ≡ Ok c → Goes schema c
      go (Ok plan) is e =
          let same : with_command it.parsed plan ≡ c = cc in
          let p = only_planned schema plan is in (
            subst (Finds schema name) (ap (λ (x : Compiled). x.command) same) p.0,
            ap (λ (x : Compiled). x.returning) (sym same) ∙ p.1,
            ap (λ (x : Compiled). x.formats) (sym same) ∙ p.2,
          )
      go (Err why) is e = absurd (cc)

  -- it is no query on the listing
  only_understood : (schema : Schema) (c : Compiled) → understood schema text ≡ Ok c → Goes schema c
  unfolding understood
  only_understood schema c h = elim (cases_Bool (reads_listing schema text)) [
    | inl listed ↦ absurd (lists (compiled listing_schema text) refl (rw listed at h))
    | inr other ↦ only_compiled schema c (rw other at h)
  ]
    where
      lists : (r : Result Compiled CompileError) → compiled listing_schema text ≡ r → if_select r ≡ Ok c → ⊥
      lists (Ok k) at e = let goes = only_compiled listing_schema k at in absurd (let f = rw goes.0.2 at e in cc)
      lists (Err why) at e = absurd (cc)

-- ---- what it does

none_any : {A : Type 0} (p : A → Bool) (xs : List A) → ((x : A) → Has xs x → p x ≡ false) → list_any p xs ≡ false
none_any p [] none = refl
none_any p (x ∷ xs) none = rw (none x (inl refl)) (none_any p xs (λ y h. none y (inr h)))

-- no foreign key acts if no table refers to it
pub idle : (schema : Schema) (keys : Keys) (name : List ℕ) (table : Table) → CanGo schema name table → is_acted_on schema keys table ≡ false
idle schema keys name table it = none_any _ schema.tables (λ t h. none_any _ t.references (λ ref known. rw (it.free t ref h known)))

module _ (limit : Option ℕ) (params : Row) (mode : Mode) (from : Database) (name : List ℕ) (table : Table) (it : CanGo from.schema name table) (tally : Tally)
    (new : Database) where
  abbrev task : Task
  task = record { limit = limit; keys = mode.keys; schema = from.schema; table = table; params = params }

  uncounts : (b : Bool) (o : Option Table) (now emptied : Trees) → b ≡ false → UncountsIn task emptied (if b then o else None) (Ok now) → now ≡ emptied
  uncounts true o now emptied is h = absurd (true≢false is)
  uncounts false o now emptied is h = same_value h

  drops : IsDatabase new → Drops task mode from.trees (Ok (tally, new)) → Dropped table from new
  drops sound h =
      let one = went h in
      let emptied : one.0 ≡ from.trees = same_value (subst (λ b. MatchBool b (Edited from.schema mode.keys from.trees
      (edit_of from.trees table (ids_of (from.trees table.tree)) Given 0 []) (Ok one.0)) (Gives from.trees (Ok one.0)))
      (idle from.schema mode.keys name table it) one.1) in
      let two = went one.2 in
      let counted : two.0 ≡ one.0 = uncounts table.is_counted (sequence from.schema) two.0 one.0 it.uncounted two.1 in
      let three = went two.2 in
      let four = went three.2 in
      let last : new ≡ four.0 = ap (λ (x : Tally × Database). x.1) (same_value four.2) in
      record {
        schema = ap (λ (x : Database). x.schema) last ∙ four.1.0;
        rows = subst₂ (λ (x : Database) (was : Trees). KeepsRows x.schema.tables was x.trees) (sym last) (counted ∙ emptied)
            (subst (λ (x : Schema). KeepsRows x.tables two.0 four.0.trees) (sym four.1.0) four.1.1);
        sound = sound;
      }

module _ (text name : List ℕ) (it : IsDropText text name) (old new : Seen) (table : Table) (can : CanGo old.now.schema name table) where
  listed : (at : ℕ) → table_named old.now.schema name ≡ Some at → slice_get old.now.schema.tables at ≡ Some table
  listed at named =
      let represented = is_at (λ (t : Table). same_name t.name name) 0 old.now.schema.tables table can.named in
      let both : Some represented.at ≡ Some at = ap (λ k. Some k) (omega arith) ∙ sym represented.position ∙ named in
      let same : represented.at ≡ at = cc in
      subst (λ n. slice_get old.now.schema.tables n ≡ Some table) same represented.listed

  pub dropped_by : (count : ℕ) → Executes text [] old new (Ok count) → Dropped table old.now new.now
  unfolding ExecutesIn
  dropped_by count h =
      let goes = only_understood text name it old.now.schema h.0 h.1.is in
      let ran : Runs old new h.0.returning h.0.command (text_of text h.0) (timed_with [] h.0.formats h.1.now) count = elim (cases_Bool (shows_rows false h.0)) [
        | inl shows ↦ absurd (let e = (rw shows at h.2).0 in cc)
        | inr runs ↦ rw runs at h.2
      ] in
      let w : Writes old new None (DropTable goes.0.0) (text_of text h.0) (timed_with [] h.0.formats h.1.now) count =
      subst₂ (λ r k. Runs old new r k (text_of text h.0) (timed_with [] h.0.formats h.1.now) count) goes.1 goes.0.2 ran in
      drops old.step_limit (timed_with [] h.0.formats h.1.now) (mode_of old) old.now name table can w.tally new.now w.sound
      (subst (λ o. AtPlace (λ t. Drops (record {
        limit = old.step_limit;
        keys = (mode_of old).keys;
        schema = old.now.schema;
        table = t;
        params =
            timed_with [] h.0.formats h.1.now;
      }) (mode_of old) old.now.trees) o (Ok (w.tally, new.now))) (listed goes.0.0 goes.0.1) w.changed)
