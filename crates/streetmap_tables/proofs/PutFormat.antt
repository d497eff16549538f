-- The format row goes into tables that have every other row of a state.
use Rattle.std.proofs.Common.{◌≡◌, ◌≢◌, ℕ, pos, List, [], ◌∷◌, codes, Ok, Err, false, eq-eqb, refl, None, Option, true, sym, subst, ◌∙◌, arith}
use Rattle.std.specs.List.{AllByRecursion}
use Rattle.std.specs.FinMap.{empty, get-empty}
use Rattle.sqlite.specs.declared.types.Value.TheVariants.{Int, Text as Words}
use Rattle.sqlite.specs.Order.{Row}
use Rattle.sqlite.specs.Term.{Term, lit}
use Rattle.sqlite.specs.Schema.{Schema}
use Rattle.sqlite.specs.Table.{Table}
use Rattle.sqlite.specs.Effect.{Database, IsDatabase}
use Rattle.sqlite.specs.State.{State as Seen, Executes, ExecutesInside}
use Rattle.sqlite.specs.declared.error.Error.{Error}
use Rattle.sqlite_ast.specs.declared.Expr.TheVariants as expr
use Rattle.sqlite_tied.specs.Compute.{everything}
use Rattle.sqlite_trees.specs.Tree.{Trees, put_row, with_tree}
use Rattle.sqlite_schema.specs.declared.schema.Constraint.TheVariants.{Unique}
use Rattle.sqlite_schema.specs.declared.schema.Constraint.TheVariants as rule
use Rattle.sqlite_schema.specs.declared.schema.Keys.TheVariants.{Enforced}
use Rattle.sqlite_schema.specs.declared.schema.Among.TheVariants.{All}
use Rattle.sqlite_schema.specs.Rules.{Refers}
use Rattle.sqlite_rules.specs.declared.error.Refusal.{Refusal}
use Rattle.sqlite_rules.specs.declared.error.Refusal.TheVariants.{Violates, Mismatch, NoRowid, BadReference, TooDeep}
use Rattle.sqlite_rules.specs.Lists.{Has}
use Rattle.sqlite_rules.specs.Edit.{next_rowid, is_taken, IsRefused, Applies}
use Rattle.sqlite_rules.proofs.ListLemmas.{all_has}
use Rattle.streetmap_ledger.specs.State.{State, opening_state}
use Rattle.streetmap_rows.specs.Holds.{HoldsByKey, KeyPair, first_key, is_first, pair_key, has_pair}
use Rattle.streetmap_rows.proofs.ColumnCasts.{cast_null, cast_int}
use Rattle.streetmap_rows.proofs.NamedTables.{IsFound}
use Rattle.streetmap_rows.proofs.HeldKeys.{holds_put, holds_same}
use Rattle.streetmap_rows.proofs.TextKeys.{first_is, first_self}
use Rattle.streetmap_rows.proofs.Resolving.{command_is, is_plain, is_fit}
use Rattle.streetmap_rows.proofs.Meaning.{Insertion, IsInsert, InsertMeans, quoted, terms_of, insert_means}
use Rattle.streetmap_rows.proofs.InsertRuns as run
use Rattle.sqlite.proofs.StateLemmas.{refers_if_sound}
use Rattle.streetmap_rows.specs.Failures.{IsOfStore}
use Rattle.streetmap_rows.proofs.RowPut.{keeps_unique, refers_after}
use Rattle.std.proofs.lemmas.Bool.{both_ways, true≢false, ne_eqb}
use Rattle.streetmap_rows.specs.Tables.{Roots, IsOurs, meta, collections, batches, features, meta_name}
use Rattle.streetmap_rows.specs.Rows.{feature_at, meta_cells}
use Rattle.streetmap_rows.specs.Representations.{CanBeRead, StandsFor}
use Rattle.streetmap_rows.specs.Elsewhere.{is_our_name, IsSameElsewhere}
use Rattle.streetmap_rows.proofs.OtherTables.{same_elsewhere}
use Rattle.streetmap_rows.proofs.TablesInSchema as placing
use Rattle.streetmap_tables.specs.Creation.{AreMade, LacksFormat, format_text}

-- ---- what the text means

abbrev format_row : Insertion
format_row = record {
  text = format_text;
  count = 0;
  table = meta;
  columns = codes "name" ∷ codes "value" ∷ [];
  rows = (quoted (codes "format") ∷ (expr.Integer (codes "2"), lit (Int (pos 2))) ∷ []) ∷ [];
}

format_is : IsInsert format_row
unfolding everything
format_is = record {
  says = (refl, refl, omega arith, refl);
  unstamped = λ tree. refl;
  filled = λ schema tree. refl;
}

abbrev format_terms : List Term
format_terms = terms_of format_row

format_means : InsertMeans format_row
format_means = insert_means format_row format_is

-- ---- tables with no row

pub holds_none : {K : Type 0} (key : Row → K) (is_at : K → Row → _) (cells : K → Option Row) (rows : List Row) → rows ≡ [] → ((k : K) → cells k ≡ None) →
    HoldsByKey key is_at cells rows
holds_none key is_at cells rows empty none = subst (HoldsByKey key is_at cells) (sym empty)
    (record { table = tt; keyed = tt; apart = tt; found = λ k. sym (none k) })

no_feature : (p : KeyPair) → feature_at opening_state p ≡ None
no_feature p = rw (get-empty _ p.0) refl

readable : CanBeRead opening_state
readable = record {
  collections = λ name c h. absurd (let e = sym (get-empty _ name) ∙ h in cc);
  features = λ p f h. absurd (let e = sym (no_feature p) ∙ h in cc);
}

pub meta_ours : is_our_name meta_name ≡ true
unfolding everything
meta_ours = refl

-- tables that were made have all rows of the opening state but that of the format
pub lacks_format : (db : Database) → AreMade db → LacksFormat opening_state db
lacks_format db made = record {
  roots = made.roots;
  ours = made.ours;
  meta_empty = made.meta_empty;
  collections = holds_none first_key is_first _ _ made.collections_empty (λ name. rw (get-empty _ name) refl);
  batches = holds_none first_key is_first _ _ made.batches_empty (λ key. rw (get-empty _ key) refl);
  features = holds_none pair_key has_pair _ _ made.features_empty (λ p. rw (no_feature p) refl);
  readable = readable;
}

-- ---- the row

module _ (s : State) (old new : Seen) (limit : old.step_limit ≡ None) (lacks : LacksFormat s old.now) (sound : IsDatabase old.now) where
  abbrev roots : Roots
  roots = lacks.roots

  abbrev schema : Schema
  schema = old.now.schema

  abbrev db : Trees
  db = old.now.trees

  found : IsFound schema meta_name (meta roots.meta)
  found = placing.meta_found roots old.now lacks.ours sound

  abbrev row : Row
  row = Int (next_rowid (db roots.meta)) ∷ Words (codes "format") ∷ Int (pos 2) ∷ []

  listed : Has schema.tables (meta roots.meta)
  listed = placing.meta_there roots schema lacks.ours

  unused : is_taken (db roots.meta) row ≡ false
  unused = rw lacks.meta_empty refl

  -- no existing row is in its way
  only_rowid : (why : Refusal) → IsRefused schema Enforced db (record { table = meta roots.meta; gone = []; news = row ∷ [] }) why → why ≡ NoRowid
  only_rowid (Violates rule.Datatype) h = absurd (true≢false h)
  only_rowid (Violates rule.NotNull) h = absurd (true≢false h)
  only_rowid (Violates rule.Check) h = absurd (true≢false h)
  only_rowid (Violates rule.PrimaryKey) h = absurd (both_ways _ (rw unused at h) refl)
  only_rowid (Violates rule.Unique) h =
      absurd (h (keeps_unique schema db (meta roots.meta) row lacks.ours.apart listed unused (with_tree db roots.meta (put_row row (db roots.meta)))
      (record { rows = rw (eq-eqb roots.meta roots.meta refl) refl; others = λ t known other. rw (ne_eqb t.tree roots.meta other) })
      (λ i known on r there. absurd (subst (λ rows. Has rows r) lacks.meta_empty there)) (sound.obeys.rules Unique)))
  only_rowid (Violates rule.ForeignKey) h = absurd h
  only_rowid Mismatch h = absurd (true≢false h)
  only_rowid NoRowid h = refl
  only_rowid BadReference h = absurd (true≢false h)
  only_rowid TooDeep h = absurd h

  refers : (next : Trees) → Applies schema Enforced db (record { table = meta roots.meta; gone = []; news = row ∷ [] }) next → Refers All schema next
  refers next made = refers_after schema db (meta roots.meta) row lacks.ours.apart listed unused next
      (record { rows = made.rows; others = λ t known other. all_has _ schema.tables t made.tables known other }) (refers_if_sound _ _ sound) refl

  kept : (next : Trees) → AllByRecursion (λ t. t.tree ≢ roots.meta → next t.tree ≡ db t.tree) schema.tables → (t : Table) → Has schema.tables t →
      t.tree ≢ roots.meta → next t.tree ≡ db t.tree
  kept next all t there other = all_has (λ (u : Table). u.tree ≢ roots.meta → next u.tree ≡ db u.tree) schema.tables t all there other

  pub format_put : (count : ℕ) → Executes format_text [] old new (Ok count) → StandsFor s new.now × IsSameElsewhere old.now new.now
  format_put count h =
      let it = format_means schema roots.meta found in
      let r = run.inserted _ roots.meta _ _ _ _ _ found.at format_terms 3 format_text [] old new schema (row ∷ []) refl limit
      (command_is schema format_text 0 _ it) (is_plain schema format_text 0 _ it) (is_fit schema format_text 0 _ it refl)
      refl found.listed (rw (cast_null, cast_int (pos 2)) refl) count h in (
        record {
          roots = roots;
          ours = subst (IsOurs roots) (sym r.same_schema) lacks.ours;
          of = record {
            format = subst (HoldsByKey first_key is_first meta_cells) (sym r.step.rows) (holds_put first_key is_first first_is first_self (λ _. None)
                (db roots.meta) (holds_none first_key is_first (λ _. None) (db roots.meta) lacks.meta_empty (λ _. refl)) row meta_cells
                (rw lacks.meta_empty refl) refl refl (λ q. refl));
            collections = holds_same first_key is_first _ _ (db roots.collections) (new.now.trees roots.collections)
                (kept new.now.trees r.step.tables (collections roots.collections) (placing.collections_there roots schema lacks.ours)
                (λ e. placing.meta_collections roots schema lacks.ours (sym e))) (λ _. refl) lacks.collections;
            batches = holds_same first_key is_first _ _ (db roots.batches) (new.now.trees roots.batches)
                (kept new.now.trees r.step.tables (batches roots.batches) (placing.batches_there roots schema lacks.ours)
                (λ e. placing.meta_batches roots schema lacks.ours (sym e))) (λ _. refl) lacks.batches;
            features = holds_same pair_key has_pair _ _ (db roots.features) (new.now.trees roots.features)
                (kept new.now.trees r.step.tables (features roots.features) (placing.features_there roots schema lacks.ours)
                (λ e. placing.meta_features roots schema lacks.ours (sym e))) (λ _. refl) lacks.features;
          };
          readable = lacks.readable;
          sound = r.sound;
        },
        same_elsewhere old.now new.now _ _ lacks.ours.apart (placing.meta_there roots schema lacks.ours) meta_ours r.same_schema r.step,
      )

  pub format_reported : (e : Error) → ExecutesInside 0 format_text [] old new (Err e) → IsOfStore e
  format_reported =
      let it = format_means schema roots.meta found in
      run.reported _ roots.meta _ _ _ _ _ found.at format_terms 3 format_text [] old new schema (row ∷ []) refl limit (command_is schema format_text 0 _ it)
      (is_plain schema format_text 0 _ it) (is_fit schema format_text 0 _ it refl)
      refl found.listed (rw (cast_null, cast_int (pos 2)) refl) only_rowid refers
