-- Rows that are taken out of a table that none refers to keep the rules.
use Rattle.std.proofs.Common.{◌≡◌, ◌≢◌, inl, inr, ℕ, ℤ, List, [], ◌∷◌, ◌++◌, length, true, false, not, find, Option, Some, None, refl, sym, ap, ap₂, subst, ◌∙◌}
use Rattle.std.specs.Prelude.{option_and_then, ◌==◌}
use Rattle.std.specs.List.{list_all, filter_map, flat_map, cons_option}
use Rattle.std.proofs.lemmas.Bool.{or_cases, or_left, or_right, both_ways, ne_eqb, and_right}
use Rattle.sqlite_value.specs.Order.{Row}
use Rattle.sqlite_trees.specs.Tree.{Trees, IsAscending, without_rowid}
use Rattle.sqlite_schema.specs.declared.schema.Constraint.TheVariants.{Unique}
use Rattle.sqlite_schema.specs.declared.schema.Among.TheVariants.{All}
use Rattle.sqlite_schema.specs.declared.schema.Keys.{Keys}
use Rattle.sqlite_schema.specs.declared.schema.Reference.{Reference}
use Rattle.sqlite_schema.specs.declared.schema.Schema.{Schema}
use Rattle.sqlite_schema.specs.declared.schema.Table.{Table}
use Rattle.sqlite_schema.specs.Names.{same_name}
use Rattle.sqlite_schema.specs.Rules.{ParentKey, parent_key, key_in, key_places, has_null, is_held, has_parent, is_key_if_to, Keeps, Refers}
use Rattle.sqlite_rules.specs.Lists.{Has}
use Rattle.sqlite_rules.specs.declared.action.Deed.{Deed}
use Rattle.sqlite_rules.specs.Action.{pairs, works, work_by, work_for, deed_for}
use Rattle.sqlite_rules.proofs.ListLemmas.{test_from, has_found, has_filtered}
use Rattle.sqlite_rules.proofs.RuleLemmas.{Turns, unique_kept, origin, refers_at, refers_from, same_table, key_tree}

module _ (schema : Schema) (db : Trees) (table : Table) (apart : IsAscending (λ a b. a.tree ≡ b.tree → ⊥) schema.tables) (listed : Has schema.tables table)
    (unnamed : (t : Table) (ref : Reference) → Has schema.tables t → Has t.references ref → same_name table.name ref.parent ≡ false) where
  -- no reference points into the table
  elsewhere : (ref : Reference) (key : ParentKey) → same_name table.name ref.parent ≡ false → parent_key schema.tables ref ≡ Some key → (t : Table)
      × Has schema.tables t × (t.tree ≡ key.0) × (t.tree ≢ table.tree)
  elsewhere ref key other h = go (find (λ t. same_name t.name ref.parent) schema.tables) refl h
    where
      mapped : (t : Table) (o : Option (List ℕ)) → option_and_then (key_in t) o ≡ Some key → t.tree ≡ key.0
      mapped t None k = absurd (cc)
      mapped t (Some ps) k = key_tree t ps key k

      go : (o : Option Table) → find (λ t. same_name t.name ref.parent) schema.tables ≡ o →
          option_and_then (λ t. option_and_then (key_in t) (key_places t ref.parent_columns)) o ≡ Some key
          → (t : Table) × Has schema.tables t × (t.tree ≡ key.0) × (t.tree ≢ table.tree)
      go None found k = absurd (cc)
      go (Some t) found k =
          let had = has_found (λ (t : Table). same_name t.name ref.parent) schema.tables t found in (
            t,
            had.0,
            mapped t (key_places t ref.parent_columns) k,
            λ same. both_ways _ other
                (subst (λ (x : Table). same_name x.name ref.parent ≡ true) (same_table schema.tables t table apart had.0 listed same) had.1),
          )

  idle : (keys : Keys) (depth : ℕ) (olds news : List Row) (child : Table) (ref : Reference) → same_name table.name ref.parent ≡ false →
      work_for schema keys depth table.tree olds news child ref ≡ None
  idle keys depth olds news child ref other = go (deed_for keys (length news == 0) ref) (parent_key schema.tables ref) refl
    where
      go : (deed : Option Deed) (o : Option ParentKey) → parent_key schema.tables ref ≡ o → work_by depth table.tree (pairs olds news) child ref deed o ≡ None
      go None o is = refl
      go (Some deed) None is = refl
      go (Some deed) (Some key) is =
          let t = elsewhere ref key other is in
          let far : (key.0 == table.tree) ≡ false = ne_eqb key.0 table.tree (λ same. t.3 (t.2 ∙ same)) in rw far

  pub no_work : (keys : Keys) (depth : ℕ) (olds news : List Row) → works schema keys depth table.tree olds news ≡ []
  no_work keys depth olds news = each schema.tables (λ t h. h)
    where
      none : (child : Table) (refs : List Reference) → ((ref : Reference) → Has refs ref → same_name table.name ref.parent ≡ false) →
          filter_map (work_for schema keys depth table.tree olds news child) refs ≡ []
      none child [] all = refl
      none child (ref ∷ refs) all = ap₂ cons_option (idle keys depth olds news child ref (all ref (inl refl))) (none child refs (λ x h. all x (inr h)))

      each : (tables : List Table) → ((t : Table) → Has tables t → Has schema.tables t) →
          flat_map (λ child. filter_map (work_for schema keys depth table.tree olds news child) child.references) tables ≡ []
      each [] from = refl
      each (t ∷ tables) from = ap₂ ◌++◌ (none t t.references (λ ref h. unnamed t ref (from t (inl refl)) h)) (each tables (λ x h. from x (inr h)))

  pub none_refers : list_all (λ t. list_all (is_key_if_to schema table) t.references) schema.tables ≡ true
  none_refers = test_from _ schema.tables (λ t at. test_from _ t.references (λ ref known. or_left _ _ (ap not (unnamed t ref at known))))

  pub record Cut (id : ℤ) (next : Trees) : Type 0 where
    pub rows : next table.tree ≡ without_rowid id (db table.tree)
    pub others : (t : Table) → Has schema.tables t → t.tree ≢ table.tree → next t.tree ≡ db t.tree

  module _ (id : ℤ) (next : Trees) (cut : Cut id next) where
    turn : Turns schema db next table (without_rowid id (db table.tree)) (db table.tree) []
    turn = record {
      apart = apart;
      listed = listed;
      others = cut.others;
      from = λ r h. inr (subst (λ l. Has l r) cut.rows h);
      stays = λ r h. subst (λ l. Has l r) (sym cut.rows) h;
      added = λ r h. absurd h;
      was = λ r h. (has_filtered _ (db table.tree) r h).0;
      split = λ r h. inr h;
    }

    pub unique_after : Keeps Unique schema db → Keeps Unique schema next
    unique_after = unique_kept schema db next table (without_rowid id (db table.tree)) (db table.tree) [] turn
        (test_from _ schema.indexes (λ i known. ap not (and_right _ false refl)))

    pub refers_after : Refers All schema db → Refers All schema next
    refers_after refers = refers_from All schema next (λ t ref r at known is there. elim
        (origin schema db next table (without_rowid id (db table.tree)) (db table.tree) [] turn t r at there) [
          | inl new ↦ absurd new.1
          | inr was ↦ still ref r (unnamed t ref at known) (refers_at All schema db t r ref refers at was known is)
        ])
      where
        go : (ref : Reference) (r : Row) → same_name table.name ref.parent ≡ false → (o : Option ParentKey) → parent_key schema.tables ref ≡ o →
            is_held db ref.columns r o ≡ true → is_held next ref.columns r o ≡ true
        go ref r other None is none = none
        go ref r other (Some key) is some =
            let t = elsewhere ref key other is in
            let same : next key.0 ≡ db key.0 = subst (λ n. next n ≡ db n) t.2 (cut.others t.0 t.1 t.3) in rw same some

        still : (ref : Reference) (r : Row) → same_name table.name ref.parent ≡ false → has_parent schema.tables db r ref ≡ true →
            has_parent schema.tables next r ref ≡ true
        still ref r other h = elim (or_cases (has_null ref.columns r) (is_held db ref.columns r (parent_key schema.tables ref)) h) [
          | inl null ↦ or_left (has_null ref.columns r) (is_held next ref.columns r (parent_key schema.tables ref)) null
          | inr held ↦ or_right
              (has_null ref.columns r) (is_held next ref.columns r (parent_key schema.tables ref)) (go ref r other (parent_key schema.tables ref) refl held)
        ]
