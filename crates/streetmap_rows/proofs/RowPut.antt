-- One row that is put into a table keeps the rules.
use Rattle.std.proofs.Common.{◌≡◌, ◌≢◌, inl, inr, [], ◌∷◌, true, false, ◌&&◌, ◌||◌, Option, Some, None, refl, sym, subst, cond}
use Rattle.std.specs.List.{list_any, list_all}
use Rattle.std.specs.Ordering.{is_ne}
use Rattle.std.proofs.lemmas.Cmp.{tied_itself}
use Rattle.std.proofs.lemmas.Bool.{and_parts, and_from, or_cases, or_left, or_right, both_ways, cases_eq, false_from_ne_true, not_from_false}
use Rattle.sqlite_value.specs.declared.value.Value.{Value}
use Rattle.sqlite_value.specs.declared.value.Value.TheVariants.{Null}
use Rattle.sqlite_value.specs.Order.{Row, value_cmp}
use Rattle.sqlite_value.proofs.OrderLemmas.{value_cmp_total}
use Rattle.sqlite_trees.specs.Tree.{Trees, IsAscending, put_row, rowid}
use Rattle.sqlite_sql.specs.Ops.{binary, is_null, is_true, from_truth}
use Rattle.sqlite_schema.specs.declared.schema.Constraint.TheVariants.{Unique}
use Rattle.sqlite_schema.specs.declared.schema.Among.TheVariants.{All}
use Rattle.sqlite_schema.specs.declared.schema.Index.{Index}
use Rattle.sqlite_schema.specs.declared.schema.Reference.{Reference}
use Rattle.sqlite_schema.specs.declared.schema.Schema.{Schema}
use Rattle.sqlite_schema.specs.declared.schema.Table.{Table}
use Rattle.sqlite_schema.specs.Rules.{agree, clashes, guards, differ, ParentKey, parent_key, is_held, has_parent, Keeps, Refers}
use Rattle.sqlite_rules.specs.Lists.{Has}
use Rattle.sqlite_rules.specs.Edit.{is_taken, are_fresh}
use Rattle.sqlite_rules.proofs.ListLemmas.{test_has, test_from, some_has, some_from}
use Rattle.sqlite_rules.proofs.TableLemmas.{put_has, put_all_keeps, put_all_adds}
use Rattle.sqlite_rules.proofs.RuleLemmas.{Turns, unique_kept, origin, refers_at, refers_from, parent_is_table}

-- no value differs from itself
pub same_self : (v : Value) → differ v v ≡ false
unfolding binary
same_self v = elim (is_null v || is_null v) as (λ b. is_true (cond b Null (from_truth (Some (is_ne (value_cmp v v))))) ≡ false)
    [ true ↦ refl | false ↦ rw (tied_itself value_cmp_total v) ]

module _ (schema : Schema) (db : Trees) (table : Table) (row : Row) (apart : IsAscending (λ a b. a.tree ≡ b.tree → ⊥) schema.tables)
    (listed : Has schema.tables table)
    (free : is_taken (db table.tree) row ≡ false) where
  pub record Put (next : Trees) : Type 0 where
    pub rows : next table.tree ≡ put_row row (db table.tree)
    pub others : (t : Table) → Has schema.tables t → t.tree ≢ table.tree → next t.tree ≡ db t.tree

  fresh : are_fresh (db table.tree) (row ∷ []) ≡ true
  fresh = and_from _ _ (not_from_false _ free) refl

  pub turn : (next : Trees) → Put next → Turns schema db next table (db table.tree) [] (row ∷ [])
  turn next put = record {
    apart = apart;
    listed = listed;
    others = put.others;
    from = λ r h. elim (put_has row (db table.tree) r (subst (λ l. Has l r) put.rows h)) [ inl same ↦ inl (inl same) | inr was ↦ inr was ];
    stays = λ r h. subst (λ l. Has l r) (sym put.rows) (put_all_keeps (row ∷ []) (db table.tree) r fresh h);
    added = λ r h. subst (λ l. Has l r) (sym put.rows) (put_all_adds (row ∷ []) (db table.tree) r fresh h);
    was = λ r h. h;
    split = λ r h. inl h;
  }

  module _ (next : Trees) (put : Put next) where
    -- no row has the new one's key under a unique index
    abbrev pub IsNewKey : Type 0
    IsNewKey = (i : Index) → Has schema.indexes i → guards i table ≡ true → (r : Row) → Has (db table.tree) r → agree i.order i.columns r i.columns row ≡ false

    clear : IsNewKey → (i : Index) → Has schema.indexes i → guards i table ≡ true → list_any (clashes i.order i.columns (next table.tree)) (row ∷ []) ≡ false
    clear new i known on = false_from_ne_true _ (λ any.
        let it = some_has (clashes i.order i.columns (next table.tree)) (row ∷ []) any in
        elim it.1 [
          | inl same ↦
              let other = some_has (λ o. agree i.order i.columns o i.columns row && differ (rowid o) (rowid row)) (next table.tree)
              (subst (λ x. clashes i.order i.columns (next table.tree) x ≡ true) same it.2) in
              let parts = and_parts _ _ other.2 in
              elim (put_has row (db table.tree) other.0 (subst (λ l. Has l other.0) put.rows other.1)) [
                | inl own ↦ both_ways _ (same_self (rowid row)) (subst (λ x. differ (rowid x) (rowid row) ≡ true) own parts.1)
                | inr was ↦ both_ways _ (new i known on other.0 was) parts.0
              ]
          | inr none ↦ absurd none
        ])

    pub keeps_unique : IsNewKey → Keeps Unique schema db → Keeps Unique schema next
    keeps_unique new = unique_kept schema db next table (db table.tree) [] (row ∷ []) (turn next put)
        (test_from _ schema.indexes (λ i known. not_from_false _ (false_from_ne_true _ (λ both. let parts = and_parts _ _ both in
        both_ways _ (clear new i known parts.0) parts.1))))

    -- a parent is still there
    pub still_held : (ref : Reference) (r : Row) → has_parent schema.tables db r ref ≡ true → has_parent schema.tables next r ref ≡ true
    still_held ref r h = elim (or_cases _ _ h) [ inl null ↦ or_left _ _ null | inr held ↦ or_right _ _ (go (parent_key schema.tables ref) refl held) ]
      where
        go : (o : Option ParentKey) → parent_key schema.tables ref ≡ o → is_held db ref.columns r o ≡ true → is_held next ref.columns r o ≡ true
        go None is none = none
        go (Some key) is some =
            let parent = some_has _ _ some in
            let t = parent_is_table schema.tables ref key is in
            let there : Has (db t.0.tree) parent.0 = subst (λ n. Has (db n) parent.0) (sym t.2) parent.1 in
            let now : Has (next t.0.tree) parent.0 = elim (cases_eq t.0.tree table.tree) [
              | inl same ↦ subst (λ n. Has (next n) parent.0) (sym same) ((turn next put).stays parent.0 (subst (λ n. Has (db n) parent.0) same there))
              | inr other ↦ subst (λ l. Has l parent.0) (sym (put.others t.0 t.1 other)) there
            ] in
            some_from _ (next key.0) parent.0 (subst (λ n. Has (next n) parent.0) t.2 now) parent.2

    pub refers_after : Refers All schema db → list_all (has_parent schema.tables db row) table.references ≡ true → Refers All schema next
    refers_after refers own = refers_from All schema next (λ t ref r at known is there. still_held ref r
        (elim (origin schema db next table (db table.tree) [] (row ∷ []) (turn next put) t r at there) [
          | inl new ↦ elim new.1 [
            | inl same ↦ subst (λ x. has_parent schema.tables db x ref ≡ true) (sym same)
                (test_has _ table.references ref own (subst (λ (x : Table). Has x.references ref) new.0 known))
            | inr none ↦ absurd none
          ]
          | inr was ↦ refers_at All schema db t r ref refers at was known is
        ]))
