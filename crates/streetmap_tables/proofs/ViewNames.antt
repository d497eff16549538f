-- No view and no index has the name of a table.
use Rattle.std.proofs.Common.{◌≡◌, ◌⊎◌, inl, inr, ℕ, ◌+◌, Bool, true, false, not, ◌||◌, List, [], ◌∷◌, ◌++◌, map, codes, Some, None, find, refl, sym, ap, subst}
use Rattle.std.proofs.Common.{◌∙◌}
use Rattle.std.specs.List.{list_any, position_from}
use Rattle.std.specs.Ordering.{is_eq}
use Rattle.std.proofs.lemmas.Bool.{and_parts, cases_Bool, true≢false, not-true, false_from_ne_true}
use Rattle.sqlite.specs.Table.{Table}
use Rattle.sqlite.specs.Effect.{Database, IsDatabase}
use Rattle.sqlite_value.specs.Order.{Row, bytes, column, value_cmp}
use Rattle.sqlite_value.specs.declared.value.Value.TheVariants.{Text}
use Rattle.sqlite_value.proofs.OrderLemmas.{value_cmp-Text}
use Rattle.sqlite_schema.specs.declared.schema.View.{View as Stored}
use Rattle.sqlite_schema.specs.declared.schema.Index.{Index}
use Rattle.sqlite_schema.specs.Names.{same_name, view_named, index_named}
use Rattle.sqlite_trees.specs.Tree.{IsAscending}
use Rattle.sqlite_trees.specs.Objects.{catalog_tree}
use Rattle.sqlite_trees.specs.Sound.{Head, head_at, may_follow, are_in_order}
use Rattle.sqlite_trees.specs.Sound as sound
use Rattle.sqlite_catalog.specs.Listing.{IsTableRow, IsIndexRow, IsViewRow, is_table_row, is_index_row, is_view_row, is_foreign_row}
use Rattle.sqlite_catalog.proofs.LayoutLemmas.{zipped_left}
use Rattle.sqlite_catalog.proofs.SoundLemmas.{lowered, names_agree, list_parts}
use Rattle.sqlite_rules.specs.Lists.{Has}
use Rattle.sqlite_rules.proofs.ListLemmas.{all_has, all_from, has_left, has_right, has_filtered, has_found}

-- ---- no two rows of the list of objects have one name

abbrev Differ : Row → Row → Type 0
Differ a b = sound.same_name (bytes (column a 2)) (bytes (column b 2)) ≡ false

none_has : {A : Type 0} (p : A → Bool) (xs : List A) → list_any p xs ≡ false → (x : A) → Has xs x → p x ≡ false
none_has p [] h x at = absurd at
none_has p (y ∷ xs) h x at = elim (cases_Bool (p y)) [
  | inl here ↦ absurd (true≢false (rw here at h))
  | inr other ↦ elim at [ inl e ↦ ap p e ∙ other | inr later ↦ none_has p xs (rw other at h) x later ]
]

in_order : (earlier : List Head) (rows : List Row) → are_in_order earlier (map (head_at 1) rows) ≡ true
    → ((e : Head) (r : Row) → Has earlier e → Has rows r → sound.same_name (bytes e.1) (bytes (column r 2)) ≡ false) × IsAscending Differ rows
unfolding may_follow
in_order earlier [] h = (λ e r a b. absurd b, tt)
in_order earlier (r ∷ rows) h =
    let both = and_parts (may_follow earlier (head_at 1 r)) (are_in_order (earlier ++ head_at 1 r ∷ []) (map (head_at 1) rows)) h in
    let here = none_has (λ (e : Head). sound.same_name (bytes e.1) (bytes (column r 2))) earlier (not-true _ (and_parts _ _ both.0).0) in
    let rest = in_order (earlier ++ head_at 1 r ∷ []) rows both.1 in (
      λ e x a b. elim b [
        | inl same ↦ subst (λ y. sound.same_name (bytes e.1) (bytes (column y 2)) ≡ false) (sym same) (here e a)
        | inr later ↦ rest.0 e x
            (has_left earlier (head_at 1 r ∷ []) e a) later
      ],
      (all_from _ rows (λ x b. rest.0 (head_at 1 r) x (has_right earlier (head_at 1 r ∷ []) (head_at 1 r) (inl refl)) b), rest.1),
    )

two_rows : (rows : List Row) (a b : Row) → IsAscending Differ rows → Has rows a → Has rows b → (a ≡ b) ⊎ (Differ a b ⊎ Differ b a)
two_rows [] a b apart h k = absurd h
two_rows (r ∷ rows) a b apart (inl p) (inl q) = inl (p ∙ sym q)
two_rows (r ∷ rows) a b apart (inl p) (inr k) = inr (inl (subst (λ x. Differ x b) (sym p) (all_has _ rows b apart.0 k)))
two_rows (r ∷ rows) a b apart (inr h) (inl q) = inr (inr (subst (λ x. Differ x a) (sym q) (all_has _ rows a apart.0 h)))
two_rows (r ∷ rows) a b apart (inr h) (inr k) = two_rows rows a b apart.1 h k

-- ---- a row is not both that of a table and that of a view

table_is_no_view : is_eq (value_cmp (Text (codes "table")) (Text (codes "view"))) ≡ false
table_is_no_view = ap is_eq (value_cmp-Text (codes "table") (codes "view"))

not_both : (row : Row) → column row 1 ≡ Text (codes "table") → is_table_row row ≡ true → is_view_row row ≡ true → ⊥
not_both row kind table view =
    let foreign : is_foreign_row row ≡ false = not-true _ (and_parts _ _ table).1 in
    true≢false (sym view ∙ ap (λ b. is_eq (value_cmp (column row 1) (Text (codes "view"))) || b) foreign
    ∙ ap (λ v. is_eq (value_cmp v (Text (codes "view"))) || false) kind ∙ ap (λ b. b || false) table_is_no_view)

-- ---- a name of a table

pub none_named : {A : Type 0} (p : A → Bool) (n : ℕ) (xs : List A) → ((x : A) → Has xs x → p x ≡ false) → position_from p n xs ≡ None
none_named p n [] none = refl
none_named p n (x ∷ xs) none = rw (none x (inl refl)) (none_named p (n + 1) xs (λ y h. none y (inr h)))

module _ (db : Database) (sound_db : IsDatabase db) (name : List ℕ) (table : Table) (named : find (λ t. same_name t.name name) db.schema.tables ≡ Some table)
  where
    abbrev objects : List Row
    objects = db.trees catalog_tree

    at : Has db.schema.tables table × (same_name table.name name ≡ true)
    at = has_found (λ (t : Table). same_name t.name name) db.schema.tables table named

    -- another row of the list of objects, which is no table's, has another name
    differs : (row : Row) → Has objects row → (column row 1 ≡ Text (codes "table") → is_table_row row ≡ true → ⊥) → (other : List ℕ) → column row 2 ≡ Text other →
        same_name other name ≡ true → ⊥
    differs row listed no_table other is same =
        let a = zipped_left IsTableRow _ db.schema.tables table sound_db.lists.listed.tables at.0 in
        let p = has_filtered is_table_row objects a.0 a.1 in
        let low = (lowered table.name name).0 at.1 ∙ sym ((lowered other name).0 same) in
        let one : sound.same_name (bytes (column a.0 2)) (bytes (column row 2)) ≡ true = rw (a.2.described.name_is, is)
        (sym (names_agree table.name other) ∙ (lowered table.name other).1 low) in
        let two : sound.same_name (bytes (column row 2)) (bytes (column a.0 2)) ≡ true = rw (a.2.described.name_is, is)
        (sym (names_agree other table.name) ∙ (lowered other table.name).1 (sym low)) in
        elim (two_rows objects a.0 row (in_order [] objects (list_parts objects sound_db.lists.listed.loads).1).1 p.0 listed) [
          | inl e ↦ no_table (sym (ap (λ r. column r 1) e) ∙ a.2.described.kind_is) (sym (ap is_table_row e) ∙ p.1)
          | inr apart ↦ elim apart [ inl d ↦ true≢false (sym one ∙ d) | inr d ↦ true≢false (sym two ∙ d) ]
        ]

    no_view : (w : Stored) → Has db.schema.views w → same_name w.name name ≡ false
    no_view w h = false_from_ne_true _ (λ same.
        let b = zipped_left IsViewRow _ db.schema.views w sound_db.lists.listed.views h in
        let q = has_filtered is_view_row objects b.0 b.1 in
        differs b.0 q.0 (λ kind table. not_both b.0 kind table q.1) w.name b.2.described.name_is same)

    no_index : (i : Index) → Has db.schema.indexes i → same_name i.name name ≡ false
    no_index i h = false_from_ne_true _ (λ same.
        let b = zipped_left (IsIndexRow db.schema.tables) _ db.schema.indexes i sound_db.lists.listed.indexes h in
        let q = has_filtered is_index_row objects b.0 b.1 in
        differs b.0 q.0 (λ kind table. true≢false (sym table ∙ not_from (is_table_row b.0) (is_view_row b.0) q.1)) i.name b.2.described.name_is same)
      where
        not_from : (a b : Bool) → not (a || b) ≡ true → a ≡ false
        not_from false b h = refl
        not_from true b h = absurd (true≢false (sym h))

    pub no_such_view : view_named db.schema name ≡ None
    no_such_view = none_named (λ (w : Stored). same_name w.name name) 0 db.schema.views no_view

    pub no_such_index : index_named db.schema name ≡ None
    no_such_index = none_named (λ (i : Index). same_name i.name name) 0 db.schema.indexes no_index
