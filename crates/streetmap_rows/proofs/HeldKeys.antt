-- What a put and a cut leave at each key.
use Rattle.std.proofs.Common.{◌≡◌, ◌≢◌, inl, inr, List, [], ◌∷◌, Bool, true, false, not, cond, find, drop, filter, Option, Some, None, option_map, Ordering}
use Rattle.std.proofs.Common.{Less, Equal, Greater, IsTrue, refl, sym, ap, subst, ◌∙◌, true≢false}
use Rattle.std.specs.List.{AllByRecursion}
use Rattle.std.specs.Ordering.{is_eq, match_ordering}
use Rattle.std.proofs.lemmas.Bool.{or_parts, both_ways, cases_Bool, false_from_ne_true}
use Rattle.sqlite_value.specs.Order.{Row, value_cmp}
use Rattle.sqlite_trees.specs.Tree.{IsTable, IsAscending, rowid, put_row, has_rowid, without_rowid}
use Rattle.sqlite_trees.specs.View.{is_int}
use Rattle.sqlite_trees.proofs.TreeLemmas.{IsTable-put_row}
use Rattle.sqlite_rules.specs.Lists.{Has}
use Rattle.sqlite_rules.specs.Edit.{is_taken, id_in}
use Rattle.sqlite_rules.proofs.ListLemmas.{all_has, all_from, has_found, has_filtered}
use Rattle.sqlite_rules.proofs.TableLemmas.{put_has, int_is}
use Rattle.std.specs.Option.{option_to_list}
use Rattle.std.proofs.lemmas.Cmp.{tied_itself, tied_back}
use Rattle.sqlite_value.specs.declared.value.Value.TheVariants.{Int}
use Rattle.sqlite_value.proofs.OrderLemmas.{value_cmp_total}
use Rattle.sqlite_catalog.proofs.LayoutLemmas.{ascending_filter}
use Rattle.streetmap_rows.specs.Holds.{HoldsByKey}

pub equal_is : (o : Ordering) → is_eq o ≡ true → o ≡ Equal
equal_is Less h = absurd (cc)
equal_is Equal h = refl
equal_is Greater h = absurd (cc)

no_value : {A B : Type 0} (f : A → B) (o : Option A) → option_map f o ≡ None → o ≡ None
no_value f None h = refl
no_value f (Some x) h = absurd (cc)

later : {A : Type 0} (a b : Bool) (x y : A) (o : Option A) → (b ≡ true → cond a (Some x) o ≡ None) → cond a (Some x) (cond b (Some y) o)
    ≡ cond b (Some y) (cond a (Some x) o)
later true true x y o none = absurd (let e = none refl in cc)
later true false x y o none = refl
later false true x y o none = refl
later false false x y o none = refl

rest_none : {A : Type 0} (a : Bool) (x : A) (o : Option A) → cond a (Some x) o ≡ None → o ≡ None
rest_none true x o h = absurd (cc)
rest_none false x o h = h

-- the row is found where it is put, and each other is found as before
pub find_put : (p : Row → Bool) (row : Row) (rows : List Row) → is_taken rows row ≡ false → (p row ≡ true → find p rows ≡ None) → find p (put_row row rows)
    ≡ cond (p row) (Some row) (find p rows)
find_put p row [] free none = refl
find_put p row (r ∷ rows) free none = go (value_cmp (rowid r) (rowid row)) (or_parts _ _ free).0
    (find_put p row rows (or_parts _ _ free).1 (λ h. rest_none (p r) r (find p rows) (none h)))
  where
    go : (o : Ordering) → is_eq o ≡ false → find p (put_row row rows) ≡ cond (p row) (Some row) (find p rows)
        → find p (match_ordering o (r ∷ put_row row rows) (row ∷ rows) (row ∷ r ∷ rows)) ≡ cond (p row) (Some row) (cond (p r) (Some r) (find p rows))
    go Less other h = ap (cond (p r) (Some r)) h ∙ later (p r) (p row) r row (find p rows) none
    go Equal other h = absurd (true≢false other)
    go Greater other h = refl

pub ascending_put : (R : Row → Row → Type 0) → ((a b : Row) → R a b → R b a) → (row : Row) (rows : List Row) → AllByRecursion (R row) rows → IsAscending R rows
    → IsAscending R (put_row row rows)
ascending_put R back row [] all up = (tt, tt)
ascending_put R back row (r ∷ rows) all up = go (value_cmp (rowid r) (rowid row)) (ascending_put R back row rows all.1 up.1)
  where
    go : (o : Ordering) → IsAscending R (put_row row rows) → IsAscending R (match_ordering o (r ∷ put_row row rows) (row ∷ rows) (row ∷ r ∷ rows))
    go Less h = (
      all_from (R r) (put_row row rows) (λ x there. elim (put_has row rows x there)
          [ inl same ↦ subst (R r) (sym same) (back row r all.0) | inr was ↦ all_has (R r) rows x up.0 was ]),
      h,
    )
    go Equal h = (all.1, up.1)
    go Greater h = (all, up)

module _ {K : Type 0} (key : Row → K) (is_at : K → Row → Bool) (sound : (k : K) (r : Row) → is_at k r ≡ true → key r ≡ k)
    (self : (r : Row) → is_at (key r) r ≡ true) where
  -- each row is the one that is found at its key
  pub find_own : (rows : List Row) (r : Row) → IsAscending (λ a b. key a ≢ key b) rows → Has rows r → find (is_at (key r)) rows ≡ Some r
  find_own [] r apart h = absurd h
  find_own (x ∷ rows) r apart (inl same) = subst (λ y. cond (is_at (key r) y) (Some y) (find (is_at (key r)) rows) ≡ Some r) same (rw (self r) refl)
  find_own (x ∷ rows) r apart (inr later) = elim (cases_Bool (is_at (key r) x)) [
    | inl here ↦ absurd (all_has _ rows r apart.0 later (sound (key r) x here))
    | inr other ↦ rw (other, find_own rows r apart.1 later)
  ]

  module _ (cells : K → Option Row) (rows : List Row) (holds : HoldsByKey key is_at cells rows) where
    pub missing : (k : K) → cells k ≡ None → find (is_at k) rows ≡ None
    missing k none = no_value (drop 1) _ (holds.found k ∙ none)

    -- a row has the cells of its key
    pub cells_of : (r : Row) → Has rows r → cells (key r) ≡ Some (drop 1 r)
    cells_of r h = sym (holds.found (key r)) ∙ ap (option_map (drop 1)) (find_own rows r holds.apart h)

    pub there : (k : K) (c : Row) → cells k ≡ Some c → (r : Row) × Has rows r × (key r ≡ k) × (is_at k r ≡ true) × (drop 1 r ≡ c)
    there k c some = go (find (is_at k) rows) refl
      where
        go : (o : Option Row) → find (is_at k) rows ≡ o → (r : Row) × Has rows r × (key r ≡ k) × (is_at k r ≡ true) × (drop 1 r ≡ c)
        go None is = absurd (let e = sym (ap (option_map (drop 1)) is) ∙ holds.found k ∙ some in cc)
        go (Some r) is =
            let had = has_found (is_at k) rows r is in
            let same : Some (drop 1 r) ≡ Some c = sym (ap (option_map (drop 1)) is) ∙ holds.found k ∙ some in
            (r, had.0, sound k r had.1, had.1, cc)

    pub holds_put : (row : Row) (now : K → Option Row) → is_taken rows row ≡ false → IsTrue (is_int (rowid row)) → cells (key row) ≡ None
        → ((k : K) → now k ≡ cond (is_at k row) (Some (drop 1 row)) (cells k)) → HoldsByKey key is_at now (put_row row rows)
    holds_put row now free int none is = record {
      table = IsTable-put_row row rows holds.table;
      keyed = all_from _ (put_row row rows) (λ x h. elim (put_has row rows x h) [
        | inl same ↦ subst (λ y. IsTrue (is_int (rowid y))) (sym same) int
        | inr was ↦
            all_has _ rows x holds.keyed was
      ]);
      apart = ascending_put (λ a b. key a ≢ key b) (λ a b other same. other (sym same)) row rows
          (all_from _ rows (λ x h same. let e = sym none ∙ ap cells same ∙ cells_of x h in absurd (cc))) holds.apart;
      found = λ k. ap (option_map (drop 1)) (find_put (is_at k) row rows free (λ here. missing k (ap cells (sym (sound k row here)) ∙ none)))
          ∙ shown (is_at k row) (find (is_at k) rows) ∙ ap (cond (is_at k row) (Some (drop 1 row))) (holds.found k) ∙ sym (is k);
    }
      where
        shown : (b : Bool) (o : Option Row) → option_map (drop 1) (cond b (Some row) o) ≡ cond b (Some (drop 1 row)) (option_map (drop 1) o)
        shown true o = refl
        shown false o = refl

pub filter_same : (f g : Row → Bool) (rows : List Row) → ((r : Row) → Has rows r → f r ≡ g r) → filter f rows ≡ filter g rows
filter_same f g [] same = refl
filter_same f g (r ∷ rows) same = λ i. cond (same r (inl refl) i) (r ∷ filter_same f g rows (λ x h. same x (inr h)) i)
    (filter_same f g rows (λ x h. same x (inr h)) i)

-- if the first that is found decides
pub find_kept : (p g : Row → Bool) (b : Bool) (rows : List Row) → ((x : Row) → Has rows x → p x ≡ true → g x ≡ b) → find p (filter g rows)
    ≡ cond b (find p rows) None
find_kept p g true [] each = refl
find_kept p g false [] each = refl
find_kept p g b (x ∷ rows) each = go (p x) refl (find_kept p g b rows (λ y h. each y (inr h)))
  where
    skip : (c : Bool) → p x ≡ false → find p (filter g rows) ≡ cond b (find p rows) None → find p (cond c (x ∷ filter g rows) (filter g rows))
        ≡ cond b (find p rows) None
    skip true off h = rw off h
    skip false off h = h

    take : (c : Bool) → c ≡ b → p x ≡ true → find p (filter g rows) ≡ cond b (find p rows) None → find p (cond c (x ∷ filter g rows) (filter g rows))
        ≡ cond b (Some x) None
    take true same on h = rw (on, ← same) refl
    take false same on h = h ∙ (λ i. cond (sym same i) (find p rows) None) ∙ (λ i. cond (same i) (Some x) None)

    go : (q : Bool) → p x ≡ q → find p (filter g rows) ≡ cond b (find p rows) None → find p (filter g (x ∷ rows)) ≡ cond b (find p (x ∷ rows)) None
    go true on h = take (g x) (each x (inl refl) on) on h ∙ ap (λ q. cond b (cond q (Some x) (find p rows)) None) (sym on)
    go false off h = skip (g x) off h ∙ ap (λ q. cond b (cond q (Some x) (find p rows)) None) (sym off)

-- a table has a rowid once
pub same_row : (rows : List Row) (a b : Row) → IsTable rows → Has rows a → Has rows b → value_cmp (rowid a) (rowid b) ≡ Equal → a ≡ b
same_row [] a b up h k same = absurd h
same_row (r ∷ rows) a b up (inl h) (inl k) same = h ∙ sym k
same_row (r ∷ rows) a b up (inl h) (inr k) same = absurd (let e = sym (all_has _ rows b up.0 k) ∙ ap (λ x. value_cmp (rowid x) (rowid b)) (sym h) ∙ same in cc)
same_row (r ∷ rows) a b up (inr h) (inl k) same = absurd (let e = sym (all_has _ rows a up.0 h) ∙ ap (λ x. value_cmp (rowid x) (rowid a)) (sym k)
    ∙ tied_back value_cmp_total (rowid a) (rowid b) same in cc)
same_row (r ∷ rows) a b up (inr h) (inr k) same = same_row rows a b up.1 h k same

-- other rows that are the same, for cells that are the same
pub holds_same : {K : Type 0} (key : Row → K) (is_at : K → Row → Bool) (cells now : K → Option Row) (rows next : List Row) → next ≡ rows →
    ((k : K) → now k ≡ cells k) → HoldsByKey key is_at cells rows → HoldsByKey key is_at now next
holds_same key is_at cells now rows next same is holds = subst (HoldsByKey key is_at now) (sym same)
    (record { table = holds.table; keyed = holds.keyed; apart = holds.apart; found = λ k. holds.found k ∙ sym (is k) })

module _ {K : Type 0} (key : Row → K) (is_at : K → Row → Bool) (sound : (k : K) (r : Row) → is_at k r ≡ true → key r ≡ k)
    (self : (r : Row) → is_at (key r) r ≡ true) (cells : K → Option Row) (rows : List Row) (holds : HoldsByKey key is_at cells rows) where
  -- what passes the test for a key is the row that is found
  pub filter_one : (k : K) → filter (is_at k) rows ≡ option_to_list (find (is_at k) rows)
  filter_one k = go rows holds.apart
    where
      none : (xs : List Row) (x : Row) → key x ≡ k → AllByRecursion (λ y. key x ≢ key y) xs → filter (is_at k) xs ≡ []
      none [] x same all = refl
      none (y ∷ xs) x same all = rw (false_from_ne_true (is_at k y) (λ here. all.0 (same ∙ sym (sound k y here))), none xs x same all.1)

      go : (xs : List Row) → IsAscending (λ a b. key a ≢ key b) xs → filter (is_at k) xs ≡ option_to_list (find (is_at k) xs)
      go [] apart = refl
      go (x ∷ xs) apart = elim (cases_Bool (is_at k x)) [
        | inl here ↦ rw (here, none xs x (sound k x here) apart.0)
        | inr other ↦ rw (other, go xs apart.1)
      ]

  pub holds_cut : (row : Row) (now : K → Option Row) → Has rows row → ((k : K) → now k ≡ cond (is_at k row) None (cells k)) →
      HoldsByKey key is_at now (without_rowid (id_in (rowid row)) rows)
  holds_cut row now there is = record {
    table = ascending_filter _ _ rows holds.table;
    keyed = all_from _ _ (λ x h. all_has _ rows x holds.keyed (has_filtered _ rows x h).0);
    apart = ascending_filter _ _ rows holds.apart;
    found = λ k. elim (cases_Bool (is_at k row)) [
      | inl here ↦ ap (option_map (drop 1)) (find_kept (is_at k) keep false rows (λ x h at. gone x h (own k x h at ∙ sym (own k row there here))))
          ∙ sym (is k ∙ ap (λ b. cond b None (cells k)) here)
      | inr other ↦ ap (option_map (drop 1)) (find_kept (is_at k) keep true rows (λ x h at.
          stays x h (λ same. both_ways _ other (subst (λ y. is_at k y ≡ true) same at)))) ∙ holds.found k ∙ sym (is k ∙ ap (λ b. cond b None (cells k)) other)
    ];
  }
    where
      keep : Row → Bool
      keep = λ x. not (has_rowid (id_in (rowid row)) x)

      id_is : rowid row ≡ Int (id_in (rowid row))
      id_is = int_is (rowid row) (all_has _ rows row holds.keyed there)

      own : (k : K) (x : Row) → Has rows x → is_at k x ≡ true → Some x ≡ find (is_at k) rows
      own k x h at = sym (subst (λ j. find (is_at j) rows ≡ Some x) (sound k x at) (find_own key is_at sound self rows x holds.apart h))

      gone : (x : Row) → Has rows x → ◌≡◌ {A = Option Row} (Some x) (Some row) → keep x ≡ false
      gone x h e = let same : x ≡ row = cc in rw (same, ← id_is, tied_itself value_cmp_total (rowid row))

      stays : (x : Row) → Has rows x → (x ≡ row → ⊥) → keep x ≡ true
      stays x h other = ap not (false_from_ne_true _ (λ on. other (same_row rows x row holds.table h there (ap (value_cmp (rowid x)) id_is ∙ equal_is _ on))))
