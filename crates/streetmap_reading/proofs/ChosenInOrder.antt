-- The chosen features of a collection, in order of ids, are what a query over the features answers.
use Rattle.std.proofs.Common.{nat_le, ◌^◌, ◌≡◌, ◌≢◌, inl, inr, List, [], ◌∷◌, map, filter, Bool, true, false, ◌&&◌, cond, drop, Option, Some, None, option_map}
use Rattle.std.proofs.Common.{refl, sym, ap, ◌∙◌, ℕ}
use Rattle.std.specs.FinMap.{get, entries, values, entries_sorted, get-entries}
use Rattle.std.proofs.lemmas.Bool.{and_parts, and_from}
use Rattle.sqlite.specs.declared.types.Value.TheVariants.{Null}
use Rattle.sqlite.specs.Order.{Row, column, bytes}
use Rattle.sqlite.specs.Term.{Term, col}
use Rattle.sqlite.specs.Query.{Query, IsAnswerAs}
use Rattle.sqlite.specs.Program.{overlay}
use Rattle.sqlite_sql.specs.Term.{eval_all}
use Rattle.sqlite_trees.specs.Tree.{Trees, IsAscending}
use Rattle.sqlite_catalog.proofs.LayoutLemmas.{ascending_filter}
use Rattle.sqlite_rules.specs.Lists.{Has}
use Rattle.sqlite_rules.proofs.ListLemmas.{all_has, all_from, has_filtered, has_kept}
use Rattle.streetmap_geojson.specs.FeatureValue.{FeatureValue}
use Rattle.streetmap_batch.specs.Text.{Text}
use Rattle.streetmap_ledger.specs.State.{State, Features}
use Rattle.streetmap_rows.specs.Holds.{same_text, KeyPair, pair_key, has_pair}
use Rattle.streetmap_rows.proofs.HeldKeys.{cells_of, there}
use Rattle.streetmap_rows.proofs.TextKeys.{text_is, text_self, pair_is, pair_self, column_later}
use Rattle.streetmap_rows.proofs.OrderedRows.{Says, AreRowsOf, keeps, text_in, ordered_query, shows_entries, if_passes, passed, passing, sorted_passing}
use Rattle.streetmap_rows.proofs.OrderedRows.{find_passing}
use Rattle.streetmap_rows.proofs.AnyOrder.{AreEachOnce, shows_each}
use Rattle.streetmap_rows.specs.Queries.{over}
use Rattle.streetmap_rows.specs.Rows.{AreOf, feature_at, feature_cells}
use Rattle.streetmap_rows.specs.Tables.{Roots}
use Rattle.streetmap_reading.specs.Candidates.{candidate_row}

-- the cells of a row are those of a feature
pub record IsRowOf (s : State) (r : Row) : Type 0 where
  pub feature : FeatureValue
  pub is : feature_at s (pair_key r) ≡ Some feature
  pub cells : drop 1 r ≡ feature_cells (pair_key r) feature

module _ (s : State) (roots : Roots) (db : Trees) (of : AreOf s roots db) where
  pub row_of : (r : Row) → Has (db roots.features) r → IsRowOf s r
  row_of r h = go (feature_at s (pair_key r)) refl (cells_of pair_key has_pair pair_is pair_self _ (db roots.features) of.features r h)
    where
      go : (o : Option FeatureValue) → feature_at s (pair_key r) ≡ o → option_map (feature_cells (pair_key r)) o ≡ Some (drop 1 r) → IsRowOf s r
      go None is some = absurd (cc)
      go (Some f) is some = let cells : feature_cells (pair_key r) f ≡ drop 1 r = cc in record { feature = f; is = is; cells = sym cells }

-- the terms choose the rows of the collection whose features pass the test
abbrev pub Chooses : List Term → Row → Text → (FeatureValue → Bool) → Type 0
Chooses terms params name test = (r : Row) (p : KeyPair) (f : FeatureValue) → drop 1 r ≡ feature_cells p f → keeps terms params r
    ≡ (same_text p.0 name && test f)

-- the terms choose the rows of the collection whose features, as the state has them, pass the test
abbrev pub ChoosesIn : State → List Term → Row → Text → (FeatureValue → Bool) → Type 0
ChoosesIn s terms params name test = (r : Row) (p : KeyPair) (f : FeatureValue) → drop 1 r ≡ feature_cells p f → feature_at s p ≡ Some f → keeps terms params r
    ≡ (same_text p.0 name && test f)

-- the row of a feature shows this
abbrev pub Shows : List Term → Row → (Text → FeatureValue → Row) → Type 0
Shows project params view = (r : Row) (p : KeyPair) (f : FeatureValue) → drop 1 r ≡ feature_cells p f → eval_all project (params ∷ r ∷ []) ≡ view p.1 f

-- the row of a feature of a collection shows this, if it is one of these rows
abbrev pub ShowsIn : List Row → Text → List Term → Row → (Text → FeatureValue → Row) → Type 0
ShowsIn rows name project params view = (r : Row) (f : FeatureValue) → Has rows r → (pair_key r).0 ≡ name → drop 1 r ≡ feature_cells (pair_key r) f →
    eval_all project (params ∷ r ∷ []) ≡ view (pair_key r).1 f

-- rows of one collection have ids apart
apart_in : (name : Text) (rs : List Row) → ((r : Row) → Has rs r → bytes (column r 1) ≡ name) → IsAscending (λ a b. pair_key a ≢ pair_key b) rs →
    IsAscending (λ a b. text_in 2 a ≢ text_in 2 b) rs
apart_in name [] same up = tt
apart_in name (r ∷ rs) same up = (
  all_from _ rs (λ x h is. let one : bytes (column r 1) ≡ bytes (column x 1) = same r (inl refl) ∙ sym (same x (inr h)) in
      all_has _ rs x up.0 h (λ i. (one i, is i))),
  apart_in name rs (λ x h. same x (inr h)) up.1,
)

module _ (s : State) (roots : Roots) (db : Trees) (of : AreOf s roots db) (name : Text) (kept : Features)
    (kept_is : (q : Text) → get kept q ≡ feature_at s (name, q)) (terms : List Term) (params : Row) (test : FeatureValue → Bool)
    (chooses : ChoosesIn s terms params name test)
    (project : List Term) (view : Text → FeatureValue → Row) (shows : ShowsIn (db roots.features) name project params view) where
  abbrev all_rows : List Row
  all_rows = db roots.features

  abbrev chosen_rows : List Row
  chosen_rows = filter (keeps terms params) all_rows

  abbrev pub value_of : Text → Option FeatureValue
  value_of q = if_passes test (get kept q)

  -- a row that is chosen is of the collection, and its feature passes
  chosen_is : (r : Row) (it : IsRowOf s r) → keeps terms params r ≡ true → (bytes (column r 1) ≡ name) × (test it.feature ≡ true)
  chosen_is r it is =
      let parts = and_parts (same_text (bytes (column r 1)) name) (test it.feature) (sym (chooses r (pair_key r) it.feature it.cells it.is) ∙ is) in
      (text_is _ _ parts.0, parts.1)

  says : (r : Row) → Has chosen_rows r → Says value_of view 2 (λ r. eval_all project (params ∷ r ∷ [])) r
  says r h =
      let had = has_filtered (keeps terms params) all_rows r h in
      let it = row_of s roots db of r had.0 in
      let chosen = chosen_is r it had.1 in
      record {
        value = it.feature;
        is = ap (if_passes test) (kept_is (text_in 2 r) ∙ ap (λ n. feature_at s (n, text_in 2 r)) (sym chosen.0) ∙ it.is)
            ∙ ap (λ b. cond b (Some it.feature) None) chosen.1;
        named = column_later r 1 ∙ ap (λ x. column x 1) it.cells;
        shown = shows r it.feature had.0 chosen.0 it.cells;
      }

  -- the chosen rows are those of the chosen features
  feature_rows : AreRowsOf value_of view 2 (λ r. eval_all project (params ∷ r ∷ [])) chosen_rows
  feature_rows = record {
    apart = apart_in name chosen_rows (λ r h. let had = has_filtered (keeps terms params) all_rows r h in (chosen_is r (row_of s roots db of r had.0) had.1).0)
        (ascending_filter _ _ all_rows of.features.apart);
    each = says;
    all = λ q f is.
        let at = passed test (get kept q) f is in
        let r = there pair_key has_pair pair_is pair_self _ all_rows of.features (name, q) _
        (ap (option_map (feature_cells (name, q))) (sym (kept_is q) ∙ at.0)) in (
          r.0,
          has_kept (keeps terms params) all_rows r.0 r.1 (chooses r.0 (name, q) f r.4 (sym (kept_is q) ∙ at.0) ∙ and_from _ _ (text_self name) at.1),
          ap (λ (p : KeyPair). p.1) r.2,
        );
  }

  -- the query shows the chosen features in order of their ids
  pub shows_chosen_in : nat_le (2 ^ 31) roots.features ≡ false → (shown : List Row) → IsAnswerAs Null (ordered_query roots.features terms project 2)
      (overlay db []) params shown → shown ≡ map (λ e. view e.0 e.1) (passing test (entries kept))
  shows_chosen_in low shown answer =
      shows_entries roots.features terms project 2 params value_of view db low feature_rows shown answer (passing test (entries kept))
      (sorted_passing test (entries kept) (entries_sorted kept)) (λ q. ap (if_passes test) (get-entries kept q)
      ∙ find_passing test (entries kept) (entries_sorted kept) q)

  -- in any order, the query shows each chosen feature once
  pub shows_chosen_once : nat_le (2 ^ 31) roots.features ≡ false → (shown : List Row) → IsAnswerAs Null (over roots.features terms project) (overlay db [])
      params shown → AreEachOnce value_of view shown
  shows_chosen_once low shown answer = shows_each roots.features terms project 2 params value_of view db low feature_rows shown answer

module _ (s : State) (roots : Roots) (db : Trees) (of : AreOf s roots db) (name : Text) (kept : Features)
    (kept_is : (q : Text) → get kept q ≡ feature_at s (name, q)) (terms : List Term) (params : Row) (test : FeatureValue → Bool)
    (chooses : Chooses terms params name test)
    (project : List Term) (view : Text → FeatureValue → Row) (shows : Shows project params view) where
  -- the same, if the terms choose so in any state
  pub shows_chosen : nat_le (2 ^ 31) roots.features ≡ false → (shown : List Row) → IsAnswerAs Null (ordered_query roots.features terms project 2)
      (overlay db []) params shown → shown ≡ map (λ e. view e.0 e.1) (passing test (entries kept))
  shows_chosen = shows_chosen_in s roots db of name kept kept_is terms params test (λ r p f cells is. chooses r p f cells) project view
      (λ r f h of cells. shows r (pair_key r) f cells)

-- ---- the texts of the chosen features

abbrev pub page_query : ℕ → List Term → Query
page_query tree terms = ordered_query tree terms (col 1 3 ∷ []) 2

shows_text : (params : Row) → Shows (col 1 3 ∷ []) params (λ id f. candidate_row f)
shows_text params r p f cells = let text = column_later r 2 ∙ ap (λ x. column x 2) cells in λ i. text i ∷ []

passing_values : (test : FeatureValue → Bool) (es : List (Text × FeatureValue)) → map (λ e. candidate_row e.1) (passing test es)
    ≡ map candidate_row (filter test (map (λ e. e.1) es))
passing_values test [] = refl
passing_values test (e ∷ es) = elim (test e.1) as (λ b. map (λ (x : Text × FeatureValue). candidate_row x.1) (cond b (e ∷ passing test es) (passing test es))
    ≡ map candidate_row (cond b (e.1 ∷ filter test (map (λ x. x.1) es)) (filter test (map (λ x. x.1) es)))) [
      | true ↦ ap (λ l. candidate_row e.1 ∷ l) (passing_values test es)
      | false ↦ passing_values test es
    ]

pub lists_chosen : (s : State) (roots : Roots) (db : Trees) → AreOf s roots db → (name : Text) (kept : Features) →
    ((q : Text) → get kept q ≡ feature_at s (name, q)) → (terms : List Term) (params : Row) (test : FeatureValue → Bool) → ChoosesIn s terms params name test
    → nat_le (2 ^ 31) roots.features ≡ false → (shown : List Row) → IsAnswerAs Null (page_query roots.features terms) (overlay db []) params shown → shown
    ≡ map candidate_row (filter test (values kept))
lists_chosen s roots db of name kept kept_is terms params test chooses low shown answer =
    shows_chosen_in s roots db of name kept kept_is terms params test chooses (col 1 3 ∷ []) (λ id f. candidate_row f)
    (λ r f h of cells. shows_text params r (pair_key r) f cells) low shown answer ∙ passing_values test (entries kept)
