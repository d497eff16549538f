-- The INSERT of twenty-five features as it runs.
use Rattle.std.proofs.Common.{◌≡◌, zero, suc, ◌≢◌, ℕ, ℤ, List, [], ◌∷◌, ◌++◌, ◌&&◌, Bool, true, is_some, map, drop, length, Option, Some, None, Ok, option_map}
use Rattle.std.proofs.Common.{refl, sym, ap, subst, ◌∙◌}
use Rattle.std.specs.List.{AllByRecursion}
use Rattle.std.specs.FinMap.{get}
use Rattle.sqlite.specs.declared.types.Value.TheVariants.{Int}
use Rattle.sqlite.specs.Order.{Row}
use Rattle.sqlite.specs.Values.{or_null}
use Rattle.sqlite.specs.Schema.{Schema}
use Rattle.sqlite.specs.Table.{Table}
use Rattle.sqlite.specs.Effect.{value_rows}
use Rattle.sqlite.specs.Command.TheVariants.{Insert}
use Rattle.sqlite.specs.Source.TheVariants.{Values}
use Rattle.sqlite.specs.Rowids.TheVariants.{Chosen}
use Rattle.sqlite.specs.Listing.{understood}
use Rattle.sqlite.specs.State.{State as Seen, Executes}
use Rattle.sqlite_trees.specs.Tree.{Trees}
use Rattle.sqlite_typing.specs.Types.{accepts_terms, class_of}
use Rattle.sqlite_rules.specs.Cast.{cast_row}
use Rattle.sqlite_rules.specs.Edit.{edit_of, numbered}
use Rattle.sqlite_rules.specs.Lists.{Has}
use Rattle.sqlite_rules.proofs.ListLemmas.{all_has}
use Rattle.streetmap_grid.specs.Values.{BoxValue}
use Rattle.streetmap_geojson.specs.FeatureValue.{FeatureValue}
use Rattle.streetmap_geojson.specs.FeatureInvariant.{IsFeature}
use Rattle.streetmap_batch.specs.Text.{Text}
use Rattle.streetmap_ledger.specs.State.{State, Collection}
use Rattle.streetmap_rows.specs.Tables.{Roots, IsOurs, features, collections, meta, batches, features_name}
use Rattle.streetmap_rows.specs.Statements.{insert_features}
use Rattle.streetmap_rows.specs.Rows.{feature_cells, extent_in, seconds_in}
use Rattle.streetmap_rows.specs.Representations.{StandsFor}
use Rattle.streetmap_rows.specs.Elsewhere.{IsSameElsewhere}
use Rattle.streetmap_rows.specs.FeatureRows.{Entry, PutsEach}
use Rattle.streetmap_rows.proofs.ColumnCasts.{cast_null, whole_null}
use Rattle.streetmap_rows.proofs.NamedTables.{IsFound}
use Rattle.streetmap_rows.proofs.Resolving.{Means, command_is, is_plain, is_fit, IsFit}
use Rattle.streetmap_rows.proofs.Compiles as compile
use Rattle.streetmap_rows.proofs.TablesInSchema as placing
use Rattle.streetmap_rows.proofs.InsertRuns as run
use Rattle.streetmap_rows.proofs.OtherTables.{same_elsewhere, features_ours}
use Rattle.streetmap_rows.proofs.PutFeatures.{bare, news_of, are_apart, ArePut, leads}

-- the bounds and the seconds of a feature, each or NULL
x0 : FeatureValue → Option ℤ
x0 f = option_map (λ (b : BoxValue). b.x0) (extent_in f)

y0 : FeatureValue → Option ℤ
y0 f = option_map (λ (b : BoxValue). b.y0) (extent_in f)

x1 : FeatureValue → Option ℤ
x1 f = option_map (λ (b : BoxValue). b.x1) (extent_in f)

y1 : FeatureValue → Option ℤ
y1 f = option_map (λ (b : BoxValue). b.y1) (extent_in f)

s0 : FeatureValue → Option ℤ
s0 f = option_map (λ (s : ℤ × ℤ). s.0) (seconds_in f)

s1 : FeatureValue → Option ℤ
s1 f = option_map (λ (s : ℤ × ℤ). s.1) (seconds_in f)

-- the columns take the row as it is
cast_is : (tree : ℕ) (name : Text) (e : Entry) → cast_row (features tree) (bare name e) ≡ bare name e
unfolding x0 y0 x1 y1 s0 s1
cast_is tree name e = rw (
  cast_null,
  (whole_null (x0 e.1)).cast_is,
  (whole_null (y0 e.1)).cast_is,
  (whole_null (x1 e.1)).cast_is,
  (whole_null (y1 e.1)).cast_is,
  (whole_null (s0 e.1)).cast_is,
  (whole_null (s1 e.1)).cast_is,
) refl

cast_are : (tree : ℕ) (name : Text) (es : List Entry) → map (λ (s : Row). cast_row (features tree) (drop 0 s)) (map (bare name) es) ≡ map (bare name) es
cast_are tree name [] = refl
cast_are tree name (e ∷ es) = λ i. cast_is tree name e i ∷ cast_are tree name es i

-- what the statement is given: the values of the features' rows, one after the other
abbrev pub cells_of : Text → List Entry → Row
cells_of name [] = []
cells_of name (e ∷ es) = feature_cells (name, e.0) e.1 ++ cells_of name es

-- the types take one more row
abbrev numbers_taken : FeatureValue → Bool → Bool
numbers_taken f more =
    is_some (class_of (or_null Int (x0 f))) && (is_some (class_of (or_null Int (y0 f))) && (is_some (class_of (or_null Int (x1 f)))
    && (is_some (class_of (or_null Int (y1 f))) && (is_some (class_of (or_null Int (s0 f))) && (is_some (class_of (or_null Int (s1 f))) && more)))))

taken : (f : FeatureValue) (more : Bool) → more ≡ true → numbers_taken f more ≡ true
taken f more h = rw (
  (whole_null (x0 f)).classed,
  (whole_null (y0 f)).classed,
  (whole_null (x1 f)).classed,
  (whole_null (y1 f)).classed,
  (whole_null (s0 f)).classed,
  (whole_null (s1 f)).classed,
  h,
) refl

pub record AreGiven (name : Text) (es : List Entry) : Type 0 where
  pub count : length (cells_of name es) ≡ 225
  pub accepted : accepts_terms compile.insert_features_terms (cells_of name es) ≡ true
  pub rows : value_rows (cells_of name es) 10 25 compile.insert_features_terms ≡ map (bare name) es

all_given : (name : Text) (e1 e2 e3 e4 e5 e6 e7 e8 e9 e10 e11 e12 e13 e14 e15 e16 e17 e18 e19 e20 e21 e22 e23 e24 e25 : Entry) →
    AreGiven name (e1 ∷ e2 ∷ e3 ∷ e4 ∷ e5 ∷ e6 ∷ e7 ∷ e8 ∷ e9 ∷ e10 ∷ e11 ∷ e12 ∷ e13 ∷ e14 ∷ e15 ∷ e16 ∷ e17 ∷ e18 ∷ e19 ∷ e20 ∷ e21 ∷ e22 ∷ e23 ∷ e24 ∷ e25
    ∷ [])
unfolding x0 y0 x1 y1 s0 s1
all_given name e1 e2 e3 e4 e5 e6 e7 e8 e9 e10 e11 e12 e13 e14 e15 e16 e17 e18 e19 e20 e21 e22 e23 e24 e25 = record {
  count = refl;
  accepted = taken e1.1 _ (taken e2.1 _ (taken e3.1 _ (taken e4.1 _ (taken e5.1 _ (taken e6.1 _
      (taken e7.1 _ (taken e8.1 _ (taken e9.1 _ (taken e10.1 _ (taken e11.1 _ (taken e12.1 _
      (taken e13.1 _ (taken e14.1 _ (taken e15.1 _ (taken e16.1 _ (taken e17.1 _ (taken e18.1 _
      (taken e19.1 _ (taken e20.1 _ (taken e21.1 _ (taken e22.1 _ (taken e23.1 _ (taken e24.1 _ (taken e25.1 true refl))))))))))))))))))))))));
  rows = refl;
}

-- what holds of n entries, one by one, holds of each list of n
abbrev ForMany : ℕ → (List Entry → Type 0) → Type 0
ForMany zero P = P []
ForMany (suc n) P = (e : Entry) → ForMany n (λ es. P (e ∷ es))

for_many : (n : ℕ) (P : List Entry → Type 0) → ForMany n P → (es : List Entry) → length es ≡ n → P es
for_many zero P each [] h = each
for_many zero P each (e ∷ es) h = absurd (cc)
for_many (suc n) P each [] h = absurd (cc)
for_many (suc n) P each (e ∷ es) h = for_many n (λ more. P (e ∷ more)) (each e) es (let less : length es ≡ n = cc in less)

pub are_given : (name : Text) (es : List Entry) → length es ≡ 25 → AreGiven name es
are_given name es n = for_many 25 (AreGiven name) (all_given name) es n

module _ (old new : Seen) (s : State) (represented : StandsFor s old.now) (limit : old.step_limit ≡ None) (name : Text) (es : List Entry)
    (given : AreGiven name es) where
  abbrev roots : Roots
  roots = represented.roots

  abbrev schema : Schema
  schema = old.now.schema

  abbrev db : Trees
  db = old.now.trees

  in_features : IsFound schema features_name (features roots.features)
  in_features = placing.features_found roots old.now represented.ours represented.sound

  means : Means schema insert_features 225 (Insert in_features.at (Values compile.insert_features_terms 10))
  means = compile.insert_features_means schema roots.features in_features

  fit : IsFit insert_features (length (cells_of name es)) (understood schema insert_features)
  fit = subst (λ n. IsFit insert_features n (understood schema insert_features)) (sym given.count) (is_fit schema insert_features 225 _ means refl)

  abbrev news : List Row
  news = news_of name es (db roots.features)

  made : (sources : List Row) → sources ≡ map (bare name) es → edit_of db (features roots.features) [] Chosen 0 sources
      ≡ record { table = features roots.features; gone = []; news = news }
  made sources is =
      ap (λ (rows : List Row). edit_of db (features roots.features) [] Chosen 0 rows) is
      ∙ ap (λ (rows : List Row). record { table = features roots.features; gone = []; news = numbered Chosen (db roots.features) rows })
      (cast_are roots.features name es)

  pub put_represented : (c : Collection) → get s.collections name ≡ Some c → AllByRecursion (λ (e : Entry). IsFeature e.1) es → (count : ℕ) →
      Executes insert_features (cells_of name es) old new (Ok count) → (t : State) × PutsEach name es s t × StandsFor t new.now
      × IsSameElsewhere old.now new.now
  put_represented c collected fine count h =
      let r = run.inserted _ roots.features _ _ _ _ _ in_features.at compile.insert_features_terms 10 insert_features (cells_of name es) old new schema news
      refl limit (command_is schema insert_features 225 _ means) (is_plain schema insert_features 225 _ means) fit given.accepted in_features.listed
      (made _ given.rows) count h in
      let ours = subst (IsOurs roots) (sym r.same_schema) represented.ours in
      let kept = λ (t : Table) (there : Has schema.tables t) (other : t.tree ≢ roots.features). all_has _ schema.tables t r.step.tables there other in
      let sound = subst (λ d. Rattle.sqlite.specs.Effect.IsDatabase (record { schema = d; trees = new.now.trees })) r.same_schema r.sound in
      let put : ArePut roots schema represented.ours name db new.now.trees es = record {
        fresh = r.step.fresh;
        rows = r.step.rows;
        collections = kept (collections roots.collections) (placing.collections_there roots schema represented.ours)
            (placing.collections_features roots schema represented.ours);
        meta = kept (meta roots.meta) (placing.meta_there roots schema represented.ours) (placing.meta_features roots schema represented.ours);
        batches = kept (batches roots.batches) (placing.batches_there roots schema represented.ours) (placing.batches_features roots schema represented.ours);
      } in
      let it = leads roots schema represented.ours name es s db new.now.trees represented.of represented.readable c collected fine put
      (are_apart roots schema represented.ours name new.now.trees sound) in (
        it.state,
        it.puts,
        record { roots = roots; ours = ours; of = it.of; readable = it.readable; sound = r.sound },
        same_elsewhere old.now new.now _ _ represented.ours.apart (placing.features_there roots schema represented.ours) features_ours r.same_schema r.step,
      )
