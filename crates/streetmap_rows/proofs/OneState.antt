-- A database has the rows of one state.
use Rattle.std.proofs.Common.{◌≡◌, ℕ, List, Option, None, Some, Ok, Result, option_map, pos, refl, sym, ap, subst, ◌∙◌, find}
use Rattle.std.specs.Prelude.{option_and_then}
use Rattle.std.specs.FinMap.{get, same_map}
use Rattle.std.specs.Cmp.Lexicographic.{nat_list_cmp_total}
use Rattle.serde_json.specs.Data.{Data}
use Rattle.serde_json.specs.Read.{read}
use Rattle.sqlite.specs.declared.types.Value.{Value}
use Rattle.sqlite.specs.declared.types.Value.TheVariants.{Int, Text as Words}
use Rattle.sqlite.specs.Order.{column, bytes}
use Rattle.sqlite.specs.Values.{or_null}
use Rattle.sqlite.specs.Schema.{Schema}
use Rattle.sqlite_trees.specs.Tree.{Trees}
use Rattle.streetmap_moment.specs.IntervalValue.{IntervalValue}
use Rattle.streetmap_moment.specs.declared.faults.TimeFault.{TimeFault}
use Rattle.streetmap_geojson.specs.FeatureValue.{FeatureValue, untimed}
use Rattle.streetmap_feature_text.specs.Written.{feature_data}
use Rattle.streetmap_geojson.specs.FeatureMeaning.{ReadsAs}
use Rattle.streetmap_geojson.specs.FeatureInvariant.{IsFeature}
use Rattle.streetmap_feature_text.proofs.WrittenFeatures.{text_reads_again}
use Rattle.streetmap_feature_text.proofs.Again.{feature_again}
use Rattle.streetmap_geojson.proofs.Wholes.{reads_once}
use Rattle.streetmap_batch.specs.Text.{Text}
use Rattle.streetmap_rows.specs.Holds.{KeyPair}
use Rattle.streetmap_ledger.specs.State.{State, Collection, AcceptedBatch}
use Rattle.streetmap_ledger.specs.WellFormed.{IsState}
use Rattle.streetmap_rows.specs.Rows.{AreOf, feature_at, feature_cells, feature_text, collection_cells, batch_cells}
use Rattle.sqlite.specs.Table.{Table}
use Rattle.sqlite_schema.specs.Names.{same_name}
use Rattle.streetmap_rows.proofs.Schemas.{one_schema}
use Rattle.streetmap_rows.specs.Tables.{Roots, IsNamed, IsOurs, meta, collections, batches, features, meta_name, collections_name, batches_name, features_name}
use Rattle.streetmap_rows.specs.KeptStates.{Keeps, AreTreesOf}
use Rattle.streetmap_rows.proofs.TextKeys.{one_text}

abbrev pub nat_in : Value → ℕ
nat_in (Int (pos n)) = n
nat_in _ = 0

abbrev pub text_in : Value → Option Text
text_in (Words t) = Some t
text_in _ = None

pub text_back : (o : Option Text) → text_in (or_null Words o) ≡ o
text_back None = refl
text_back (Some t) = refl

-- two features with one text differ in their times at most
pub one_text_one_feature : (f g : FeatureValue) → IsFeature (untimed f) → IsFeature (untimed g) → feature_text f ≡ feature_text g → untimed f ≡ untimed g
unfolding feature_text
one_text_one_feature f g p q same =
    let both : ◌≡◌ {A = Option Data} (Some (feature_data f)) (Some (feature_data g)) = sym (text_reads_again (untimed f) p) ∙ ap read same
    ∙ text_reads_again (untimed g) q in
    let is : feature_data f ≡ feature_data g = cc in
    reads_once None (feature_data f) (untimed f) (untimed g) (feature_again (untimed f) p)
    (subst (λ d. ReadsAs None d (untimed g)) (sym is) (feature_again (untimed g) q))

same_time : (a b : Option IntervalValue) → ◌≡◌ {A = Result (Option IntervalValue) TimeFault} (Ok a) (Ok b) → a ≡ b
same_time a b e = cc

module _ (s t : State) (roots : Roots) (db : Trees) (a : AreOf s roots db) (b : AreOf t roots db) (well : IsState s) (fine : IsState t)
    (kept : (p : KeyPair) (f : FeatureValue) → feature_at s p ≡ Some f → IsFeature (untimed f))
    (held : (p : KeyPair) (f : FeatureValue) → feature_at t p ≡ Some f → IsFeature (untimed f)) where
  same_cells : (p : KeyPair) (c e : Collection) → get s.collections p.0 ≡ Some c → get t.collections p.0 ≡ Some e → c.time ≡ e.time →
      (f g : Option FeatureValue) → get c.features p.1 ≡ f → get e.features p.1 ≡ g
      → option_map (feature_cells p) f ≡ option_map (feature_cells p) g → f ≡ g
  same_cells p c e at on time None None x y h = refl
  same_cells p c e at on time None (Some g) x y h = absurd (cc)
  same_cells p c e at on time (Some f) None x y h = absurd (cc)
  same_cells p c e at on time (Some f) (Some g) x y h =
      let cells : feature_cells p f ≡ feature_cells p g = cc in
      let text : feature_text f ≡ feature_text g = ap (λ r. bytes (column r 2)) cells in
      let mine : feature_at s p ≡ Some f = ap (option_and_then (λ (x : Collection). get x.features p.1)) at ∙ x in
      let yours : feature_at t p ≡ Some g = ap (option_and_then (λ (x : Collection). get x.features p.1)) on ∙ y in
      let same = one_text_one_feature f g (kept p f mine) (held p g yours) text in
      let one = ((well.made p.0 c at).holds p.1 f x).timed in
      let two = ((fine.made p.0 e on).holds p.1 g y).timed in
      let when : f.time ≡ g.time = same_time f.time g.time (sym one ∙ (λ i. Rattle.streetmap_geojson.specs.Times.time_of (time i) ((same i).properties)) ∙ two)
      in
      λ i. Some (record { id = (same i).id; geometry = (same i).geometry; properties = (same i).properties; time = when i })

  same_collection : (name : Text) (c e : Option Collection) → get s.collections name ≡ c → get t.collections name ≡ e → option_map (collection_cells name) c
      ≡ option_map (collection_cells name) e → c ≡ e
  same_collection name None None p q h = refl
  same_collection name None (Some e) p q h = absurd (cc)
  same_collection name (Some c) None p q h = absurd (cc)
  same_collection name (Some c) (Some e) p q h =
      let cells : collection_cells name c ≡ collection_cells name e = cc in
      let title : c.title ≡ e.title = ap (λ r. bytes (column r 1)) cells in
      let time : c.time ≡ e.time = sym (text_back c.time) ∙ ap (λ r. text_in (column r 2)) cells ∙ text_back e.time in
      let features : c.features ≡ e.features = same_map nat_list_cmp_total one_text c.features e.features (λ id.
      same_cells (name, id) c e p q time (get c.features id) (get e.features id) refl refl
      (sym (ap (λ o. option_map (feature_cells (name, id)) (option_and_then (λ (x : Collection). get x.features id) o)) p) ∙ sym (a.features.found (name, id))
      ∙ b.features.found (name, id)
      ∙ ap (λ o. option_map (feature_cells (name, id)) (option_and_then (λ (x : Collection). get x.features id) o)) q)) in
      λ i. Some (record { title = title i; time = time i; features = features i })

  same_kept : (key : Text) (k l : Option AcceptedBatch) → option_map (batch_cells key) k ≡ option_map (batch_cells key) l → k ≡ l
  same_kept key None None h = refl
  same_kept key None (Some l) h = absurd (cc)
  same_kept key (Some k) None h = absurd (cc)
  same_kept key (Some k) (Some l) h =
      let cells : batch_cells key k ≡ batch_cells key l = cc in λ i. Some (record {
        text = bytes (column (cells i) 1);
        counts = record {
          opened = nat_in (column (cells i) 2);
          inserted = nat_in (column (cells i) 3);
          replaced = nat_in (column (cells i) 4);
          deleted =
              nat_in (column (cells i) 5);
        };
        serial = nat_in (column (cells i) 6);
      })

  pub one_state : s ≡ t
  one_state =
      let collections = same_map nat_list_cmp_total one_text s.collections t.collections
      (λ name. same_collection name _ _ refl refl (sym (a.collections.found name) ∙ b.collections.found name)) in
      let keys = same_map nat_list_cmp_total one_text s.keys t.keys (λ key. same_kept key _ _ (sym (a.batches.found key) ∙ b.batches.found key)) in
      λ i. record { collections = collections i; keys = keys i }

pub untimed_is : (f : FeatureValue) → IsFeature f → IsFeature (untimed f)
untimed_is f h = record {
  named = h.named;
  text = h.text;
  made = h.made;
  few = h.few;
  oriented = h.oriented;
  kept = h.kept;
  flat = h.flat;
  whole =
      h.whole;
  exact = h.exact;
  timed = tt;
}

-- the name finds one table
one_root : (a b : Schema) (name : List ℕ) (s t : Table) → a.tables ≡ b.tables → IsNamed a name s → IsNamed b name t → s.tree ≡ t.tree
one_root a b name s t same p q = let e : ◌≡◌ {A = Option Table} (Some s) (Some t) = sym p ∙ ap (find (λ (x : Table). same_name x.name name)) same ∙ q in
    let is : s ≡ t = cc in ap (λ (x : Table). x.tree) is

-- our tables are in the same trees wherever a schema lists them
one_roots : (a b : Schema) (p q : Roots) → a.tables ≡ b.tables → IsOurs p a → IsOurs q b → p ≡ q
one_roots a b p q same x y =
    let m = one_root a b meta_name (meta p.meta) (meta q.meta) same x.meta_is y.meta_is in
    let c = one_root a b collections_name (collections p.collections) (collections q.collections) same x.collections_is y.collections_is in
    let k = one_root a b batches_name (batches p.batches) (batches q.batches) same x.batches_is y.batches_is in
    let f = one_root a b features_name (features p.features) (features q.features) same x.features_is y.features_is in
    λ i. record { meta = m i; collections = c i; batches = k i; features = f i }

-- trees are those of one state
pub one_kept : (s t : State) (a b : Schema) (trees : Trees) → Keeps s (record { schema = a; trees = trees }) → Keeps t (record { schema = b; trees = trees }) →
    s ≡ t
one_kept s t a b trees p q =
    let same = one_schema a b trees p.rows.sound q.rows.sound in
    let roots = one_roots a b p.rows.roots q.rows.roots same p.rows.ours q.rows.ours in
    one_state s t q.rows.roots trees (subst (λ r. AreOf s r trees) roots p.rows.of) q.rows.of p.well q.well
    (λ x f at. untimed_is f (p.rows.readable.features x f at)) (λ x f at. untimed_is f (q.rows.readable.features x f at))

-- trees of a state are those of no other
pub trees_of_one : (s : State) (schema : Schema) (trees : Trees) → Keeps s (record { schema = schema; trees = trees }) → (o : Option State) → AreTreesOf trees o
    → o ≡ Some s
trees_of_one s schema trees kept None none = absurd (none s schema kept)
trees_of_one s schema trees kept (Some t) it = ap Some (one_kept t s it.0 schema trees it.1 kept)
