-- A state whose rows are shown is the one that the tables hold.
use Rattle.std.proofs.Common.{◌≡◌, inl, inr, ℕ, List, [], ◌∷◌, map, Option, Some, Ok, Result}
use Rattle.std.proofs.Common.{refl, sym, ap, subst, ◌∙◌}
use Rattle.std.specs.FinMap.{FinMap, find, get, entries, entries_sorted, get-entries, same_map}
use Rattle.std.specs.Cmp.Lexicographic.{nat_list_cmp_total}
use Rattle.sqlite.specs.declared.types.Value.TheVariants.{Text as Words}
use Rattle.sqlite.specs.Order.{Row, column, bytes}
use Rattle.sqlite.specs.State.{State as Seen}
use Rattle.sqlite_rules.specs.Lists.{Has}
use Rattle.streetmap_moment.specs.IntervalValue.{IntervalValue}
use Rattle.streetmap_moment.specs.declared.faults.TimeFault.{TimeFault}
use Rattle.streetmap_geojson.specs.FeatureValue.{FeatureValue}
use Rattle.streetmap_geojson.specs.Times.{time_of}
use Rattle.streetmap_batch.specs.Text.{Text, text_cmp}
use Rattle.streetmap_ledger.specs.State.{State, Collection, AcceptedBatch}
use Rattle.streetmap_ledger.specs.WellFormed.{IsState, IsPlaced}
use Rattle.streetmap_rows.specs.KeptStates.{Rests}
use Rattle.streetmap_rows.specs.Rows.{collection_cells, batch_cells, feature_text}
use Rattle.streetmap_rows.specs.Statements.{select_collections}
use Rattle.streetmap_rows.proofs.TextKeys.{one_text}
use Rattle.streetmap_rows.proofs.OrderedRows.{find_has}
use Rattle.streetmap_rows.proofs.OneState.{one_text_one_feature, untimed_is, nat_in as number_in, text_in, text_back}
use Rattle.streetmap_reading.proofs.ShownOutlines.{collections_at}
use Rattle.streetmap_checking.specs.CheckResults.{ShowsState}
use Rattle.streetmap_checking.specs.Good.{feature_view}
use Rattle.streetmap_reading.specs.ShownQueries.{QueryShows}
use Rattle.streetmap_checking.specs.Statements.{select_features, select_batches}
use Rattle.streetmap_checking.proofs.Only.{only_of, sees_good}
use Rattle.streetmap_checking.proofs.Shown.{features_at, batches_at}

-- lists whose rows are the same, if the rows determine the entries
same_list : {A : Type 0} (f : A → Row) (xs ys : List A)
    → ((x y : A) → Has xs x → Has ys y → f x ≡ f y → x ≡ y) → map f xs ≡ map f ys → xs ≡ ys
same_list f [] [] one e = refl
same_list f [] (y ∷ ys) one e = absurd cc
same_list f (x ∷ xs) [] one e = absurd cc
same_list f (x ∷ xs) (y ∷ ys) one e =
    let head : f x ≡ f y = cc in
    let tail : map f xs ≡ map f ys = cc in
    let first = one x y (inl refl) (inl refl) head in
    let later = same_list f xs ys (λ a b p q. one a b (inr p) (inr q)) tail in
    λ i. first i ∷ later i

-- maps with the same entries
same_entries : {V : Type 0} (m n : FinMap text_cmp V) → entries m ≡ entries n → m ≡ n
same_entries m n e =
    same_map nat_list_cmp_total one_text m n
    (λ k. get-entries m k ∙ ap (find text_cmp k) e ∙ sym (get-entries n k))

-- an entry is found
entry_at : {V : Type 0} (m : FinMap text_cmp V) (e : Text × V) → Has (entries m) e → get m e.0 ≡ Some e.1
entry_at m e h = get-entries m e.0 ∙ find_has (entries m) e.0 e.1 (entries_sorted m) h

same_batch : (x y : Text × AcceptedBatch) → batch_cells x.0 x.1 ≡ batch_cells y.0 y.1 → x ≡ y
same_batch x y cells = λ i. (
  bytes (column (cells i) 0),
  record {
    text = bytes (column (cells i) 1);
    counts = record {
      opened = number_in (column (cells i) 2);
      inserted = number_in (column (cells i) 3);
      replaced = number_in (column (cells i) 4);
      deleted = number_in (column (cells i) 5);
    };
    serial = number_in (column (cells i) 6);
  },
)

same_time : (a b : Option IntervalValue) → ◌≡◌ {A = Result (Option IntervalValue) TimeFault} (Ok a) (Ok b) → a ≡ b
same_time a b e = cc

same_feature : (property : Option Text) (x y : Text × FeatureValue) → IsPlaced property x.0 x.1
    → IsPlaced property y.0 y.1 → feature_view x.0 x.1 ≡ feature_view y.0 y.1 → x ≡ y
same_feature property x y p q cells =
    let id : x.0 ≡ y.0 = ap (λ r. bytes (column r 0)) cells in
    let text : feature_text x.1 ≡ feature_text y.1 = ap (λ r. bytes (column r 1)) cells in
    let same = one_text_one_feature x.1 y.1 (untimed_is x.1 p.is) (untimed_is y.1 q.is) text in
    let when : x.1.time ≡ y.1.time = same_time x.1.time y.1.time (sym p.timed ∙ ap (λ (f : FeatureValue). time_of property f.properties) same ∙ q.timed) in
    λ i. (id i, record { id = (same i).id; geometry = (same i).geometry; properties = (same i).properties; time = when i })

module _ (seen : Seen) (s t : State) (well : IsState s) (shows : ShowsState s seen) (rests : Rests seen t) where
  same_keys : entries s.keys ≡ entries t.keys
  same_keys =
      same_list (λ e. batch_cells e.0 e.1) (entries s.keys) (entries t.keys) (λ x y p q cells. same_batch x y cells)
      (sees_good select_batches [] seen _ (only_of select_batches [] seen.now _ (batches_at seen.now t rests.kept)) rests.unlimited _ shows.batches)

  same_features : (x y : Text × Collection) → Has (entries s.collections) x → Has (entries t.collections) y
      → x.0 ≡ y.0 → x.1.time ≡ y.1.time → x.1.features ≡ y.1.features
  same_features x y p q name time =
      let at = entry_at t.collections y q in
      let rows = sees_good select_features (Words y.0 ∷ []) seen _ (only_of select_features (Words y.0 ∷ []) seen.now _
      (features_at seen.now t rests.kept y.0 y.1 at)) rests.unlimited _
      (subst (λ n. QueryShows select_features (Words n ∷ []) seen (map (λ f. feature_view f.0 f.1) (entries x.1.features))) name (shows.features x p)) in
      same_entries x.1.features y.1.features
      (same_list (λ e. feature_view e.0 e.1) (entries x.1.features) (entries y.1.features)
      (λ f g m n cells.
      same_feature y.1.time f g
      (subst (λ time. IsPlaced time f.0 f.1) time ((well.made x.0 x.1 (entry_at s.collections x p)).holds f.0 f.1 (entry_at x.1.features f m)))
      ((rests.kept.well.made y.0 y.1 at).holds g.0 g.1 (entry_at y.1.features g n)) cells) rows)

  same_collection : (x y : Text × Collection) → Has (entries s.collections) x → Has (entries t.collections) y
      → collection_cells x.0 x.1 ≡ collection_cells y.0 y.1 → x ≡ y
  same_collection x y p q cells =
      let name : x.0 ≡ y.0 = ap (λ r. bytes (column r 0)) cells in
      let title : x.1.title ≡ y.1.title = ap (λ r. bytes (column r 1)) cells in
      let time : x.1.time ≡ y.1.time = sym (text_back x.1.time) ∙ ap (λ r. text_in (column r 2)) cells ∙ text_back y.1.time in
      let features = same_features x y p q name time in
      λ i. (name i, record { title = title i; time = time i; features = features i })

  same_collections : entries s.collections ≡ entries t.collections
  same_collections =
      same_list (λ e. collection_cells e.0 e.1) (entries s.collections) (entries t.collections) same_collection
      (sees_good select_collections [] seen _ (only_of select_collections [] seen.now _ (collections_at seen.now t rests.kept)) rests.unlimited _
      shows.collections)

  pub shown_is_kept : s ≡ t
  shown_is_kept =
      let collections = same_entries s.collections t.collections same_collections in
      let keys = same_entries s.keys t.keys same_keys in
      λ i. record { collections = collections i; keys = keys i }
