-- Rows that are good are those of a state.
use Rattle.std.proofs.Common.{◌≡◌, ◌≢◌, ◌≤◌, ◌&&◌, Bool, true, false, T, inl, inr, ℕ, List, [], ◌∷◌, map, length, Some, refl, sym, ap, subst, ◌∙◌, arith}
use Rattle.std.specs.List.{AllByRecursion}
use Rattle.std.specs.Ordering.{is_lt}
use Rattle.std.specs.FinMap.{get, len, entries, is_sorted, from_sorted, entries-from_sorted, get-from_sorted, len-entries}
use Rattle.std.specs.FinMap.Entries.{below_all}
use Rattle.sqlite.specs.State.{State as Seen}
use Rattle.sqlite.specs.declared.types.Value.TheVariants.{Text as Words}
use Rattle.sqlite_trees.specs.Tree.{IsAscending}
use Rattle.sqlite_rules.specs.Lists.{Has}
use Rattle.sqlite_rules.proofs.ListLemmas.{all_has}
use Rattle.streetmap_geojson.specs.FeatureValue.{FeatureValue}
use Rattle.streetmap_batch.specs.Text.{Text, text_cmp}
use Rattle.streetmap_ledger.specs.State.{State, Collection, AcceptedBatch}
use Rattle.streetmap_ledger.specs.WellFormed.{IsState, IsCollection, IsPlaced}
use Rattle.streetmap_ledger.specs.Batches.{most_batches}
use Rattle.streetmap_rows.specs.Rows.{collection_cells, batch_cells}
use Rattle.streetmap_rows.specs.Statements.{select_collections}
use Rattle.streetmap_rows.proofs.OrderedRows.{has_mapped}
use Rattle.streetmap_checking.specs.Statements.{select_formats, select_features, select_batches}
use Rattle.streetmap_reading.specs.ShownQueries.{QueryShows}
use Rattle.streetmap_checking.specs.Good.{CollectionHead, head_cells, IsCollectionHead, feature_view, AreOwnerRows, AreSerials, IsAccepted, serials_of}
use Rattle.streetmap_checking.specs.QueryResults.{Known, SeesAllFeatures}
use Rattle.streetmap_checking.specs.CheckResults.{ShowsTotals, ShowsState, IsOfState, AreTotals, feature_count}
use Rattle.streetmap_checking.specs.declared.check.Totals.{Totals}
use Rattle.streetmap_rows.proofs.OrderedRows.{found_in}
use Rattle.streetmap_tables.proofs.FormatAndSerials.{map_length}
use Rattle.streetmap_ledger.proofs.TextMaps.{first, second}
use Rattle.streetmap_reading.proofs.RowsInTurn.{map_again as map_twice}

both : (a b : Bool) → T a → T b → T (a && b)
both true b p q = q
both false b p q = absurd p

-- what a map of sorted entries has is one of them
has_of : {V : Type 0} (es : List (Text × V)) (q : Text) (v : V) → T (is_sorted text_cmp es) → get (from_sorted {R = text_cmp} es) q ≡ Some v → Has es (q, v)
has_of es q v up is = found_in es q v (sym (get-from_sorted text_cmp es q up) ∙ is)

len_of : {V : Type 0} (es : List (Text × V)) → T (is_sorted text_cmp es) → len (from_sorted {R = text_cmp} es) ≡ length es
len_of es up = len-entries (from_sorted {R = text_cmp} es) ∙ ap length (entries-from_sorted text_cmp es up)

-- an entry by its serial
one_entry : (ks : List (Text × AcceptedBatch)) (e f : Text × AcceptedBatch) → IsAscending (λ m n. m ≢ n) (serials_of ks) → Has ks e → Has ks f → e.1.serial
    ≡ f.1.serial → e.0 ≡ f.0
one_entry [] e f up h i same = absurd h
one_entry (x ∷ ks) e f up (inl a) (inl b) same = ap (λ (y : Text × AcceptedBatch). y.0) (a ∙ sym b)
one_entry (x ∷ ks) e f up (inl a) (inr b) same = absurd (all_has _ (serials_of ks) f.1.serial up.0
    (has_mapped (λ (y : Text × AcceptedBatch). y.1.serial) ks f b) (ap (λ (y : Text × AcceptedBatch). y.1.serial) (sym a) ∙ same))
one_entry (x ∷ ks) e f up (inr a) (inl b) same = absurd (all_has _ (serials_of ks) e.1.serial up.0
    (has_mapped (λ (y : Text × AcceptedBatch). y.1.serial) ks e a) (ap (λ (y : Text × AcceptedBatch). y.1.serial) (sym b) ∙ sym same))
one_entry (x ∷ ks) e f up (inr a) (inr b) same = one_entry ks e f up.1 a b same

module _ (seen : Seen) where
  abbrev AllSeen : List (Text × CollectionHead) → ℕ → Type 0
  AllSeen hs n = SeesAllFeatures (map {B = Known} (λ e. (e.0, e.1.time)) hs) n seen

  -- the collections with their features
  made : (hs : List (Text × CollectionHead)) (n : ℕ) → AllSeen hs n → List (Text × Collection)
  made [] n h = []
  made (e ∷ hs) n h = (e.0, record { title = e.1.title; time = e.1.time; features = from_sorted h.2.2.entries }) ∷ made hs h.1 h.3

  made_cells : (hs : List (Text × CollectionHead)) (n : ℕ) (h : AllSeen hs n) → map (λ e. collection_cells e.0 e.1) (made hs n h)
      ≡ map (λ e. head_cells e.0 e.1) hs
  unfolding made
  made_cells [] n h = refl
  made_cells (e ∷ hs) n h = ap (λ l. head_cells e.0 e.1 ∷ l) (made_cells hs h.1 h.3)

  made_names : (hs : List (Text × CollectionHead)) (n : ℕ) (h : AllSeen hs n) → map (λ e. e.0) (made hs n h) ≡ map (λ e. e.0) hs
  unfolding made
  made_names [] n h = refl
  made_names (e ∷ hs) n h = ap (λ l. e.0 ∷ l) (made_names hs h.1 h.3)

  made_below : (k : Text) (hs : List (Text × CollectionHead)) (n : ℕ) (h : AllSeen hs n) → T (below_all text_cmp k hs) → T (below_all text_cmp k (made hs n h))
  unfolding made
  made_below k [] n h up = tt
  made_below k (e ∷ hs) n h up = both (is_lt (text_cmp k e.0)) (below_all text_cmp k (made hs h.1 h.3))
      (first (is_lt (text_cmp k e.0)) (below_all text_cmp k hs) up) (made_below k hs h.1 h.3 (second (is_lt (text_cmp k e.0)) (below_all text_cmp k hs) up))

  made_sorted : (hs : List (Text × CollectionHead)) (n : ℕ) (h : AllSeen hs n) → T (is_sorted text_cmp hs) → T (is_sorted text_cmp (made hs n h))
  unfolding made
  made_sorted [] n h up = tt
  made_sorted (e ∷ hs) n h up = both (below_all text_cmp e.0 (made hs h.1 h.3)) (is_sorted text_cmp (made hs h.1 h.3))
      (made_below e.0 hs h.1 h.3 (first (below_all text_cmp e.0 hs) (is_sorted text_cmp hs) up))
      (made_sorted hs h.1 h.3 (second (below_all text_cmp e.0 hs) (is_sorted text_cmp hs) up))

  made_count : (hs : List (Text × CollectionHead)) (n : ℕ) (h : AllSeen hs n) → n ≡ feature_count (made hs n h)
  unfolding made
  made_count [] n h = h
  made_count (e ∷ hs) n h = omega (arith, h.4, h.2.3, len_of h.2.2.entries h.2.2.rising, made_count hs h.1 h.3)

  abbrev SeesOf : Text × Collection → Type 0
  SeesOf e = QueryShows select_features (Words e.0 ∷ []) seen (map (λ f. feature_view f.0 f.1) (entries e.1.features))

  made_seen : (hs : List (Text × CollectionHead)) (n : ℕ) (h : AllSeen hs n) (e : Text × Collection) → Has (made hs n h) e → SeesOf e
  unfolding made
  made_seen [] n h e there = absurd there
  made_seen (d ∷ hs) n h e (inl is) =
      let rows = h.2.2.are ∙ ap (map (λ (f : Text × FeatureValue). feature_view f.0 f.1)) (sym (entries-from_sorted text_cmp h.2.2.entries h.2.2.rising)) in
      subst SeesOf (sym is) (subst (QueryShows select_features (Words d.0 ∷ []) seen) rows h.2.1)
  made_seen (d ∷ hs) n h e (inr later) = made_seen hs h.1 h.3 e later

  made_fine : (hs : List (Text × CollectionHead)) (n : ℕ) (h : AllSeen hs n) → AllByRecursion (λ e. IsCollectionHead e.0 e.1) hs → (e : Text × Collection) →
      Has (made hs n h) e → IsCollection e.0 e.1
  unfolding made
  made_fine [] n h fine e there = absurd there
  made_fine (d ∷ hs) n h fine e (inl is) = subst (λ (x : Text × Collection). IsCollection x.0 x.1) (sym is) (record {
    named = fine.0.named;
    titled = fine.0.titled;
    timed = fine.0.timed;
    holds = λ id f found. all_has (λ (x : Text × FeatureValue). IsPlaced d.1.time x.0 x.1) h.2.2.entries (id, f) h.2.2.fine
        (has_of h.2.2.entries id f h.2.2.rising found);
  })
  made_fine (d ∷ hs) n h fine e (inr later) = made_fine hs h.1 h.3 fine.1 e later

  module _ (totals : Totals) (shows : ShowsTotals totals seen) where
    hs : List (Text × CollectionHead)
    hs = shows.collections.2.entries

    all : AllSeen hs totals.features
    unfolding hs
    all = subst (λ l. SeesAllFeatures l totals.features seen) shows.collections.3 shows.features

    cs : List (Text × Collection)
    cs = made hs totals.features all

    cs_sorted : T (is_sorted text_cmp cs)
    unfolding hs cs
    cs_sorted = made_sorted hs totals.features all shows.collections.2.rising

    ks : List (Text × AcceptedBatch)
    ks = shows.batches.2.0.entries

    ks_sorted : T (is_sorted text_cmp ks)
    unfolding ks
    ks_sorted = shows.batches.2.0.rising

    serials : AreSerials (serials_of ks)
    unfolding ks
    serials = shows.batches.2.1

    s : State
    s = record { collections = from_sorted cs; keys = from_sorted ks }

    many : length (serials_of ks) ≡ len s.keys
    unfolding s
    many = map_length (λ (e : Text × AcceptedBatch). e.1.serial) ks ∙ sym (len_of ks ks_sorted)

    kept : (key : Text) (k : AcceptedBatch) → get s.keys key ≡ Some k → Has ks (key, k)
    unfolding s
    kept key k is = has_of ks key k ks_sorted is

    accepted : (key : Text) (k : AcceptedBatch) → get s.keys key ≡ Some k → IsAccepted key k
    unfolding ks
    accepted key k is = all_has (λ (e : Text × AcceptedBatch). IsAccepted e.0 e.1) ks (key, k) shows.batches.2.0.fine (kept key k is)

    serial_has : (key : Text) (k : AcceptedBatch) → get s.keys key ≡ Some k → Has (serials_of ks) k.serial
    serial_has key k is = has_mapped (λ (e : Text × AcceptedBatch). e.1.serial) ks (key, k) (kept key k is)

    well : IsState s
    unfolding s cs hs
    well = record {
      made = λ name c is. made_fine hs totals.features all shows.collections.2.fine (name, c) (has_of cs name c cs_sorted is);
      keyed = λ key k is. (accepted key k is).keyed;
      from_one = λ key k is. all_has (λ n. 1 ≤ n) (serials_of ks) k.serial serials.from_one (serial_has key k is);
      to_count = λ key k is. subst (λ n. k.serial ≤ n) many (all_has (λ n. n ≤ length (serials_of ks)) (serials_of ks) k.serial serials.to_count
          (serial_has key k is));
      one_each = λ key other k l is at same. one_entry ks (key, k) (other, l) serials.one_each (kept key k is) (kept other l at) same;
      counted = λ key k is. (accepted key k is).counted;
      not_too_many = subst (λ n. n ≤ most_batches) many serials.not_too_many;
    }

    cs_are : entries s.collections ≡ cs
    unfolding s
    cs_are = entries-from_sorted text_cmp cs cs_sorted

    ks_are : entries s.keys ≡ ks
    unfolding s
    ks_are = entries-from_sorted text_cmp ks ks_sorted

    shown : ShowsState s seen
    unfolding cs hs ks
    shown = record {
      format = subst (QueryShows select_formats [] seen) shows.format.2 shows.format.1;
      collections = subst (QueryShows select_collections [] seen) (shows.collections.2.are ∙ sym (made_cells hs totals.features all)
          ∙ ap (map (λ (e : Text × Collection). collection_cells e.0 e.1)) (sym cs_are)) shows.collections.1;
      features = λ e h. made_seen hs totals.features all e (subst (λ l. Has l e) cs_are h);
      owners = (shows.owners.0, shows.owners.1, subst (λ l. AreOwnerRows l shows.owners.0) names shows.owners.2);
      batches = subst (QueryShows select_batches [] seen) (shows.batches.2.0.are ∙ ap (map (λ (e : Text × AcceptedBatch). batch_cells e.0 e.1)) (sym ks_are))
          shows.batches.1;
    }
      where
        names : map (λ (k : Known). k.0) shows.heads ≡ map (λ (e : Text × Collection). e.0) (entries s.collections)
        names = ap (map (λ (k : Known). k.0)) shows.collections.3 ∙ map_twice (λ (k : Known). k.0) (λ (e : Text × CollectionHead). (e.0, e.1.time)) hs
            ∙ sym (made_names hs totals.features all) ∙ ap (map (λ (e : Text × Collection). e.0)) (sym cs_are)

    numbers : AreTotals s totals
    unfolding cs hs ks
    numbers = record {
      collections = shows.counted ∙ ap length shows.collections.3 ∙ map_length (λ (e : Text × CollectionHead). (e.0, e.1.time)) hs
          ∙ sym (map_length (λ (e : Text × CollectionHead). e.0) hs) ∙ ap length (sym (made_names hs totals.features all))
          ∙ map_length (λ (e : Text × Collection). e.0) cs ∙ ap length (sym cs_are) ∙ sym (len-entries s.collections);
      features = made_count hs totals.features all ∙ ap feature_count (sym cs_are);
      batches = shows.batches.3 ∙ ap length (sym ks_are) ∙ sym (len-entries s.keys);
    }

    pub state_of : IsOfState totals seen
    state_of = record { state = s; well = well; shows = shown; numbers = numbers }
