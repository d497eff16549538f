-- The tables of a state show good rows, as many as it has.
use Rattle.std.proofs.Common.{◌≡◌, ◌≢◌, ◌≤◌, ◌&&◌, Bool, true, false, T, IsTrue, inl, inr, ℕ, List, [], ◌∷◌, map, length, Err, Some, refl, sym, ap, subst, ◌∙◌}
use Rattle.std.proofs.Common.{arith}
use Rattle.std.specs.List.{AllByRecursion}
use Rattle.std.specs.Ordering.{is_lt}
use Rattle.std.specs.FinMap.{get, len, entries, entries_sorted, get-entries, len-entries, is_sorted}
use Rattle.std.specs.FinMap.Entries.{below_all}
use Rattle.std.specs.Cmp.Lexicographic.{nat_list_cmp_total}
use Rattle.std.proofs.lemmas.Cmp.{tied_itself}
use Rattle.sqlite.specs.Order.{Row}
use Rattle.sqlite.specs.State.{State as Seen}
use Rattle.sqlite.specs.declared.types.Value.TheVariants.{Text as Words}
use Rattle.sqlite_trees.specs.Tree.{IsAscending}
use Rattle.sqlite_rules.specs.Lists.{Has}
use Rattle.sqlite_rules.proofs.ListLemmas.{all_from, all_has}
use Rattle.streetmap_geojson.specs.FeatureValue.{FeatureValue}
use Rattle.streetmap_batch.specs.Text.{Text, text_cmp}
use Rattle.streetmap_ledger.specs.State.{State, Collection, AcceptedBatch}
use Rattle.streetmap_ledger.specs.Batches.{most_batches}
use Rattle.streetmap_ledger.specs.WellFormed.{IsState}
use Rattle.streetmap_reading.proofs.ShownOutlines.{collections_at, found_each}
use Rattle.sqlite.specs.declared.error.Error.{Error}
use Rattle.streetmap_rows.specs.Failures.{IsOfStore, HasReason}
use Rattle.streetmap_rows.specs.CallEnds.{Settles}
use Rattle.streetmap_rows.specs.declared.failures.Stop.{Stop}
use Rattle.streetmap_rows.specs.declared.failures.Stop.TheVariants.{Memory, Closed}
use Rattle.streetmap_rows.specs.declared.failures.Shut.TheVariants.{Device, Damaged}
use Rattle.streetmap_rows.specs.declared.fault.ReadFault.{ReadFault}
use Rattle.streetmap_rows.specs.declared.fault.ReadFault.TheVariants.{Store, Unread}
use Rattle.streetmap_rows.specs.KeptStates.{Rests}
use Rattle.streetmap_tables.specs.Adoption.{IsAsItWas}
use Rattle.streetmap_rows.specs.Rows.{collection_cells, batch_cells}
use Rattle.streetmap_rows.specs.Statements.{select_collections}
use Rattle.streetmap_rows.proofs.OrderedRows.{find_has, mapped_has}
use Rattle.streetmap_checking.specs.Statements.{select_formats, select_features, select_owners, select_batches}
use Rattle.streetmap_checking.specs.Good.{CollectionHead, head_cells, IsCollectionHead, feature_view, AreFormatRows, AreCollectionRows, AreFeatureRows}
use Rattle.streetmap_checking.specs.Good.{AreOwnerRows, AreBatchRows, serials_of}
use Rattle.streetmap_checking.specs.QueryResults.{Known, IsNotShown, ShowsWhy, SeesCollections, SeesAllFeatures}
use Rattle.streetmap_checking.specs.CheckResults.{ShowsTotals, IsDamaged, by_format, by_collections, by_features, by_owners, by_batches, AreTotals}
use Rattle.streetmap_checking.specs.CheckResults.{feature_count, ChecksBy, ChecksState}
use Rattle.streetmap_checking.specs.declared.check.Totals.{Totals}
use Rattle.streetmap_checking.proofs.Only.{only_of, only_so, sees_good, not_none}
use Rattle.streetmap_checking.proofs.RowCells.{name_of_cells, time_of_cells}
use Rattle.streetmap_checking.proofs.Shown.{format_row, formats_at, features_at, batches_at, owners_at}
use Rattle.streetmap_tables.proofs.FormatAndSerials.{map_length}
use Rattle.streetmap_ledger.proofs.TextMaps.{first, second}
use Rattle.streetmap_reading.proofs.RowsInTurn.{map_again as map_twice}

both : (a b : Bool) → T a → T b → T (a && b)
both true b p q = q
both false b p q = absurd p

-- as many entries if the rows are the same
as_many : {A B : Type 0} (f : A → Row) (g : B → Row) (xs : List A) (ys : List B) → map f xs ≡ map g ys → length xs ≡ length ys
as_many f g xs ys e = sym (map_length f xs) ∙ ap length e ∙ map_length g ys

-- ---- collections without their features

abbrev head_of : Collection → CollectionHead
head_of c = record { title = c.title; time = c.time }

abbrev headed : Text × Collection → Text × CollectionHead
headed e = (e.0, head_of e.1)

abbrev known_in : State → List Known
known_in s = map {B = Known} (λ e. (e.0, e.1.time)) (entries s.collections)

below_headed : (k : Text) (es : List (Text × Collection)) → T (below_all text_cmp k es) → T (below_all text_cmp k (map headed es))
below_headed k [] h = tt
below_headed k (e ∷ es) h = both (is_lt (text_cmp k e.0)) (below_all text_cmp k (map headed es)) (first (is_lt (text_cmp k e.0)) (below_all text_cmp k es) h)
    (below_headed k es (second (is_lt (text_cmp k e.0)) (below_all text_cmp k es) h))

sorted_headed : (es : List (Text × Collection)) → T (is_sorted text_cmp es) → T (is_sorted text_cmp (map headed es))
sorted_headed [] h = tt
sorted_headed (e ∷ es) h = both (below_all text_cmp e.0 (map headed es)) (is_sorted text_cmp (map headed es))
    (below_headed e.0 es (first (below_all text_cmp e.0 es) (is_sorted text_cmp es) h)) (sorted_headed es
    (second (below_all text_cmp e.0 es) (is_sorted text_cmp es) h))

same_heads : (es : List (Text × CollectionHead)) (fs : List (Text × Collection)) → map (λ e. head_cells e.0 e.1) es ≡ map (λ e. collection_cells e.0 e.1) fs →
    map {B = Known} (λ e. (e.0, e.1.time)) es ≡ map {B = Known} (λ e. (e.0, e.1.time)) fs
same_heads [] [] e = refl
same_heads [] (f ∷ fs) e = absurd cc
same_heads (d ∷ es) [] e = absurd cc
same_heads (d ∷ es) (f ∷ fs) e =
    let one : head_cells d.0 d.1 ≡ head_cells f.0 (head_of f.1) = cc in
    let tail : map (λ e. head_cells e.0 e.1) es ≡ map (λ e. collection_cells e.0 e.1) fs = cc in
    let name = name_of_cells d.0 f.0 d.1 (head_of f.1) one in
    let time = time_of_cells d.0 f.0 d.1 (head_of f.1) one in
    let later = same_heads es fs tail in
    λ i. (name i, time i) ∷ later i

-- ---- serials

apart : (k : Text) (j : AcceptedBatch) (es : List (Text × AcceptedBatch)) → T (below_all text_cmp k es) →
    ((f : Text × AcceptedBatch) → Has es f → j.serial ≡ f.1.serial → k ≡ f.0) → AllByRecursion (λ n. j.serial ≢ n) (serials_of es)
apart k j [] below one = tt
apart k j (f ∷ es) below one = (
  (λ same. subst T (ap is_lt (ap (text_cmp k) (sym (one f (inl refl) same)) ∙ tied_itself nat_list_cmp_total k))
      (first (is_lt (text_cmp k f.0)) (below_all text_cmp k es) below)),
  apart k j es (second (is_lt (text_cmp k f.0)) (below_all text_cmp k es) below) (λ g h. one g (inr h)),
)

one_each : (es : List (Text × AcceptedBatch)) → T (is_sorted text_cmp es) → ((e f : Text × AcceptedBatch) → Has es e → Has es f → e.1.serial ≡ f.1.serial → e.0
    ≡ f.0) → IsAscending (λ m n. m ≢ n) (serials_of es)
one_each [] up one = tt
one_each (e ∷ es) up one = (
  apart e.0 e.1 es (first (below_all text_cmp e.0 es) (is_sorted text_cmp es) up) (λ f h. one e f (inl refl) (inr h)),
  one_each es (second (below_all text_cmp e.0 es) (is_sorted text_cmp es) up) (λ f g h i. one f g (inr h) (inr i)),
)

module _ (old : Seen) (s : State) (rests : Rests old s) where
  well : IsState s
  well = rests.kept.well

  -- ---- good rows

  found_at : (e : Text × Collection) → Has (entries s.collections) e → get s.collections e.0 ≡ Some e.1
  found_at e h = all_has _ (entries s.collections) e (found_each old.now s rests.kept) h

  good_collections : AreCollectionRows (map (λ e. collection_cells e.0 e.1) (entries s.collections))
  good_collections = record {
    entries = map headed (entries s.collections);
    are = sym (map_twice (λ (e : Text × CollectionHead). head_cells e.0 e.1) headed (entries s.collections));
    rising = sorted_headed (entries s.collections) (entries_sorted s.collections);
    fine = all_from _ (map headed (entries s.collections)) (λ x h.
        let e = mapped_has headed (entries s.collections) x h in
        let it = well.made e.0.0 e.0.1 (found_at e.0 e.1) in
        subst (λ (y : Text × CollectionHead). IsCollectionHead y.0 y.1) (sym e.2) (record { named = it.named; titled = it.titled; timed = it.timed }));
  }

  good_features : (name : Text) (c : Collection) → get s.collections name ≡ Some c → AreFeatureRows c.time
      (map (λ e. feature_view e.0 e.1) (entries c.features))
  good_features name c at = record {
    entries = entries c.features;
    are = refl;
    rising = entries_sorted c.features;
    fine = all_from _ (entries c.features) (λ e h. (well.made name c at).holds e.0 e.1 (get-entries c.features e.0
        ∙ find_has (entries c.features) e.0 e.1 (entries_sorted c.features) h));
  }

  kept_at : (e : Text × AcceptedBatch) → Has (entries s.keys) e → get s.keys e.0 ≡ Some e.1
  kept_at e h = get-entries s.keys e.0 ∙ find_has (entries s.keys) e.0 e.1 (entries_sorted s.keys) h

  many : length (serials_of (entries s.keys)) ≡ len s.keys
  many = map_length (λ (e : Text × AcceptedBatch). e.1.serial) (entries s.keys) ∙ sym (len-entries s.keys)

  good_batches : AreBatchRows (map (λ e. batch_cells e.0 e.1) (entries s.keys))
  good_batches = (
    record {
      entries = entries s.keys;
      are = refl;
      rising = entries_sorted s.keys;
      fine = all_from _ (entries s.keys) (λ e h. record { keyed = well.keyed e.0 e.1 (kept_at e h); counted = well.counted e.0 e.1 (kept_at e h) });
    },
    record {
      from_one = all_from _ (serials_of (entries s.keys)) (λ n h. let e = mapped_has (λ (e : Text × AcceptedBatch). e.1.serial) (entries s.keys) n h in
          subst (λ m. 1 ≤ m) (sym e.2) (well.from_one e.0.0 e.0.1 (kept_at e.0 e.1)));
      to_count = all_from _ (serials_of (entries s.keys)) (λ n h. let e = mapped_has (λ (e : Text × AcceptedBatch). e.1.serial) (entries s.keys) n h in
          omega (arith, e.2, many, well.to_count e.0.0 e.0.1 (kept_at e.0 e.1)));
      one_each = one_each (entries s.keys) (entries_sorted s.keys) (λ e f h i same. well.one_each e.0 f.0 e.1 f.1 (kept_at e h) (kept_at f i) same);
      not_too_many = subst (λ n. n ≤ most_batches) (sym many) well.not_too_many;
    },
  )

  -- ---- none is damaged

  shows_heads : (heads : List Known) → SeesCollections heads old → heads ≡ known_in s
  shows_heads heads h =
      let is = sees_good select_collections [] old _ (only_of select_collections [] old.now _ (collections_at old.now s rests.kept)) rests.unlimited h.0 h.1 in
      h.3 ∙ same_heads h.2.entries (entries s.collections) (sym h.2.are ∙ is)

  no_features : (e : Text × Collection) → get s.collections e.0 ≡ Some e.1 → IsNotShown select_features (Words e.0 ∷ []) (AreFeatureRows e.1.time) old → ⊥
  no_features e at none =
      not_none select_features (Words e.0 ∷ []) old (AreFeatureRows e.1.time)
      (only_so select_features (Words e.0 ∷ []) old.now _ (AreFeatureRows e.1.time) (λ rows is.
      subst (AreFeatureRows e.1.time) (sym is) (good_features e.0 e.1 at)) (only_of select_features (Words e.0 ∷ []) old.now _
      (features_at old.now s rests.kept e.0 e.1 at))) rests.unlimited none

  pub never_damaged : IsDamaged old → ⊥
  never_damaged (by_format none) =
      not_none select_formats [] old AreFormatRows (only_of select_formats [] old.now (format_row ∷ []) (formats_at old.now s rests.kept)) rests.unlimited none
  never_damaged (by_collections none) =
      not_none select_collections [] old AreCollectionRows (only_so select_collections [] old.now _ AreCollectionRows
      (λ rows is. subst AreCollectionRows (sym is) good_collections) (only_of select_collections [] old.now _ (collections_at old.now s rests.kept)))
      rests.unlimited none
  never_damaged (by_features heads shown none) =
      let e = mapped_has (λ (e : Text × Collection). (e.0, e.1.time)) (entries s.collections) none.0
      (subst (λ l. Has l none.0) (shows_heads heads shown) none.1) in
      no_features e.0 (found_at e.0 e.1) (subst (λ (k : Known). IsNotShown select_features (Words k.0 ∷ []) (AreFeatureRows k.1) old) e.2 none.2)
  never_damaged (by_owners heads shown none) =
      let names : map (λ (k : Known). k.0) heads ≡ map (λ (e : Text × Collection). e.0) (entries s.collections) =
      ap (map (λ (k : Known). k.0)) (shows_heads heads shown) ∙ map_twice (λ (k : Known). k.0) (λ (e : Text × Collection). (e.0, e.1.time))
      (entries s.collections) in
      not_none select_owners [] old (AreOwnerRows (map (λ (e : Text × Collection). e.0) (entries s.collections))) (owners_at old.now s rests.kept)
      rests.unlimited (subst (λ l. IsNotShown select_owners [] (AreOwnerRows l) old) names none)
  never_damaged (by_batches none) =
      not_none select_batches [] old AreBatchRows (only_so select_batches [] old.now _ AreBatchRows (λ rows is. subst AreBatchRows (sym is) good_batches)
      (only_of select_batches [] old.now _ (batches_at old.now s rests.kept))) rests.unlimited none

  -- ---- the numbers

  feature_total : (es : List (Text × Collection)) (n : ℕ) → ((e : Text × Collection) → Has es e → get s.collections e.0 ≡ Some e.1) →
      SeesAllFeatures (map (λ e. (e.0, e.1.time)) es) n old → n ≡ feature_count es
  feature_total [] n at h = h
  feature_total (e ∷ es) n at h =
      let is = sees_good select_features (Words e.0 ∷ []) old _ (only_of select_features (Words e.0 ∷ []) old.now _
      (features_at old.now s rests.kept e.0 e.1 (at e (inl refl)))) rests.unlimited h.2.0 h.2.1 in
      let one = h.2.3 ∙ as_many (λ (x : Text × FeatureValue). feature_view x.0 x.1) (λ (x : Text × FeatureValue). feature_view x.0 x.1) h.2.2.entries
      (entries e.1.features) (sym h.2.2.are ∙ is) ∙ sym (len-entries e.1.features) in
      let later = feature_total es h.1 (λ f i. at f (inr i)) h.3 in
      omega (arith, h.4, one, later)

  pub totals_of : (totals : Totals) → ShowsTotals totals old → AreTotals s totals
  totals_of totals shows =
      let heads = shows_heads shows.heads shows.collections in
      let b = shows.batches in
      let is = sees_good select_batches [] old _ (only_of select_batches [] old.now _ (batches_at old.now s rests.kept)) rests.unlimited b.0 b.1 in
      record {
        collections = shows.counted ∙ ap length heads ∙ map_length (λ (e : Text × Collection). (e.0, e.1.time)) (entries s.collections)
            ∙ sym (len-entries s.collections);
        features = feature_total (entries s.collections) totals.features found_at (subst (λ l. SeesAllFeatures l totals.features old) heads shows.features);
        batches = b.3 ∙ as_many (λ (x : Text × AcceptedBatch). batch_cells x.0 x.1) (λ (x : Text × AcceptedBatch). batch_cells x.0 x.1) b.2.0.entries
            (entries s.keys) (sym b.2.0.are ∙ is) ∙ sym (len-entries s.keys);
      }

-- ---- why a read gave up

pub damaged_reported : (old new : Seen) (fault : ReadFault) → fault ≡ Unread → ShowsWhy (IsDamaged old) old new fault → IsDamaged old
damaged_reported old new fault is h = (subst (ShowsWhy (IsDamaged old) old new) is h).0

pub refused_reported : (old new : Seen) (fault : ReadFault) (e : Error) → fault ≡ Store e → ShowsWhy (IsDamaged old) old new fault → (IsOfStore e → ⊥) →
    IsDamaged old
refused_reported old new fault e is h other = (subst (ShowsWhy (IsDamaged old) old new) is h).0 other

-- an open connection that held what was committed still holds it
pub same_so_far : (old new : Seen) (fault : ReadFault) (e : Error) → fault ≡ Store e
    → ShowsWhy (IsDamaged old) old new fault → IsAsItWas old new
same_so_far old new fault e is h = (subst (ShowsWhy (IsDamaged old) old new) is h).1

-- the reason of an error that a read reported
pub refused_for : (old new : Seen) (fault : ReadFault) (e : Error) → fault ≡ Store e
    → ShowsWhy (IsDamaged old) old new fault → HasReason old new e
refused_for old new fault e is h = (subst (ShowsWhy (IsDamaged old) old new) is h).2

-- ---- why a check gave up

-- by the end of the call that settled it
pub settled_by : (old mid new : Seen) (e : Error) (it : Stop) → ((IsOfStore e → ⊥) → IsDamaged old) → Settles e mid new it → ChecksBy old (Err it)
settled_by old mid new e Memory refused ends = tt
settled_by old mid new e (Closed (Device x)) refused ends = ends.0
settled_by old mid new e (Closed Damaged) refused ends = refused ends

-- on the tables of a state, which are not damaged
pub stopped_on : (s : State) (old new : Seen) (it : Stop) → ChecksBy old (Err it) → (IsDamaged old → ⊥) → (IsTrue new.is_open → Rests new s) →
    (it ≡ Memory → IsTrue new.is_open) → ChecksState s old new (Err it)
stopped_on s old new Memory by never rests live = rests (live refl)
stopped_on s old new (Closed (Device x)) by never rests live = rests
stopped_on s old new (Closed Damaged) by never rests live = never by
