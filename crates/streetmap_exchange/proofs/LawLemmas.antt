-- What is exported of a collection, imported again.
use Rattle.std.proofs.Common.{◌≡◌, ℕ, ◌+◌, List, [], ◌∷◌, ◌++◌, map, Bool, true, false, cond, T, All, Option, None, Some, Result, Ok, Err, ok_or, IsTrue, refl}
use Rattle.std.proofs.Common.{sym, ap, subst, ◌∙◌, nat_lt, nat_eq, append_assoc, append-nil}
use Rattle.std.specs.Ordering.{is_eq}
use Rattle.std.specs.declared.cmp.Ordering.{Ordering}
use Rattle.std.specs.declared.cmp.Ordering.TheVariants.{Less, Equal, Greater}
use Rattle.std.specs.Cmp.Lexicographic.{pointwise, nat_list_cmp_total}
use Rattle.std.specs.FinMap.{get, insert, len, entries, values, entries_sorted, find, is_sorted, get-entries, get-insert, from_entries, get-from_entries}
use Rattle.std.specs.FinMap.{from_entries_push, same_map}
use Rattle.std.specs.FinMap.Entries.{below_all}
use Rattle.std.proofs.lemmas.Cmp.{tied_itself}
use Rattle.std.proofs.lemmas.List.Elements.{All-nil, All-cons}
use Rattle.serde_json.specs.Data.{Data}
use Rattle.streetmap_geojson.specs.FeatureValue.{FeatureValue, untimed}
use Rattle.streetmap_geojson.specs.FeatureInvariant.{IsFeature}
use Rattle.streetmap_geojson.specs.JsonText.{json_of}
use Rattle.streetmap_geojson.specs.Times.{time_of}
use Rattle.streetmap_geojson.specs.Collection.{features, AreFeatures}
use Rattle.streetmap_feature_text.specs.Written.{collection_data, feature_data}
use Rattle.streetmap_feature_text.proofs.WrittenCollections.{collection_again, collection_is_json}
use Rattle.streetmap_feature_text.proofs.ExactFeatures.{exact_collection, exact_each, exact_feature}
use Rattle.streetmap_batch.specs.Text.{Text, text_cmp}
use Rattle.streetmap_batch.specs.BatchText.{batch_text}
use Rattle.streetmap_batch.specs.BatchValue.{EditValue, BatchValue}
use Rattle.streetmap_ledger.specs.State.{State, Collection, AcceptedBatch, Features, step, ◌>>=◌, absent, timed, inserted, with_feature}
use Rattle.streetmap_ledger.specs.WellFormed.{IsPlaced}
use Rattle.streetmap_ledger.specs.Batches.{Outcome, placed, edited, act, by_key, fresh, most_batches}
use Rattle.streetmap_ledger.specs.Laws.{is_accepted}
use Rattle.streetmap_ledger.specs.declared.reply.Refusal.{Refusal}
use Rattle.streetmap_ledger.specs.declared.reply.Refusal.TheVariants.{NoCollection, FeatureExists, KeyUsed, Full}
use Rattle.streetmap_ledger.specs.declared.reply.Reply.TheVariants.{Repeated, Refused}
use Rattle.streetmap_ledger.proofs.TextMaps.{one_text, first, second}
use Rattle.streetmap_exchange.specs.Exports.{export_text}
use Rattle.streetmap_exchange.specs.Imports.{edit_of, batch_of_features, import_of}
use Rattle.streetmap_exchange.specs.Laws.{ImportOfExport}
use Rattle.streetmap_exchange.proofs.LineFeeds.{json_fed}
use Rattle.streetmap_exchange.proofs.ImportLemmas.{again, import_found}
use Rattle.streetmap_ledger.proofs.Serials.{not_equal as less_than}

-- ---- the entries of a map

-- each entry is as the map has it
abbrev Each : (Text → FeatureValue → Type 0) → List (Text × FeatureValue) → Type 0
Each P [] = Unit {0}
Each P (e ∷ es) = P e.0 e.1 × Each P es

-- a key below all the others is not found among them
not_among : (k : Text) (es : List (Text × FeatureValue)) → T (below_all text_cmp k es) → find text_cmp k es ≡ None
not_among k [] h = refl
not_among k (e ∷ es) h = ap (λ b. cond b (Some e.1) (find text_cmp k es)) (less_than _ (first _ _ h)) ∙ not_among k es (second _ _ h)

each_entry : (P : Text → FeatureValue → Type 0) (es : List (Text × FeatureValue)) → T (is_sorted text_cmp es) →
    ((id : Text) (f : FeatureValue) → find text_cmp id es ≡ Some f → P id f) → Each P es
each_entry P [] up has = tt
each_entry P (e ∷ es) up has = (
  has e.0 e.1 (ap (λ r. cond (is_eq r) (Some e.1) (find text_cmp e.0 es)) (tied_itself nat_list_cmp_total e.0)),
  each_entry P es (second _ _ up) (λ id f there. has id f (following id f there (text_cmp id e.0) refl)),
) where
  following : (id : Text) (f : FeatureValue) → find text_cmp id es ≡ Some f → (r : Ordering) → text_cmp id e.0 ≡ r →
      cond (is_eq (text_cmp id e.0)) (Some e.1) (find text_cmp id es) ≡ Some f
  following id f there Less is = ap (λ r. cond (is_eq r) (Some e.1) (find text_cmp id es)) is ∙ there
  following id f there Greater is = ap (λ r. cond (is_eq r) (Some e.1) (find text_cmp id es)) is ∙ there
  following id f there Equal is =
      let none : find text_cmp id es ≡ None = ap (λ k. find text_cmp k es) (one_text id e.0 is) ∙ not_among e.0 es (first _ _ up) in
      cc

each_as : (P Q : Text → FeatureValue → Type 0) → ((id : Text) (f : FeatureValue) → P id f → Q id f) → (es : List (Text × FeatureValue)) → Each P es → Each Q es
each_as P Q so [] h = tt
each_as P Q so (e ∷ es) h = (so e.0 e.1 h.0, each_as P Q so es h.1)

-- a map is made of its entries
of_entries : (m : Features) → from_entries (entries m) ≡ m
of_entries m = same_map nat_list_cmp_total one_text (from_entries (entries m)) m (λ q. get-from_entries nat_list_cmp_total (entries m) q
    ∙ sym (get-entries m q))

all_features : (P : Text → FeatureValue → Type 0) (Q : FeatureValue → Type 0) → ((id : Text) (f : FeatureValue) → P id f → Q f) →
    (es : List (Text × FeatureValue)) → Each P es → All Q (map (λ e. e.1) es)
all_features P Q so [] h = All-nil Q
all_features P Q so (e ∷ es) h = All-cons Q e.1 (map (λ x. x.1) es) (so e.0 e.1 h.0) (all_features P Q so es h.1)

-- ---- the edits act one after the other

-- a feature with the time that its property gives
timed_again : (property : Option Text) (f : FeatureValue) → time_of property f.properties ≡ Ok f.time → timed property (untimed f) ≡ Ok f
timed_again property f h = rw h refl

absent_none : {A : Type 0} (o : Option A) (why : Refusal) (r : Result State Refusal) (t : State) → (absent o why >>= λ x. r) ≡ Ok t → (o ≡ None) × (r ≡ Ok t)
absent_none None why r t h = (refl, h)
absent_none (Some a) why r t h = absurd cc

same_state : (a b : State) → ◌≡◌ {A = Result State Refusal} (Ok a) (Ok b) → b ≡ a
same_state a b h = cc

-- a feature that was inserted
record Inserted (t u : State) (to : Text) (d : Collection) (f : FeatureValue) : Type 0 where
  new : get d.features f.id ≡ None
  is : u ≡ with_feature t to d f

insert_done : (t u : State) (to : Text) (d : Collection) (f : FeatureValue) → get t.collections to ≡ Some d → time_of d.time f.properties ≡ Ok f.time
    → step t (edit_of false to (untimed f)) ≡ Ok u → Inserted t u to d f
insert_done t u to d f there reported h =
    let found : inserted t to (untimed f) d ≡ Ok u = ap (λ o. ok_or o NoCollection >>= inserted t to (untimed f)) (sym there) ∙ h in
    let parts = absent_none (get d.features f.id) FeatureExists (timed d.time (untimed f) >>= λ g. Ok (with_feature t to d g)) u found in
    let done : ◌≡◌ {A = Result State Refusal} (Ok (with_feature t to d f)) (Ok u) = ap (λ r. r >>= λ g. Ok (with_feature t to d g))
    (sym (timed_again d.time f reported)) ∙ parts.1 in
    record { new = parts.0; is = same_state (with_feature t to d f) u done }

went_on : (place : ℕ) (r : Result State Refusal) (es : List EditValue) (u : State) → (placed place r >>= λ t. edited (place + 1) t es) ≡ Ok u → (t : State)
    × (r ≡ Ok t) × (edited (place + 1) t es ≡ Ok u)
went_on place (Ok t) es u h = (t, refl, h)
went_on place (Err why) es u h = absurd cc

-- the collection with these features
abbrev holding : Collection → Features → Collection
holding d features = record d { features = features }

put_there : (t : State) (to : Text) (d : Collection) (f : FeatureValue) → get (with_feature t to d f).collections to
    ≡ Some (holding d (insert d.features f.id f))
put_there t to d f = get-insert nat_list_cmp_total t.collections to (holding d (insert d.features f.id f)) to
    ∙ ap (λ r. cond (is_eq r) (Some (holding d (insert d.features f.id f))) (get t.collections to)) (tied_itself nat_list_cmp_total to)

-- the key of an entry is the id of its feature, which has the time that the property gives
abbrev IsTimedAs : Option Text → Text → FeatureValue → Type 0
IsTimedAs property id f = (f.id ≡ id) × (time_of property f.properties ≡ Ok f.time)

all_inserted : (front es : List (Text × FeatureValue)) (place : ℕ) (t u : State) (to : Text) (d : Collection) → get t.collections to
    ≡ Some (holding d (from_entries front)) → Each (IsTimedAs d.time) es
    → edited place t (map (edit_of false to) (map untimed (map (λ e. e.1) es))) ≡ Ok u → get u.collections to ≡ Some (holding d (from_entries (front ++ es)))
all_inserted front [] place t u to d there all_timed h =
    let same : u ≡ t = let e : ◌≡◌ {A = Result State (ℕ × Refusal)} (Ok t) (Ok u) = h in cc in
    ap (λ (x : State). get x.collections to) same ∙ there ∙ ap (λ es. Some (holding d (from_entries es))) (sym (append-nil front))
all_inserted front (e ∷ es) place t u to d there all_timed h =
    let f = e.1 in
    let more = map (edit_of false to) (map untimed (map (λ x. x.1) es)) in
    let on = went_on place (step t (edit_of false to (untimed f))) more u h in
    let one = insert_done t on.0 to (holding d (from_entries front)) f there all_timed.0.1 on.1 in
    let id : f.id ≡ e.0 = all_timed.0.0 in
    let none : find text_cmp e.0 front ≡ None = sym (get-from_entries nat_list_cmp_total front e.0) ∙ ap (get (from_entries front)) (sym id) ∙ one.new in
    let put : insert (from_entries front) f.id f ≡ from_entries (front ++ e ∷ []) = ap (λ k. insert (from_entries front) k f) id
    ∙ sym (from_entries_push nat_list_cmp_total one_text front e.0 f none) in
    let now : get (on.0).collections to ≡ Some (holding d (from_entries (front ++ e ∷ []))) =
    ap (λ (x : State). get x.collections to) one.is ∙ put_there t to (holding d (from_entries front)) f ∙ ap (λ m. Some (holding d m)) put in
    all_inserted (front ++ e ∷ []) es (place + 1) on.0 u to d now all_timed.1 on.2 ∙ ap (λ l. Some (holding d (from_entries l)))
    (append_assoc front (e ∷ []) es)

-- ---- the batch is accepted

record Accepts (t : State) (b : BatchValue) : Type 0 where
  after : State
  done : edited 1 t b.edits ≡ Ok after
  kept : (act t b).state.collections ≡ after.collections

fresh_accepts : (t : State) (b : BatchValue) (serial : ℕ) (r : Result State (ℕ × Refusal)) → IsTrue (is_accepted (fresh t b serial r).reply) → (u : State)
    × (r ≡ Ok u) × ((fresh t b serial r).state.collections ≡ u.collections)
fresh_accepts t b serial (Ok u) h = (u, refl, refl)
fresh_accepts t b serial (Err e) h = absurd cc

-- neither of two replies is an acceptance
neither : (c : Bool) (x y : Outcome) → is_accepted x.reply ≡ false → is_accepted y.reply ≡ false → IsTrue (is_accepted (cond c x y).reply) → ⊥
neither true x y e k h = cc
neither false x y e k h = cc

accepts_by : (t : State) (b : BatchValue) (o : Option AcceptedBatch) → IsTrue (is_accepted (by_key t b o).reply) → (u : State) × (edited 1 t b.edits ≡ Ok u)
    × ((by_key t b o).state.collections ≡ u.collections)
accepts_by t b (Some kept) h = absurd (neither (pointwise nat_eq kept.text (batch_text b)) (record { reply = Repeated kept.counts kept.serial; state = t })
    (record { reply = Refused KeyUsed None; state = t }) refl refl h)
accepts_by t b None h = by (nat_lt (len t.keys) most_batches) h where
  by : (c : Bool) → IsTrue (is_accepted (cond c (fresh t b (len t.keys + 1) (edited 1 t b.edits)) (record { reply = Refused Full None; state = t })).reply)
      → (u : State) × (edited 1 t b.edits ≡ Ok u) × ((cond c (fresh t b (len t.keys + 1) (edited 1 t b.edits))
      (record { reply = Refused Full None; state = t })).state.collections ≡ u.collections)
  by true h = fresh_accepts t b (len t.keys + 1) (edited 1 t b.edits) h
  by false h = absurd cc

accepts : (t : State) (b : BatchValue) → IsTrue (is_accepted (act t b).reply) → Accepts t b
accepts t b h = let a = accepts_by t b (get t.keys b.key) h in record { after = a.0; done = a.1; kept = a.2 }

-- ---- the law

-- what is exported reads as its features
written_reads : (fs : List FeatureValue) → All IsFeature fs → json_of (export_text fs) ≡ Ok (collection_data fs)
written_reads fs h = json_fed (collection_data fs) (exact_collection fs (exact_each feature_data IsFeature exact_feature fs h)) ∙ collection_is_json fs h

same_features : (fs gs : List FeatureValue) (d : Data) → AreFeatures None d fs → AreFeatures None d gs → gs ≡ fs
same_features fs gs d h k = let both = sym (again d gs k) ∙ again d fs h in cc

same_data : (d e : Data) (text : List ℕ) → json_of text ≡ Ok d → json_of text ≡ Ok e → e ≡ d
same_data d e text h k = let both = sym k ∙ h in cc

-- the batch inserts the exported features, their times left out
exported_batch : (fs : List FeatureValue) (key to : Text) (b : BatchValue) → All IsFeature fs → import_of false key to (export_text fs) ≡ Ok b → b
    ≡ batch_of_features false key to (map untimed fs)
exported_batch fs key to b sound h =
    let i = import_found false key to (export_text fs) b h in
    let value = same_data (collection_data fs) i.value (export_text fs) (written_reads fs sound) i.reported in
    let read : AreFeatures None (collection_data fs) i.features = subst (λ v. AreFeatures None v i.features) value i.read in
    i.made ∙ ap (batch_of_features false key to) (same_features (map untimed fs) i.features (collection_data fs) (collection_again fs sound) read)

pub import_of_export : ImportOfExport
import_of_export s t from to key c d b sound exported there none time h accepted =
    let es = entries c.features in
    let placed_so = each_entry (IsPlaced c.time) es (entries_sorted c.features) (λ id f found.
    (sound.made from c exported).holds id f (get-entries c.features id ∙ found)) in
    let fs = values c.features in
    let batch = exported_batch fs key to b (all_features (IsPlaced c.time) IsFeature (λ id f p. p.is) es placed_so) h in
    let a = accepts t b accepted in
    let edits : edited 1 t (map (edit_of false to) (map untimed fs)) ≡ Ok a.after = ap (λ (x : BatchValue). edited 1 t x.edits) (sym batch) ∙ a.done in
    let begun : get t.collections to ≡ Some (holding d (from_entries [])) = there ∙ ap (λ m. Some (holding d m)) none in
    let all_timed : Each (IsTimedAs d.time) es = each_as (IsPlaced c.time) (IsTimedAs d.time)
    (λ id f p. (p.named, ap (λ x. time_of x f.properties) time ∙ p.timed)) es placed_so in
    ap (λ m. get m to) a.kept ∙ all_inserted [] es 1 t a.after to d begun all_timed edits ∙ ap (λ m. Some (holding d m)) (of_entries c.features)
