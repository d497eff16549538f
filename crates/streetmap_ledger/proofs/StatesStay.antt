-- The opening state is well-formed, and each batch keeps a state so.
use Rattle.std.proofs.Common.{◌≡◌, ◌⊎◌, ℕ, ◌+◌, ◌≤◌, ◌<◌, List, [], ◌∷◌, length, Bool, true, false, cond, Option, None, Some, Result, Ok, Err, IfOk, IsTrue}
use Rattle.std.proofs.Common.{All, ok_or, refl, sym, ap, subst, ◌∙◌, inl, inr, arith, nat_eq, nat_lt}
use Rattle.std.proofs.lemmas.Bool.Decides.{nat_tests}
use Rattle.std.proofs.lemmas.List.Elements.{All-head, All-tail}
use Rattle.std.specs.Option.{is_some}
use Rattle.std.specs.Ordering.{is_eq}
use Rattle.std.specs.declared.cmp.Ordering.{Ordering}
use Rattle.std.specs.declared.cmp.Ordering.TheVariants.{Less, Equal, Greater}
use Rattle.std.specs.Cmp.Lexicographic.{pointwise, nat_list_cmp_total}
use Rattle.std.specs.FinMap.{FinMap, get, insert, remove, empty, len, get-insert, get-remove, get-empty, len-empty, len-insert}
use Rattle.streetmap_moment.specs.IntervalValue.{IntervalValue}
use Rattle.streetmap_moment.specs.declared.faults.TimeFault.{TimeFault}
use Rattle.streetmap_geojson.specs.FeatureValue.{FeatureValue}
use Rattle.streetmap_geojson.specs.FeatureInvariant.{IsFeature}
use Rattle.streetmap_geojson.specs.Times.{time_of, with_time}
use Rattle.streetmap_geojson.proofs.Facts.{retimed_is}
use Rattle.streetmap_geojson.proofs.Timing.{time_is}
use Rattle.streetmap_batch.specs.Text.{Text, text_cmp}
use Rattle.streetmap_batch.specs.BatchValue as edit
use Rattle.streetmap_batch.specs.BatchValue.{EditValue, BatchValue}
use Rattle.streetmap_batch.specs.BatchFacts.{IsSoundEdit, IsSoundBatch}
use Rattle.streetmap_batch.specs.ParsedBatches.{most_edits}
use Rattle.streetmap_batch.specs.Names.{is_key}
use Rattle.streetmap_batch.specs.BatchText.{batch_text}
use Rattle.streetmap_ledger.specs.State.{State, Collection, AcceptedBatch, opening_state, step, ◌>>=◌, absent, or_bad_time, timed}
use Rattle.streetmap_ledger.specs.Batches.{Outcome, placed, edited, counted, counted_all, counts_of, fresh, by_key, kept_for, act, most_batches}
use Rattle.streetmap_ledger.specs.WellFormed.{IsPlaced, HoldsFeatures, IsCollection, AreCounts, IsState, StaysWellFormed}
use Rattle.streetmap_ledger.specs.declared.reply.Counts.{Counts}
use Rattle.streetmap_ledger.specs.declared.reply.Refusal.{Refusal}
use Rattle.streetmap_ledger.specs.declared.reply.Refusal.TheVariants.{NoCollection, CollectionExists, FeatureExists, NoFeature}
use Rattle.streetmap_ledger.proofs.TextMaps.{one_text}
use Rattle.streetmap_ledger.proofs.Repeat.{either, edited_keys}

none_some : {A : Type 0} {B : Type 0} (x : A) → None ≡ Some x → B
none_some x e = cc

module _ {X : Type 0} where
  -- what a map has after an insertion was put in, or was there before
  pub put_or_there : (m : FinMap text_cmp X) (k : Text) (v : X) (q : Text) (w : X) → get (insert m k v) q ≡ Some w → ((q ≡ k) × (w ≡ v)) ⊎ (get m q ≡ Some w)
  put_or_there m k v q w e = by (text_cmp q k) refl (sym (get-insert nat_list_cmp_total m k v q) ∙ e) where
    by : (r : Ordering) → text_cmp q k ≡ r → cond (is_eq r) (Some v) (get m q) ≡ Some w → ((q ≡ k) × (w ≡ v)) ⊎ (get m q ≡ Some w)
    by Less is h = inr h
    by Greater is h = inr h
    by Equal is h = let same : v ≡ w = cc in inl (one_text q k is, sym same)

  -- what a map has after a removal was there before
  pub was_there : (m : FinMap text_cmp X) (k q : Text) (w : X) → get (remove m k) q ≡ Some w → get m q ≡ Some w
  was_there m k q w e = by (is_eq (text_cmp q k)) (sym (get-remove nat_list_cmp_total m k q) ∙ e) where
    by : (b : Bool) → cond b None (get m q) ≡ Some w → get m q ≡ Some w
    by true h = none_some w h
    by false h = h

-- ---- collections
abbrev AllMade : State → Type 0
AllMade s = (name : Text) (c : Collection) → get s.collections name ≡ Some c → IsCollection name c

abbrev KeepsMade : Result State Refusal → Type 0
KeepsMade r = IfOk r AllMade

if_done : {A : Type 0} (r : Result A Refusal) (next : A → Result State Refusal) → ((x : A) → r ≡ Ok x → KeepsMade (next x)) → KeepsMade (r >>= next)
if_done (Ok x) next keeps = keeps x refl
if_done (Err why) next keeps = tt

-- a collection that is put in follows the rules, and so do the others
put_collection : (s : State) (name : Text) (c : Collection) → AllMade s → IsCollection name c → AllMade (record s { collections = insert s.collections name c })
put_collection s name c all here q d e = elim (put_or_there s.collections name c q d e) [
  | inl p ↦ subst (λ n. IsCollection n d) (sym p.0) (subst (λ x. IsCollection name x) (sym p.1) here)
  | inr h ↦ all q d h
]

-- a collection with other features, each of which is placed
put_features : (s : State) (name : Text) (c : Collection) (features : FinMap text_cmp FeatureValue) → AllMade s → IsCollection name c →
    HoldsFeatures (record c { features = features }) → AllMade (record s { collections = insert s.collections name (record c { features = features }) })
put_features s name c features all old here = put_collection s name (record c { features = features }) all
    (record { named = old.named; titled = old.titled; timed = old.timed; holds = here })

put_feature : (c : Collection) (g : FeatureValue) → HoldsFeatures c → IsPlaced c.time g.id g → HoldsFeatures (record c { features = insert c.features g.id g })
put_feature c g all here id f e = elim (put_or_there c.features g.id g id f e) [
  | inl p ↦ subst (λ i. IsPlaced c.time i f) (sym p.0) (subst (λ x. IsPlaced c.time g.id x) (sym p.1) here)
  | inr h ↦ all id f h
]

cut_feature : (c : Collection) (id : Text) → HoldsFeatures c → HoldsFeatures (record c { features = remove c.features id })
cut_feature c id all q f e = all q f (was_there c.features id q f e)

none_placed : (title : Text) (time : Option Text) → HoldsFeatures (record { title = title; time = time; features = empty })
none_placed title time id f e = none_some f (sym (get-empty text_cmp id) ∙ e)

found : {A : Type 0} (o : Option A) (why : Refusal) (x : A) → ok_or o why ≡ Ok x → o ≡ Some x
found None why x e = cc
found (Some y) why x e = let same : y ≡ x = cc in ap (λ z. Some z) same

-- a timed feature has the time that its collection's property gives
in_time : (property : Option Text) (f g : FeatureValue) → IsFeature f → timed property f ≡ Ok g → IsPlaced property g.id g
in_time property f g whole e = by (time_of property f.properties) refl e where
  by : (q : Result (Option IntervalValue) TimeFault) → time_of property f.properties ≡ q → or_bad_time (with_time f q) ≡ Ok g → IsPlaced property g.id g
  by (Ok time) is h =
      let same : ◌≡◌ {A = FeatureValue} (record { id = f.id; geometry = f.geometry; properties = f.properties; time = time }) g = cc in
      subst (λ x. IsPlaced property x.id x) same (record { is = retimed_is f time whole (time_is property f.properties time is); named = refl; timed = is })
  by (Err fault) is h = cc

step_made : (s : State) (e : EditValue) → IsSoundEdit e → AllMade s → KeepsMade (step s e)
step_made s (edit.«open» name title time) h all = if_done (absent (get s.collections name) CollectionExists) _ (λ new is.
    put_collection s name _ all (record { named = h.0; titled = h.1; timed = h.2; holds = none_placed title time }))
step_made s (edit.insert name f) h all = if_done (ok_or (get s.collections name) NoCollection) _
    (λ c there. if_done (absent (get c.features f.id) FeatureExists) _ (λ new is. if_done (timed c.time f) _ (λ g reported.
    let old = all name c (found _ NoCollection c there) in
    put_features s name c _ all old (put_feature c g old.holds (in_time c.time f g h.1 reported)))))
step_made s (edit.replace name f) h all = if_done (ok_or (get s.collections name) NoCollection) _
    (λ c there. if_done (ok_or (get c.features f.id) NoFeature) _ (λ was is. if_done (timed c.time f) _ (λ g reported.
    let old = all name c (found _ NoCollection c there) in
    put_features s name c _ all old (put_feature c g old.holds (in_time c.time f g h.1 reported)))))
step_made s (edit.delete name id) h all = if_done (ok_or (get s.collections name) NoCollection) _
    (λ c there. if_done (ok_or (get c.features id) NoFeature) _ (λ was is.
    let old = all name c (found _ NoCollection c there) in
    put_features s name c _ all old (cut_feature c id old.holds)))

then_made : (place : ℕ) (r : Result State Refusal) (next : State → Result State (ℕ × Refusal)) → KeepsMade r → ((t : State) → AllMade t → IfOk (next t) AllMade)
    → IfOk (placed place r >>= next) AllMade
then_made place (Err why) next all keeps = tt
then_made place (Ok t) next all keeps = keeps t all

edited_made : (place : ℕ) (s : State) (es : List EditValue) → All IsSoundEdit es → AllMade s → IfOk (edited place s es) AllMade
edited_made place s [] sound all = all
edited_made place s (e ∷ es) sound all =
    then_made place (step s e) _ (step_made s e (All-head IsSoundEdit e es sound) all) (λ t made.
    edited_made (place + 1) t es (All-tail IsSoundEdit e es sound) made)

-- ---- counts
counted_most : (n : Counts) (es : List EditValue) (m : ℕ) → n.opened + length es ≤ m → n.inserted + length es ≤ m → n.replaced + length es ≤ m → n.deleted
    + length es ≤ m →
    (((counted_all n es).opened ≤ m) × ((counted_all n es).inserted ≤ m)) × (((counted_all n es).replaced ≤ m) × ((counted_all n es).deleted ≤ m))
counted_most n [] m o i r d = ((omega arith, omega arith), (omega arith, omega arith))
counted_most n (edit.«open» name title time ∷ es) m o i r d = counted_most (counted n (edit.«open» name title time)) es m (omega arith) (omega arith)
    (omega arith) (omega arith)
counted_most n (edit.insert name f ∷ es) m o i r d = counted_most (counted n (edit.insert name f)) es m (omega arith) (omega arith) (omega arith) (omega arith)
counted_most n (edit.replace name f ∷ es) m o i r d = counted_most (counted n (edit.replace name f)) es m (omega arith) (omega arith) (omega arith)
    (omega arith)
counted_most n (edit.delete name id ∷ es) m o i r d = counted_most (counted n (edit.delete name id)) es m (omega arith) (omega arith) (omega arith)
    (omega arith)

are_counts : (es : List EditValue) → length es ≤ most_edits → AreCounts (counts_of es)
are_counts es few =
    let start : Counts = record { opened = 0; inserted = 0; replaced = 0; deleted = 0 } in
    let most = counted_most start es most_edits (omega arith) (omega arith) (omega arith) (omega arith) in
    record { opened = most.0.0; inserted = most.0.1; replaced = most.1.0; deleted = most.1.1 }

-- ---- keys
-- one more key under the next serial
one_more_key : (s t : State) (key : Text) (k : AcceptedBatch) → IsTrue (is_key key) → IsState s → AllMade t → t.keys ≡ s.keys → get s.keys key ≡ None →
    len s.keys < most_batches → k.serial ≡ len s.keys + 1 → AreCounts k.counts → IsState (record t { keys = insert t.keys key k })
one_more_key s t key k named sound all same new room serial counts =
    let keys = insert s.keys key k in
    let count : len keys ≡ len s.keys + 1 = len-insert nat_list_cmp_total s.keys key k ∙ ap
    (λ (o : Option AcceptedBatch). cond (is_some o) (len s.keys) (len s.keys + 1)) new in
    let here = λ (q : Text) (l : AcceptedBatch) (e : get keys q ≡ Some l). put_or_there s.keys key k q l e in
    subst (λ m. IsState (record { collections = t.collections; keys = insert m key k })) (sym same) (record {
      made = all;
      keyed = λ q l e. elim (here q l e) [
        | inl p ↦ subst (λ (x : Text). IsTrue (is_key x)) (sym p.0) named
        | inr h ↦ sound.keyed q l h
      ];
      from_one = λ q l e. elim (here q l e) [
        | inl p ↦ let is : l.serial ≡ k.serial = ap (λ (x : AcceptedBatch). x.serial) p.1 in omega arith
        | inr h ↦ sound.from_one q l h
      ];
      to_count = λ q l e. elim (here q l e) [
        | inl p ↦ let is : l.serial ≡ k.serial = ap (λ (x : AcceptedBatch). x.serial) p.1 in omega arith
        | inr h ↦ let is : l.serial ≤ len s.keys = sound.to_count q l h in omega arith
      ];
      one_each = λ q r l m e f is. elim (here q l e) [
        | inl p ↦ elim (here r m f) [
          | inl o ↦ p.0 ∙ sym o.0
          | inr h ↦
              let old : m.serial ≤ len s.keys = sound.to_count r m h in
              let is_new : l.serial ≡ k.serial = ap (λ (x : AcceptedBatch). x.serial) p.1 in
              absurd (omega arith)
        ]
        | inr h ↦ elim (here r m f) [
          | inl o ↦
              let old : l.serial ≤ len s.keys = sound.to_count q l h in
              let is_new : m.serial ≡ k.serial = ap (λ (x : AcceptedBatch). x.serial) o.1 in
              absurd (omega arith)
          | inr i ↦ sound.one_each q r l m h i is
        ]
      ];
      counted = λ q l e. elim (here q l e) [
        | inl p ↦ subst (λ (x : AcceptedBatch). AreCounts x.counts) (sym p.1) counts
        | inr h ↦ sound.counted q l h
      ];
      not_too_many = omega arith;
    })

less_than : (a b : ℕ) → nat_lt a b ≡ true → a < b
less_than a b e = grind (arith, nat_tests)

fresh_sound : (s : State) (b : BatchValue) → IsState s → IsSoundBatch b → get s.keys b.key ≡ None → len s.keys < most_batches → (r : Result State (ℕ × Refusal))
    → IfOk r AllMade → IfOk r (λ t. t.keys ≡ s.keys) → IsState (fresh s b (len s.keys + 1) r).state
fresh_sound s b sound batch new room (Err e) all same = sound
fresh_sound s b sound batch new room (Ok t) all same = one_more_key s t b.key (kept_for b (len s.keys + 1)) batch.named sound all same new room refl
    (are_counts b.edits batch.few)

-- a choice whose test is known in its arm
chosen : (t : Bool) (x y : Outcome) → (t ≡ true → IsState x.state) → IsState y.state → IsState (cond t x y).state
chosen true x y f g = f refl
chosen false x y f g = g

by_key_sound : (s : State) (b : BatchValue) → IsState s → IsSoundBatch b → (o : Option AcceptedBatch) → get s.keys b.key ≡ o → IsState (by_key s b o).state
by_key_sound s b sound batch (Some kept) e = either (λ (o : Outcome). IsState o.state) (pointwise nat_eq kept.text (batch_text b)) _ _ sound sound
by_key_sound s b sound batch None e = chosen (nat_lt (len s.keys) most_batches) _ _ (λ room.
    fresh_sound s b sound batch e (less_than _ _ room) (edited 1 s b.edits) (edited_made 1 s b.edits batch.made sound.made) (edited_keys 1 s b.edits)) sound

pub opening_sound : IsState opening_state
opening_sound =
    let none = λ (q : Text) (k : AcceptedBatch) (e : get (empty {X = AcceptedBatch} {R = text_cmp}) q ≡ Some k). sym (get-empty text_cmp q) ∙ e in
    record {
      made = λ name c e. none_some c (sym (get-empty text_cmp name) ∙ e);
      keyed = λ q k e. none_some k (none q k e);
      from_one = λ q k e. none_some k (none q k e);
      to_count = λ q k e. none_some k (none q k e);
      one_each = λ q r k l e f is. none_some k (none q k e);
      counted = λ q k e. none_some k (none q k e);
      not_too_many = omega (arith, len-empty text_cmp AcceptedBatch);
    }

pub act_sound : (s : State) (b : BatchValue) → IsState s → IsSoundBatch b → IsState (act s b).state
act_sound s b sound batch = by_key_sound s b sound batch (get s.keys b.key) refl

pub stays_well_formed : StaysWellFormed
stays_well_formed = (opening_sound, act_sound)
