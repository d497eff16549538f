-- One edit of the plain keeper's collections is one of the state.
use Rattle.std.proofs.Common.{◌≡◌, ℕ, ◌+◌, List, ◌∷◌, cond, Option, None, Some, Result, Ok, Err, ok_or, refl, sym, ap, ◌∙◌}
use Rattle.std.specs.Option.{option_map, option_flatten, option_and_then, is_some}
use Rattle.std.specs.Result.{result_ok}
use Rattle.std.specs.FinMap.{get, insert, remove, empty}
use Rattle.streetmap_moment.specs.IntervalValue.{IntervalValue}
use Rattle.streetmap_moment.specs.declared.faults.TimeFault.{TimeFault}
use Rattle.streetmap_geojson.specs.FeatureValue.{FeatureValue}
use Rattle.streetmap_geojson.specs.Times.{time_of, with_time}
use Rattle.streetmap_batch.specs.Text.{Text}
use Rattle.streetmap_batch.specs.BatchValue as edit
use Rattle.streetmap_batch.specs.BatchValue.{EditValue}
use Rattle.streetmap_ledger.specs.State.{State, Collection, step, ◌>>=◌, absent, or_bad_time, timed, with_features, with_feature, opened, inserted, replaced}
use Rattle.streetmap_ledger.specs.State.{deleted}
use Rattle.streetmap_ledger.specs.Batches.{edited, placed}
use Rattle.streetmap_memory.specs.Slots.{SlotCollections, SlotCollection, collected, collections_of, live, filled, put_slot, reset_slot, changed_collection}
use Rattle.streetmap_memory.specs.Slots.{put_in, reset_in}
use Rattle.streetmap_memory.specs.Undo.{undone, found_in, found_on, found_slot, timed_in}
use Rattle.streetmap_memory.specs.Does.{Keys, state_of, DoesOne}
use Rattle.streetmap_memory.specs.declared.undo.Undo.{Undo}
use Rattle.streetmap_memory.specs.declared.acted.Acted.TheVariants.{Done}
use Rattle.streetmap_memory.specs.declared.edits.Found.{Found}
use Rattle.streetmap_memory.specs.declared.edits.Found.TheVariants as found
use Rattle.streetmap_ledger.specs.declared.reply.Refusal.{Refusal}
use Rattle.streetmap_ledger.specs.declared.reply.Refusal.TheVariants.{NoCollection, CollectionExists, FeatureExists, NoFeature, BadTime}
use Rattle.streetmap_memory.proofs.SlotLemmas.{get_live, live_insert, live_empty, get_collection, collections_insert}

-- a slot that is written
pub put_is : (t : SlotCollections) (keys : Keys) (name id : Text) (x : Option FeatureValue) (c : SlotCollection) → get t name ≡ Some c →
    with_features (state_of t keys) name (collected c) (filled (live c.slots) id x) ≡ state_of (put_in t name id x) keys
put_is t keys name id x c e =
    sym (ap (λ o. state_of (changed_collection t name (λ r. put_slot r id x) o) keys) e
    ∙ ap (λ m. record { collections = m; keys = keys }) (collections_insert t name (put_slot c id x)
    ∙ ap (λ d. insert (collections_of t) name (record { title = c.title; time = c.time; features = d })) (live_insert c.slots id x)))

-- what an edit gives, by what is found, and by the feature with its time
abbrev pub put_gives : SlotCollections → Keys → Text → Option FeatureValue → Result State Refusal
put_gives t keys name None = Err BadTime
put_gives t keys name (Some g) = Ok (state_of (put_in t name g.id (Some g)) keys)

abbrev pub insert_gives : SlotCollections → Keys → Text → Found → Option FeatureValue → Result State Refusal
insert_gives t keys name found.NoCollection o = Err NoCollection
insert_gives t keys name found.There o = Err FeatureExists
insert_gives t keys name found.NoFeature o = put_gives t keys name o

abbrev pub replace_gives : SlotCollections → Keys → Text → Found → Option FeatureValue → Result State Refusal
replace_gives t keys name found.NoCollection o = Err NoCollection
replace_gives t keys name found.NoFeature o = Err NoFeature
replace_gives t keys name found.There o = put_gives t keys name o

abbrev pub delete_gives : SlotCollections → Keys → Text → Text → Found → Result State Refusal
delete_gives t keys name id found.NoCollection = Err NoCollection
delete_gives t keys name id found.NoFeature = Err NoFeature
delete_gives t keys name id found.There = Ok (state_of (put_in t name id None) keys)

-- a feature is put in with its time
abbrev puts : State → Text → FeatureValue → Collection → Result FeatureValue Refusal → Result State Refusal
puts s name f c r = r >>= λ g. Ok (with_feature s name c g)

put_timed : (t : SlotCollections) (keys : Keys) (name : Text) (f : FeatureValue) (c : SlotCollection) → get t name ≡ Some c →
    (q : Result (Option IntervalValue) TimeFault) → puts (state_of t keys) name f (collected c) (or_bad_time (with_time f q))
    ≡ put_gives t keys name (result_ok (or_bad_time (with_time f q)))
put_timed t keys name f c e (Ok time) = ap Ok (put_is t keys name f.id (Some (record {
  id = f.id;
  geometry = f.geometry;
  properties = f.properties;
  time =
      time;
})) c e)
put_timed t keys name f c e (Err fault) = refl

pub insert_step : (t : SlotCollections) (keys : Keys) (name : Text) (f : FeatureValue) → step (state_of t keys) (edit.insert name f)
    ≡ insert_gives t keys name (found_in t name f.id) (timed_in t name f)
insert_step t keys name f = ap (λ o. ok_or o NoCollection >>= inserted (state_of t keys) name f) (get_collection t name) ∙ go (get t name) refl where
  at : (c : SlotCollection) → get t name ≡ Some c → (p : Option FeatureValue) → (absent p FeatureExists >>= λ new.
      puts (state_of t keys) name f (collected c) (timed c.time f)) ≡ insert_gives t keys name (found_slot p) (result_ok (timed c.time f))
  at c e (Some x) = refl
  at c e None = put_timed t keys name f c e (time_of c.time f.properties)

  go : (o : Option SlotCollection) → get t name ≡ o → (ok_or (option_map collected o) NoCollection >>= inserted (state_of t keys) name f)
      ≡ insert_gives t keys name (found_on o f.id) (option_and_then (λ (c : SlotCollection). result_ok (timed c.time f)) o)
  go None e = refl
  go (Some c) e = ap (λ p. absent p FeatureExists >>= λ new. puts (state_of t keys) name f (collected c) (timed c.time f)) (get_live c.slots f.id)
      ∙ at c e (option_flatten (get c.slots f.id))

pub replace_step : (t : SlotCollections) (keys : Keys) (name : Text) (f : FeatureValue) → step (state_of t keys) (edit.replace name f)
    ≡ replace_gives t keys name (found_in t name f.id) (timed_in t name f)
replace_step t keys name f = ap (λ o. ok_or o NoCollection >>= replaced (state_of t keys) name f) (get_collection t name) ∙ go (get t name) refl where
  at : (c : SlotCollection) → get t name ≡ Some c → (p : Option FeatureValue) → (ok_or p NoFeature >>= λ old.
      puts (state_of t keys) name f (collected c) (timed c.time f)) ≡ replace_gives t keys name (found_slot p) (result_ok (timed c.time f))
  at c e None = refl
  at c e (Some x) = put_timed t keys name f c e (time_of c.time f.properties)

  go : (o : Option SlotCollection) → get t name ≡ o → (ok_or (option_map collected o) NoCollection >>= replaced (state_of t keys) name f)
      ≡ replace_gives t keys name (found_on o f.id) (option_and_then (λ (c : SlotCollection). result_ok (timed c.time f)) o)
  go None e = refl
  go (Some c) e = ap (λ p. ok_or p NoFeature >>= λ old. puts (state_of t keys) name f (collected c) (timed c.time f)) (get_live c.slots f.id)
      ∙ at c e (option_flatten (get c.slots f.id))

pub delete_step : (t : SlotCollections) (keys : Keys) (name id : Text) → step (state_of t keys) (edit.delete name id)
    ≡ delete_gives t keys name id (found_in t name id)
delete_step t keys name id = ap (λ o. ok_or o NoCollection >>= deleted (state_of t keys) name id) (get_collection t name) ∙ go (get t name) refl where
  at : (c : SlotCollection) → get t name ≡ Some c → (p : Option FeatureValue) → (ok_or p NoFeature >>= λ old.
      Ok (with_features (state_of t keys) name (collected c) (remove (live c.slots) id))) ≡ delete_gives t keys name id (found_slot p)
  at c e None = refl
  at c e (Some x) = ap Ok (put_is t keys name id None c e)

  go : (o : Option SlotCollection) → get t name ≡ o → (ok_or (option_map collected o) NoCollection >>= deleted (state_of t keys) name id)
      ≡ delete_gives t keys name id (found_on o id)
  go None e = refl
  go (Some c) e = ap (λ p. ok_or p NoFeature >>= λ old. Ok (with_features (state_of t keys) name (collected c) (remove (live c.slots) id)))
      (get_live c.slots id) ∙ at c e (option_flatten (get c.slots id))

pub open_step : (t : SlotCollections) (keys : Keys) (name title : Text) (time : Option Text) → get t name ≡ None →
    step (state_of t keys) (edit.«open» name title time) ≡ Ok (state_of (insert t name (record { title = title; time = time; slots = empty })) keys)
open_step t keys name title time none =
    ap (λ o. absent o CollectionExists >>= λ new. Ok (opened (state_of t keys) name title time)) (get_collection t name ∙ ap (option_map collected) none)
    ∙ ap (λ m. Ok (record { collections = m; keys = keys })) (sym (collections_insert t name (record { title = title; time = time; slots = empty })
    ∙ ap (λ d. insert (collections_of t) name (record { title = title; time = time; features = d })) live_empty))

pub open_refused : (t : SlotCollections) (keys : Keys) (name title : Text) (time : Option Text) (c : SlotCollection) → get t name ≡ Some c →
    step (state_of t keys) (edit.«open» name title time) ≡ Err CollectionExists
open_refused t keys name title time c e = ap (λ o. absent o CollectionExists >>= λ new. Ok (opened (state_of t keys) name title time))
    (get_collection t name ∙ ap (option_map collected) e)

-- if the feature exists, its slot does
pub reset_is_put : (t : SlotCollections) (name id : Text) (slot : Option FeatureValue) → found_in t name id ≡ found.There → reset_in t name id slot
    ≡ put_in t name id slot
reset_is_put t name id slot h = go (get t name) h where
  at : (c : SlotCollection) (p : Option (Option FeatureValue)) → found_slot (option_flatten p) ≡ found.There →
      cond {A = SlotCollection} (is_some p) (put_slot c id slot) c ≡ put_slot c id slot
  at c None e = cc
  at c (Some x) e = refl

  go : (o : Option SlotCollection) → found_on o id ≡ found.There → changed_collection t name (λ c. reset_slot c id slot) o
      ≡ changed_collection t name (λ c. put_slot c id slot) o
  go None e = cc
  go (Some c) e = ap (insert t name) (at c (get c.slots id) e)

-- an edit that is done, and taken back
pub does : (t u v : SlotCollections) (e : EditValue) (undo : Undo) → ((keys : Keys) → step (state_of t keys) e ≡ Ok (state_of v keys)) → u ≡ v → undone undo v
    ≡ t → DoesOne t e (Done undo) u
does t u v e undo acts is back = (λ keys. acts keys ∙ ap (λ w. Ok (state_of w keys)) (sym is), ap (undone undo) is ∙ back)

-- edits so far, and one more
pub edited_more : (s t : State) (place : ℕ) (e : EditValue) (es : List EditValue) → step s e ≡ Ok t → edited place s (e ∷ es) ≡ edited (place + 1) t es
edited_more s t place e es is = ap (λ r. placed place r >>= λ u. edited (place + 1) u es) is

-- the time changes no id
id_stays : (f g : FeatureValue) (q : Result (Option IntervalValue) TimeFault) → result_ok (or_bad_time (with_time f q)) ≡ Some g → g.id ≡ f.id
id_stays f g (Ok time) e =
    let same : ◌≡◌ {A = FeatureValue} (record { id = f.id; geometry = f.geometry; properties = f.properties; time = time }) g = cc in
    ap (λ (x : FeatureValue). x.id) (sym same)
id_stays f g (Err fault) e = cc

pub same_id : (t : SlotCollections) (name : Text) (f g : FeatureValue) → timed_in t name f ≡ Some g → g.id ≡ f.id
same_id t name f g e = go (get t name) e where
  go : (o : Option SlotCollection) → option_and_then (λ (c : SlotCollection). result_ok (timed c.time f)) o ≡ Some g → g.id ≡ f.id
  go None is = cc
  go (Some c) is = id_stays f g (time_of c.time f.properties) is
