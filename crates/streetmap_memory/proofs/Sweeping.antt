-- Empty slots are removed: the collections represent the same.
use Rattle.std.proofs.Common.{◌≡◌, List, [], ◌∷◌, ◌++◌, Bool, true, false, cond, not, Option, None, Some, refl, sym, ap, ◌∙◌}
use Rattle.std.specs.Option.{option_map, option_flatten, is_some}
use Rattle.std.specs.Ordering.{is_eq}
use Rattle.std.specs.declared.cmp.Ordering.{Ordering}
use Rattle.std.specs.declared.cmp.Ordering.TheVariants.{Less, Equal, Greater}
use Rattle.std.specs.Cmp.Lexicographic.{nat_list_cmp_total}
use Rattle.std.specs.FinMap.{get, insert, remove, get-remove, same_map}
use Rattle.streetmap_geojson.specs.FeatureValue.{FeatureValue}
use Rattle.streetmap_batch.specs.Text.{Text, text_cmp}
use Rattle.streetmap_memory.specs.Slots.{Slots, SlotCollection, SlotCollections, live, collected, collections_of, cut_slot, is_emptied, swept_slot}
use Rattle.streetmap_memory.specs.Slots.{changed_collection, swept_in}
use Rattle.streetmap_memory.specs.Undo.{swept_by, all_swept}
use Rattle.streetmap_memory.specs.declared.undo.Undo.{Undo}
use Rattle.streetmap_memory.specs.declared.undo.Undo.TheVariants.{Open, Add, Set}
use Rattle.streetmap_ledger.proofs.TextMaps.{one_text}
use Rattle.streetmap_memory.proofs.Finite.{insert_same}
use Rattle.streetmap_memory.proofs.SlotLemmas.{get_live, get_collection, collections_insert}

-- an empty slot holds no feature
live_swept : (slots : Slots) (id : Text) → get slots id ≡ Some None → live (remove slots id) ≡ live slots
live_swept slots id e = same_map nat_list_cmp_total one_text _ _ (λ q.
    get_live (remove slots id) q ∙ (ap option_flatten (get-remove nat_list_cmp_total slots id q) ∙ (at q (text_cmp q id) refl ∙ sym (get_live slots q)))) where
      at : (q : Text) (r : Ordering) → text_cmp q id ≡ r → option_flatten (cond (is_eq r) None (get slots q)) ≡ option_flatten (get slots q)
      at q Less is = refl
      at q Greater is = refl
      at q Equal is = sym (ap option_flatten (ap (get slots) (one_text q id is) ∙ e))

pub collected_swept : (c : SlotCollection) (id : Text) → collected (swept_slot c id) ≡ collected c
collected_swept c id = go (get c.slots id) refl where
  go : (o : Option (Option FeatureValue)) → get c.slots id ≡ o → collected (cond (is_emptied o) (cut_slot c id) c) ≡ collected c
  go None e = refl
  go (Some (Some f)) e = refl
  go (Some None) e = ap (λ m. record { title = c.title; time = c.time; features = m }) (live_swept c.slots id e)

pub collections_swept : (t : SlotCollections) (name id : Text) → collections_of (swept_in t name id) ≡ collections_of t
collections_swept t name id = go (get t name) refl where
  go : (o : Option SlotCollection) → get t name ≡ o → collections_of (changed_collection t name (λ c. swept_slot c id) o) ≡ collections_of t
  go None e = refl
  go (Some c) e = collections_insert t name (swept_slot c id) ∙ (ap (insert (collections_of t) name) (collected_swept c id)
      ∙ insert_same (collections_of t) name (collected c) (get_collection t name ∙ ap (option_map collected) e))

swept_by_same : (u : Undo) (t : SlotCollections) → collections_of (swept_by u t) ≡ collections_of t
swept_by_same (Open name) t = refl
swept_by_same (Add name id) t = collections_swept t name.now id.now
swept_by_same (Set name id slot) t = collections_swept t name.now id.now

pub all_swept_same : (us : List Undo) (t : SlotCollections) → collections_of (all_swept us t) ≡ collections_of t
all_swept_same [] t = refl
all_swept_same (u ∷ us) t = swept_by_same u (all_swept us t) ∙ all_swept_same us t

pub all_swept_last : (us : List Undo) (u : Undo) (t : SlotCollections) → all_swept (us ++ u ∷ []) t ≡ all_swept us (swept_by u t)
all_swept_last [] u t = refl
all_swept_last (v ∷ us) u t = ap (swept_by v) (all_swept_last us u t)

pub emptied_is : (r : Bool) (o : Option FeatureValue) → not r ≡ is_some o → r ≡ is_emptied (Some o)
emptied_is true None e = refl
emptied_is true (Some f) e = cc
emptied_is false None e = cc
emptied_is false (Some f) e = refl
