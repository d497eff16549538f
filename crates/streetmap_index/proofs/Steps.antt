-- What an edit that was done did to its collection, and to no other.
use Rattle.std.proofs.Common.{◌≡◌, false, cond, Option, None, Some, Result, Ok, Err, refl, sym, ap, ◌∙◌}
use Rattle.std.specs.Prelude.{ok_or}
use Rattle.std.specs.Ordering.{is_eq, eq_by_cmp}
use Rattle.std.specs.Cmp.Lexicographic.{nat_list_cmp_total}
use Rattle.std.specs.FinMap.{get, insert, remove, empty, get-insert}
use Rattle.streetmap_geojson.specs.FeatureValue.{FeatureValue}
use Rattle.streetmap_batch.specs.Text.{Text, text_cmp}
use Rattle.streetmap_batch.specs.BatchValue as edit
use Rattle.streetmap_batch.specs.BatchValue.{EditValue}
use Rattle.streetmap_ledger.specs.State.{State, Collection, timed, step, absent, inserted, replaced, deleted, with_feature, with_features, ◌>>=◌}
use Rattle.streetmap_ledger.specs.declared.reply.Refusal.{Refusal}
use Rattle.streetmap_ledger.specs.declared.reply.Refusal.TheVariants.{NoCollection, CollectionExists, FeatureExists, NoFeature}
use Rattle.streetmap_index.specs.Index.{collection_of}

-- a collection that did not exist was opened
pub record Opens (s t : State) (name : Text) : Type 0 where
  pub left : Collection
  pub there : get s.collections name ≡ None
  pub is : t.collections ≡ insert s.collections name left

-- a feature was put into its collection, with the time that the collection's property gives
pub record Puts (s t : State) (name : Text) (f : FeatureValue) : Type 0 where
  pub found : Collection
  pub kept : FeatureValue
  pub there : get s.collections name ≡ Some found
  pub reported : timed found.time f ≡ Ok kept
  pub is : t.collections ≡ insert s.collections name (record found { features = insert found.features kept.id kept })

-- a feature was taken out
pub record Cuts (s t : State) (name id : Text) : Type 0 where
  pub found : Collection
  pub there : get s.collections name ≡ Some found
  pub is : t.collections ≡ insert s.collections name (record found { features = remove found.features id })

abbrev pub Did : State → State → EditValue → Type 0
Did s t (edit.«open» name title time) = Opens s t name
Did s t (edit.insert name f) = Puts s t name f
Did s t (edit.replace name f) = Puts s t name f
Did s t (edit.delete name id) = Cuts s t name id

put_by : (s t : State) (name : Text) (f : FeatureValue) (b : Collection) (r : Result FeatureValue Refusal) → get s.collections name ≡ Some b → timed b.time f
    ≡ r → (r >>= λ g. Ok (with_feature s name b g)) ≡ Ok t → Puts s t name f
put_by s t name f b (Err why) there is done = absurd cc
put_by s t name f b (Ok g) there is done =
    let after : with_feature s name b g ≡ t = cc in
    record { found = b; kept = g; there = there; reported = is; is = ap (λ (x : State). x.collections) (sym after) }

insert_by : (s t : State) (name : Text) (f : FeatureValue) (b : Collection) (x : Option FeatureValue) → get s.collections name ≡ Some b →
    (absent x FeatureExists >>= λ new. timed b.time f >>= λ g. Ok (with_feature s name b g)) ≡ Ok t → Puts s t name f
insert_by s t name f b (Some old) there done = absurd cc
insert_by s t name f b None there done = put_by s t name f b (timed b.time f) there refl done

replace_by : (s t : State) (name : Text) (f : FeatureValue) (b : Collection) (x : Option FeatureValue) → get s.collections name ≡ Some b →
    (ok_or x NoFeature >>= λ old. timed b.time f >>= λ g. Ok (with_feature s name b g)) ≡ Ok t → Puts s t name f
replace_by s t name f b None there done = absurd cc
replace_by s t name f b (Some old) there done = put_by s t name f b (timed b.time f) there refl done

delete_by : (s t : State) (name id : Text) (b : Collection) (x : Option FeatureValue) → get s.collections name ≡ Some b →
    (ok_or x NoFeature >>= λ old. Ok (with_features s name b (remove b.features id))) ≡ Ok t → Cuts s t name id
delete_by s t name id b None there done = absurd cc
delete_by s t name id b (Some old) there done =
    let after : with_features s name b (remove b.features id) ≡ t = cc in
    record { found = b; there = there; is = ap (λ (x : State). x.collections) (sym after) }

open_by : (s t : State) (name title : Text) (time : Option Text) (x : Option Collection) → get s.collections name ≡ x →
    (absent x CollectionExists >>= λ new. Ok (record s { collections = insert s.collections name (record { title = title; time = time; features = empty }) }))
    ≡ Ok t → Opens s t name
open_by s t name title time (Some c) there done = absurd cc
open_by s t name title time None there done =
    let c : Collection = record { title = title; time = time; features = empty } in
    let after : record s { collections = insert s.collections name c } ≡ t = cc in
    record { left = c; there = there; is = ap (λ (x : State). x.collections) (sym after) }

insert_on : (s t : State) (name : Text) (f : FeatureValue) (x : Option Collection) → get s.collections name ≡ x → (ok_or x NoCollection >>= inserted s name f)
    ≡ Ok t → Puts s t name f
insert_on s t name f None there done = absurd cc
insert_on s t name f (Some b) there done = insert_by s t name f b (get b.features f.id) there done

replace_on : (s t : State) (name : Text) (f : FeatureValue) (x : Option Collection) → get s.collections name ≡ x → (ok_or x NoCollection >>= replaced s name f)
    ≡ Ok t → Puts s t name f
replace_on s t name f None there done = absurd cc
replace_on s t name f (Some b) there done = replace_by s t name f b (get b.features f.id) there done

delete_on : (s t : State) (name id : Text) (x : Option Collection) → get s.collections name ≡ x → (ok_or x NoCollection >>= deleted s name id) ≡ Ok t →
    Cuts s t name id
delete_on s t name id None there done = absurd cc
delete_on s t name id (Some b) there done = delete_by s t name id b (get b.features id) there done

pub did : (s t : State) (e : EditValue) → step s e ≡ Ok t → Did s t e
did s t (edit.«open» name title time) done = open_by s t name title time (get s.collections name) refl done
did s t (edit.insert name f) done = insert_on s t name f (get s.collections name) refl done
did s t (edit.replace name f) done = replace_on s t name f (get s.collections name) refl done
did s t (edit.delete name id) done = delete_on s t name id (get s.collections name) refl done

-- ---- collections
module _ (s t : State) (name : Text) (c : Collection) (is : t.collections ≡ insert s.collections name c) where
  at : (other : Text) → get t.collections other ≡ cond (eq_by_cmp text_cmp other name) (Some c) (get s.collections other)
  at other = ap (λ m. get m other) is ∙ get-insert nat_list_cmp_total s.collections name c other

  pub elsewhere : (other : Text) → is_eq (text_cmp other name) ≡ false → get t.collections other ≡ get s.collections other
  elsewhere other off = at other ∙ ap (λ b. cond b (Some c) (get s.collections other)) off

pub other_stays : (s t : State) (e : EditValue) → Did s t e → (other : Text) → is_eq (text_cmp other (collection_of e)) ≡ false → get t.collections other
    ≡ get s.collections other
other_stays s t (edit.«open» name title time) d = elsewhere s t name d.left d.is
other_stays s t (edit.insert name f) d = elsewhere s t name (record d.found { features = insert d.found.features d.kept.id d.kept }) d.is
other_stays s t (edit.replace name f) d = elsewhere s t name (record d.found { features = insert d.found.features d.kept.id d.kept }) d.is
other_stays s t (edit.delete name id) d = elsewhere s t name (record d.found { features = remove d.found.features id }) d.is
