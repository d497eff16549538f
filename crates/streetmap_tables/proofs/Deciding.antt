-- What decides on an edit.
use Rattle.std.proofs.Common.{◌≡◌, true, false, Option, Some, None, Ok, Err, is_some, ok_or, refl, sym, ap, ◌∙◌}
use Rattle.std.specs.Prelude.{option_and_then}
use Rattle.std.specs.FinMap.{get, remove}
use Rattle.streetmap_geojson.specs.FeatureValue.{FeatureValue}
use Rattle.streetmap_batch.specs.Text.{Text}
use Rattle.streetmap_batch.specs.BatchValue as edit
use Rattle.std.proofs.Common.{Bool, subst, cond, IsUtf8, IfSome, option_map}
use Rattle.std.specs.FinMap.{FinMap, insert, get-insert, get-remove, same_map}
use Rattle.std.specs.Cmp.Lexicographic.{nat_list_cmp_total}
use Rattle.streetmap_batch.specs.Text.{text_cmp}
use Rattle.streetmap_rows.specs.Holds.{same_text}
use Rattle.streetmap_rows.proofs.TextKeys.{one_text, text_self}
use Rattle.streetmap_ledger.specs.State.{State, Collection, Features, step, opened, deleted, timed, with_feature, with_features, absent, ◌>>=◌}
use Rattle.streetmap_ledger.specs.declared.reply.Refusal.{Refusal}
use Rattle.streetmap_ledger.specs.declared.reply.Refusal.TheVariants.{NoCollection, CollectionExists, FeatureExists, NoFeature}
use Rattle.streetmap_rows.specs.Rows.{feature_at}
use Rattle.streetmap_rows.specs.Calls.{CutsFeature, OpensCollection}
use Rattle.sqlite.specs.State.{State as Seen}
use Rattle.streetmap_rows.specs.Representations.{StandsFor}
use Rattle.streetmap_tables.specs.EditEffects.{Answered}
use Rattle.streetmap_tables.specs.StoredFeatures.{WasPut}

pub no_collection : (s : State) (name id : Text) → false ≡ is_some (get s.collections name) → step s (edit.delete name id) ≡ Err NoCollection
no_collection s name id h = go (get s.collections name) h
  where
    go : (o : Option Collection) → false ≡ is_some o → (ok_or o NoCollection >>= deleted s name id) ≡ Err NoCollection
    go None e = refl
    go (Some c) e = absurd (cc)

pub no_feature : (s : State) (name id : Text) → true ≡ is_some (get s.collections name) → false ≡ is_some (feature_at s (name, id)) →
    step s (edit.delete name id) ≡ Err NoFeature
no_feature s name id h k = go (get s.collections name) h k
  where
    inner : (c : Collection) (o : Option FeatureValue) → false ≡ is_some o → (ok_or o NoFeature >>= λ old. Ok (with_features s name c (remove c.features id)))
        ≡ Err NoFeature
    inner c None e = refl
    inner c (Some f) e = absurd (cc)

    go : (o : Option Collection) → true ≡ is_some o → false ≡ is_some (option_and_then (λ (c : Collection). get c.features id) o) →
        (ok_or o NoCollection >>= deleted s name id) ≡ Err NoFeature
    go None e f = absurd (cc)
    go (Some c) e f = inner c (get c.features id) f

pub may_delete : (s : State) (name id : Text) → true ≡ is_some (get s.collections name) → true ≡ is_some (feature_at s (name, id)) → (t : State)
    × (step s (edit.delete name id) ≡ Ok t) × CutsFeature (name, id) s t
may_delete s name id h k = go (get s.collections name) refl h k
  where
    inner : (c : Collection) → get s.collections name ≡ Some c → (o : Option FeatureValue) → get c.features id ≡ o → true ≡ is_some o
        → (t : State) × ((ok_or o NoFeature >>= λ old. Ok (with_features s name c (remove c.features id))) ≡ Ok t) × CutsFeature (name, id) s t
    inner c at None is e = absurd (cc)
    inner c at (Some f) is e = (with_features s name c (remove c.features id), refl, record { collection = c; there = at; feature = f; found = is; is = refl })

    go : (o : Option Collection) → get s.collections name ≡ o → true ≡ is_some o → true ≡ is_some (option_and_then (λ (c : Collection). get c.features id) o)
        → (t : State) × ((ok_or o NoCollection >>= deleted s name id) ≡ Ok t) × CutsFeature (name, id) s t
    go None at e f = absurd (cc)
    go (Some c) at e f = inner c at (get c.features id) refl f

-- ---- opening

pub is_open : (s : State) (name title : Text) (time : Option Text) → true ≡ is_some (get s.collections name) → step s (edit.«open» name title time)
    ≡ Err CollectionExists
is_open s name title time h = go (get s.collections name) h
  where
    go : (o : Option Collection) → true ≡ is_some o → (absent o CollectionExists >>= λ new. Ok (opened s name title time)) ≡ Err CollectionExists
    go None e = absurd (cc)
    go (Some c) e = refl

none_there : {A : Type 0} (o : Option A) → false ≡ is_some o → o ≡ None
none_there None e = refl
none_there (Some x) e = absurd (cc)

pub may_open : (s : State) (name title : Text) (time : Option Text) → false ≡ is_some (get s.collections name) → IsUtf8 name → IsUtf8 title → IfSome time IsUtf8
    → (step s (edit.«open» name title time) ≡ Ok (opened s name title time)) × OpensCollection name title time s (opened s name title time)
may_open s name title time h id words property =
    let absent = none_there (get s.collections name) h in
    (rw absent refl, record { absent = absent; id = id; words = words; property = property; is = refl })

-- ---- the collection of a feature

pub is_there : (o : Option Collection) (t : Option Text) → Some t ≡ option_map (λ (c : Collection). c.time) o → (c : Collection) × (o ≡ Some c) × (c.time ≡ t)
is_there None t e = absurd (cc)
is_there (Some c) t e = let time : c.time ≡ t = cc in (c, refl, time)

pub not_there : (o : Option Collection) → None ≡ option_map (λ (c : Collection). c.time) o → o ≡ None
not_there None e = refl
not_there (Some c) e = absurd (cc)

module _ (s : State) (name : Text) (f : FeatureValue) where
  pub no_insert : get s.collections name ≡ None → step s (edit.insert name f) ≡ Err NoCollection
  no_insert none = rw none refl

  pub no_replace : get s.collections name ≡ None → step s (edit.replace name f) ≡ Err NoCollection
  no_replace none = rw none refl

  module _ (c : Collection) (collected : get s.collections name ≡ Some c) where
    abbrev held : Option FeatureValue
    held = feature_at s (name, f.id)

    held_is : held ≡ get c.features f.id
    held_is = rw collected refl

    pub free_id : false ≡ is_some held → get c.features f.id ≡ None
    free_id h = sym held_is ∙ none_there held h

    some_there : (o : Option FeatureValue) → true ≡ is_some o → (g : FeatureValue) × (o ≡ Some g)
    some_there None e = absurd (cc)
    some_there (Some g) e = (g, refl)

    pub is_taken : true ≡ is_some held → step s (edit.insert name f) ≡ Err FeatureExists
    is_taken h = let it = some_there held h in let at = sym held_is ∙ it.1 in rw (collected, at) refl

    pub is_missing : false ≡ is_some held → step s (edit.replace name f) ≡ Err NoFeature
    is_missing h = let none = free_id h in rw (collected, none) refl

    pub is_found : true ≡ is_some held → (g : FeatureValue) × (get c.features f.id ≡ Some g)
    is_found h = let it = some_there held h in (it.0, sym held_is ∙ it.1)

    -- what the INSERT of a feature with its time answers
    pub was_inserted : (new : Seen) → get c.features f.id ≡ None → (o : Option Refusal) → WasPut s name c f new o → Answered s (edit.insert name f) new o
    was_inserted new none None h = (with_feature s name c h.0, rw (collected, none, h.1) refl, h.2)
    was_inserted new none (Some why) h = rw (collected, none, h) refl

-- ---- a replacement is a deletion and an insertion

insert_again : {V : Type 0} (m : FinMap text_cmp V) (k : Text) (a b : V) → insert (insert m k a) k b ≡ insert m k b
insert_again {V} m k a b = same_map nat_list_cmp_total one_text _ _ (λ q.
    get-insert nat_list_cmp_total (insert m k a) k b q ∙ ap (cond (same_text q k) (Some b)) (get-insert nat_list_cmp_total m k a q)
    ∙ over (same_text q k) (get m q) ∙ sym (get-insert nat_list_cmp_total m k b q))
  where
    over : (t : Bool) (o : Option V) → cond t (Some b) (cond t (Some a) o) ≡ cond t (Some b) o
    over true o = refl
    over false o = refl

insert_cut : {V : Type 0} (m : FinMap text_cmp V) (k : Text) (b : V) → insert (remove m k) k b ≡ insert m k b
insert_cut {V} m k b = same_map nat_list_cmp_total one_text _ _ (λ q.
    get-insert nat_list_cmp_total (remove m k) k b q ∙ ap (cond (same_text q k) (Some b)) (get-remove nat_list_cmp_total m k q) ∙ over (same_text q k) (get m q)
    ∙ sym (get-insert nat_list_cmp_total m k b q))
  where
    over : (t : Bool) (o : Option V) → cond t (Some b) (cond t None o) ≡ cond t (Some b) o
    over true o = refl
    over false o = refl

module _ (s : State) (name : Text) (f : FeatureValue) (c : Collection) (collected : get s.collections name ≡ Some c) where
  -- the collection and the state without the feature
  abbrev pub without : Collection
  without = record c { features = remove c.features f.id }

  abbrev pub between : State
  between = with_features s name c (remove c.features f.id)

  pub between_has : get between.collections name ≡ Some without
  between_has = get-insert nat_list_cmp_total s.collections name without name ∙ ap (λ t. cond t (Some without) (get s.collections name)) (text_self name)

  pub without_lacks : get without.features f.id ≡ None
  without_lacks = get-remove nat_list_cmp_total c.features f.id f.id ∙ ap (λ t. cond t None (get c.features f.id)) (text_self f.id)

  pub cuts : (g : FeatureValue) → get c.features f.id ≡ Some g → CutsFeature (name, f.id) s between
  cuts g found = record { collection = c; there = collected; feature = g; found = found; is = refl }

  put_back : (g : FeatureValue) → g.id ≡ f.id → with_feature between name without g ≡ with_feature s name c g
  put_back g named =
      let features : insert (remove c.features f.id) g.id g ≡ insert c.features g.id g = ap (λ id. insert (remove c.features id) g.id g) (sym named)
      ∙ insert_cut c.features g.id g in
      λ i. record s {
        collections = (ap (λ (m : Features). insert (insert s.collections name without) name (record c { features = m })) features
            ∙ insert_again s.collections name without (record c { features = insert c.features g.id g })) i;
      }

  -- what the INSERT of the replacement answers
  pub was_replaced : (new : Seen) (old : FeatureValue) → get c.features f.id ≡ Some old → ((g : FeatureValue) → timed c.time f ≡ Ok g → g.id ≡ f.id) →
      (o : Option Refusal) → WasPut between name without f new o → Answered s (edit.replace name f) new o
  was_replaced new old found named None h = (
    with_feature s name c h.0,
    rw (collected, found, h.1) refl,
    subst (λ t. StandsFor t new.now) (put_back h.0 (named h.0 h.1)) h.2,
  )
  was_replaced new old found named (Some why) h = rw (collected, found, h) refl
