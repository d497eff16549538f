-- What is known of a collection after an edit of it, and of all.
use Rattle.std.proofs.Common.{◌≡◌, false, cond, Option, None, Some, IsSome, Result, Ok, refl, sym, ap, subst, ◌∙◌}
use Rattle.std.specs.Result.{OnOk}
use Rattle.std.specs.String.{string_cmp}
use Rattle.std.specs.Ordering.{is_eq, eq_by_cmp}
use Rattle.std.specs.Map.{KeepsOthers}
use Rattle.std.specs.FinMap.{get, insert, remove, get-insert}
use Rattle.std.specs.Cmp.Lexicographic.{nat_list_cmp_total}
use Rattle.std.proofs.lemmas.Cmp.{tied_itself}
use Rattle.std.proofs.lemmas.Option.{same_Some}
use Rattle.streetmap_moment.specs.IntervalValue.{IntervalValue}
use Rattle.streetmap_geojson.specs.FeatureValue.{FeatureValue, retimed}
use Rattle.streetmap_geojson.specs.Times.{time_of}
use Rattle.streetmap_batch.specs.Text.{Text, text_cmp}
use Rattle.streetmap_batch.specs.BatchValue as edit
use Rattle.streetmap_batch.specs.BatchValue.{EditValue}
use Rattle.streetmap_ledger.specs.State.{State, Collection, timed, step}
use Rattle.streetmap_index.specs.Index.{IsOutlined, IsOutlinedIf, AreKnown, KnowsAll, known_under, collection_of}
use Rattle.streetmap_index.specs.declared.outlined.OutlinedCollection.{OutlinedCollection}
use Rattle.streetmap_index.proofs.Known.{Known, at_text, known_after, all_known_after, keeps_all, nothing_known}
use Rattle.streetmap_index.proofs.Steps.{Puts, Cuts, did, other_stays}

module _ (s t : State) (e : EditValue) (name : Text) (is : name ≡ collection_of e) (done : step s e ≡ Ok t) where
  -- every other collection stays
  other_than : (other : Text) → is_eq (text_cmp other name) ≡ false → get t.collections other ≡ get s.collections other
  other_than other off = other_stays s t e (did s t e done) other (ap (λ (k : Text). is_eq (text_cmp other k)) (sym is) ∙ off)

  -- the collection of an edit is not known
  pub still_known : (es : Known) → AreKnown es s → known_under name es ≡ None → AreKnown es t
  still_known es known none = known_after es es s t name (keeps_all es name) known other_than (λ o there. nothing_known o (sym none ∙ there))

  -- the collection of an edit is known, and was followed
  pub followed : (es fs : Known) (o : OutlinedCollection) → KeepsOthers (eq_by_cmp string_cmp) (at_text name) es fs → known_under name fs ≡ Some o →
      AreKnown es s → IsOutlinedIf o (get t.collections (collection_of e)) → AreKnown fs t
  followed es fs o keeps there known now =
      known_after es fs s t name keeps known other_than
      (λ p found. subst (λ (x : OutlinedCollection). IsOutlinedIf x (get t.collections name)) (same_Some o p (sym there ∙ found))
      (subst (λ (k : Text). IsOutlinedIf o (get t.collections k)) (sym is) now))

  pub all_followed : (es fs : Known) (o : OutlinedCollection) → KeepsOthers (eq_by_cmp string_cmp) (at_text name) es fs → known_under name fs ≡ Some o →
      KnowsAll es s → KnowsAll fs t
  all_followed es fs o keeps there = all_known_after es fs s t name keeps other_than (subst IsSome (sym there) refl)

-- the collection that was changed
left : (s t : State) (name : Text) (c : Collection) → t.collections ≡ insert s.collections name c → get t.collections name ≡ Some c
left s t name c is = ap (λ m. get m name) is ∙ (get-insert nat_list_cmp_total s.collections name c name
    ∙ ap (λ r. cond (is_eq r) (Some c) (get s.collections name)) (tied_itself nat_list_cmp_total name))

follows_put : {E : Type 0} (o p : OutlinedCollection) (s t : State) (name : Text) (f : FeatureValue) (r : Result (Unit {0}) E) → Puts s t name f
    → ((c : Collection) (g : FeatureValue) → IsOutlined o c → timed c.time f ≡ Ok g → OnOk r (IsOutlined p (record c { features = insert c.features g.id g })))
    → IsOutlinedIf o (get s.collections name) → OnOk r (IsOutlinedIf p (get t.collections name))
follows_put o p s t name f r d says known =
    let after = record d.found { features = insert d.found.features d.kept.id d.kept } in
    subst (λ x. OnOk r (IsOutlinedIf p x)) (sym (left s t name after d.is)) (says d.found d.kept (subst (IsOutlinedIf o) d.there known) d.reported)

follows_cut : (o p : OutlinedCollection) (s t : State) (name id : Text) → Cuts s t name id
    → ((c : Collection) → IsOutlined o c → IsOutlined p (record c { features = remove c.features id }))
    → IsOutlinedIf o (get s.collections name) → IsOutlinedIf p (get t.collections name)
follows_cut o p s t name id d says known =
    let after = record d.found { features = remove d.found.features id } in
    subst (IsOutlinedIf p) (sym (left s t name after d.is)) (says d.found (subst (IsOutlinedIf o) d.there known))

module _ (o p : OutlinedCollection) (s t : State) (name : Text) (e : EditValue) where
  pub follows_insert : {E : Type 0} (f : FeatureValue) (r : Result (Unit {0}) E) → e ≡ edit.insert name f
      → ((c : Collection) (g : FeatureValue) → IsOutlined o c → timed c.time f ≡ Ok g → OnOk r
      (IsOutlined p (record c { features = insert c.features g.id g })))
      → step s e ≡ Ok t → IsOutlinedIf o (get s.collections (collection_of e)) → OnOk r (IsOutlinedIf p (get t.collections (collection_of e)))
  follows_insert f r is says =
      subst (λ x. step s x ≡ Ok t → IsOutlinedIf o (get s.collections (collection_of x)) → OnOk r (IsOutlinedIf p (get t.collections (collection_of x))))
      (sym is)
      (λ done known. follows_put o p s t name f r (did s t (edit.insert name f) done) says known)

  pub follows_replace : {E : Type 0} (f : FeatureValue) (r : Result (Unit {0}) E) → e ≡ edit.replace name f
      → ((c : Collection) (g : FeatureValue) → IsOutlined o c → timed c.time f ≡ Ok g → OnOk r
      (IsOutlined p (record c { features = insert c.features g.id g })))
      → step s e ≡ Ok t → IsOutlinedIf o (get s.collections (collection_of e)) → OnOk r (IsOutlinedIf p (get t.collections (collection_of e)))
  follows_replace f r is says =
      subst (λ x. step s x ≡ Ok t → IsOutlinedIf o (get s.collections (collection_of x)) → OnOk r (IsOutlinedIf p (get t.collections (collection_of x))))
      (sym is)
      (λ done known. follows_put o p s t name f r (did s t (edit.replace name f) done) says known)

  pub follows_delete : (id : Text) → e ≡ edit.delete name id
      → ((c : Collection) → IsOutlined o c → IsOutlined p (record c { features = remove c.features id }))
      → step s e ≡ Ok t → IsOutlinedIf o (get s.collections (collection_of e)) → IsOutlinedIf p (get t.collections (collection_of e))
  follows_delete id is says =
      subst (λ x. step s x ≡ Ok t → IsOutlinedIf o (get s.collections (collection_of x)) → IsOutlinedIf p (get t.collections (collection_of x))) (sym is)
      (λ done known. follows_cut o p s t name id (did s t (edit.delete name id) done) says known)

-- the feature with the time that its collection's property gives
pub reported_time : (property : Option Text) (f g : FeatureValue) (t : Option IntervalValue) → time_of property f.properties ≡ Ok t → timed property f ≡ Ok g →
    retimed f t ≡ g
reported_time property f g t reported h = let e = rw reported at h in cc
