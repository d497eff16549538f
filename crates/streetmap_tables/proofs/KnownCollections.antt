-- What is known of a collection, and the edits that leave it so.
use Rattle.std.proofs.Common.{◌≡◌, ℕ, ◌+◌, List, [], ◌∷◌, Some, None, Ok, Err, Option, Result, OnOk, cond, ok_or, inl, inr, refl, sym, ap, subst, ◌∙◌}
use Rattle.std.proofs.Common.{string_bytes, option_map}
use Rattle.std.proofs.lemmas.Bool.{cases_Bool}
use Rattle.std.specs.FinMap.{get, remove, insert, get-insert}
use Rattle.std.specs.Cmp.Lexicographic.{nat_list_cmp_total}
use Rattle.streetmap_geojson.specs.FeatureValue.{FeatureValue}
use Rattle.streetmap_batch.specs.Text.{Text}
use Rattle.streetmap_batch.specs.BatchValue as edit
use Rattle.streetmap_batch.specs.BatchValue.{EditValue}
use Rattle.streetmap_ledger.specs.State.{State, Collection, step, opened, timed, with_features, absent, inserted, replaced, deleted, ◌>>=◌}
use Rattle.streetmap_ledger.specs.Batches.{edited, placed}
use Rattle.streetmap_ledger.specs.declared.reply.Refusal.{Refusal}
use Rattle.streetmap_ledger.specs.declared.reply.Refusal.TheVariants.{NoCollection, CollectionExists, FeatureExists, NoFeature}
use Rattle.streetmap_rows.specs.Holds.{same_text}
use Rattle.streetmap_rows.proofs.TextKeys.{text_is}
use Rattle.streetmap_tables.specs.Insertions.{HasCollection, IsKnown}
use Rattle.streetmap_tables.specs.declared.insertions.KnownCollection.{KnownCollection}

module _ (name : Text) (property : Option Text) (s : State) (c : Collection) (there : get s.collections name ≡ Some c) (time : c.time ≡ property) where
  -- another collection in the place of one with the same time property
  put_over : (other : Text) (d e : Collection) → get s.collections other ≡ Some d → e.time ≡ d.time →
      HasCollection name property (record s { collections = insert s.collections other e })
  put_over other d e at same = elim (cases_Bool (same_text name other)) [
    | inl alike ↦
        let one = text_is name other alike in
        let it : d ≡ c = let h = sym at ∙ ap (get s.collections) (sym one) ∙ there in cc in (
          e,
          get-insert nat_list_cmp_total s.collections other e name ∙ ap (λ t. cond t (Some e) (get s.collections name)) alike,
          same
              ∙ ap (λ (x : Collection). x.time) it ∙ time,
        )
    | inr apart ↦ (c, get-insert nat_list_cmp_total s.collections other e name ∙ ap (λ t. cond t (Some e) (get s.collections name)) apart ∙ there, time)
  ]

  -- a collection that did not exist
  put_beside : (other : Text) (e : Collection) → get s.collections other ≡ None → HasCollection name property
      (record s { collections = insert s.collections other e })
  put_beside other e none = elim (cases_Bool (same_text name other)) [
    | inl alike ↦ absurd (let h = sym none ∙ ap (get s.collections) (sym (text_is name other alike)) ∙ there in cc)
    | inr apart ↦ (c, get-insert nat_list_cmp_total s.collections other e name ∙ ap (λ t. cond t (Some e) (get s.collections name)) apart ∙ there, time)
  ]

  -- an edit leaves a collection, with its time property
  step_keeps : (e : EditValue) (t : State) → step s e ≡ Ok t → HasCollection name property t
  step_keeps (edit.«open» other title property') t made = go (get s.collections other) refl made
    where
      go : (o : Option Collection) → get s.collections other ≡ o → (absent o CollectionExists >>= λ new. Ok (opened s other title property')) ≡ Ok t →
          HasCollection name property t
      go None at e = let same : opened s other title property' ≡ t = cc in subst (HasCollection name property) same (put_beside other _ at)
      go (Some d) at e = absurd (cc)
  step_keeps (edit.insert other f) t made = go (get s.collections other) refl made
    where
      timed_in : (d : Collection) → get s.collections other ≡ Some d → (r : Result FeatureValue Refusal) →
          (r >>= λ g. Ok (with_features s other d (insert d.features g.id g))) ≡ Ok t → HasCollection name property t
      timed_in d at (Ok g) e = let same : with_features s other d (insert d.features g.id g) ≡ t = cc in
          subst (HasCollection name property) same (put_over other d _ at refl)
      timed_in d at (Err why) e = absurd (cc)

      inside : (d : Collection) → get s.collections other ≡ Some d → (o : Option FeatureValue) →
          (absent o FeatureExists >>= λ new. timed d.time f >>= λ g. Ok (with_features s other d (insert d.features g.id g))) ≡ Ok t →
          HasCollection name property t
      inside d at None e = timed_in d at (timed d.time f) e
      inside d at (Some x) e = absurd (cc)

      go : (o : Option Collection) → get s.collections other ≡ o → (ok_or o NoCollection >>= inserted s other f) ≡ Ok t → HasCollection name property t
      go None at e = absurd (cc)
      go (Some d) at e = inside d at (get d.features f.id) e
  step_keeps (edit.replace other f) t made = go (get s.collections other) refl made
    where
      timed_in : (d : Collection) → get s.collections other ≡ Some d → (r : Result FeatureValue Refusal) →
          (r >>= λ g. Ok (with_features s other d (insert d.features g.id g))) ≡ Ok t → HasCollection name property t
      timed_in d at (Ok g) e = let same : with_features s other d (insert d.features g.id g) ≡ t = cc in
          subst (HasCollection name property) same (put_over other d _ at refl)
      timed_in d at (Err why) e = absurd (cc)

      inside : (d : Collection) → get s.collections other ≡ Some d → (o : Option FeatureValue) →
          (ok_or o NoFeature >>= λ old. timed d.time f >>= λ g. Ok (with_features s other d (insert d.features g.id g))) ≡ Ok t → HasCollection name property t
      inside d at None e = absurd (cc)
      inside d at (Some x) e = timed_in d at (timed d.time f) e

      go : (o : Option Collection) → get s.collections other ≡ o → (ok_or o NoCollection >>= replaced s other f) ≡ Ok t → HasCollection name property t
      go None at e = absurd (cc)
      go (Some d) at e = inside d at (get d.features f.id) e
  step_keeps (edit.delete other id) t made = go (get s.collections other) refl made
    where
      inside : (d : Collection) → get s.collections other ≡ Some d → (o : Option FeatureValue) →
          (ok_or o NoFeature >>= λ old. Ok (with_features s other d (remove d.features id))) ≡ Ok t → HasCollection name property t
      inside d at None e = absurd (cc)
      inside d at (Some x) e = let same : with_features s other d (remove d.features id) ≡ t = cc in
          subst (HasCollection name property) same (put_over other d _ at refl)

      go : (o : Option Collection) → get s.collections other ≡ o → (ok_or o NoCollection >>= deleted s other id) ≡ Ok t → HasCollection name property t
      go None at e = absurd (cc)
      go (Some d) at e = inside d at (get d.features id) e

-- edits leave a collection, with its time property
edited_keeps : (name : Text) (property : Option Text) (es : List EditValue) (place : ℕ) (s t : State) → edited place s es ≡ Ok t → HasCollection name property s
    → HasCollection name property t
edited_keeps name property [] place s t made has = let same : s ≡ t = cc in subst (HasCollection name property) same has
edited_keeps name property (e ∷ es) place s t made has = go (step s e) refl made (λ u more kept. edited_keeps name property es (place + 1) u t more kept)
  where
    go : (r : Result State Refusal) → step s e ≡ r → (placed place r >>= λ u. edited (place + 1) u es) ≡ Ok t →
        ((u : State) → edited (place + 1) u es ≡ Ok t → HasCollection name property u → HasCollection name property t) → HasCollection name property t
    go (Ok u) is more rest = rest u more (step_keeps name property s has.0 has.1 has.2 e u is)
    go (Err why) is more rest = absurd (cc)

-- whatever a call answers
pub on_any : {A E : Type 0} (r : Result A E) (P : Type 0) → P → OnOk r P
on_any (Ok a) P h = h
on_any (Err e) P h = tt

-- what is known stays true after edits
pub still_known : (known : Option KnownCollection) (es : List EditValue) (place : ℕ) (s t : State) → edited place s es ≡ Ok t → IsKnown known s →
    IsKnown known t
still_known None es place s t made is = tt
still_known (Some it) es place s t made is = edited_keeps (string_bytes it.id) (option_map string_bytes it.property) es place s t made is
