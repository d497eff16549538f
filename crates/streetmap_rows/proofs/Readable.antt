-- What is written of a state can be read again.
use Rattle.std.proofs.Common.{◌≡◌, inl, inr, Option, Some, None, IfSome, refl, sym, ap, subst, ◌∙◌, IsUtf8}
use Rattle.std.specs.Prelude.{option_and_then}
use Rattle.std.specs.FinMap.{get, insert, remove, empty, get-empty}
use Rattle.streetmap_geojson.specs.FeatureValue.{FeatureValue}
use Rattle.streetmap_geojson.specs.FeatureInvariant.{IsFeature}
use Rattle.streetmap_batch.specs.Text.{Text, text_cmp}
use Rattle.streetmap_rows.specs.Holds.{KeyPair}
use Rattle.streetmap_ledger.specs.State.{State, Collection, Features, with_features, opened}
use Rattle.streetmap_ledger.proofs.StatesStay.{put_or_there, was_there}
use Rattle.streetmap_rows.specs.Representations.{HasTextNames, CanBeRead}

-- each feature of a collection can be read
abbrev pub AllRead : Features → Type 0
AllRead features = (id : Text) (f : FeatureValue) → get features id ≡ Some f → IsFeature f

module _ (s : State) (read : CanBeRead s) (name : Text) (c : Collection) (here : HasTextNames name c) (all : AllRead c.features) where
  put_collections : (q : Text) (d : Collection) → get (insert s.collections name c) q ≡ Some d → HasTextNames q d
  put_collections q d e = elim (put_or_there s.collections name c q d e) [
    | inl p ↦ subst (λ x. HasTextNames x d) (sym p.0) (subst (HasTextNames name) (sym p.1) here)
    | inr h ↦ read.collections q d h
  ]

  put_features : (p : KeyPair) (f : FeatureValue) → option_and_then (λ (x : Collection). get x.features p.1) (get (insert s.collections name c) p.0) ≡ Some f →
      IsFeature f
  put_features p f h = go (get (insert s.collections name c) p.0) refl h
    where
      go : (o : Option Collection) → get (insert s.collections name c) p.0 ≡ o → option_and_then (λ (x : Collection). get x.features p.1) o ≡ Some f →
          IsFeature f
      go None is e = absurd (cc)
      go (Some d) is e = elim (put_or_there s.collections name c p.0 d is) [
        | inl put ↦ all p.1 f (subst (λ (x : Collection). get x.features p.1 ≡ Some f) put.1 e)
        | inr was ↦ read.features p f (ap (option_and_then (λ (x : Collection). get x.features p.1)) was ∙ e)
      ]

  pub put_read : CanBeRead (record s { collections = insert s.collections name c })
  put_read = record { collections = put_collections; features = put_features }

module _ (s : State) (read : CanBeRead s) (name : Text) (c : Collection) (collected : get s.collections name ≡ Some c) where
  own : AllRead c.features
  own id f e = read.features (name, id) f (ap (option_and_then (λ (x : Collection). get x.features id)) collected ∙ e)

  same : (features : Features) → HasTextNames name (record c { features = features })
  same features = let r = read.collections name c collected in record { id = r.id; title = r.title; time = r.time }

  pub insert_read : (id : Text) (f : FeatureValue) → IsFeature f → CanBeRead (with_features s name c (insert c.features id f))
  insert_read id f fine = put_read s read name (record c { features = insert c.features id f }) (same (insert c.features id f))
      (λ q g e. elim (put_or_there c.features id f q g e) [
        | inl p ↦ subst (λ x. IsFeature x) (sym p.1) fine
        | inr h ↦ own q g h
      ])

  pub delete_read : (id : Text) → CanBeRead (with_features s name c (remove c.features id))
  delete_read id = put_read s read name (record c { features = remove c.features id }) (same (remove c.features id))
      (λ q g e. own q g (was_there c.features id q g e))

-- a collection that is opened, whose names are texts
pub open_read : (s : State) (name title : Text) (time : Option Text) → CanBeRead s → IsUtf8 name → IsUtf8 title → IfSome time IsUtf8 →
    CanBeRead (opened s name title time)
open_read s name title time read id words property =
    put_read s read name (record { title = title; time = time; features = empty }) (record { id = id; title = words; time = property })
    (λ q g e. let none = sym (get-empty text_cmp q) ∙ e in absurd (cc))

-- what is kept for batches does not matter
pub keep_read : (s : State) (keys : _) → CanBeRead s → CanBeRead (record s { keys = keys })
keep_read s keys read = record { collections = read.collections; features = read.features }
