-- The outlines of a collection's features, in the order of their ids.
use Rattle.std.proofs.Common.{◌≡◌, List, [], ◌∷◌, ◌++◌, T, cond, None, Some, map, refl, sym, ap, subst, ◌∙◌, append_assoc, append-nil}
use Rattle.std.specs.List.{AllByRecursion}
use Rattle.std.specs.Ordering.{is_eq}
use Rattle.std.specs.declared.cmp.Ordering.{Ordering}
use Rattle.std.specs.declared.cmp.Ordering.TheVariants.{Less, Equal, Greater}
use Rattle.std.specs.Cmp.Lexicographic.{nat_list_cmp_total}
use Rattle.std.specs.FinMap.{get, entries, entries_sorted, values, find, is_sorted, get-entries}
use Rattle.std.specs.FinMap.Entries.{below_all}
use Rattle.std.proofs.lemmas.Cmp.{tied_itself}
use Rattle.streetmap_geojson.specs.FeatureValue.{FeatureValue}
use Rattle.streetmap_geojson.specs.FeatureInvariant.{IsFeature}
use Rattle.streetmap_query.specs.QueryValue.{QueryValue}
use Rattle.streetmap_batch.specs.Text.{Text, text_cmp}
use Rattle.streetmap_ledger.specs.State.{Features, Collection}
use Rattle.streetmap_ledger.specs.WellFormed.{HoldsFeatures}
use Rattle.streetmap_ledger.specs.Outlines.{FeatureOutlineValue, feature_outline_of}
use Rattle.streetmap_ledger.specs.OutlineView.{feature_outline_value, feature_outline_values}
use Rattle.streetmap_ledger.specs.declared.outline.FeatureOutline.{FeatureOutline}
use Rattle.streetmap_ledger.specs.Folds.{HoldsCandidates}
use Rattle.streetmap_ledger.specs.declared.fold.PageFold.{PageFold}
use Rattle.streetmap_ledger.proofs.TextMaps.{one_text, first, second}
use Rattle.streetmap_outlines.specs.Outlines.{AreOutlines}
use Rattle.streetmap_outlines.specs.Outlines.{IsEntry, Pairs}
use Rattle.streetmap_ledger.proofs.Serials.{not_equal}

-- a feature under its id, as a program can hold it
pub record IsThere (features : Features) (id : Text) (f : FeatureValue) : Type 0 where
  pub named : f.id ≡ id
  pub made : IsFeature f
  pub there : get features id ≡ Some f

-- ---- each entry is found under its key
module _ {X : Type 0} where
  -- a key below all the others is not found among them
  none_below : (k : Text) (es : List (Text × X)) → T (below_all text_cmp k es) → find text_cmp k es ≡ None
  none_below k [] h = refl
  none_below k (e ∷ es) h = ap (λ b. cond b (Some e.1) (find text_cmp k es)) (not_equal _ (first _ _ h)) ∙ none_below k es (second _ _ h)

  pub each_found : (P : Text → X → Type 0) (es : List (Text × X)) → T (is_sorted text_cmp es) → ((id : Text) (x : X) → find text_cmp id es ≡ Some x → P id x) →
      AllByRecursion (λ e. P e.0 e.1) es
  each_found P [] up found = tt
  each_found P (e ∷ es) up found = (
    found e.0 e.1 (ap (λ r. cond (is_eq r) (Some e.1) (find text_cmp e.0 es)) (tied_itself nat_list_cmp_total e.0)),
    each_found P es (second _ _ up) (λ id x there. found id x (later id x there (text_cmp id e.0) refl)),
  ) where
    later : (id : Text) (x : X) → find text_cmp id es ≡ Some x → (r : Ordering) → text_cmp id e.0 ≡ r →
        cond (is_eq (text_cmp id e.0)) (Some e.1) (find text_cmp id es) ≡ Some x
    later id x there Less is = ap (λ r. cond (is_eq r) (Some e.1) (find text_cmp id es)) is ∙ there
    later id x there Greater is = ap (λ r. cond (is_eq r) (Some e.1) (find text_cmp id es)) is ∙ there
    later id x there Equal is =
        let none : find text_cmp id es ≡ None = ap (λ k. find text_cmp k es) (one_text id e.0 is) ∙ none_below e.0 es (first _ _ up) in
        cc

abbrev outlines : List (Text × FeatureValue) → List FeatureOutlineValue
outlines es = map (λ e. feature_outline_of e.0 e.1) es

pairs_by : (features : Features) (os : List FeatureOutline) (xs : List (Text × FeatureValue)) → feature_outline_values os ≡ outlines xs →
    AllByRecursion (λ x. IsThere features x.0 x.1) xs → Pairs features os (map (λ x. x.1) xs)
pairs_by features [] [] is h = tt
pairs_by features [] (x ∷ xs) is h = absurd cc
pairs_by features (o ∷ os) [] is h = absurd cc
pairs_by features (o ∷ os) (x ∷ xs) is h =
    let head : feature_outline_value o ≡ feature_outline_of x.0 x.1 = cc in
    let tail : feature_outline_values os ≡ outlines xs = cc in (
      record { known = head ∙ ap (λ id. feature_outline_of id x.1) (sym h.0.named); made = h.0.made; there = ap (get features) h.0.named ∙ h.0.there },
      pairs_by features os xs tail h.1,
    )

pub each_there : (c : Collection) → HoldsFeatures c → AllByRecursion (λ x. IsThere c.features x.0 x.1) (entries c.features)
each_there c holds = each_found (IsThere c.features) (entries c.features) (entries_sorted c.features) (λ id f there.
    let here = get-entries c.features id ∙ there in
    let placed = holds id f here in
    record { named = placed.named; made = placed.is; there = here })

pub paired : (os : List FeatureOutline) (c : Collection) → AreOutlines os c.features → HoldsFeatures c → Pairs c.features os (values c.features)
paired os c known holds = pairs_by c.features os (entries c.features) known (each_there c holds)

-- ---- a page so far

-- of all these features some were met, and the outlines of the others are left
pub record Going (q : QueryValue) (fold : PageFold) (features : Features) (all : List FeatureValue) (rest : List FeatureOutline) : Type 0 where
  pub met : List FeatureValue
  pub left : List FeatureValue
  pub whole : met ++ left ≡ all
  pub pairs : Pairs features rest left
  pub holds : HoldsCandidates q fold met

pub goes_on : (q : QueryValue) (old new : PageFold) (features : Features) (all : List FeatureValue) (o : FeatureOutline) (rest : List FeatureOutline) →
    Going q old features all (o ∷ rest)
    → ((fs : List FeatureValue) (f : FeatureValue) → IsEntry features o f → HoldsCandidates q old fs → HoldsCandidates q new (fs ++ f ∷ [])) →
    Going q new features all rest
goes_on q old new features all o rest going takes = by going.left going.whole going.pairs where
  by : (left : List FeatureValue) → going.met ++ left ≡ all → Pairs features (o ∷ rest) left → Going q new features all rest
  by [] whole pairs = absurd pairs
  by (f ∷ fs) whole pairs = record {
    met = going.met ++ f ∷ [];
    left = fs;
    whole = append_assoc going.met (f ∷ []) fs ∙ whole;
    pairs = pairs.1;
    holds = takes going.met f pairs.0 going.holds;
  }

-- the outlines in front and their features, and the others
pub record Parted (features : Features) (front rest : List FeatureOutline) (fs : List FeatureValue) : Type 0 where
  pub firsts : List FeatureValue
  pub others : List FeatureValue
  pub whole : firsts ++ others ≡ fs
  pub first_pairs : Pairs features front firsts
  pub other_pairs : Pairs features rest others

pub parted : (features : Features) (front rest : List FeatureOutline) (fs : List FeatureValue) → Pairs features (front ++ rest) fs →
    Parted features front rest fs
parted features [] rest fs pairs = record { firsts = []; others = fs; whole = refl; first_pairs = tt; other_pairs = pairs }
parted features (o ∷ front) rest [] pairs = absurd pairs
parted features (o ∷ front) rest (f ∷ fs) pairs =
    let more = parted features front rest fs pairs.1 in
    record {
      firsts = f ∷ more.firsts;
      others = more.others;
      whole = ap (λ xs. f ∷ xs) more.whole;
      first_pairs = (pairs.0, more.first_pairs);
      other_pairs =
          more.other_pairs;
    }

pub goes_on_after : (q : QueryValue) (old new : PageFold) (features : Features) (all : List FeatureValue) (front rest : List FeatureOutline) →
    Going q old features all (front ++ rest)
    → ((met fs : List FeatureValue) → Pairs features front fs → HoldsCandidates q old met → HoldsCandidates q new (met ++ fs)) → Going q new features all rest
goes_on_after q old new features all front rest going takes =
    let parts = parted features front rest going.left going.pairs in
    record {
      met = going.met ++ parts.firsts;
      left = parts.others;
      whole = append_assoc going.met parts.firsts parts.others ∙ (ap (λ xs. going.met ++ xs) parts.whole ∙ going.whole);
      pairs = parts.other_pairs;
      holds = takes going.met parts.firsts parts.first_pairs going.holds;
    }

-- if no outline is left, all features were met
pub all_met : (q : QueryValue) (fold : PageFold) (features : Features) (all : List FeatureValue) → (going : Going q fold features all []) → going.met ≡ all
all_met q fold features all going = by going.left going.whole going.pairs where
  by : (left : List FeatureValue) → going.met ++ left ≡ all → Pairs features [] left → going.met ≡ all
  by [] whole pairs = sym (append-nil going.met) ∙ whole
  by (f ∷ fs) whole pairs = absurd pairs

pub all_held : (q : QueryValue) (fold : PageFold) (features : Features) (all : List FeatureValue) → Going q fold features all [] → HoldsCandidates q fold all
all_held q fold features all going = subst (HoldsCandidates q fold) (all_met q fold features all going) going.holds
