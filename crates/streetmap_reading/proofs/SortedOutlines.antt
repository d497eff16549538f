-- The outlines of all features of a collection, sorted by their ids.
use Rattle.std.proofs.Common.{◌≡◌, ℕ, ◌+◌, ◌<◌, List, [], ◌∷◌, length, map, get_or, Some, false, T}
use Rattle.std.proofs.Common.{refl, sym, ap, ap₂, subst, ◌∙◌, arith, string_bytes}
use Rattle.std.specs.Ordering.{is_lt}
use Rattle.std.specs.FinMap.{get, entries, entries_sorted, get-entries, is_sorted}
use Rattle.std.specs.List.{IsDistinct}
use Rattle.std.specs.List.Sorted.{IsPermutation, IsSortedBy, IsStrictlySortedBy}
use Rattle.std.proofs.lemmas.List.{get_or-map, length-map}
use Rattle.std.proofs.lemmas.List.Sorted.{IsPermutation-map, IsPermutation-sym}
use Rattle.std.proofs.lemmas.Map.Keys.{IsDistinct-IsPermutation}
use Rattle.sqlite_rules.specs.Lists.{Has}
use Rattle.streetmap_geojson.specs.FeatureValue.{FeatureValue}
use Rattle.streetmap_batch.specs.Text.{Text, text_cmp}
use Rattle.streetmap_ledger.specs.State.{Features}
use Rattle.streetmap_ledger.specs.Outlines.{FeatureOutlineValue, feature_outline_of}
use Rattle.streetmap_ledger.specs.OutlineView.{feature_outline_value, feature_outline_values}
use Rattle.streetmap_ledger.specs.declared.outline.FeatureOutline.{FeatureOutline}
use Rattle.streetmap_reading.specs.PassResults.{comes_before}
use Rattle.streetmap_rows.specs.Holds.{same_text}
use Rattle.streetmap_rows.proofs.OrderedRows.{AreListed, listed_is, rising, rises, text_flips}
use Rattle.streetmap_rows.proofs.OrderedRows.{has_mapped, mapped_has, moved}

abbrev id_of : FeatureOutline → Text
id_of o = string_bytes o.id

abbrev named : FeatureOutline → Text × FeatureOutlineValue
named o = (id_of o, feature_outline_value o)

ids_of : (os : List FeatureOutline) → map (λ (p : Text × FeatureOutlineValue). p.0) (map named os) ≡ map id_of os
ids_of [] = refl
ids_of (o ∷ os) = ap (λ l. id_of o ∷ l) (ids_of os)

values_of : (os : List FeatureOutline) → map (λ (p : Text × FeatureOutlineValue). p.1) (map named os) ≡ feature_outline_values os
values_of [] = refl
values_of (o ∷ os) = ap (λ l. feature_outline_value o ∷ l) (values_of os)

-- no id comes before the one in front of it
none_before : (os : List FeatureOutline) → IsSortedBy comes_before os → (k : ℕ) → k + 1 < length (map id_of os)
    → is_lt (text_cmp (get_or (map id_of os) (k + 1) []) (get_or (map id_of os) k [])) ≡ false
none_before [] up k low = absurd (omega (arith, low))
none_before (d ∷ os) up k low =
    let long = length-map (d ∷ os) id_of in
    let one : get_or (map id_of (d ∷ os)) k [] ≡ id_of (get_or (d ∷ os) k d) = get_or-map id_of (d ∷ os) k d [] (omega arith) in
    let two : get_or (map id_of (d ∷ os)) (k + 1) [] ≡ id_of (get_or (d ∷ os) (k + 1) d) = get_or-map id_of (d ∷ os) (k + 1) d [] (omega arith) in
    ap₂ (λ x y. is_lt (text_cmp x y)) two one ∙ up k d (omega arith) (omega arith)

abbrev Entry : Type 0
Entry = Text × FeatureValue

abbrev outline_of : Entry → FeatureOutlineValue
outline_of e = feature_outline_of e.0 e.1

entry_ids : (es : List Entry) → map (λ (o : FeatureOutlineValue). o.id) (map outline_of es) ≡ map (λ (e : Entry). e.0) es
entry_ids [] = refl
entry_ids (e ∷ es) = ap (λ l. e.0 ∷ l) (entry_ids es)

outline_ids : (os : List FeatureOutline) → map (λ (o : FeatureOutlineValue). o.id) (feature_outline_values os) ≡ map id_of os
outline_ids [] = refl
outline_ids (o ∷ os) = ap (λ l. id_of o ∷ l) (outline_ids os)

seen_outlines : (es : List Entry) → map (λ (p : Text × FeatureOutlineValue). p.1) (map (λ (e : Entry). (e.0, outline_of e)) es) ≡ map outline_of es
seen_outlines [] = refl
seen_outlines (e ∷ es) = ap (λ l. outline_of e ∷ l) (seen_outlines es)

-- entries of a map, each once, with none left out; and their outlines, sorted by their ids
module _ (fs : Features) (es : List Entry) (apart : IsDistinct same_text (map (λ e. e.0) es))
    (each : (e : Entry) → Has es e → get fs e.0 ≡ Some e.1)
    (all : (q : Text) (f : FeatureValue) → get fs q ≡ Some f → Has (map (λ e. e.0) es) q)
    (os sorted : List FeatureOutline) (are : feature_outline_values os ≡ map outline_of es)
    (same : IsPermutation os sorted) (up : IsSortedBy comes_before sorted) where
  turned : IsPermutation (map outline_of es) (feature_outline_values sorted)
  turned = subst (λ l. IsPermutation l (feature_outline_values sorted)) are (IsPermutation-map feature_outline_value os sorted same)

  distinct : IsDistinct same_text (map id_of sorted)
  distinct = subst (IsDistinct same_text) (outline_ids sorted)
      (IsDistinct-IsPermutation same_text text_flips _ _ (IsPermutation-map (λ (o : FeatureOutlineValue). o.id) _ _ turned)
      (subst (IsDistinct same_text) (sym (entry_ids es)) apart))

  in_order : T (is_sorted text_cmp (map named sorted))
  in_order = rising (map named sorted) (subst (IsStrictlySortedBy text_cmp) (sym (ids_of sorted)) (rises (map id_of sorted) (none_before sorted up) distinct))

  said : (p : Text × FeatureOutlineValue) → Has (map named sorted) p → (f : FeatureValue) × (get fs p.0 ≡ Some f) × (p.1 ≡ feature_outline_of p.0 f)
  said p h =
      let o = mapped_has named sorted p h in
      let e = mapped_has outline_of es (feature_outline_value o.0) (moved _ _ _ (IsPermutation-sym _ _ turned)
      (has_mapped feature_outline_value sorted o.0 o.1)) in
      let id : p.0 ≡ e.0.0 = ap (λ (x : Text × FeatureOutlineValue). x.0) o.2 ∙ ap (λ (x : FeatureOutlineValue). x.id) e.2 in
      (e.0.1, ap (get fs) id ∙ each e.0 e.1, ap (λ (x : Text × FeatureOutlineValue). x.1) o.2 ∙ e.2 ∙ ap (λ q. feature_outline_of q e.0.1) (sym id))

  is_listed : (q : Text) (f : FeatureValue) → get fs q ≡ Some f → (w : FeatureOutlineValue) × Has (map named sorted) (q, w)
  is_listed q f is =
      let e = mapped_has (λ (e : Entry). e.0) es q (all q f is) in
      let o = mapped_has feature_outline_value sorted (outline_of e.0) (moved _ _ _ turned (has_mapped outline_of es e.0 e.1)) in
      let id : id_of o.0 ≡ q = ap (λ (x : FeatureOutlineValue). x.id) (sym o.2) ∙ sym e.2 in
      (feature_outline_value o.0, subst (λ k. Has (map named sorted) (k, feature_outline_value o.0)) id (has_mapped named sorted o.0 o.1))

  listed : AreListed (get fs) feature_outline_of (map named sorted)
  listed = record { in_order = in_order; said = said; all = is_listed }

  -- these are the outlines of the map's entries
  pub sorted_are : feature_outline_values sorted ≡ map (λ e. feature_outline_of e.0 e.1) (entries fs)
  sorted_are =
      sym (values_of sorted) ∙ ap (map (λ (p : Text × FeatureOutlineValue). p.1)) (listed_is (get fs) feature_outline_of (map named sorted) listed (entries fs)
      (entries_sorted fs) (get-entries fs))
      ∙ seen_outlines (entries fs)
