-- The features in the slots, in the order of their ids.
use Rattle.std.proofs.Common.{◌≡◌, List, [], ◌∷◌, Bool, true, false, cond, T, Option, None, Some, String, string_bytes, map, refl, sym, ap, ◌∙◌}
use Rattle.std.specs.Prelude.{◌&&◌}
use Rattle.std.specs.Option.{option_flatten}
use Rattle.std.specs.String.{string_cmp}
use Rattle.std.specs.Ordering.{is_lt, is_eq, eq_by_cmp}
use Rattle.std.specs.declared.alloc.Global.{Global}
use Rattle.std.specs.declared.cmp.Ordering.{Ordering}
use Rattle.std.specs.declared.cmp.Ordering.TheVariants.{Less, Equal, Greater}
use Rattle.std.specs.Cmp.Lexicographic.{nat_list_cmp_total}
use Rattle.std.specs.List.Sorted.{IsStrictlySortedBy}
use Rattle.std.specs.Map.{keys_of, values_of}
use Rattle.std.specs.FinMap.{entries, values, find, is_sorted, from_sorted, same_map, get-from_sorted, entries-from_sorted}
use Rattle.std.specs.FinMap.Entries.{below_all}
use Rattle.streetmap_geojson.specs.FeatureValue.{FeatureValue}
use Rattle.streetmap_batch.specs.Text.{Text, text_cmp}
use Rattle.streetmap_memory.specs.Slots.{by_text, map_of, live, live_of, live_values, with_live, live_entries}
use Rattle.streetmap_ledger.proofs.TextMaps.{one_text, first, second, none_below}
use Rattle.streetmap_memory.proofs.Ordered.{entries_of, ascending, both}
use Rattle.streetmap_memory.proofs.SlotLemmas.{live_gets}

below_with : (k j : Text) (o : Option FeatureValue) (es : List (Text × FeatureValue)) → T (is_lt (text_cmp k j)) → T (below_all text_cmp k es) →
    T (below_all text_cmp k (with_live j o es))
below_with k j None es h rest = rest
below_with k j (Some d) es h rest = both _ _ h rest

below_live : (k : Text) (es : List (Text × Option FeatureValue)) → T (below_all text_cmp k es) → T (below_all text_cmp k (live_entries es))
below_live k [] h = tt
below_live k (e ∷ es) h = below_with k e.0 e.1 (live_entries es) (first _ _ h) (below_live k es (second _ _ h))

sorted_with : (k : Text) (o : Option FeatureValue) (es : List (Text × FeatureValue)) → T (below_all text_cmp k es) → T (is_sorted text_cmp es) →
    T (is_sorted text_cmp (with_live k o es))
sorted_with k None es h rest = rest
sorted_with k (Some d) es h rest = both _ _ h rest

sorted_live : (es : List (Text × Option FeatureValue)) → T (is_sorted text_cmp es) → T (is_sorted text_cmp (live_entries es))
sorted_live [] h = tt
sorted_live (e ∷ es) h = sorted_with e.0 e.1 (live_entries es) (below_live e.0 es (first _ _ h)) (sorted_live es (second _ _ h))

find_with : (q k : Text) (o : Option FeatureValue) (es : List (Text × FeatureValue)) (r : Ordering) → text_cmp q k ≡ r → T (below_all text_cmp k es) →
    find text_cmp q (with_live k o es) ≡ cond (is_eq r) o (find text_cmp q es)
find_with q k (Some d) es r e h = ap (λ s. cond (is_eq s) (Some d) (find text_cmp q es)) e
find_with q k None es Less e h = refl
find_with q k None es Greater e h = refl
find_with q k None es Equal e h = ap (λ t. find text_cmp t es) (one_text q k e) ∙ none_below k es h

flat : (b : Bool) (x : Option FeatureValue) (o : Option (Option FeatureValue)) → cond b x (option_flatten o) ≡ option_flatten (cond b (Some x) o)
flat true x o = refl
flat false x o = refl

find_live : (es : List (Text × Option FeatureValue)) (q : Text) → T (is_sorted text_cmp es) → find text_cmp q (live_entries es)
    ≡ option_flatten (find text_cmp q es)
find_live [] q h = refl
find_live (e ∷ es) q h =
    find_with q e.0 e.1 (live_entries es) (text_cmp q e.0) refl (below_live e.0 es (first _ _ h))
    ∙ (ap (cond (eq_by_cmp text_cmp q e.0) e.1) (find_live es q (second _ _ h)) ∙ flat (eq_by_cmp text_cmp q e.0) e.1 (find text_cmp q es))

entries_live : (es : List (Text × Option FeatureValue)) → T (is_sorted text_cmp es) → entries (live_of es) ≡ live_entries es
entries_live es h =
    let up = sorted_live es h in
    ap entries (same_map nat_list_cmp_total one_text (live_of es) (from_sorted (live_entries es))
    (λ q. live_gets es q ∙ (sym (find_live es q h) ∙ sym (get-from_sorted text_cmp (live_entries es) q up))))
    ∙ entries-from_sorted text_cmp (live_entries es) up

module _ where
  values_with : (k : Text) (o : Option FeatureValue) (es : List (Text × FeatureValue)) (os : List (Option FeatureValue)) → map (λ e. e.1) es ≡ live_values os →
      map (λ e. e.1) (with_live k o es) ≡ live_values (o ∷ os)
  values_with k None es os h = h
  values_with k (Some d) es os h = ap (λ ds. d ∷ ds) h

  values_live : (es : List (String Global × Option FeatureValue)) → map (λ e. e.1) (live_entries (by_text es)) ≡ live_values (values_of es)
  values_live [] = refl
  values_live (e ∷ es) = values_with (string_bytes e.0) e.1 (live_entries (by_text es)) (values_of es) (values_live es)

-- the features of a map's slots are those that a walk over it meets
pub live_in_order : (es : List (String Global × Option FeatureValue)) → IsStrictlySortedBy string_cmp (keys_of es) → values (live (map_of es))
    ≡ live_values (values_of es)
live_in_order es h =
    ap (λ xs. map (λ e. e.1) (entries (live_of xs))) (entries_of es h) ∙ (ap (map (λ e. e.1)) (entries_live (by_text es) (ascending es h)) ∙ values_live es)

-- and under their ids
pub live_entries_in_order : (es : List (String Global × Option FeatureValue)) → IsStrictlySortedBy string_cmp (keys_of es) → entries (live (map_of es))
    ≡ live_entries (by_text es)
live_entries_in_order es h = ap (λ xs. entries (live_of xs)) (entries_of es h) ∙ entries_live (by_text es) (ascending es h)
