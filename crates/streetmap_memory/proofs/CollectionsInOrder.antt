-- The collections that a map represents, in the order of their ids.
use Rattle.std.proofs.Common.{◌≡◌, List, [], ◌∷◌, ◌++◌, Bool, true, false, cond, T, Option, Some, String, map, refl, sym, ap, ◌∙◌}
use Rattle.std.specs.Option.{option_map}
use Rattle.std.specs.String.{string_cmp}
use Rattle.std.specs.Ordering.{eq_by_cmp}
use Rattle.std.specs.declared.alloc.Global.{Global}
use Rattle.std.specs.Cmp.Lexicographic.{nat_list_cmp_total}
use Rattle.std.specs.List.Sorted.{IsStrictlySortedBy}
use Rattle.std.specs.Map.{keys_of}
use Rattle.std.specs.FinMap.{entries, find, is_sorted, from_sorted, same_map, get-from_sorted, entries-from_sorted}
use Rattle.std.specs.FinMap.Entries.{below_all}
use Rattle.streetmap_batch.specs.Text.{Text, text_cmp}
use Rattle.streetmap_ledger.specs.State.{Collection}
use Rattle.streetmap_memory.specs.Slots.{SlotCollection, by_text, map_of, collected, collected_of, collections_of, summary_at}
use Rattle.streetmap_ledger.specs.Summaries.{SummaryValue, summary_of}
use Rattle.streetmap_ledger.specs.SummaryView.{summary_value, summary_values}
use Rattle.streetmap_ledger.specs.declared.summary.Summary.{Summary}
use Rattle.streetmap_ledger.proofs.TextMaps.{one_text}
use Rattle.streetmap_memory.proofs.Ordered.{entries_of, ascending, both}
use Rattle.streetmap_ledger.proofs.TextMaps.{first, second}
use Rattle.streetmap_memory.proofs.SlotLemmas.{collected_gets}

-- the entries with their collections
abbrev each_collected : List (Text × SlotCollection) → List (Text × Collection)
each_collected es = map (λ e. (e.0, collected e.1)) es

below_each : (k : Text) (es : List (Text × SlotCollection)) → T (below_all text_cmp k es) → T (below_all text_cmp k (each_collected es))
below_each k [] h = tt
below_each k (e ∷ es) h = both _ _ (first _ _ h) (below_each k es (second _ _ h))

sorted_each : (es : List (Text × SlotCollection)) → T (is_sorted text_cmp es) → T (is_sorted text_cmp (each_collected es))
sorted_each [] h = tt
sorted_each (e ∷ es) h = both _ _ (below_each e.0 es (first _ _ h)) (sorted_each es (second _ _ h))

map_choice : (b : Bool) (c : SlotCollection) (o : Option SlotCollection) → cond b (Some (collected c)) (option_map collected o)
    ≡ option_map collected (cond b (Some c) o)
map_choice true c o = refl
map_choice false c o = refl

find_each : (es : List (Text × SlotCollection)) (q : Text) → find text_cmp q (each_collected es) ≡ option_map collected (find text_cmp q es)
find_each [] q = refl
find_each (e ∷ es) q = ap (cond (eq_by_cmp text_cmp q e.0) (Some (collected e.1))) (find_each es q)
    ∙ map_choice (eq_by_cmp text_cmp q e.0) e.1 (find text_cmp q es)

entries_each : (es : List (Text × SlotCollection)) → T (is_sorted text_cmp es) → entries (collected_of es) ≡ each_collected es
entries_each es h =
    let up = sorted_each es h in
    ap entries (same_map nat_list_cmp_total one_text (collected_of es) (from_sorted (each_collected es))
    (λ q. collected_gets es q ∙ (sym (find_each es q) ∙ sym (get-from_sorted text_cmp (each_collected es) q up))))
    ∙ entries-from_sorted text_cmp (each_collected es) up

reported_each : (es : List (String Global × SlotCollection)) → map (λ e. summary_of e.0 e.1) (each_collected (by_text es)) ≡ map summary_at es
reported_each [] = refl
reported_each (e ∷ es) = ap (λ (ss : List SummaryValue). summary_at e ∷ ss) (reported_each es)

-- the descriptions of the collections of a map are those of its entries
pub reported_in_order : (es : List (String Global × SlotCollection)) → IsStrictlySortedBy string_cmp (keys_of es) →
    map (λ e. summary_of e.0 e.1) (entries (collections_of (map_of es))) ≡ map summary_at es
reported_in_order es h =
    ap (λ xs. map (λ e. summary_of e.0 e.1) (entries (collected_of xs))) (entries_of es h)
    ∙ (ap (map (λ e. summary_of e.0 e.1)) (entries_each (by_text es) (ascending es h)) ∙ reported_each es)

-- the descriptions so far, with one more
pub reported_last : (xs : List Summary) (x : Summary) (ys : List SummaryValue) → summary_values (xs ++ x ∷ []) ++ ys ≡ summary_values xs ++ summary_value x ∷ ys
reported_last [] x ys = refl
reported_last (y ∷ xs) x ys = ap (λ (ss : List SummaryValue). summary_value y ∷ ss) (reported_last xs x ys)
