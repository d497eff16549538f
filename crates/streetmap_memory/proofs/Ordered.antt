-- The entries of a map in their order.
use Rattle.std.proofs.Common.{◌≡◌, List, [], ◌∷◌, Bool, true, false, T, String, string_bytes, length, refl, sym, ap, subst, ◌∙◌}
use Rattle.std.specs.Prelude.{◌&&◌, suc}
use Rattle.std.specs.List.{AllByRecursion}
use Rattle.std.specs.declared.cmp.Ordering.TheVariants.{Less}
use Rattle.std.specs.String.{string_cmp}
use Rattle.std.specs.Ordering.{is_lt}
use Rattle.std.specs.declared.alloc.Global.{Global}
use Rattle.std.specs.Cmp.Lexicographic.{nat_list_cmp_total}
use Rattle.std.specs.List.Sorted.{IsStrictlySortedBy}
use Rattle.std.specs.Map.{keys_of}
use Rattle.std.specs.FinMap.{entries, len, is_sorted, from_sorted, same_map, get-from_sorted, get-from_entries, entries-from_sorted, len-entries}
use Rattle.std.specs.FinMap.Entries.{below_all}
use Rattle.streetmap_batch.specs.Text.{text_cmp}
use Rattle.streetmap_memory.specs.Slots.{by_text, map_of}
use Rattle.streetmap_ledger.proofs.TextMaps.{one_text}

pub both : (a b : Bool) → T a → T b → T (a && b)
both true b p q = q
both false b p q = p

module _ {X : Type 0} where
  below : (k : String Global) (es : List (String Global × X)) → AllByRecursion (λ y. string_cmp k y ≡ Less) (keys_of es) →
      T (below_all text_cmp (string_bytes k) (by_text es))
  below k [] h = tt
  below k (e ∷ es) h = both _ _ (subst (λ r. T (is_lt r)) (sym h.0) tt) (below k es h.1)

  pub ascending : (es : List (String Global × X)) → IsStrictlySortedBy string_cmp (keys_of es) → T (is_sorted text_cmp (by_text es))
  unfolding IsStrictlySortedBy
  ascending [] h = tt
  ascending (e ∷ es) h = both _ _ (below e.0 es h.0) (ascending es h.1)

  pub entries_of : (es : List (String Global × X)) → IsStrictlySortedBy string_cmp (keys_of es) → entries (map_of es) ≡ by_text es
  entries_of es h =
      let up = ascending es h in
      ap entries (same_map nat_list_cmp_total one_text (map_of es) (from_sorted (by_text es))
      (λ q. get-from_entries nat_list_cmp_total (by_text es) q ∙ sym (get-from_sorted text_cmp (by_text es) q up)))
      ∙ entries-from_sorted text_cmp (by_text es) up

  length_by_text : (es : List (String Global × X)) → length (by_text es) ≡ length es
  length_by_text [] = refl
  length_by_text (e ∷ es) = ap suc (length_by_text es)

  pub len_of : (es : List (String Global × X)) → IsStrictlySortedBy string_cmp (keys_of es) → len (map_of es) ≡ length es
  len_of es h = len-entries (map_of es) ∙ (ap length (entries_of es h) ∙ length_by_text es)
