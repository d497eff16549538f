-- A `BTreeMap` under `String` keys, as a finite map under texts.
use Rattle.std.proofs.Common.{◌≡◌, List, [], ◌∷◌, Bool, true, false, cond, Option, None, Some, String, string_bytes, refl, sym, ap, ◌∙◌}
use Rattle.std.specs.String.{string_cmp}
use Rattle.std.specs.Ordering.{is_eq, eq_by_cmp}
use Rattle.std.specs.declared.cmp.Ordering.{Ordering}
use Rattle.std.specs.declared.cmp.Ordering.TheVariants.{Less, Equal, Greater}
use Rattle.std.specs.declared.alloc.Global.{Global}
use Rattle.std.specs.Cmp.Lexicographic.{nat_list_cmp_total}
use Rattle.std.specs.Map.{lookup, KeepsOthers, IsKeyTest, AreApart}
use Rattle.std.specs.FinMap.{get, insert, remove, find, get-from_entries, get-insert, get-remove, same_map}
use Rattle.streetmap_batch.specs.Text.{Text, text_cmp}
use Rattle.std.specs.Option.{is_some}
use Rattle.streetmap_geojson.specs.FeatureValue.{FeatureValue}
use Rattle.streetmap_ledger.proofs.TextMaps.{one_text}
use Rattle.streetmap_memory.specs.Slots.{by_text, map_of, SlotCollection, reset_slot, put_slot}

pub equal_of : (r : Ordering) → is_eq r ≡ true → r ≡ Equal
equal_of Less e = cc
equal_of Equal e = refl
equal_of Greater e = cc

abbrev pub at_text : Text → String Global → Bool
at_text q k = is_eq (text_cmp q (string_bytes k))

key_test : (q : Text) → IsKeyTest (eq_by_cmp string_cmp) (at_text q)
key_test q x y h = ap (λ t. is_eq (text_cmp t (string_bytes y))) (one_text q (string_bytes x) (equal_of _ h))

apart : (q id : Text) (r : Ordering) → text_cmp q id ≡ r → is_eq r ≡ false → AreApart (at_text id) (at_text q)
apart q id r e off k h = ap (λ t. is_eq (text_cmp q t)) (sym (one_text id (string_bytes k) (equal_of _ h))) ∙ (ap is_eq e ∙ off)

module _ {X : Type 0} where
  find_by_text : (es : List (String Global × X)) (q : Text) → find text_cmp q (by_text es) ≡ lookup (at_text q) es
  find_by_text [] q = refl
  find_by_text (e ∷ es) q = ap (cond (at_text q e.0) (Some e.1)) (find_by_text es q)

  pub get_of : (es : List (String Global × X)) (q : Text) → get (map_of es) q ≡ lookup (at_text q) es
  get_of es q = get-from_entries nat_list_cmp_total (by_text es) q ∙ find_by_text es q

  -- what an update of one key leaves at each text
  pub updated : (es fs : List (String Global × X)) (id : Text) (w : Option X) → KeepsOthers (eq_by_cmp string_cmp) (at_text id) es fs → lookup (at_text id) fs
      ≡ w → (q : Text) → lookup (at_text q) fs ≡ cond (eq_by_cmp text_cmp q id) w (lookup (at_text q) es)
  unfolding KeepsOthers
  updated es fs id w keeps here q = by (text_cmp q id) refl where
    by : (r : Ordering) → text_cmp q id ≡ r → lookup (at_text q) fs ≡ cond (is_eq r) w (lookup (at_text q) es)
    by Equal e = ap (λ t. lookup (at_text t) fs) (one_text q id e) ∙ here
    by Less e = keeps (at_text q) (key_test q) (apart q id Less e refl)
    by Greater e = keeps (at_text q) (key_test q) (apart q id Greater e refl)

  pub map_put : (es fs : List (String Global × X)) (id : Text) (v : X) → KeepsOthers (eq_by_cmp string_cmp) (at_text id) es fs → lookup (at_text id) fs ≡ Some v
      → map_of fs ≡ insert (map_of es) id v
  map_put es fs id v keeps here = same_map nat_list_cmp_total one_text _ _ (λ q.
      get_of fs q ∙ (updated es fs id (Some v) keeps here q ∙ (ap (cond (eq_by_cmp text_cmp q id) (Some v)) (sym (get_of es q))
      ∙ sym (get-insert nat_list_cmp_total (map_of es) id v q))))

  pub map_cut : (es fs : List (String Global × X)) (id : Text) → KeepsOthers (eq_by_cmp string_cmp) (at_text id) es fs → lookup (at_text id) fs ≡ None →
      map_of fs ≡ remove (map_of es) id
  map_cut es fs id keeps here = same_map nat_list_cmp_total one_text _ _ (λ q.
      get_of fs q ∙ (updated es fs id None keeps here q ∙ (ap (cond (eq_by_cmp text_cmp q id) None) (sym (get_of es q))
      ∙ sym (get-remove nat_list_cmp_total (map_of es) id q))))

-- an existing slot is written
pub reset_some : (title : Text) (time : Option Text) (es fs : List (String Global × Option FeatureValue)) (id : Text) (slot old : Option FeatureValue) →
    lookup (at_text id) es ≡ Some old → KeepsOthers (eq_by_cmp string_cmp) (at_text id) es fs → lookup (at_text id) fs ≡ Some slot →
    ◌≡◌ {A = SlotCollection} (record { title = title; time = time; slots = map_of fs })
    (reset_slot (record { title = title; time = time; slots = map_of es }) id slot)
reset_some title time es fs id slot old there keeps here =
    let s : SlotCollection = record { title = title; time = time; slots = map_of es } in
    ap (λ m. record { title = title; time = time; slots = m }) (map_put es fs id slot keeps here)
    ∙ sym (ap (λ o. cond {A = SlotCollection} (is_some o) (put_slot s id slot) s) (get_of es id ∙ there))

pub reset_none : (title : Text) (time : Option Text) (es : List (String Global × Option FeatureValue)) (id : Text) (slot : Option FeatureValue) →
    lookup (at_text id) es ≡ None → ◌≡◌ {A = SlotCollection} (record { title = title; time = time; slots = map_of es })
    (reset_slot (record { title = title; time = time; slots = map_of es }) id slot)
reset_none title time es id slot none =
    let s : SlotCollection = record { title = title; time = time; slots = map_of es } in
    sym (ap (λ o. cond {A = SlotCollection} (is_some o) (put_slot s id slot) s) (get_of es id ∙ none))
