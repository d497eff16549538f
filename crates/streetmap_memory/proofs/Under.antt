-- The features under the ids between two.
use Rattle.std.proofs.Common.{◌≡◌, List, [], ◌∷◌, Bool, true, false, cond, not, T, Option, None}
use Rattle.std.proofs.Common.{Some, String, string_bytes, map, filter, refl, sym, ap, ◌∙◌}
use Rattle.std.specs.Prelude.{◌&&◌}
use Rattle.std.specs.String.{string_cmp}
use Rattle.std.specs.Ordering.{is_lt, is_gt, is_le, is_ge, is_eq, ordering_reverse}
use Rattle.std.specs.declared.alloc.Global.{Global}
use Rattle.std.specs.declared.cmp.Ordering.{Ordering}
use Rattle.std.specs.declared.cmp.Ordering.TheVariants.{Less, Equal, Greater}
use Rattle.std.specs.declared.ops.Bound.TheVariants.{Included}
use Rattle.std.specs.BTreeMap.Range.{range_contains, entries_between}
use Rattle.std.specs.Cmp.Lexicographic.{nat_list_cmp_total}
use Rattle.std.proofs.lemmas.Cmp.{tied_itself, upto}
use Rattle.std.specs.Map.{values_of}
use Rattle.std.specs.FinMap.{entries, find, is_sorted, get-entries, entries_sorted}
use Rattle.std.specs.FinMap.Entries.{below_all}
use Rattle.streetmap_geojson.specs.FeatureValue.{FeatureValue}
use Rattle.streetmap_batch.specs.Text.{Text, text_cmp}
use Rattle.streetmap_ledger.specs.State.{Collection}
use Rattle.streetmap_ledger.specs.WellFormed.{HoldsFeatures}
use Rattle.streetmap_ledger.specs.Pages.{is_between, run_of}
use Rattle.streetmap_memory.specs.Slots.{by_text, with_live, live_values, live_entries}
use Rattle.streetmap_memory.specs.Slots.{is_under, run_under}
use Rattle.streetmap_ledger.proofs.TextMaps.{one_text, first, second, none_below}

-- a slot under its key
abbrev Slot : Type 0
Slot = String Global × Option FeatureValue

-- a feature under its id
abbrev Entry : Type 0
Entry = Text × FeatureValue

pub same_run : (a b c d : Text) (es fs : List Entry) → a ≡ c → b ≡ d → es ≡ fs
    → run_under a b es ≡ run_under c d fs
same_run a b c d es fs from to all =
    ap (λ i. run_under i b es) from
    ∙ (ap (λ i. run_under c i es) to ∙ ap (run_under c d) all)

-- a run by whether its first entry is of it
run_step : (a b : Text) (e : Entry) (es : List Entry)
    → run_under a b (e ∷ es)
    ≡ cond (is_under a b e) (e.1 ∷ run_under a b es) (run_under a b es)
run_step a b e es = by (is_under a b e) where
  by : (t : Bool)
      → map (λ d. d.1) (cond t (e ∷ filter (is_under a b) es) (filter (is_under a b) es))
      ≡ cond t (e.1 ∷ run_under a b es) (run_under a b es)
  by true = refl
  by false = refl

-- ---- the slots in a range of keys

turned_low : (r : Ordering) → is_le (ordering_reverse r) ≡ is_ge r
turned_low Less = refl
turned_low Equal = refl
turned_low Greater = refl

turned_high : (r : Ordering) → not (is_lt (ordering_reverse r)) ≡ is_le r
turned_high Less = refl
turned_high Equal = refl
turned_high Greater = refl

module _ (a b : String Global) where
  abbrev is_in_range : String Global → Bool
  is_in_range k = range_contains string_cmp (Included a) (Included b) k

  abbrev run : List Entry → List FeatureValue
  run es = run_under (string_bytes a) (string_bytes b) es

  -- a key in the range is an id between the two
  in_range : (k : String Global) (f : FeatureValue)
      → is_in_range k ≡ is_under (string_bytes a) (string_bytes b) (string_bytes k, f)
  in_range k f =
      let from = text_cmp (string_bytes k) (string_bytes a) in
      let to = text_cmp (string_bytes k) (string_bytes b) in
      let turned_from = nat_list_cmp_total.antisymm (string_bytes a) (string_bytes k) in
      let turned_to = nat_list_cmp_total.antisymm (string_bytes b) (string_bytes k) in
      let low = ap is_le turned_from ∙ turned_low from in
      let high = ap (λ r. not (is_lt r)) turned_to ∙ turned_high to in
      ap (λ t. t && not (is_lt (string_cmp b k))) low ∙ ap (λ t. is_ge from && t) high

  run_more : (k : String Global) (f : FeatureValue) (es : List Entry) (t : Bool)
      → is_in_range k ≡ t → run ((string_bytes k, f) ∷ es) ≡ cond t (f ∷ run es) (run es)
  run_more k f es t is =
      run_step (string_bytes a) (string_bytes b) (string_bytes k, f) es
      ∙ ap (λ u. cond u (f ∷ run es) (run es)) (sym (in_range k f) ∙ is)

  run_with : (k : String Global) (o : Option FeatureValue) (es : List Slot) (fs : List Entry)
      (t : Bool) → is_in_range k ≡ t → live_values (values_of es) ≡ run fs
      → live_values (values_of (cond t ((k, o) ∷ es) es)) ≡ run (with_live (string_bytes k) o fs)
  run_with k None es fs true is h = h
  run_with k None es fs false is h = h
  run_with k (Some f) es fs true is h = ap (λ gs. f ∷ gs) h ∙ sym (run_more k f fs true is)
  run_with k (Some f) es fs false is h = h ∙ sym (run_more k f fs false is)

  -- the features in the slots of the range are those under the ids between the two
  pub run_in_range : (es : List Slot)
      → live_values (values_of (entries_between string_cmp (Included a) (Included b) es))
      ≡ run (live_entries (by_text es))
  run_in_range [] = refl
  run_in_range (e ∷ es) =
      run_with e.0 e.1 (entries_between string_cmp (Included a) (Included b) es)
      (live_entries (by_text es)) (is_in_range e.0) refl (run_in_range es)

-- ---- a run whose first id comes after its last one

clash : {B : Type 0} (t : Bool) → t ≡ true → t ≡ false → B
clash t far near = cc

too_far : (r s : Ordering) (t : Bool) → t ≡ true
    → (is_gt (ordering_reverse r) ≡ false → is_gt s ≡ false → t ≡ false)
    → is_ge r && is_le s ≡ false
too_far Less s t far near = refl
too_far Equal Less t far near = clash t far (near refl refl)
too_far Equal Equal t far near = clash t far (near refl refl)
too_far Equal Greater t far near = refl
too_far Greater Less t far near = clash t far (near refl refl)
too_far Greater Equal t far near = clash t far (near refl refl)
too_far Greater Greater t far near = refl

module _ (a b : Text) (far : is_gt (text_cmp a b) ≡ true) where
  not_under : (e : Entry) → is_under a b e ≡ false
  not_under e =
      let turned = ap is_gt (nat_list_cmp_total.antisymm a e.0) in
      too_far (text_cmp e.0 a) (text_cmp e.0 b) (is_gt (text_cmp a b)) far
      (λ low high. upto nat_list_cmp_total a e.0 b (turned ∙ low) high)

  pub none_backwards : (es : List Entry) → run_under a b es ≡ []
  none_backwards [] = refl
  none_backwards (e ∷ es) =
      let rest = run_under a b es in
      run_step a b e es
      ∙ (ap (λ t. cond t (e.1 ∷ rest) rest) (not_under e) ∙ none_backwards es)

-- ---- features that are kept under their ids

-- each that is found has the id that it is found under
abbrev AllNamed : List Entry → Type 0
AllNamed es = (id : Text) (f : FeatureValue) → find text_cmp id es ≡ Some f → f.id ≡ id

none_some : {B : Type 0} (f : FeatureValue) → None ≡ Some f → B
none_some f e = cc

-- an id of the rest is not that of the first
apart : (e : Entry) (es : List Entry) (f : FeatureValue) (id : Text)
    → T (below_all text_cmp e.0 es) → find text_cmp id es ≡ Some f
    → (r : Ordering) → text_cmp id e.0 ≡ r
    → cond (is_eq r) (Some e.1) (find text_cmp id es) ≡ Some f
apart e es f id below found Less tie = found
apart e es f id below found Greater tie = found
apart e es f id below found Equal tie =
    let moved = ap (λ i. find text_cmp i es) (sym (one_text id e.0 tie)) in
    none_some f (sym (none_below e.0 es below) ∙ (moved ∙ found))

first_named : (e : Entry) (es : List Entry) → AllNamed (e ∷ es) → e.1.id ≡ e.0
first_named e es named =
    let tied = tied_itself nat_list_cmp_total e.0 in
    named e.0 e.1 (ap (λ r. cond (is_eq r) (Some e.1) (find text_cmp e.0 es)) tied)

rest_named : (e : Entry) (es : List Entry)
    → T (is_sorted text_cmp (e ∷ es)) → AllNamed (e ∷ es) → AllNamed es
rest_named e es sorted named id f found =
    named id f (apart e es f id (first _ _ sorted) found (text_cmp id e.0) refl)

module _ (a b : Text) where
  run_named : (es : List Entry) → T (is_sorted text_cmp es) → AllNamed es
      → run_under a b es ≡ filter (is_between a b) (map (λ e. e.1) es)
  run_named [] sorted named = refl
  run_named (e ∷ es) sorted named =
      let rest = run_named es (second _ _ sorted) (rest_named e es sorted named) in
      let fs = filter (is_between a b) (map (λ d. d.1) es) in
      run_step a b e es
      ∙ (ap (λ gs. cond (is_under a b e) (e.1 ∷ gs) gs) rest
      ∙ ap (λ i. cond (is_ge (text_cmp i a) && is_le (text_cmp i b)) (e.1 ∷ fs) fs)
      (sym (first_named e es named)))

  -- if features are kept under their ids, those under the ids between two are the run
  pub run_of_named : (c : Collection) → HoldsFeatures c
      → run_under a b (entries c.features) ≡ run_of a b c
  run_of_named c holds = run_named (entries c.features) (entries_sorted c.features)
      (λ id f found. (holds id f (get-entries c.features id ∙ found)).named)
