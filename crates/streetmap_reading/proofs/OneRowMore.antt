-- One more row.
use Rattle.std.proofs.Common.{refl, ◌≡◌, List, [], ◌∷◌, ◌++◌, map, Option, Some, None, Vec, option_map, sym, ap, subst, ◌∙◌}
use Rattle.std.specs.declared.alloc.Global.{Global}
use Rattle.std.specs.List.{AllByRecursion}
use Rattle.std.specs.Option.{option_copied, option_map_or}
use Rattle.std.specs.FinMap.{values, entries, empty}
use Rattle.std.proofs.lemmas.List.{flat_map_more}
use Rattle.sqlite.specs.Order.{Row}
use Rattle.streetmap_grid.specs.declared.grid_box.GridBox.{GridBox}
use Rattle.streetmap_grid.specs.Values.{PositionValue}
use Rattle.streetmap_grid.specs.Views.{box_value}
use Rattle.streetmap_grid.specs.Bounds.{AreBounds}
use Rattle.streetmap_geojson.specs.FeatureValue.{FeatureValue}
use Rattle.streetmap_geojson.specs.FeatureInvariant.{IsGeometryIf}
use Rattle.streetmap_batch.specs.Text.{Text}
use Rattle.streetmap_ledger.specs.State.{State, Collection}
use Rattle.streetmap_ledger.specs.Outlines.{FeatureOutlineValue, feature_outline_of, feature_outlines_of}
use Rattle.streetmap_ledger.specs.OutlineView.{feature_outline_value, feature_outline_values}
use Rattle.streetmap_ledger.specs.declared.outline.FeatureOutline.{FeatureOutline}
use Rattle.streetmap_ledger.specs.Summaries.{SummaryValue, feature_vertices, all_vertices, extent_if}
use Rattle.streetmap_ledger.specs.SummaryView.{summary_value, summary_values}
use Rattle.streetmap_ledger.specs.declared.summary.Summary.{Summary}
use Rattle.streetmap_query.specs.QueryValue.{QueryValue}
use Rattle.streetmap_ledger.specs.Folds.{IsFoldOf}
use Rattle.streetmap_rows.specs.Rows.{collection_cells}
use Rattle.streetmap_rows.specs.Stored.{IsStored}
use Rattle.streetmap_rows.specs.Representations.{HasTextNames}
use Rattle.streetmap_rows.specs.Views.{collection_view}
use Rattle.streetmap_rows.specs.declared.fault.ReadFault.{ReadFault}
use Rattle.streetmap_rows.specs.declared.fault.ReadFault.TheVariants.{Memory, Store, Unread}
use Rattle.streetmap_reading.proofs.BetweenRows.{map_append}
use Rattle.streetmap_reading.specs.Candidates.{candidate_row}
use Rattle.streetmap_reading.specs.FoldEffects.{IsForMemory, Refuses}
use Rattle.streetmap_reading.specs.declared.candidates.PageRows.{PageRows}
use Rattle.streetmap_reading.specs.Held.{HoldsOutlines, head_of, IsCandidate, HoldsPage}
use Rattle.streetmap_reading.specs.PassResults.{features_in, IsExtentIn, CompletesHead}
use Rattle.streetmap_reading.specs.Views.{PlacedOutline, placed_row, IsOutline, extent_row, feature_extent}
use Rattle.streetmap_reading.proofs.PositionBounds.{feature_bounds}
use Rattle.streetmap_reading.proofs.RowsInTurn.{ends_with, all_before, none_mapped, one_of}

-- a list with one more value, if the rows end with the row of that value
pub one_more : {A B C : Type 0} (value : A → C) (reported : B → C) (row_of : B → Row) (Fine : B → Type 0) (items next : List A) (item : A) (rows : List Row)
    (row : Row) → next ≡ items ++ item ∷ []
    → ((vs : List B) → rows ≡ map row_of vs → AllByRecursion Fine vs → map value items ≡ map reported vs) →
    ((v : B) → row ≡ row_of v → Fine v → value item ≡ reported v)
    → (vs : List B) → rows ++ row ∷ [] ≡ map row_of vs → AllByRecursion Fine vs → map value next ≡ map reported vs
one_more value reported row_of Fine items next item rows row more held reads vs is fine =
    let end = ends_with row_of rows row vs is in
    let all = all_before Fine end.before end.last (subst (AllByRecursion Fine) end.is fine) in
    let front : map value items ≡ map reported end.before = held end.before end.rest all.0 in
    let last : value item ≡ reported end.last = reads end.last end.same all.1 in
    ap (map value) more ∙ map_append value items (item ∷ []) ∙ (λ i. front i ++ last i ∷ []) ∙ sym (map_append reported end.before (end.last ∷ []))
    ∙ ap (map reported) (sym end.is)

-- no outlines
pub outlines_begun : (os : Vec FeatureOutline Global) → os.items ≡ [] → HoldsOutlines os []
outlines_begun os none ps is fine =
    let empty = sym (none_mapped placed_row ps is) in
    ap feature_outline_values none ∙ ap (map (λ (p : PlacedOutline). p.0)) empty

-- outlines, with one more outline
pub outlines_more : (before after : Vec FeatureOutline Global) (outline : FeatureOutline) (rows : List Row) (row : Row) → after.items ≡ before.items ++ outline
    ∷ [] → HoldsOutlines before rows
    → ((p : PlacedOutline) → row ≡ placed_row p → IsOutline p.0 → feature_outline_value outline ≡ p.0) → HoldsOutlines after (rows ++ row ∷ [])
outlines_more before after outline rows row more held reads ps is fine =
    one_more feature_outline_value (λ p. p.0) placed_row (λ p. IsOutline p.0) before.items after.items outline rows row more held reads ps is fine

-- bounds of features, with one more feature
pub wider_bounds : (rows : List Row) (row : Row) (old extent new : Option GridBox) → ((fs : List FeatureValue) → rows
    ≡ map (λ f. extent_row (feature_extent f)) fs → AllByRecursion (λ f. IsGeometryIf f.geometry) fs → AreBounds (all_vertices fs) old)
    → ((f : FeatureValue) → row ≡ extent_row (feature_extent f) → IsGeometryIf f.geometry → option_map box_value extent ≡ feature_extent f) →
    ((ps qs : List PositionValue) → AreBounds ps old → AreBounds qs extent → AreBounds (ps ++ qs) new)
    → (fs : List FeatureValue) → rows ++ row ∷ [] ≡ map (λ f. extent_row (feature_extent f)) fs → AllByRecursion (λ f. IsGeometryIf f.geometry) fs →
    AreBounds (all_vertices fs) new
wider_bounds rows row old extent new held reads both fs is fine =
    let end = ends_with (λ (f : FeatureValue). extent_row (feature_extent f)) rows row fs is in
    let all = all_before (λ (f : FeatureValue). IsGeometryIf f.geometry) end.before end.last
    (subst (AllByRecursion (λ (f : FeatureValue). IsGeometryIf f.geometry)) end.is fine) in
    let own : AreBounds (feature_vertices end.last) extent = feature_bounds extent end.last.geometry all.1 (reads end.last end.same all.1) in
    let P : List PositionValue → Type 0 = λ vs. AreBounds vs new in
    subst P (flat_map_more feature_vertices [] end.before end.last ∙ ap all_vertices (sym end.is))
    (both (all_vertices end.before) (feature_vertices end.last) (held end.before end.rest all.0) own)

-- a row is not taken that no good rows have
pub not_taken : (IsGood : Row → Type 0) (rows : List Row) (row : Row) (fault : ReadFault)
    → Refuses (Unit {0}) fault → (IsGood row → IsForMemory fault)
    → Refuses ((later : List Row) → AllByRecursion IsGood ((rows ++ row ∷ []) ++ later) → ⊥) fault
not_taken IsGood rows row Memory refuses reads = tt
not_taken IsGood rows row Unread refuses reads = λ later all.
    absurd (let clash = reads (one_of IsGood rows row later all) in cc)
not_taken IsGood rows row (Store e) refuses reads = absurd refuses

-- ---- what is read of a collection

pub extended : (s : State) (h : Summary) (key : Text) (e : Option GridBox) → key ≡ (summary_value h).id → IsExtentIn key s e →
    CompletesHead h s (record { id = h.id; title = h.title; time = h.time; extent = e })
extended s h key e is extent name c there head =
    let id : (summary_value h).id ≡ name = ap (λ (v : SummaryValue). v.id) head in
    let title : (summary_value h).title ≡ c.title = ap (λ (v : SummaryValue). v.title) head in
    let time : (summary_value h).time ≡ c.time = ap (λ (v : SummaryValue). v.time) head in
    let at : features_in s key ≡ c.features = ap (features_in s) (is ∙ id) ∙ ap (λ o. option_map_or (λ (d : Collection). d.features) o empty) there in
    let bounds = extent ∙ ap (λ fs. extent_if (all_vertices (values fs))) at in
    λ i. record { id = id i; title = title i; time = time i; extent = bounds i }

pub outlines_reported : (o : Option Collection) (row : Row) (os : List FeatureOutlineValue) → Some row ≡ option_map collection_view o → os
    ≡ map (λ e. feature_outline_of e.0 e.1) (entries (option_map_or (λ (c : Collection). c.features) o empty)) → Some os ≡ option_map feature_outlines_of o
outlines_reported None row os there is = absurd (cc)
outlines_reported (Some c) row os there is = ap Some is

-- heads, with one more head
pub one_head_more : (items next : List Summary) (item : Summary) (rows : List Row) (row : Row) → next ≡ items ++ item ∷ []
    → ((es : List (Text × Collection)) → rows ≡ map (λ e. collection_cells e.0 e.1) es → AllByRecursion (λ e. HasTextNames e.0 e.1) es → summary_values items
    ≡ map (λ e. head_of e.0 e.1) es)
    → ((id : Text) (c : Collection) → row ≡ collection_cells id c → HasTextNames id c → summary_value item ≡ head_of id c)
    → (es : List (Text × Collection)) → rows ++ row ∷ [] ≡ map (λ e. collection_cells e.0 e.1) es → AllByRecursion (λ e. HasTextNames e.0 e.1) es →
    summary_values next ≡ map (λ e. head_of e.0 e.1) es
one_head_more items next item rows row more held reads =
    one_more summary_value (λ e. head_of e.0 e.1) (λ e. collection_cells e.0 e.1) (λ e. HasTextNames e.0 e.1) items next item rows row more held
    (λ e. reads e.0 e.1)

-- ---- a page

-- what reads under the time property of the page as it was begun reads so under that of the page
pub read_so : (start now : PageRows) (rows : List Row) → HoldsPage start now rows → (f : FeatureValue) → IsStored (option_copied start.property) f →
    IsStored (option_copied now.property) f
read_so start now rows held f fine = subst (λ p. IsStored (option_copied p) f) (sym held.property) fine

-- a page with one more candidate
pub page_more : (start before after : PageRows) (feature : FeatureValue) (rows : List Row) (row : Row) → HoldsPage start before rows → after.property
    ≡ before.property
    → ((f : FeatureValue) → row ≡ candidate_row f → IsStored (option_copied before.property) f → feature ≡ f)
    → ((q : QueryValue) (fs : List FeatureValue) → IsFoldOf q before.fold fs → IsFoldOf q after.fold (fs ++ feature ∷ []))
    → HoldsPage start after (rows ++ row ∷ [])
page_more start before after feature rows row held same reads takes = record {
  property = same ∙ held.property;
  page = λ q fs begun is fine.
      let end = ends_with candidate_row rows row fs is in
      let all = all_before (IsStored (option_copied start.property)) end.before end.last
      (subst (AllByRecursion (IsStored (option_copied start.property))) end.is fine) in
      let last : feature ≡ end.last = reads end.last end.same (read_so start before rows held end.last all.1) in
      subst (IsFoldOf q after.fold) ((λ i. end.before ++ last i ∷ []) ∙ sym end.is) (takes q end.before (held.page q end.before begun end.rest all.0));
}

-- a page as it was begun
pub page_begun : (page : PageRows) → HoldsPage page page []
page_begun page = record { property = refl; page = λ q fs begun is fine. subst (IsFoldOf q page.fold) (sym (none_mapped candidate_row fs is)) begun }

-- rows of features that read under a time property are candidates
pub candidates_fine : (property : Option Text) (fs : List FeatureValue) → AllByRecursion (IsStored property) fs →
    AllByRecursion (IsCandidate property) (map candidate_row fs)
candidates_fine property [] h = tt
candidates_fine property (f ∷ fs) h = (record { feature = f; fine = h.0; is = refl }, candidates_fine property fs h.1)
