-- What the collections represent, and edits taken back.
use Rattle.std.proofs.Common.{◌≡◌, List, [], ◌∷◌, ◌++◌, Bool, true, false, cond, Option, None, Some, String, Result, Ok, Err, OnErr, refl, sym, ap, ◌∙◌}
use Rattle.std.specs.Option.{option_map, option_flatten, option_and_then, is_some}
use Rattle.std.specs.String.{string_cmp}
use Rattle.std.specs.Ordering.{eq_by_cmp}
use Rattle.std.specs.declared.alloc.Global.{Global}
use Rattle.std.specs.Cmp.Lexicographic.{nat_list_cmp_total}
use Rattle.std.specs.Map.{lookup, KeepsOthers}
use Rattle.std.specs.FinMap.{empty, entries, get, insert, remove, find, get-insert, get-remove, get-empty, get-entries, same_map}
use Rattle.streetmap_geojson.specs.FeatureValue.{FeatureValue}
use Rattle.streetmap_batch.specs.Text.{Text, text_cmp}
use Rattle.streetmap_ledger.specs.State.{Features}
use Rattle.streetmap_memory.specs.Slots.{Slots, SlotCollection, SlotCollections, map_of, filled, live_of, live, collected, collected_of, collections_of}
use Rattle.streetmap_memory.specs.Slots.{slot_in, put_slot, cut_slot, reset_slot, changed_collection, with_collection, put_in, cut_in, reset_in}
use Rattle.streetmap_memory.specs.Undo.{undone, rewound}
use Rattle.streetmap_memory.specs.declared.undo.Undo.{Undo}
use Rattle.streetmap_ledger.proofs.TextMaps.{one_text}
use Rattle.streetmap_memory.proofs.Maps.{at_text, get_of, map_put, map_cut}
use Rattle.streetmap_memory.proofs.Finite.{insert_same, insert_again, remove_inserted, get_inserted}

-- ---- a collection that `get_mut` lends
pub collection_some : (es fs : List (String Global × SlotCollection)) (name : Text) (old new : SlotCollection) (f : SlotCollection → SlotCollection) →
    lookup (at_text name) es ≡ Some old → KeepsOthers (eq_by_cmp string_cmp) (at_text name) es fs → lookup (at_text name) fs ≡ Some new → new ≡ f old →
    map_of fs ≡ with_collection (map_of es) name f
collection_some es fs name old new f was keeps is e =
    map_put es fs name new keeps is ∙ (ap (insert (map_of es) name) e ∙ sym (ap (changed_collection (map_of es) name f) (get_of es name ∙ was)))

pub collection_none : (es : List (String Global × SlotCollection)) (name : Text) (f : SlotCollection → SlotCollection) → lookup (at_text name) es ≡ None →
    map_of es ≡ with_collection (map_of es) name f
collection_none es name f none = sym (ap (changed_collection (map_of es) name f) (get_of es name ∙ none))

pub collection_same : (es fs : List (String Global × SlotCollection)) (name : Text) (old new : SlotCollection) → lookup (at_text name) es ≡ Some old →
    KeepsOthers (eq_by_cmp string_cmp) (at_text name) es fs → lookup (at_text name) fs ≡ Some new → new ≡ old → map_of fs ≡ map_of es
collection_same es fs name old new was keeps is e =
    map_put es fs name new keeps is ∙ insert_same (map_of es) name new (get_of es name ∙ (was ∙ ap Some (sym e)))

pub slot_at : (es : List (String Global × SlotCollection)) (name id : Text) (o : Option SlotCollection) → lookup (at_text name) es ≡ o →
    slot_in (map_of es) name id ≡ option_and_then (λ (s : SlotCollection). get s.slots id) o
slot_at es name id o e = ap (option_and_then (λ (s : SlotCollection). get s.slots id)) (get_of es name ∙ e)

-- ---- what the collections represent
flat_choice : (b : Bool) (x : Option FeatureValue) (o : Option (Option FeatureValue)) → cond b x (option_flatten o) ≡ option_flatten (cond b (Some x) o)
flat_choice true x o = refl
flat_choice false x o = refl

filled_gets : (m : Features) (k : Text) (x : Option FeatureValue) (q : Text) → get (filled m k x) q ≡ cond (eq_by_cmp text_cmp q k) x (get m q)
filled_gets m k None q = get-remove nat_list_cmp_total m k q
filled_gets m k (Some d) q = get-insert nat_list_cmp_total m k d q

pub live_gets : (es : List (Text × Option FeatureValue)) (q : Text) → get (live_of es) q ≡ option_flatten (find text_cmp q es)
live_gets [] q = get-empty text_cmp q
live_gets (e ∷ es) q = filled_gets (live_of es) e.0 e.1 q ∙ (ap (cond (eq_by_cmp text_cmp q e.0) e.1) (live_gets es q)
    ∙ flat_choice (eq_by_cmp text_cmp q e.0) e.1 (find text_cmp q es))

pub get_live : (slots : Slots) (q : Text) → get (live slots) q ≡ option_flatten (get slots q)
get_live slots q = live_gets (entries slots) q ∙ ap option_flatten (sym (get-entries slots q))

pub live_insert : (slots : Slots) (id : Text) (x : Option FeatureValue) → live (insert slots id x) ≡ filled (live slots) id x
live_insert slots id x = same_map nat_list_cmp_total one_text _ _ (λ q.
    get_live (insert slots id x) q ∙ (ap option_flatten (get-insert nat_list_cmp_total slots id x q)
    ∙ (sym (flat_choice (eq_by_cmp text_cmp q id) x (get slots q)) ∙ (ap (cond (eq_by_cmp text_cmp q id) x) (sym (get_live slots q))
    ∙ sym (filled_gets (live slots) id x q)))))

pub live_empty : live empty ≡ empty
live_empty = same_map nat_list_cmp_total one_text _ _ (λ q. get_live empty q ∙ (ap option_flatten (get-empty text_cmp q) ∙ sym (get-empty text_cmp q)))

map_choice : (b : Bool) (s : SlotCollection) (o : Option SlotCollection) → cond b (Some (collected s)) (option_map collected o)
    ≡ option_map collected (cond b (Some s) o)
map_choice true s o = refl
map_choice false s o = refl

pub collected_gets : (es : List (Text × SlotCollection)) (q : Text) → get (collected_of es) q ≡ option_map collected (find text_cmp q es)
collected_gets [] q = get-empty text_cmp q
collected_gets (e ∷ es) q = get-insert nat_list_cmp_total (collected_of es) e.0 (collected e.1) q
    ∙ (ap (cond (eq_by_cmp text_cmp q e.0) (Some (collected e.1))) (collected_gets es q) ∙ map_choice (eq_by_cmp text_cmp q e.0) e.1 (find text_cmp q es))

pub get_collection : (t : SlotCollections) (q : Text) → get (collections_of t) q ≡ option_map collected (get t q)
get_collection t q = collected_gets (entries t) q ∙ ap (option_map collected) (sym (get-entries t q))

pub collections_insert : (t : SlotCollections) (name : Text) (s : SlotCollection) → collections_of (insert t name s)
    ≡ insert (collections_of t) name (collected s)
collections_insert t name s = same_map nat_list_cmp_total one_text _ _ (λ q.
    get_collection (insert t name s) q ∙ (ap (option_map collected) (get-insert nat_list_cmp_total t name s q)
    ∙ (sym (map_choice (eq_by_cmp text_cmp q name) s (get t q)) ∙ (ap (cond (eq_by_cmp text_cmp q name) (Some (collected s))) (sym (get_collection t q))
    ∙ sym (get-insert nat_list_cmp_total (collections_of t) name (collected s) q)))))

-- ---- edits taken back
-- a second change of a collection that takes the first one back
taken_back : (t : SlotCollections) (name : Text) (f g : SlotCollection → SlotCollection) (o : Option SlotCollection) → get t name ≡ o →
    ((s : SlotCollection) → o ≡ Some s → g (f s) ≡ s) → with_collection (changed_collection t name f o) name g ≡ t
taken_back t name f g None e back = ap (changed_collection t name g) e
taken_back t name f g (Some s) e back =
    ap (changed_collection (insert t name (f s)) name g) (get_inserted t name (f s)) ∙ (insert_again t name (f s) (g (f s))
    ∙ insert_same t name (g (f s)) (e ∙ ap Some (sym (back s refl))))

pub cut_put : (t : SlotCollections) (name id : Text) (x : Option FeatureValue) → slot_in t name id ≡ None → cut_in (put_in t name id x) name id ≡ t
cut_put t name id x none = taken_back t name (λ s. put_slot s id x) (λ s. cut_slot s id) (get t name) refl (λ s e.
    ap (λ m. record { title = s.title; time = s.time; slots = m }) (remove_inserted s.slots id x
    (ap (option_and_then (λ (r : SlotCollection). get r.slots id)) (sym e) ∙ none)))

reset_put_slot : (s : SlotCollection) (id : Text) (x o : Option FeatureValue) → get s.slots id ≡ Some o → reset_slot (put_slot s id x) id o ≡ s
reset_put_slot s id x o was =
    ap (λ p. cond {A = SlotCollection} (is_some p) (put_slot (put_slot s id x) id o) (put_slot s id x)) (get_inserted s.slots id x)
    ∙ ap (λ m. record { title = s.title; time = s.time; slots = m }) (insert_again s.slots id x o ∙ insert_same s.slots id o was)

pub reset_put : (t : SlotCollections) (name id : Text) (x o : Option FeatureValue) → slot_in t name id ≡ Some o → reset_in (put_in t name id x) name id o ≡ t
reset_put t name id x o was = taken_back t name (λ s. put_slot s id x) (λ s. reset_slot s id o) (get t name) refl (λ s e.
    reset_put_slot s id x o (ap (option_and_then (λ (r : SlotCollection). get r.slots id)) (sym e) ∙ was))

pub rewound_last : (us : List Undo) (u : Undo) (t : SlotCollections) → rewound (us ++ u ∷ []) t ≡ rewound us (undone u t)
rewound_last [] u t = refl
rewound_last (v ∷ us) u t = ap (undone v) (rewound_last us u t)

pub any_err : {T E : Type 0} (r : Result T E) (P : Type 0) → P → OnErr r P
any_err (Ok x) P p = tt
any_err (Err e) P p = p

pub collections_empty : collections_of empty ≡ empty
collections_empty = same_map nat_list_cmp_total one_text _ _ (λ q. get_collection empty q
    ∙ (ap (option_map collected) (get-empty text_cmp q) ∙ sym (get-empty text_cmp q)))

-- what was put under a new key is removed again
pub cut_kept : {X : Type 0} (es fs gs : List (String Global × X)) (k q name : Text) (v : X) → k ≡ name → q ≡ name → map_of fs ≡ insert (map_of es) k v →
    get (map_of es) name ≡ None → KeepsOthers (eq_by_cmp string_cmp) (at_text q) fs gs → lookup (at_text q) gs ≡ None → map_of gs ≡ map_of es
cut_kept es fs gs k q name v ke qe e none keeps here =
    map_cut fs gs q keeps here ∙ (ap (λ i. remove (map_of fs) i) qe ∙ (ap (λ m. remove m name) (e ∙ ap (λ i. insert (map_of es) i v) ke)
    ∙ remove_inserted (map_of es) name v none))
