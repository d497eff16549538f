-- What is read is the batch that the value is, and the batch that it is is read.
use Rattle.std.proofs.Common.{◌≡◌, ℕ, ◌+◌, ◌≤◌, Bool, true, false, cond, List, [], ◌∷◌, length, Option, None, Some, Result, Ok, Err, IsTrue, option_map, option_and_then, ok_or, codes, refl, sym, ap, subst, ◌∙◌, arith}
use Rattle.std.specs.Prelude.{IfOk, nat_le, bytes_eq}
use Rattle.std.proofs.lemmas.Bool.{leb-true, le-leb}
use Rattle.std.proofs.lemmas.Slice.Eq.{bytes_eq-Decides}
use Rattle.serde_json.specs.Data.{Data, null, boolean, number, string, array, object}
use Rattle.serde_json.specs.Find.{as_str, get}
use Rattle.streetmap_geojson.specs.declared.fault.Fault.{Fault}
use Rattle.streetmap_geojson.specs.FeatureValue.{FeatureValue}
use Rattle.streetmap_geojson.specs.ParsedFeatures.{feature}
use Rattle.streetmap_geojson.specs.FeatureMeaning.{IsId, ReadsAs}
use Rattle.streetmap_geojson.specs.Id.{id_from}
use Rattle.streetmap_geojson.specs.JsonText.{json_of}
use Rattle.streetmap_geojson.proofs.Wholes.{feature_found, feature_again}
use Rattle.streetmap_batch.specs.Text.{Text}
use Rattle.streetmap_batch.proofs.IdFacts.{id_found, id_again}
use Rattle.streetmap_batch.specs.Names.{is_key, is_collection_id, is_title, is_time_property, passing}
use Rattle.streetmap_batch.specs.BatchValue as value
use Rattle.streetmap_batch.specs.BatchValue.{EditValue, BatchValue}
use Rattle.streetmap_batch.specs.BatchFaults.{Gives}
use Rattle.streetmap_batch.specs.ParsedBatches.{◌>>=◌, unless, text_at, array_at, has_only, shaped, operation_of, operation_at, collection_at, title_of, time_of, as_shape, as_cause, stated_feature, stated_id, open_at, feature_at, delete_at, edit_as, edit_at, and_more, edits_after, keyed, batch, as_whole, batch_of, most_edits}
use Rattle.streetmap_batch.specs.BatchMeaning.{HasText, IsEditOf, IsTitleOf, IsTimeMember, HasMember, IsEdit, AreEdits, IsBatch, IsBatchText}
use Rattle.streetmap_batch.specs.declared.batch_fault.BatchFault.{BatchFault}
use Rattle.streetmap_batch.specs.declared.batch_fault.BatchFault.TheVariants.{BadBatch, BadKey, TooManyEdits}
use Rattle.streetmap_batch.specs.declared.format.Format.{Format}
use Rattle.streetmap_batch.specs.declared.format.Format.TheVariants as formats
use Rattle.streetmap_batch.specs.declared.format.Operation.{Operation}
use Rattle.streetmap_batch.specs.declared.format.Operation.TheVariants as operations

-- ---- steps

ok_is : {A : Type 0} (x y : A) → (let done : Result A BatchFault = Ok x in done) ≡ Ok y → x ≡ y
ok_is x y e = cc

bind_ok : {A B : Type 0} (r : Result A BatchFault) (f : A → Result B BatchFault) (y : B) → (r >>= f) ≡ Ok y → (x : A) × (r ≡ Ok x) × (f x ≡ Ok y)
bind_ok (Ok x) f y e = (x, refl, e)
bind_ok (Err d) f y e = absurd cc

unless_ok : (b : Bool) (fault : BatchFault) (t : Bool) → unless b fault ≡ Ok t → IsTrue b
unless_ok true fault t e = refl
unless_ok false fault t e = absurd cc

or_ok : {A : Type 0} (o : Option A) (fault : BatchFault) (x : A) → ok_or o fault ≡ Ok x → o ≡ Some x
or_ok None fault x e = absurd cc
or_ok (Some y) fault x e = let same : y ≡ x = cc in ap (λ w. Some w) same

passes : (test : Text → Bool) (s t : Text) → passing test s ≡ Some t → (s ≡ t) × IsTrue (test t)
passes test s t e = passes_by test s t (test s) refl e where
  passes_by : (test : Text → Bool) (s t : Text) (b : Bool) → test s ≡ b → cond b (Some s) None ≡ Some t → (s ≡ t) × IsTrue (test t)
  passes_by test s t true h e = let same : s ≡ t = cc in (same, subst (λ (w : Text). IsTrue (test w)) same h)
  passes_by test s t false h e = absurd cc

passed_text : (test : Text → Bool) (o : Option Text) (t : Text) → option_and_then (passing test) o ≡ Some t → (o ≡ Some t) × IsTrue (test t)
passed_text test None t e = absurd cc
passed_text test (Some s) t e = let p = passes test s t e in (ap (λ (w : Text). Some w) p.0, p.1)

-- ---- members that are texts

str_found : (d : Data) (s : Text) → as_str d ≡ Some s → d ≡ string s
str_found (string t) s e = let same : t ≡ s = cc in ap string same
str_found null s e = absurd cc
str_found (boolean b) s e = absurd cc
str_found (number n) s e = absurd cc
str_found (array ds) s e = absurd cc
str_found (object ms) s e = absurd cc

in_text : (o : Option Data) (s : Text) → option_and_then as_str o ≡ Some s → o ≡ Some (string s)
in_text None s e = absurd cc
in_text (Some d) s e = ap (λ (w : Data). Some w) (str_found d s e)

text_found : (name : Text) (d : Data) (s : Text) → text_at name d ≡ Some s → HasText name s d
text_found name d s e = in_text (get name d) s e

text_again : (name : Text) (d : Data) (s : Text) → HasText name s d → text_at name d ≡ Some s
text_again name d s h = rw h refl

-- ---- operations

abbrev name_of : Operation → Text
name_of operations.Open = codes "open"
name_of operations.Insert = codes "insert"
name_of operations.Replace = codes "replace"
name_of operations.Delete = codes "delete"

texts_equal : (s t : Text) → bytes_eq s t ≡ true → s ≡ t
texts_equal s t e = (bytes_eq-Decides s t).0 e

operation_found : (s : Text) (o : Operation) → operation_of s ≡ Some o → s ≡ name_of o
operation_found s o e = by (bytes_eq s (codes "open")) (bytes_eq s (codes "insert")) (bytes_eq s (codes "replace")) (bytes_eq s (codes "delete")) refl refl refl refl e where
  by : (a b c d : Bool) → bytes_eq s (codes "open") ≡ a → bytes_eq s (codes "insert") ≡ b → bytes_eq s (codes "replace") ≡ c → bytes_eq s (codes "delete") ≡ d
      → cond a (Some operations.Open) (cond b (Some operations.Insert) (cond c (Some operations.Replace) (cond d (Some operations.Delete) None))) ≡ Some o → s ≡ name_of o
  by true b c d p q r t e = let is : operations.Open ≡ o = cc in subst (λ (w : Operation). s ≡ name_of w) is (texts_equal s (codes "open") p)
  by false true c d p q r t e = let is : operations.Insert ≡ o = cc in subst (λ (w : Operation). s ≡ name_of w) is (texts_equal s (codes "insert") q)
  by false false true d p q r t e = let is : operations.Replace ≡ o = cc in subst (λ (w : Operation). s ≡ name_of w) is (texts_equal s (codes "replace") r)
  by false false false true p q r t e = let is : operations.Delete ≡ o = cc in subst (λ (w : Operation). s ≡ name_of w) is (texts_equal s (codes "delete") t)
  by false false false false p q r t e = absurd cc

in_operation : (o : Option Text) (op : Operation) → option_and_then operation_of o ≡ Some op → o ≡ Some (name_of op)
in_operation None op e = absurd cc
in_operation (Some s) op e = ap (λ (w : Text). Some w) (operation_found s op e)

op_found : (d : Data) (op : Operation) → operation_at d ≡ Some op → HasText (codes "op") (name_of op) d
op_found d op e = text_found (codes "op") d (name_of op) (in_operation (text_at (codes "op") d) op e)

named_again : (op : Operation) → operation_of (name_of op) ≡ Some op
named_again operations.Open = refl
named_again operations.Insert = refl
named_again operations.Replace = refl
named_again operations.Delete = refl

op_again : (d : Data) (op : Operation) → HasText (codes "op") (name_of op) d → operation_at d ≡ Some op
op_again d op h = rw (text_again (codes "op") d (name_of op) h) (named_again op)

-- ---- the parts of an edit

collection_found : (place : ℕ) (d : Data) (t : Text) → collection_at place d ≡ Ok t → HasText (codes "collection") t d × IsTrue (is_collection_id t)
collection_found place d t e =
    let p = passed_text is_collection_id (text_at (codes "collection") d) t (or_ok _ (BadBatch (Some place)) t e) in
    (text_found (codes "collection") d t p.0, p.1)

collection_again : (place : ℕ) (d : Data) (t : Text) → HasText (codes "collection") t d → IsTrue (is_collection_id t) → collection_at place d ≡ Ok t
collection_again place d t h k = rw (text_again (codes "collection") d t h, k) refl

title_found : (place : ℕ) (collection : Text) (o : Option Data) (t : Text) → title_of place collection o ≡ Ok t → IsTitleOf o collection t
title_found place collection None t e = sym (ok_is collection t e)
title_found place collection (Some d) t e =
    let p = passed_text is_title (as_str d) t (or_ok _ (BadBatch (Some place)) t e) in
    (str_found d t p.0, p.1)

title_again : (place : ℕ) (collection : Text) (o : Option Data) (t : Text) → IsTitleOf o collection t → title_of place collection o ≡ Ok t
title_again place collection None t h = ap (λ (w : Text). Ok w) (sym h)
title_again place collection (Some d) t h = rw (h.0, h.1) refl

some_found : (o : Option Text) (time : Option Text) → option_map (λ (t : Text). Some t) o ≡ Some time → (t : Text) × (o ≡ Some t) × (time ≡ Some t)
some_found None time e = absurd cc
some_found (Some t) time e = let same : Some t ≡ time = cc in (t, refl, sym same)

time_found : (place : ℕ) (o : Option Data) (time : Option Text) → time_of place o ≡ Ok time → IsTimeMember o time
time_found place None time e = sym (ok_is None time e)
time_found place (Some d) time e =
    let s = some_found (option_and_then (passing is_time_property) (as_str d)) time (or_ok _ (BadBatch (Some place)) time e) in
    let p = passed_text is_time_property (as_str d) s.0 s.1 in
    (s.0, str_found d s.0 p.0, p.1, s.2)

time_again : (place : ℕ) (o : Option Data) (time : Option Text) → IsTimeMember o time → time_of place o ≡ Ok time
time_again place None time h = ap (λ (w : Option Text). Ok w) (sym h)
time_again place (Some d) time h = rw (h.1, h.2, h.3) refl

cause_ok : (place : ℕ) (r : Result FeatureValue Fault) (f : FeatureValue) → as_cause place r ≡ Ok f → r ≡ Ok f
cause_ok place (Ok g) f e = let same : g ≡ f = cc in ap (λ (w : FeatureValue). Ok w) same
cause_ok place (Err fault) f e = absurd cc

shape_ok : (place : ℕ) (r : Result Text Fault) (id : Text) → as_shape place r ≡ Ok id → r ≡ Ok id
shape_ok place (Ok t) id e = let same : t ≡ id = cc in ap (λ (w : Text). Ok w) same
shape_ok place (Err fault) id e = absurd cc

stated_feature_found : (place : ℕ) (o : Option Data) (f : FeatureValue) → stated_feature place o ≡ Ok f → (stated : Data) × (o ≡ Some stated) × ReadsAs None stated f
stated_feature_found place o f e =
    let d = bind_ok (shaped place o) _ f e in
    (d.0, or_ok o (BadBatch (Some place)) d.0 d.1, feature_found None None d.0 f (cause_ok place (feature None d.0) f d.2))

stated_feature_again : (place : ℕ) (stated : Data) (f : FeatureValue) → ReadsAs None stated f → stated_feature place (Some stated) ≡ Ok f
stated_feature_again place stated f h = rw (feature_again None None stated f h) refl

stated_id_found : (place : ℕ) (o : Option Data) (id : Text) → stated_id place o ≡ Ok id → (stated : Data) × (o ≡ Some stated) × IsId stated id
stated_id_found place o id e =
    let d = bind_ok (shaped place o) _ id e in
    (d.0, or_ok o (BadBatch (Some place)) d.0 d.1, id_found d.0 id (shape_ok place (id_from d.0) id d.2))

stated_id_again : (place : ℕ) (stated : Data) (id : Text) → IsId stated id → stated_id place (Some stated) ≡ Ok id
stated_id_again place stated id h = rw (id_again stated id h) refl

-- ---- edits

edit_of : (format : Format) (op : Operation) (place : ℕ) (d : Data) (t : Bool) (collection : Text) → operation_at d ≡ Some op → unless (has_only format d) (BadBatch (Some place)) ≡ Ok t
    → collection_at place d ≡ Ok collection → IsEditOf format (name_of op) collection d
edit_of format op place d t collection is only stated =
    let c = collection_found place d collection stated in
    record { only = unless_ok (has_only format d) (BadBatch (Some place)) t only; op_is = op_found d op is; collection_is = c.0; named = c.1 }

open_found : (place : ℕ) (d : Data) (e : EditValue) → operation_at d ≡ Some operations.Open → open_at place d ≡ Ok e → IsEdit d e
unfolding open_at
open_found place d e is read =
    let o = bind_ok (unless (has_only formats.Open d) (BadBatch (Some place))) _ e read in
    let c = bind_ok (collection_at place d) _ e o.2 in
    let t = bind_ok (title_of place c.0 (get (codes "title") d)) _ e c.2 in
    let p = bind_ok (time_of place (get (codes "time") d)) _ e t.2 in
    let made : value.«open» c.0 t.0 p.0 ≡ e = ok_is (value.«open» c.0 t.0 p.0) e p.2 in
    subst (λ (w : EditValue). IsEdit d w) made
    (edit_of formats.Open operations.Open place d o.0 c.0 is o.1 c.1, title_found place c.0 (get (codes "title") d) t.0 t.1, time_found place (get (codes "time") d) p.0 p.1)

abbrev IsFeatureEdit : Text → Data → Text × FeatureValue → Type 0
IsFeatureEdit op d p = IsEditOf formats.Feature op p.0 d × HasMember (codes "feature") (ReadsAs None) d p.1

feature_edit_found : (op : Operation) (place : ℕ) (d : Data) (p : Text × FeatureValue) → operation_at d ≡ Some op → feature_at place d ≡ Ok p → IsFeatureEdit (name_of op) d p
unfolding feature_at
feature_edit_found op place d p is read =
    let o = bind_ok (unless (has_only formats.Feature d) (BadBatch (Some place))) _ p read in
    let c = bind_ok (collection_at place d) _ p o.2 in
    let f = bind_ok (stated_feature place (get (codes "feature") d)) _ p c.2 in
    let made : (c.0, f.0) ≡ p = ok_is (c.0, f.0) p f.2 in
    subst (λ (w : Text × FeatureValue). IsFeatureEdit (name_of op) d w) made
    (edit_of formats.Feature op place d o.0 c.0 is o.1 c.1, stated_feature_found place (get (codes "feature") d) f.0 f.1)

delete_found : (place : ℕ) (d : Data) (e : EditValue) → operation_at d ≡ Some operations.Delete → delete_at place d ≡ Ok e → IsEdit d e
unfolding delete_at
delete_found place d e is read =
    let o = bind_ok (unless (has_only formats.Delete d) (BadBatch (Some place))) _ e read in
    let c = bind_ok (collection_at place d) _ e o.2 in
    let i = bind_ok (stated_id place (get (codes "id") d)) _ e c.2 in
    let made : value.delete c.0 i.0 ≡ e = ok_is (value.delete c.0 i.0) e i.2 in
    subst (λ (w : EditValue). IsEdit d w) made
    (edit_of formats.Delete operations.Delete place d o.0 c.0 is o.1 c.1, stated_id_found place (get (codes "id") d) i.0 i.1)

edit_as_found : (o : Option Operation) (place : ℕ) (d : Data) (e : EditValue) → operation_at d ≡ o → edit_as o place d ≡ Ok e → IsEdit d e
edit_as_found None place d e is read = absurd cc
edit_as_found (Some operations.Open) place d e is read = open_found place d e is read
edit_as_found (Some operations.Insert) place d e is read =
    let p = bind_ok (feature_at place d) _ e read in
    let made : value.insert p.0.0 p.0.1 ≡ e = ok_is (value.insert p.0.0 p.0.1) e p.2 in
    subst (λ (w : EditValue). IsEdit d w) made (feature_edit_found operations.Insert place d p.0 is p.1)
edit_as_found (Some operations.Replace) place d e is read =
    let p = bind_ok (feature_at place d) _ e read in
    let made : value.replace p.0.0 p.0.1 ≡ e = ok_is (value.replace p.0.0 p.0.1) e p.2 in
    subst (λ (w : EditValue). IsEdit d w) made (feature_edit_found operations.Replace place d p.0 is p.1)
edit_as_found (Some operations.Delete) place d e is read = delete_found place d e is read

pub edit_found : (place : ℕ) (d : Data) (e : EditValue) → edit_at place d ≡ Ok e → IsEdit d e
unfolding edit_at
edit_found place d e read = edit_as_found (operation_at d) place d e refl read

feature_edit_again : (place : ℕ) (op : Text) (d : Data) (p : Text × FeatureValue) → IsFeatureEdit op d p → feature_at place d ≡ Ok p
unfolding feature_at
feature_edit_again place op d p h =
    rw (h.0.only, collection_again place d p.0 h.0.collection_is h.0.named, h.1.1, stated_feature_again place h.1.0 p.1 h.1.2) refl

pub edit_again : (place : ℕ) (d : Data) (e : EditValue) → IsEdit d e → edit_at place d ≡ Ok e
unfolding edit_at open_at delete_at
edit_again place d (value.«open» collection title time) h =
    rw (op_again d operations.Open h.0.op_is, h.0.only, collection_again place d collection h.0.collection_is h.0.named, title_again place collection (get (codes "title") d) title h.1, time_again place (get (codes "time") d) time h.2) refl
edit_again place d (value.insert collection f) h = rw (op_again d operations.Insert h.0.op_is, feature_edit_again place (codes "insert") d (collection, f) h) refl
edit_again place d (value.replace collection f) h = rw (op_again d operations.Replace h.0.op_is, feature_edit_again place (codes "replace") d (collection, f) h) refl
edit_again place d (value.delete collection id) h =
    rw (op_again d operations.Delete h.0.op_is, h.0.only, collection_again place d collection h.0.collection_is h.0.named, h.1.1, stated_id_again place h.1.0 id h.1.2) refl

-- ---- lists of edits

more_ok : (r : Result EditValue BatchFault) (more : Result (List EditValue) BatchFault) (es : List EditValue) → and_more r more ≡ Ok es
    → (e : EditValue) × (rest : List EditValue) × (r ≡ Ok e) × (more ≡ Ok rest) × (e ∷ rest ≡ es)
more_ok (Ok e) (Ok rest) es h = let same : e ∷ rest ≡ es = cc in (e, rest, refl, refl, same)
more_ok (Ok e) (Err f) es h = absurd cc
more_ok (Err g) more es h = absurd cc

edits_found : (n : ℕ) (ds : List Data) (es : List EditValue) → edits_after n ds ≡ Ok es → AreEdits ds es × (length es ≡ length ds)
unfolding edits_after
edits_found n [] [] h = (tt, refl)
edits_found n [] (e ∷ es) h = absurd cc
edits_found n (d ∷ ds) es h =
    let m = more_ok (edit_at (n + 1) d) (edits_after (n + 1) ds) es h in
    let is : m.0 ∷ m.1 ≡ es = m.4 in
    let more = edits_found (n + 1) ds m.1 m.3 in
    subst (λ (w : List EditValue). AreEdits (d ∷ ds) w × (length w ≡ length (d ∷ ds))) is ((edit_found (n + 1) d m.0 m.2, more.0), omega (arith, more.1))

pub edits_again : (n : ℕ) (ds : List Data) (es : List EditValue) → AreEdits ds es → (edits_after n ds ≡ Ok es) × (length es ≡ length ds)
unfolding edits_after
edits_again n [] [] h = (refl, refl)
edits_again n [] (e ∷ es) h = absurd h
edits_again n (d ∷ ds) [] h = absurd h
edits_again n (d ∷ ds) (e ∷ es) h =
    let more = edits_again (n + 1) ds es h.1 in
    (rw (edit_again (n + 1) d e h.0, more.0) refl, omega (arith, more.1))

-- ---- batches

batch_found : (d : Data) (b : BatchValue) → batch d ≡ Ok b → IsBatch d b
unfolding batch keyed
batch_found d b read =
    let o = bind_ok (unless (has_only formats.Batch d) (BadBatch None)) _ b read in
    let t = bind_ok (ok_or (get (codes "key") d) (BadBatch None)) _ b o.2 in
    let ds = bind_ok (ok_or (array_at (codes "edits") d) (BadBatch None)) _ b t.2 in
    let k = bind_ok (ok_or (option_and_then (passing is_key) (as_str t.0)) BadKey) _ b ds.2 in
    let f = bind_ok (unless (nat_le (length ds.0) most_edits) TooManyEdits) _ b k.2 in
    let es = bind_ok (edits_after 0 ds.0) _ b f.2 in
    let made : record { key = k.0; edits = es.0 } ≡ b = ok_is (record { key = k.0; edits = es.0 }) b es.2 in
    let key = passed_text is_key (as_str t.0) k.0 (or_ok _ BadKey k.0 k.1) in
    let stated : get (codes "key") d ≡ Some t.0 = or_ok _ (BadBatch None) t.0 t.1 in
    let edits = edits_found 0 ds.0 es.0 es.1 in
    let few : length ds.0 ≤ most_edits = leb-true (length ds.0) most_edits (unless_ok (nat_le (length ds.0) most_edits) TooManyEdits f.0 f.1) in
    subst (λ (w : BatchValue). IsBatch d w) made (record {
      only = unless_ok (has_only formats.Batch d) (BadBatch None) o.0 o.1;
      key_is = stated ∙ ap (λ (w : Data). Some w) (str_found t.0 k.0 key.0);
      named = key.1;
      edits_are = (ds.0, or_ok _ (BadBatch None) ds.0 ds.1, edits.0);
      few = omega (arith, few, edits.1);
    })

pub batch_again : (d : Data) (b : BatchValue) → IsBatch d b → batch d ≡ Ok b
unfolding batch keyed
batch_again d b h =
    let edits = edits_again 0 h.edits_are.0 b.edits h.edits_are.2 in
    let few : nat_le (length h.edits_are.0) most_edits ≡ true = le-leb (length h.edits_are.0) most_edits (omega (arith, h.few, edits.1)) in
    rw (h.only, h.key_is, h.edits_are.1, h.named, few, edits.0) refl

whole_ok : (r : Result Data Fault) (d : Data) → as_whole r ≡ Ok d → r ≡ Ok d
whole_ok (Ok x) d e = let same : x ≡ d = cc in ap (λ (w : Data). Ok w) same
whole_ok (Err fault) d e = absurd cc

text_is_found : (bytes : List ℕ) (b : BatchValue) → batch_of bytes ≡ Ok b → IsBatchText bytes b
text_is_found bytes b read =
    let d = bind_ok (as_whole (json_of bytes)) batch b read in
    (d.0, whole_ok (json_of bytes) d.0 d.1, batch_found d.0 b d.2)

text_is_again : (bytes : List ℕ) (b : BatchValue) → IsBatchText bytes b → batch_of bytes ≡ Ok b
text_is_again bytes b h = rw h.1 (batch_again h.0 b h.2)

pub is_found : {X : Type 0} (view : X → BatchValue) (r : Result X BatchFault) (bytes : List ℕ) → Gives view r (batch_of bytes) → IfOk r (λ x. IsBatchText bytes (view x))
is_found view (Ok x) bytes h = text_is_found bytes (view x) h
is_found view (Err e) bytes h = tt

pub is_read : {X : Type 0} (view : X → BatchValue) (r : Result X BatchFault) (bytes : List ℕ) → Gives view r (batch_of bytes) → (b : BatchValue) → IsBatchText bytes b → Gives view r (Ok b)
is_read view r bytes h b is = subst (λ (w : Result BatchValue BatchFault). Gives view r w) (text_is_again bytes b is) h
