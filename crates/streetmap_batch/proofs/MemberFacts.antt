-- The members of an edit, of which the feature is kept apart.
use Rattle.std.proofs.Common.{◌≡◌, ℕ, Bool, true, false, not, ◌&&◌, ◌||◌, List, [], ◌∷◌, Option, None, Some, Result, Ok, Err, IsTrue, Global}
use Rattle.std.proofs.Common.{codes, option_map, refl, sym, ap, subst, ◌∙◌, string_bytes, string_cmp}
use Rattle.std.proofs.Common.{String as StdString}
use Rattle.std.specs.Prelude.{is_none, is_some, OnOk, OnErr}
use Rattle.std.specs.BTreeMap.{insert_entry}
use Rattle.std.specs.List.{list_all}
use Rattle.std.specs.Map.{keys_of}
use Rattle.serde_json.specs.Data.{Data, null, boolean, number, string, array, object, Members, put}
use Rattle.serde_json.specs.Find.{as_object, get_member}
use Rattle.serde_json.specs.View.{view, members_view}
use Rattle.serde_json.specs.declared.value.Value.{Value}
use Rattle.serde_json.proofs.Views.{Entry, get_member-put, get_member-put_other, members_view-insert_entry}
use Rattle.streetmap_feature_reader.specs.Places.{with_found}
use Rattle.streetmap_feature_reader.specs.StatedFeature.{stated_data}
use Rattle.streetmap_feature_reader.specs.declared.stated_feature.StatedFeature.{StatedFeature}
use Rattle.streetmap_batch.specs.Text.{Text}
use Rattle.streetmap_batch.specs.ParsedBatches.{names_pass, edit_at}
use Rattle.streetmap_batch.specs.declared.batch_fault.BatchFault.TheVariants.{BadBatch}
use Rattle.streetmap_batch.proofs.Puts.{put_again, put_swap, names_put}

names_pass-members_view : (test : Text → Bool) (es : List Entry) → names_pass test (members_view es) ≡ list_all (λ name. test (string_bytes name)) (keys_of es)
names_pass-members_view test [] = refl
names_pass-members_view test (e ∷ es) = ap (λ (rest : Bool). test (string_bytes e.0) && rest) (names_pass-members_view test es)

-- a feature replaces the one before
pub feature_put : (before : Option Data) (d : Data) (ms : Members)
    → with_found (codes "feature") (Some d) ms ≡ put (codes "feature") d (with_found (codes "feature") before ms)
feature_put None d ms = refl
feature_put (Some e) d ms = sym (put_again (codes "feature") d e ms)

module _ (stated : Option Data) (name : Text) (apart : name ≡ codes "feature" → ⊥) where
  -- another member leaves the feature
  pub another_put : (d : Data) (ms : Members) → with_found (codes "feature") stated (put name d ms) ≡ put name d (with_found (codes "feature") stated ms)
  another_put d ms = by stated where
    by : (o : Option Data) → with_found (codes "feature") o (put name d ms) ≡ put name d (with_found (codes "feature") o ms)
    by None = refl
    by (Some e) = sym (put_swap name (codes "feature") d e apart ms)

  -- the feature leaves another member
  pub another_kept : (ms : Members) → get_member name (with_found (codes "feature") stated ms) ≡ get_member name ms
  another_kept ms = by stated where
    by : (o : Option Data) → get_member name (with_found (codes "feature") o ms) ≡ get_member name ms
    by None = refl
    by (Some e) = get_member-put_other name (codes "feature") e ms apart

none_is : (o : Option Data) → IsTrue (is_none o) → None ≡ o
none_is None h = refl
none_is (Some d) h = absurd cc

pub feature_found : (stated : Option Data) (ms : Members) → IsTrue (is_none (get_member (codes "feature") ms))
    → stated ≡ get_member (codes "feature") (with_found (codes "feature") stated ms)
feature_found None ms h = none_is _ h
feature_found (Some d) ms h = sym (get_member-put (codes "feature") d ms)

either_way : (a b : Bool) → (a && b) ≡ (b && a)
either_way true true = refl
either_way true false = refl
either_way false true = refl
either_way false false = refl

not_counted : (b : Bool) → b ≡ (b && true)
not_counted true = refl
not_counted false = refl

names_found : (test : Text → Bool) (stated : Option Data) (ms : Members)
    → names_pass test (with_found (codes "feature") stated ms) ≡ (names_pass test ms && (not (is_some stated) || test (codes "feature")))
names_found test None ms = not_counted (names_pass test ms)
names_found test (Some d) ms = names_put test (codes "feature") d ms ∙ either_way (test (codes "feature")) (names_pass test ms)

some_seen : (o : Option StatedFeature) → is_some (option_map stated_data o) ≡ is_some o
some_seen None = refl
some_seen (Some f) = refl

pub names_are : (test : Text → Bool) (o : Option StatedFeature) (es : List Entry)
    → (list_all (λ name. test (string_bytes name)) (keys_of es) && (not (is_some o) || test (codes "feature")))
    ≡ names_pass test (with_found (codes "feature") (option_map stated_data o) (members_view es))
names_are test o es = sym (names_found test (option_map stated_data o) (members_view es) ∙ rw (names_pass-members_view test es, some_seen o) refl)

-- after another member was inserted or not, the feature is still apart
pub still_apart : {X E : Type 0} (r : Result X E) (es left : List Entry) (k : StdString Global) (v : Value) → (codes "feature" ≡ string_bytes k → ⊥)
    → OnOk r (left ≡ insert_entry string_cmp es k v) → OnErr r (left ≡ es)
    → IsTrue (is_none (get_member (codes "feature") (members_view es))) → IsTrue (is_none (get_member (codes "feature") (members_view left)))
still_apart (Ok x) es left k v other done unchanged h =
    let same = ap members_view done ∙ members_view-insert_entry es k v in
    let kept = get_member-put_other (codes "feature") (string_bytes k) (view v) (members_view es) other in
    subst (λ o. IsTrue (is_none o)) (sym (ap (get_member (codes "feature")) same ∙ kept)) h
still_apart (Err e) es left k v other done unchanged h =
    subst (λ (xs : List Entry). IsTrue (is_none (get_member (codes "feature") (members_view xs)))) (sym unchanged) h

-- what is no object is no edit
pub no_object_no_edit : (place : ℕ) (d : Data) → as_object d ≡ None → edit_at place d ≡ Err (BadBatch (Some place))
unfolding edit_at
no_object_no_edit place null h = refl
no_object_no_edit place (boolean b) h = refl
no_object_no_edit place (number n) h = refl
no_object_no_edit place (string s) h = refl
no_object_no_edit place (array ds) h = refl
no_object_no_edit place (object ms) h = absurd cc
