-- The text of a batch reads as the batch with the times of its features left out.
use Rattle.std.proofs.Common.{◌≡◌, ℕ, ◌+◌, ◌<◌, ◌≤◌, Bool, true, ◌&&◌, IsTrue, All, List, []}
use Rattle.std.proofs.Common.{◌∷◌, length, map, Option, None, Some, Ok, codes, refl, ap, arith}
use Rattle.std.specs.List.{list_all}
use Rattle.std.specs.Str.{is_utf8}
use Rattle.std.proofs.lemmas.Grind.{common_steps}
use Rattle.std.proofs.lemmas.List.{length-map}
use Rattle.std.proofs.lemmas.List.Elements.{All-nil, All-cons, All-head, All-tail}
use Rattle.std.proofs.lemmas.Str.{is_utf8-from_IsUtf8, IsUtf8-from_ascii}
use Rattle.std.proofs.lemmas.Str.Ascii.{IsAscii-from_all}
use Rattle.serde_json.specs.Data.{Data, depth, items_depth}
use Rattle.serde_json.specs.Read.{max_depth}
use Rattle.serde_json.specs.View.{items_of}
use Rattle.streetmap_json.specs.ExactData.{is_exact, are_exact}
use Rattle.streetmap_geojson.specs.FeatureValue.{FeatureValue}
use Rattle.streetmap_feature_text.proofs.Again.{feature_again, depth_feature, both}
use Rattle.streetmap_feature_text.proofs.ExactFeatures.{exact_feature, ascii_utf8}
use Rattle.streetmap_feature_text.proofs.JsonTexts.{text_again}
use Rattle.streetmap_feature_text.specs.Written.{feature_data}
use Rattle.streetmap_batch.proofs.Readings.{batch_again}
use Rattle.streetmap_batch.specs.Text.{Text}
use Rattle.streetmap_batch.specs.BatchFacts.{IsTitle, IsTimePropertyIf, IsSoundEdit, IsSoundBatch}
use Rattle.streetmap_batch.specs.BatchValue as edit
use Rattle.streetmap_batch.specs.BatchValue.{EditValue, BatchValue}
use Rattle.streetmap_batch.specs.BatchMeaning.{IsEdit, AreEdits, IsBatch, IsBatchText}
use Rattle.streetmap_batch.specs.ParsedBatches.{has_only, list_of}
use Rattle.streetmap_batch.specs.ParsedBatches.{batch_of}
use Rattle.streetmap_batch.specs.BatchText.{feature_edit_data, edit_data, batch_data, batch_text}
use Rattle.streetmap_batch.specs.Names.{is_id_byte, is_key_byte, is_key, is_collection_id}
use Rattle.streetmap_replay.specs.Again.{untimed_edit, untimed_batch}
use Rattle.streetmap_replay.specs.Again.{BatchTextReadsAgain}

-- ---- what is written for an edit reads as it

list_of-items_of : (ds : List Data) → list_of (items_of ds) ≡ ds
list_of-items_of [] = refl
list_of-items_of (d ∷ ds) = ap (λ (xs : List Data). d ∷ xs) (list_of-items_of ds)

open_reads : (name title : Text) (time : Option Text) → IsTrue (is_collection_id name) →
    IsTitle title → IsTimePropertyIf time →
    IsEdit (edit_data (edit.«open» name title time)) (edit.«open» name title time)
unfolding edit_data has_only
open_reads name title None h k l =
    (record { only = refl; op_is = refl; collection_is = refl; named = h }, (refl, k.0), refl)
open_reads name title (Some time) h k l = (
  record { only = refl; op_is = refl; collection_is = refl; named = h },
  (refl, k.0),
  (time, refl, l.0, refl),
)

edit_reads : (e : EditValue) → IsSoundEdit e → IsEdit (edit_data e) (untimed_edit e)
unfolding edit_data has_only
edit_reads (edit.«open» name title time) h = open_reads name title time h.0 h.1 h.2
edit_reads (edit.insert name f) h = (
  record { only = refl; op_is = refl; collection_is = refl; named = h.0 },
  (feature_data f, refl, feature_again f h.1),
)
edit_reads (edit.replace name f) h = (
  record { only = refl; op_is = refl; collection_is = refl; named = h.0 },
  (feature_data f, refl, feature_again f h.1),
)
edit_reads (edit.delete name id) h = (
  record { only = refl; op_is = refl; collection_is = refl; named = h.0 },
  (_, refl, (h.1, refl)),
)

edits_read : (es : List EditValue) → All IsSoundEdit es →
    AreEdits (map edit_data es) (map untimed_edit es)
edits_read [] h = tt
edits_read (e ∷ es) h = (
  edit_reads e (All-head IsSoundEdit e es h),
  edits_read es (All-tail IsSoundEdit e es h),
)

batch_reads : (b : BatchValue) → IsSoundBatch b → IsBatch (batch_data b) (untimed_batch b)
unfolding batch_data has_only
batch_reads b h = record {
  only = refl;
  key_is = refl;
  named = h.named;
  edits_are = (
    map edit_data b.edits,
    ap (λ (ds : List Data). Some ds) (list_of-items_of (map edit_data b.edits)),
    edits_read b.edits h.made,
  );
  few = let same = length-map b.edits untimed_edit in let few = h.few in omega (arith, same, few);
}

-- ---- its text is kept exactly

low_id_byte : (b : ℕ) → is_id_byte b ≡ true → b < 128
low_id_byte b h = grind (arith, common_steps)

low_key_byte : (b : ℕ) → is_key_byte b ≡ true → b < 128
low_key_byte b h = grind (arith, common_steps)

lows : (test : ℕ → Bool) → ((b : ℕ) → test b ≡ true → b < 128) → (bs : List ℕ) →
    list_all test bs ≡ true → All (λ b. b < 128) bs
lows test low [] h = All-nil (λ b. b < 128)
lows test low (b ∷ bs) h =
    let p = both (test b) (list_all test bs) h in
    All-cons (λ b. b < 128) b bs (low b p.0) (lows test low bs p.1)

low_utf8 : (test : ℕ → Bool) → ((b : ℕ) → test b ≡ true → b < 128) → (bs : List ℕ) →
    list_all test bs ≡ true → is_utf8 bs ≡ true
low_utf8 test low bs h = is_utf8-from_IsUtf8 bs
    (IsUtf8-from_ascii bs (IsAscii-from_all bs (lows test low bs h)))

collection_utf8 : (name : Text) → IsTrue (is_collection_id name) → is_utf8 name ≡ true
unfolding is_collection_id
collection_utf8 name h = low_utf8 is_id_byte low_id_byte name (both _ _ (both _ _ h).1).1

key_utf8 : (key : Text) → IsTrue (is_key key) → is_utf8 key ≡ true
unfolding is_key
key_utf8 key h = low_utf8 is_key_byte low_key_byte key (both _ _ h).1

exact_open : (name title : Text) (time : Option Text) → is_utf8 name ≡ true → IsTitle title →
    IsTimePropertyIf time → IsTrue (is_exact (edit_data (edit.«open» name title time)))
unfolding edit_data
exact_open name title None h k l =
    rw (
      h,
      k.1,
      ascii_utf8 (codes "collection") refl,
      ascii_utf8 (codes "op") refl,
      ascii_utf8 (codes "open") refl,
      ascii_utf8 (codes "title") refl,
    ) refl
exact_open name title (Some time) h k l =
    rw (
      h,
      k.1,
      l.1,
      ascii_utf8 (codes "collection") refl,
      ascii_utf8 (codes "op") refl,
      ascii_utf8 (codes "open") refl,
      ascii_utf8 (codes "time") refl,
      ascii_utf8 (codes "title") refl,
    ) refl

exact_feature_edit : (op name : Text) (f : FeatureValue) → is_utf8 op ≡ true → is_utf8 name ≡ true →
    IsTrue (is_exact (feature_data f)) → IsTrue (is_exact (feature_edit_data op name f))
exact_feature_edit op name f h k l =
    rw (
      h,
      k,
      l,
      ascii_utf8 (codes "collection") refl,
      ascii_utf8 (codes "feature") refl,
      ascii_utf8 (codes "op") refl,
    ) refl

exact_edit : (e : EditValue) → IsSoundEdit e → IsTrue (is_exact (edit_data e))
unfolding edit_data
exact_edit (edit.«open» name title time) h =
    exact_open name title time (collection_utf8 name h.0) h.1 h.2
exact_edit (edit.insert name f) h =
    exact_feature_edit (codes "insert") name f (ascii_utf8 (codes "insert") refl)
    (collection_utf8 name h.0) (exact_feature f h.1)
exact_edit (edit.replace name f) h =
    exact_feature_edit (codes "replace") name f (ascii_utf8 (codes "replace") refl)
    (collection_utf8 name h.0) (exact_feature f h.1)
exact_edit (edit.delete name id) h =
    rw (
      collection_utf8 name h.0,
      h.2,
      ascii_utf8 (codes "collection") refl,
      ascii_utf8 (codes "id") refl,
      ascii_utf8 (codes "op") refl,
      ascii_utf8 (codes "delete") refl,
    ) refl

exact_edits : (es : List EditValue) → All IsSoundEdit es →
    IsTrue (are_exact (items_of (map edit_data es)))
exact_edits [] h = refl
exact_edits (e ∷ es) h =
    rw (
      exact_edit e (All-head IsSoundEdit e es h),
      exact_edits es (All-tail IsSoundEdit e es h),
    ) refl

pub exact_batch : (b : BatchValue) → IsSoundBatch b → IsTrue (is_exact (batch_data b))
unfolding batch_data
exact_batch b h = rw (
  exact_edits b.edits h.made,
  key_utf8 b.key h.named,
  ascii_utf8 (codes "edits") refl,
  ascii_utf8 (codes "key") refl,
) refl

-- ---- it does not nest too deep

shallow_edit : (e : EditValue) → IsSoundEdit e → depth (edit_data e) ≤ 65
unfolding edit_data
shallow_edit (edit.«open» name title None) h = omega arith
shallow_edit (edit.«open» name title (Some time)) h = omega arith
shallow_edit (edit.insert name f) h = let k = depth_feature f h.1 in omega (arith, k)
shallow_edit (edit.replace name f) h = let k = depth_feature f h.1 in omega (arith, k)
shallow_edit (edit.delete name id) h = omega arith

shallow_edits : (es : List EditValue) → All IsSoundEdit es →
    items_depth (items_of (map edit_data es)) ≤ 65
shallow_edits [] h = omega arith
shallow_edits (e ∷ es) h = let k = shallow_edit e (All-head IsSoundEdit e es h) in let more =
    shallow_edits es (All-tail IsSoundEdit e es h) in omega (arith, k, more)

shallow_batch : (b : BatchValue) → IsSoundBatch b → depth (batch_data b) ≤ max_depth
unfolding batch_data
shallow_batch b h = let k = shallow_edits b.edits h.made in omega (arith, k)

-- ---- the whole

pub is_batch_text : (b : BatchValue) → IsSoundBatch b → IsBatchText (batch_text b) (untimed_batch b)
unfolding batch_text
is_batch_text b h = (
  batch_data b,
  text_again (batch_data b) (exact_batch b h) (shallow_batch b h),
  batch_reads b h,
)

pub text_is_again : (bytes : List ℕ) (b : BatchValue) → IsBatchText bytes b → batch_of bytes ≡ Ok b
text_is_again bytes b h = rw h.1 (batch_again h.0 b h.2)

pub reads_again : BatchTextReadsAgain
reads_again b h = let text =
    is_batch_text b h in (text, text_is_again (batch_text b) (untimed_batch b) text)
