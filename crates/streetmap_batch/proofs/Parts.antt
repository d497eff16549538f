-- The members of a batch, as they are read.
use Rattle.std.proofs.Common.{◌≡◌, ℕ, Bool, true, false, ◌&&◌, List, [], ◌∷◌, codes, Option, None, Some, Result, Err, MatchOption, option_map, option_and_then, refl, sym, ap, subst, ◌∙◌, Vec, Global}
use Rattle.std.specs.Prelude.{bytes_eq}
use Rattle.std.specs.Str.{is_utf8}
use Rattle.std.proofs.lemmas.Slice.Eq.{bytes_eq-Decides}
use Rattle.json.specs.Token.{Token}
use Rattle.json.specs.Json.{value, parse_map}
use Rattle.serde_json.specs.Data.{Data, null, boolean, number, string, array, object, Members, put}
use Rattle.serde_json.specs.Find.{as_array, as_object, get_member}
use Rattle.serde_json.specs.View.{view}
use Rattle.serde_json.specs.declared.value.Value.{Value}
use Rattle.serde_json.proofs.Views.{get_member-put, get_member-put_other}
use Rattle.streetmap_json.specs.Values.{value_at, members_at, whole}
use Rattle.streetmap_json.specs.Reads.{Fails}
use Rattle.streetmap_json.specs.declared.fault.ParseFault.{ParseFault}
use Rattle.streetmap_json.specs.declared.fault.ParseFault.TheVariants.{Memory, NotJson}
use Rattle.streetmap_json.specs.JsonText.{utf8_value}
use Rattle.streetmap_json.proofs.Fronts.{whole_value, more_than_a_value, no_value, no_object, empty_front}
use Rattle.streetmap_batch.specs.Text.{Text}
use Rattle.streetmap_batch.proofs.Puts.{names_put}
use Rattle.streetmap_batch.specs.BatchFaults.{Gives}
use Rattle.streetmap_batch.specs.ParsedBatches.{list_of, array_at, may_have, names_pass, has_only, batch}
use Rattle.streetmap_batch.specs.BatchTokens.{edits_view, few_edits, IsArrayRead, AreRead, IsWholeRead, batch_in}
use Rattle.streetmap_batch.specs.declared.batch_fault.BatchFault.{BatchFault}
use Rattle.streetmap_batch.specs.declared.batch_fault.BatchFault.TheVariants.{BadBatch}
use Rattle.streetmap_batch.specs.declared.batch_parser.Parts.{Parts}
use Rattle.streetmap_batch.specs.declared.edit.Edit.{Edit}
use Rattle.streetmap_batch.specs.declared.format.Format.TheVariants as formats

-- ---- one more member

array_put : (name : Text) (d : Data) (ms : Members) → name ≡ codes "edits" → array_at (codes "edits") (object (put name d ms)) ≡ option_map list_of (as_array d)
array_put name d ms is = ap (λ n. option_map list_of (option_and_then as_array (get_member (codes "edits") (put n d ms)))) is ∙ ap (λ o. option_map list_of (option_and_then as_array o)) (get_member-put (codes "edits") d ms)

array_kept : (name : Text) (d : Data) (ms : Members) → (codes "edits" ≡ name → ⊥) → array_at (codes "edits") (object (put name d ms)) ≡ array_at (codes "edits") (object ms)
array_kept name d ms other = ap (λ o. option_map list_of (option_and_then as_array o)) (get_member-put_other (codes "edits") name d ms other)

abbrev Stated : Type 0
Stated = Option (Result (Vec Edit Global) BatchFault)

-- what an array of elements is known by
abbrev HasEdits : Option (List Data) → Stated → Type 0
HasEdits found stated = MatchOption stated (found ≡ None) (λ edits. (ds : List Data) × (found ≡ Some ds) × Gives edits_view edits (few_edits ds))

array_given : (d : Data) (stated : Stated) → IsArrayRead d stated → HasEdits (option_map list_of (as_array d)) stated
array_given d None h = ap (option_map list_of) h
array_given d (Some edits) h = (list_of h.0, ap (option_map list_of) h.1, h.2)

module _ (ms : Members) (parts : Parts) (held : AreRead ms parts) (name : Text) (d : Data) where
  pub with_edits : name ≡ codes "edits" → (stated : Stated) → IsArrayRead d stated → AreRead (put name d ms) (record { only = parts.only; key = parts.key; edits = stated })
  with_edits is stated h = record {
    only = held.only ∙ sym (names_put (may_have formats.Batch) name d ms ∙ ap (λ n. may_have formats.Batch n && names_pass (may_have formats.Batch) ms) is);
    key = held.key ∙ sym (get_member-put_other (codes "key") name d ms (λ e. differs (e ∙ is)));
    edits = subst (λ found. HasEdits found stated) (sym (array_put name d ms is)) (array_given d stated h);
  } where
    differs : codes "key" ≡ codes "edits" → ⊥
    differs e = absurd cc

  pub with_key : name ≡ codes "key" → (v : Value) → view v ≡ d → AreRead (put name d ms) (record { only = parts.only; key = Some v; edits = parts.edits })
  with_key is v seen = record {
    only = held.only ∙ sym (names_put (may_have formats.Batch) name d ms ∙ ap (λ n. may_have formats.Batch n && names_pass (may_have formats.Batch) ms) is);
    key = ap (λ e. Some e) seen ∙ sym (ap (λ n. get_member (codes "key") (put n d ms)) is ∙ get_member-put (codes "key") d ms);
    edits = subst (λ found. HasEdits found parts.edits) (sym (array_kept name d ms (λ e. differs (e ∙ is)))) held.edits;
  } where
    differs : codes "edits" ≡ codes "key" → ⊥
    differs e = absurd cc

  pub with_another : bytes_eq name (codes "edits") ≡ false → bytes_eq name (codes "key") ≡ false → AreRead (put name d ms) (record { only = false; key = parts.key; edits = parts.edits })
  with_another no_edits no_key = record {
    only = sym (names_put (may_have formats.Batch) name d ms ∙ rw (no_edits, no_key) refl);
    key = held.key ∙ sym (get_member-put_other (codes "key") name d ms (λ e. apart (codes "key") no_key (sym e)));
    edits = subst (λ found. HasEdits found parts.edits) (sym (array_kept name d ms (λ e. apart (codes "edits") no_edits (sym e)))) held.edits;
  } where
    apart : (other : Text) → bytes_eq name other ≡ false → name ≡ other → ⊥
    apart other e is = let yes = (bytes_eq-Decides name other).1 is in absurd cc

-- ---- the whole

-- a value that is no object is no batch
no_object_no_batch : (d : Data) → as_object d ≡ None → batch d ≡ Err (BadBatch None)
unfolding batch has_only
no_object_no_batch null h = refl
no_object_no_batch (boolean b) h = refl
no_object_no_batch (number n) h = refl
no_object_no_batch (string s) h = refl
no_object_no_batch (array ds) h = refl
no_object_no_batch (object ms) h = absurd cc

no_batch : (o : Option Data) → o ≡ None → batch_in o ≡ Err (BadBatch None)
no_batch o e = ap batch_in e

-- no tokens, and those that begin with no brace
pub without_tokens : (ts : List Token) → ts ≡ [] → batch_in (whole (value 127 ts)) ≡ Err (BadBatch None)
without_tokens ts e = no_batch _ (no_value (value 127 ts) (ap (value_at 127) e ∙ empty_front 127))

pub without_brace : (all ts : List Token) (t : Token) → all ≡ t ∷ ts → (t ≡ Token.begin_object → ⊥) → batch_in (whole (value 127 all)) ≡ Err (BadBatch None)
without_brace all ts t is other = by (value_at 127 all) refl where
  by : (o : Option (Data × List Token)) → value_at 127 all ≡ o → batch_in (whole (value 127 all)) ≡ Err (BadBatch None)
  by None e = no_batch _ (no_value (value 127 all) e)
  by (Some (d, [])) e = ap batch_in (whole_value (value 127 all) d e) ∙ no_object_no_batch d (no_object 127 t ts [] d (sym (ap (value_at 127) is) ∙ e) other)
  by (Some (d, u ∷ rest)) e = no_batch _ (more_than_a_value (value 127 all) d u rest e)

-- members that cannot be read, and tokens after the object
pub without_members : (all : List Token) → value_at 127 all ≡ None → batch_in (whole (value 127 all)) ≡ Err (BadBatch None)
without_members all e = no_batch _ (no_value (value 127 all) e)

pub with_more_after : (all rest : List Token) (d : Data) (t : Token) → value_at 127 all ≡ Some (d, t ∷ rest) → batch_in (whole (value 127 all)) ≡ Err (BadBatch None)
with_more_after all rest d t e = no_batch _ (more_than_a_value (value 127 all) d t rest e)

pub fault_of_members : (all ts : List Token) (fault : ParseFault) → value_at 127 all ≡ parse_map object (members_at 126 ts) → Fails fault (members_at 126 ts) → IsWholeRead (whole (value 127 all)) (Err fault)
fault_of_members all ts Memory opened h = tt
fault_of_members all ts NotJson opened h = without_members all (opened ∙ ap (parse_map object) h)

-- bytes that are not UTF-8
pub not_utf8 : (bytes : List ℕ) → (is_utf8 bytes ≡ true → ⊥) → batch_in (utf8_value bytes) ≡ Err (BadBatch None)
not_utf8 bytes other = by (is_utf8 bytes) refl where
  by : (b : Bool) → is_utf8 bytes ≡ b → batch_in (utf8_value bytes) ≡ Err (BadBatch None)
  by true e = absurd (other e)
  by false e = rw e refl
