-- The members of an object, one after another.
use Rattle.std.proofs.Common.{◌≡◌, true, false, List, [], ◌∷◌, String, Global, Less, string_bytes, string_cmp, refl}
use Rattle.std.proofs.lemmas.Str.{is_utf8-from_IsUtf8, IsUtf8-string_bytes}
use Rattle.std.specs.List.{AllByRecursion}
use Rattle.std.specs.List.Sorted.{IsStrictlySortedBy}
use Rattle.std.specs.Map.{keys_of}
use Rattle.serde_json.specs.View.{view, members_view}
use Rattle.serde_json.specs.Written.{has_float, members_have_float}
use Rattle.serde_json.specs.declared.value.Value.{Value}
use Rattle.streetmap_json.specs.ExactData.{is_before, is_exact, are_exact_members}

abbrev pub Entry : Type 0
Entry = String Global × Value

first_is_before : (name : String Global) (es : List Entry) → AllByRecursion (λ y. string_cmp name y ≡ Less) (keys_of es) → is_before (string_bytes name) (members_view es) ≡ true
first_is_before name [] h = refl
first_is_before name (e ∷ es) h = rw (h.0, first_is_before name es h.1) refl

pub rest_is_sorted : (e : Entry) (es : List Entry) → IsStrictlySortedBy string_cmp (keys_of (e ∷ es)) → IsStrictlySortedBy string_cmp (keys_of es)
unfolding IsStrictlySortedBy
rest_is_sorted e es h = h.1

pub rest_is_exact : (e : Entry) (es : List Entry) → IsStrictlySortedBy string_cmp (keys_of (e ∷ es)) → is_exact (view e.1) ≡ true → are_exact_members (members_view (e ∷ es)) ≡ are_exact_members (members_view es)
unfolding IsStrictlySortedBy
rest_is_exact e es sorted h = rw (is_utf8-from_IsUtf8 (string_bytes e.0) (IsUtf8-string_bytes e.0), first_is_before e.0 es sorted.0, h) refl

pub rest_is_whole : (e : Entry) (es : List Entry) → has_float (view e.1) ≡ false → members_have_float (members_view (e ∷ es)) ≡ members_have_float (members_view es)
rest_is_whole e es h = rw h refl
