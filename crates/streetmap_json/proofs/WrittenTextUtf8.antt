-- The text of exact data is UTF-8.
use Rattle.std.proofs.Common.{◌≡◌, suc, ◌^◌, ◌<◌, Bool, true, false, ◌&&◌, pos, negsuc, [], ◌∷◌, ◌++◌, refl, arith, decimal}
use Rattle.std.proofs.lemmas.Bool.{and_parts, ltb-true}
use Rattle.std.proofs.lemmas.Fmt.{IsAscii-decimal}
use Rattle.std.proofs.lemmas.Str.{IsUtf8-append, IsUtf8-nil, IsUtf8-from_ascii, IsUtf8-from_is_utf8, is_utf8-from_IsUtf8}
use Rattle.std.specs.Str.{IsUtf8, is_utf8}
use Rattle.json.specs.Token.{Token}
use Rattle.json.specs.Print.{quoted, token_text}
use Rattle.json.proofs.Printed.Utf8.{IsUtf8-are_ascii, IsUtf8-quoted, IsUtf8-boolean}
use Rattle.serde_json.specs.Data.{Num, unsigned, negative, float, Data, null, boolean, number, string, array, object, Items, no_items, item, Members, no_members, member}
use Rattle.serde_json.specs.Written.{number_text, compact_text, comma_if, items_text, members_text}
use Rattle.streetmap_json.specs.ExactData.{is_whole, is_before, is_exact, are_exact, are_exact_members}

number_utf8 : (n : Num) → is_whole n ≡ true → IsUtf8 (number_text n)
number_utf8 (unsigned n) h = IsUtf8-from_ascii (decimal n) (IsAscii-decimal n (ltb-true n (2 ^ 64) h))
number_utf8 (negative (pos n)) h = absurd cc
number_utf8 (negative (negsuc n)) h =
    let low = ltb-true n (2 ^ 63) h in
    let fits : suc n < 2 ^ 64 = omega (arith, low) in
    IsUtf8-append (45 ∷ []) (decimal (suc n)) (IsUtf8-are_ascii (45 ∷ []) refl) (IsUtf8-from_ascii (decimal (suc n)) (IsAscii-decimal (suc n) fits))
number_utf8 (float x) h = absurd cc

comma_utf8 : (later : Bool) → IsUtf8 (comma_if later)
comma_utf8 true = IsUtf8-are_ascii (44 ∷ []) refl
comma_utf8 false = IsUtf8-nil

mutual
  value_utf8 : (d : Data) → is_exact d ≡ true → IsUtf8 (compact_text d)
  value_utf8 null h = IsUtf8-are_ascii (token_text Token.null) refl
  value_utf8 (boolean b) h = IsUtf8-boolean b
  value_utf8 (number n) h = number_utf8 n h
  value_utf8 (string s) h = IsUtf8-quoted s (IsUtf8-from_is_utf8 s h)
  value_utf8 (array ds) h = IsUtf8-append (91 ∷ []) (items_text false ds) (IsUtf8-are_ascii (91 ∷ []) refl) (items_utf8 false ds h)
  value_utf8 (object ms) h = IsUtf8-append (123 ∷ []) (members_text false ms) (IsUtf8-are_ascii (123 ∷ []) refl) (members_utf8 false ms h)

  items_utf8 : (later : Bool) (ds : Items) → are_exact ds ≡ true → IsUtf8 (items_text later ds)
  items_utf8 later no_items h = IsUtf8-are_ascii (93 ∷ []) refl
  items_utf8 later (item d ds) h =
      let p = and_parts (is_exact d) (are_exact ds) h in
      IsUtf8-append (comma_if later) (compact_text d ++ items_text true ds) (comma_utf8 later)
      (IsUtf8-append (compact_text d) (items_text true ds) (value_utf8 d p.0) (items_utf8 true ds p.1))

  members_utf8 : (later : Bool) (ms : Members) → are_exact_members ms ≡ true → IsUtf8 (members_text later ms)
  members_utf8 later no_members h = IsUtf8-are_ascii (125 ∷ []) refl
  members_utf8 later (member k d ms) h =
      let p = and_parts (is_utf8 k) (is_before k ms && (is_exact d && are_exact_members ms)) h in
      let q = and_parts (is_before k ms) (is_exact d && are_exact_members ms) p.1 in
      let r = and_parts (is_exact d) (are_exact_members ms) q.1 in
      let rest = compact_text d ++ members_text true ms in
      IsUtf8-append (comma_if later) (quoted k ++ 58 ∷ rest) (comma_utf8 later)
      (IsUtf8-append (quoted k) (58 ∷ rest) (IsUtf8-quoted k (IsUtf8-from_is_utf8 k p.0))
      (IsUtf8-append (58 ∷ []) rest (IsUtf8-are_ascii (58 ∷ []) refl)
      (IsUtf8-append (compact_text d) (members_text true ms) (value_utf8 d r.0) (members_utf8 true ms r.1))))

pub text_utf8 : (d : Data) → is_exact d ≡ true → is_utf8 (compact_text d) ≡ true
text_utf8 d h = is_utf8-from_IsUtf8 (compact_text d) (value_utf8 d h)
