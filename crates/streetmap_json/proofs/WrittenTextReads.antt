-- The text of exact data reads as that data.
use Rattle.std.proofs.Common.{◌≡◌, ℕ, suc, ◌^◌, ◌≤◌, true, ◌&&◌, max, pos, negsuc, List, [], Option, Some, option_map, option_and_then, Ordering, Less, Equal, Greater, nat_cmp, is_lt, refl, sym, ap, ap₂, ◌∙◌, append-nil}
use Rattle.std.proofs.lemmas.Bool.{and_parts, ltb-true}
use Rattle.std.proofs.lemmas.Cmp.{nat_list_cmp_total}
use Rattle.std.specs.Cmp.Lexicographic.{slice_cmp}
use Rattle.std.specs.Ordering.{ordering_reverse}
use Rattle.json.specs.Json as json
use Rattle.json.specs.Lex.{tokens}
use Rattle.json.specs.Print.{IsNumber}
use Rattle.json.specs.Token.{Token}
use Rattle.json.specs.Tree as tree
use Rattle.json.proofs.Printed.Decimals.{IsNumber-decimal, IsNumber-signed_decimal}
use Rattle.json.proofs.Printed.Tokens.{tokens-print}
use Rattle.json.proofs.Printed.Trees.{value-json_tokens, ArePrintable-json_tokens}
use Rattle.serde_json.specs.Data.{Num, unsigned, negative, float, Data, null, boolean, number, string, array, object, Items, no_items, item, Members, no_members, member, put, depth, items_depth, members_depth}
use Rattle.serde_json.specs.Read.{number_of, of_json, of_items, of_members, read, max_depth}
use Rattle.serde_json.specs.Written.{number_text, outline, items_outline, members_outline, compact_text}
use Rattle.serde_json.proofs.Numbers.{number_of-decimal, number_of-negative}
use Rattle.serde_json.proofs.Texts.{print-outline}
use Rattle.streetmap_json.specs.ExactData.{is_whole, is_before, is_exact, are_exact, are_exact_members}

-- ---- numbers

number_reads : (n : Num) → is_whole n ≡ true → number_of (number_text n) ≡ Some n
number_reads (unsigned n) h = number_of-decimal n (ltb-true n (2 ^ 64) h)
number_reads (negative (pos n)) h = absurd cc
number_reads (negative (negsuc n)) h = number_of-negative n (ltb-true n (2 ^ 63) h)
number_reads (float x) h = absurd cc

number_is_number : (n : Num) → is_whole n ≡ true → IsNumber (number_text n)
number_is_number (unsigned n) h = IsNumber-decimal n (ltb-true n (2 ^ 64) h)
number_is_number (negative (pos n)) h = absurd cc
number_is_number (negative (negsuc n)) h = IsNumber-signed_decimal (negsuc n) (ltb-true n (2 ^ 63) h)
number_is_number (float x) h = absurd cc

-- ---- members, put in one after another

joined : Members → Members → Members
joined no_members ms = ms
joined (member k d found) ms = member k d (joined found ms)

joined-no_members : (found : Members) → joined found no_members ≡ found
unfolding joined
joined-no_members no_members = refl
joined-no_members (member k d found) = ap (member k d) (joined-no_members found)

joined-member : (found : Members) (k : List ℕ) (d : Data) (ms : Members) → joined (joined found (member k d no_members)) ms ≡ joined found (member k d ms)
unfolding joined
joined-member no_members k d ms = refl
joined-member (member l e found) k d ms = ap (member l e) (joined-member found k d ms)

-- each name that was found comes before all of these
AllBefore : Members → Members → Type 0
AllBefore no_members ms = Unit {0}
AllBefore (member l e found) ms = (is_before l ms ≡ true) × AllBefore found ms

none_before : (ms : Members) → AllBefore no_members ms
unfolding AllBefore
none_before ms = tt

less_is : (o : Ordering) → is_lt o ≡ true → o ≡ Less
less_is Less h = refl
less_is Equal h = absurd cc
less_is Greater h = absurd cc

put_last : (found : Members) (k : List ℕ) (d : Data) (ms : Members) → AllBefore found (member k d ms) → put k d found ≡ joined found (member k d no_members)
unfolding joined AllBefore
put_last no_members k d ms h = refl
put_last (member l e found) k d ms h =
    let below = (and_parts (is_lt (slice_cmp nat_cmp l k)) (is_before l ms) h.0).0 in
    let above : slice_cmp nat_cmp k l ≡ Greater = nat_list_cmp_total.antisymm k l ∙ ap ordering_reverse (less_is (slice_cmp nat_cmp l k) below) in
    rw above (ap (member l e) (put_last found k d ms h.1))

go_on : (found : Members) (k : List ℕ) (d : Data) (ms : Members) → AllBefore found (member k d ms) → is_before k ms ≡ true → AllBefore (joined found (member k d no_members)) ms
unfolding joined AllBefore
go_on no_members k d ms h here = (here, tt)
go_on (member l e found) k d ms h here = ((and_parts (is_lt (slice_cmp nat_cmp l k)) (is_before l ms) h.0).1, go_on found k d ms h.1 here)

-- ---- values

mutual
  unfolding joined

  value_reads : (d : Data) → is_exact d ≡ true → of_json (outline d) ≡ Some d
  value_reads null h = refl
  value_reads (boolean b) h = refl
  value_reads (number n) h = ap (option_map number) (number_reads n h)
  value_reads (string s) h = refl
  value_reads (array ds) h = ap (option_map array) (items_read ds h)
  value_reads (object ms) h = ap (option_map object) (members_read ms no_members h (none_before ms))

  items_read : (ds : Items) → are_exact ds ≡ true → of_items (items_outline ds) ≡ Some ds
  items_read no_items h = refl
  items_read (item d ds) h =
      let p = and_parts (is_exact d) (are_exact ds) h in
      rw (value_reads d p.0, items_read ds p.1) refl

  members_read : (ms found : Members) → are_exact_members ms ≡ true → AllBefore found ms → of_members (members_outline ms) found ≡ Some (joined found ms)
  members_read no_members found h before = ap Some (sym (joined-no_members found))
  members_read (member k d ms) found h before =
      let p = and_parts _ (is_before k ms && (is_exact d && are_exact_members ms)) h in
      let q = and_parts (is_before k ms) (is_exact d && are_exact_members ms) p.1 in
      let r = and_parts (is_exact d) (are_exact_members ms) q.1 in
      rw (value_reads d r.0, put_last found k d ms before)
      (members_read ms (joined found (member k d no_members)) r.1 (go_on found k d ms before q.0) ∙ ap Some (joined-member found k d ms))

mutual
  numbers_hold : (d : Data) → is_exact d ≡ true → tree.HasNumbers (outline d)
  numbers_hold null h = tt
  numbers_hold (boolean b) h = tt
  numbers_hold (number n) h = number_is_number n h
  numbers_hold (string s) h = tt
  numbers_hold (array ds) h = item_numbers ds h
  numbers_hold (object ms) h = member_numbers ms h

  item_numbers : (ds : Items) → are_exact ds ≡ true → tree.ItemsHaveNumbers (items_outline ds)
  item_numbers no_items h = tt
  item_numbers (item d ds) h = let p = and_parts (is_exact d) (are_exact ds) h in (numbers_hold d p.0, item_numbers ds p.1)

  member_numbers : (ms : Members) → are_exact_members ms ≡ true → tree.MembersHaveNumbers (members_outline ms)
  member_numbers no_members h = tt
  member_numbers (member k d ms) h =
      let p = and_parts _ (is_before k ms && (is_exact d && are_exact_members ms)) h in
      let q = and_parts (is_before k ms) (is_exact d && are_exact_members ms) p.1 in
      let r = and_parts (is_exact d) (are_exact_members ms) q.1 in
      (numbers_hold d r.0, member_numbers ms r.1)

mutual
  depth-outline : (d : Data) → tree.depth (outline d) ≡ depth d
  depth-outline null = refl
  depth-outline (boolean b) = refl
  depth-outline (number n) = refl
  depth-outline (string s) = refl
  depth-outline (array ds) = ap suc (items_depth-outline ds)
  depth-outline (object ms) = ap suc (members_depth-outline ms)

  items_depth-outline : (ds : Items) → tree.items_depth (items_outline ds) ≡ items_depth ds
  items_depth-outline no_items = refl
  items_depth-outline (item d ds) = ap₂ max (depth-outline d) (items_depth-outline ds)

  members_depth-outline : (ms : Members) → tree.members_depth (members_outline ms) ≡ members_depth ms
  members_depth-outline no_members = refl
  members_depth-outline (member k d ms) = ap₂ max (depth-outline d) (members_depth-outline ms)

-- what is read of the tokens of a value with none after it
abbrev whole : Option (json.Json × List Token) → Option Data
whole found = option_and_then of_json (option_and_then (λ p. json.if_last p.0 p.1) found)

-- the text of exact data reads as that data
pub text_reads : (d : Data) → is_exact d ≡ true → depth d ≤ max_depth → read (compact_text d) ≡ Some d
text_reads d h shallow =
    let j = outline d in
    let printed : tokens (compact_text d) ≡ tree.json_tokens j =
    ap tokens (sym (print-outline d)) ∙ tokens-print (tree.json_tokens j) (ArePrintable-json_tokens j (numbers_hold d h)) in
    let low : tree.depth j ≤ max_depth = rw (depth-outline d) shallow in
    ap whole (ap (json.value max_depth) (printed ∙ sym (append-nil (tree.json_tokens j))) ∙ value-json_tokens j max_depth [] low) ∙ value_reads d h
