-- A line feed after the text of a value does not change what the text reads as.
use Rattle.std.proofs.Common.{◌≡◌, ℕ, ◌+◌, ◌^◌, ◌≤◌, List, [], ◌∷◌, ◌++◌, length, Bool, true, false, cond, ◌&&◌, ◌==◌, pos, negsuc, ok_or, refl, sym, ap, subst}
use Rattle.std.proofs.Common.{◌∙◌, arith, append_assoc, append-nil, length-append, bytes_eq, nat_le, option_and_then}
use Rattle.std.proofs.lemmas.Bool.{and_parts, ltb-true}
use Rattle.std.proofs.lemmas.Bool.Decides.{nat_tests}
use Rattle.std.proofs.lemmas.Slice.Eq.{bytes_eq-Decides}
use Rattle.std.proofs.lemmas.Str.{IsUtf8-append, IsUtf8-from_is_utf8, is_utf8-from_IsUtf8}
use Rattle.std.specs.List.{flat_map, list_all}
use Rattle.std.specs.Str.{is_utf8}
use Rattle.json.specs.Json as json
use Rattle.json.specs.Lex.{token, comma, colon, lex, between, in_word, in_string, string_token, punctuate, fresh, tokens}
use Rattle.json.specs.Print.{IsNumber, IsPrintable, ArePrintable, token_text, begins, ends, separator, print_from, quoted, escape}
use Rattle.json.specs.Token.{Token, begin_object, end_object, begin_array, end_array, key, string, number, boolean, null, bad}
use Rattle.json.specs.Tree as tree
use Rattle.json.specs.Word.{ends_word, word}
use Rattle.json.proofs.Printed.Decimals.{IsNumber-decimal, IsNumber-signed_decimal}
use Rattle.json.proofs.Printed.Numbers.{lex-number, in_word-ended}
use Rattle.json.proofs.Printed.Strings.{content-escape, lex-escape}
use Rattle.json.proofs.Printed.Trees.{ArePrintable-json_tokens}
use Rattle.json.proofs.Printed.Utf8.{IsUtf8-are_ascii}
use Rattle.serde_json.specs.Data as value
use Rattle.serde_json.specs.Data.{Num, Data, Items, Members}
use Rattle.serde_json.specs.Read.{of_json, max_depth, read}
use Rattle.serde_json.specs.Written.{number_text, outline, items_outline, members_outline, compact_text}
use Rattle.serde_json.proofs.Texts.{print-outline}
use Rattle.streetmap_json.specs.ExactData.{is_whole, is_before, is_exact, are_exact, are_exact_members}
use Rattle.streetmap_json.specs.JsonText.{json_value}
use Rattle.streetmap_json.specs.NumberText.{are_zeros, is_in_number, whole_text, Side, outside, within, escaped, side_after, is_joined, put_before, tokens_from}
use Rattle.streetmap_json.specs.NumberText.{with_whole_numbers}
use Rattle.streetmap_json.proofs.NumberTextForm.{whole_text-other}
use Rattle.streetmap_json.proofs.NumberTextKept.{text_kept}
use Rattle.streetmap_json.proofs.NumberTextWhole.{whole_text_same}
use Rattle.streetmap_json.proofs.WrittenTextUtf8.{text_utf8}
use Rattle.streetmap_geojson.specs.declared.fault.Fault.TheVariants.{NotJson}
use Rattle.streetmap_geojson.specs.JsonText.{json_of}

abbrev pub feed : List ℕ
feed = 10 ∷ []

-- ---- a token that ends in a line feed stays

last_byte : List ℕ → ℕ
last_byte [] = 0
last_byte (b ∷ []) = b
last_byte (b ∷ c ∷ cs) = last_byte (c ∷ cs)

last_fed : (t : List ℕ) → last_byte (t ++ feed) ≡ 10
unfolding last_byte
last_fed [] = refl
last_fed (b ∷ []) = refl
last_fed (b ∷ c ∷ cs) = last_fed (c ∷ cs)

last_after : (front : List ℕ) (b c : ℕ) (cs : List ℕ) → last_byte (front ++ b ∷ c ∷ cs) ≡ last_byte (c ∷ cs)
unfolding last_byte
last_after [] b c cs = refl
last_after (x ∷ []) b c cs = refl
last_after (x ∷ y ∷ ys) b c cs = last_after (y ∷ ys) b c cs

zeros_end : (c : ℕ) (cs : List ℕ) → list_all (λ b. b == 48) (c ∷ cs) ≡ true → last_byte (c ∷ cs) ≡ 48
unfolding last_byte
zeros_end c [] h = let p = and_parts (c == 48) true h in let one = p.0 in grind (arith, nat_tests)
zeros_end c (d ∷ ds) h = let p = and_parts (c == 48) (list_all (λ b. b == 48) (d ∷ ds)) h in zeros_end d ds p.1

no_zeros : (t whole zeros : List ℕ) → t ++ feed ≡ whole ++ 46 ∷ zeros → are_zeros zeros ≡ true → ⊥
no_zeros t whole [] e h = absurd cc
no_zeros t whole (c ∷ cs) e h =
    let p = and_parts _ (list_all (λ b. b == 48) (c ∷ cs)) h in
    let clash : 10 ≡ 48 = sym (last_fed t) ∙ ap last_byte e ∙ last_after whole 46 c cs ∙ zeros_end c cs p.1 in
    absurd (omega (arith, clash))

not_zero_at : (t : List ℕ) (b : Bool) → bytes_eq (t ++ feed) (45 ∷ 48 ∷ []) ≡ b → cond b (48 ∷ []) (t ++ feed) ≡ t ++ feed
unfolding last_byte
not_zero_at t false e = refl
not_zero_at t true e =
    let same : t ++ feed ≡ 45 ∷ 48 ∷ [] = (bytes_eq-Decides (t ++ feed) (45 ∷ 48 ∷ [])).0 e in
    let clash : 10 ≡ 48 = sym (last_fed t) ∙ ap last_byte same in
    absurd (omega (arith, clash))

fed_stays : (t : List ℕ) → whole_text (t ++ feed) ≡ t ++ feed
fed_stays t = whole_text-other (t ++ feed) (λ whole zeros e digits h. no_zeros t whole zeros e h) ∙ not_zero_at t (bytes_eq (t ++ feed) (45 ∷ 48 ∷ [])) refl

-- ---- the tokens of a text and a line feed

abbrev is_string : Side → Bool
is_string outside = false
is_string within = true
is_string escaped = true

abbrev end_of : Side → List ℕ → Side
end_of side [] = side
end_of side (b ∷ bs) = end_of (side_after side b) bs

-- within a string the line feed is part of the last token
abbrev with_feed : Bool → List (List ℕ) → List (List ℕ)
with_feed unended [] = feed ∷ []
with_feed true (t ∷ []) = (t ++ feed) ∷ []
with_feed true (t ∷ u ∷ us) = t ∷ with_feed true (u ∷ us)
with_feed false (t ∷ ts) = t ∷ with_feed false ts

before_fed : (joined unended : Bool) (b : ℕ) (t : List ℕ) (ts : List (List ℕ)) → put_before joined b (with_feed unended (t ∷ ts))
    ≡ with_feed unended (put_before joined b (t ∷ ts))
before_fed true true b t [] = refl
before_fed true true b t (u ∷ us) = refl
before_fed true false b t ts = refl
before_fed false true b t ts = refl
before_fed false false b t ts = refl

record SomeTokens (ts : List (List ℕ)) : Type 0 where
  first : List ℕ
  more : List (List ℕ)
  is : ts ≡ first ∷ more

put_some : (joined : Bool) (b : ℕ) (ts : List (List ℕ)) → SomeTokens (put_before joined b ts)
put_some true b [] = record { first = b ∷ []; more = []; is = refl }
put_some true b (t ∷ ts) = record { first = b ∷ t; more = ts; is = refl }
put_some false b ts = record { first = b ∷ []; more = ts; is = refl }

some_tokens : (side : Side) (b : ℕ) (bs : List ℕ) → SomeTokens (tokens_from side (b ∷ bs))
unfolding tokens_from
some_tokens side b bs = put_some (is_joined (side_after side b) b bs) b (tokens_from (side_after side b) bs)

feed_alone : (side : Side) → tokens_from side feed ≡ feed ∷ []
unfolding tokens_from
feed_alone outside = refl
feed_alone within = refl
feed_alone escaped = refl

one_fed : (side : Side) (b : ℕ) → put_before (is_joined side b feed) b (feed ∷ []) ≡ with_feed (is_string side) (put_before (is_joined side b []) b [])
one_fed outside b = by (is_in_number b) where
  by : (n : Bool) → put_before (n && false) b (feed ∷ []) ≡ with_feed false (put_before (n && false) b [])
  by true = refl
  by false = refl
one_fed within b = refl
one_fed escaped b = refl

joined_alike : (side : Side) (b c : ℕ) (xs ys : List ℕ) → is_joined side b (c ∷ xs) ≡ is_joined side b (c ∷ ys)
joined_alike outside b c xs ys = refl
joined_alike within b c xs ys = refl
joined_alike escaped b c xs ys = refl

tokens_fed : (side : Side) (xs : List ℕ) → tokens_from side (xs ++ feed) ≡ with_feed (is_string (end_of side xs)) (tokens_from side xs)
unfolding tokens_from
tokens_fed side [] = feed_alone side
tokens_fed side (b ∷ []) = ap (put_before (is_joined (side_after side b) b feed) b) (feed_alone (side_after side b)) ∙ one_fed (side_after side b) b
tokens_fed side (b ∷ c ∷ cs) =
    let s = side_after side b in
    let some = some_tokens s c cs in
    let unended = is_string (end_of s (c ∷ cs)) in
    let j = is_joined s b (c ∷ cs) in
    ap (λ x. put_before x b (tokens_from s ((c ∷ cs) ++ feed))) (joined_alike s b c (cs ++ feed) cs)
    ∙ ap (put_before j b) (tokens_fed s (c ∷ cs) ∙ ap (with_feed unended) some.is)
    ∙ before_fed j unended b some.first some.more
    ∙ ap (λ ts. with_feed unended (put_before j b ts)) (sym some.is)

put_joined : (joined : Bool) (b : ℕ) (ts : List (List ℕ)) → flat_map (λ t. t) (put_before joined b ts) ≡ b ∷ flat_map (λ t. t) ts
put_joined true b [] = refl
put_joined true b (t ∷ ts) = refl
put_joined false b ts = refl

all_tokens : (side : Side) (xs : List ℕ) → flat_map (λ t. t) (tokens_from side xs) ≡ xs
unfolding tokens_from
all_tokens side [] = refl
all_tokens side (b ∷ bs) = put_joined (is_joined (side_after side b) b bs) b (tokens_from (side_after side b) bs)
    ∙ ap (λ l. b ∷ l) (all_tokens (side_after side b) bs)

-- ---- if each token stays, the tokens with the line feed stay

not_longer_at : (t : List ℕ) (b : Bool) → nat_le (length t) (length (whole_text t)) ≡ b → length (whole_text t) ≤ length t
not_longer_at t true h = let low : length t ≤ length (whole_text t) = grind (arith, nat_tests) in let same = ap length (whole_text_same t low) in
    omega (arith, same)
not_longer_at t false h = grind (arith, nat_tests)

not_longer : (ts : List (List ℕ)) → length (flat_map whole_text ts) ≤ length (flat_map (λ t. t) ts)
not_longer [] = omega arith
not_longer (t ∷ ts) =
    let one = not_longer_at t (nat_le (length t) (length (whole_text t))) refl in
    let more = not_longer ts in
    omega (arith, one, more, length-append (whole_text t) (flat_map whole_text ts), length-append t (flat_map (λ x. x) ts))

cancelled : (t xs ys : List ℕ) → t ++ xs ≡ t ++ ys → xs ≡ ys
cancelled [] xs ys h = h
cancelled (b ∷ t) xs ys h = let e : t ++ xs ≡ t ++ ys = cc in cancelled t xs ys e

parted : (t xs ys : List ℕ) → whole_text t ++ xs ≡ t ++ ys → length xs ≤ length ys → (whole_text t ≡ t) × (xs ≡ ys)
parted t xs ys h short =
    let long : length (whole_text t) + length xs ≡ length t + length ys = sym (length-append (whole_text t) xs) ∙ ap length h ∙ length-append t ys in
    let same = whole_text_same t (omega (arith, long, short)) in
    (same, cancelled t xs ys (ap (λ l. l ++ xs) (sym same) ∙ h))

fed_kept : (unended : Bool) (ts : List (List ℕ)) → flat_map whole_text ts ≡ flat_map (λ t. t) ts → flat_map whole_text (with_feed unended ts)
    ≡ flat_map (λ t. t) ts ++ feed
fed_kept unended [] h = ap (λ l. l ++ []) (fed_stays [])
fed_kept true (t ∷ []) h = append-nil (whole_text (t ++ feed)) ∙ fed_stays t ∙ ap (λ l. l ++ feed) (sym (append-nil t))
fed_kept true (t ∷ u ∷ us) h =
    let p = parted t (flat_map whole_text (u ∷ us)) (flat_map (λ x. x) (u ∷ us)) h (not_longer (u ∷ us)) in
    ap (λ l. l ++ flat_map whole_text (with_feed true (u ∷ us))) p.0 ∙ ap (λ l. t ++ l) (fed_kept true (u ∷ us) p.1)
    ∙ sym (append_assoc t (flat_map (λ x. x) (u ∷ us)) feed)
fed_kept false (t ∷ ts) h =
    let p = parted t (flat_map whole_text ts) (flat_map (λ x. x) ts) h (not_longer ts) in
    ap (λ l. l ++ flat_map whole_text (with_feed false ts)) p.0 ∙ ap (λ l. t ++ l) (fed_kept false ts p.1) ∙ sym (append_assoc t (flat_map (λ x. x) ts) feed)

text_fed : (xs : List ℕ) → with_whole_numbers xs ≡ xs → with_whole_numbers (xs ++ feed) ≡ xs ++ feed
text_fed xs h =
    let ts = tokens_from outside xs in
    ap (flat_map whole_text) (tokens_fed outside xs) ∙ fed_kept (is_string (end_of outside xs)) ts (h ∙ sym (all_tokens outside xs))
    ∙ ap (λ l. l ++ feed) (all_tokens outside xs)

-- ---- the lexemes of what is printed

abbrev Alike : List ℕ → List ℕ → Type 0
Alike r q = lex between r ≡ lex between q

quoted_lexed : (s r : List ℕ) → lex between (quoted s ++ r) ≡ token (string s) ∷ lex between r
unfolding lex
quoted_lexed s r =
    ap (λ l. lex between (34 ∷ l)) (append_assoc (escape s) (34 ∷ []) r)
    ∙ ap (λ o. token (string_token o) ∷ lex in_string (escape s ++ 34 ∷ r)) (content-escape s r) ∙ ap (λ l. token (string s) ∷ l) (lex-escape s r)

true_lexed : (r : List ℕ) → ends_word r ≡ true → lex between (token_text (boolean true) ++ r) ≡ token (boolean true) ∷ lex between r
unfolding lex word
true_lexed r e = ap (λ b. token (cond b (boolean true) bad) ∷ lex in_word r) e ∙ ap (λ l. token (boolean true) ∷ l) (in_word-ended r e)

false_lexed : (r : List ℕ) → ends_word r ≡ true → lex between (token_text (boolean false) ++ r) ≡ token (boolean false) ∷ lex between r
unfolding lex word
false_lexed r e = ap (λ b. token (cond b (boolean false) bad) ∷ lex in_word r) e ∙ ap (λ l. token (boolean false) ∷ l) (in_word-ended r e)

null_lexed : (r : List ℕ) → ends_word r ≡ true → lex between (token_text null ++ r) ≡ token null ∷ lex between r
unfolding lex word
null_lexed r e = ap (λ b. token (cond b null bad) ∷ lex in_word r) e ∙ ap (λ l. token null ∷ l) (in_word-ended r e)

alike_after : (t : Token) (r q : List ℕ) → IsPrintable t → (ends t ≡ true → ends_word r ≡ true) → (ends t ≡ true → ends_word q ≡ true) → Alike r q →
    Alike (token_text t ++ r) (token_text t ++ q)
unfolding lex
alike_after begin_object r q h a b e = ap (λ l. token begin_object ∷ l) e
alike_after end_object r q h a b e = ap (λ l. token end_object ∷ l) e
alike_after begin_array r q h a b e = ap (λ l. token begin_array ∷ l) e
alike_after end_array r q h a b e = ap (λ l. token end_array ∷ l) e
alike_after (key s) r q h a b e =
    ap (lex between) (append_assoc (quoted s) (58 ∷ []) r) ∙ quoted_lexed s (58 ∷ r) ∙ ap (λ l. token (string s) ∷ colon ∷ l) e
    ∙ sym (ap (lex between) (append_assoc (quoted s) (58 ∷ []) q) ∙ quoted_lexed s (58 ∷ q))
alike_after (string s) r q h a b e = quoted_lexed s r ∙ ap (λ l. token (string s) ∷ l) e ∙ sym (quoted_lexed s q)
alike_after (number s) r q h a b e = lex-number s r h (a refl) ∙ ap (λ l. token (number s) ∷ l) e ∙ sym (lex-number s q h (b refl))
alike_after (boolean true) r q h a b e = true_lexed r (a refl) ∙ ap (λ l. token (boolean true) ∷ l) e ∙ sym (true_lexed q (b refl))
alike_after (boolean false) r q h a b e = false_lexed r (a refl) ∙ ap (λ l. token (boolean false) ∷ l) e ∙ sym (false_lexed q (b refl))
alike_after null r q h a b e = null_lexed r (a refl) ∙ ap (λ l. token null ∷ l) e ∙ sym (null_lexed q (b refl))
alike_after bad r q h a b e = absurd h

-- a value is followed by a comma, a closing bracket or the rest
value_ends : (ts : List Token) (rest : List ℕ) → ends_word rest ≡ true → ends_word (print_from true ts ++ rest) ≡ true
unfolding print_from
value_ends [] rest h = h
value_ends (begin_object ∷ ts) rest h = refl
value_ends (end_object ∷ ts) rest h = refl
value_ends (begin_array ∷ ts) rest h = refl
value_ends (end_array ∷ ts) rest h = refl
value_ends (key s ∷ ts) rest h = refl
value_ends (string s ∷ ts) rest h = refl
value_ends (number s ∷ ts) rest h = refl
value_ends (boolean b ∷ ts) rest h = refl
value_ends (null ∷ ts) rest h = refl
value_ends (bad ∷ ts) rest h = refl

value_ends_alone : (ts : List Token) → ends_word (print_from true ts) ≡ true
value_ends_alone ts = ap ends_word (sym (append-nil (print_from true ts))) ∙ value_ends ts [] refl

separated : (b : Bool) (r q : List ℕ) → Alike r q → Alike (cond b (44 ∷ []) [] ++ r) (cond b (44 ∷ []) [] ++ q)
unfolding lex
separated true r q e = ap (λ l. comma ∷ l) e
separated false r q e = e

printed_fed : (c : Bool) (ts : List Token) → ArePrintable ts → Alike (print_from c ts ++ feed) (print_from c ts)
unfolding lex print_from ArePrintable
printed_fed c [] h = refl
printed_fed c (t ∷ ts) h =
    let rest = print_from (ends t) ts in
    ap (lex between) (append_assoc (separator c t) (token_text t ++ rest) feed ∙ ap (λ l. separator c t ++ l) (append_assoc (token_text t) rest feed))
    ∙ separated (c && begins t) (token_text t ++ (rest ++ feed)) (token_text t ++ rest)
    (alike_after t (rest ++ feed) rest h.0
    (λ e. ap (λ b. ends_word (print_from b ts ++ feed)) e ∙ value_ends ts feed refl)
    (λ e. ap (λ b. ends_word (print_from b ts)) e ∙ value_ends_alone ts)
    (printed_fed (ends t) ts h.1))

-- ---- exact data has number texts

number_is_number : (n : Num) → is_whole n ≡ true → IsNumber (number_text n)
number_is_number (value.unsigned n) h = IsNumber-decimal n (ltb-true n (2 ^ 64) h)
number_is_number (value.negative (pos n)) h = absurd cc
number_is_number (value.negative (negsuc n)) h = IsNumber-signed_decimal (negsuc n) (ltb-true n (2 ^ 63) h)
number_is_number (value.float x) h = absurd cc

mutual
  has_numbers : (d : Data) → is_exact d ≡ true → tree.HasNumbers (outline d)
  has_numbers value.null h = tt
  has_numbers (value.boolean b) h = tt
  has_numbers (value.number n) h = number_is_number n h
  has_numbers (value.string s) h = tt
  has_numbers (value.array ds) h = items_have ds h
  has_numbers (value.object ms) h = members_have ms h

  items_have : (ds : Items) → are_exact ds ≡ true → tree.ItemsHaveNumbers (items_outline ds)
  items_have value.no_items h = tt
  items_have (value.item d ds) h = let p = and_parts (is_exact d) (are_exact ds) h in (has_numbers d p.0, items_have ds p.1)

  members_have : (ms : Members) → are_exact_members ms ≡ true → tree.MembersHaveNumbers (members_outline ms)
  members_have value.no_members h = tt
  members_have (value.member k d ms) h =
      let p = and_parts _ (is_before k ms && (is_exact d && are_exact_members ms)) h in
      let q = and_parts (is_before k ms) (is_exact d && are_exact_members ms) p.1 in
      let r = and_parts (is_exact d) (are_exact_members ms) q.1 in
      (has_numbers d r.0, members_have ms r.1)

tokens_alike : (d : Data) → is_exact d ≡ true → tokens (compact_text d ++ feed) ≡ tokens (compact_text d)
tokens_alike d h =
    let ts = tree.json_tokens (outline d) in
    subst (λ (text : List ℕ). tokens (text ++ feed) ≡ tokens text) (print-outline d)
    (ap (punctuate fresh) (printed_fed false ts (ArePrintable-json_tokens (outline d) (has_numbers d h))))

-- ---- what the text reads as

read_alike : (d : Data) → is_exact d ≡ true → read (compact_text d ++ feed) ≡ read (compact_text d)
read_alike d h = ap (λ (ts : List Token). option_and_then of_json (option_and_then (λ p. json.if_last p.0 p.1) (json.value max_depth ts))) (tokens_alike d h)

utf8_fed : (text : List ℕ) → is_utf8 text ≡ true → is_utf8 (text ++ feed) ≡ true
utf8_fed text h = is_utf8-from_IsUtf8 (text ++ feed) (IsUtf8-append text feed (IsUtf8-from_is_utf8 text h) (IsUtf8-are_ascii feed refl))

value_fed : (d : Data) → is_exact d ≡ true → json_value (compact_text d ++ feed) ≡ json_value (compact_text d)
value_fed d h =
    let text = compact_text d in
    let plain = text_kept d h in
    let utf8 = text_utf8 d h in
    let fed = text_fed text plain in
    let fed_utf8 = utf8_fed text utf8 in
    rw (fed, fed_utf8, plain, utf8) (read_alike d h)

-- a text that is written for exact data reads the same with a line feed after it
pub json_fed : (d : Data) → is_exact d ≡ true → json_of (compact_text d ++ feed) ≡ json_of (compact_text d)
json_fed d h = ap (λ o. ok_or o NotJson) (value_fed d h)
