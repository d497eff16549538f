-- A written query reads as the same query.
use Rattle.std.proofs.Common.{◌≡◌, ℕ, ◌<◌, ◌≤◌, ◌^◌, List, [], ◌∷◌, map, length, Option, Some, None, Ok, refl, ap, ◌∙◌, arith, lit<, lit≤, true, codes, subst, ℤ, pos, negsuc}
use Rattle.std.proofs.lemmas.Int.{ints}
use Rattle.std.proofs.lemmas.Bool.Decides.{nat_tests}
use Rattle.std.specs.Prelude.{Bool, IsTrue, nat_lt, ◌&&◌, All, IsAscii, decimal, option_map}
use Rattle.std.specs.Option.{ForSome}
use Rattle.std.specs.Fmt.{signed_decimal, digits}
use Rattle.std.specs.Str.{all_ascii_digits}
use Rattle.std.specs.Str.Lossy.{utf8_lossy}
use Rattle.std.proofs.lemmas.Grind.{common_steps}
use Rattle.std.proofs.lemmas.Str.{utf8_lossy-IsUtf8, IsUtf8-from_ascii, IsAscii-append}
use Rattle.std.proofs.lemmas.Fmt.{digits_decimal, digits_value-decimal, decimal_nonempty, IsAscii-decimal, IsAscii-signed}
use Rattle.std.proofs.lemmas.List.Elements.{All-cons, All-nil, All-head, All-tail, All-weaker}
use Rattle.std.proofs.lemmas.Str.Ascii.{All-from_ascii, IsAscii-nil, IsAscii-cons}
use Rattle.std.proofs.lemmas.Option.{none-some, same_Some}
use Rattle.form_urlencoded.specs.Form.{raw_pairs, decode, extend_pairs}
use Rattle.form_urlencoded.proofs.FormLemmas.{round_trip, IsBytePair}
use Rattle.percent_encoding.proofs.PercentLemmas.{IsByte}
use Rattle.streetmap_geojson.specs.Id.{is_id}
use Rattle.std.specs.Str.Parse.{digits_value}
use Rattle.streetmap_query.specs.Limit.{limit_of, IsLimit}
use Rattle.streetmap_grid.specs.Range.{IsBound}
use Rattle.streetmap_query.specs.Box.{box_text}
use Rattle.streetmap_grid.specs.Values.{BoxValue}
use Rattle.streetmap_grid.specs.WellFormed.{IsBox}
use Rattle.streetmap_query.specs.Text.{IsText}
use Rattle.streetmap_moment.specs.Intervals.{interval_of}
use Rattle.streetmap_query.specs.QueryValue.{DatetimeValue, QueryValue}
use Rattle.streetmap_query.specs.Parameters.{no_parameters, set_limit, set_bbox, set_datetime, set_after, with_pair, with_pairs}
use Rattle.streetmap_query.specs.Query.{IsQuery, decoded, text_of, pairs_of, pair_if, query_text, query_of, parameters_of}
use Rattle.streetmap_query.proofs.BoxTextFacts.{numerals, box_again}

-- ---- pairs

limit_is : (ds : List ℕ) (n : ℕ) → 0 < length ds → all_ascii_digits ds ≡ true → digits_value 10 ds ≡ n → 1 ≤ n → n ≤ 1000 → limit_of ds ≡ Some n
limit_is ds n long digits value a b = grind (arith, common_steps)

-- a written limit is read as that limit
limit_again : (n : ℕ) → IsLimit n → limit_of (decimal n) ≡ Some n
limit_again n is =
    let small : n < 2 ^ 64 = omega arith in
    limit_is (decimal n) n (decimal_nonempty n small) (digits_decimal numerals n small) (digits_value-decimal numerals n small) is.0 is.1

limit_step : (n : ℕ) (a : Option (List ℕ)) (b : Option BoxValue) (t : Option DatetimeValue) → IsLimit n
    → with_pairs (record { bbox = b; datetime = t; limit = None; after = a }) ((codes "limit", decimal n) ∷ []) ≡ Ok (record { bbox = b; datetime = t; limit = Some n; after = a })
unfolding with_pairs with_pair set_limit
limit_step n a b t is = rw (limit_again n is) refl

datetime_step : (t : Option DatetimeValue) (a : Option (List ℕ)) (b : Option BoxValue) (rest : List (List ℕ × List ℕ)) → ForSome t (λ x. interval_of x.text ≡ Ok x.interval)
    → with_pairs (record { bbox = b; datetime = None; limit = None; after = a }) (pair_if (codes "datetime") (option_map (λ x. x.text) t) rest) ≡ with_pairs (record { bbox = b; datetime = t; limit = None; after = a }) rest
unfolding with_pairs with_pair set_datetime
datetime_step None a b rest is = refl
datetime_step (Some x) a b rest is = rw (is x refl) refl

bbox_step : (b : Option BoxValue) (a : Option (List ℕ)) (rest : List (List ℕ × List ℕ)) → ForSome b IsBox
    → with_pairs (record { bbox = None; datetime = None; limit = None; after = a }) (pair_if (codes "bbox") (option_map box_text b) rest) ≡ with_pairs (record { bbox = b; datetime = None; limit = None; after = a }) rest
unfolding with_pairs with_pair set_bbox
bbox_step None a rest is = refl
bbox_step (Some x) a rest is = rw (box_again x (is x refl)) refl

after_step : (a : Option (List ℕ)) (rest : List (List ℕ × List ℕ)) → ForSome a (λ id. IsTrue (is_id id))
    → with_pairs no_parameters (pair_if (codes "after") a rest) ≡ with_pairs (record { bbox = None; datetime = None; limit = None; after = a }) rest
unfolding with_pairs with_pair set_after
after_step None rest is = refl
after_step (Some x) rest is = rw (is x refl) refl

-- the parameters of the written pairs
pairs_again : (q : QueryValue) → IsQuery q → with_pairs no_parameters (pairs_of q) ≡ Ok (record { bbox = q.bbox; datetime = q.datetime; limit = Some q.limit; after = q.after })
pairs_again q is =
    after_step q.after _ is.after ∙ bbox_step q.bbox q.after _ is.bbox ∙ datetime_step q.datetime q.after q.bbox _ is.datetime ∙ limit_step q.limit q.after q.bbox q.datetime is.limit

-- ---- texts

-- the texts of decoded pairs
abbrev lossy : List ℕ × List ℕ → List ℕ × List ℕ
lossy pair = (utf8_lossy pair.0, utf8_lossy pair.1)

decoded-parse : (pairs : List (List ℕ × List ℕ)) → decoded pairs ≡ map lossy (map (λ (name, value). (decode name, decode value)) pairs)
decoded-parse [] = refl
decoded-parse (p ∷ pairs) = ap (λ l. (text_of p.0, text_of p.1) ∷ l) (decoded-parse pairs)

-- both parts of a pair are texts
abbrev IsTextPair : List ℕ × List ℕ → Type 0
IsTextPair pair = IsText pair.0 × IsText pair.1

lossy_same : (pairs : List (List ℕ × List ℕ)) → All IsTextPair pairs → map lossy pairs ≡ pairs
lossy_same [] all = refl
lossy_same (p ∷ pairs) all =
    let here = All-head IsTextPair p pairs all in
    let more = lossy_same pairs (All-tail IsTextPair p pairs all) in
    (λ i. (utf8_lossy-IsUtf8 p.0 here.0.0 i, utf8_lossy-IsUtf8 p.1 here.1.0 i) ∷ more i)

-- the pairs that were written are the pairs that are read
written_again : (pairs : List (List ℕ × List ℕ)) → All IsTextPair pairs → decoded (raw_pairs (extend_pairs [] pairs)) ≡ pairs
written_again pairs texts =
    let bytes : All IsBytePair pairs = All-weaker IsTextPair IsBytePair (λ p h. (h.0.1, h.1.1)) pairs texts in
    decoded-parse (raw_pairs (extend_pairs [] pairs)) ∙ (ap (map lossy) (round_trip pairs bytes) ∙ lossy_same pairs texts)

ascii_text : (bs : List ℕ) → IsAscii bs → IsText bs
ascii_text bs is = (IsUtf8-from_ascii bs is, All-weaker (λ b. b < 128) IsByte (λ b h. omega arith) bs (All-from_ascii bs is))

-- each byte is below 128
below : List ℕ → Bool
below [] = true
below (b ∷ bs) = nat_lt b 128 && below bs

ascii_by : (bs : List ℕ) → below bs ≡ true → IsAscii bs
unfolding below
ascii_by [] h = IsAscii-nil
ascii_by (b ∷ bs) h =
    let small : b < 128 = grind (arith, nat_tests) in
    let others : below bs ≡ true = grind (arith, nat_tests) in
    IsAscii-cons b bs small (ascii_by bs others)

bound_ascii : (z : ℤ) → IsBound z → IsAscii (signed_decimal z)
bound_ascii (pos n) is = IsAscii-signed (pos n) (omega (arith, ints))
bound_ascii (negsuc n) is = IsAscii-signed (negsuc n) (omega (arith, ints))

box_ascii : (b : BoxValue) → IsBox b → IsAscii (box_text b)
box_ascii b is =
    let last = bound_ascii b.y1 is.3 in
    let third = IsAscii-append (signed_decimal b.x1) _ (bound_ascii b.x1 is.2) (IsAscii-cons 44 _ (lit< tt) last) in
    let second = IsAscii-append (signed_decimal b.y0) _ (bound_ascii b.y0 is.1) (IsAscii-cons 44 _ (lit< tt) third) in
    IsAscii-append (signed_decimal b.x0) _ (bound_ascii b.x0 is.0) (IsAscii-cons 44 _ (lit< tt) second)

limit_name : IsText (codes "limit")
unfolding below
limit_name = ascii_text (codes "limit") (ascii_by (codes "limit") refl)

datetime_name : IsText (codes "datetime")
unfolding below
datetime_name = ascii_text (codes "datetime") (ascii_by (codes "datetime") refl)

bbox_name : IsText (codes "bbox")
unfolding below
bbox_name = ascii_text (codes "bbox") (ascii_by (codes "bbox") refl)

after_name : IsText (codes "after")
unfolding below
after_name = ascii_text (codes "after") (ascii_by (codes "after") refl)

pair_texts : (name : List ℕ) (value : Option (List ℕ)) (rest : List (List ℕ × List ℕ)) → IsText name → ForSome value IsText → All IsTextPair rest → All IsTextPair (pair_if name value rest)
pair_texts name None rest n v all = all
pair_texts name (Some x) rest n v all = All-cons IsTextPair (name, x) rest (n, v x refl) all

time_text : (t : Option DatetimeValue) → ForSome t (λ x. IsText x.text) → ForSome (option_map (λ x. x.text) t) IsText
time_text None is = λ x e. absurd (none-some x e)
time_text (Some t) is = λ x e. subst IsText (same_Some t.text x e) (is t refl)

box_texts : (b : Option BoxValue) → ForSome b IsBox → ForSome (option_map box_text b) IsText
box_texts None is = λ x e. absurd (none-some x e)
box_texts (Some b) is = λ x e. subst IsText (same_Some (box_text b) x e) (ascii_text (box_text b) (box_ascii b (is b refl)))

limit_texts : (n : ℕ) → IsLimit n → All IsTextPair ((codes "limit", decimal n) ∷ [])
limit_texts n is =
    let small : n < 2 ^ 64 = omega arith in
    All-cons IsTextPair (codes "limit", decimal n) [] (limit_name, ascii_text (decimal n) (IsAscii-decimal n small)) (All-nil IsTextPair)

pairs_texts : (q : QueryValue) → IsQuery q → ForSome q.after IsText → ForSome q.datetime (λ x. IsText x.text) → All IsTextPair (pairs_of q)
pairs_texts q is after datetime =
    pair_texts (codes "after") q.after _ after_name after
    (pair_texts (codes "bbox") (option_map box_text q.bbox) _ bbox_name (box_texts q.bbox is.bbox)
    (pair_texts (codes "datetime") (option_map (λ x. x.text) q.datetime) _ datetime_name (time_text q.datetime datetime) (limit_texts q.limit is.limit)))

-- the text of a query reads as that query
pub query_again : (q : QueryValue) (text : List ℕ) → IsQuery q → ForSome q.after IsText → ForSome q.datetime (λ x. IsText x.text) → text ≡ query_text q → query_of (Some text) ≡ Ok q
query_again q text is after datetime e =
    let read : parameters_of (extend_pairs [] (pairs_of q)) ≡ Ok (record { bbox = q.bbox; datetime = q.datetime; limit = Some q.limit; after = q.after })
    = ap (with_pairs no_parameters) (written_again (pairs_of q) (pairs_texts q is after datetime)) ∙ pairs_again q is in
    rw (e, read) refl

-- the query of a limit alone
abbrev pub limit_alone : ℕ → QueryValue
limit_alone n = record { bbox = None; datetime = None; limit = n; after = None }

-- a query of a limit alone keeps what every query keeps
limit_alone_is : (n : ℕ) → IsLimit n → IsQuery (limit_alone n)
limit_alone_is n is = record { bbox = λ x e. absurd (none-some x e); datetime = λ x e. absurd (none-some x e); limit = is; after = λ x e. absurd (none-some x e) }

-- the text of a limit alone is read as the query of that limit
pub limit_read : (n : ℕ) → IsLimit n → query_of (Some (query_text (limit_alone n))) ≡ Ok (limit_alone n)
limit_read n is =
    query_again (limit_alone n) (query_text (limit_alone n)) (limit_alone_is n is) (λ x e. absurd (none-some x e)) (λ x e. absurd (none-some x e)) refl
