-- The first token of a text.
use Rattle.std.proofs.Common.{◌≡◌, ℕ, suc, ◌+◌, ◌<◌, ◌≤◌, Bool, true, false, eqb, List, [], ◌∷◌, ◌++◌, length, get_or, take, drop, refl, sym, ap, ◌∙◌, arith, add-one}
use Rattle.std.proofs.lemmas.Bool.{eqb-true}
use Rattle.std.proofs.lemmas.List.{take_more, take_all, drop_all}
use Rattle.std.proofs.Math.Seq.{drop-cons}
use Rattle.std.specs.List.{onto_first, prefix_len}
use Rattle.streetmap_json.specs.NumberText.{is_in_number, Side, outside, within, escaped, side_after, tokens_from}

-- the state of a loop over a string: after a backslash, or not
abbrev pub string_side : Bool → Side
string_side true = escaped
string_side false = within

-- the bytes join the first token
abbrev pub onto_all : List ℕ → List (List ℕ) → List (List ℕ)
onto_all [] ts = ts
onto_all (b ∷ bs) ts = onto_first b (onto_all bs ts)

onto_all-push : (xs : List ℕ) (b : ℕ) (ts : List (List ℕ)) → onto_all xs (onto_first b ts) ≡ onto_all (xs ++ b ∷ []) ts
onto_all-push [] b ts = refl
onto_all-push (x ∷ xs) b ts = ap (onto_first x) (onto_all-push xs b ts)

pub onto_all-cons : (xs t : List ℕ) (ts : List (List ℕ)) → onto_all xs (t ∷ ts) ≡ (xs ++ t) ∷ ts
onto_all-cons [] t ts = refl
onto_all-cons (x ∷ xs) t ts = ap (onto_first x) (onto_all-cons xs t ts)

pub onto_all-nil : (quote : ℕ) (xs : List ℕ) → onto_first quote (onto_all xs []) ≡ (quote ∷ xs) ∷ []
onto_all-nil quote [] = refl
onto_all-nil quote (x ∷ xs) = ap (onto_first quote) (onto_all-nil x xs)

-- ---- strings

-- within a string a byte joins the next
joins : (side : Side) (next : Bool) (b : ℕ) (bs : List ℕ) → side_after side b ≡ string_side next → tokens_from side (b ∷ bs) ≡ onto_first b (tokens_from (string_side next) bs)
unfolding tokens_from
joins side true b bs e = rw e refl
joins side false b bs e = rw e refl

pub string_goes_on : (rest : List ℕ) (i : ℕ) (before after : Bool) → i < length rest → side_after (string_side before) (get_or rest i 0) ≡ string_side after
    → onto_all (take i rest) (tokens_from (string_side before) (drop i rest)) ≡ tokens_from within rest
    → onto_all (take (i + 1) rest) (tokens_from (string_side after) (drop (i + 1) rest)) ≡ tokens_from within rest
string_goes_on rest i before after lt e so_far =
    let b = get_or rest i 0 in
    let back : tokens_from (string_side before) (drop i rest) ≡ onto_first b (tokens_from (string_side after) (drop (i + 1) rest)) =
    rw (drop-cons rest i 0 lt, add-one) (joins (string_side before) after b (drop (suc i) rest) e) in
    rw (take_more rest i 0 lt) (sym (onto_all-push (take i rest) b (tokens_from (string_side after) (drop (i + 1) rest))) ∙ ap (onto_all (take i rest)) (sym back) ∙ so_far)

pub string_ends : (rest : List ℕ) (i : ℕ) → i < length rest → get_or rest i 0 ≡ 34
    → onto_all (take i rest) (tokens_from within (drop i rest)) ≡ tokens_from within rest
    → (quote : ℕ) → onto_first quote (tokens_from within rest) ≡ (quote ∷ take (i + 1) rest) ∷ tokens_from outside (drop (i + 1) rest)
unfolding tokens_from
string_ends rest i lt is so_far quote =
    let back : tokens_from within (drop i rest) ≡ (34 ∷ []) ∷ tokens_from outside (drop (i + 1) rest) = rw (drop-cons rest i 0 lt, is, add-one) refl in
    rw (take_more rest i 0 lt, is) (ap (onto_first quote) (sym so_far ∙ ap (onto_all (take i rest)) back ∙ onto_all-cons (take i rest) (34 ∷ []) (tokens_from outside (drop (i + 1) rest))))

-- a string without a closing quote is the last token of the text
pub string_is_open : (rest : List ℕ) (i : ℕ) (side : Side) → length rest ≤ i
    → onto_all (take i rest) (tokens_from side (drop i rest)) ≡ tokens_from within rest
    → (quote : ℕ) → onto_first quote (tokens_from within rest) ≡ (quote ∷ take (length rest) rest) ∷ tokens_from outside (drop (length rest) rest)
unfolding tokens_from
string_is_open rest i side le so_far quote =
    let le_own : length rest ≤ length rest = omega arith in
    let all : onto_all rest (tokens_from side []) ≡ tokens_from within rest = rw (take_all i rest le, drop_all i rest le) at so_far in
    rw (take_all (length rest) rest le_own, drop_all (length rest) rest le_own) (ap (onto_first quote) (sym all) ∙ onto_all-nil quote rest)

-- ---- one token

pub take-one_more : (n b : ℕ) (bs : List ℕ) → take (1 + n) (b ∷ bs) ≡ b ∷ take n bs
take-one_more n b bs = let e : 1 + n ≡ suc n = omega arith in rw e refl

drop-one_more : (n b : ℕ) (bs : List ℕ) → drop (1 + n) (b ∷ bs) ≡ drop n bs
drop-one_more n b bs = let e : 1 + n ≡ suc n = omega arith in rw e refl

pub string_first : (text : List ℕ) (n : ℕ) → 0 < length text → get_or text 0 0 ≡ 34
    → ((quote : ℕ) → onto_first quote (tokens_from within (drop 1 text)) ≡ (quote ∷ take n (drop 1 text)) ∷ tokens_from outside (drop n (drop 1 text)))
    → tokens_from outside text ≡ take (1 + n) text ∷ tokens_from outside (drop (1 + n) text)
unfolding tokens_from
string_first [] n some is rest = absurd (omega arith)
string_first (b ∷ bs) n some is rest = rw (take-one_more n b bs, drop-one_more n b bs, is) (rest 34)

no_quote_at : (b : ℕ) (t : Bool) → eqb b 34 ≡ t → is_in_number b ≡ true → t ≡ false
no_quote_at b false e h = refl
no_quote_at b true e h = let x : false ≡ true = ap is_in_number (sym (eqb-true b 34 e)) ∙ h in absurd cc

pub no_quote : (b : ℕ) → is_in_number b ≡ true → eqb b 34 ≡ false
no_quote b h = no_quote_at b (eqb b 34) refl h

number_next : (b d : ℕ) (bs : List ℕ) → is_in_number b ≡ true
    → (is_in_number d ≡ true → tokens_from outside (d ∷ bs) ≡ take (1 + prefix_len is_in_number bs) (d ∷ bs) ∷ tokens_from outside (drop (1 + prefix_len is_in_number bs) (d ∷ bs)))
    → (t : Bool) → is_in_number d ≡ t
    → tokens_from outside (b ∷ d ∷ bs) ≡ take (1 + prefix_len is_in_number (d ∷ bs)) (b ∷ d ∷ bs) ∷ tokens_from outside (drop (1 + prefix_len is_in_number (d ∷ bs)) (b ∷ d ∷ bs))
unfolding tokens_from
number_next b d bs h rest true e = rw (no_quote b h, h, e, take-one_more (1 + prefix_len is_in_number bs) b (d ∷ bs), drop-one_more (1 + prefix_len is_in_number bs) b (d ∷ bs)) (ap (onto_first b) (rest e))
number_next b d bs h rest false e = rw (no_quote b h, h, e) refl

number_from : (b : ℕ) (bs : List ℕ) → is_in_number b ≡ true → tokens_from outside (b ∷ bs) ≡ take (1 + prefix_len is_in_number bs) (b ∷ bs) ∷ tokens_from outside (drop (1 + prefix_len is_in_number bs) (b ∷ bs))
unfolding tokens_from
number_from b [] h = rw (no_quote b h, h) refl
number_from b (d ∷ bs) h = number_next b d bs h (λ e. number_from d bs e) (is_in_number d) refl

pub number_first : (text : List ℕ) → 0 < length text → is_in_number (get_or text 0 0) ≡ true
    → tokens_from outside text ≡ take (prefix_len is_in_number text) text ∷ tokens_from outside (drop (prefix_len is_in_number text) text)
number_first [] some h = absurd (omega arith)
number_first (b ∷ bs) some h = rw h (number_from b bs h)

pub number_some : (text : List ℕ) → 0 < length text → is_in_number (get_or text 0 0) ≡ true → 0 < prefix_len is_in_number text
number_some [] some h = absurd (omega arith)
number_some (b ∷ bs) some h = rw h (omega arith)

pub other_first : (text : List ℕ) → 0 < length text → eqb (get_or text 0 0) 34 ≡ false → is_in_number (get_or text 0 0) ≡ false
    → tokens_from outside text ≡ take 1 text ∷ tokens_from outside (drop 1 text)
unfolding tokens_from
other_first [] some p q = absurd (omega arith)
other_first (b ∷ bs) some p q = rw (p, q) refl
