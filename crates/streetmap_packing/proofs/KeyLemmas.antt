-- A key followed by a number, and an edit alone in the batch of such a key.
use Rattle.std.proofs.Common.{◌≡◌, ◌≢◌, ℕ, ◌+◌, ◌<◌, ◌≤◌, ◌^◌, ◌%◌, Bool, true, false, ◌&&◌, IsTrue}
use Rattle.std.proofs.Common.{codes, leb, List, [], ◌∷◌, ◌++◌, length, decimal, refl, sym, ap, ◌∙◌}
use Rattle.std.proofs.Common.{arith, length-append}
use Rattle.std.specs.List.{list_all}
use Rattle.std.proofs.lemmas.Bool.{leb-true, le-leb}
use Rattle.std.proofs.lemmas.Bool.Decides.{nat_tests}
use Rattle.std.proofs.lemmas.Grind.{common_steps}
use Rattle.std.proofs.lemmas.Fmt.{decimal_by_steps, length-decimal-le}
use Rattle.json.specs.Print.{escape, escape_byte}
use Rattle.serde_json.specs.Written.{compact_text}
use Rattle.streetmap_batch.specs.BatchText.{batch_text, edit_data}
use Rattle.streetmap_batch.specs.BatchValue.{EditValue}
use Rattle.streetmap_batch.specs.Names.{is_key, is_key_byte, is_long}
use Rattle.streetmap_batch.specs.Text.{Text}
use Rattle.streetmap_packing.specs.Packs.{numbered, numbered_key, passes}
use Rattle.streetmap_packing.specs.Laws.{KeysHaveRoom}
use Rattle.streetmap_packing.proofs.PackLemmas.{and_true, following, text_long}
use Rattle.streetmap_batch.proofs.NameFacts.{both_true}
use Rattle.streetmap_packing.proofs.TextLengths.{one_longer}

all_append : (p : ℕ → Bool) (xs ys : List ℕ) → list_all p xs ≡ true → list_all p ys ≡ true →
    list_all p (xs ++ ys) ≡ true
all_append p [] ys h k = k
all_append p (x ∷ xs) ys h k = let both = both_true (p x) (list_all p xs) h in and_true _ _ both.0
    (all_append p xs ys both.1 k)

digit_passes : (d : ℕ) → d < 10 → is_key_byte (48 + d) ≡ true
digit_passes d h = grind (arith, nat_tests)

digits_pass : (n : ℕ) → n < 2 ^ 64 → list_all is_key_byte (decimal n) ≡ true
digits_pass = decimal_by_steps (λ n ds. list_all is_key_byte ds ≡ true)
    (λ n h. and_true _ _ (digit_passes n h) refl)
    (λ n ds h all. all_append is_key_byte ds ((48 + n % 10) ∷ []) all
    (and_true _ _ (digit_passes (n % 10) (omega arith)) refl))

pub keys_have_room : KeysHaveRoom
unfolding is_key
keys_have_room key n named short small =
    let both = both_true (is_long 1 64 key) (list_all is_key_byte key) named in
    let least = leb-true 1 (length key) (both_true _ _ both.0).0 in
    let wide : n < 2 ^ 64 = omega arith in
    let digits = length-decimal-le 19 n (omega arith) (omega arith) wide in
    let long = length-append key (46 ∷ decimal n) in
    and_true _ _
    (and_true _ _ (le-leb 1 (length (numbered_key key n)) (omega (arith, long, least)))
    (le-leb (length (numbered_key key n)) 64 (omega (arith, long, digits, short))))
    (all_append is_key_byte key (46 ∷ decimal n) both.1 (digits_pass n wide))

-- ---- an edit alone

plain_byte : (b : ℕ) → is_key_byte b ≡ true → escape_byte b ≡ b ∷ []
unfolding escape_byte
plain_byte b h = grind (arith, common_steps)

plain_bytes : (s : List ℕ) → list_all is_key_byte s ≡ true → escape s ≡ s
plain_bytes [] h = refl
plain_bytes (b ∷ s) h =
    let both = both_true (is_key_byte b) (list_all is_key_byte s) h in
    ap (λ l. l ++ escape s) (plain_byte b both.0) ∙ ap (λ l. b ∷ l) (plain_bytes s both.1)

-- what follows the edits of a batch is short
after_short : (key : Text) → IsTrue (is_key key) → length (following key) ≤ 74
unfolding is_key
after_short key named =
    let both = both_true (is_long 1 64 key) (list_all is_key_byte key) named in
    let most : length key ≤ 64 = leb-true (length key) 64
    (both_true (leb 1 (length key)) (leb (length key) 64) both.0).1 in
    let plain : length (escape key) ≡ length key = ap length (plain_bytes key both.1) in
    let quoted = length-append (escape key) (34 ∷ []) in
    let whole = length-append (34 ∷ (escape key ++ 34 ∷ [])) (codes "}") in
    let named_first = length-append (codes ",\"key\":")
    ((34 ∷ (escape key ++ 34 ∷ [])) ++ codes "}") in
    omega (arith, most, plain, quoted, whole, named_first)

-- an edit of no more than 8,388,480 bytes has room in a batch of its own
pub alone_passes : (each : ℕ) (key : Text) (n : ℕ) (e : EditValue) (size : ℕ) → 1 ≤ each →
    IsTrue (is_key (numbered_key key n))
    → length (compact_text (edit_data e)) ≡ size → size ≤ 8388480 → passes each key n (e ∷ []) ≡
    true
alone_passes each key n e size some named sized small =
    let text = text_long (numbered key n (e ∷ [])) in
    let one = one_longer EditValue edit_data [] e in
    let short = after_short (numbered_key key n) named in
    and_true _ _ (le-leb 1 each some)
    (le-leb (length (batch_text (numbered key n (e ∷ [])))) 8388608
    (omega (arith, text, one, short, sized, small)))

true_false : {P : Type 0} (b : Bool) → b ≡ true → b ≡ false → P
true_false b t f = cc

-- the current batch has an edit if it does not take one that an empty batch takes
pub some_under_way : (each : ℕ) (key : Text) (n : ℕ) (es : List EditValue) (e : EditValue) →
    passes each key n (e ∷ []) ≡ true
    → passes each key n (es ++ e ∷ []) ≡ false → es ≢ []
some_under_way each key n es e alone not none =
    true_false (passes each key n (e ∷ [])) alone
    (sym (ap (λ (t : List EditValue). passes each key n (t ++ e ∷ [])) none) ∙ not)
