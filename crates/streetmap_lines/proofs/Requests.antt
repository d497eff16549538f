-- A line spells the request that is read from it, and no other.
use Rattle.std.proofs.Common.{◌≡◌, ℕ, ◌+◌, Bool, true, false, cond, not, [], ◌∷◌, ◌++◌, length, take, drop, ap, sym, refl, ◌∙◌, codes, Option, Some, None}
use Rattle.std.proofs.Common.{arith, ◌==◌, ◌||◌, subst}
use Rattle.std.proofs.lemmas.Grind.{common_steps}
use Rattle.std.proofs.lemmas.Bool.Decides.{nat_tests}
use Rattle.std.specs.Prelude.{option_map, option_and_then, nat_lt}
use Rattle.std.specs.List.{position_or_len, list_any}
use Rattle.std.specs.Cmp.Lexicographic.{same_text}
use Rattle.std.specs.Str.{bytes_eq}
use Rattle.streetmap_batch.specs.Text.{Text}
use Rattle.streetmap_lines.specs.Request.{LineRequest, batch, page, feature, split_space, HasNoSpace, SpellsRequest, queried, requested_page, page_request_of}
use Rattle.streetmap_lines.specs.Request.{request_by, request_of}

-- the same cut, byte by byte
abbrev pub with_front : ℕ → Option (Text × Text) → Option (Text × Text)
with_front b None = None
with_front b (Some p) = Some (b ∷ p.0, p.1)

abbrev pub cut : Text → Option (Text × Text)
cut [] = None
cut (b ∷ bs) = cond (b == 32) (Some ([], bs)) (with_front b (cut bs))

abbrev cut_at : ℕ → Text → Option (Text × Text)
cut_at n s = cond (nat_lt n (length s)) (Some (take n s, drop (n + 1) s)) None

cut_at-zero : (b : ℕ) (bs : Text) → cut_at 0 (b ∷ bs) ≡ Some ([], bs)
cut_at-zero b bs = grind (arith, common_steps)

cut_at-next : (n b : ℕ) (bs : Text) → cut_at (1 + n) (b ∷ bs) ≡ with_front b (cut_at n bs)
cut_at-next n b bs = grind (arith, common_steps)

step : (v : Bool) (n b : ℕ) (bs : Text) → cut_at n bs ≡ cut bs → cut_at (cond (not v) (1 + n) 0) (b ∷ bs) ≡ cond v (Some ([], bs)) (with_front b (cut bs))
step true n b bs e = cut_at-zero b bs
step false n b bs e = cut_at-next n b bs ∙ ap (with_front b) e

pub split-cut : (s : Text) → split_space s ≡ cut s
split-cut [] = refl
split-cut (b ∷ bs) = step (b == 32) (position_or_len (λ c. c == 32) bs) b bs (split-cut bs)

no-front : (b : ℕ) (o : Option (Text × Text)) → with_front b o ≡ None → o ≡ None
no-front b None e = refl
no-front b (Some p) e = cc

-- a cut gives the text before the first space and the text after it
found-front : (b : ℕ) (bs : Text) (o : Option (Text × Text)) (p : Text × Text) → (b == 32) ≡ false
    → ((q : Text × Text) → o ≡ Some q → (bs ≡ q.0 ++ 32 ∷ q.1) × HasNoSpace q.0)
    → with_front b o ≡ Some p → (b ∷ bs ≡ p.0 ++ 32 ∷ p.1) × HasNoSpace p.0
found-front b bs None p d f e = cc
found-front b bs (Some q) p d f e =
    let r = f q refl in
    let same : (b ∷ q.0, q.1) ≡ p = cc in
    let P : Text × Text → Type 0 = λ x. (b ∷ bs ≡ x.0 ++ 32 ∷ x.1) × HasNoSpace x.0 in
    subst P same (ap (λ l. b ∷ l) r.0, ap (λ v. v || list_any (λ c. c == 32) q.0) d ∙ r.1)

is-space : (b : ℕ) → (b == 32) ≡ true → b ≡ 32
is-space b e = grind (arith, nat_tests)

found-step : (v : Bool) (b : ℕ) (bs : Text) (p : Text × Text) → (b == 32) ≡ v
    → ((q : Text × Text) → cut bs ≡ Some q → (bs ≡ q.0 ++ 32 ∷ q.1) × HasNoSpace q.0)
    → cond v (Some ([], bs)) (with_front b (cut bs)) ≡ Some p → (b ∷ bs ≡ p.0 ++ 32 ∷ p.1) × HasNoSpace p.0
found-step true b bs p d f e =
    let same : ([], bs) ≡ p = cc in
    let P : Text × Text → Type 0 = λ x. (b ∷ bs ≡ x.0 ++ 32 ∷ x.1) × HasNoSpace x.0 in
    subst P same (ap (λ n. n ∷ bs) (is-space b d), refl)
found-step false b bs p d f e = found-front b bs (cut bs) p d f e

pub cut-found : (s : Text) (p : Text × Text) → cut s ≡ Some p → (s ≡ p.0 ++ 32 ∷ p.1) × HasNoSpace p.0
cut-found [] p e = cc
cut-found (b ∷ bs) p e = found-step (b == 32) b bs p refl (λ q. cut-found bs q) e

-- a text without a cut has no space
none-step : (v : Bool) (b : ℕ) (bs : Text) → (b == 32) ≡ v → (cut bs ≡ None → HasNoSpace bs)
    → cond v (Some ([], bs)) (with_front b (cut bs)) ≡ None → HasNoSpace (b ∷ bs)
none-step true b bs d f e = cc
none-step false b bs d f e = ap (λ v. v || list_any (λ c. c == 32) bs) d ∙ f (no-front b (cut bs) e)

pub cut-none : (s : Text) → cut s ≡ None → HasNoSpace s
cut-none [] e = refl
cut-none (b ∷ bs) e = none-step (b == 32) b bs refl (cut-none bs) e

neither : (v w : Bool) → (v || w) ≡ false → (v ≡ false) × (w ≡ false)
neither true w e = cc
neither false w e = (refl, e)

-- a text without a space, a space and a text are cut there
pub cut-at_space : (a s : Text) → HasNoSpace a → cut (a ++ 32 ∷ s) ≡ Some (a, s)
cut-at_space [] s n = refl
cut-at_space (b ∷ bs) s n =
    let both = neither (b == 32) (list_any (λ c. c == 32) bs) n in
    ap (λ v. cond v (Some ([], bs ++ 32 ∷ s)) (with_front b (cut (bs ++ 32 ∷ s)))) both.0 ∙ ap (with_front b) (cut-at_space bs s both.1)

pub cut-no_space : (s : Text) → HasNoSpace s → cut s ≡ None
cut-no_space [] n = refl
cut-no_space (b ∷ bs) n =
    let both = neither (b == 32) (list_any (λ c. c == 32) bs) n in
    ap (λ v. cond v (Some ([], bs)) (with_front b (cut bs))) both.0 ∙ ap (with_front b) (cut-no_space bs both.1)

-- ---- requests

queried-is : (text collection query : Text) (o : Option (Text × Text)) (r : LineRequest)
    → text ≡ collection ++ 32 ∷ query → HasNoSpace collection → cut query ≡ o → queried collection query o ≡ Some r → SpellsRequest (codes "page " ++ text) r
queried-is text collection query None r e n k h =
    let same : page collection (Some query) ≡ r = cc in
    subst (SpellsRequest (codes "page " ++ text)) same (ap (λ l. codes "page " ++ l) e, n, cut-none query k)
queried-is text collection query (Some p) r e n k h = cc

page-is : (text : Text) (o : Option (Text × Text)) (r : LineRequest) → cut text ≡ o → requested_page text o ≡ Some r → SpellsRequest (codes "page " ++ text) r
page-is text None r k h =
    let same : page text None ≡ r = cc in
    subst (SpellsRequest (codes "page " ++ text)) same (refl, cut-none text k)
page-is text (Some p) r k h =
    let both = cut-found text p k in
    queried-is text p.0 p.1 (split_space p.1) r both.0 both.1 (sym (split-cut p.1)) h

feature-is : (text : Text) (o : Option (Text × Text)) (r : LineRequest) → cut text ≡ o → option_map (λ p. feature p.0 p.1) o ≡ Some r →
    SpellsRequest (codes "feature " ++ text) r
feature-is text None r k h = cc
feature-is text (Some p) r k h =
    let both = cut-found text p k in
    let same : feature p.0 p.1 ≡ r = cc in
    subst (SpellsRequest (codes "feature " ++ text)) same (ap (λ l. codes "feature " ++ l) both.0, both.1)

word-is : (u v w : Bool) (word text : Text) (r : LineRequest)
    → u ≡ bytes_eq word (codes "batch") → v ≡ bytes_eq word (codes "page") → w ≡ bytes_eq word (codes "feature")
    → cond u (Some (batch text)) (cond v (page_request_of text) (cond w (option_map (λ p. feature p.0 p.1) (split_space text)) None)) ≡ Some r
    → SpellsRequest (word ++ 32 ∷ text) r
word-is true v w word text r d e f h =
    let same : batch text ≡ r = cc in
    let P : Text → Type 0 = λ t. SpellsRequest (t ++ 32 ∷ text) r in
    subst P (sym (same_text word (codes "batch") d)) (subst (SpellsRequest (codes "batch " ++ text)) same refl)
word-is false true w word text r d e f h =
    let P : Text → Type 0 = λ t. SpellsRequest (t ++ 32 ∷ text) r in
    subst P (sym (same_text word (codes "page") e)) (page-is text (split_space text) r (sym (split-cut text)) h)
word-is false false true word text r d e f h =
    let P : Text → Type 0 = λ t. SpellsRequest (t ++ 32 ∷ text) r in
    subst P (sym (same_text word (codes "feature") f)) (feature-is text (split_space text) r (sym (split-cut text)) h)
word-is false false false word text r d e f h = cc

request-is : (line : Text) (o : Option (Text × Text)) (r : LineRequest) → cut line ≡ o → option_and_then (λ p. request_by p.0 p.1) o ≡ Some r →
    SpellsRequest line r
unfolding request_by
request-is line None r k h = cc
request-is line (Some p) r k h =
    let both = cut-found line p k in
    let P : Text → Type 0 = λ t. SpellsRequest t r in
    subst P (sym both.0) (word-is (bytes_eq p.0 (codes "batch")) (bytes_eq p.0 (codes "page")) (bytes_eq p.0 (codes "feature")) p.0 p.1 r refl refl refl h)

-- what is read from a line is what it spells
pub request_of-found : (line : Text) (r : LineRequest) → request_of line ≡ Some r → SpellsRequest line r
request_of-found line r h = request-is line (split_space line) r (sym (split-cut line)) h

by-word : (word text : Text) → HasNoSpace word → request_of (word ++ 32 ∷ text) ≡ request_by word text
by-word word text n = ap (option_and_then (λ p. request_by p.0 p.1)) (split-cut (word ++ 32 ∷ text) ∙ cut-at_space word text n)

requested-is : (r : LineRequest) (line : Text) → SpellsRequest line r → request_of line ≡ Some r
unfolding request_by
requested-is (batch text) line a = ap request_of a ∙ by-word (codes "batch") text refl
requested-is (page collection None) line a =
    ap request_of a.0 ∙ by-word (codes "page") collection refl ∙ ap (requested_page collection) (split-cut collection ∙ cut-no_space collection a.1)
requested-is (page collection (Some query)) line a =
    ap request_of a.0 ∙ by-word (codes "page") (collection ++ 32 ∷ query) refl
    ∙ ap (requested_page (collection ++ 32 ∷ query)) (split-cut (collection ++ 32 ∷ query) ∙ cut-at_space collection query a.1)
    ∙ ap (queried collection query) (split-cut query ∙ cut-no_space query a.2)
requested-is (feature collection id) line a =
    ap request_of a.0 ∙ by-word (codes "feature") (collection ++ 32 ∷ id) refl
    ∙ ap (option_map (λ p. feature p.0 p.1)) (split-cut (collection ++ 32 ∷ id) ∙ cut-at_space collection id a.1)

-- what a line spells is read from it
pub request_of-only : (line : Text) (r : LineRequest) → SpellsRequest line r → request_of line ≡ Some r
request_of-only line r a = requested-is r line a
