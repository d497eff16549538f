-- The field lines of a head are its lines except the request line.
use Rattle.std.proofs.Common.{◌≡◌, ◌≢◌, ◌<◌, ◌+◌, ◌∙◌, ◌++◌, ◌∷◌, [], ℕ, List, true, false, cond, length, ap, refl, arith, append_assoc}
use Rattle.std.proofs.lemmas.List.Elements.{All-nil, All-cons, All-head, All-tail, All-weaker}
use Rattle.std.proofs.lemmas.List.Splits.{slice_split_at}
use Rattle.std.proofs.lemmas.List.Sums.{sum_by-cons}
use Rattle.std.specs.Prelude.{All, ◌==◌, ◌&&◌, Bool, count_by}
use Rattle.streetmap_http.specs.Head.{HasNoLineFeed, IsEmptyText, nothing, carriage_return, IsLineText, lines_of, IsLinesOfHead}
use Rattle.streetmap_http.specs.Lines.{line_texts, is_full, field_lines}
use Rattle.streetmap_http.proofs.ByLines.{other_than}

-- ---- the texts of lines

empty_stays : (text : List ℕ) → IsEmptyText text → HasNoLineFeed text
empty_stays text (nothing e) = rw e (All-nil (λ b. b ≢ 10))
empty_stays text (carriage_return e) = rw e (All-cons (λ b. b ≢ 10) 13 [] (λ d. omega (arith, d)) (All-nil (λ b. b ≢ 10)))

first_text : (text rest : List ℕ) → HasNoLineFeed text → line_texts (text ++ 10 ∷ rest) ≡ text ∷ line_texts rest
first_text text rest h = slice_split_at (λ b. b == 10) text 10 rest (All-weaker (λ b. b ≢ 10) (λ b. (b == 10) ≡ false) (λ b k. other_than b 10 k) text h) refl

texts_first : (lines : List (List ℕ)) (rest : List ℕ) → All HasNoLineFeed lines → line_texts (lines_of lines ++ rest) ≡ lines ++ line_texts rest
texts_first [] rest h = refl
texts_first (l ∷ ls) rest h =
    ap line_texts (append_assoc (l ++ 10 ∷ []) (lines_of ls) rest ∙ append_assoc l (10 ∷ []) (lines_of ls ++ rest))
    ∙ first_text l (lines_of ls ++ rest) (All-head HasNoLineFeed l ls h)
    ∙ ap (λ ts. l ∷ ts) (texts_first ls rest (All-tail HasNoLineFeed l ls h))

-- ---- those that are not empty

empty_is : (text : List ℕ) → IsEmptyText text → is_full text ≡ false
unfolding is_full
empty_is text (nothing e) = ap is_full e
empty_is text (carriage_return e) = ap is_full e

and_false : (b : Bool) → (b && false) ≡ false
and_false true = refl
and_false false = refl

full_is : (text : List ℕ) → (IsEmptyText text → ⊥) → is_full text ≡ true
unfolding is_full
full_is [] h = absurd (h (nothing refl))
full_is (x ∷ []) h = rw (other_than x 13 (λ e. h (carriage_return (ap (λ c. c ∷ []) e)))) refl
full_is (x ∷ (y ∷ ys)) h = rw (and_false (x == 13)) refl

one_counted : (text : List ℕ) (rest : List (List ℕ)) (b : Bool) → is_full text ≡ b → count_by is_full (text ∷ rest) ≡ cond b 1 0 + count_by is_full rest
one_counted text rest b e = sum_by-cons (λ x. cond (is_full x) 1 0) text rest ∙ ap (λ q. cond q 1 0 + count_by is_full rest) e

none_counted : (lines rest : List (List ℕ)) → All IsEmptyText lines → count_by is_full (lines ++ rest) ≡ count_by is_full rest
none_counted [] rest h = refl
none_counted (l ∷ ls) rest h =
    omega (arith, one_counted l (ls ++ rest) false (empty_is l (All-head IsEmptyText l ls h)), none_counted ls rest (All-tail IsEmptyText l ls h))

all_counted : (lines rest : List (List ℕ)) → All IsLineText lines → count_by is_full (lines ++ rest) ≡ length lines + count_by is_full rest
all_counted [] rest h = omega arith
all_counted (l ∷ ls) rest h =
    let line : IsLineText l = All-head IsLineText l ls h in
    omega (arith, one_counted l (ls ++ rest) true (full_is l line.not_empty), all_counted ls rest (All-tail IsLineText l ls h))

pub field_lines_are_lines : (bytes : List ℕ) (lines : List (List ℕ)) → IsLinesOfHead bytes lines → length lines ≡ 1 + field_lines bytes
unfolding field_lines is_full
field_lines_are_lines bytes lines h =
    let end : List (List ℕ) = h.last ∷ ([] ∷ []) in
    let texts : line_texts bytes ≡ h.blank ++ (lines ++ end) =
    ap line_texts h.joined
    ∙ texts_first h.blank (lines_of lines ++ (h.last ++ 10 ∷ [])) (All-weaker IsEmptyText HasNoLineFeed empty_stays h.blank h.skipped)
    ∙ ap (λ ts. h.blank ++ ts) (texts_first lines (h.last ++ 10 ∷ []) (All-weaker IsLineText HasNoLineFeed (λ t k. k.one_line) lines h.full)
    ∙ ap (λ ts. lines ++ ts) (first_text h.last [] (empty_stays h.last h.ends))) in
    let counted : count_by is_full (line_texts bytes) ≡ length lines + count_by is_full end =
    ap (count_by is_full) texts ∙ none_counted h.blank (lines ++ end) h.skipped ∙ all_counted lines end h.full in
    let none : count_by is_full end ≡ 0 = one_counted h.last ([] ∷ []) false (empty_is h.last h.ends) in
    let some : 0 < length lines = h.some in
    omega (arith, counted, none, some)
