-- The change of a text by the grammar of its tokens.
use Rattle.std.proofs.Common.{◌≡◌, ℕ, ◌<◌, true, false, eqb, List, [], ◌∷◌, ◌++◌, length, refl, sym, ap, ◌∙◌, arith, append_assoc, append-nil}
use Rattle.std.proofs.lemmas.Bool.{ne_eqb}
use Rattle.std.specs.List.{list_all, onto_first}
use Rattle.streetmap_json.specs.NumberText.{is_in_number, starts_number, outside, within, tokens_from, whole_text, with_whole_numbers, IsStringBody, empty, unescaped, escape}
use Rattle.streetmap_json.proofs.NumberTextTokens.{onto_all, onto_all-cons, onto_all-nil}
use Rattle.streetmap_json.proofs.NumberTextKept.{passes, run_token, quote_stays, other_kept}

body_stays : (s rest : List ℕ) → IsStringBody s → tokens_from within (s ++ rest) ≡ onto_all s (tokens_from within rest)
unfolding tokens_from
body_stays _ rest empty = refl
body_stays _ rest (unescaped b s no_quote no_backslash more) = passes b (s ++ rest) (ne_eqb b 34 no_quote) (ne_eqb b 92 no_backslash) ∙ ap (onto_first b) (body_stays s rest more)
body_stays _ rest (escape b s more) = ap (λ (w : List (List ℕ)). onto_first 92 (onto_first b w)) (body_stays s rest more)

-- a number text, after which the text ends or continues with a byte of another kind
pub with_whole_numbers-number : (s rest : List ℕ) → 0 < length s → list_all is_in_number s ≡ true → starts_number rest ≡ false → with_whole_numbers (s ++ rest) ≡ whole_text s ++ with_whole_numbers rest
with_whole_numbers-number [] rest some run stop = absurd (omega arith)
with_whole_numbers-number (b ∷ s) rest some run stop = rw (run_token b s rest run stop) refl

pub with_whole_numbers-string : (s rest : List ℕ) → IsStringBody s → with_whole_numbers (34 ∷ s ++ 34 ∷ rest) ≡ 34 ∷ s ++ 34 ∷ with_whole_numbers rest
unfolding tokens_from
with_whole_numbers-string s rest body =
    let token : tokens_from outside (34 ∷ s ++ 34 ∷ rest) ≡ (34 ∷ s ++ 34 ∷ []) ∷ tokens_from outside rest =
    ap (onto_first 34) (body_stays s (34 ∷ rest) body ∙ onto_all-cons s (34 ∷ []) (tokens_from outside rest)) in
    rw (token, quote_stays (s ++ 34 ∷ [])) (ap (λ (w : List ℕ). 34 ∷ w) (append_assoc s (34 ∷ []) (with_whole_numbers rest)))

open_token : (s : List ℕ) → tokens_from outside (34 ∷ s) ≡ (34 ∷ s) ∷ [] → with_whole_numbers (34 ∷ s) ≡ 34 ∷ s
open_token s token = rw (token, quote_stays s) (append-nil (34 ∷ s))

-- a string without a closing quote
pub with_whole_numbers-open : (s : List ℕ) → IsStringBody s → with_whole_numbers (34 ∷ s) ≡ 34 ∷ s
unfolding tokens_from
with_whole_numbers-open s body = open_token s (ap (λ (w : List ℕ). onto_first 34 (tokens_from within w)) (sym (append-nil s)) ∙ ap (onto_first 34) (body_stays s [] body) ∙ onto_all-nil 34 s)

-- the same, with a backslash at its end
pub with_whole_numbers-escaping : (s : List ℕ) → IsStringBody s → with_whole_numbers (34 ∷ s ++ 92 ∷ []) ≡ 34 ∷ s ++ 92 ∷ []
unfolding tokens_from
with_whole_numbers-escaping s body = open_token (s ++ 92 ∷ []) (ap (onto_first 34) (body_stays s (92 ∷ []) body ∙ onto_all-cons s (92 ∷ []) []))

pub with_whole_numbers-other : (b : ℕ) (rest : List ℕ) → is_in_number b ≡ false → eqb b 34 ≡ false → with_whole_numbers (b ∷ rest) ≡ b ∷ with_whole_numbers rest
with_whole_numbers-other b rest p q = other_kept b rest p q

pub with_whole_numbers-nil : with_whole_numbers [] ≡ []
unfolding tokens_from
with_whole_numbers-nil = refl
