-- A copy of a text, token by token.
use Rattle.std.proofs.Common.{◌≡◌, ℕ, ◌+◌, ◌-◌, ◌≤◌, List, [], ◌∷◌, ◌++◌, length, take, drop, refl, sym, ap, ◌∙◌, arith, append_assoc, append-nil, length-drop}
use Rattle.std.proofs.lemmas.List.{take_all, drop_all, drop-drop}
use Rattle.std.proofs.Math.Seq.{take-add}
use Rattle.std.specs.List.{flat_map}
use Rattle.streetmap_json.specs.NumberText.{outside, tokens_from, whole_text}

-- the text from a place on
pub rest_is : {A : Type 0} (xs : List A) (n : ℕ) → take (length xs - n) (drop n xs) ≡ drop n xs
rest_is xs n = take_all (length xs - n) (drop n xs) (omega (arith, length-drop n xs))

pub between_is : {A : Type 0} (xs : List A) (at n : ℕ) → take (at + n - at) (drop at xs) ≡ take n (drop at xs)
between_is xs at n = let e : at + n - at ≡ n = omega arith in rw e refl

module _ (text : List ℕ) where
  abbrev pub between : ℕ → ℕ → List ℕ
  between low high = take (high - low) (drop low text)

  -- what the tokens from a place on are read as
  abbrev pub read_from : ℕ → List ℕ
  read_from at = flat_map whole_text (tokens_from outside (drop at text))

  -- the first n bytes from a place on are a token
  abbrev pub IsToken : ℕ → ℕ → Type 0
  IsToken at n = tokens_from outside (drop at text) ≡ take n (drop at text) ∷ tokens_from outside (drop n (drop at text))

  next_token : (at n : ℕ) → IsToken at n → read_from at ≡ whole_text (take n (drop at text)) ++ read_from (at + n)
  next_token at n e = rw (e, drop-drop n at text) refl

  longer : (copied at n : ℕ) → copied ≤ at → between copied (at + n) ≡ between copied at ++ take n (drop at text)
  longer copied at n le =
      let e : at + n - copied ≡ (at - copied) + n = omega arith in
      let f : copied + (at - copied) ≡ at = omega arith in
      rw (e, take-add (at - copied) n (drop copied text), drop-drop (at - copied) copied text, f) refl

  pub token_stays : (plain total : List ℕ) (copied at n : ℕ) → copied ≤ at → IsToken at n → whole_text (take n (drop at text)) ≡ take n (drop at text)
      → plain ++ (between copied at ++ read_from at) ≡ total → plain ++ (between copied (at + n) ++ read_from (at + n)) ≡ total
  token_stays plain total copied at n le first same so_far =
      let token = take n (drop at text) in
      let now : read_from at ≡ token ++ read_from (at + n) = next_token at n first ∙ ap (λ (w : List ℕ). w ++ read_from (at + n)) same in
      ap (λ (w : List ℕ). plain ++ (w ++ read_from (at + n))) (longer copied at n le)
      ∙ ap (λ (w : List ℕ). plain ++ w) (append_assoc (between copied at) token (read_from (at + n)))
      ∙ ap (λ (w : List ℕ). plain ++ (between copied at ++ w)) (sym now) ∙ so_far

  pub at_the_end : (plain total : List ℕ) (copied at : ℕ) → at ≤ length text → length text ≤ at
      → plain ++ (between copied at ++ read_from at) ≡ total → plain ++ drop copied text ≡ total
  unfolding tokens_from
  at_the_end plain total copied at le ge so_far =
      let is : at ≡ length text = omega arith in
      let ended : plain ++ (take (length text - copied) (drop copied text) ++ []) ≡ total = rw (drop_all at text ge, is) at so_far in
      ap (λ (w : List ℕ). plain ++ w) (sym (append-nil _ ∙ rest_is text copied)) ∙ ended

  pub nothing_changes : (plain total : List ℕ) (at : ℕ) → at ≤ length text → length text ≤ at → plain ≡ []
      → plain ++ (between 0 at ++ read_from at) ≡ total → total ≡ text
  nothing_changes plain total at le ge none so_far =
      sym (at_the_end plain total 0 at le ge so_far) ∙ ap (λ (w : List ℕ). w ++ text) none
