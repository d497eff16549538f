-- The elements of an array, read one after another.
use Rattle.std.proofs.Common.{◌≡◌, ℕ, true, List, [], ◌∷◌, ◌++◌, map, ap, sym, ◌∙◌, append_assoc}
use Rattle.std.proofs.lemmas.List.{append-nil}
use Rattle.serde_json.specs.Data.{Data}
use Rattle.serde_json.specs.View.{items_of}
use Rattle.serde_json.specs.Written.{compact_text, items_text}
use Rattle.streetmap_feature_text.specs.Written.{array_of}

module _ {A : Type 0} (f : A → Data) where
  -- what is left of the array after these elements
  abbrev pub rest_of : List A → List ℕ
  rest_of more = items_text true (items_of (map f more))

  -- if the rest continues the array with more elements, the start is the array of all of them
  pub record Listed (start rest : List ℕ) (xs : List A) : Type 0 where
    pub goes_on : (more : List A) (after : List ℕ) → rest ≡ rest_of more ++ after → start ≡ compact_text (array_of f (xs ++ more)) ++ after

  pub listed_first : (start opened rest : List ℕ) (x : A) → start ≡ 91 ∷ opened → opened ≡ compact_text (f x) ++ rest → Listed start rest (x ∷ [])
  listed_first start opened rest x a b = record {
    goes_on = λ more after e. a ∙ ap (λ (t : List ℕ). 91 ∷ t) (b ∙ ap (λ (t : List ℕ). compact_text (f x) ++ t) e
        ∙ sym (append_assoc (compact_text (f x)) (rest_of more) after));
  }

  pub listed_more : (start rest apart next : List ℕ) (xs : List A) (x : A) → Listed start rest xs → rest ≡ 44 ∷ apart → apart ≡ compact_text (f x) ++ next →
      Listed start next (xs ++ x ∷ [])
  listed_more start rest apart next xs x h a b = record {
    goes_on = λ more after e.
        h.goes_on (x ∷ more) after (a ∙ ap (λ (t : List ℕ). 44 ∷ t) (b ∙ ap (λ (t : List ℕ). compact_text (f x) ++ t) e
        ∙ sym (append_assoc (compact_text (f x)) (rest_of more) after)))
        ∙ ap (λ (ys : List A). compact_text (array_of f ys) ++ after) (sym (append_assoc xs (x ∷ []) more));
  }

  pub listed_all : (start rest after : List ℕ) (xs : List A) → Listed start rest xs → rest ≡ 93 ∷ after → start ≡ compact_text (array_of f xs) ++ after
  listed_all start rest after xs h e = h.goes_on [] after e ∙ ap (λ (ys : List A). compact_text (array_of f ys) ++ after) (append-nil xs)
