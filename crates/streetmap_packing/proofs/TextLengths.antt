-- How long the text of a list is, and that of a longer list.
use Rattle.std.proofs.Common.{◌≡◌, ℕ, ◌+◌, ◌≤◌, Bool, true, false, List, [], ◌∷◌, ◌++◌, map, length}
use Rattle.std.proofs.Common.{ap, ◌∙◌, arith, length-append}
use Rattle.serde_json.specs.Data.{Data}
use Rattle.serde_json.specs.View.{items_of}
use Rattle.serde_json.specs.Written.{compact_text, items_text, comma_if}
use Rattle.streetmap_packing.specs.PackingState.{comma_after}

module _ (A : Type 0) (f : A → Data) where
  abbrev pub text_of : Bool → List A → List ℕ
  text_of later xs = items_text later (items_of (map f xs))

  long : (later : Bool) (x : A) (xs : List A) →
      length (text_of later (x ∷ xs)) ≡ length (comma_if later) +
      (length (compact_text (f x)) + length (text_of true xs))
  long later x xs = length-append (comma_if later) (compact_text (f x) ++ text_of true xs) ∙ ap
      (λ n. length (comma_if later) + n) (length-append (compact_text (f x)) (text_of true xs))

  later_more : (xs : List A) (x : A) →
      length (text_of true (xs ++ x ∷ [])) ≡ length (text_of true xs) +
      (1 + length (compact_text (f x)))
  later_more [] x = let e = long true x [] in omega (arith, e)
  later_more (y ∷ xs) x =
      let e = long true y (xs ++ x ∷ []) in
      let h = long true y xs in
      let i = later_more xs x in
      omega (arith, e, h, i)

  -- one more element
  pub one_longer : (xs : List A) (x : A) →
      length (text_of false (xs ++ x ∷ [])) ≡ length (text_of false xs) +
      (length (comma_after xs) + length (compact_text (f x)))
  one_longer [] x = let e = long false x [] in omega (arith, e)
  one_longer (y ∷ xs) x =
      let e = long false y (xs ++ x ∷ []) in
      let h = long false y xs in
      let i = later_more xs x in
      omega (arith, e, h, i)

  bracket : (later : Bool) (xs : List A) → 1 ≤ length (text_of later xs)
  bracket later [] = omega arith
  bracket later (x ∷ xs) =
      let e = long later x xs in
      let i = bracket true xs in
      omega (arith, e, i)

  -- the text of a list is not shorter than that of its prefix
  pub front_shorter : (later : Bool) (xs ys : List A) →
      length (text_of later xs) ≤ length (text_of later (xs ++ ys))
  front_shorter later [] ys = bracket later ys
  front_shorter later (x ∷ xs) ys =
      let e = long later x (xs ++ ys) in
      let h = long later x xs in
      let i = front_shorter true xs ys in
      omega (arith, e, h, i)
