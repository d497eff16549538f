-- Lists that differ in one place only.
use Rattle.std.proofs.Common.{◌≡◌, ℕ, zero, suc, ◌<◌, List, [], ◌∷◌, ◌++◌, length, get_or, set, refl, sym, ◌∙◌, ap, append_assoc, arith}
use Rattle.std.specs.List.{flat_map}

below_none : (i : ℕ) → ¬ (i < 0)
below_none i lt = omega arith

-- two lists that differ in one place only
pub record Differs {A B : Type 0} (f : A → List B) (xs ys : List A) (x y : A) : Type 0 where
  pub front : List B
  pub back : List B
  pub before : flat_map f xs ≡ front ++ (f x ++ back)
  pub after : flat_map f ys ≡ front ++ (f y ++ back)

following : {A B : Type 0} (f : A → List B) (a : A) (xs ys : List A) (x y : A) → Differs f xs ys x y → Differs f (a ∷ xs) (a ∷ ys) x y
following {B = B} f a xs ys x y d = record {
  front = f a ++ d.front;
  back = d.back;
  before = ap (λ (l : List B). f a ++ l) d.before ∙ sym (append_assoc (f a) d.front (f x ++ d.back));
  after = ap (λ (l : List B). f a ++ l) d.after ∙ sym (append_assoc (f a) d.front (f y ++ d.back));
}

pub set_differs : {A B : Type 0} (f : A → List B) (xs : List A) (i : ℕ) (x y : A) → i < length xs → x ≡ get_or xs i x → Differs f xs (set xs i y) x y
set_differs f [] i x y lt is = absurd (below_none i lt)
set_differs {A = A} f (a ∷ xs) zero x y lt is = record {
  front = [];
  back = flat_map f xs;
  before = ap (λ (z : A). f z ++ flat_map f xs) (sym is);
  after = refl;
}
set_differs f (a ∷ xs) (suc i) x y lt is = following f a xs (set xs i y) x y (set_differs f xs i x y (omega arith) is)
