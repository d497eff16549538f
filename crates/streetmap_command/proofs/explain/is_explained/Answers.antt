use Rattle.std.proofs.Common.{◌≡◌, ◌∙◌, ◌||◌, ap, refl, map, string_bytes, Global, List, [], ◌∷◌, Bool}
use Rattle.std.specs.List.{list_any}
use Rattle.std.specs.Str.{bytes_eq}
use Rattle.std.specs.Prelude.{codes}
use Rattle.streetmap_command.proofs.explain.is_explained.Goals as goal

-- a test of the values of elements
any_value : {X Y : Type 0} (test : Y → Bool) (value : X → Y) (xs : List X)
    → list_any (λ x. test (value x)) xs ≡ list_any test (map value xs)
any_value test value [] = refl
any_value test value (x ∷ xs) = ap (λ b. test (value x) || b) (any_value test value xs)

pub returns : goal.returns
returns c =
    c.has_word.ensures
    ∙ any_value (λ word. bytes_eq word (codes "--explain")) (string_bytes {Z = Global}) c.args.words.now
