-- The place of an id among outlines in chunks.
use Rattle.std.specs.Prelude.{◌≡◌, List, [], ◌∷◌, All, Bool, false, IsTrue, string_bytes}
use Rattle.std.specs.Ordering.{is_ge, is_gt}
use Rattle.std.specs.declared.cmp.Ordering.TheVariants.{Less}
use Rattle.streetmap_batch.specs.Text.{Text, text_cmp}
use Rattle.streetmap_ledger.specs.declared.outline.FeatureOutline.{FeatureOutline}

-- whether the last of the outlines, if any, has this id or one after it
abbrev pub reaches : Text → List FeatureOutline → Bool
reaches id [] = false
reaches id (last ∷ []) = is_ge (text_cmp (string_bytes last.id) id)
reaches id (first ∷ (second ∷ os)) = reaches id (second ∷ os)

-- each id comes before those after it
abbrev pub AreInOrder : List FeatureOutline → Type 0
AreInOrder [] = Unit {0}
AreInOrder (first ∷ os) =
    All (λ o. text_cmp (string_bytes first.id) (string_bytes o.id) ≡ Less) os × AreInOrder os

-- the first of the outlines, if any, has an id after this one
abbrev pub BeginsAfter : Text → List FeatureOutline → Type 0
BeginsAfter id [] = Unit {0}
BeginsAfter id (first ∷ os) = IsTrue (is_gt (text_cmp (string_bytes first.id) id))
