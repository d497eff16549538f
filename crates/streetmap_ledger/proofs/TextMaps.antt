-- Maps under texts.
use Rattle.std.proofs.Common.{◌≡◌, List, [], ◌∷◌, Bool, true, false, cond, T, None, Some, refl, ap, ◌∙◌}
use Rattle.std.specs.Prelude.{◌&&◌}
use Rattle.std.specs.Ordering.{is_lt, is_eq}
use Rattle.std.specs.declared.cmp.Ordering.{Ordering}
use Rattle.std.specs.declared.cmp.Ordering.TheVariants.{Less, Equal, Greater}
use Rattle.std.specs.FinMap.{find, IsAntisymmetric, slice_cmp-IsAntisymmetric, nat_cmp-IsAntisymmetric}
use Rattle.std.specs.FinMap.Entries.{below_all}
use Rattle.streetmap_geojson.specs.FeatureValue.{FeatureValue}
use Rattle.streetmap_batch.specs.Text.{Text, text_cmp}

-- texts that compare as equal are equal
pub one_text : IsAntisymmetric text_cmp
one_text = slice_cmp-IsAntisymmetric nat_cmp-IsAntisymmetric

pub first : (a b : Bool) → T (a && b) → T a
first true b p = tt
first false b p = p

pub second : (a b : Bool) → T (a && b) → T b
second true b p = p
second false b p = absurd p

not_equal : (r : Ordering) → T (is_lt r) → is_eq r ≡ false
not_equal Less h = refl
not_equal Equal h = absurd h
not_equal Greater h = absurd h

-- a key below all the others is not found among them
pub none_below : (k : Text) (es : List (Text × FeatureValue)) → T (below_all text_cmp k es) → find text_cmp k es ≡ None
none_below k [] h = refl
none_below k (e ∷ es) h = ap (λ b. cond b (Some e.1) (find text_cmp k es)) (not_equal _ (first _ _ h)) ∙ none_below k es (second _ _ h)
