-- What is added one after another is the text of a line.
use Rattle.std.proofs.Common.{◌≡◌, List, ℕ, ◌++◌, refl, codes, length, Option, Some, None}
use Rattle.std.specs.Prelude.{decimal}
use Rattle.json.specs.Print.{escape_byte}
use Rattle.serde_json.specs.Written.{compact_text}
use Rattle.streetmap_geojson.specs.FeatureValue.{FeatureValue}
use Rattle.streetmap_feature_text.specs.Written.{array_of, feature_data}
use Rattle.streetmap_batch.specs.Text.{Text}
use Rattle.streetmap_bodies.specs.Bodies.{line_page_data}
use Rattle.streetmap_bodies.specs.LineTexts.{next_text}

-- what is written one after another
abbrev pub line_parts : List FeatureValue → ℕ → Option Text → Text
line_parts features matched next =
    codes "{\"features\":" ++ (compact_text (array_of feature_data features) ++ (next_text next ++ (codes ",\"numberMatched\":" ++ (decimal matched ++ (codes ",\"numberReturned\":" ++ (decimal (length features) ++ codes "}"))))))

pub line_page_is : (features : List FeatureValue) (matched examined : ℕ) (next : Option Text)
    → line_parts features matched next ≡ compact_text (line_page_data (record { features = features; matched = matched; next = next; examined = examined }))
unfolding escape_byte line_page_data
line_page_is features matched examined None = refl
line_page_is features matched examined (Some id) = refl
