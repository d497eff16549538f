-- What holds of the definitions, whatever the code does.
use Rattle.std.specs.Prelude.{◌≡◌, ◌↔◌, ℕ, List, Some, Ok}
use Rattle.std.specs.Option.{ForSome}
use Rattle.streetmap_grid.specs.Values.{BoxValue}
use Rattle.streetmap_query.specs.Box.{box_of}
use Rattle.streetmap_query.specs.BoxText.{IsBoxText}
use Rattle.streetmap_query.specs.Query.{IsQuery, query_of, query_text}
use Rattle.streetmap_query.specs.QueryValue.{QueryValue}
use Rattle.streetmap_query.specs.Text.{IsText}

-- a text is read as a box exactly if it is spelled as one that means it
abbrev pub BoxTextsAreRead : Type 0
BoxTextsAreRead = (text : List ℕ) (b : BoxValue) → (box_of text ≡ Some b) ↔ IsBoxText text b

-- the text of a query is read as that query
abbrev pub QueryTextsAreRead : Type 0
QueryTextsAreRead =
    (q : QueryValue) → IsQuery q → ForSome q.after IsText → ForSome q.datetime (λ t. IsText t.text)
    → query_of (Some (query_text q)) ≡ Ok q
