-- What is added part by part is the text of a body.
use Rattle.std.proofs.Common.{◌≡◌, List, ℕ, ◌++◌, false, refl, ap, append_assoc, codes, length, Option, Some, None}
use Rattle.std.specs.Prelude.{decimal, option_map}
use Rattle.json.specs.Print.{escape_byte}
use Rattle.serde_json.specs.Data.{string}
use Rattle.serde_json.specs.Written.{compact_text}
use Rattle.streetmap_grid.specs.Values.{BoxValue}
use Rattle.streetmap_geojson.specs.FeatureValue.{FeatureValue}
use Rattle.streetmap_feature_text.specs.Written.{array_of, feature_data}
use Rattle.streetmap_query.specs.QueryValue.{QueryValue}
use Rattle.streetmap_batch.specs.Text.{Text}
use Rattle.streetmap_ledger.specs.Summaries.{SummaryValue}
use Rattle.streetmap_bodies.specs.Bodies.{page_data, page_links, self_href, next_href, extent_text, extent_data, collection_data, collection_links, collections_data, self_link, linked_feature_data}
use Rattle.serde_json.specs.Written.{has_float}
use Rattle.streetmap_geojson.specs.FeatureInvariant.{IsFeature}
use Rattle.streetmap_feature_text.proofs.Again.{no_float_feature}

-- a page, one part after another
abbrev pub page_parts : Text → Text → QueryValue → List FeatureValue → ℕ → Option Text → Text
page_parts root name q features matched next =
    codes "{\"features\":" ++ (compact_text (array_of feature_data features) ++ (codes ",\"links\":" ++ (compact_text (page_links (self_href root name q) (option_map (next_href root name q) next))
    ++ (codes ",\"numberMatched\":" ++ (decimal matched ++ (codes ",\"numberReturned\":" ++ (decimal (length features) ++ codes ",\"type\":\"FeatureCollection\"}")))))))

pub page_text_is : (root name : Text) (q : QueryValue) (features : List FeatureValue) (matched examined : ℕ) (next : Option Text)
    → page_parts root name q features matched next ≡ compact_text (page_data root name q (record { features = features; matched = matched; next = next; examined = examined }))
unfolding escape_byte page_data
page_text_is root name q features matched examined next = refl

-- a collection, one part after another
abbrev pub collection_parts : Text → Text → Text → Option BoxValue → Text
collection_parts root id title extent =
    codes "{\"crs\":[\"tag:streetmap.invalid,2024:crs/grid-mm\"]," ++ (extent_text extent ++ (codes "\"id\":" ++ (compact_text (string id) ++ (codes ",\"links\":" ++ (compact_text (collection_links root id) ++ (codes ",\"title\":" ++ (compact_text (string title) ++ codes "}")))))))

-- from the id on
abbrev from_id : Text → Text → Text → Text
from_id root id title = codes "\"id\":" ++ (compact_text (string id) ++ (codes ",\"links\":" ++ (compact_text (collection_links root id) ++ (codes ",\"title\":" ++ (compact_text (string title) ++ codes "}")))))

pub collection_text_is : (root id title : Text) (time : Option Text) (extent : Option BoxValue)
    → collection_parts root id title extent ≡ compact_text (collection_data root (record { id = id; title = title; time = time; extent = extent }))
unfolding escape_byte collection_data
collection_text_is root id title time None = refl
collection_text_is root id title time (Some b) =
    ap (λ l. codes "{\"crs\":[\"tag:streetmap.invalid,2024:crs/grid-mm\"],\"extent\":" ++ l) (append_assoc (compact_text (extent_data b)) (codes ",") (from_id root id title))

-- all collections, one part after another
abbrev pub collections_parts : Text → List SummaryValue → Text
collections_parts root ss =
    codes "{\"collections\":" ++ (compact_text (array_of (collection_data root) ss) ++ (codes ",\"links\":" ++ (compact_text (self_link (root ++ codes "/collections")) ++ codes "}")))

pub collections_text_is : (root : Text) (ss : List SummaryValue) → collections_parts root ss ≡ compact_text (collections_data root ss)
unfolding escape_byte collections_data
collections_text_is root ss = refl

-- a feature with its links has no float
pub no_float_linked : (root name : Text) (f : FeatureValue) → IsFeature f → has_float (linked_feature_data root name f) ≡ false
unfolding linked_feature_data
no_float_linked root name f is = no_float_feature f is
