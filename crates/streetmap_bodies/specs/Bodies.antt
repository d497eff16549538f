-- The bodies of answers (RFC 8288 for links; OGC 17-069, sections 7.2 to 7.16).
use Rattle.std.specs.Prelude.{List, [], ◌∷◌, ◌++◌, Option, None, Some, option_map, codes, length}
use Rattle.serde_json.specs.Data.{Data, number, unsigned, string, array, object, Items, item}
use Rattle.serde_json.specs.Data.{no_items, Members, member, no_members}
use Rattle.serde_json.specs.View.{items_of}
use Rattle.serde_json.specs.Written.{compact_text}
use Rattle.percent_encoding.specs.Percent.{percent_encode}
use Rattle.percent_encoding.specs.declared.ascii_set.AsciiSet.{AsciiSet}
use Rattle.streetmap_grid.specs.Values.{BoxValue}
use Rattle.streetmap_geojson.specs.FeatureValue.{FeatureValue}
use Rattle.streetmap_feature_text.specs.Written.{feature_data, geometry_member, array_of}
use Rattle.streetmap_feature_text.specs.Written.{number_data}
use Rattle.streetmap_query.specs.QueryValue.{QueryValue}
use Rattle.streetmap_query.specs.Query.{query_text}
use Rattle.streetmap_batch.specs.Text.{Text}
use Rattle.streetmap_ledger.specs.Pages.{PageValue}
use Rattle.streetmap_ledger.specs.Summaries.{SummaryValue}

-- the media types
abbrev pub json : Text
json = codes "application/json"

-- that of features and pages; RFC 7946, section 12
abbrev pub geo_json : Text
geo_json = codes "application/geo+json"

-- a link; root is the base without its last slash
abbrev pub link : Text → Text → Text → Data
link href rel kind = object (member (codes "href") (string href)
    (member (codes "rel") (string rel) (member (codes "type") (string kind) no_members)))

-- the address of a collection
abbrev pub collection_href : Text → Text → Text
collection_href root name = root ++ codes "/collections/" ++ name

-- the address of its features
abbrev pub items_href : Text → Text → Text
items_href root name = collection_href root name ++ codes "/items"

-- the address of a page of them
abbrev pub page_href : Text → Text → Text → Text
page_href root name query = items_href root name ++ codes "?" ++ query

-- the link to the next page, if any
abbrev pub next_link : Option Text → Items
next_link None = no_items
next_link (Some href) = item (link href (codes "next") geo_json) no_items

-- to itself, and to the next page, if any; OGC 17-069, section 7.15.5
abbrev pub page_links : Text → Option Text → Data
page_links here next = array (item (link here (codes "self") geo_json) (next_link next))

-- the address of a page itself
abbrev pub self_href : Text → Text → QueryValue → Text
self_href root name q = page_href root name (query_text q)

-- the same query, from after an id
abbrev pub next_href : Text → Text → QueryValue → Text → Text
next_href root name q id = page_href root name (query_text (record q { after = Some id }))

-- a page; OGC 17-069, section 7.15.8
unfoldable pub page_data : Text → Text → QueryValue → PageValue → Data
page_data root name q p =
    object (member (codes "features") (array_of feature_data p.features)
    (member (codes "links") (page_links (self_href root name q)
    (option_map (next_href root name q) p.next))
    (member (codes "numberMatched") (number (unsigned p.matched))
    (member (codes "numberReturned") (number (unsigned (length p.features)))
    (member (codes "type") (string (codes "FeatureCollection")) no_members)))))

-- the member `next`, if more features follow
abbrev pub next_member : Option Text → Members → Members
next_member None others = others
next_member (Some id) others = member (codes "next") (string id) others

-- a page as a line shows it: without links, with the last id shown if more follow
unfoldable pub line_page_data : PageValue → Data
line_page_data p =
    object (member (codes "features") (array_of feature_data p.features)
    (next_member p.next
    (member (codes "numberMatched") (number (unsigned p.matched))
    (member (codes "numberReturned") (number (unsigned (length p.features))) no_members))))

-- the links of the landing page: to itself, to the description, to the conformance classes and to
-- the collections
abbrev pub landing_links : Text → Text → Text → Text → Data
landing_links here api conformance collections =
    array (item (link here (codes "self") json)
    (item (link api (codes "service-doc") (codes "text/html"))
    (item (link conformance (codes "conformance") json)
    (item (link collections (codes "data") json) no_items))))

-- the landing page with these links
abbrev pub landing_by : Data → Data
landing_by links =
    object (member (codes "description")
    (string (codes "Street assets on a local grid of whole millimetres."))
    (member (codes "links") links
    (member (codes "title") (string (codes "Street map")) no_members)))

-- those under a base
abbrev pub landing_links_of : Text → Data
landing_links_of root = landing_links (root ++ codes "/") (root ++ codes "/api")
    (root ++ codes "/conformance") (root ++ codes "/collections")

-- the landing page; OGC 17-069, section 7.2
unfoldable pub landing_data : Text → Data
landing_data root = landing_by (landing_links_of root)

-- the description of the service
abbrev pub api_document : Text
api_document = codes
    "<!DOCTYPE html><title>Street map</title><p>Features are at /collections, batches go to /batches.</p>"

-- the conformance classes; OGC 17-069, section 7.4
abbrev pub conformance_data : Data
conformance_data = object (member (codes "conformsTo")
    (array (item (string (codes "tag:streetmap.invalid,2024:conf/grid-features")) no_items))
    no_members)

-- the reference system of the local grid
abbrev pub grid_crs : Data
grid_crs = string (codes "tag:streetmap.invalid,2024:crs/grid-mm")

-- the four bounds of a box, west, south, east and north
abbrev pub box_numbers : BoxValue → List Data
box_numbers b = number_data b.x0 ∷ number_data b.y0 ∷ number_data b.x1 ∷ number_data b.y1 ∷ []

-- an extent; OGC 17-069, section 7.14.2
abbrev pub extent_data : BoxValue → Data
extent_data b = object (member (codes "spatial")
    (object (member (codes "bbox") (array (item (array (items_of (box_numbers b))) no_items))
    (member (codes "crs") grid_crs no_members))) no_members)

-- the member `extent`, if any feature has a position
abbrev pub extent_member : Option BoxValue → Members → Members
extent_member None others = others
extent_member (Some b) others = member (codes "extent") (extent_data b) others

-- the links of a collection: to itself, and to its features
abbrev pub links_of_collection : Text → Text → Data
links_of_collection here items = array
    (item (link here (codes "self") json) (item (link items (codes "items") geo_json) no_items))

-- those under a base
abbrev pub collection_links : Text → Text → Data
collection_links root name = links_of_collection (collection_href root name) (items_href root name)

-- a collection; OGC 17-069, section 7.14. Its time property is not shown.
unfoldable pub collection_data : Text → SummaryValue → Data
collection_data root s =
    object (member (codes "crs") (array (item grid_crs no_items))
    (extent_member s.extent
    (member (codes "id") (string s.id)
    (member (codes "links") (collection_links root s.id)
    (member (codes "title") (string s.title) no_members)))))

-- a link of all collections to themselves
abbrev pub self_link : Text → Data
self_link here = array (item (link here (codes "self") json) no_items)

-- all collections; OGC 17-069, section 7.13
unfoldable pub collections_data : Text → List SummaryValue → Data
collections_data root ss =
    object (member (codes "collections") (array_of (collection_data root) ss)
    (member (codes "links") (self_link (root ++ codes "/collections")) no_members))

-- the bytes of an id that are percent-encoded in a path: all of ASCII except letters, digits, `-`,
-- `_`, `~` and `.` (RFC 3986, section 2.3)
abbrev pub encoded_bytes : AsciiSet
encoded_bytes = record { mask = 244577951340790884343731678625228914687 }

-- the address of a feature
abbrev pub feature_href : Text → Text → Text → Text
feature_href root name id = items_href root name ++ codes "/" ++ percent_encode encoded_bytes id

-- the links of a feature: to itself, and to its collection
abbrev pub links_of_feature : Text → Text → Data
links_of_feature here collection = array
    (item (link here (codes "self") geo_json)
    (item (link collection (codes "collection") json) no_items))

-- those under a base
abbrev pub feature_links : Text → Text → Text → Data
feature_links root name id = links_of_feature (feature_href root name id)
    (collection_href root name)

-- a feature; OGC 17-069, section 7.16
unfoldable pub linked_feature_data : Text → Text → FeatureValue → Data
linked_feature_data root name f =
    object (member (codes "geometry") (geometry_member f.geometry)
    (member (codes "id") (string f.id)
    (member (codes "links") (feature_links root name f.id)
    (member (codes "properties") f.properties
    (member (codes "type") (string (codes "Feature")) no_members)))))

-- ---- texts of parts

-- the text of the extent in the text of a collection
abbrev pub extent_text : Option BoxValue → Text
extent_text None = []
extent_text (Some b) = codes "\"extent\":" ++ compact_text (extent_data b) ++ codes ","
