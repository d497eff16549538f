-- Which route each of the eight paths finds. OGC 17-069, section 7.
use Rattle.std.specs.Prelude.{◌≡◌, ◌≢◌, ◌<◌, ◌++◌, [], ◌∷◌, length, Some, codes, ⊤}
use Rattle.streetmap_batch.specs.Text.{Text}
use Rattle.streetmap_routes.specs.Operations.{route_of}
use Rattle.streetmap_routes.specs.declared.routes.Route.TheVariants.{Landing, Api, Conformance}
use Rattle.streetmap_routes.specs.declared.routes.Route.TheVariants.{Collections, Collection, Items}
use Rattle.streetmap_routes.specs.declared.routes.Route.TheVariants.{Item, Batches}

-- bytes without a slash
abbrev pub HasNoSlash : Text → Type 0
HasNoSlash [] = ⊤
HasNoSlash (b ∷ bs) = (b < 256) × (b ≢ 47) × HasNoSlash bs

-- a name as it is written in a path, percent-encoded: at least one byte, and no slash
pub record IsSegment (name : Text) : Type 0 where
  pub some : 0 < length name
  pub plain : HasNoSlash name

-- each path finds its own route, whatever names are in it
pub record EachFindsItsRoute : Type 0 where
  pub landing : route_of (codes "/") ≡ Some Landing
  pub api : route_of (codes "/api") ≡ Some Api
  pub conformance : route_of (codes "/conformance") ≡ Some Conformance
  pub collections : route_of (codes "/collections") ≡ Some Collections
  pub collection :
      (name : Text) → IsSegment name → route_of (codes "/collections/" ++ name) ≡ Some Collection
  pub items :
      (name : Text) → IsSegment name
      → route_of (codes "/collections/" ++ (name ++ codes "/items")) ≡ Some Items
  pub item :
      (name id : Text) → IsSegment name → IsSegment id
      → route_of (codes "/collections/" ++ (name ++ (codes "/items/" ++ id))) ≡ Some Item
  pub batches : route_of (codes "/batches") ≡ Some Batches
