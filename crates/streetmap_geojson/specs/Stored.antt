-- How the logic stores a feature: a code, by which a `Model` may have a feature, or a map of
-- features, as its value.
-- A value is stored as the list of its constructors from the left; a list is read back from its
-- end, with a stack.
use Rattle.std.specs.Prelude.{◌≡◌, ℕ, ℤ, pos, List, [], ◌∷◌, Bool, true, false, cond, ◌==◌, Option}
use Rattle.std.specs.Prelude.{None, refl}
use Rattle.std.specs.Float.{Float, nan}
use Rattle.std.specs.Coded.{Coded, code_by, coded×, coded_ℕ, coded_ℤ, coded_list, coded_option}
use base.Stored.{coded_float}
use mathlib.Core.Path.{ap, ◌∙◌}
use Rattle.serde_json.specs.Data.{Num, unsigned, negative, float, Data, null, boolean, number}
use Rattle.serde_json.specs.Data.{string, array, object, Items, no_items, item, Members}
use Rattle.serde_json.specs.Data.{no_members, member}
use Rattle.streetmap_grid.specs.Values as values
use Rattle.streetmap_grid.specs.Values.{PositionValue, SimpleValue, GeometryValue}
use Rattle.streetmap_moment.specs.IntervalValue.{IntervalValue, coded_interval}
use Rattle.streetmap_geojson.specs.FeatureValue.{FeatureValue}

-- which constructor, and what it holds besides values
abbrev pub Part : Type 0
Part = ℕ × (ℕ × (ℤ × (Float × List ℕ)))

abbrev num_part : Num → Part
num_part (unsigned n) = (2, (n, (pos 0, (nan, []))))
num_part (negative z) = (3, (0, (z, (nan, []))))
num_part (float x) = (4, (0, (pos 0, (x, []))))

abbrev mutual
  data_parts : Data → List Part → List Part
  data_parts null rest = (0, (0, (pos 0, (nan, [])))) ∷ rest
  data_parts (boolean b) rest = (1, (cond b 1 0, (pos 0, (nan, [])))) ∷ rest
  data_parts (number n) rest = num_part n ∷ rest
  data_parts (string s) rest = (5, (0, (pos 0, (nan, s)))) ∷ rest
  data_parts (array ds) rest = (6, (0, (pos 0, (nan, [])))) ∷ items_parts ds rest
  data_parts (object ms) rest = (7, (0, (pos 0, (nan, [])))) ∷ members_parts ms rest

  items_parts : Items → List Part → List Part
  items_parts no_items rest = (8, (0, (pos 0, (nan, [])))) ∷ rest
  items_parts (item d ds) rest = (9, (0, (pos 0, (nan, [])))) ∷ data_parts d (items_parts ds rest)

  members_parts : Members → List Part → List Part
  members_parts no_members rest = (10, (0, (pos 0, (nan, [])))) ∷ rest
  members_parts (member k d ms) rest = (11, (0, (pos 0, (nan, k))))
      ∷ data_parts d (members_parts ms rest)

-- an element of the stack: a value, or items, or members
abbrev Node : Type 0
Node = Data × (Items × Members)

abbrev of_data : Data → Node
of_data d = (d, (no_items, no_members))

abbrev of_items : Items → Node
of_items ds = (null, (ds, no_members))

abbrev of_members : Members → Node
of_members ms = (null, (no_items, ms))

-- a constructor of nothing, of one node, of two
abbrev leaf : Part → Node
leaf p =
    cond (p.0 == 1) (of_data (boolean (p.1.0 == 1)))
    (cond (p.0 == 2) (of_data (number (unsigned p.1.0)))
    (cond (p.0 == 3) (of_data (number (negative p.1.1.0)))
    (cond (p.0 == 4) (of_data (number (float p.1.1.1.0)))
    (cond (p.0 == 5) (of_data (string p.1.1.1.1)) (of_data null)))))

abbrev onto_one : Part → Node → Node
onto_one p a = cond (p.0 == 6) (of_data (array a.1.0)) (of_data (object a.1.1))

abbrev onto_two : Part → Node → Node → Node
onto_two p a b = cond (p.0 == 9) (of_items (item a.0 b.1.0))
    (of_members (member p.1.1.1.1 a.0 b.1.1))

abbrev step_one : Part → List Node → List Node
step_one p [] = []
step_one p (a ∷ nodes) = onto_one p a ∷ nodes

abbrev step_two : Part → List Node → List Node
step_two p [] = []
step_two p (a ∷ []) = []
step_two p (a ∷ b ∷ nodes) = onto_two p a b ∷ nodes

abbrev is_one : ℕ → Bool
is_one n = cond (n == 6) true (n == 7)

abbrev is_two : ℕ → Bool
is_two n = cond (n == 9) true (n == 11)

abbrev step : Part → List Node → List Node
step p nodes = cond (is_one p.0) (step_one p nodes)
    (cond (is_two p.0) (step_two p nodes) (leaf p ∷ nodes))

abbrev nodes_of : List Part → List Node
nodes_of [] = []
nodes_of (p ∷ ps) = step p (nodes_of ps)

mutual
  data_back : (d : Data) (rest : List Part)
      → nodes_of (data_parts d rest) ≡ of_data d ∷ nodes_of rest
  data_back null rest = refl
  data_back (boolean true) rest = refl
  data_back (boolean false) rest = refl
  data_back (number (unsigned n)) rest = refl
  data_back (number (negative z)) rest = refl
  data_back (number (float x)) rest = refl
  data_back (string s) rest = refl
  data_back (array ds) rest = ap (step (6, (0, (pos 0, (nan, []))))) (items_back ds rest)
  data_back (object ms) rest = ap (step (7, (0, (pos 0, (nan, []))))) (members_back ms rest)

  items_back : (ds : Items) (rest : List Part)
      → nodes_of (items_parts ds rest) ≡ of_items ds ∷ nodes_of rest
  items_back no_items rest = refl
  items_back (item d ds) rest = ap (step (9, (0, (pos 0, (nan, [])))))
      (data_back d (items_parts ds rest) ∙ ap (λ (w : List Node).
      of_data d ∷ w) (items_back ds rest))

  members_back : (ms : Members) (rest : List Part)
      → nodes_of (members_parts ms rest) ≡ of_members ms ∷ nodes_of rest
  members_back no_members rest = refl
  members_back (member k d ms) rest = ap (step (11, (0, (pos 0, (nan, k)))))
      (data_back d (members_parts ms rest) ∙ ap (λ (w : List Node).
      of_data d ∷ w) (members_back ms rest))

abbrev top : List Node → Data
top [] = null
top (a ∷ nodes) = a.0

pub data_again : (d : Data) → top (nodes_of (data_parts d [])) ≡ d
data_again d = ap top (data_back d [])

abbrev pub coded_part : Coded Part
coded_part = coded× coded_ℕ (coded× coded_ℕ
    (coded× coded_ℤ (coded× coded_float (coded_list coded_ℕ))))

abbrev pub coded_data : Coded Data
coded_data = code_by (List Part) (coded_list coded_part) (λ d. data_parts d []) (λ ps.
    top (nodes_of ps)) data_again

-- ---- positions, geometries, features

abbrev pub coded_position : Coded PositionValue
coded_position = code_by (ℤ × (ℤ
    × Option ℤ)) (coded× coded_ℤ (coded× coded_ℤ (coded_option coded_ℤ))) (λ p.
    (p.x, (p.y, p.z))) (λ c. record { x = c.0; y = c.1.0; z = c.1.1 }) (λ _. refl)

-- lists of positions, one or more levels deep
abbrev Lists : Type 0
Lists = List (List (List PositionValue))

-- which kind, and its lists of positions
abbrev simple_parts : SimpleValue → ℕ × Lists
simple_parts (values.point p) = (0, ((p ∷ []) ∷ []) ∷ [])
simple_parts (values.multi_point ps) = (1, (ps ∷ []) ∷ [])
simple_parts (values.line_string ps) = (2, (ps ∷ []) ∷ [])
simple_parts (values.multi_line_string ls) = (3, ls ∷ [])
simple_parts (values.polygon rs) = (4, rs ∷ [])
simple_parts (values.multi_polygon ps) = (5, ps)

abbrev origin : PositionValue
origin = record { x = pos 0; y = pos 0; z = None }

abbrev first_polygon : Lists → List (List PositionValue)
first_polygon [] = []
first_polygon (ls ∷ more) = ls

abbrev first_list : List (List PositionValue) → List PositionValue
first_list [] = []
first_list (ps ∷ more) = ps

abbrev first_or : List PositionValue → PositionValue
first_or [] = origin
first_or (p ∷ ps) = p

abbrev simple_from : ℕ × Lists → SimpleValue
simple_from c =
    cond (c.0 == 0) (values.point (first_or (first_list (first_polygon c.1))))
    (cond (c.0 == 1) (values.multi_point (first_list (first_polygon c.1)))
    (cond (c.0 == 2) (values.line_string (first_list (first_polygon c.1)))
    (cond (c.0 == 3) (values.multi_line_string (first_polygon c.1))
    (cond (c.0 == 4) (values.polygon (first_polygon c.1)) (values.multi_polygon c.1)))))

pub simple_back : (s : SimpleValue) → simple_from (simple_parts s) ≡ s
simple_back (values.point p) = refl
simple_back (values.multi_point ps) = refl
simple_back (values.line_string ps) = refl
simple_back (values.multi_line_string ls) = refl
simple_back (values.polygon rs) = refl
simple_back (values.multi_polygon ps) = refl

abbrev pub coded_simple : Coded SimpleValue
coded_simple = code_by (ℕ × Lists)
    (coded× coded_ℕ (coded_list (coded_list (coded_list coded_position)))) simple_parts simple_from
    simple_back

abbrev geometry_parts : GeometryValue → ℕ × List SimpleValue
geometry_parts (values.simple s) = (0, s ∷ [])
geometry_parts (values.collection ss) = (1, ss)

abbrev simple_or : List SimpleValue → GeometryValue
simple_or [] = values.collection []
simple_or (s ∷ ss) = values.simple s

abbrev geometry_from : ℕ × List SimpleValue → GeometryValue
geometry_from c = cond (c.0 == 0) (simple_or c.1) (values.collection c.1)

pub geometry_back : (g : GeometryValue) → geometry_from (geometry_parts g) ≡ g
geometry_back (values.simple s) = refl
geometry_back (values.collection ss) = refl

abbrev pub coded_geometry : Coded GeometryValue
coded_geometry = code_by (ℕ × List SimpleValue) (coded× coded_ℕ (coded_list coded_simple))
    geometry_parts geometry_from geometry_back

abbrev pub coded_feature : Coded FeatureValue
coded_feature = code_by (List ℕ × (Option GeometryValue × (Data × Option IntervalValue)))
    (coded× (coded_list coded_ℕ) (coded× (coded_option coded_geometry)
    (coded× coded_data (coded_option coded_interval))))
    (λ f. (f.id, (f.geometry, (f.properties, f.time)))) (λ c.
    record { id = c.0; geometry = c.1.0; properties = c.1.1.0; time = c.1.1.1 }) (λ _. refl)
