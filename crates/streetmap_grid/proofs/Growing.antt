-- The extent of more and more positions.
use Rattle.std.specs.Prelude.{ℕ, zero, suc, ◌+◌, ◌<◌, ◌≤◌, ℤ, ◌≤ℤ◌, ◌≡◌, ◌⊎◌, List, [], ◌∷◌, ◌++◌, length, take, map, int_lt, get_or, slice_index_or, All, Contains, refl}
use Rattle.std.specs.Int.{int_max, int_min}
use Rattle.std.specs.List.{AllByRecursion, flat_map, fold}
use Rattle.std.proofs.Common.{subst, sym, ◌∙◌, ap, arith, inl, inr, Option, cond, true, false}
use Rattle.std.proofs.lemmas.Int.{ints, clamps, fold-int_max_bounds, fold-int_max_reached, fold-int_min_bounds, fold-int_min_reached}
use Rattle.std.proofs.lemmas.List.{take_more, take_all, flat_map_more, length-append}
use Rattle.std.proofs.lemmas.List.Elements.{recursion_from_All, All-from_recursion, All-append, All-weaker, All-cons}
use Rattle.streetmap_grid.specs.declared.grid_box.GridBox.{GridBox}
use Rattle.streetmap_grid.specs.Values.{PositionValue, BoxValue, SimpleValue, GeometryValue, point, multi_point, line_string, multi_line_string, polygon, multi_polygon, simple, collection}
use Rattle.streetmap_grid.specs.Some.{SomeOf}
use Rattle.streetmap_grid.specs.Range.{IsBound}
use Rattle.streetmap_grid.specs.Meeting.{Holds}
use Rattle.streetmap_grid.specs.WellFormed.{IsLine, IsRing, IsPolygon, IsSimple, IsGeometry}
use Rattle.streetmap_grid.specs.Extent.{IsExtent, union, polygon_vertices, simple_vertices, vertices, positions_extent, extent_of}
use Rattle.streetmap_grid.specs.Bounds.{AreBounds}

-- ---- the positions of two lists
some_left : (P Q : PositionValue → Type 0) → ((p : PositionValue) → P p → Q p) → (ps qs : List PositionValue) → SomeOf P ps → SomeOf Q (ps ++ qs)
some_left P Q f [] qs s = absurd s
some_left P Q f (v ∷ vs) qs (inl s) = inl (f v s)
some_left P Q f (v ∷ vs) qs (inr s) = inr (some_left P Q f vs qs s)

some_each : (P Q : PositionValue → Type 0) → ((p : PositionValue) → P p → Q p) → (qs : List PositionValue) → SomeOf P qs → SomeOf Q qs
some_each P Q f [] s = absurd s
some_each P Q f (v ∷ vs) (inl s) = inl (f v s)
some_each P Q f (v ∷ vs) (inr s) = inr (some_each P Q f vs s)

some_right : (P Q : PositionValue → Type 0) → ((p : PositionValue) → P p → Q p) → (ps qs : List PositionValue) → SomeOf P qs → SomeOf Q (ps ++ qs)
some_right P Q f [] qs s = some_each P Q f qs s
some_right P Q f (v ∷ vs) qs s = inr (some_right P Q f vs qs s)

bound : (f : PositionValue → ℤ) (a b new : ℤ) (ps qs : List PositionValue) → (new ≡ a) ⊎ (new ≡ b) → SomeOf (λ v. f v ≡ a) ps → SomeOf (λ v. f v ≡ b) qs → SomeOf (λ v. f v ≡ new) (ps ++ qs)
bound f a b new ps qs (inl e) s t = some_left (λ v. f v ≡ a) (λ v. f v ≡ new) (λ v k. k ∙ sym e) ps qs s
bound f a b new ps qs (inr e) s t = some_right (λ v. f v ≡ b) (λ v. f v ≡ new) (λ v k. k ∙ sym e) ps qs t

min_reached : (a b : ℤ) → (int_min a b ≡ a) ⊎ (int_min a b ≡ b)
min_reached a b = elim (int_lt b a) as (λ v. (cond v b a ≡ a) ⊎ (cond v b a ≡ b)) [ true ↦ inr refl | false ↦ inl refl ]

max_reached : (a b : ℤ) → (int_max a b ≡ a) ⊎ (int_max a b ≡ b)
max_reached a b = elim (int_lt b a) as (λ v. (cond v a b ≡ a) ⊎ (cond v a b ≡ b)) [ true ↦ inl refl | false ↦ inr refl ]

held_left : (g h : BoxValue) (x y : ℤ) → Holds g x y → Holds (union g h) x y
held_left g h x y i = (omega (arith, ints, clamps, i), omega (arith, ints, clamps, i), omega (arith, ints, clamps, i), omega (arith, ints, clamps, i))

held_right : (g h : BoxValue) (x y : ℤ) → Holds h x y → Holds (union g h) x y
held_right g h x y i = (omega (arith, ints, clamps, i), omega (arith, ints, clamps, i), omega (arith, ints, clamps, i), omega (arith, ints, clamps, i))

-- the extent of two lists, from those of each
pub extent_both : (ps qs : List PositionValue) (g h : BoxValue) → IsExtent ps g → IsExtent qs h → IsExtent (ps ++ qs) (union g h)
extent_both ps qs g h x y =
    record {
      holds = All-append (λ v. Holds (union g h) v.x v.y) ps qs
          (All-weaker (λ v. Holds g v.x v.y) (λ v. Holds (union g h) v.x v.y) (λ v i. held_left g h v.x v.y i) ps x.holds)
          (All-weaker (λ v. Holds h v.x v.y) (λ v. Holds (union g h) v.x v.y) (λ v i. held_right g h v.x v.y i) qs y.holds);
      west = bound (λ v. v.x) g.x0 h.x0 (int_min g.x0 h.x0) ps qs (min_reached g.x0 h.x0) x.west y.west;
      south = bound (λ v. v.y) g.y0 h.y0 (int_min g.y0 h.y0) ps qs (min_reached g.y0 h.y0) x.south y.south;
      east = bound (λ v. v.x) g.x1 h.x1 (int_max g.x1 h.x1) ps qs (max_reached g.x1 h.x1) x.east y.east;
      north = bound (λ v. v.y) g.y1 h.y1 (int_max g.y1 h.y1) ps qs (max_reached g.y1 h.y1) x.north y.north;
    }

pub min_in : (a b : ℤ) → IsBound a → IsBound b → IsBound (int_min a b)
min_in a b ha hb = (omega (arith, ints, clamps, ha, hb), omega (arith, ints, clamps, ha, hb))

pub max_in : (a b : ℤ) → IsBound a → IsBound b → IsBound (int_max a b)
max_in a b ha hb = (omega (arith, ints, clamps, ha, hb), omega (arith, ints, clamps, ha, hb))

-- the least of the lower bounds is below the greatest of the upper ones
pub min_below : (l h m n low high : ℤ) → l ≤ℤ h → low ≡ int_min l m → high ≡ int_max h n → low ≤ℤ high
min_below l h m n low high o e d = omega (arith, ints, clamps, o, e, d)

-- ---- a loop that adds what each element has
pub bounds_more : {X : Type 0} (f : X → List PositionValue) (xs : List X) (ps : List PositionValue) (i : ℕ) (x : X) (o : Option GridBox) → i < length xs → x ≡ get_or xs i x → AreBounds ((ps ++ flat_map f (take i xs)) ++ f x) o → AreBounds (ps ++ flat_map f (take (i + 1) xs)) o
bounds_more {X} f xs ps i x o h e b =
    let P : List PositionValue → Type 0 = λ vs. AreBounds vs o in
    subst P (flat_map_more f ps (take i xs) x ∙ ap (λ (y : X). ps ++ flat_map f (take i xs ++ y ∷ [])) e ∙ ap (λ (ys : List X). ps ++ flat_map f ys) (sym (take_more xs i x h))) b

-- what elements have, by their views
flat_map-map : {X Y : Type 0} (g : Y → List PositionValue) (f : X → Y) (xs : List X) → flat_map g (map f xs) ≡ flat_map (λ x. g (f x)) xs
flat_map-map g f [] = refl
flat_map-map g f (x ∷ xs) = ap (λ (vs : List PositionValue). g (f x) ++ vs) (flat_map-map g f xs)

pub bounds_all : {X Y : Type 0} (g : Y → List PositionValue) (f : X → Y) (xs : List X) (ps : List PositionValue) (i : ℕ) (o : Option GridBox) → length xs ≤ i → AreBounds (ps ++ flat_map (λ x. g (f x)) (take i xs)) o → AreBounds (ps ++ flat_map g (map f xs)) o
bounds_all {X} g f xs ps i o h b =
    let P : List PositionValue → Type 0 = λ vs. AreBounds vs o in
    subst P (ap (λ (ys : List X). ps ++ flat_map (λ x. g (f x)) ys) (take_all i xs h) ∙ ap (λ (vs : List PositionValue). ps ++ vs) (sym (flat_map-map g f xs))) b

singles : {X : Type 0} (f : X → PositionValue) (xs : List X) → flat_map (λ x. f x ∷ []) xs ≡ map f xs
singles f [] = refl
singles f (x ∷ xs) = ap (λ (vs : List PositionValue). f x ∷ vs) (singles f xs)

pub singles_all : {X : Type 0} (f : X → PositionValue) (xs : List X) (ps : List PositionValue) (i : ℕ) (o : Option GridBox) → length xs ≤ i → AreBounds (ps ++ flat_map (λ x. f x ∷ []) (take i xs)) o → AreBounds (ps ++ map f xs) o
singles_all {X} f xs ps i o h b =
    let P : List PositionValue → Type 0 = λ vs. AreBounds vs o in
    subst P (ap (λ (ys : List X). ps ++ flat_map (λ x. f x ∷ []) ys) (take_all i xs h) ∙ ap (λ (vs : List PositionValue). ps ++ vs) (singles f xs)) b

-- ---- the extent of a list is one box
all_at : (V P : PositionValue → Type 0) (ps : List PositionValue) → AllByRecursion V ps → SomeOf P ps → (p : PositionValue) × (V p × P p)
all_at V P [] h s = absurd s
all_at V P (p ∷ ps) h (inl s) = (p, (h.0, s))
all_at V P (p ∷ ps) h (inr s) = all_at V P ps h.1 s

abbrev box_of : ℤ → ℤ → ℤ → ℤ → BoxValue
box_of a b c d = record { x0 = a; y0 = b; x1 = c; y1 = d }

pub made_box : (g h : BoxValue) → g.x0 ≡ h.x0 → g.y0 ≡ h.y0 → g.x1 ≡ h.x1 → g.y1 ≡ h.y1 → g ≡ h
made_box g h a b c d =
    ap (λ (n : ℤ). box_of n g.y0 g.x1 g.y1) a ∙ ap (λ (n : ℤ). box_of h.x0 n g.x1 g.y1) b ∙ ap (λ (n : ℤ). box_of h.x0 h.y0 n g.y1) c ∙ ap (λ (n : ℤ). box_of h.x0 h.y0 h.x1 n) d

pub same_extent : (ps : List PositionValue) (g h : BoxValue) → IsExtent ps g → IsExtent ps h → g ≡ h
same_extent ps g h a b =
    let V = λ (e : BoxValue) (p : PositionValue). Holds e p.x p.y in
    let inside = recursion_from_All (V g) ps a.holds in
    let inside' = recursion_from_All (V h) ps b.holds in
    let w = all_at (V g) (λ p. p.x ≡ h.x0) ps inside b.west in
    let w' = all_at (V h) (λ p. p.x ≡ g.x0) ps inside' a.west in
    let s = all_at (V g) (λ p. p.y ≡ h.y0) ps inside b.south in
    let s' = all_at (V h) (λ p. p.y ≡ g.y0) ps inside' a.south in
    let e = all_at (V g) (λ p. p.x ≡ h.x1) ps inside b.east in
    let e' = all_at (V h) (λ p. p.x ≡ g.x1) ps inside' a.east in
    let n = all_at (V g) (λ p. p.y ≡ h.y1) ps inside b.north in
    let n' = all_at (V h) (λ p. p.y ≡ g.y1) ps inside' a.north in
    made_box g h
    (omega (arith, ints, w.1.0.0, w.1.1, w'.1.0.0, w'.1.1))
    (omega (arith, ints, s.1.0.2, s.1.1, s'.1.0.2, s'.1.1))
    (omega (arith, ints, e.1.0.1, e.1.1, e'.1.0.1, e'.1.1))
    (omega (arith, ints, n.1.0.3, n.1.1, n'.1.0.3, n'.1.1))

-- ---- the least and the greatest coordinates are those of the extent
map_all : {X Y : Type 0} (P : Y → Type 0) (f : X → Y) (xs : List X) → AllByRecursion P (map f xs) → AllByRecursion (λ x. P (f x)) xs
map_all P f [] h = tt
map_all P f (x ∷ xs) h = (h.0, map_all P f xs h.1)

contains_some : (f : PositionValue → ℤ) (ps : List PositionValue) (r : ℤ) (k : ℕ) → k < length (map f ps) → slice_index_or (map f ps) k r ≡ r → SomeOf (λ p. f p ≡ r) ps
contains_some f [] r k h e = absurd (omega arith)
contains_some f (p ∷ ps) r zero h e = inl e
contains_some f (p ∷ ps) r (suc k) h e = inr (contains_some f ps r k (omega arith) e)

reached_some : (f : PositionValue → ℤ) (p : PositionValue) (ps : List PositionValue) (r : ℤ) → (r ≡ f p) ⊎ Contains (map f ps) r → SomeOf (λ v. f v ≡ r) (p ∷ ps)
reached_some f p ps r (inl e) = inl (sym e)
reached_some f p ps r (inr h) = inr (contains_some f ps r h.0 h.1 h.2)

four : (P Q R S : PositionValue → Type 0) (ps : List PositionValue) → AllByRecursion P ps → AllByRecursion Q ps → AllByRecursion R ps → AllByRecursion S ps → AllByRecursion (λ p. P p × Q p × R p × S p) ps
four P Q R S [] a b c d = tt
four P Q R S (p ∷ ps) a b c d = ((a.0, b.0, c.0, d.0), four P Q R S ps a.1 b.1 c.1 d.1)

pub positions_extent_is : (p : PositionValue) (ps : List PositionValue) → IsExtent (p ∷ ps) (positions_extent (p ∷ ps))
positions_extent_is p ps =
    let xs = map (λ (v : PositionValue). v.x) ps in
    let ys = map (λ (v : PositionValue). v.y) ps in
    let x0 = fold int_min p.x xs in
    let y0 = fold int_min p.y ys in
    let x1 = fold int_max p.x xs in
    let y1 = fold int_max p.y ys in
    let w = fold-int_min_bounds p.x xs x0 refl in
    let s = fold-int_min_bounds p.y ys y0 refl in
    let e = fold-int_max_bounds p.x xs x1 refl in
    let n = fold-int_max_bounds p.y ys y1 refl in
    record {
      holds =
          All-cons (λ v. Holds (positions_extent (p ∷ ps)) v.x v.y) p ps (w.0, e.0, s.0, n.0)
          (All-from_recursion (λ v. Holds (positions_extent (p ∷ ps)) v.x v.y) ps
          (four (λ v. x0 ≤ℤ v.x) (λ v. v.x ≤ℤ x1) (λ v. y0 ≤ℤ v.y) (λ v. v.y ≤ℤ y1) ps
          (map_all (λ n. x0 ≤ℤ n) (λ (v : PositionValue). v.x) ps (recursion_from_All (λ n. x0 ≤ℤ n) xs w.1))
          (map_all (λ n. n ≤ℤ x1) (λ (v : PositionValue). v.x) ps (recursion_from_All (λ n. n ≤ℤ x1) xs e.1))
          (map_all (λ n. y0 ≤ℤ n) (λ (v : PositionValue). v.y) ps (recursion_from_All (λ n. y0 ≤ℤ n) ys s.1))
          (map_all (λ n. n ≤ℤ y1) (λ (v : PositionValue). v.y) ps (recursion_from_All (λ n. n ≤ℤ y1) ys n.1))));
      west = reached_some (λ v. v.x) p ps x0 (fold-int_min_reached p.x xs x0 refl);
      south = reached_some (λ v. v.y) p ps y0 (fold-int_min_reached p.y ys y0 refl);
      east = reached_some (λ v. v.x) p ps x1 (fold-int_max_reached p.x xs x1 refl);
      north = reached_some (λ v. v.y) p ps y1 (fold-int_max_reached p.y ys y1 refl);
    }

-- ---- a kept geometry has a vertex
abbrev pub HasSome : List PositionValue → Type 0
HasSome ps = 1 ≤ length ps

some_first : {X : Type 0} (f : X → List PositionValue) (xs : List X) → 1 ≤ length xs → AllByRecursion (λ x. HasSome (f x)) xs → HasSome (flat_map f xs)
some_first f [] h a = absurd (omega arith)
some_first f (x ∷ xs) h a = omega (arith, a.0, length-append (f x) (flat_map f xs))

pub weaken : {X : Type 0} (V W : X → Type 0) → ((x : X) → V x → W x) → (xs : List X) → AllByRecursion V xs → AllByRecursion W xs
weaken V W f [] h = tt
weaken V W f (x ∷ xs) h = (f x h.0, weaken V W f xs h.1)

lists_some : {X : Type 0} (f : X → List PositionValue) (P : X → Type 0) → ((x : X) → P x → HasSome (f x)) → (xs : List X) → All P xs × (1 ≤ length xs) → HasSome (flat_map f xs)
lists_some f P g xs h = some_first f xs h.1 (weaken P (λ x. HasSome (f x)) g xs (recursion_from_All P xs h.0))

polygon_some : (rings : List (List PositionValue)) → IsPolygon rings → HasSome (polygon_vertices rings)
polygon_some rings h = lists_some (λ ring. ring) IsRing (λ r k. omega (arith, k.1)) rings h

simple_some : (s : SimpleValue) → IsSimple s → HasSome (simple_vertices s)
simple_some (point p) h = omega arith
simple_some (multi_point ps) h = h.1
simple_some (line_string ps) h = omega (arith, h.1)
simple_some (multi_line_string ls) h = lists_some (λ line. line) IsLine (λ l k. omega (arith, k.1)) ls h
simple_some (polygon rings) h = polygon_some rings h
simple_some (multi_polygon ps) h = lists_some polygon_vertices IsPolygon polygon_some ps h

pub vertices_some : (v : GeometryValue) → IsGeometry v → HasSome (vertices v)
vertices_some (simple s) h = simple_some s h
vertices_some (collection ss) h = lists_some simple_vertices IsSimple simple_some ss h

extent_from : (ps : List PositionValue) → HasSome ps → IsExtent ps (positions_extent ps)
extent_from [] h = absurd (omega arith)
extent_from (p ∷ ps) h = positions_extent_is p ps

-- the function gives the box of the relation, of every kept geometry
pub extent_is : (v : GeometryValue) → IsGeometry v → IsExtent (vertices v) (extent_of v)
unfolding extent_of
extent_is v h = extent_from (vertices v) (vertices_some v h)

-- the bounds of the same positions
pub bounds_same : (ps xs ys : List PositionValue) (o : Option GridBox) → xs ≡ ys → AreBounds (ps ++ xs) o → AreBounds (ps ++ ys) o
bounds_same ps xs ys o e b = let P : List PositionValue → Type 0 = λ vs. AreBounds (ps ++ vs) o in subst P e b

ordered_by : (ps : List PositionValue) (g : BoxValue) → HasSome ps → AllByRecursion (λ p. Holds g p.x p.y) ps → (g.x0 ≤ℤ g.x1) × (g.y0 ≤ℤ g.y1)
ordered_by [] g h a = absurd (omega arith)
ordered_by (p ∷ ps) g h a = (omega (arith, ints, a.0), omega (arith, ints, a.0))

-- the bounds of an extent are in order
pub ordered_extent : (v : GeometryValue) → IsGeometry v → ((extent_of v).x0 ≤ℤ (extent_of v).x1) × ((extent_of v).y0 ≤ℤ (extent_of v).y1)
ordered_extent v h = ordered_by (vertices v) (extent_of v) (vertices_some v h) (recursion_from_All (λ p. Holds (extent_of v) p.x p.y) (vertices v) (extent_is v h).holds)
