-- What is read is what the value reads as, and what a value reads as is read.
use Rattle.std.proofs.Common.{◌≡◌, ℕ, ◌+◌, ◌≤◌, ℤ, Bool, true, false, cond, ltb, IsTrue, List, [], ◌∷◌, length, map, reverse, Option, None, Some, Ok, refl, sym, ap, subst, ◌∙◌, add-zero, arith}
use Rattle.std.proofs.lemmas.Bool.{ltb-false, le-ltb, lt-ltb}
use Rattle.std.proofs.lemmas.List.{length-reverse}
use Rattle.serde_json.specs.Data.{Data, null, boolean, number, string, array, object}
use Rattle.serde_json.specs.Find.{as_integer}
use Rattle.streetmap_grid.specs.Range.{is_coordinate}
use Rattle.streetmap_grid.specs.Ring.{is_closed, is_wrong, double_area, turned, oriented}
use Rattle.streetmap_grid.specs.Values.{PositionValue}
use Rattle.streetmap_geojson.specs.declared.fault.Fault.{Fault}
use Rattle.streetmap_geojson.specs.declared.fault.Fault.TheVariants.{BadPosition, OutOfGrid, TooManyPositions, ShortLine, ShortRing, OpenRing, BadGeometry}
use Rattle.streetmap_geojson.specs.ParsedGeometries.{Read, list_of, whole, coordinate, position_of, position, inside, each, positions, line, lines, ends_of, ring, rings, some_rings, polygon, polygons, max_positions}
use Rattle.streetmap_geojson.specs.Meaning.{ReadsAsCoordinate, ArePosition, IsArray, AreEach, ArePositions, AreLine, AreLines, AreRing, AreRings, ArePolygon, ArePolygons, counts, line_count, polygon_count}
use Rattle.streetmap_geojson.proofs.Steps.{bind_ok, guard_ok, passed_ok, ok_is}

whole_reads : (o : Option ℤ) (z : ℤ) → whole o ≡ Ok z → (o ≡ Some z) × IsTrue (is_coordinate z)
whole_reads None z e = absurd cc
whole_reads (Some y) z e =
    let g = passed_ok (is_coordinate y) OutOfGrid (Ok y) z e in
    let same : y ≡ z = ok_is y z g.1 in
    (ap Some same, subst (λ w. IsTrue (is_coordinate w)) same g.0)

pub coordinate_reads : (d : Data) (z : ℤ) → coordinate d ≡ Ok z → ReadsAsCoordinate d z
unfolding coordinate
coordinate_reads (number n) z e = whole_reads (as_integer n) z e
coordinate_reads null z e = absurd cc
coordinate_reads (boolean b) z e = absurd cc
coordinate_reads (string s) z e = absurd cc
coordinate_reads (array ds) z e = absurd cc
coordinate_reads (object ms) z e = absurd cc

whole_again : (z : ℤ) → IsTrue (is_coordinate z) → whole (Some z) ≡ Ok z
whole_again z h = rw h refl

pub coordinate_again : (d : Data) (z : ℤ) → ReadsAsCoordinate d z → coordinate d ≡ Ok z
unfolding coordinate
coordinate_again (number n) z h = ap whole h.0 ∙ whole_again z h.1
coordinate_again null z h = absurd h
coordinate_again (boolean b) z h = absurd h
coordinate_again (string s) z h = absurd h
coordinate_again (array ds) z h = absurd h
coordinate_again (object ms) z h = absurd h

place_reads : (ds : List Data) (p : PositionValue) → position_of ds ≡ Ok p → ArePosition ds p
place_reads [] p e = absurd cc
place_reads (a ∷ []) p e = absurd cc
place_reads (a ∷ b ∷ []) p e =
    let x = bind_ok (coordinate a) _ p e in
    let y = bind_ok (coordinate b) _ p x.2 in
    let is : record { x = x.0; y = y.0; z = None } ≡ p = ok_is _ p y.2 in
    subst (λ q. ArePosition (a ∷ b ∷ []) q) is (coordinate_reads a x.0 x.1, coordinate_reads b y.0 y.1, refl)
place_reads (a ∷ b ∷ c ∷ []) p e =
    let x = bind_ok (coordinate a) _ p e in
    let y = bind_ok (coordinate b) _ p x.2 in
    let z = bind_ok (coordinate c) _ p y.2 in
    let is : record { x = x.0; y = y.0; z = Some z.0 } ≡ p = ok_is _ p z.2 in
    subst (λ q. ArePosition (a ∷ b ∷ c ∷ []) q) is (coordinate_reads a x.0 x.1, coordinate_reads b y.0 y.1, (z.0, coordinate_reads c z.0 z.1, refl))
place_reads (a ∷ b ∷ c ∷ d ∷ ds) p e = absurd cc

place_again : (ds : List Data) (p : PositionValue) → ArePosition ds p → position_of ds ≡ Ok p
place_again [] p h = absurd h
place_again (a ∷ []) p h = absurd h
place_again (a ∷ b ∷ []) p h = rw (coordinate_again a p.x h.0, coordinate_again b p.y h.1, ← h.2) refl
place_again (a ∷ b ∷ c ∷ []) p h = rw (coordinate_again a p.x h.0, coordinate_again b p.y h.1, coordinate_again c h.2.0 h.2.1, ← h.2.2) refl
place_again (a ∷ b ∷ c ∷ d ∷ ds) p h = absurd h

-- a reader reads what R says, and counts it
pub record Takes {S A : Type 0} (R : S → A → Type 0) (size : A → ℕ) (f : S → ℕ → Read A) : Type 0 where
  pub found : (d : S) (n : ℕ) (a : A) (m : ℕ) → f d n ≡ Ok (a, m) → R d a × (m ≡ n + size a)
  pub again : (d : S) (n : ℕ) (a : A) → R d a → n + size a ≤ max_positions → f d n ≡ Ok (a, n + size a)

-- ---- positions

position_found : (ds : List Data) (n : ℕ) (p : PositionValue) (m : ℕ) → position ds n ≡ Ok (p, m) → ArePosition ds p × (m ≡ n + 1)
unfolding position
position_found ds n p m e =
    let g = passed_ok (ltb n max_positions) TooManyPositions _ (p, m) e in
    let q = bind_ok (position_of ds) _ (p, m) g.1 in
    let is : (q.0, n + 1) ≡ (p, m) = ok_is (q.0, n + 1) (p, m) q.2 in
    subst (λ (w : PositionValue × ℕ). ArePosition ds w.0 × (w.1 ≡ n + 1)) is (place_reads ds q.0 q.1, refl)

position_again : (ds : List Data) (n : ℕ) (p : PositionValue) → ArePosition ds p → n + 1 ≤ max_positions → position ds n ≡ Ok (p, n + 1)
unfolding position
position_again ds n p h lt = rw (lt-ltb n max_positions (omega arith), place_again ds p h) refl

pub position_takes : Takes ArePosition (λ _. 1) position
position_takes = record { found = position_found; again = position_again }

-- ---- arrays

inside_found : {A : Type 0} (R : List Data → A → Type 0) (size : A → ℕ) (f : List Data → ℕ → Read A) (fault : Fault) → Takes R size f
    → (d : Data) (n : ℕ) (a : A) (m : ℕ) → inside fault f d n ≡ Ok (a, m) → IsArray R d a × (m ≡ n + size a)
unfolding inside
inside_found R size f fault t (array ds) n a m e = t.found (list_of ds) n a m e
inside_found R size f fault t null n a m e = absurd cc
inside_found R size f fault t (boolean b) n a m e = absurd cc
inside_found R size f fault t (number x) n a m e = absurd cc
inside_found R size f fault t (string s) n a m e = absurd cc
inside_found R size f fault t (object ms) n a m e = absurd cc

inside_again : {A : Type 0} (R : List Data → A → Type 0) (size : A → ℕ) (f : List Data → ℕ → Read A) (fault : Fault) → Takes R size f
    → (d : Data) (n : ℕ) (a : A) → IsArray R d a → n + size a ≤ max_positions → inside fault f d n ≡ Ok (a, n + size a)
unfolding inside
inside_again R size f fault t (array ds) n a h le = t.again (list_of ds) n a h le
inside_again R size f fault t null n a h le = absurd h
inside_again R size f fault t (boolean b) n a h le = absurd h
inside_again R size f fault t (number x) n a h le = absurd h
inside_again R size f fault t (string s) n a h le = absurd h
inside_again R size f fault t (object ms) n a h le = absurd h

pub inside_takes : {A : Type 0} (R : List Data → A → Type 0) (size : A → ℕ) (f : List Data → ℕ → Read A) (fault : Fault) → Takes R size f → Takes (IsArray R) size (inside fault f)
inside_takes R size f fault t = record { found = inside_found R size f fault t; again = inside_again R size f fault t }

-- ---- one by one

each_found : {A : Type 0} (R : Data → A → Type 0) (size : A → ℕ) (f : Data → ℕ → Read A) → Takes R size f
    → (ds : List Data) (n : ℕ) (xs : List A) (m : ℕ) → each f ds n ≡ Ok (xs, m) → AreEach R ds xs × (m ≡ n + counts size xs)
unfolding each
each_found {A} R size f t [] n xs m e =
    let is : ([], n) ≡ (xs, m) = ok_is ([], n) (xs, m) e in
    subst (λ (w : List A × ℕ). AreEach R [] w.0 × (w.1 ≡ n + counts size w.0)) is (tt, omega arith)
each_found {A} R size f t (d ∷ ds) n xs m e =
    let x = bind_ok (f d n) _ (xs, m) e in
    let rest = bind_ok (each f ds x.0.1) _ (xs, m) x.2 in
    let is : (x.0.0 ∷ rest.0.0, rest.0.1) ≡ (xs, m) = ok_is (x.0.0 ∷ rest.0.0, rest.0.1) (xs, m) rest.2 in
    let one = t.found d n x.0.0 x.0.1 x.1 in
    let more = each_found R size f t ds x.0.1 rest.0.0 rest.0.1 rest.1 in
    subst (λ (w : List A × ℕ). AreEach R (d ∷ ds) w.0 × (w.1 ≡ n + counts size w.0)) is ((one.0, more.0), omega (arith, one.1, more.1))

each_again : {A : Type 0} (R : Data → A → Type 0) (size : A → ℕ) (f : Data → ℕ → Read A) → Takes R size f
    → (ds : List Data) (n : ℕ) (xs : List A) → AreEach R ds xs → n + counts size xs ≤ max_positions → each f ds n ≡ Ok (xs, n + counts size xs)
unfolding each
each_again R size f t [] n [] h le = rw add-zero refl
each_again R size f t [] n (a ∷ xs) h le = absurd h
each_again R size f t (d ∷ ds) n [] h le = absurd h
each_again {A} R size f t (d ∷ ds) n (a ∷ xs) h le =
    let one = t.again d n a h.0 (omega arith) in
    let more = each_again R size f t ds (n + size a) xs h.1 (omega arith) in
    let sum : n + size a + counts size xs ≡ n + (size a + counts size xs) = omega arith in
    rw (one, more) (ap (λ (k : ℕ). Ok (a ∷ xs, k)) sum)

pub each_takes : {A : Type 0} (R : Data → A → Type 0) (size : A → ℕ) (f : Data → ℕ → Read A) → Takes R size f → Takes (AreEach R) (counts size) (each f)
each_takes R size f t = record { found = each_found R size f t; again = each_again R size f t }

-- ---- lines

pub positions_take : Takes ArePositions (counts (λ _. 1)) positions
positions_take = each_takes _ _ _ (inside_takes _ _ _ BadPosition position_takes)

line_found : (ds : List Data) (n : ℕ) (ps : List PositionValue) (m : ℕ) → line ds n ≡ Ok (ps, m) → AreLine ds ps × (m ≡ n + counts (λ _. 1) ps)
unfolding line
line_found ds n ps m e =
    let x = bind_ok (positions ds n) _ (ps, m) e in
    let g = guard_ok (ltb (length x.0.0) 2) ShortLine (Ok x.0) (ps, m) x.2 in
    let t = positions_take.found ds n x.0.0 x.0.1 x.1 in
    let long : 2 ≤ length x.0.0 = ltb-false _ _ g.0 in
    subst (λ (w : List PositionValue × ℕ). AreLine ds w.0 × (w.1 ≡ n + counts (λ _. 1) w.0)) (ok_is x.0 (ps, m) g.1) ((t.0, long), t.1)

line_again : (ds : List Data) (n : ℕ) (ps : List PositionValue) → AreLine ds ps → n + counts (λ _. 1) ps ≤ max_positions → line ds n ≡ Ok (ps, n + counts (λ _. 1) ps)
unfolding line
line_again ds n ps h le = rw (positions_take.again ds n ps h.0 le, le-ltb _ _ h.1) refl

pub line_takes : Takes AreLine (counts (λ _. 1)) line
line_takes = record { found = line_found; again = line_again }

pub lines_take : Takes AreLines (counts (counts (λ _. 1))) lines
lines_take = each_takes _ _ _ (inside_takes _ _ _ BadGeometry line_takes)

-- ---- rings

ends_found : (qs ps : List PositionValue) → ends_of qs ≡ Ok ps → (qs ≡ ps) × (4 ≤ length ps) × IsTrue (is_closed ps)
ends_found qs ps e =
    let g = guard_ok (ltb (length qs) 4) ShortRing _ ps e in
    let k = passed_ok (is_closed qs) OpenRing (Ok qs) ps g.1 in
    let same : qs ≡ ps = ok_is qs ps k.1 in
    let long : 4 ≤ length qs = ltb-false _ _ g.0 in
    subst (λ (w : List PositionValue). (qs ≡ w) × (4 ≤ length w) × IsTrue (is_closed w)) same (refl, long, k.0)

ends_again : (ps : List PositionValue) → 4 ≤ length ps → IsTrue (is_closed ps) → ends_of ps ≡ Ok ps
ends_again ps long closed = rw (le-ltb _ _ long, closed) refl

ring_found : (ds : List Data) (n : ℕ) (ps : List PositionValue) (m : ℕ) → ring ds n ≡ Ok (ps, m) → AreRing ds ps × (m ≡ n + line_count ps)
unfolding ring
ring_found ds n ps m e =
    let x = bind_ok (positions ds n) _ (ps, m) e in
    let y = bind_ok (ends_of x.0.0) _ (ps, m) x.2 in
    let t = positions_take.found ds n x.0.0 x.0.1 x.1 in
    let k = ends_found x.0.0 y.0 y.1 in
    let here : ArePositions ds y.0 × (x.0.1 ≡ n + line_count y.0) = subst (λ (w : List PositionValue). ArePositions ds w × (x.0.1 ≡ n + line_count w)) k.0 t in
    subst (λ (w : List PositionValue × ℕ). AreRing ds w.0 × (w.1 ≡ n + line_count w.0)) (ok_is (y.0, x.0.1) (ps, m) y.2) ((here.0, k.1, k.2), here.1)

ring_again : (ds : List Data) (n : ℕ) (ps : List PositionValue) → AreRing ds ps → n + line_count ps ≤ max_positions → ring ds n ≡ Ok (ps, n + line_count ps)
unfolding ring
ring_again ds n ps h le = rw (positions_take.again ds n ps h.0 le, ends_again ps h.1 h.2) refl

pub ring_takes : Takes AreRing line_count ring
ring_takes = record { found = ring_found; again = ring_again }

pub rings_take : Takes AreRings (polygon_count) rings
rings_take = each_takes _ _ _ (inside_takes _ _ _ BadGeometry ring_takes)

size_is_length : (ps : List PositionValue) → line_count ps ≡ length ps
size_is_length [] = refl
size_is_length (p ∷ ps) = omega (arith, size_is_length ps)

reversed_count : (ps : List PositionValue) (b : Bool) → line_count (cond b (reverse ps) ps) ≡ line_count ps
reversed_count ps true = size_is_length (reverse ps) ∙ length-reverse ps ∙ sym (size_is_length ps)
reversed_count ps false = refl

turned_count : (hole : Bool) (ps : List PositionValue) → line_count (turned hole ps) ≡ line_count ps
turned_count hole ps = reversed_count ps (is_wrong hole (double_area ps))

holes_count : (rs : List (List PositionValue)) → polygon_count (map (turned true) rs) ≡ polygon_count rs
holes_count [] = refl
holes_count (r ∷ rs) = omega (arith, turned_count true r, holes_count rs)

pub oriented_count : (rs : List (List PositionValue)) → polygon_count (oriented rs) ≡ polygon_count rs
oriented_count [] = refl
oriented_count (r ∷ rs) = omega (arith, turned_count false r, holes_count rs)

some_rings_found : (qs rs : List (List PositionValue)) → some_rings qs ≡ Ok rs → (1 ≤ length qs) × (rs ≡ oriented qs)
some_rings_found [] rs e = absurd cc
some_rings_found (q ∷ qs) rs e = (omega arith, sym (ok_is (oriented (q ∷ qs)) rs e))

some_rings_again : (qs : List (List PositionValue)) → 1 ≤ length qs → some_rings qs ≡ Ok (oriented qs)
some_rings_again [] some = absurd (omega arith)
some_rings_again (q ∷ qs) some = refl

polygon_found : (ds : List Data) (n : ℕ) (rs : List (List PositionValue)) (m : ℕ) → polygon ds n ≡ Ok (rs, m) → ArePolygon ds rs × (m ≡ n + polygon_count rs)
unfolding polygon
polygon_found ds n rs m e =
    let x = bind_ok (rings ds n) _ (rs, m) e in
    let y = bind_ok (some_rings x.0.0) _ (rs, m) x.2 in
    let t = rings_take.found ds n x.0.0 x.0.1 x.1 in
    let k = some_rings_found x.0.0 y.0 y.1 in
    let size : polygon_count y.0 ≡ polygon_count x.0.0 = ap (polygon_count) k.1 ∙ oriented_count x.0.0 in
    let sum : x.0.1 ≡ n + polygon_count y.0 = omega (arith, size, t.1) in
    subst (λ (w : List (List PositionValue) × ℕ). ArePolygon ds w.0 × (w.1 ≡ n + polygon_count w.0)) (ok_is (y.0, x.0.1) (rs, m) y.2) ((x.0.0, t.0, k.0, k.1), sum)

polygon_again : (ds : List Data) (n : ℕ) (rs : List (List PositionValue)) → ArePolygon ds rs → n + polygon_count rs ≤ max_positions → polygon ds n ≡ Ok (rs, n + polygon_count rs)
unfolding polygon
polygon_again ds n rs h le =
    let qs = h.0 in
    let size : polygon_count rs ≡ polygon_count qs = ap (polygon_count) h.3 ∙ oriented_count qs in
    let read = rings_take.again ds n qs h.1 (omega (arith, size, le)) in
    rw (read, some_rings_again qs h.2, h.3, oriented_count qs) refl

pub polygon_takes : Takes ArePolygon (polygon_count) polygon
polygon_takes = record { found = polygon_found; again = polygon_again }

pub polygons_take : Takes ArePolygons (counts polygon_count) polygons
polygons_take = each_takes _ _ _ (inside_takes _ _ _ BadGeometry polygon_takes)
