-- The bounds of the positions of features, whatever the order of these.
use Rattle.std.proofs.Common.{◌≡◌, inl, inr, List, [], ◌∷◌, All, Option, Some, None, flat_map}
use Rattle.std.proofs.lemmas.List.Elements.{All-nil, All-cons, All-contains}
use Rattle.std.proofs.Common.{refl, subst}
use Rattle.sqlite_rules.specs.Lists.{Has}
use Rattle.sqlite_rules.proofs.ListLemmas.{has_left, has_right, has_either, contains_had}
use Rattle.streetmap_grid.specs.declared.grid_box.GridBox.{GridBox}
use Rattle.streetmap_grid.specs.Bounds.{AreBounds}
use Rattle.streetmap_grid.specs.Meeting.{Holds}
use Rattle.streetmap_grid.specs.Some.{SomeOf}
use Rattle.streetmap_grid.specs.Values.{PositionValue}
use Rattle.streetmap_grid.specs.Views.{box_value}
use Rattle.streetmap_geojson.specs.FeatureValue.{FeatureValue}
use Rattle.streetmap_ledger.specs.Summaries.{all_vertices, feature_vertices}

some_has : {X : Type 0} (P : X → Type 0) (xs : List X) → SomeOf P xs → (x : X) × Has xs x × P x
some_has P [] h = absurd h
some_has P (x ∷ xs) (inl here) = (x, inl refl, here)
some_has P (x ∷ xs) (inr later) = let r = some_has P xs later in (r.0, inr r.1, r.2)

has_some : {X : Type 0} (P : X → Type 0) (xs : List X) (x : X) → Has xs x → P x → SomeOf P xs
has_some P [] x h p = absurd h
has_some P (y ∷ xs) x (inl same) p = inl (subst P same p)
has_some P (y ∷ xs) x (inr later) p = inr (has_some P xs x later p)

all_of : {X : Type 0} (P : X → Type 0) (xs : List X) → ((x : X) → Has xs x → P x) → All P xs
all_of P [] each = All-nil P
all_of P (x ∷ xs) each = All-cons P x xs (each x (inl refl)) (all_of P xs (λ y h. each y (inr h)))

has_flat : {X Y : Type 0} (f : X → List Y) (xs : List X) (y : Y) → Has (flat_map f xs) y
    → (x : X) × Has xs x × Has (f x) y
has_flat f [] y h = absurd h
has_flat f (x ∷ xs) y h = elim (has_either (f x) (flat_map f xs) y h) [
  | inl here ↦ (x, inl refl, here)
  | inr later ↦ (let r = has_flat f xs y later in (r.0, inr r.1, r.2))
]

flat_has : {X Y : Type 0} (f : X → List Y) (xs : List X) (x : X) (y : Y) → Has xs x → Has (f x) y
    → Has (flat_map f xs) y
flat_has f [] x y h k = absurd h
flat_has f (z ∷ xs) x y (inl same) k =
    has_left (f z) (flat_map f xs) y (subst (λ v. Has (f v) y) same k)
flat_has f (z ∷ xs) x y (inr later) k =
    has_right (f z) (flat_map f xs) y (flat_has f xs x y later k)

-- ---- lists with the same elements

abbrev Includes : {X : Type 0} → List X → List X → Type 0
Includes {X} xs ys = (x : X) → Has ys x → Has xs x

vertices_included : (fs gs : List FeatureValue) → Includes fs gs
    → Includes (all_vertices fs) (all_vertices gs)
vertices_included fs gs held p h =
    let r = has_flat feature_vertices gs p h in
    flat_has feature_vertices fs r.0 p (held r.0 r.1) r.2

some_moved : (P : PositionValue → Type 0) (ps qs : List PositionValue) → Includes qs ps
    → SomeOf P ps → SomeOf P qs
some_moved P ps qs held h =
    let r = some_has P ps h in has_some P qs r.0 (held r.0 r.1) r.2

none_left : (ps qs : List PositionValue) → Includes ps qs → ps ≡ [] → qs ≡ []
none_left ps [] held none = refl
none_left ps (q ∷ qs) held none = absurd (subst (λ l. Has l q) none (held q (inl refl)))

abbrev InBox : GridBox → PositionValue → Type 0
InBox g p = Holds (box_value g) p.x p.y

pub bounds_turned : (fs gs : List FeatureValue) → Includes gs fs → Includes fs gs
    → (o : Option GridBox) → AreBounds (all_vertices fs) o → AreBounds (all_vertices gs) o
bounds_turned fs gs to from None none =
    none_left (all_vertices fs) (all_vertices gs) (vertices_included fs gs from) none
bounds_turned fs gs to from (Some g) it =
    let ps = all_vertices fs in
    let qs = all_vertices gs in
    let held = vertices_included gs fs to in
    let back = vertices_included fs gs from in
    record {
      holds = all_of (InBox g) qs
          (λ p h. All-contains (InBox g) ps p it.holds (contains_had ps p (back p h)));
      west = some_moved (λ p. p.x ≡ (box_value g).x0) ps qs held it.west;
      south = some_moved (λ p. p.y ≡ (box_value g).y0) ps qs held it.south;
      east = some_moved (λ p. p.x ≡ (box_value g).x1) ps qs held it.east;
      north = some_moved (λ p. p.y ≡ (box_value g).y1) ps qs held it.north;
    }
