-- Lists of values, and the items that they represent.
use Rattle.std.proofs.Common.{◌≡◌, ◌<◌, ◌≤◌, List, [], ◌∷◌, length, get_or, Option, None, Some, option_map, ok_or, Ok, refl, ap, arith}
use Rattle.serde_json.specs.Data.{Data, Items}
use Rattle.serde_json.specs.View.{items_of}
use Rattle.streetmap_geojson.specs.declared.fault.Fault.{Fault}
use Rattle.streetmap_geojson.specs.ParsedGeometries.{list_of}

pub list_of_three : {V : Type 0} (vs : List V) (a b c : V) → 3 ≤ length vs → length vs < 4 → a ≡ get_or vs 0 a → b ≡ get_or vs 1 b → c ≡ get_or vs 2 c → vs ≡ a ∷ b ∷ c ∷ []
list_of_three [] a b c low high p q r = absurd (omega arith)
list_of_three (x ∷ []) a b c low high p q r = absurd (omega arith)
list_of_three (x ∷ y ∷ []) a b c low high p q r = absurd (omega arith)
list_of_three (x ∷ y ∷ z ∷ []) a b c low high p q r = cc
list_of_three (x ∷ y ∷ z ∷ w ∷ vs) a b c low high p q r = absurd (omega arith)

pub list_of-items_of : (ds : List Data) → list_of (items_of ds) ≡ ds
list_of-items_of [] = refl
list_of-items_of (d ∷ ds) = ap (λ (xs : List Data). d ∷ xs) (list_of-items_of ds)

pub elements_at : (fault : Fault) (o : Option Items) (ds : List Data) → Some (items_of ds) ≡ o → ok_or (option_map list_of o) fault ≡ Ok ds
elements_at fault (Some found) ds e = let same : items_of ds ≡ found = cc in rw (← same) (ap (λ (xs : List Data). Ok xs) (list_of-items_of ds))
elements_at fault None ds e = absurd cc

pub elements_there : (o : Option Items) (ds : List Data) → Some (items_of ds) ≡ o → option_map list_of o ≡ Some ds
elements_there (Some found) ds e = let same : items_of ds ≡ found = cc in rw (← same) (ap (λ (xs : List Data). Some xs) (list_of-items_of ds))
elements_there None ds e = absurd cc
