-- The id that a value gives is the one that it represents.
use Rattle.std.proofs.Common.{◌≡◌, ℤ, Bool, true, false, cond, Option, None, Some, Result, Ok, Err, refl, sym}
use Rattle.std.specs.Fmt.{signed_decimal}
use Rattle.serde_json.specs.Data.{Data, null, boolean, number, string, array, object}
use Rattle.serde_json.specs.Find.{as_integer}
use Rattle.streetmap_geojson.specs.declared.fault.Fault.{Fault}
use Rattle.streetmap_geojson.specs.declared.fault.Fault.TheVariants.{BadId}
use Rattle.streetmap_geojson.specs.FeatureMeaning.{IsId}
use Rattle.streetmap_geojson.specs.Id.{is_id, number_id, id_from}
use Rattle.streetmap_batch.specs.Text.{Text}

ok_is : (x y : Text) → (let done : Result Text Fault = Ok x in done) ≡ Ok y → x ≡ y
ok_is x y e = cc

passed_ok : (b : Bool) (fault : Fault) (r : Result Text Fault) (y : Text) → cond b r (Err fault) ≡ Ok y → (b ≡ true) × (r ≡ Ok y)
passed_ok true fault r y e = (refl, e)
passed_ok false fault r y e = absurd cc

number_found : (o : Option ℤ) (id : Text) → number_id o ≡ Ok id → (z : ℤ) × (o ≡ Some z) × (id ≡ signed_decimal z)
number_found None id e = absurd cc
number_found (Some z) id e = (z, refl, sym (ok_is (signed_decimal z) id e))

pub id_found : (d : Data) (id : Text) → id_from d ≡ Ok id → IsId d id
id_found (string s) id e =
    let passed = passed_ok (is_id s) BadId (Ok s) id e in
    (passed.0, sym (ok_is s id passed.1))
id_found (number n) id e = number_found (as_integer n) id e
id_found null id e = absurd cc
id_found (boolean b) id e = absurd cc
id_found (array ds) id e = absurd cc
id_found (object ms) id e = absurd cc

pub id_again : (d : Data) (id : Text) → IsId d id → id_from d ≡ Ok id
id_again (string s) id h = rw (h.0, h.1) refl
id_again (number n) id h = rw (h.1, h.2) refl
id_again null id h = absurd h
id_again (boolean b) id h = absurd h
id_again (array ds) id h = absurd h
id_again (object ms) id h = absurd h
