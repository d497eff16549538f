-- What a reader returns, compared with the reading of its value.
use Rattle.std.specs.Prelude.{◌≡◌, Result, Ok, Err}
use Rattle.streetmap_geojson.specs.declared.fault.Fault.{Fault}
use Rattle.streetmap_geojson.specs.declared.fault.JsonFault.{JsonFault}
use Rattle.streetmap_geojson.specs.declared.fault.JsonFault.TheVariants as errors

-- one step after another: the first fault is the result
infixl 10 ◌>>=◌
abbrev pub ◌>>=◌ : {A B : Type 0} → Result A Fault → (A → Result B Fault) → Result B Fault
(Ok x) >>= f = f x
(Err e) >>= f = Err e

-- a fault other than memory is the reading's
abbrev pub Fails : {Y : Type 0} → JsonFault → Result Y Fault → Type 0
Fails errors.Memory read = Unit {0}
Fails (errors.Fault f) read = read ≡ Err f

-- the result, seen by view, is the reading, unless memory ran out
abbrev pub Gives : {X Y : Type 0} → (X → Y) → Result X JsonFault → Result Y Fault → Type 0
Gives view (Ok x) read = read ≡ Ok (view x)
Gives view (Err e) read = Fails e read
