-- Outcomes, one after the other.
use Rattle.std.proofs.Common.{inr, Result, Ok, Err}
use Rattle.streetmap_placing.specs.Placed.{Then, Answers}
use Rattle.streetmap_placing.specs.declared.fault.PlacingFault.{PlacingFault}
use Rattle.streetmap_placing.specs.declared.fault.PlacingFault.TheVariants.{Memory, NotJson, TooManyDigits, OutOfGrid, Fraction}

pub then_next : {A B : Type 0} (First : Result A PlacingFault → Type 0)
    (Next : A → Result B PlacingFault → Type 0) (a : A) (r : Result B PlacingFault) → First (Ok a)
    → Next a r → Then First Next r
then_next First Next a (Ok b) h k = (a, (h, k))
then_next First Next a (Err f) h k = inr (a, (h, k))

-- a fault of a part is passed on, if it is a fault of the whole too
pub handed_on : {X Y V W : Type 0} (view : X → Y) (shown : V → W) (fault : PlacingFault)
    (First : Result Y PlacingFault → Type 0) (All : Result W PlacingFault → Type 0)
    → ((f : PlacingFault) → First (Err f) → All (Err f)) → Answers view (Err fault) First
    → Answers shown (Err fault) All
handed_on view shown Memory First All on h = tt
handed_on view shown NotJson First All on h = on NotJson h
handed_on view shown TooManyDigits First All on h = on TooManyDigits h
handed_on view shown OutOfGrid First All on h = on OutOfGrid h
handed_on view shown Fraction First All on h = on Fraction h

-- the result may be a fault that is an outcome
pub answered : {X Y : Type 0} (view : X → Y) (fault : PlacingFault)
    (Outcome : Result Y PlacingFault → Type 0) → Outcome (Err fault)
    → Answers view (Err fault) Outcome
answered view Memory Outcome h = tt
answered view NotJson Outcome h = h
answered view TooManyDigits Outcome h = h
answered view OutOfGrid Outcome h = h
answered view Fraction Outcome h = h
