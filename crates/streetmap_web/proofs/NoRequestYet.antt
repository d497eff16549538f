-- Bytes that hold no request yet.
use Rattle.std.proofs.Common.{◌≡◌, ℕ, ◌+◌, ◌-◌, ◌≤◌, List, ◌++◌, length, take, min, sym, subst, rules, arith, length-append}
use Rattle.std.proofs.lemmas.List.{take_min}
use Rattle.streetmap_http.specs.Arrivals.{HoldsOf, IsAnswered}
use Rattle.streetmap_http.specs.declared.arrival.Arrival.{Arrival}
use Rattle.streetmap_http.specs.declared.arrival.Arrival.TheVariants.{Request, Head, Body}
use Rattle.streetmap_http.proofs.Arrived.{arrival_unique, bodies_fill}
use Rattle.streetmap_connections.specs.Cuts.{HasNone, HasNoneBefore}
use Rattle.streetmap_connections.proofs.Cutting.{none_before_next}

front_holds : (bytes : List ℕ) (n : ℕ) → IsAnswered (take n bytes) → HoldsOf (Request (min n (length bytes))) bytes
front_holds bytes n answered = (omega arith, subst (λ (xs : List ℕ). IsAnswered xs) (sym (take_min n bytes)) answered)

-- bytes that hold something else hold no request
none_by : (bytes : List ℕ) (arrival : Arrival) → HoldsOf arrival bytes → ((n : ℕ) → ¬ (Request n ≡ arrival)) → HasNone IsAnswered bytes
none_by bytes arrival holds other n answered = other (min n (length bytes)) (arrival_unique bytes (Request (min n (length bytes))) arrival (front_holds bytes n answered) holds)

request_is_no_head : (n : ℕ) → ¬ (Request n ≡ Head)
request_is_no_head n e = search rules

request_is_no_body : (missing n : ℕ) → ¬ (Request n ≡ Body missing)
request_is_no_body missing n e = search rules

pub none_in_head : (bytes : List ℕ) → HoldsOf Head bytes → HasNone IsAnswered bytes
none_in_head bytes holds = none_by bytes Head holds request_is_no_head

pub none_in_body : (bytes : List ℕ) (missing : ℕ) → HoldsOf (Body missing) bytes → HasNone IsAnswered bytes
none_in_body bytes missing holds = none_by bytes (Body missing) holds (request_is_no_body missing)

pub none_before_head : (bytes : List ℕ) (needs : ℕ) → needs ≤ length bytes + 1 → HoldsOf Head bytes → HasNoneBefore IsAnswered bytes needs
none_before_head bytes needs next holds = none_before_next IsAnswered bytes needs next (none_in_head bytes holds)

pub none_before_body : (bytes : List ℕ) (needs missing : ℕ) → needs ≤ length bytes + missing → HoldsOf (Body missing) bytes → HasNoneBefore IsAnswered bytes needs
none_before_body bytes needs missing next holds more less =
    none_in_body (bytes ++ more) (missing - length more) ((bodies_fill bytes more missing holds).0 (omega (arith, length-append bytes more, next, less)))
