use Rattle.std.proofs.Common.{◌≡◌, false, refl, take, length-take-le, subst, arith, rules, inr}
use Rattle.std.proofs.lemmas.List.{take_all}
use Rattle.streetmap_http.specs.declared.limits.TheConstants.{HEAD_LIMIT}
use Rattle.streetmap_http.specs.declared.fault.FramingFault.TheVariants.{HeadTooLarge}
use Rattle.streetmap_http.specs.Head.{HasNoHead}
use Rattle.streetmap_http.specs.Framing.{no_end}
use Rattle.streetmap_http.proofs.arrival.arrival_by.Goals as goal

pub returns-then-bytes-lt-HEAD_LIMIT : goal.returns-then-bytes-lt-HEAD_LIMIT
returns-then-bytes-lt-HEAD_LIMIT c =
    let none : HasNoHead (take HEAD_LIMIT c.args.bytes.now) = search rules in
    let all : take HEAD_LIMIT c.args.bytes.now ≡ c.args.bytes.now = take_all HEAD_LIMIT c.args.bytes.now (omega arith) in
    (omega arith, subst HasNoHead all none)

pub returns-else-bytes-lt-HEAD_LIMIT : goal.returns-else-bytes-lt-HEAD_LIMIT
returns-else-bytes-lt-HEAD_LIMIT c =
    let none : HasNoHead (take HEAD_LIMIT c.args.bytes.now) = search rules in
    (omega arith, inr (false, HeadTooLarge, no_end (length-take-le HEAD_LIMIT c.args.bytes.now (omega arith)) none refl refl))
