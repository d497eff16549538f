use Rattle.std.proofs.Common.{sym, subst, refl}
use Rattle.std.proofs.lemmas.List.{take_rest}
use Rattle.streetmap_http.specs.FramingView.{framing_value}
use Rattle.streetmap_http.specs.Arrivals.{SplitsAs}
use Rattle.streetmap_http.proofs.Arrived.{splits, splits_none}
use Rattle.streetmap_http.proofs.arrival.split_request.Goals as goal

pub returns-in-Some : goal.returns-in-Some
returns-in-Some c =
    let head = c.in-Some.head in
    let bytes = c.args.bytes.now in
    let framing = framing_value c.frame_of.result in
    subst (λ body. SplitsAs framing body bytes) (sym (take_rest bytes head))
    (splits bytes head framing c.in-Some.ensures.found.0 c.in-Some.ensures.found.1 c.frame_of.ensures c.requires.answered)

pub returns-in-None : goal.returns-in-None
returns-in-None c = (splits_none c.args.bytes.now c.in-None.ensures.none c.requires.answered, refl)
