use Rattle.std.proofs.Common.{arith, take, inr}
use Rattle.streetmap_http.specs.Framing.{Frames, broken, sized, rule}
use Rattle.streetmap_http.specs.FramingView.{head_value}
use Rattle.streetmap_http.proofs.Arrived.{whole_held, lacking_held}
use Rattle.streetmap_http.proofs.arrival.arrival_past_head.Goals as goal

pub returns-in-Broken : goal.returns-in-Broken
returns-in-Broken c =
    let says : Frames (take c.args.head c.args.bytes.now) (broken c.in-Broken.field-0 c.in-Broken.field-1) = c.in-Broken.ensures in
    (c.requires.within, inr (c.in-Broken.field-0, c.in-Broken.field-1, rule c.requires.cut says))

pub returns-then-came-request : goal.returns-then-came-request
returns-then-came-request c =
    let says : Frames (take c.args.head c.args.bytes.now) (sized (head_value c.in-Request.request)) = c.in-Request.ensures in
    lacking_held c.args.bytes.now c.args.head (head_value c.in-Request.request) c.requires.within c.requires.cut says c.if-came-request.true

pub returns-else-came-request : goal.returns-else-came-request
returns-else-came-request c =
    let says : Frames (take c.args.head c.args.bytes.now) (sized (head_value c.in-Request.request)) = c.in-Request.ensures in
    whole_held c.args.bytes.now c.args.head (head_value c.in-Request.request) c.requires.within c.requires.cut says (omega arith)
