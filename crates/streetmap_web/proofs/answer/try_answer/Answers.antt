use Rattle.std.proofs.Common.{◌∙◌, ap}
use Rattle.streetmap_http.specs.FramingView.{head_value}
use Rattle.streetmap_http.specs.PreconditionsView.{preconditions_value}
use Rattle.streetmap_web.specs.Guards.{guarded}
use Rattle.streetmap_web.specs.Site.{site_value}
use Rattle.streetmap_web.specs.Response.{request_of, wanted_of, response_text}
use Rattle.streetmap_web.specs.Responds.{IsSentFor, response_value}
use Rattle.streetmap_web.specs.Wants.{wanted_value}
use Rattle.streetmap_web.proofs.ReadResponses.{not_called}
use Rattle.streetmap_web.proofs.Standings.{response_sent, fault_unsent}
use Rattle.streetmap_web.proofs.answer.try_answer.Goals as goal

pub returns-in_default : goal.returns-in_default
returns-in_default g c =
    let request = request_of (site_value c.args.site.now) (head_value c.args.request) c.args.body.now in
    not_called g.K.Keeper.model (site_value c.args.site.now).root request.wanted (IsSentFor request) c.args.keeper.now

pub returns-in_default-operation : goal.returns-in_default-operation
returns-in_default-operation g c =
    let request = request_of (site_value c.args.site.now) (head_value c.args.request) c.args.body.now in
    not_called g.K.Keeper.model (site_value c.args.site.now).root request.wanted (IsSentFor request) c.args.keeper.now

pub returns-in-Ok-respond : goal.returns-in-Ok-respond
returns-in-Ok-respond g c =
    let request = request_of (site_value c.args.site.now) (head_value c.args.request) c.args.body.now in
    let response = c.in-Ok-respond.response in
    let closing = c.closes-closing.result in
    response_sent g.K.Keeper.model (site_value c.args.site.now) request c.args.keeper.now c.respond.new.keeper c.root.result.now (wanted_value c.wanted_of-wanted.result)
    response (c.finish.result, closing) c.root.ensures.value
    (c.wanted_of-wanted.ensures
    ∙ ap (wanted_of c.args.site.now.tags c.args.site.now.offers.status (preconditions_value c.args.request.preconditions)) (c.guarded-operation.ensures
    ∙ ap (guarded (site_value c.args.site.now).guard (head_value c.args.request).token) c.in-Ok-operation.ensures))
    c.in-Ok-respond.ensures c.closes-closing.ensures (c.finish.ensures ∙ ap (λ bare. response_text closing bare (response_value response)) c.is_bare-bare.ensures)

pub returns-in-Err : goal.returns-in-Err
returns-in-Err g c =
    fault_unsent g.K.Keeper.model (site_value c.args.site.now) (request_of (site_value c.args.site.now) (head_value c.args.request) c.args.body.now) c.args.keeper.now c.respond.new.keeper
    c.root.result.now (wanted_value c.wanted_of-wanted.result) c.in-Err.fault c.root.ensures.value
    (c.wanted_of-wanted.ensures
    ∙ ap (wanted_of c.args.site.now.tags c.args.site.now.offers.status (preconditions_value c.args.request.preconditions)) (c.guarded-operation.ensures
    ∙ ap (guarded (site_value c.args.site.now).guard (head_value c.args.request).token) c.in-Ok-operation.ensures))
    c.in-Err.ensures
