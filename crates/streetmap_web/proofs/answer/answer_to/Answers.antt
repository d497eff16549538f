use Rattle.std.proofs.Common.{◌∙◌, ap, true}
use Rattle.streetmap_http.specs.FramingView.{head_value}
use Rattle.streetmap_web.specs.Site.{site_value}
use Rattle.streetmap_web.specs.Response.{request_of, response_text, fault_response}
use Rattle.streetmap_bodies.specs.declared.request_fault.RequestFault.TheVariants.{Keeper}
use Rattle.streetmap_web.proofs.Standings.{ok_answered, err_answered}
use Rattle.streetmap_web.proofs.answer.answer_to.Goals as goal

pub returns-in-Ok : goal.returns-in-Ok
returns-in-Ok g c =
    ok_answered g.K.Keeper.model (site_value c.args.site.now) (request_of (site_value c.args.site.now) (head_value c.args.request) c.args.body.now) c.args.keeper.now
    c.try_answer.new.keeper c.in-Ok.answer c.in-Ok.ensures

pub returns-in-Err : goal.returns-in-Err
returns-in-Err g c =
    err_answered g.K.Keeper.model (site_value c.args.site.now) (request_of (site_value c.args.site.now) (head_value c.args.request) c.args.body.now) c.args.keeper.now
    c.try_answer.new.keeper c.in-Err.fault _ c.in-Err.ensures
    (c.fixed.ensures ∙ ap (λ bare. response_text true bare (fault_response (Keeper c.in-Err.fault))) c.is_bare.ensures)
