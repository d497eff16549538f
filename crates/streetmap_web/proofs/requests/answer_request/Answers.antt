use Rattle.streetmap_http.specs.FramingView.{head_value}
use Rattle.streetmap_http.specs.declared.framing.Framed.TheVariants.{Broken, Request}
use Rattle.streetmap_web.specs.Site.{site_value}
use Rattle.streetmap_connections.specs.Answers.{answer_text}
use Rattle.streetmap_web.specs.Response.{sent_so}
use Rattle.streetmap_web.proofs.OneRequest.{split_as, whole_answers, broken_answers}
use Rattle.streetmap_web.proofs.requests.answer_request.Goals as goal

pub returns-in-Broken : goal.returns-in-Broken
returns-in-Broken g c =
    let says = split_as c.split_request.result.0 (Broken c.in-Broken.bare c.in-Broken.fault) c.split_request.result.1.now c.args.request.now c.in-Broken.is c.split_request.ensures in
    broken_answers g.K.Keeper.model (site_value c.args.site.now) c.args.request.now (answer_text c.refused.result) c.in-Broken.bare c.in-Broken.fault
    c.args.keeper.now says.0 c.refused.ensures

pub returns-in-Request : goal.returns-in-Request
returns-in-Request g c =
    let says = split_as c.split_request.result.0 (Request c.in-Request.head) c.split_request.result.1.now c.args.request.now c.in-Request.is c.split_request.ensures in
    whole_answers g.K.Keeper.model (site_value c.args.site.now) (head_value c.in-Request.head) c.args.request.now c.split_request.result.1.now
    (sent_so (answer_text c.answer_to.result.0) c.answer_to.result.1) c.args.keeper.now c.answer_to.new.keeper says c.answer_to.ensures
