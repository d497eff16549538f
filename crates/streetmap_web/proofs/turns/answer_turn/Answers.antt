use Rattle.std.proofs.Common.{◌≡◌, ◌<◌, ◌++◌, List, [], ℕ, length, refl, sym, ap, subst, true, ◌∙◌}
use Rattle.std.specs.Prelude.{Option}
use Rattle.std.specs.Io.KnownBytes.{Consumes}
use Rattle.std.proofs.KnownBytes.{Consumes-trans}
use Rattle.streetmap_http.specs.FramingView.{head_value}
use Rattle.streetmap_http.specs.declared.body.BodyEnd.{BodyEnd}
use Rattle.streetmap_http.specs.declared.body.BodyEnd.TheVariants.{Whole, Truncated}
use Rattle.streetmap_ledger.specs.declared.reply.Fault.TheVariants.{Memory}
use Rattle.streetmap_web.specs.Site.{site_value}
use Rattle.streetmap_web.specs.Response.{request_of, response_text, fault_response}
use Rattle.streetmap_connections.specs.Answers.{answer_text}
use Rattle.streetmap_web.specs.Turns.{FillSays}
use Rattle.streetmap_web.specs.Exchanges.{no_room}
use Rattle.streetmap_bodies.specs.declared.request_fault.RequestFault.TheVariants.{Keeper}
use Rattle.streetmap_web.proofs.OneTurn.{starved_turn, answered_turn, truncated_turn, unread_turn, unfinished_body}
use Rattle.streetmap_web.proofs.turns.answer_turn.Goals as goal

pub returns-in_default-clause-says : goal.returns-in_default-clause-says
returns-in_default-clause-says g c = λ clean bytes left x cut framed read h.
    let model = g.K.Keeper.model in
    let site = site_value c.args.site.now in
    let head = head_value c.args.head in
    let keeper = c.args.keeper.now in
    let rest = g.R.Read.remaining c.args.reader.now in
    let held = g.W.Write.contents c.args.writer.now in
    let now = g.W.Write.contents c.write_answer.new.writer in
    let text = c.fixed.ensures ∙ ap (λ bare. response_text true bare (fault_response (Keeper Memory))) c.is_bare-bare.ensures in
    starved_turn model site x left rest keeper h bytes (answer_text c.fixed.result) (request_of site head []) c.write_answer.result held now
    (no_room head cut framed refl refl) read text c.write_answer.ensures.says

-- what filling says once it is known how it ended
filled : (e f : BodyEnd) (bytes : List ℕ) (a b : Option (List ℕ)) → e ≡ f → FillSays e bytes a b → FillSays f bytes a b
filled e f bytes a b is says = subst (λ x. FillSays x bytes a b) is says

pub returns-in-Truncated-clause-says : goal.returns-in-Truncated-clause-says
returns-in-Truncated-clause-says g c = λ clean bytes left x cut framed read h.
    let model = g.K.Keeper.model in
    let (part, short, came, end) = filled _ Truncated _ _ _ c.in-Truncated.is c.read_all-end.ensures.says in
    let fits : length c.read_all-end.result.1.items ≡ c.args.head.len = c.read_all-end.ensures.len ∙ c.in-Ok.ensures in
    truncated_turn model (site_value c.args.site.now) x left _ c.args.keeper.now h (bytes ++ part) _
    (unfinished_body bytes part (head_value c.args.head) cut framed (subst (λ n. length part < n) fits short))
    (Consumes-trans left _ _ bytes part read came) end

pub returns-in-Failed-clause-says : goal.returns-in-Failed-clause-says
returns-in-Failed-clause-says g c = λ clean bytes left x cut framed read h.
    let model = g.K.Keeper.model in
    unread_turn model (site_value c.args.site.now) x left _ c.args.keeper.now h _

pub returns-clause-says : goal.returns-clause-says
returns-clause-says g c = λ clean bytes left x cut framed read h.
    let model = g.K.Keeper.model in
    let site = site_value c.args.site.now in
    let body = c.as_slice.result.now in
    let value = c.as_slice.ensures.value in
    let before = g.R.Read.remaining c.args.reader.now in
    let rest = g.R.Read.remaining c.read_all-end.new.reader in
    let held = g.W.Write.contents c.args.writer.now in
    let now = g.W.Write.contents c.write_answer-2.new.writer in
    let said = c.answer_to-answer in
    let old = c.args.keeper.now in
    let came : Consumes before rest body = subst (Consumes before rest) (sym value) (filled _ Whole _ before rest c.in-Whole.is c.read_all-end.ensures.says) in
    answered_turn model site x left rest (head_value c.args.head) bytes body (answer_text said.result.0) said.result.1 c.write_answer-2.result held now old said.new.keeper
    cut framed (ap length value ∙ c.read_all-end.ensures.len ∙ c.in-Ok.ensures) (Consumes-trans left before rest bytes body read came)
    (said.ensures.answered clean x h) c.write_answer-2.ensures.says
