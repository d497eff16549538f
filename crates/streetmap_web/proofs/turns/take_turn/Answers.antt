use Rattle.std.proofs.Common.{◌≡◌, ℕ, List, take, subst, refl}
use Rattle.std.specs.Prelude.{Option}
use Rattle.streetmap_http.specs.Head.{IsHead, HeadSays}
use Rattle.streetmap_http.specs.declared.head.HeadEnd.{HeadEnd}
use Rattle.streetmap_http.specs.declared.head.HeadEnd.TheVariants.{Whole, TooLarge, Ended, Truncated}
use Rattle.streetmap_http.specs.Framing.{no_end, rule}
use Rattle.streetmap_web.specs.Site.{site_value}
use Rattle.streetmap_http.specs.Streams.{in_head}
use Rattle.streetmap_web.proofs.OneTurn.{ended_turn, truncated_turn, unread_turn, refuse_says}
use Rattle.streetmap_web.proofs.turns.take_turn.Goals as goal

-- what the end of a head says once it is known which end it was
known : (e f : HeadEnd) (bytes : List ℕ) (left : Option (List ℕ)) → e ≡ f → HeadSays e bytes left → HeadSays f bytes left
known e f bytes left is says = subst (λ x. HeadSays x bytes left) is says

pub returns-in-Ended-clause-says : goal.returns-in-Ended-clause-says
returns-in-Ended-clause-says g c = λ clean x h.
    let model = g.K.Keeper.model in
    let bytes : List ℕ = take c.read_head-end.result.1 c.read_head-end.new.buf in
    let (blank, end) = known _ Ended bytes _ c.in-Ended.is c.read_head-end.ensures.says in
    ended_turn model (site_value c.args.site.now) x _ _ c.args.keeper.now h bytes _ blank c.read_head-end.ensures.read end

pub returns-in-Truncated-clause-says : goal.returns-in-Truncated-clause-says
returns-in-Truncated-clause-says g c = λ clean x h.
    let model = g.K.Keeper.model in
    let bytes : List ℕ = take c.read_head-end.result.1 c.read_head-end.new.buf in
    let (short, none, text, end) = known _ Truncated bytes _ c.in-Truncated.is c.read_head-end.ensures.says in
    truncated_turn model (site_value c.args.site.now) x _ _ c.args.keeper.now h bytes _ (in_head short none text) c.read_head-end.ensures.read end

pub returns-in-TooLarge-clause-says : goal.returns-in-TooLarge-clause-says
returns-in-TooLarge-clause-says g c = λ clean x h.
    let model = g.K.Keeper.model in
    let bytes : List ℕ = take c.read_head-end.result.1 c.read_head-end.new.buf in
    let (long, none) = known _ TooLarge bytes _ c.in-TooLarge.is c.read_head-end.ensures.says in
    refuse_says model (site_value c.args.site.now) x _ _ c.args.keeper.now h bytes _ _ _ _ _ (no_end long none refl refl) c.read_head-end.ensures.read
    c.refuse_turn.ensures.says

pub returns-in-Failed-clause-says : goal.returns-in-Failed-clause-says
returns-in-Failed-clause-says g c = λ clean x h.
    let model = g.K.Keeper.model in
    unread_turn model (site_value c.args.site.now) x _ _ c.args.keeper.now h _

pub returns-in-Broken-clause-says : goal.returns-in-Broken-clause-says
returns-in-Broken-clause-says g c = λ clean x h.
    let model = g.K.Keeper.model in
    let bytes : List ℕ = take c.read_head-end.result.1 c.read_head-end.new.buf in
    let cut : IsHead bytes = known _ Whole bytes _ c.in-Whole.is c.read_head-end.ensures.says in
    refuse_says model (site_value c.args.site.now) x _ _ c.args.keeper.now h bytes _ _ _ _ _ (rule cut c.in-Broken.ensures) c.read_head-end.ensures.read
    c.refuse_turn-in-Broken.ensures.says

pub returns-in-Request-clause-says : goal.returns-in-Request-clause-says
returns-in-Request-clause-says g c = λ clean x h.
    let bytes : List ℕ = take c.read_head-end.result.1 c.read_head-end.new.buf in
    let cut : IsHead bytes = known _ Whole bytes _ c.in-Whole.is c.read_head-end.ensures.says in
    c.answer_turn.ensures.says clean bytes _ x cut c.in-Request.ensures c.read_head-end.ensures.read h
