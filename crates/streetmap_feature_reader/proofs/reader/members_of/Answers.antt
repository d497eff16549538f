use Rattle.std.proofs.Common.{◌≡◌, [], ◌∷◌, Some, ap, sym, ◌∙◌, arith}
use Rattle.json.specs.Json.{value}
use Rattle.json.specs.Token.{Token}
use Rattle.serde_json.specs.Read.{max_depth}
use Rattle.streetmap_json.specs.Values.{members_at, whole}
use Rattle.streetmap_feature_reader.specs.UsualMembers.{found_members}
use Rattle.streetmap_feature_reader.proofs.Fronts.{where_some, whole_object}
use Rattle.streetmap_feature_reader.proofs.reader.members_of.Goals as goal

pub returns : goal.returns
returns c =
    let ms = found_members c.in-Some.members in
    let following = c.next.new.self in
    let opened : c.in_ok-reader.reader ≡ Token.begin_object ∷ following = grind arith in
    let ended : c.read.new.reader ≡ [] = grind arith in
    let found : members_at 126 following ≡ Some (ms, c.read.new.reader) = grind arith in
    let value_is = ap (λ ts. whole (value max_depth ts)) (sym c.in_ok-reader.ensures.ok ∙ opened) ∙ whole_object following ms (found ∙ ap (λ ts. Some (ms, ts)) ended) in
    where_some c.whole.result (λ members is. value_is ∙ ap (λ d. Some d) is) c.whole.ensures
