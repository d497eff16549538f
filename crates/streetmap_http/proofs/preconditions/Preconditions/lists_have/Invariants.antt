use Rattle.std.proofs.Common.{◌≡◌, drop}
use Rattle.std.specs.Prelude.{option_map}
use Rattle.std.specs.List.{list_any}
use Rattle.streetmap_http.specs.Fields.{pairs}
use Rattle.streetmap_http.specs.Tags.{is_same_tag, strong_tag}
use Rattle.streetmap_http.specs.Preconditions.{tags_in}
use Rattle.streetmap_http.proofs.TagLists.{so}
use Rattle.streetmap_http.proofs.preconditions.Preconditions.lists_have.Given as goal

abbrev pub invariant-loop-field : goal.invariant-loop-field
invariant-loop-field l =
    option_map (so l.found l.weakly l.tag) (tags_in l.name (pairs l.self.head.now (drop l.field-index l.self.fields.now)))
    ≡ option_map (list_any (is_same_tag l.weakly (strong_tag l.tag))) (tags_in l.name (pairs l.self.head.now l.self.fields.now))
