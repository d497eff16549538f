use Rattle.std.proofs.Common.{◌<◌, ◌+◌, ◌∙◌, get_or, drop, length, sym, arith}
use Rattle.std.specs.Prelude.{option_map}
use Rattle.std.proofs.lemmas.List.{at_drop_more}
use Rattle.httparse.specs.Spans.{header_bytes}
use Rattle.httparse.specs.declared.spans.Span.{Span}
use Rattle.streetmap_http.specs.Fields.{pairs, is_named}
use Rattle.streetmap_http.specs.Preconditions.{tags_in}
use Rattle.streetmap_http.proofs.TagLists.{so, field_read}
use Rattle.streetmap_http.proofs.preconditions.Preconditions.lists_have.Goals as goal

pub loop-field-preserved : goal.loop-field-preserved
loop-field-preserved c =
    let l = c.loop-field in
    let it = c.args.self.now in
    let name = c.args.name.now in
    let tag = c.args.tag.now in
    let inside : l.field-index < length it.fields.now = omega arith in
    let none : Span = record { start = 0; end = 0 } in
    let field = get_or it.fields.now l.field-index (record { name = none; value = none }) in
    let others = tags_in name (pairs it.head.now (drop (l.field-index + 1) it.fields.now)) in
    sym (field_read l.found c.args.weakly (is_named name (header_bytes it.head.now field)) tag (header_bytes it.head.now field) others c.in_ok-has.has (sym c.in_ok-has.ensures))
    ∙ sym (at_drop_more (λ fields. option_map (so l.found c.args.weakly tag) (tags_in name (pairs it.head.now fields))) it.fields.now l.field-index (record { name = none; value = none }) inside)
    ∙ l.invariant
