use Rattle.std.proofs.Common.{sym, ◌∙◌}
use Rattle.streetmap_compact_reader.proofs.MemberFronts.{found_here, found_past}
use Rattle.streetmap_compact_reader.proofs.properties.found_with.Goals as goal

pub returns-then-eq : goal.returns-then-eq
returns-then-eq c = found_here c.args.property c.in-Some.property c.args.name.now c.args.value c.args.found c.in-Some.is c.in-None.is
    (sym c.eq.ensures ∙ c.if-eq.true)

pub returns-else-eq : goal.returns-else-eq
returns-else-eq c = found_past c.args.property c.in-Some.property c.args.name.now c.args.value c.args.found c.in-Some.is c.in-None.is
    (sym c.eq.ensures ∙ c.if-eq.false)
