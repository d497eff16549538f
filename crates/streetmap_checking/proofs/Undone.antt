-- What is as it was.
use Rattle.std.proofs.Common.{inl, inr, sym, ◌∙◌}
use Rattle.sqlite.specs.State.{State as Seen, IsUnchanged}
use Rattle.streetmap_reading.specs.FoldEffects.{IsSameOrUndone}
use Rattle.streetmap_tables.specs.Adoption.{IsAsItWas}

-- unchanged is as it was
pub unchanged_was : (old new : Seen) → IsUnchanged old new → IsAsItWas old new
unchanged_was old new same settled live = (same.0.now_is, same.0.committed_is)

-- so is what was undone
pub undone_was : (old new : Seen) → IsSameOrUndone old new → IsAsItWas old new
undone_was old new (inl same) = unchanged_was old new same
undone_was old new (inr back) = λ settled live. ((back.undone live).0 ∙ sym settled, (back.undone live).1)

pub was_then : (a b c : Seen) → IsUnchanged a b → IsAsItWas b c → IsAsItWas a c
was_then a b c same was settled live =
    let late = was (same.0.now_is ∙ settled ∙ sym same.0.committed_is) live in (late.0 ∙ same.0.now_is, late.1 ∙ same.0.committed_is)
