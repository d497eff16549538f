-- Boxes of the grid overlap as they do counted from its corner.
use Rattle.std.proofs.Common.{◌≡◌, ℕ, ℤ, IsTrue, refl, ◌∙◌, arith}
use Rattle.std.specs.Prelude.{nat_le, int_le}
use Rattle.std.proofs.lemmas.Int.{ints}
use Rattle.std.proofs.lemmas.Bool.{leb-true, le-leb}
use Rattle.std.proofs.lemmas.Bool.Decides.{same_from_decides}
use Rattle.streetmap_grid.specs.Values.{BoxValue}
use Rattle.streetmap_grid.specs.Extent.{overlaps as boxes_overlap}
use Rattle.streetmap_grid.proofs.Signs.{le_decides}
use Rattle.streetmap_cells.specs.Envelopes.{IsFromCorner, IsEnvelopeOf, overlaps}
use Rattle.streetmap_cells.specs.declared.envelope.Envelope.{Envelope}

-- bounds have the same order if they are counted from the corner of the grid
same_order : (m n : ℕ) (a b : ℤ) → IsFromCorner m a → IsFromCorner n b → nat_le m n ≡ int_le a b
same_order m n a b is is' = same_from_decides (nat_le m n) (int_le a b)
    (λ h. let le = leb-true m n h in omega (arith, ints, is, is', le), λ le. le-leb m n (omega (arith, ints, is, is', le)))
    (le_decides a b)

pub same_overlap : (e w : Envelope) (extent area : BoxValue) → IsEnvelopeOf e extent → IsEnvelopeOf w area → overlaps e w ≡ boxes_overlap extent area
same_overlap e w extent area is is' =
    rw (same_order e.x0 w.x1 extent.x0 area.x1 is.west is'.east, same_order w.x0 e.x1 area.x0 extent.x1 is'.west is.east, same_order e.y0 w.y1 extent.y0 area.y1 is.south is'.north, same_order w.y0 e.y1 area.y0 extent.y1 is'.south is.north) refl

pub envelopes_overlap : (e w : Envelope) (extent area : BoxValue) → IsEnvelopeOf e extent → IsEnvelopeOf w area
    → IsTrue (boxes_overlap extent area) → IsTrue (overlaps e w)
envelopes_overlap e w extent area is is' h = same_overlap e w extent area is is' ∙ h
