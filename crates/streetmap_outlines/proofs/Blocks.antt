-- Extents that are counted a block at a time.
use Rattle.std.proofs.Common.{◌≡◌, ◌↔◌, ℕ, ◌+◌, ◌<◌, ◌≤◌, Bool, true, false, not, ◌&&◌, ◌||◌, cond, List, Some, All, length, take, get_or, refl, sym, ◌∙◌}
use Rattle.std.proofs.Common.{arith, inl, inr}
use mir.Val.{bool_byte}
use Rattle.std.proofs.lemmas.Bool.{cases_Bool, and_parts, and_from, or_cases, or_left, or_right, not-true, not_from_false, both_ways}
use Rattle.std.proofs.lemmas.List.{take_more}
use Rattle.std.proofs.lemmas.List.Elements.{All-more, All-pop}
use Rattle.streetmap_cells.specs.Envelopes.{overlaps}
use Rattle.streetmap_cells.specs.declared.envelope.Envelope.{Envelope}
use Rattle.streetmap_outlines.specs.Within.{DecidesMeeting, HasThreeBoundsIn}

-- a test counts as one, or as none
pub one_or_none : (b : Bool) → cond b 1 0 ≤ 1
one_or_none true = omega arith
one_or_none false = omega arith

-- as a number it is the same
pub as_byte : (b : Bool) → bool_byte b ≡ cond b 1 0
as_byte true = refl
as_byte false = refl

-- whether a fact holds of all elements so far, and of one more
pub all_reported_more : {X : Type 0} (P : X → Type 0) (xs : List X) (i : ℕ) (d : X) (so_far here : Bool)
    → i < length xs → (so_far ≡ true ↔ All P (take i xs)) → (here ≡ true ↔ P (get_or xs i d))
    → (so_far && here) ≡ true ↔ All P (take (i + 1) xs)
all_reported_more P xs i d so_far here in' reported reports = (
  λ both.
      let parts = and_parts so_far here both in
      All-more P xs i d in' (reported.0 parts.0) (reports.0 parts.1),
  λ all.
      let parts = All-pop P (take (i + 1) xs) (take i xs) (Some (get_or xs i d)) (take_more xs i d in') all in
      and_from so_far here (reported.1 parts.0) (reports.1 parts.1),
)

-- off a window, or with three bounds in it, an extent shows whether its geometry meets it
pub off_or_three : (e w : Envelope) (on three : Bool) → on ≡ overlaps e w
    → (three ≡ true ↔ HasThreeBoundsIn e w)
    → (not on || three) ≡ true ↔ DecidesMeeting e w
off_or_three e w on three is reports = (
  λ h over. elim (or_cases (not on) three h) [
    | inl off ↦ absurd (both_ways on (not-true on off) (is ∙ over))
    | inr in' ↦ reports.0 in'
  ],
  λ met. elim (cases_Bool on) [
    | inl over ↦ or_right (not on) three (reports.1 (met (sym is ∙ over)))
    | inr off ↦ or_left (not on) three (not_from_false on off)
  ],
)
