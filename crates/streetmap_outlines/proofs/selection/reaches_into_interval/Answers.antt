use Rattle.std.proofs.Common.{◌≡◌, ℤ, pos, negsuc, ◌<ℤ◌, ◌≤ℤ◌, Option, None, Some, option_map, Bool, true, false, refl, sym, ap, subst, ◌∙◌, arith, rules}
use Rattle.std.proofs.Common.{SFits, w64}
use Rattle.std.specs.Prelude.{int_lt}
use Rattle.std.proofs.lemmas.Int.{ints, to_z-of_z}
use Rattle.std.proofs.lemmas.Option.{same_Some}
use Rattle.streetmap_moment.specs.IntervalValue.{IntervalValue, starts_after}
use Rattle.streetmap_moment.specs.Meeting.{meets, seconds_of, second_of, first_second, last_second}
use Rattle.streetmap_moment.specs.Views.{interval_value}
use Rattle.streetmap_query.specs.QueryValue.{DatetimeValue}
use Rattle.streetmap_query.specs.Views.{datetime_value}
use Rattle.streetmap_query.specs.declared.datetimes.Datetime.{Datetime}
use Rattle.streetmap_ledger.specs.Outlines.{FeatureOutlineValue}
use Rattle.streetmap_ledger.specs.Pages.{passes}
use Rattle.streetmap_outlines.specs.Outlines.{IsTimedBy}
use Rattle.streetmap_outlines.proofs.selection.reaches_into_interval.Goals as goal

-- a moment of an earlier second comes before one of a later second
earlier : (s e : ℤ) → second_of s <ℤ second_of e → s ≤ℤ e
earlier (pos s) (pos e) h = omega (arith, ints)
earlier (pos s) (negsuc e) h = absurd (omega (arith, ints))
earlier (negsuc s) (pos e) h = omega (arith, ints)
earlier (negsuc s) (negsuc e) h = omega (arith, ints)

not_less : (s e : ℤ) → s ≤ℤ e → (b : Bool) → int_lt e s ≡ b → int_lt e s ≡ false
not_less s e h true is = absurd (omega (arith, ints))
not_less s e h false is = is

begins : (s e : Option ℤ) → first_second s <ℤ last_second e → starts_after s e ≡ false
begins None e h = refl
begins (Some s) None h = refl
begins (Some s) (Some e) h = not_less s e (earlier s e h) (int_lt e s) refl

reaches : (t : Option IntervalValue) (d : IntervalValue) (first last start end : ℤ) → Some (first, last) ≡ option_map seconds_of t → first_second d.start
    ≡ start → last_second d.end ≡ end → first <ℤ end → start <ℤ last → passes meets t (Some d) ≡ true
reaches None d first last start end is a b h k = absurd cc
reaches (Some t) d first last start end is a b h k =
    let pair : ◌≡◌ {A = ℤ × ℤ} (first, last) (seconds_of t) = same_Some _ _ is in
    let one : first_second t.start ≡ first = sym (ap (λ p. p.0) pair) in
    let two : last_second t.end ≡ last = sym (ap (λ p. p.1) pair) in
    let p = begins t.start d.end (rw (one, b) h) in
    let q = begins d.start t.end (rw (two, a) k) in
    rw (p, q) refl

-- so does each time with seconds within such bounds
timed : (o : Option (ℤ × ℤ)) (t : Option IntervalValue) (d : IntervalValue) (first last start end : ℤ) → IsTimedBy o (Some (first, last)) → o
    ≡ option_map seconds_of t
    → first_second d.start ≡ start → last_second d.end ≡ end → first <ℤ end → start <ℤ last → passes meets t (Some d) ≡ true
timed None t d first last start end within is a b h k = absurd within
timed (Some (x, y)) t d first last start end within is a b h k =
    let from : x ≤ℤ first = within.0 in
    let to : last ≤ℤ y = within.1 in
    reaches t d x y start end is a b (omega (arith, ints, from, h)) (omega (arith, ints, to, k))

pub returns-then-first-end : goal.returns-then-first-end
returns-then-first-end c = λ less outline f within is.
    let d = interval_value c.in-Some.datetime.interval in
    let first = c.in-Some-seconds.first in
    let last = c.in-Some-seconds.last in
    let start = c.seconds-start.result.0 in
    let end = c.seconds-start.result.1 in
    let value = c.seconds-start.ensures.value in
    let first_fits : SFits w64 first = search rules in
    let last_fits : SFits w64 last = search rules in
    let start_fits : SFits w64 start = search rules in
    let end_fits : SFits w64 end = search rules in
    let before : first <ℤ end = (let test = c.if-first-end.true in grind (arith, ints, to_z-of_z)) in
    let following : start <ℤ last = grind (arith, ints, to_z-of_z) in
    ap (λ (o : Option Datetime). passes meets f.time (option_map (λ (v : DatetimeValue). v.interval) (option_map datetime_value o))) c.in-Some.is
    ∙ timed outline.seconds f.time d first last start end (subst (IsTimedBy outline.seconds) c.in-Some-seconds.is within)
    (ap (λ (o : FeatureOutlineValue). o.seconds) is) (sym (ap (λ p. p.0) value)) (sym (ap (λ p. p.1) value)) before following
