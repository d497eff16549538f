-- What each interval is, and the seconds of intervals that meet.
use Rattle.std.proofs.Common.{◌≡◌, Bool, true, false, inl, inr, Option, Some, None, ℤ, pos, negsuc, neg_ℤ, ◌≤ℤ◌, ◌<ℤ◌, ◌↔◌, ◌||◌, arith, refl, subst}
use Rattle.std.proofs.lemmas.Bool.{cases_Bool}
use Rattle.std.specs.Prelude.{IsTrue, option_map, is_some, not, int_lt, int_le, ◌&&◌}
use Rattle.std.specs.Option.{ForSome}
use Rattle.std.proofs.lemmas.Int.{ints}
use Rattle.streetmap_moment.specs.declared.intervals.Interval.{Interval}
use Rattle.streetmap_moment.specs.Range.{IsMoment}
use Rattle.streetmap_moment.specs.IntervalValue.{IntervalValue, IsInterval, IsInOrder, starts_after}
use Rattle.streetmap_moment.specs.Meeting.{EndsBefore, Meets, Includes, HaveCommonMoment, second_of, first_second, last_second, meets, seconds_overlap}
use Rattle.streetmap_moment.specs.declared.moments.Moment.{Moment}
use Rattle.streetmap_moment.specs.Views.{moment_value, interval_value}
use Rattle.std.proofs.lemmas.Option.{same_Some, none-some}

is_in_order : (start end : Option Moment) → ForSome start (λ s. ForSome end (λ e. s.nanoseconds ≤ℤ e.nanoseconds)) → IsInOrder (option_map moment_value start) (option_map moment_value end)
is_in_order None end h = tt
is_in_order (Some s) None h = tt
is_in_order (Some s) (Some e) h = h s refl e refl

is_moment : (o : Option Moment) → ForSome (option_map moment_value o) IsMoment
is_moment None = λ n e. absurd (none-some n e)
is_moment (Some m) = λ n e. subst IsMoment (same_Some m.nanoseconds n e) m.in_range

is_there : (start end : Option Moment) → IsTrue (is_some start || is_some end) → IsTrue (is_some (option_map moment_value start) || is_some (option_map moment_value end))
is_there None None h = h
is_there None (Some e) h = refl
is_there (Some s) end h = refl

-- what each kept interval is
pub interval_facts : (i : Interval) → IsInterval (interval_value i)
interval_facts i = record {
  bounded = is_there i.start i.end i.bounded;
  ordered = is_in_order i.start i.end i.ordered;
  start_in = is_moment i.start;
  end_in = is_moment i.end;
}

in_order : (start end : Option ℤ) → starts_after start end ≡ false → IsInOrder start end
in_order None end h = tt
in_order (Some s) None h = tt
in_order (Some s) (Some e) h = omega (arith, ints)

second_order : (a b : ℤ) → a ≤ℤ b → second_of a ≤ℤ second_of b
second_order (pos a) (pos b) h = omega (arith, ints)
second_order (pos a) (negsuc b) h = absurd (omega (arith, ints))
second_order (negsuc a) (pos b) h = omega (arith, ints)
second_order (negsuc a) (negsuc b) h = omega (arith, ints)

second_in : (n : ℤ) → IsMoment n → (neg_ℤ (pos 1_000_000_000_000) ≤ℤ second_of n) × (second_of n ≤ℤ pos 1_000_000_000_000)
second_in (pos n) h = (omega (arith, ints, h.1), omega (arith, ints, h.1))
second_in (negsuc n) h = (omega (arith, ints, h.0), omega (arith, ints, h.0))

seconds_in_order : (start end : Option ℤ) → ForSome start IsMoment → ForSome end IsMoment → IsInOrder start end → first_second start ≤ℤ last_second end
seconds_in_order None None a b h = omega (arith, ints)
seconds_in_order (Some s) None a b h = (second_in s (a s refl)).1
seconds_in_order None (Some e) a b h = (second_in e (b e refl)).0
seconds_in_order (Some s) (Some e) a b h = second_order s e h

neither : (a b : Bool) → IsTrue (not a && not b) → (a ≡ false) × (b ≡ false)
neither true b h = cc
neither false true h = cc
neither false false h = (refl, refl)

both_le : (a b c d : ℤ) → a ≤ℤ b → c ≤ℤ d → IsTrue (int_le a b && int_le c d)
both_le a b c d h k = grind (arith, ints)

-- intervals that meet have a second in common
pub meets-seconds_overlap : (a b : IntervalValue) → IsInterval a → IsInterval b → IsTrue (meets a b) → IsTrue (seconds_overlap a b)
meets-seconds_overlap a b h k m =
    let apart = neither _ _ m in
    both_le _ _ _ _ (seconds_in_order a.start b.end h.start_in k.end_in (in_order _ _ apart.1)) (seconds_in_order b.start a.end k.start_in h.end_in (in_order _ _ apart.0))

-- ---- the relation and its test

pub starts_after-is : (start end : Option ℤ) → starts_after start end ≡ true → (s : ℤ) × (e : ℤ) × (start ≡ Some s) × (end ≡ Some e) × (e <ℤ s)
starts_after-is None end h = cc
starts_after-is (Some s) None h = cc
starts_after-is (Some s) (Some e) h = (s, e, refl, refl, omega (arith, ints))

ends_before-tested : (a b : IntervalValue) → EndsBefore a b → starts_after b.start a.end ≡ true
ends_before-tested a b h =
    let after : int_lt h.0 h.1 ≡ true = grind (arith, ints, h.4) in
    rw (h.3, h.2) after

tested-ends_before : (a b : IntervalValue) → starts_after b.start a.end ≡ true → EndsBefore a b
tested-ends_before a b h = let found = starts_after-is b.start a.end h in (found.1, found.0, found.3, found.2, found.4)

true_false : (b : Bool) → b ≡ true → b ≡ false → ⊥
true_false b h k = cc

both_not : (a b : Bool) → (a ≡ true → ⊥) → (b ≡ true → ⊥) → IsTrue (not a && not b)
both_not true b h k = absurd (h refl)
both_not false true h k = absurd (k refl)
both_not false false h k = refl

-- the test of meeting is true exactly if two intervals meet
pub meets-is : (a b : IntervalValue) → IsTrue (meets a b) ↔ Meets a b
meets-is a b = (
  λ h. let apart = neither _ _ h in (
    λ before. true_false _ (ends_before-tested a b before) apart.0,
    λ before. true_false _ (ends_before-tested b a before) apart.1,
  ),
  λ h. both_not (starts_after b.start a.end) (starts_after a.start b.end) (λ t. h.0 (tested-ends_before a b t)) (λ t. h.1 (tested-ends_before b a t)),
)

common : (s e t f : Option ℤ) → IsTrue (is_some s || is_some e) → IsTrue (is_some t || is_some f) → IsInOrder s e → IsInOrder t f → IsInOrder t e → IsInOrder s f → (n : ℤ) × (IsInOrder s (Some n) × IsInOrder (Some n) e) × (IsInOrder t (Some n) × IsInOrder (Some n) f)
common (Some s) e (Some t) f h k a b c d =
    elim (cases_Bool (int_lt s t)) [
      | inl before ↦ (t, (omega (arith, ints), c), (omega (arith, ints), b))
      | inr other ↦ (s, (omega (arith, ints), a), (omega (arith, ints), d))
    ]
common (Some s) e None f h k a b c d = (s, (omega (arith, ints), a), (tt, d))
common None e (Some t) f h k a b c d = (t, (tt, c), (omega (arith, ints), b))
common None (Some e) None (Some f) h k a b c d =
    elim (cases_Bool (int_lt e f)) [
      | inl before ↦ (e, (tt, omega (arith, ints)), (tt, omega (arith, ints)))
      | inr other ↦ (f, (tt, omega (arith, ints)), (tt, omega (arith, ints)))
    ]
common None None None f h k a b c d = cc
common None (Some e) None None h k a b c d = cc

includes-not_before : (a b : IntervalValue) (n : ℤ) → Includes a n → Includes b n → ¬ EndsBefore a b
includes-not_before a b n h k before =
    let last : IsInOrder (Some n) (Some before.0) = rw (before.2) at h.1 in
    let first : IsInOrder (Some before.1) (Some n) = rw (before.3) at k.0 in
    absurd (omega (arith, ints, before.4))

-- intervals that are in order meet exactly if some moment lies in both
pub meets-common : (a b : IntervalValue) → IsInterval a → IsInterval b → IsTrue (meets a b) ↔ HaveCommonMoment a b
meets-common a b h k = (
  λ m. let apart = neither _ _ m in
      common a.start a.end b.start b.end h.bounded k.bounded h.ordered k.ordered (in_order _ _ apart.0) (in_order _ _ apart.1),
  λ c. (meets-is a b).1 (includes-not_before a b c.0 c.1 c.2, includes-not_before b a c.0 c.2 c.1),
)

-- the same for the result of a test
pub meets-by : (a b : IntervalValue) (r : Bool) → IsInterval a → IsInterval b → r ≡ meets a b → IsTrue r ↔ HaveCommonMoment a b
meets-by a b r h k e = rw e (meets-common a b h k)
