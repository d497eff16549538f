-- The results of the readers of intervals and of time properties, in terms of the texts.
use Rattle.std.proofs.Common.{◌≡◌, inl, inr, ℕ, List, [], ◌∷◌, ◌++◌, Option, Some, None, Result, Ok, Err, refl, ap, ◌∙◌, sym, arith, false, ℤ, pos, ◌<ℤ◌, IfOk, IfErr, ok_or}
use Rattle.std.proofs.lemmas.Bool.{cases_Bool}
use Rattle.std.proofs.lemmas.Option.{same_Some, none-some}
use Rattle.std.proofs.lemmas.Int.{ints}
use Rattle.jiff_core.specs.Calendar.{days_from_civil}
use Rattle.streetmap_moment.specs.declared.faults.TimeFault.{TimeFault}
use Rattle.streetmap_moment.specs.declared.faults.TimeFault.TheVariants.{BadTime, EmptyInterval}
use Rattle.streetmap_moment.specs.declared.intervals.Interval.{Interval}
use Rattle.streetmap_moment.specs.DateTime.{IsMomentText, date_text, clock_text, fraction_text, offset_text, DateTime, IsDateTime, date_time_text}
use Rattle.streetmap_moment.specs.IntervalText.{OpenEnd, Dots, Nothing, IntervalText, Instant, Between, Since, Until, open_text, interval_text, HasDateTimes, IsIntervalText, IsFullDateText, IsPropertyText, day_interval, IsEmpty, IsFaultOf}
use Rattle.streetmap_moment.specs.IntervalValue.{IntervalValue, starts_after, IsInOrder}
use Rattle.streetmap_moment.specs.Intervals.{ends_of, ordered_ends, interval_of, full_date_of, date_or_interval, property_of}
use Rattle.streetmap_moment.specs.DateTimeParts.{digit_at, two_digits_at, four_digits_at, date_at, ended, moment_of}
use Rattle.streetmap_moment.specs.Views.{moment_result, interval_value, interval_result}
use Rattle.streetmap_moment.specs.declared.moments.Moment.{Moment}
use Rattle.streetmap_moment.proofs.TextFacts.{bind_is, via, ended_takes_int, date_takes, date_again, moment_takes, moment_again}
use Rattle.streetmap_moment.proofs.IntervalTextFacts.{ends_takes, ends_read}
use Rattle.streetmap_moment.proofs.IntervalFacts.{starts_after-is as empty_tested}

-- ---- date-times

ok_some : (o : Option ℤ) (n : ℤ) → Ok n ≡ ok_or o BadTime → o ≡ Some n
ok_some None n e = cc
ok_some (Some k) n e = cc

pub moment_found : (text : List ℕ) (r : Result Moment TimeFault) → moment_result r ≡ ok_or (moment_of text) BadTime → IfOk r (λ m. IsMomentText text m.nanoseconds)
moment_found text (Ok m) e = moment_takes text m.nanoseconds (ok_some (moment_of text) m.nanoseconds e)
moment_found text (Err fault) e = tt

moment_read : (text : List ℕ) (n : ℤ) → IsMomentText text n → moment_of text ≡ Some n
moment_read text n x = ap moment_of x.2 ∙ (moment_again x.0 x.1 ∙ ap Some (sym x.3))

pub moment_only : (text : List ℕ) (r : Result Moment TimeFault) → moment_result r ≡ ok_or (moment_of text) BadTime → (n : ℤ) → IsMomentText text n → moment_result r ≡ Ok n
moment_only text r e n x = e ∙ ap (λ o. ok_or o BadTime) (moment_read text n x)

pub moment_once : (text : List ℕ) (n k : ℤ) → IsMomentText text n → IsMomentText text k → n ≡ k
moment_once text n k x y = same_Some n k (sym (moment_read text n x) ∙ moment_read text k y)

-- ---- order

order_tested : (start end : Option ℤ) → IsInOrder start end → starts_after start end ≡ false
order_tested None end h = refl
order_tested (Some s) None h = refl
order_tested (Some s) (Some e) h = grind (arith, ints)

pub in_order_ends : (i : IntervalValue) → IsInOrder i.start i.end → ordered_ends (Some i) ≡ Ok i
in_order_ends i h = rw (order_tested i.start i.end h) refl

pub ordered_ok : (o : Option IntervalValue) (i : IntervalValue) → ordered_ends o ≡ Ok i → o ≡ Some i
ordered_ok None i e = cc
ordered_ok (Some j) i e =
    elim (cases_Bool (starts_after j.start j.end)) [
      | inl after ↦ let bad = rw after at e in cc
      | inr in_order ↦ let same = rw in_order at e in cc
    ]

ordered_bad : (o : Option IntervalValue) → ordered_ends o ≡ Err BadTime → o ≡ None
ordered_bad None e = refl
ordered_bad (Some j) e =
    elim (cases_Bool (starts_after j.start j.end)) [
      | inl after ↦ let bad = rw after at e in cc
      | inr in_order ↦ let bad = rw in_order at e in cc
    ]

ordered_empty : (o : Option IntervalValue) → ordered_ends o ≡ Err EmptyInterval → (i : IntervalValue) × (o ≡ Some i) × IsEmpty i
ordered_empty None e = cc
ordered_empty (Some j) e =
    elim (cases_Bool (starts_after j.start j.end)) [
      | inl after ↦ (j, refl, empty_tested j.start j.end after)
      | inr in_order ↦ let bad = rw in_order at e in cc
    ]

-- ---- interval texts

pub interval_found : (text : List ℕ) (r : Result Interval TimeFault) → interval_result r ≡ interval_of text → IfOk r (λ i. IsIntervalText text (interval_value i))
interval_found text (Ok i) e = ends_takes text (interval_value i) (ordered_ok (ends_of text) (interval_value i) (sym e))
interval_found text (Err fault) e = tt

pub interval_only : (text : List ℕ) (r : Result Interval TimeFault) → interval_result r ≡ interval_of text → (i : IntervalValue) → IsIntervalText text i → IsInOrder i.start i.end → interval_result r ≡ Ok i
interval_only text r e i x h = e ∙ (ap ordered_ends (ends_read text i x) ∙ in_order_ends i h)

pub interval_fault : (text : List ℕ) (r : Result Interval TimeFault) → interval_result r ≡ interval_of text → IfErr r (IsFaultOf IsIntervalText text)
interval_fault text (Ok i) e = tt
interval_fault text (Err BadTime) e = λ i x. none-some i (sym (ordered_bad (ends_of text) (sym e)) ∙ ends_read text i x)
interval_fault text (Err EmptyInterval) e =
    let empty = ordered_empty (ends_of text) (sym e) in
    (empty.0, ends_takes text empty.0 empty.1, empty.2)

pub interval_once : (text : List ℕ) (i j : IntervalValue) → IsIntervalText text i → IsIntervalText text j → i ≡ j
interval_once text i j x y = same_Some i j (sym (ends_read text i x) ∙ ends_read text j y)

-- ---- full dates

pub full_takes : (text : List ℕ) (day : ℤ) → full_date_of text ≡ Some day → IsFullDateText text (day_interval day)
unfolding full_date_of
full_takes text day e =
    via ended (date_at text) day e (λ x x_is e.
    let ends = ended_takes_int x.0 x.1 day e in
    let date = date_takes text x.1 x.0 x_is in
    (date.0, date.1, date.2, date.3, cc (date.4, ends.0), ap day_interval (ends.1 ∙ date.5)))

pub full_read : (text : List ℕ) (i : IntervalValue) → IsFullDateText text i → (day : ℤ) × (full_date_of text ≡ Some day) × (i ≡ day_interval day)
unfolding full_date_of
full_read text i x =
    let day = days_from_civil (pos x.0) x.1 x.2 in
    (day, ap full_date_of x.4 ∙ bind_is (date_at (date_text x.0 x.1 x.2)) ended (day, []) _ (date_again x.0 x.1 x.2 [] x.3) refl, x.5)

-- a date-time has a separator after its date, so it is no full date
moment_no_date : (t : DateTime) (rest : List ℕ) → IsDateTime t → full_date_of (date_time_text t ++ rest) ≡ None
unfolding full_date_of
moment_no_date t rest h =
    let back = t.separator ∷ clock_text t.hour t.minute t.second ++ fraction_text t.fraction ++ offset_text t.offset ++ rest in
    bind_is (date_at (date_time_text t ++ rest)) ended (days_from_civil (pos t.year) t.month t.day, back) _ (date_again t.year t.month t.day back h.date) refl

instant_no_date : (t : DateTime) → IsDateTime t → full_date_of (date_time_text t) ≡ None
unfolding full_date_of
instant_no_date t h =
    let back = t.separator ∷ clock_text t.hour t.minute t.second ++ fraction_text t.fraction ++ offset_text t.offset in
    bind_is (date_at (date_time_text t)) ended (days_from_civil (pos t.year) t.month t.day, back) _ (date_again t.year t.month t.day back h.date) refl

open_no_date : (open_end : OpenEnd) (rest : List ℕ) → full_date_of (open_text open_end ++ 47 ∷ rest) ≡ None
unfolding full_date_of date_at four_digits_at two_digits_at digit_at
open_no_date Dots rest = refl
open_no_date Nothing rest = refl

interval_no_date : (t : IntervalText) → HasDateTimes t → full_date_of (interval_text t) ≡ None
interval_no_date (Instant a) h = instant_no_date a h
interval_no_date (Between a b) h = moment_no_date a (47 ∷ date_time_text b) h.0
interval_no_date (Since a open_end) h = moment_no_date a (47 ∷ open_text open_end) h
interval_no_date (Until open_end b) h = open_no_date open_end (date_time_text b)

pub no_date : (text : List ℕ) (i : IntervalValue) → IsIntervalText text i → full_date_of text ≡ None
no_date text i x = ap full_date_of x.2 ∙ interval_no_date x.0 x.1

-- ---- texts of time properties

interval_or_date : (text : List ℕ) (r : Result Interval TimeFault) → IfOk r (λ i. IsIntervalText text (interval_value i)) → IfOk r (λ i. IsPropertyText text (interval_value i))
interval_or_date text (Ok i) h = inr h
interval_or_date text (Err fault) h = tt

found_by : (text : List ℕ) (o : Option ℤ) (r : Result Interval TimeFault) → full_date_of text ≡ o → interval_result r ≡ date_or_interval o (interval_of text) → IfOk r (λ i. IsPropertyText text (interval_value i))
found_by text None r d e = interval_or_date text r (interval_found text r e)
found_by text (Some day) (Ok i) d e =
    let same : interval_value i ≡ day_interval day = cc in
    rw same (inl (full_takes text day d))
found_by text (Some day) (Err fault) d e = tt

pub property_found : (text : List ℕ) (r : Result Interval TimeFault) → interval_result r ≡ property_of text → IfOk r (λ i. IsPropertyText text (interval_value i))
property_found text r e = found_by text (full_date_of text) r refl e

pub property_only : (text : List ℕ) (r : Result Interval TimeFault) → interval_result r ≡ property_of text → (i : IntervalValue) → IsPropertyText text i → IsInOrder i.start i.end → interval_result r ≡ Ok i
property_only text r e i (inl x) h =
    let date = full_read text i x in
    e ∙ (ap (λ o. date_or_interval o (interval_of text)) date.1 ∙ ap Ok (sym date.2))
property_only text r e i (inr x) h =
    interval_only text r (e ∙ ap (λ o. date_or_interval o (interval_of text)) (no_date text i x)) i x h

both_faults : (text : List ℕ) (r : Result Interval TimeFault) → full_date_of text ≡ None → IfErr r (IsFaultOf IsIntervalText text) → IfErr r (IsFaultOf IsPropertyText text)
both_faults text (Ok i) d h = tt
both_faults text (Err BadTime) d h = λ i x. elim x [
  | inl date ↦ let read = full_read text i date in none-some read.0 (sym d ∙ read.1)
  | inr other ↦ h i other
]
both_faults text (Err EmptyInterval) d h = (h.0, inr h.1, h.2)

fault_by : (text : List ℕ) (o : Option ℤ) (r : Result Interval TimeFault) → full_date_of text ≡ o → interval_result r ≡ date_or_interval o (interval_of text) → IfErr r (IsFaultOf IsPropertyText text)
fault_by text None r d e = both_faults text r d (interval_fault text r e)
fault_by text (Some day) (Ok i) d e = tt
fault_by text (Some day) (Err fault) d e = cc

pub property_fault : (text : List ℕ) (r : Result Interval TimeFault) → interval_result r ≡ property_of text → IfErr r (IsFaultOf IsPropertyText text)
property_fault text r e = fault_by text (full_date_of text) r refl e

pub property_once : (text : List ℕ) (i j : IntervalValue) → IsPropertyText text i → IsPropertyText text j → i ≡ j
property_once text i j (inl x) (inl y) =
    let a = full_read text i x in
    let b = full_read text j y in
    let same : a.0 ≡ b.0 = same_Some a.0 b.0 (sym a.1 ∙ b.1) in
    a.2 ∙ (ap day_interval same ∙ sym b.2)
property_once text i j (inl x) (inr y) = let a = full_read text i x in absurd (none-some a.0 (sym (no_date text j y) ∙ a.1))
property_once text i j (inr x) (inl y) = let b = full_read text j y in absurd (none-some b.0 (sym (no_date text i x) ∙ b.1))
property_once text i j (inr x) (inr y) = interval_once text i j x y
