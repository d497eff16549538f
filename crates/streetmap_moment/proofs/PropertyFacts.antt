-- A time property's text is read as an interval, and the reading agrees with the grammar both ways.
use Rattle.std.proofs.Common.{◌≡◌, inl, inr, ℕ, ◌+◌, ◌-◌, ◌*◌, ◌/◌, ◌<◌, ◌≤◌, List, [], ◌∷◌, Option, Some, None, Ok, refl, ap, sym, subst, ◌∙◌, arith, ℤ, pos, ◌+ℤ◌, ◌-ℤ◌, ◌*ℤ◌, ◌≤ℤ◌, false}
use Rattle.std.specs.Option.{ForSome}
use Rattle.std.specs.List.{AllByRecursion}
use Rattle.std.proofs.lemmas.Bool.{cases_Bool}
use Rattle.std.proofs.lemmas.Int.{ints}
use Rattle.std.proofs.lemmas.Option.{same_Some, none-some}
use Rattle.jiff_core.specs.Calendar.{days_from_civil}
use Rattle.streetmap_moment.specs.Range.{IsMoment, IsDayNumber, IsOffsetSeconds}
use Rattle.streetmap_moment.specs.DateTime.{Offset, Zulu, SmallZulu, East, Spaced, West, DateTime, IsDay, IsOffset, IsDateTime, offset_seconds, fraction_meant, nanoseconds, moment_meant}
use Rattle.streetmap_moment.specs.IntervalText.{IntervalText, Instant, Between, Since, Until, HasDateTimes, interval_meant, IsIntervalText, IsFullDateText, IsPropertyText, day_interval}
use Rattle.streetmap_moment.specs.IntervalValue.{IntervalValue, IsInterval, IsInOrder, starts_after}
use Rattle.streetmap_moment.specs.Intervals.{ends_of, ordered_ends, interval_of, full_date_of, date_or_interval, property_of}
use Rattle.streetmap_moment.proofs.DateFacts.{day_in_range}
use Rattle.streetmap_moment.proofs.IntervalTextFacts.{ends_takes, ends_read}
use Rattle.streetmap_moment.proofs.ReadFacts.{ordered_ok, in_order_ends, full_takes, full_read, no_date}

-- ---- ranges

day_number : (y m d : ℕ) → IsDay y m d → IsDayNumber (days_from_civil (pos y) m d)
day_number y m d h =
    day_in_range y (pos y) m d refl ((omega (arith, ints, h.year), omega (arith, ints, h.year)), (h.month_from, h.month_to), (h.day_from, h.day_to))

clock_offset : (h m : ℕ) → h < 24 → m < 60 → h * 3600 + m * 60 ≤ 86_340
clock_offset h m a b = omega arith

offset_in : (o : Offset) → IsOffset o → IsOffsetSeconds (offset_seconds o)
offset_in Zulu h = (omega (arith, ints), omega (arith, ints))
offset_in SmallZulu h = (omega (arith, ints), omega (arith, ints))
offset_in (East h m) x = let most = clock_offset h m x.0 x.1 in (omega (arith, ints), omega (arith, ints))
offset_in (Spaced h m) x = let most = clock_offset h m x.0 x.1 in (omega (arith, ints), omega (arith, ints))
offset_in (West h m) x = let most = clock_offset h m x.0 x.1 in (omega (arith, ints), omega (arith, ints))

digit_most : (d unit : ℕ) → d < 10 → d * unit ≤ 9 * unit
digit_most d unit h = grind arith

-- digits of which the first counts `unit` make less than ten of it
fraction_most : (unit : ℕ) (digits : List ℕ) → AllByRecursion (λ d. d < 10) digits → fraction_meant unit digits ≤ 10 * unit - 1
fraction_most unit [] h = omega arith
fraction_most unit (d ∷ digits) h =
    let first = digit_most d unit h.0 in
    let rest = fraction_most (unit / 10) digits h.1 in
    omega arith

moment_of_parts : (day : ℤ) (clock fraction : ℕ) (offset : ℤ) → IsDayNumber day → clock ≤ 86_399 → fraction ≤ 999_999_999 → IsOffsetSeconds offset → IsMoment (nanoseconds day clock fraction offset)
moment_of_parts day clock fraction offset a b c d = (omega (arith, ints, a.0, a.1, d.0, d.1), omega (arith, ints, a.0, a.1, d.0, d.1))

clock_most : (h m s : ℕ) → h < 24 → m < 60 → s < 60 → h * 3600 + m * 60 + s ≤ 86_399
clock_most h m s a b c = omega arith

-- what a date-time means is a moment
date_time_moment : (t : DateTime) → IsDateTime t → IsMoment (moment_meant t)
date_time_moment t h =
    moment_of_parts _ _ _ _ (day_number t.year t.month t.day h.date) (clock_most t.hour t.minute t.second h.hour h.minute h.second)
    (fraction_most 100_000_000 t.fraction h.digits) (offset_in t.offset h.offset)

-- the first and the last nanosecond of a day are moments, in order
first_of_day : (day : ℤ) → IsDayNumber day → IsMoment (day *ℤ pos 86_400_000_000_000)
first_of_day day h = (omega (arith, ints, h.0, h.1), omega (arith, ints, h.0, h.1))

last_of_day : (day : ℤ) → IsDayNumber day → IsMoment ((day +ℤ pos 1) *ℤ pos 86_400_000_000_000 -ℤ pos 1)
last_of_day day h = (omega (arith, ints, h.0, h.1), omega (arith, ints, h.0, h.1))

day_in_order : (day : ℤ) → (day *ℤ pos 86_400_000_000_000) ≤ℤ ((day +ℤ pos 1) *ℤ pos 86_400_000_000_000 -ℤ pos 1)
day_in_order day = omega (arith, ints)

here : (n : ℤ) → IsMoment n → ForSome (Some n) IsMoment
here n h = λ m e. subst IsMoment (same_Some n m e) h

nowhere : ForSome None IsMoment
nowhere = λ m e. absurd (none-some m e)

day_is_interval : (day : ℤ) → IsDayNumber day → IsInterval (day_interval day)
day_is_interval day h = record {
  bounded = refl;
  ordered = day_in_order day;
  start_in = here _ (first_of_day day h);
  end_in = here _ (last_of_day day h);
}

meant_is_interval : (t : IntervalText) → HasDateTimes t → IsInOrder (interval_meant t).start (interval_meant t).end → IsInterval (interval_meant t)
meant_is_interval (Instant a) h o = let m = here _ (date_time_moment a h) in record { bounded = refl; ordered = o; start_in = m; end_in = m }
meant_is_interval (Between a b) h o = record { bounded = refl; ordered = o; start_in = here _ (date_time_moment a h.0); end_in = here _ (date_time_moment b h.1) }
meant_is_interval (Since a open_end) h o = record { bounded = refl; ordered = o; start_in = here _ (date_time_moment a h); end_in = nowhere }
meant_is_interval (Until open_end b) h o = record { bounded = refl; ordered = o; start_in = nowhere; end_in = here _ (date_time_moment b h) }

-- ---- the grammar

ordered_in : (o : Option IntervalValue) (i : IntervalValue) → ordered_ends o ≡ Ok i → IsInOrder i.start i.end
ordered_in None i e = cc
ordered_in (Some j) i e =
    elim (cases_Bool (starts_after j.start j.end)) [
      | inl after ↦ let bad = rw after at e in cc
      | inr fine ↦
          let same : j ≡ i = cc (rw fine at e) in
          subst (λ (x : IntervalValue). IsInOrder x.start x.end) same (not_after j.start j.end fine)
    ] where
      not_after : (start end : Option ℤ) → starts_after start end ≡ false → IsInOrder start end
      not_after None end h = tt
      not_after (Some s) None h = tt
      not_after (Some s) (Some e) h = omega (arith, ints)

interval_text_of : (text : List ℕ) (i : IntervalValue) → interval_of text ≡ Ok i → IsIntervalText text i × IsInterval i
interval_text_of text i e =
    let t = ends_takes text i (ordered_ok (ends_of text) i e) in
    let sound = meant_is_interval t.0 t.1 (subst (λ (x : IntervalValue). IsInOrder x.start x.end) t.3 (ordered_in (ends_of text) i e)) in
    (t, subst IsInterval (sym t.3) sound)

full_date_text_of : (text : List ℕ) (day : ℤ) → full_date_of text ≡ Some day → IsFullDateText text (day_interval day) × IsInterval (day_interval day)
full_date_text_of text day e =
    let t = full_takes text day e in
    (t, subst IsInterval (sym t.5) (day_is_interval _ (day_number t.0 t.1 t.2 t.3)))

text_by : (text : List ℕ) (o : Option ℤ) (i : IntervalValue) → full_date_of text ≡ o → date_or_interval o (interval_of text) ≡ Ok i → IsPropertyText text i × IsInterval i
text_by text None i d e = let found = interval_text_of text i e in (inr found.0, found.1)
text_by text (Some day) i d e =
    let same : day_interval day ≡ i = cc in
    let found = full_date_text_of text day d in
    (inl (subst (IsFullDateText text) same found.0), subst IsInterval same found.1)

-- what a time property's text is read as is what it says, and an interval
pub property_text_of : (text : List ℕ) (i : IntervalValue) → property_of text ≡ Ok i → IsPropertyText text i × IsInterval i
property_text_of text i e = text_by text (full_date_of text) i refl e

-- a text that says an interval whose start is not after its end is read as it
pub property_of_text : (text : List ℕ) (i : IntervalValue) → IsPropertyText text i → IsInOrder i.start i.end → property_of text ≡ Ok i
property_of_text text i (inl x) h =
    let date = full_read text i x in
    ap (λ o. date_or_interval o (interval_of text)) date.1 ∙ ap Ok (sym date.2)
property_of_text text i (inr x) h =
    ap (λ o. date_or_interval o (interval_of text)) (no_date text i x) ∙ (ap ordered_ends (ends_read text i x) ∙ in_order_ends i h)
