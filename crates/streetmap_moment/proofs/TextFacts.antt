-- What is read is spelled that way, and what is spelled that way is read.
use Rattle.std.proofs.Common.{◌≡◌, ◌≢◌, ◌⊎◌, inl, inr, ℕ, ◌+◌, ◌*◌, ◌/◌, ◌%◌, ◌-◌, ◌<◌, ◌≤◌, List, [], ◌∷◌, ◌++◌, length, Option, Some, None, refl, ap, ◌∙◌, sym, arith, true, false, ℤ, pos, neg_ℤ, zero, suc, ◌^◌, lit<, map}
use Rattle.std.specs.Prelude.{option_map, ◌==◌, ◌||◌, nat_lt}
use Rattle.std.specs.Char.{is_ascii_digit}
use Rattle.std.proofs.lemmas.Bool.{cases_Bool}
use Rattle.std.proofs.lemmas.Option.{cond_some, option_and_then_some, some_pair_parts, same_Some, none-some}
use Rattle.std.proofs.lemmas.Grind.{common_steps}
use Rattle.std.proofs.lemmas.Bool.Decides.{nat_tests}
use Rattle.streetmap_moment.specs.DateTimeParts.{◌>>=◌, digit_at, two_digits_at, four_digits_at, below_at, mark_at, day_of, is_date, date_at, clock_at, digits_at, fraction_at, hours_of, offset_of, moment_of, ended}
use Rattle.std.specs.List.{AllByRecursion}
use Rattle.std.proofs.Math.Nat.{one-le-pow}
use Rattle.jiff_core.specs.Calendar.{days_from_civil, days_in_month}
use Rattle.jiff_core.proofs.CalendarLemmas.{days_in_month_bounds}
use Rattle.streetmap_moment.proofs.DigitFacts.{digits_end, digits_full}
use Rattle.std.proofs.Math.Nat.{pow-suc, mul-div_cancel}
use Rattle.streetmap_moment.proofs.DateFacts.{day_is}
use Rattle.streetmap_moment.specs.DateTime.{two_digits, four_digits, IsDay, date_text, clock_text, hour_and_minute, fraction_meant, fraction_text, Offset, Zulu, SmallZulu, East, Spaced, West, IsOffset, offset_text, offset_seconds, DateTime, IsDateTime, date_time_text, moment_meant, nanoseconds, IsMomentText}

-- a chain gives a value only if its first step gives one
pub bind_some : {A B : Type 0} (o : Option A) (f : A → Option B) (y : B) → (o >>= f) ≡ Some y → (x : A) × (o ≡ Some x) × (f x ≡ Some y)
bind_some None f y e = cc
bind_some (Some x) f y e = (x, refl, e)

pub digit_takes : (text : List ℕ) (x : ℕ × List ℕ) → digit_at text ≡ Some x → (text ≡ (48 + x.0) ∷ x.1) × (x.0 < 10)
unfolding digit_at
digit_takes [] x e = cc
digit_takes (b ∷ text) x e = grind (arith, common_steps)

pub digit_again : (n : ℕ) (rest : List ℕ) → n < 10 → digit_at ((48 + n) ∷ rest) ≡ Some (n, rest)
unfolding digit_at
digit_again n rest h = grind (arith, common_steps)

pub two_takes : (text : List ℕ) (x : ℕ × List ℕ) → two_digits_at text ≡ Some x → (text ≡ two_digits x.0 ++ x.1) × (x.0 < 100)
unfolding two_digits_at
two_takes text x e =
    let tens = bind_some (digit_at text) _ x e in
    let ones = bind_some (digit_at tens.0.1) _ x tens.2 in
    let a = digit_takes text tens.0 tens.1 in
    let b = digit_takes tens.0.1 ones.0 ones.1 in
    grind (arith, common_steps, a, b, ones.2)

pub two_again : (n : ℕ) (rest : List ℕ) → n < 100 → two_digits_at (two_digits n ++ rest) ≡ Some (n, rest)
unfolding two_digits_at
two_again n rest h =
    rw (digit_again (n / 10) ((48 + n % 10) ∷ rest) (omega arith), digit_again (n % 10) rest (omega arith)) (ap (λ k. Some (k, rest)) (omega arith))

pub mark_takes : (mark other : ℕ) (text rest : List ℕ) → mark_at mark other text ≡ Some rest → (b : ℕ) × ((b ≡ mark) ⊎ (b ≡ other)) × (text ≡ b ∷ rest)
unfolding mark_at
mark_takes mark other [] rest e = cc
mark_takes mark other (b ∷ text) rest e =
    let parts = cond_some ((b == mark) || (b == other)) text rest e in
    (b, grind (arith, nat_tests, parts.0), ap (λ r. b ∷ r) parts.1)

pub only_mark : (text rest : List ℕ) (mark : ℕ) → mark_at mark mark text ≡ Some rest → text ≡ mark ∷ rest
unfolding mark_at
only_mark [] rest mark e = cc
only_mark (b ∷ text) rest mark e =
    let parts = cond_some ((b == mark) || (b == mark)) text rest e in
    let same : b ≡ mark = grind (arith, nat_tests, parts.0) in
    cc (same, parts.1)

pub mark_again : (mark other b : ℕ) (rest : List ℕ) → (b ≡ mark) ⊎ (b ≡ other) → mark_at mark other (b ∷ rest) ≡ Some rest
unfolding mark_at
mark_again mark other b rest h = grind (arith, common_steps)

-- a chain whose first step gives x continues from x
pub bind_is : {A B : Type 0} (o : Option A) (f : A → Option B) (x : A) (r : Option B) → o ≡ Some x → f x ≡ r → (o >>= f) ≡ r
bind_is o f x r e h = ap (λ k. k >>= f) e ∙ h

pub four_takes : (text : List ℕ) (x : ℕ × List ℕ) → four_digits_at text ≡ Some x → (text ≡ four_digits x.0 ++ x.1) × (x.0 < 10_000)
unfolding four_digits_at
four_takes text x e =
    let high = bind_some (two_digits_at text) _ x e in
    let low = bind_some (two_digits_at high.0.1) _ x high.2 in
    let a = two_takes text high.0 high.1 in
    let b = two_takes high.0.1 low.0 low.1 in
    grind (arith, common_steps, a, b, low.2)

pub four_again : (n : ℕ) (rest : List ℕ) → n < 10_000 → four_digits_at (four_digits n ++ rest) ≡ Some (n, rest)
unfolding four_digits_at
four_again n rest h =
    bind_is _ _ _ _ (two_again (n / 100) (two_digits (n % 100) ++ rest) (omega arith))
    (bind_is _ _ _ _ (two_again (n % 100) rest (omega arith)) (ap (λ k. Some (k, rest)) (omega arith)))

pub below_takes : (limit : ℕ) (text : List ℕ) (x : ℕ × List ℕ) → below_at limit text ≡ Some x → (text ≡ two_digits x.0 ++ x.1) × (x.0 < limit) × (x.0 < 100)
unfolding below_at
below_takes limit text x e =
    let n = bind_some (two_digits_at text) _ x e in
    let a = two_takes text n.0 n.1 in
    let parts = cond_some (nat_lt n.0.0 limit) n.0 x n.2 in
    let small : n.0.0 < limit = grind (arith, nat_tests, parts.0) in
    grind (arith, common_steps, a, parts.1, small)

pub below_again : (limit n : ℕ) (rest : List ℕ) → n < limit → n < 100 → below_at limit (two_digits n ++ rest) ≡ Some (n, rest)
unfolding below_at
below_again limit n rest h small =
    bind_is _ _ _ _ (two_again n rest small) (grind (arith, nat_tests))

-- the calendar's test
pub day_takes : (y m d : ℕ) (z : ℤ) → y < 10_000 → day_of y m d ≡ Some z → IsDay y m d × (z ≡ days_from_civil (pos y) m d)
unfolding day_of
day_takes y m d z h e =
    let parts = cond_some (is_date y m d) (days_from_civil (pos y) m d) z e in
    (record { year = h; month_from = grind (arith, nat_tests, parts.0); month_to = grind (arith, nat_tests, parts.0); day_from = grind (arith, nat_tests, parts.0); day_to = grind (arith, nat_tests, parts.0) }, sym parts.1)

pub day_again : (y m d : ℕ) → IsDay y m d → day_of y m d ≡ Some (days_from_civil (pos y) m d)
day_again y m d h = sym (day_is y m d (pos y) m d refl refl refl h.month_from h.month_to h.day_from h.day_to)

-- a chain gives a value only if its first step gives one
pub via : {A B P : Type 0} (f : A → Option B) (o : Option A) (y : B) → (o >>= f) ≡ Some y → ((x : A) → o ≡ Some x → f x ≡ Some y → P) → P
via f o y e k = option_and_then_some f o y e k

pub date_takes : (text rest : List ℕ) (z : ℤ) → date_at text ≡ Some (z, rest) → (y m d : ℕ) × IsDay y m d × (text ≡ date_text y m d ++ rest) × (z ≡ days_from_civil (pos y) m d)
unfolding date_at
date_takes text rest z e =
    via _ (four_digits_at text) _ e (λ year year_is e.
    via _ (mark_at 45 45 year.1) _ e (λ dash dash_is e.
    via _ (two_digits_at dash) _ e (λ month month_is e.
    via _ (mark_at 45 45 month.1) _ e (λ dash_too dash_too_is e.
    via _ (two_digits_at dash_too) _ e (λ day day_is e.
    via _ (day_of year.0 month.0 day.0) _ e (λ number number_is e.
    let a = four_takes text year year_is in
    let b = only_mark year.1 dash 45 dash_is in
    let c = two_takes dash month month_is in
    let d = only_mark month.1 dash_too 45 dash_too_is in
    let f = two_takes dash_too day day_is in
    let g = day_takes year.0 month.0 day.0 number a.1 number_is in
    let ends = some_pair_parts number z day.1 rest e in
    (year.0, month.0, day.0, g.0, cc (a.0, b, c.0, d, f.0, ends.1), sym ends.0 ∙ g.1)))))))

pub date_again : (y m d : ℕ) (rest : List ℕ) → IsDay y m d → date_at (date_text y m d ++ rest) ≡ Some (days_from_civil (pos y) m d, rest)
unfolding date_at
date_again y m d rest h =
    let month_small : m < 100 = omega (arith, h.month_to) in
    let month_days : days_in_month (pos y) m ≤ 31 = (days_in_month_bounds (pos y) m).0 in
    let day_small : d < 100 = omega (arith, h.day_to) in
    bind_is _ _ _ _ (four_again y (45 ∷ two_digits m ++ 45 ∷ two_digits d ++ rest) h.year)
    (bind_is _ _ _ _ (mark_again 45 45 45 (two_digits m ++ 45 ∷ two_digits d ++ rest) (inl refl))
    (bind_is _ _ _ _ (two_again m (45 ∷ two_digits d ++ rest) month_small)
    (bind_is _ _ _ _ (mark_again 45 45 45 (two_digits d ++ rest) (inl refl))
    (bind_is _ _ _ _ (two_again d rest day_small)
    (bind_is _ _ _ _ (day_again y m d h) refl)))))

pub clock_takes : (text rest : List ℕ) (n : ℕ) → clock_at text ≡ Some (n, rest) → (h m s : ℕ) × (h < 24) × (m < 60) × (s < 60) × (text ≡ clock_text h m s ++ rest) × (n ≡ h * 3600 + m * 60 + s)
unfolding clock_at
clock_takes text rest n e =
    via _ (below_at 24 text) _ e (λ hour hour_is e.
    via _ (mark_at 58 58 hour.1) _ e (λ colon colon_is e.
    via _ (below_at 60 colon) _ e (λ minute minute_is e.
    via _ (mark_at 58 58 minute.1) _ e (λ colon_too colon_too_is e.
    via _ (below_at 60 colon_too) _ e (λ second second_is e.
    let a = below_takes 24 text hour hour_is in
    let b = only_mark hour.1 colon 58 colon_is in
    let c = below_takes 60 colon minute minute_is in
    let d = only_mark minute.1 colon_too 58 colon_too_is in
    let f = below_takes 60 colon_too second second_is in
    let ends = some_pair_parts (hour.0 * 3600 + minute.0 * 60 + second.0) n second.1 rest e in
    (hour.0, minute.0, second.0, a.1, c.1, f.1, cc (a.0, b, c.0, d, f.0, ends.1), sym ends.0))))))

pub clock_again : (h m s : ℕ) (rest : List ℕ) → h < 24 → m < 60 → s < 60 → clock_at (clock_text h m s ++ rest) ≡ Some (h * 3600 + m * 60 + s, rest)
unfolding clock_at
clock_again h m s rest a b c =
    bind_is _ _ _ _ (below_again 24 h (58 ∷ two_digits m ++ 58 ∷ two_digits s ++ rest) a (omega arith))
    (bind_is _ _ _ _ (mark_again 58 58 58 (two_digits m ++ 58 ∷ two_digits s ++ rest) (inl refl))
    (bind_is _ _ _ _ (below_again 60 m (58 ∷ two_digits s ++ rest) b (omega arith))
    (bind_is _ _ _ _ (mark_again 58 58 58 (two_digits s ++ rest) (inl refl))
    (bind_is _ _ _ _ (below_again 60 s rest c (omega arith)) refl))))

ended_takes : (n : ℕ) (rest : List ℕ) (m : ℕ) → ended (n, rest) ≡ Some m → (rest ≡ []) × (m ≡ n)
ended_takes n [] m e = (refl, grind (arith, common_steps))
ended_takes n (b ∷ rest) m e = cc

pub hours_takes : (text : List ℕ) (n : ℕ) → hours_of text ≡ Some n → (h m : ℕ) × (h < 24) × (m < 60) × (text ≡ hour_and_minute h m) × (n ≡ h * 3600 + m * 60)
unfolding hours_of
hours_takes text n e =
    via _ (below_at 24 text) _ e (λ hour hour_is e.
    via _ (mark_at 58 58 hour.1) _ e (λ colon colon_is e.
    via _ (below_at 60 colon) _ e (λ minute minute_is e.
    let a = below_takes 24 text hour hour_is in
    let b = only_mark hour.1 colon 58 colon_is in
    let c = below_takes 60 colon minute minute_is in
    let ends = ended_takes (hour.0 * 3600 + minute.0 * 60) minute.1 n e in
    (hour.0, minute.0, a.1, c.1, cc (a.0, b, c.0, ends.0), ends.1))))

pub hours_again : (h m : ℕ) → h < 24 → m < 60 → hours_of (hour_and_minute h m) ≡ Some (h * 3600 + m * 60)
unfolding hours_of
hours_again h m a b =
    bind_is _ _ _ _ (below_again 24 h (58 ∷ two_digits m) a (omega arith))
    (bind_is _ _ _ _ (mark_again 58 58 58 (two_digits m) (inl refl))
    (bind_is _ _ _ _ (below_again 60 m [] b (omega arith)) refl))

-- ---- the fraction

-- the weight of the first of k digits, if the weight of the last is 1
abbrev pub unit_of : ℕ → ℕ
unit_of zero = 0
unit_of (suc k) = 10 ^ k

unit_tenth : (k : ℕ) → unit_of (suc k) / 10 ≡ unit_of k
unit_tenth zero = refl
unit_tenth (suc k) = rw (pow-suc 10 k) (mul-div_cancel (10 ^ k) (lit< tt))

unit_positive : (k : ℕ) → 0 < unit_of (suc k)
unit_positive k = omega (arith, one-le-pow k 10 (lit< tt))

digit_is : (b : ℕ) (text : List ℕ) → is_ascii_digit b ≡ true → digit_at (b ∷ text) ≡ Some (b - 48, text)
unfolding digit_at
digit_is b text h = rw h refl

digit_not : (b : ℕ) (text : List ℕ) → is_ascii_digit b ≡ false → digit_at (b ∷ text) ≡ None
unfolding digit_at
digit_not b text h = rw h refl

digit_test : (b : ℕ) (text : List ℕ) (x : ℕ × List ℕ) → digit_at (b ∷ text) ≡ Some x → is_ascii_digit b ≡ true
unfolding digit_at
digit_test b text x e = (cond_some (is_ascii_digit b) (b - 48, text) x e).0

-- a digit, and those after it
digits_more : (k b : ℕ) (text : List ℕ) → is_ascii_digit b ≡ true → digits_at (unit_of (suc k)) (b ∷ text) ≡ (digits_at (unit_of k) text >>= λ x. Some ((b - 48) * unit_of (suc k) + x.0, x.1))
unfolding digits_at
digits_more k b text h =
    let positive : (unit_of (suc k) == 0) ≡ false = grind (arith, nat_tests, unit_positive k) in
    rw (h, positive, ← unit_tenth k) refl

pub digits_takes : (k : ℕ) (text rest : List ℕ) (n : ℕ) → digits_at (unit_of k) text ≡ Some (n, rest) → (ds : List ℕ) × AllByRecursion (λ d. d < 10) ds × (length ds ≤ k) × (text ≡ map (λ d. 48 + d) ds ++ rest) × (n ≡ fraction_meant (unit_of k) ds)
unfolding digits_at
digits_takes k [] rest n e =
    let ends = some_pair_parts 0 n [] rest e in
    ([], tt, omega arith, ends.1, sym ends.0)
digits_takes zero (b ∷ text) rest n e =
    elim (cases_Bool (is_ascii_digit b)) [
      | inl is_it ↦ let bad : digits_at 0 (b ∷ text) ≡ None = digits_full (b ∷ text) (b - 48) text (digit_is b text is_it) in cc
      | inr is_not ↦
          let stop = digits_end 0 (b ∷ text) (digit_not b text is_not) in
          let ends = some_pair_parts 0 n (b ∷ text) rest (sym stop ∙ e) in
          ([], tt, omega arith, ends.1, sym ends.0)
    ]
digits_takes (suc k) (b ∷ text) rest n e =
    elim (cases_Bool (is_ascii_digit b)) [
      | inl is_it ↦
          via _ (digits_at (unit_of k) text) _ (sym (digits_more k b text is_it) ∙ e) (λ x x_is e.
          let more = digits_takes k text x.1 x.0 x_is in
          let ends = some_pair_parts ((b - 48) * unit_of (suc k) + x.0) n x.1 rest e in
          let byte = digit_takes (b ∷ text) (b - 48, text) (digit_is b text is_it) in
          let same : fraction_meant (unit_of (suc k) / 10) more.0 ≡ fraction_meant (unit_of k) more.0 = ap (λ p. fraction_meant p more.0) (unit_tenth k) in
          ((b - 48) ∷ more.0, (byte.1, more.1), omega (arith, more.2), cc (byte.0, more.3, ends.1), sym ends.0 ∙ ap (λ m. (b - 48) * unit_of (suc k) + m) (more.4 ∙ sym same)))
      | inr is_not ↦
          let stop = digits_end (unit_of (suc k)) (b ∷ text) (digit_not b text is_not) in
          let ends = some_pair_parts 0 n (b ∷ text) rest (sym stop ∙ e) in
          ([], tt, omega arith, ends.1, sym ends.0)
    ]

pub digits_again : (k : ℕ) (ds rest : List ℕ) → AllByRecursion (λ d. d < 10) ds → length ds ≤ k → digit_at rest ≡ None → digits_at (unit_of k) (map (λ d. 48 + d) ds ++ rest) ≡ Some (fraction_meant (unit_of k) ds, rest)
digits_again k [] rest all few stop = digits_end (unit_of k) rest stop
digits_again zero (d ∷ ds) rest all few stop = absurd (omega arith)
digits_again (suc k) (d ∷ ds) rest all few stop =
    let text = map (λ d. 48 + d) ds ++ rest in
    let read = digit_again d text all.0 in
    let is_digit = digit_test (48 + d) text (d, text) read in
    let fewer : length ds ≤ k = omega (arith, few) in
    let more = digits_again k ds rest all.1 fewer stop in
    let same : 48 + d - 48 ≡ d = omega arith in
    digits_more k (48 + d) text is_digit ∙ bind_is _ _ _ _ more (rw (same, unit_tenth k) refl)

-- the text does not begin with a point
abbrev IsNoPoint : List ℕ → Type 0
IsNoPoint [] = Unit {0}
IsNoPoint (b ∷ rest) = b ≢ 46

pub fraction_takes : (text rest : List ℕ) (n : ℕ) → fraction_at text ≡ Some (n, rest) → (ds : List ℕ) × AllByRecursion (λ d. d < 10) ds × (length ds ≤ 9) × (text ≡ fraction_text ds ++ rest) × (n ≡ fraction_meant 100_000_000 ds)
unfolding fraction_at
fraction_takes [] rest n e =
    let ends = some_pair_parts 0 n [] rest e in
    ([], tt, omega arith, ends.1, sym ends.0)
fraction_takes (b ∷ text) rest n e =
    elim (cases_Bool (b == 46)) [
      | inl is_it ↦
          let read = rw is_it at e in
          let point : b ≡ 46 = grind (arith, nat_tests, is_it) in
          via _ (digit_at text) _ read (λ x x_is e.
          via _ (digits_at 10_000_000 x.1) _ e (λ y y_is e.
          let first = digit_takes text x x_is in
          let more = digits_takes 8 x.1 y.1 y.0 y_is in
          let ends = some_pair_parts (x.0 * 100_000_000 + y.0) n y.1 rest e in
          (x.0 ∷ more.0, (first.1, more.1), omega (arith, more.2), cc (point, first.0, more.3, ends.1), sym ends.0 ∙ ap (λ m. x.0 * 100_000_000 + m) more.4)))
      | inr is_not ↦
          let read = rw is_not at e in
          let ends = some_pair_parts 0 n (b ∷ text) rest read in
          ([], tt, omega arith, ends.1, sym ends.0)
    ]

pub fraction_again : (ds rest : List ℕ) → AllByRecursion (λ d. d < 10) ds → length ds ≤ 9 → digit_at rest ≡ None → IsNoPoint rest → fraction_at (fraction_text ds ++ rest) ≡ Some (fraction_meant 100_000_000 ds, rest)
unfolding fraction_at
fraction_again [] [] all few stop no_point = refl
fraction_again [] (b ∷ rest) all few stop no_point =
    let other : (b == 46) ≡ false = grind (arith, nat_tests, no_point) in
    rw other refl
fraction_again (d ∷ ds) rest all few stop no_point =
    let fewer : length ds ≤ 8 = omega (arith, few) in
    bind_is _ _ _ _ (digit_again d (map (λ d. 48 + d) ds ++ rest) all.0)
    (bind_is _ _ _ _ (digits_again 8 ds rest all.1 fewer stop) refl)

pub ended_takes_int : (n : ℤ) (rest : List ℕ) (m : ℤ) → ended (n, rest) ≡ Some m → (rest ≡ []) × (m ≡ n)
ended_takes_int n [] m e = (refl, sym (same_Some n m e))
ended_takes_int n (b ∷ rest) m e = cc

pub option_map_some : {A B P : Type 0} (f : A → B) (o : Option A) (y : B) → option_map f o ≡ Some y → ((x : A) → o ≡ Some x → y ≡ f x → P) → P
option_map_some f None y e k = absurd (none-some y e)
option_map_some f (Some x) y e k = k x refl (sym (same_Some (f x) y e))

pub offset_takes : (text : List ℕ) (z : ℤ) → offset_of text ≡ Some z → (o : Offset) × IsOffset o × (text ≡ offset_text o) × (z ≡ offset_seconds o)
unfolding offset_of
offset_takes [] z e = cc
offset_takes (b ∷ text) z e =
    elim (cases_Bool ((b == 90) || (b == 122))) [
      | inl is_it ↦
          let ends = ended_takes_int (pos 0) text z (rw is_it at e) in
          elim (cases_Bool (b == 90)) [
            | inl is_big ↦ let byte : b ≡ 90 = grind (arith, nat_tests, is_big) in (Zulu, tt, cc (byte, ends.0), ends.1)
            | inr is_not ↦ let byte : b ≡ 122 = grind (arith, nat_tests, is_it, is_not) in (SmallZulu, tt, cc (byte, ends.0), ends.1)
          ]
      | inr is_not ↦ let e1 = rw is_not at e in
          elim (cases_Bool ((b == 43) || (b == 32))) [
            | inl is_it ↦
                let e2 = rw is_it at e1 in
                option_map_some pos (hours_of text) z e2 (λ n n_is z_is.
                let t = hours_takes text n n_is in
                elim (cases_Bool (b == 43)) [
                  | inl is_plus ↦ let byte : b ≡ 43 = grind (arith, nat_tests, is_plus) in (East t.0 t.1, (t.2, t.3), cc (byte, t.4), z_is ∙ ap pos t.5)
                  | inr is_none ↦ let byte : b ≡ 32 = grind (arith, nat_tests, is_it, is_none) in (Spaced t.0 t.1, (t.2, t.3), cc (byte, t.4), z_is ∙ ap pos t.5)
                ])
            | inr is_none ↦
                let e2 = rw is_none at e1 in
                elim (cases_Bool (b == 45)) [
                  | inl is_minus ↦
                      let byte : b ≡ 45 = grind (arith, nat_tests, is_minus) in
                      option_map_some (λ n. neg_ℤ (pos n)) (hours_of text) z (rw is_minus at e2) (λ n n_is z_is.
                      let t = hours_takes text n n_is in
                      (West t.0 t.1, (t.2, t.3), cc (byte, t.4), z_is ∙ ap (λ n. neg_ℤ (pos n)) t.5))
                  | inr is_nothing ↦ let bad = rw is_nothing at e2 in cc
                ]
          ]
    ]

pub offset_again : (o : Offset) → IsOffset o → offset_of (offset_text o) ≡ Some (offset_seconds o)
unfolding offset_of
offset_again Zulu h = refl
offset_again SmallZulu h = refl
offset_again (East h m) v = rw (hours_again h m v.0 v.1) refl
offset_again (Spaced h m) v = rw (hours_again h m v.0 v.1) refl
offset_again (West h m) v = rw (hours_again h m v.0 v.1) refl

offset_no_digit : (o : Offset) → digit_at (offset_text o) ≡ None
unfolding digit_at
offset_no_digit Zulu = refl
offset_no_digit SmallZulu = refl
offset_no_digit (East h m) = refl
offset_no_digit (Spaced h m) = refl
offset_no_digit (West h m) = refl

offset_no_point : (o : Offset) → IsNoPoint (offset_text o)
offset_no_point Zulu = omega arith
offset_no_point SmallZulu = omega arith
offset_no_point (East h m) = omega arith
offset_no_point (Spaced h m) = omega arith
offset_no_point (West h m) = omega arith

-- what is read is spelled that way
pub moment_takes : (text : List ℕ) (n : ℤ) → moment_of text ≡ Some n → IsMomentText text n
unfolding moment_of
moment_takes text n e =
    via _ (date_at text) _ e (λ day day_is e.
    via _ (mark_at 84 116 day.1) _ e (λ following after_is e.
    via _ (clock_at following) _ e (λ clock clock_is e.
    via _ (fraction_at clock.1) _ e (λ fraction fraction_is e.
    via _ (offset_of fraction.1) _ e (λ offset offset_is e.
    let a = date_takes text day.1 day.0 day_is in
    let b = mark_takes 84 116 day.1 following after_is in
    let c = clock_takes following clock.1 clock.0 clock_is in
    let d = fraction_takes clock.1 fraction.1 fraction.0 fraction_is in
    let f = offset_takes fraction.1 offset offset_is in
    let ends = same_Some (nanoseconds day.0 clock.0 fraction.0 offset) n e in (
      record { year = a.0; month = a.1; day = a.2; separator = b.0; hour = c.0; minute = c.1; second = c.2; fraction = d.0; offset = f.0 },
      record { date = a.3; separator = b.1; hour = c.3; minute = c.4; second = c.5; digits = d.1; at_most_nine = d.2; offset = f.1 },
      cc (a.4, b.2, c.6, d.3, f.2),
      cc (ends, a.5, c.7, d.4, f.3),
    ))))))

-- what is spelled that way is read
pub moment_again : (t : DateTime) → IsDateTime t → moment_of (date_time_text t) ≡ Some (moment_meant t)
unfolding moment_of
moment_again t h =
    let zone = offset_text t.offset in
    let fraction = fraction_text t.fraction ++ zone in
    let clock = clock_text t.hour t.minute t.second ++ fraction in
    bind_is _ _ _ _ (date_again t.year t.month t.day (t.separator ∷ clock) h.date)
    (bind_is _ _ _ _ (mark_again 84 116 t.separator clock h.separator)
    (bind_is _ _ _ _ (clock_again t.hour t.minute t.second fraction h.hour h.minute h.second)
    (bind_is _ _ _ _ (fraction_again t.fraction zone h.digits h.at_most_nine (offset_no_digit t.offset) (offset_no_point t.offset))
    (bind_is _ _ _ _ (offset_again t.offset h.offset) refl))))
