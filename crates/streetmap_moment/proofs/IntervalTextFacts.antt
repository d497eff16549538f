-- What is read as an interval is spelled that way, and what is spelled that way is read.
use Rattle.std.proofs.Common.{◌≡◌, ◌≢◌, ◌⊎◌, inl, inr, ℕ, suc, ◌+◌, ◌/◌, ◌%◌, ◌<◌, List, [], ◌∷◌, ◌++◌, length, take, drop, Option, Some, None, refl, ap, ◌∙◌, sym, arith, true, false, ℤ, map}
use Rattle.std.specs.Prelude.{option_map, ◌==◌, ◌||◌, not, codes}
use Rattle.std.specs.Str.{bytes_eq}
use Rattle.std.specs.List.{AllByRecursion, position_or_len, before_first, after_first}
use Rattle.std.proofs.lemmas.Bool.{cases_Bool, eqb-true, eq-eqb}
use Rattle.std.proofs.lemmas.Bool.Decides.{nat_tests, not_from_Decides, Decides-eqb}
use Rattle.std.proofs.lemmas.Slice.Eq.{bytes_eq-Decides}
use Rattle.std.proofs.lemmas.Option.{same_Some, none-some}
use Rattle.std.proofs.lemmas.List.{length-append}
use Rattle.std.proofs.lemmas.List.Sums.{split_at_first, passes_at_first, prefix_len-le-length}
use Rattle.std.proofs.Math.Seq.{take-append_seam, drop-append-add}
use Rattle.std.specs.Prelude.{get_or}
use Rattle.streetmap_moment.specs.DateTime.{two_digits, four_digits, date_text, clock_text, fraction_text, offset_text, Offset, Zulu, SmallZulu, East, Spaced, West, DateTime, IsDateTime, date_time_text, moment_meant, IsMomentText}
use Rattle.streetmap_moment.specs.IntervalText.{OpenEnd, Dots, Nothing, IntervalText, Instant, Between, Since, Until, open_text, interval_text, HasDateTimes, interval_meant, IsIntervalText}
use Rattle.streetmap_moment.specs.IntervalValue.{IntervalValue}
use Rattle.streetmap_moment.specs.Intervals.{is_slash, end_of, bounded, ends_of}
use Rattle.streetmap_moment.specs.DateTimeParts.{moment_of}
use Rattle.streetmap_moment.proofs.TextFacts.{bind_is, via, option_map_some, moment_takes, moment_again}

-- ---- no date-time has a slash in it

abbrev HasNoSlash : List ℕ → Type 0
HasNoSlash text = AllByRecursion (λ b. b ≢ 47) text

no_slash-append : (xs ys : List ℕ) → HasNoSlash xs → HasNoSlash ys → HasNoSlash (xs ++ ys)
no_slash-append [] ys h k = k
no_slash-append (x ∷ xs) ys h k = (h.0, no_slash-append xs ys h.1 k)

digit_no_slash : (n : ℕ) → 48 + n ≢ 47
digit_no_slash n h = absurd (omega arith)

two_no_slash : (n : ℕ) → HasNoSlash (two_digits n)
two_no_slash n = (digit_no_slash (n / 10), (digit_no_slash (n % 10), tt))

four_no_slash : (n : ℕ) → HasNoSlash (four_digits n)
four_no_slash n = no_slash-append (two_digits (n / 100)) (two_digits (n % 100)) (two_no_slash (n / 100)) (two_no_slash (n % 100))

joined_no_slash : (mark : ℕ) (xs ys : List ℕ) → mark ≢ 47 → HasNoSlash xs → HasNoSlash ys → HasNoSlash (xs ++ mark ∷ ys)
joined_no_slash mark xs ys e h k = no_slash-append xs (mark ∷ ys) h (e, k)

date_no_slash : (y m d : ℕ) → HasNoSlash (date_text y m d)
date_no_slash y m d =
    joined_no_slash 45 (four_digits y ++ 45 ∷ two_digits m) (two_digits d) (λ h. absurd (omega arith))
    (joined_no_slash 45 (four_digits y) (two_digits m) (λ h. absurd (omega arith)) (four_no_slash y) (two_no_slash m)) (two_no_slash d)

clock_no_slash : (h m s : ℕ) → HasNoSlash (clock_text h m s)
clock_no_slash h m s =
    joined_no_slash 58 (two_digits h ++ 58 ∷ two_digits m) (two_digits s) (λ e. absurd (omega arith))
    (joined_no_slash 58 (two_digits h) (two_digits m) (λ e. absurd (omega arith)) (two_no_slash h) (two_no_slash m)) (two_no_slash s)

digits_no_slash : (ds : List ℕ) → HasNoSlash (map (λ n. 48 + n) ds)
digits_no_slash [] = tt
digits_no_slash (d ∷ ds) = (digit_no_slash d, digits_no_slash ds)

fraction_no_slash : (ds : List ℕ) → HasNoSlash (fraction_text ds)
fraction_no_slash [] = tt
fraction_no_slash (d ∷ ds) = (λ h. absurd (omega arith), digits_no_slash (d ∷ ds))

hours_no_slash : (mark h m : ℕ) → mark ≢ 47 → HasNoSlash (mark ∷ (two_digits h ++ 58 ∷ two_digits m))
hours_no_slash mark h m e = (e, joined_no_slash 58 (two_digits h) (two_digits m) (λ k. absurd (omega arith)) (two_no_slash h) (two_no_slash m))

offset_no_slash : (o : Offset) → HasNoSlash (offset_text o)
offset_no_slash Zulu = (λ h. absurd (omega arith), tt)
offset_no_slash SmallZulu = (λ h. absurd (omega arith), tt)
offset_no_slash (East h m) = hours_no_slash 43 h m (λ k. absurd (omega arith))
offset_no_slash (Spaced h m) = hours_no_slash 32 h m (λ k. absurd (omega arith))
offset_no_slash (West h m) = hours_no_slash 45 h m (λ k. absurd (omega arith))

mark_no_slash : (mark : ℕ) → (mark ≡ 84) ⊎ (mark ≡ 116) → mark ≢ 47
mark_no_slash mark (inl e) h = absurd (omega arith)
mark_no_slash mark (inr e) h = absurd (omega arith)

moment_no_slash : (t : DateTime) → IsDateTime t → HasNoSlash (date_time_text t)
moment_no_slash t v =
    let clock = t.separator ∷ clock_text t.hour t.minute t.second in
    let front = date_text t.year t.month t.day ++ clock in
    no_slash-append (front ++ fraction_text t.fraction) (offset_text t.offset)
    (no_slash-append front (fraction_text t.fraction)
    (no_slash-append (date_text t.year t.month t.day) clock (date_no_slash t.year t.month t.day) (mark_no_slash t.separator v.separator, clock_no_slash t.hour t.minute t.second))
    (fraction_no_slash t.fraction))
    (offset_no_slash t.offset)

-- ---- a text is cut at its first slash

no_slash_position : (xs : List ℕ) → HasNoSlash xs → position_or_len is_slash xs ≡ length xs
no_slash_position [] h = refl
no_slash_position (x ∷ xs) h =
    let other : (x == 47) ≡ false = grind (arith, nat_tests, h.0) in
    rw (other, no_slash_position xs h.1) (omega arith)

slash_position : (xs ys : List ℕ) → HasNoSlash xs → position_or_len is_slash (xs ++ 47 ∷ ys) ≡ length xs
slash_position [] ys h = refl
slash_position (x ∷ xs) ys h =
    let other : (x == 47) ≡ false = grind (arith, nat_tests, h.0) in
    rw (other, slash_position xs ys h.1) (omega arith)

slash_before : (xs ys : List ℕ) → HasNoSlash xs → before_first is_slash (xs ++ 47 ∷ ys) ≡ xs
slash_before xs ys h = ap (λ k. take k (xs ++ 47 ∷ ys)) (slash_position xs ys h) ∙ take-append_seam xs (47 ∷ ys)

slash_after : (xs ys : List ℕ) → HasNoSlash xs → after_first is_slash (xs ++ 47 ∷ ys) ≡ ys
slash_after xs ys h = ap (λ k. drop (k + 1) (xs ++ 47 ∷ ys)) (slash_position xs ys h) ∙ drop-append-add xs (47 ∷ ys) 1

slash_there : (xs ys : List ℕ) → HasNoSlash xs → (position_or_len is_slash (xs ++ 47 ∷ ys) == length (xs ++ 47 ∷ ys)) ≡ false
slash_there xs ys h =
    let at = slash_position xs ys h in
    let long = length-append xs (47 ∷ ys) in
    let less : position_or_len is_slash (xs ++ 47 ∷ ys) < length (xs ++ 47 ∷ ys) = omega arith in
    grind (arith, nat_tests, less)

slash_takes : (text : List ℕ) → (position_or_len is_slash text == length text) ≡ false → text ≡ before_first is_slash text ++ 47 ∷ after_first is_slash text
slash_takes text h =
    let most = prefix_len-le-length (λ x. not (is_slash x)) text in
    let apart = not_from_Decides _ (Decides-eqb (position_or_len is_slash text) (length text)) h in
    let less : position_or_len is_slash text < length text = omega arith in
    let byte : get_or text (position_or_len is_slash text) 0 ≡ 47 = eqb-true _ _ (passes_at_first is_slash text 0 less) in
    split_at_first is_slash text 0 less ∙ ap (λ b. before_first is_slash text ++ b ∷ after_first is_slash text) byte

-- ---- an end

end_open : (open_end : OpenEnd) → end_of (open_text open_end) ≡ Some None
end_open Dots = refl
end_open Nothing = refl

front_not_open : (n : ℕ) (rest : List ℕ) → ((length ((48 + n) ∷ rest) == 0) || bytes_eq ((48 + n) ∷ rest) (codes "..")) ≡ false
front_not_open n rest =
    let other : (48 + n == 46) ≡ false = grind (arith, nat_tests) in
    let some : (suc (length rest) == 0) ≡ false = grind (arith, nat_tests) in
    rw (other, some) refl

moment_not_open : (t : DateTime) → ((length (date_time_text t) == 0) || bytes_eq (date_time_text t) (codes "..")) ≡ false
moment_not_open t = front_not_open (t.year / 100 / 10) (drop 1 (date_time_text t))

end_moment : (t : DateTime) → IsDateTime t → end_of (date_time_text t) ≡ Some (Some (moment_meant t))
end_moment t v = rw (moment_not_open t, moment_again t v) refl

-- what an end that was read is
abbrev IsEnd : List ℕ → Option ℤ → Type 0
IsEnd text None = (open_end : OpenEnd) × (text ≡ open_text open_end)
IsEnd text (Some n) = IsMomentText text n

empty_is : (text : List ℕ) → (length text == 0) ≡ true → text ≡ []
empty_is [] h = refl
empty_is (b ∷ text) h = let none : suc (length text) ≡ 0 = eqb-true _ _ h in absurd (omega arith)

open_is : (text : List ℕ) (end : Option ℤ) (open_end : OpenEnd) → text ≡ open_text open_end → Some None ≡ Some end → IsEnd text end
open_is text None open_end e h = (open_end, e)
open_is text (Some n) open_end e h = cc

moment_is : (text : List ℕ) (end : Option ℤ) → option_map Some (moment_of text) ≡ Some end → IsEnd text end
moment_is text None e = option_map_some Some (moment_of text) None e (λ x x_is end_is. absurd (none-some x end_is))
moment_is text (Some n) e = option_map_some Some (moment_of text) (Some n) e (λ x x_is end_is. moment_takes text n (x_is ∙ sym end_is))

end_takes : (text : List ℕ) (end : Option ℤ) → end_of text ≡ Some end → IsEnd text end
end_takes text end e =
    elim (cases_Bool (length text == 0)) [
      | inl none ↦ open_is text end Nothing (empty_is text none) (rw none at e)
      | inr some ↦ elim (cases_Bool (bytes_eq text (codes ".."))) [
        | inl dots ↦ open_is text end Dots ((bytes_eq-Decides text (codes "..")).0 dots) (rw (some, dots) at e)
        | inr other ↦ moment_is text end (rw (some, other) at e)
      ]
    ]

-- ---- both ends

interval : Option ℤ → Option ℤ → IntervalValue
interval start end = record { start = start; end = end }

both_takes : (text front back : List ℕ) (start end : Option ℤ) (i : IntervalValue) → text ≡ front ++ 47 ∷ back → IsEnd front start → IsEnd back end → bounded start end ≡ Some i → IsIntervalText text i
unfolding interval
both_takes text front back None None i h a b e = absurd (none-some i e)
both_takes text front back (Some s) None i h a b e =
    (Since a.0 b.0, a.1, cc (h, a.2, b.1), sym (same_Some (interval (Some s) None) i e) ∙ ap (λ n. interval (Some n) None) a.3)
both_takes text front back None (Some n) i h a b e =
    (Until a.0 b.0, b.1, cc (h, a.1, b.2), sym (same_Some (interval None (Some n)) i e) ∙ ap (λ k. interval None (Some k)) b.3)
both_takes text front back (Some s) (Some n) i h a b e =
    (Between a.0 b.0, (a.1, b.1), cc (h, a.2, b.2), sym (same_Some (interval (Some s) (Some n)) i e) ∙ (ap (λ k. interval (Some k) (Some n)) a.3 ∙ ap (λ k. interval (Some (moment_meant a.0)) (Some k)) b.3))

-- what is read is spelled that way
pub ends_takes : (text : List ℕ) (i : IntervalValue) → ends_of text ≡ Some i → IsIntervalText text i
unfolding ends_of interval
ends_takes text i e =
    elim (cases_Bool (position_or_len is_slash text == length text)) [
      | inl whole ↦
          via _ (moment_of text) _ (rw whole at e) (λ m m_is e.
          let t = moment_takes text m m_is in
          (Instant t.0, t.1, t.2, sym (same_Some (interval (Some m) (Some m)) i e) ∙ ap (λ n. interval (Some n) (Some n)) t.3))
      | inr cut ↦
          via _ (end_of (before_first is_slash text)) _ (rw cut at e) (λ start start_is e.
          via _ (end_of (after_first is_slash text)) _ e (λ end end_is e.
          both_takes text _ _ start end i (slash_takes text cut) (end_takes _ start start_is) (end_takes _ end end_is) e))
    ]

both_again : (front back : List ℕ) (start end : Option ℤ) → HasNoSlash front → end_of front ≡ Some start → end_of back ≡ Some end → ends_of (front ++ 47 ∷ back) ≡ bounded start end
unfolding ends_of
both_again front back start end h a b =
    rw (slash_there front back h)
    (bind_is _ _ start _ (ap end_of (slash_before front back h) ∙ a)
    (bind_is _ _ end _ (ap end_of (slash_after front back h) ∙ b) refl))

open_no_slash : (open_end : OpenEnd) → HasNoSlash (open_text open_end)
open_no_slash Dots = (λ h. absurd (omega arith), (λ h. absurd (omega arith), tt))
open_no_slash Nothing = tt

instant_again : (a : DateTime) → IsDateTime a → ends_of (date_time_text a) ≡ Some (interval_meant (Instant a))
unfolding ends_of
instant_again a v =
    let whole : (position_or_len is_slash (date_time_text a) == length (date_time_text a)) ≡ true = eq-eqb _ _ (no_slash_position (date_time_text a) (moment_no_slash a v)) in
    rw (whole, moment_again a v) refl

-- what is spelled that way is read
pub ends_again : (t : IntervalText) → HasDateTimes t → ends_of (interval_text t) ≡ Some (interval_meant t)
ends_again (Instant a) v = instant_again a v
ends_again (Between a b) v = both_again (date_time_text a) (date_time_text b) _ _ (moment_no_slash a v.0) (end_moment a v.0) (end_moment b v.1)
ends_again (Since a open_end) v = both_again (date_time_text a) (open_text open_end) _ _ (moment_no_slash a v) (end_moment a v) (end_open open_end)
ends_again (Until open_end b) v = both_again (open_text open_end) (date_time_text b) _ _ (open_no_slash open_end) (end_open open_end) (end_moment b v)

pub ends_read : (text : List ℕ) (i : IntervalValue) → IsIntervalText text i → ends_of text ≡ Some i
ends_read text i x = ap ends_of x.2 ∙ (ends_again x.0 x.1 ∙ ap Some (sym x.3))
