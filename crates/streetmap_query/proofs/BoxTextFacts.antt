-- A box is read from its texts, and from no others.
use Rattle.std.proofs.Common.{◌≡◌, ℕ, ◌+◌, ◌*◌, ◌-◌, ◌<◌, ◌≤◌, ◌^◌, List, [], ◌∷◌, ◌++◌, length, replicate, Option, Some, None, refl, ap, ◌∙◌, sym, arith, true, false, Bool, inl, inr, zero, suc, ℤ, pos, negsuc, neg_ℤ, subst, decimal}
use Rattle.std.specs.Prelude.{◌==◌, ◌&&◌, nat_le, int_le, ◌≤ℤ◌, option_map, IfSome}
use Rattle.std.specs.Char.{is_ascii_digit, digit_value}
use Rattle.std.specs.Fmt.{signed_decimal}
use Rattle.std.specs.Str.{all_ascii_digits}
use Rattle.std.specs.Str.Parse.{digits_value, digits_value_after}
use Rattle.std.proofs.lemmas.Bool.{cases_Bool}
use Rattle.std.proofs.lemmas.Bool.Decides.{nat_tests}
use Rattle.std.proofs.lemmas.Fmt.{digits_decimal, digits_value-decimal, decimal_nonempty, length-decimal-le}
use Rattle.std.proofs.lemmas.Grind.{common_steps}
use Rattle.std.proofs.lemmas.Int.{ints}
use Rattle.std.proofs.lemmas.List.{append_assoc, append-nil}
use Rattle.std.proofs.lemmas.Option.{cond_some, option_and_then_some, some_pair_parts, same_Some, none-some}
use Rattle.std.proofs.lemmas.Str.Parse.{IsNumeralModel, numerals_by_value, tells_all_ascii_digits}
use Rattle.streetmap_grid.specs.declared.grid_box.GridBox.{GridBox}
use Rattle.streetmap_grid.specs.Range.{IsBound}
use Rattle.streetmap_grid.specs.Values.{BoxValue}
use Rattle.streetmap_grid.specs.Views.{box_value}
use Rattle.streetmap_grid.specs.WellFormed.{IsBox}
use Rattle.streetmap_query.specs.Box.{box_of, box_text}
use Rattle.streetmap_query.specs.BoxText.{NumberText, HasFewDigits, zeros_spelled, number_spelled, signed, number_meant, IsBoxText}
use Rattle.streetmap_query.specs.Number.{digit_at, digits_at, whole_at, zeros_from, some_zeros, fraction_at, unsigned_at, bound_at, comma_at, reach, ◌>>=◌}
use Rattle.streetmap_query.proofs.LimitFacts.{digit_counts}
use Rattle.streetmap_geojson.proofs.Ids.{magnitude}

-- the text ends there, or a comma follows
abbrev IsStop : List ℕ → Type 0
IsStop [] = Unit {0}
IsStop (b ∷ rest) = b ≡ 44

-- a chain gives a value only if its first step gives one
via : {A B P : Type 0} (f : A → Option B) (o : Option A) (y : B) → (o >>= f) ≡ Some y → ((x : A) → o ≡ Some x → f x ≡ Some y → P) → P
via f o y e k = option_and_then_some f o y e k

-- ---- what is read is spelled that way

-- a digit more: ten times the number before it, and what it counts
digit_more : (n b : ℕ) → is_ascii_digit b ≡ true → 10 * n + (b - 48) ≡ n * 10 + digit_value b
digit_more n b h = omega (arith, digit_counts b h)

digit_takes : (text : List ℕ) (x : ℕ × List ℕ) → digit_at text ≡ Some x → (b : ℕ) × (text ≡ b ∷ x.1) × (is_ascii_digit b ≡ true) × (x.0 ≡ b - 48)
unfolding digit_at
digit_takes [] x e = absurd (none-some x e)
digit_takes (b ∷ text) x e =
    let parts = cond_some (is_ascii_digit b) (b - 48, text) x e in
    (b, (λ i. b ∷ (parts.1 i).1), parts.0, sym (ap (λ p. p.0) parts.1))

digits_takes : (room n : ℕ) (text : List ℕ) (m : ℕ) (rest : List ℕ) → digits_at room n text ≡ Some (m, rest) → (ds : List ℕ) × (all_ascii_digits ds ≡ true) × (length ds ≤ room) × (text ≡ ds ++ rest) × (m ≡ digits_value_after 10 n ds)
unfolding digits_at
digits_takes room n [] m rest e =
    let ends = some_pair_parts n m [] rest e in
    ([], refl, omega arith, ends.1, sym ends.0)
digits_takes room n (b ∷ text) m rest e =
    elim (cases_Bool (is_ascii_digit b)) [
      | inl is_it ↦
          let read = rw is_it at e in
          elim (cases_Bool (room == 0)) [
            | inl full ↦ let none = rw full at read in absurd (none-some (m, rest) none)
            | inr room_left ↦
                let more = digits_takes (room - 1) (10 * n + (b - 48)) text m rest (rw room_left at read) in
                let some : 1 ≤ room = grind (arith, nat_tests, room_left) in
                let all : all_ascii_digits (b ∷ more.0) ≡ true = rw is_it more.1 in
                (b ∷ more.0, all, omega (arith, more.2), ap (λ r. b ∷ r) more.3, more.4 ∙ ap (λ k. digits_value_after 10 k more.0) (digit_more n b is_it))
          ]
      | inr is_not ↦
          let ends = some_pair_parts n m (b ∷ text) rest (rw is_not at e) in
          ([], refl, omega arith, ends.1, sym ends.0)
    ]

whole_takes : (text : List ℕ) (m : ℕ) (rest : List ℕ) → whole_at text ≡ Some (m, rest) → (ds : List ℕ) × (all_ascii_digits ds ≡ true) × (1 ≤ length ds) × (length ds ≤ 19) × (text ≡ ds ++ rest) × (m ≡ digits_value 10 ds)
unfolding whole_at
whole_takes text m rest e =
    via _ (digit_at text) _ e (λ first first_is e.
    let a = digit_takes text first first_is in
    let more = digits_takes 18 first.0 first.1 m rest e in
    let start : first.0 ≡ 0 * 10 + digit_value a.0 = omega (arith, digit_counts a.0 a.2, a.3) in
    let all : all_ascii_digits (a.0 ∷ more.0) ≡ true = rw a.2 more.1 in
    (a.0 ∷ more.0, all, omega arith, omega (arith, more.2), a.1 ∙ ap (λ r. a.0 ∷ r) more.3, more.4 ∙ ap (λ k. digits_value_after 10 k more.0) start))

zeros_takes : (text : List ℕ) → (k : ℕ) × (text ≡ replicate k 48 ++ zeros_from text)
unfolding zeros_from
zeros_takes [] = (0, refl)
zeros_takes (b ∷ text) =
    elim (cases_Bool (b == 48)) [
      | inl is_it ↦
          let more = zeros_takes text in
          let front : b ≡ 48 = grind (arith, nat_tests, is_it) in
          (suc more.0, rw is_it (λ i. front i ∷ more.1 i))
      | inr is_not ↦ (0, rw is_not refl)
    ]

some_takes : (text rest : List ℕ) → some_zeros text ≡ Some rest → (k : ℕ) × (text ≡ replicate (suc k) 48 ++ rest)
some_takes [] rest e = absurd (none-some rest e)
some_takes (b ∷ text) rest e =
    let parts = cond_some (b == 48) (zeros_from text) rest e in
    let front : b ≡ 48 = grind (arith, nat_tests, parts.0) in
    let more = zeros_takes text in
    (more.0, (λ i. front i ∷ (more.1 ∙ ap (λ r. replicate more.0 48 ++ r) parts.1) i))

fraction_takes : (text rest : List ℕ) → fraction_at text ≡ Some rest → (k : ℕ) × (text ≡ zeros_spelled k ++ rest)
unfolding fraction_at
fraction_takes [] rest e = (0, same_Some [] rest e)
fraction_takes (b ∷ text) rest e =
    elim (cases_Bool (b == 46)) [
      | inl is_it ↦
          let more = some_takes text rest (rw is_it at e) in
          let front : b ≡ 46 = grind (arith, nat_tests, is_it) in
          (suc more.0, (λ i. front i ∷ more.1 i))
      | inr is_not ↦ (0, same_Some (b ∷ text) rest (rw is_not at e))
    ]

unsigned_takes : (text : List ℕ) (z : ℤ) (rest : List ℕ) → unsigned_at text ≡ Some (z, rest) → (ds : List ℕ) × (k : ℕ) × (all_ascii_digits ds ≡ true) × (1 ≤ length ds) × (length ds ≤ 19) × (text ≡ ds ++ (zeros_spelled k ++ rest)) × (z ≡ pos (digits_value 10 ds)) × (digits_value 10 ds ≤ reach)
unfolding unsigned_at
unsigned_takes text z rest e =
    via _ (whole_at text) _ e (λ number number_is e.
    via _ (fraction_at number.1) _ e (λ following after_is e.
    let w = whole_takes text number.0 number.1 number_is in
    let f = fraction_takes number.1 following after_is in
    let parts = cond_some (nat_le number.0 reach) (pos number.0, following) (z, rest) e in
    let ends = some_pair_parts (pos number.0) z following rest (ap Some parts.1) in
    let within : number.0 ≤ reach = grind (arith, nat_tests, parts.0) in
    (w.0, f.0, w.1, w.2, w.3, cc (w.4, f.1, ends.1), sym ends.0 ∙ ap pos w.5, subst (λ m. m ≤ reach) w.5 within)))

bound_pos : (m : ℕ) → m ≤ reach → IsBound (pos m)
bound_pos m h = (omega (arith, ints), omega (arith, ints))

bound_neg : (m : ℕ) → m ≤ reach → IsBound (neg_ℤ (pos m))
bound_neg m h = (omega (arith, ints), omega (arith, ints))

mapped : {A B P : Type 0} (f : A → B) (o : Option A) (y : B) → option_map f o ≡ Some y → ((x : A) → o ≡ Some x → f x ≡ y → P) → P
mapped f None y e k = absurd (none-some y e)
mapped f (Some x) y e k = k x refl (same_Some (f x) y e)

bound_takes : (text : List ℕ) (z : ℤ) (rest : List ℕ) → bound_at text ≡ Some (z, rest) → (n : NumberText) × HasFewDigits n × (text ≡ number_spelled n ++ rest) × (z ≡ number_meant n) × IsBound z
unfolding bound_at
bound_takes [] z rest e = absurd (none-some (z, rest) e)
bound_takes (b ∷ text) z rest e =
    elim (cases_Bool (b == 45)) [
      | inl is_it ↦
          mapped _ (unsigned_at text) (z, rest) (rw is_it at e) (λ x x_is ends.
          let u = unsigned_takes text x.0 x.1 x_is in
          let front : b ≡ 45 = grind (arith, nat_tests, is_it) in
          let value : z ≡ neg_ℤ (pos (digits_value 10 u.0)) = sym (ap (λ p. p.0) ends) ∙ ap neg_ℤ u.6 in
          let following : text ≡ (u.0 ++ zeros_spelled u.1) ++ rest = u.5 ∙ (sym (append_assoc u.0 (zeros_spelled u.1) x.1) ∙ ap (λ r. (u.0 ++ zeros_spelled u.1) ++ r) (ap (λ p. p.1) ends)) in
          (record { minus = true; digits = u.0; zeros = u.1 }, record { decimal = u.2; some = u.3; few = u.4 }, (λ i. front i ∷ following i), value, subst IsBound (sym value) (bound_neg (digits_value 10 u.0) u.7)))
      | inr is_not ↦
          let u = unsigned_takes (b ∷ text) z rest (rw is_not at e) in
          (record { minus = false; digits = u.0; zeros = u.1 }, record { decimal = u.2; some = u.3; few = u.4 }, u.5 ∙ sym (append_assoc u.0 (zeros_spelled u.1) rest), u.6, subst IsBound (sym u.6) (bound_pos (digits_value 10 u.0) u.7))
    ]

comma_takes : (text rest : List ℕ) → comma_at text ≡ Some rest → text ≡ 44 ∷ rest
unfolding comma_at
comma_takes [] rest e = absurd (none-some rest e)
comma_takes (b ∷ text) rest e =
    let parts = cond_some (b == 44) text rest e in
    let front : b ≡ 44 = grind (arith, nat_tests, parts.0) in
    (λ i. front i ∷ parts.1 i)

nil_is : (rest : List ℕ) → (length rest == 0) ≡ true → rest ≡ []
nil_is [] h = refl
nil_is (b ∷ rest) h = absurd (grind (arith, nat_tests, h))

-- what comes before a comma
joined : (text front following rest : List ℕ) → text ≡ front ++ following → following ≡ 44 ∷ rest → text ≡ front ++ 44 ∷ rest
joined text front following rest e h = e ∙ ap (λ r. front ++ r) h

pub box_takes : (text : List ℕ) (b : BoxValue) → box_of text ≡ Some b → IsBoxText text b
unfolding box_of
box_takes text b e =
    via _ (bound_at text) _ e (λ x0 x0_is e.
    via _ (comma_at x0.1) _ e (λ after_x0 comma_x0 e.
    via _ (bound_at after_x0) _ e (λ y0 y0_is e.
    via _ (comma_at y0.1) _ e (λ after_y0 comma_y0 e.
    via _ (bound_at after_y0) _ e (λ x1 x1_is e.
    via _ (comma_at x1.1) _ e (λ after_x1 comma_x1 e.
    via _ (bound_at after_x1) _ e (λ y1 y1_is e.
    let n0 = bound_takes text x0.0 x0.1 x0_is in
    let n1 = bound_takes after_x0 y0.0 y0.1 y0_is in
    let n2 = bound_takes after_y0 x1.0 x1.1 x1_is in
    let n3 = bound_takes after_x1 y1.0 y1.1 y1_is in
    let box : BoxValue = record { x0 = x0.0; y0 = y0.0; x1 = x1.0; y1 = y1.0 } in
    let parts = cond_some ((length y1.1 == 0) && int_le x0.0 x1.0 && int_le y0.0 y1.0) box b e in
    let ends : (length y1.1 == 0) ≡ true = grind (arith, nat_tests, parts.0) in
    let wide : x0.0 ≤ℤ x1.0 = grind (arith, nat_tests, parts.0) in
    let tall : y0.0 ≤ℤ y1.0 = grind (arith, nat_tests, parts.0) in
    let t3 : after_x1 ≡ number_spelled n3.0 = n3.2 ∙ (ap (λ r. number_spelled n3.0 ++ r) (nil_is y1.1 ends) ∙ append-nil (number_spelled n3.0)) in
    let t2 : after_y0 ≡ number_spelled n2.0 ++ 44 ∷ number_spelled n3.0 = joined after_y0 (number_spelled n2.0) x1.1 _ n2.2 (comma_takes x1.1 after_x1 comma_x1 ∙ ap (λ r. 44 ∷ r) t3) in
    let t1 : after_x0 ≡ number_spelled n1.0 ++ 44 ∷ (number_spelled n2.0 ++ 44 ∷ number_spelled n3.0) = joined after_x0 (number_spelled n1.0) y0.1 _ n1.2 (comma_takes y0.1 after_y0 comma_y0 ∙ ap (λ r. 44 ∷ r) t2) in
    let t0 : text ≡ number_spelled n0.0 ++ 44 ∷ (number_spelled n1.0 ++ 44 ∷ (number_spelled n2.0 ++ 44 ∷ number_spelled n3.0)) = joined text (number_spelled n0.0) x0.1 _ n0.2 (comma_takes x0.1 after_x0 comma_x0 ∙ ap (λ r. 44 ∷ r) t1) in
    let is : IsBox box = (n0.4, n1.4, n2.4, n3.4, wide, tall) in
    record {
      x0 = n0.0;
      y0 = n1.0;
      x1 = n2.0;
      y1 = n3.0;
      x0_is = n0.1;
      y0_is = n1.1;
      x1_is = n2.1;
      y1_is = n3.1;
      spelled = t0;
      meant = sym parts.1 ∙ (λ i. record { x0 = n0.3 i; y0 = n1.3 i; x1 = n2.3 i; y1 = n3.3 i });
      kept = subst IsBox parts.1 is;
    })))))))

-- ---- what is spelled that way is read

digits_again : (room n : ℕ) (ds rest : List ℕ) → all_ascii_digits ds ≡ true → length ds ≤ room → digit_at rest ≡ None → digits_at room n (ds ++ rest) ≡ Some (digits_value_after 10 n ds, rest)
unfolding digits_at digit_at
digits_again room n [] [] all few stop = refl
digits_again room n [] (b ∷ rest) all few stop = grind (arith, common_steps)
digits_again room n (d ∷ ds) rest all few stop =
    let is_digit : is_ascii_digit d ≡ true = grind (arith, common_steps) in
    let others : all_ascii_digits ds ≡ true = grind (arith, common_steps) in
    let positive : (room == 0) ≡ false = grind (arith, nat_tests) in
    rw (is_digit, positive, digit_more n d is_digit) (digits_again (room - 1) (n * 10 + digit_value d) ds rest others (omega arith) stop)

whole_again : (ds rest : List ℕ) → all_ascii_digits ds ≡ true → 1 ≤ length ds → length ds ≤ 19 → digit_at rest ≡ None → whole_at (ds ++ rest) ≡ Some (digits_value 10 ds, rest)
unfolding whole_at digit_at
whole_again [] rest all some few stop = absurd (omega arith)
whole_again (d ∷ ds) rest all some few stop =
    let is_digit : is_ascii_digit d ≡ true = grind (arith, common_steps) in
    let others : all_ascii_digits ds ≡ true = grind (arith, common_steps) in
    let start : d - 48 ≡ 0 * 10 + digit_value d = omega (arith, digit_counts d is_digit) in
    rw is_digit (digits_again 18 (d - 48) ds rest others (omega arith) stop ∙ ap (λ k. Some (digits_value_after 10 k ds, rest)) start)

stop_digit : (rest : List ℕ) → IsStop rest → digit_at rest ≡ None
unfolding digit_at
stop_digit [] stop = refl
stop_digit (b ∷ rest) stop = rw stop refl

zeros_digit : (k : ℕ) (rest : List ℕ) → IsStop rest → digit_at (zeros_spelled k ++ rest) ≡ None
unfolding digit_at
zeros_digit zero rest stop = stop_digit rest stop
zeros_digit (suc k) rest stop = refl

zeros_over : (k : ℕ) (rest : List ℕ) → IsStop rest → zeros_from (replicate k 48 ++ rest) ≡ rest
unfolding zeros_from
zeros_over zero [] stop = refl
zeros_over zero (b ∷ rest) stop = rw stop refl
zeros_over (suc k) rest stop = zeros_over k rest stop

fraction_again : (k : ℕ) (rest : List ℕ) → IsStop rest → fraction_at (zeros_spelled k ++ rest) ≡ Some rest
unfolding fraction_at
fraction_again zero [] stop = refl
fraction_again zero (b ∷ rest) stop = rw stop refl
fraction_again (suc k) rest stop = ap Some (zeros_over k rest stop)

unsigned_again : (ds : List ℕ) (k : ℕ) (rest : List ℕ) → all_ascii_digits ds ≡ true → 1 ≤ length ds → length ds ≤ 19 → IsStop rest → digits_value 10 ds ≤ reach → unsigned_at (ds ++ (zeros_spelled k ++ rest)) ≡ Some (pos (digits_value 10 ds), rest)
unfolding unsigned_at
unsigned_again ds k rest all some few stop within =
    let test : nat_le (digits_value 10 ds) reach ≡ true = grind (arith, nat_tests) in
    rw (whole_again ds (zeros_spelled k ++ rest) all some few (zeros_digit k rest stop), fraction_again k rest stop, test) refl

-- no minus comes before digits
plain_again : (ds rest : List ℕ) → all_ascii_digits ds ≡ true → 1 ≤ length ds → bound_at (ds ++ rest) ≡ unsigned_at (ds ++ rest)
unfolding bound_at
plain_again [] rest all some = absurd (omega arith)
plain_again (d ∷ ds) rest all some =
    let is_digit : is_ascii_digit d ≡ true = grind (arith, common_steps) in
    let other : (d == 45) ≡ false = grind (arith, nat_tests) in
    rw other refl

number_again : (minus : Bool) (ds : List ℕ) (k : ℕ) (rest : List ℕ) → all_ascii_digits ds ≡ true → 1 ≤ length ds → length ds ≤ 19 → IsStop rest → digits_value 10 ds ≤ reach → bound_at (number_spelled (record { minus = minus; digits = ds; zeros = k }) ++ rest) ≡ Some (signed minus (digits_value 10 ds), rest)
unfolding bound_at
number_again false ds k rest all some few stop within =
    ap bound_at (append_assoc ds (zeros_spelled k) rest) ∙ (plain_again ds (zeros_spelled k ++ rest) all some ∙ unsigned_again ds k rest all some few stop within)
number_again true ds k rest all some few stop within =
    ap (λ t. bound_at (45 ∷ t)) (append_assoc ds (zeros_spelled k) rest) ∙ ap (λ o. option_map (λ x. (neg_ℤ x.0, x.1)) o) (unsigned_again ds k rest all some few stop within)

reach_of : (minus : Bool) (m : ℕ) → IsBound (signed minus m) → m ≤ reach
reach_of true m h = omega (arith, ints, h.0, h.1)
reach_of false m h = omega (arith, ints, h.0, h.1)

bound_again : (n : NumberText) (rest : List ℕ) → HasFewDigits n → IsBound (number_meant n) → IsStop rest → bound_at (number_spelled n ++ rest) ≡ Some (number_meant n, rest)
bound_again n rest is within stop = number_again n.minus n.digits n.zeros rest is.decimal is.some is.few stop (reach_of n.minus (digits_value 10 n.digits) within)

le_true : (a b : ℤ) → a ≤ℤ b → int_le a b ≡ true
le_true a b h = grind (arith, nat_tests)

pub box_only : (text : List ℕ) (b : BoxValue) → IsBoxText text b → box_of text ≡ Some b
unfolding box_of comma_at
box_only text b is =
    let box = subst IsBox is.meant is.kept in
    let last = ap bound_at (sym (append-nil (number_spelled is.y1))) ∙ bound_again is.y1 [] is.y1_is box.3 tt in
    rw (is.spelled, bound_again is.x0 _ is.x0_is box.0 refl, bound_again is.y0 _ is.y0_is box.1 refl, bound_again is.x1 _ is.x1_is box.2 refl, last, le_true (number_meant is.x0) (number_meant is.x1) box.4, le_true (number_meant is.y0) (number_meant is.y1) box.5) (ap Some (sym is.meant))

-- what the answer of a reader says
pub found : (text : List ℕ) (o : Option GridBox) → option_map box_value o ≡ box_of text → IfSome o (λ g. IsBoxText text (box_value g))
found text None e = tt
found text (Some g) e = box_takes text (box_value g) (sym e)

-- ---- what is written is spelled that way

pub numerals : IsNumeralModel (λ ds. all_ascii_digits ds ≡ true) (digits_value 10)
numerals = numerals_by_value _ tells_all_ascii_digits

abbrev is_below : ℤ → Bool
is_below (pos n) = false
is_below (negsuc n) = true

-- how a bound is written
abbrev written : ℤ → NumberText
written z = record { minus = is_below z; digits = decimal (magnitude z); zeros = 0 }

small_of : (z : ℤ) → IsBound z → magnitude z ≤ reach
small_of (pos n) within = omega (arith, ints)
small_of (negsuc n) within = omega (arith, ints)

written_is : (z : ℤ) → IsBound z → HasFewDigits (written z)
written_is z within =
    let few : magnitude z ≤ reach = small_of z within in
    let small : magnitude z < 2 ^ 64 = omega arith in
    let short : length (decimal (magnitude z)) ≤ 10 = length-decimal-le 10 (magnitude z) (omega arith) (omega arith) small in
    record { decimal = digits_decimal numerals (magnitude z) small; some = omega (arith, decimal_nonempty (magnitude z) small); few = omega arith }

spelled_is : (z : ℤ) → signed_decimal z ≡ number_spelled (written z)
spelled_is (pos n) = sym (append-nil (decimal n))
spelled_is (negsuc n) = ap (λ r. 45 ∷ r) (sym (append-nil (decimal (suc n))))

meant_is : (z : ℤ) → IsBound z → z ≡ number_meant (written z)
meant_is (pos n) within =
    let few : n ≤ reach = small_of (pos n) within in
    ap pos (sym (digits_value-decimal numerals n (omega arith)))
meant_is (negsuc n) within =
    let few : suc n ≤ reach = small_of (negsuc n) within in
    ap (λ m. neg_ℤ (pos m)) (sym (digits_value-decimal numerals (suc n) (omega arith)))

-- the text that is written for a box is read as that box
pub box_again : (b : BoxValue) → IsBox b → box_of (box_text b) ≡ Some b
box_again b is =
    box_only (box_text b) b (record {
      x0 = written b.x0;
      y0 = written b.y0;
      x1 = written b.x1;
      y1 = written b.y1;
      x0_is = written_is b.x0 is.0;
      y0_is = written_is b.y0 is.1;
      x1_is = written_is b.x1 is.2;
      y1_is = written_is b.y1 is.3;
      spelled = λ i. spelled_is b.x0 i ++ 44 ∷ (spelled_is b.y0 i ++ 44 ∷ (spelled_is b.x1 i ++ 44 ∷ spelled_is b.y1 i));
      meant = λ i. record { x0 = meant_is b.x0 is.0 i; y0 = meant_is b.y0 is.1 i; x1 = meant_is b.x1 is.2 i; y1 = meant_is b.y1 is.3 i };
      kept = is;
    })
