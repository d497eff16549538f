-- Members of an object, read one after another.
use Rattle.std.proofs.Common.{◌≡◌, ℕ, ◌≤◌, true, false, IfSome, List, ◌∷◌, ◌++◌, Option, None, Some, option_map, Less, Equal, Greater, ℤ, pos, negsuc, refl, ap}
use Rattle.std.proofs.Common.{subst, sym, ◌∙◌, arith, append_assoc, codes}
use Rattle.std.specs.Ordering.{nat_cmp, is_lt, is_eq, match_ordering}
use Rattle.std.specs.declared.cmp.Ordering.{Ordering}
use Rattle.std.specs.Borrow.{Bor}
use Rattle.std.specs.Cmp.Lexicographic.{slice_cmp}
use Rattle.std.specs.Str.{is_utf8, bytes_eq}
use Rattle.std.proofs.lemmas.Bool.{and_parts}
use Rattle.std.proofs.lemmas.Cmp.{nat_list_cmp_total}
use Rattle.std.proofs.lemmas.Map.Text.{is_eq-slice_cmp}
use Rattle.serde_json.specs.Data.{Data, null, object, string, Members, no_members, member, depth, members_depth}
use Rattle.serde_json.specs.Find.{get_member}
use Rattle.serde_json.specs.Written.{compact_text, members_text, has_float, members_have_float}
use Rattle.streetmap_json.specs.ExactData.{is_exact, is_before, are_exact_members}
use Rattle.streetmap_feature_text.specs.Written.{number_data}
use Rattle.streetmap_compact_reader.specs.declared.flat.Flat.{Flat}
use Rattle.streetmap_compact_reader.specs.declared.flat.Flat.TheVariants as flat
use Rattle.streetmap_compact_reader.specs.Flat.{flat_data, found_or}
use Rattle.streetmap_compact_reader.specs.Fronts.{AreMembers, AreProperties}

-- ---- values

whole_number : (z : ℤ) → has_float (number_data z) ≡ false
whole_number (pos n) = refl
whole_number (negsuc n) = refl

flat_whole : (v : Flat) → has_float (flat_data v) ≡ false
flat_whole flat.Null = refl
flat_whole (flat.Truth b) = refl
flat_whole (flat.Whole z) = whole_number z
flat_whole (flat.Text s) = refl

flat_depth : (v : Flat) → depth (flat_data v) ≡ 0
flat_depth flat.Null = refl
flat_depth (flat.Truth b) = refl
flat_depth (flat.Whole z) = refl
flat_depth (flat.Text s) = refl

-- ---- names in byte order

less_is : (o : Ordering) → is_lt o ≡ true → o ≡ Less
less_is Less h = refl
less_is Equal h = absurd cc
less_is Greater h = absurd cc

-- what is before the first of names in order is before all of them
before_all : (last name : List ℕ) (ms : Members) → is_lt (slice_cmp nat_cmp last name) ≡ true → is_before name ms ≡ true → is_before last ms ≡ true
before_all last name no_members less h = refl
before_all last name (member other d ms) less h =
    let parts = and_parts (is_lt (slice_cmp nat_cmp name other)) (is_before name ms) h in
    let first = ap is_lt (nat_list_cmp_total.trans last name other (less_is _ less) (less_is _ parts.0)) in
    rw (first, before_all last name ms less parts.1) refl

-- ---- the value of a name

apart : (o : Ordering) (rest found : Option Data) → is_eq o ≡ false → match_ordering o rest found rest ≡ rest
apart Less rest found h = refl
apart Equal rest found h = absurd cc
apart Greater rest found h = refl

same : (o : Ordering) (rest found : Option Data) → is_eq o ≡ true → match_ordering o rest found rest ≡ found
same Less rest found h = absurd cc
same Equal rest found h = refl
same Greater rest found h = absurd cc

pub get_past : (name other : List ℕ) (d : Data) (ms : Members) → bytes_eq name other ≡ false → get_member name (member other d ms) ≡ get_member name ms
get_past name other d ms h = apart (slice_cmp nat_cmp name other) (get_member name ms) (Some d) (is_eq-slice_cmp name other ∙ h)

pub get_here : (name other : List ℕ) (d : Data) (ms : Members) → bytes_eq name other ≡ true → get_member name (member other d ms) ≡ Some d
get_here name other d ms h = same (slice_cmp nat_cmp name other) (get_member name ms) (Some d) (is_eq-slice_cmp name other ∙ h)

here : (property : Option (List ℕ)) (p name : List ℕ) (v : Flat) (found : Option Flat) → property ≡ Some p → found ≡ None → bytes_eq p name ≡ true →
    IfSome property (λ q. (more : Members) → found_or found (get_member q (member name (flat_data v) more)) ≡ Some (flat_data v))
here property p name v found is none same =
    subst (λ (o : Option (List ℕ)). IfSome o (λ q. (more : Members) → found_or found (get_member q (member name (flat_data v) more)) ≡ Some (flat_data v)))
    (sym is)
    (λ more. ap (λ o. found_or o (get_member p (member name (flat_data v) more))) none ∙ get_here p name (flat_data v) more same)

past : (property : Option (List ℕ)) (p name : List ℕ) (v : Flat) (found : Option Flat) → property ≡ Some p → found ≡ None → bytes_eq p name ≡ false →
    IfSome property (λ q. (more : Members) → found_or found (get_member q (member name (flat_data v) more)) ≡ get_member q more)
past property p name v found is none apart =
    subst (λ (o : Option (List ℕ)). IfSome o (λ q. (more : Members) → found_or found (get_member q (member name (flat_data v) more)) ≡ get_member q more))
    (sym is)
    (λ more. ap (λ o. found_or o (get_member p (member name (flat_data v) more))) none ∙ get_past p name (flat_data v) more apart)

abbrev texts : Option (Bor (List ℕ)) → Option (List ℕ)
texts o = option_map (λ s. s.now) o

pub found_here : (property : Option (Bor (List ℕ))) (p : Bor (List ℕ)) (name : List ℕ) (v : Flat) (found : Option Flat) → property ≡ Some p → found ≡ None →
    bytes_eq p.now name ≡ true → IfSome (texts property) (λ q. (more : Members) → found_or found (get_member q (member name (flat_data v) more))
    ≡ Some (flat_data v))
found_here property p name v found is none same = here (texts property) p.now name v found (ap texts is) none same

pub found_past : (property : Option (Bor (List ℕ))) (p : Bor (List ℕ)) (name : List ℕ) (v : Flat) (found : Option Flat) → property ≡ Some p → found ≡ None →
    bytes_eq p.now name ≡ false → IfSome (texts property) (λ q. (more : Members) → found_or found (get_member q (member name (flat_data v) more))
    ≡ get_member q more)
found_past property p name v found is none apart = past (texts property) p.now name v found (ap texts is) none apart

-- ---- the members so far

-- what the members so far make of more of them, if these are in order after the last name
pub record MembersRead (start rest last : List ℕ) (name : Option (List ℕ)) (found : Option Flat) : Type 0 where
  pub with : Members → Members
  pub text : (more : Members) (after : List ℕ) → rest ≡ members_text true more ++ after → start ≡ members_text false (with more) ++ after
  pub flat : (more : Members) → members_depth more ≤ 0 → members_depth (with more) ≤ 0
  pub whole : (more : Members) → members_have_float more ≡ false → members_have_float (with more) ≡ false
  pub exact : (more : Members) → is_before last more ≡ true → are_exact_members more ≡ true → are_exact_members (with more) ≡ true
  pub said : IfSome name (λ n. (more : Members) → get_member n (with more) ≡ found_or found (get_member n more))

member_text : (before after next : List ℕ) (name : List ℕ) (d : Data) (more : Members) → before ≡ compact_text (string name) ++ 58 ∷ (compact_text d ++ next) →
    next ≡ members_text true more ++ after
    → before ≡ (compact_text (string name) ++ 58 ∷ (compact_text d ++ members_text true more)) ++ after
member_text before after next name d more a b =
    a ∙ ap (λ (t : List ℕ). compact_text (string name) ++ 58 ∷ (compact_text d ++ t)) b
    ∙ ap (λ (t : List ℕ). compact_text (string name) ++ 58 ∷ t) (sym (append_assoc (compact_text d) (members_text true more) after))
    ∙ sym (append_assoc (compact_text (string name)) (58 ∷ (compact_text d ++ members_text true more)) after)

no_depth : (v : Flat) (name : List ℕ) (more : Members) → members_depth more ≤ 0 → members_depth (member name (flat_data v) more) ≤ 0
no_depth v name more h = let none = flat_depth v in omega (arith, h, none)

no_float : (v : Flat) (name : List ℕ) (more : Members) → members_have_float more ≡ false → members_have_float (member name (flat_data v) more) ≡ false
no_float v name more h = rw (flat_whole v, h) refl

all_exact : (v : Flat) (name : List ℕ) (more : Members) → is_utf8 name ≡ true → is_exact (flat_data v) ≡ true → is_before name more ≡ true →
    are_exact_members more ≡ true → are_exact_members (member name (flat_data v) more) ≡ true
all_exact v name more utf8 exact order h = rw (utf8, order, exact, h) refl

pub first_member : (start rest name : List ℕ) (v : Flat) (property : Option (List ℕ)) (found : Option Flat) → start ≡ compact_text (string name) ++ 58
    ∷ (compact_text (flat_data v) ++ rest) → is_utf8 name ≡ true → is_exact (flat_data v) ≡ true
    → IfSome property (λ p. (more : Members) → get_member p (member name (flat_data v) more) ≡ found_or found (get_member p more)) →
    MembersRead start rest name property found
first_member start rest name v property found text utf8 exact said = record {
  with = λ more. member name (flat_data v) more;
  text = λ more after e. member_text start after rest name (flat_data v) more text e;
  flat = λ more h. no_depth v name more h;
  whole = λ more h. no_float v name more h;
  exact = λ more order h. all_exact v name more utf8 exact order h;
  said = said;
}

next_said : (property : Option (List ℕ)) (with : Members → Members) (name : List ℕ) (v : Flat) (found now : Option Flat) →
    IfSome property (λ p. (more : Members) → get_member p (with more) ≡ found_or found (get_member p more))
    → IfSome property (λ p. (more : Members) → found_or found (get_member p (member name (flat_data v) more)) ≡ found_or now (get_member p more)) →
    IfSome property (λ p. (more : Members) → get_member p (with (member name (flat_data v) more)) ≡ found_or now (get_member p more))
next_said None with name v found now h k = tt
next_said (Some p) with name v found now h k = λ more. h (member name (flat_data v) more) ∙ k more

pub next_member : (start rest apart next last name : List ℕ) (v : Flat) (property : Option (List ℕ)) (found now : Option Flat) →
    MembersRead start rest last property found → rest ≡ 44 ∷ apart → apart ≡ compact_text (string name) ++ 58 ∷ (compact_text (flat_data v) ++ next)
    → is_utf8 name ≡ true → is_exact (flat_data v) ≡ true → is_lt (slice_cmp nat_cmp last name) ≡ true
    → IfSome property (λ p. (more : Members) → found_or found (get_member p (member name (flat_data v) more)) ≡ found_or now (get_member p more)) →
    MembersRead start next name property now
next_member start rest apart next last name v property found now h comma text utf8 exact less said = record {
  with = λ more. h.with (member name (flat_data v) more);
  text = λ more after e. h.text (member name (flat_data v) more) after (comma ∙ ap (λ (t : List ℕ). 44 ∷ t)
      (member_text apart after next name (flat_data v) more text e));
  flat = λ more k. h.flat (member name (flat_data v) more) (no_depth v name more k);
  whole = λ more k. h.whole (member name (flat_data v) more) (no_float v name more k);
  exact = λ more order k.
      h.exact (member name (flat_data v) more) (rw (less, before_all last name more less order) refl) (all_exact v name more utf8 exact order k);
  said = next_said property h.with name v found now h.said said;
}

found_alone : (o : Option Flat) → found_or o None ≡ option_map flat_data o
found_alone None = refl
found_alone (Some v) = refl

all_said : (property : Option (List ℕ)) (with : Members → Members) (found : Option Flat) →
    IfSome property (λ p. (more : Members) → get_member p (with more) ≡ found_or found (get_member p more)) →
    IfSome property (λ p. get_member p (with no_members) ≡ option_map flat_data found)
all_said None with found h = tt
all_said (Some p) with found h = h no_members ∙ found_alone found

pub all_members : (start rest after last : List ℕ) (property : Option (List ℕ)) (found : Option Flat) → MembersRead start rest last property found → rest ≡ 125
    ∷ after → AreMembers start after property found
all_members start rest after last property found h e = record {
  members = h.with no_members;
  text = h.text no_members after e;
  flat = h.flat no_members (omega arith);
  whole = h.whole no_members refl;
  exact = h.exact no_members refl refl;
  said = all_said property h.with found h.said;
}

-- ---- properties

pub object_front : (before opened after : List ℕ) (property : Option (List ℕ)) (found : Option Flat) → before ≡ 123 ∷ opened →
    AreMembers opened after property found → AreProperties before after property found
object_front before opened after property found brace h = record {
  properties = object h.members;
  text = brace ∙ ap (λ (t : List ℕ). 123 ∷ t) h.text;
  kept = refl;
  flat = omega (arith, h.flat);
  whole = h.whole;
  exact = h.exact;
  said = h.said;
}

none_said : (property : Option (List ℕ)) → IfSome property (λ p. (let none : Option Data = None in none) ≡ None)
none_said None = tt
none_said (Some p) = refl

pub empty_front : (before opened after : List ℕ) (property : Option (List ℕ)) → before ≡ 123 ∷ opened → opened ≡ 125 ∷ after →
    AreProperties before after property None
empty_front before opened after property brace closed = record {
  properties = object no_members;
  text = brace ∙ ap (λ (t : List ℕ). 123 ∷ t) closed;
  kept = refl;
  flat = omega arith;
  whole = refl;
  exact = refl;
  said = none_said property;
}

pub null_front : (before after : List ℕ) (property : Option (List ℕ)) → before ≡ codes "null" ++ after → AreProperties before after property None
null_front before after property text = record {
  properties = null;
  text = text;
  kept = refl;
  flat = omega arith;
  whole = refl;
  exact = refl;
  said = none_said property;
}
