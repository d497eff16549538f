-- Lists of tags, a byte at a time, and the fields of one name.
use Rattle.std.proofs.Common.{◌≡◌, ℕ, ◌+◌, ◌-◌, ◌<◌, ◌≤◌, ◌∙◌, List, [], ◌∷◌, ◌++◌, length, take, drop, get_or, Bool, true, false, refl, sym, ap, arith}
use Rattle.std.proofs.lemmas.List.{drop_more, drop_all, take_more, get_or-drop, length-drop}
use Rattle.std.proofs.lemmas.List.Folds.{list_any-append}
use Rattle.std.specs.Prelude.{Option, None, Some, option_map, option_and_then, slice_range, ◌||◌, if◌then◌else◌}
use Rattle.std.specs.List.{list_any}
use Rattle.streetmap_http.specs.Fields.{FieldValue}
use Rattle.streetmap_http.specs.Tags.{TagValue, Place, tags_from, tags_of, with_tag, step, ended, is_end, is_same_tag, strong_tag}
use Rattle.streetmap_http.specs.TagPlaces.{is_ended_with}
use Rattle.streetmap_http.specs.Preconditions.{both, with_field, said_of}

-- ---- bytes of a tag

pub slice_nothing : (list : List ℕ) (at : ℕ) → slice_range list at at ≡ []
slice_nothing list at = let none : at - at ≡ 0 = omega arith in ap (λ n. take n (drop at list)) none

pub slice_more : (list : List ℕ) (start at : ℕ) → start ≤ at → at < length list → slice_range list start (at + 1) ≡ slice_range list start at ++ get_or list at 0 ∷ []
slice_more list start at begun inside =
    let len : at + 1 - start ≡ at - start + 1 = omega arith in
    let place : start + (at - start) ≡ at = omega arith in
    ap (λ n. take n (drop start list)) len
    ∙ take_more (drop start list) (at - start) 0 (simp length-drop (omega arith))
    ∙ ap (λ b. slice_range list start at ++ b ∷ []) (get_or-drop start list (at - start) 0 ∙ ap (λ n. get_or list n 0) place)

-- ---- tags that were found, or are in the rest

abbrev pub so : Bool → Bool → List ℕ → List TagValue → Bool
so found weakly tag tags = found || list_any (is_same_tag weakly (strong_tag tag)) tags

or_assoc : (a b c : Bool) → (a || (b || c)) ≡ ((a || b) || c)
or_assoc true b c = refl
or_assoc false b c = refl

or_false : (a : Bool) → (a || false) ≡ a
or_false true = refl
or_false false = refl

-- one tag more
with_one : (found weakly : Bool) (tag : List ℕ) (e : Option TagValue) (tags : List TagValue)
    → so found weakly tag (with_tag e tags) ≡ so (found || is_ended_with weakly tag e) weakly tag tags
with_one found weakly tag None tags = ap (λ b. b || list_any (is_same_tag weakly (strong_tag tag)) tags) (sym (or_false found))
with_one found weakly tag (Some t) tags = or_assoc found (is_same_tag weakly (strong_tag tag) t) (list_any (is_same_tag weakly (strong_tag tag)) tags)

with_one_more : (found weakly : Bool) (tag : List ℕ) (e : Option TagValue) (o : Option (List TagValue))
    → option_map (so found weakly tag) (option_map (with_tag e) o) ≡ option_map (so (found || is_ended_with weakly tag e) weakly tag) o
with_one_more found weakly tag e None = refl
with_one_more found weakly tag e (Some tags) = ap (λ b. Some b) (with_one found weakly tag e tags)

-- the list is read on from the next place
pub read_on : (found weakly : Bool) (tag list : List ℕ) (at : ℕ) (here next : Place) → at < length list → step here (get_or list at 0) ≡ Some next
    → option_map (so found weakly tag) (tags_from here (drop at list))
    ≡ option_map (so (found || is_ended_with weakly tag (ended here (get_or list at 0))) weakly tag) (tags_from next (drop (at + 1) list))
unfolding tags_from
read_on found weakly tag list at here next inside goes =
    let b : ℕ = get_or list at 0 in
    let rest : List ℕ = drop (at + 1) list in
    ap (λ l. option_map (so found weakly tag) (tags_from here l)) (drop_more list at 0 inside)
    ∙ ap (λ (o : Option Place). option_map (so found weakly tag) (option_and_then (λ (p : Place). option_map (with_tag (ended here b)) (tags_from p rest)) o)) goes
    ∙ with_one_more found weakly tag (ended here b) (tags_from next rest)

-- a byte that may not stand here
pub not_read : (found weakly : Bool) (tag list : List ℕ) (at : ℕ) (here : Place) → at < length list → step here (get_or list at 0) ≡ None
    → option_map (so found weakly tag) (tags_from here (drop at list)) ≡ None
unfolding tags_from
not_read found weakly tag list at here inside stops =
    let b : ℕ = get_or list at 0 in
    let rest : List ℕ = drop (at + 1) list in
    ap (λ l. option_map (so found weakly tag) (tags_from here l)) (drop_more list at 0 inside)
    ∙ ap (λ (o : Option Place). option_map (so found weakly tag) (option_and_then (λ (p : Place). option_map (with_tag (ended here b)) (tags_from p rest)) o)) stops

-- the end of a list
ends_by : (found weakly : Bool) (tag : List ℕ) (b : Bool) → option_map (so found weakly tag) (if b then Some [] else None) ≡ (if b then Some found else None)
ends_by found weakly tag true = ap (λ x. Some x) (or_false found)
ends_by found weakly tag false = refl

pub read_to_end : (found weakly : Bool) (tag list : List ℕ) (at : ℕ) (here : Place) → length list ≤ at
    → option_map (so found weakly tag) (tags_from here (drop at list)) ≡ (if is_end here then Some found else None)
unfolding tags_from
read_to_end found weakly tag list at here past =
    ap (λ l. option_map (so found weakly tag) (tags_from here l)) (drop_all at list past) ∙ ends_by found weakly tag (is_end here)

-- nothing was found yet
pub none_found : (weakly : Bool) (tag : List ℕ) (o : Option (List TagValue))
    → option_map (so false weakly tag) o ≡ option_map (list_any (is_same_tag weakly (strong_tag tag))) o
none_found weakly tag None = refl
none_found weakly tag (Some tags) = refl

-- ---- fields of one name

both_have : (found weakly : Bool) (tag : List ℕ) (one other : Option (List TagValue)) (has : Bool)
    → option_map (list_any (is_same_tag weakly (strong_tag tag))) one ≡ Some has
    → option_map (so found weakly tag) (both one other) ≡ option_map (so (found || has) weakly tag) other
both_have found weakly tag None other has e = cc
both_have found weakly tag (Some ts) None has e = refl
both_have found weakly tag (Some ts) (Some us) has e =
    let same : list_any (is_same_tag weakly (strong_tag tag)) ts ≡ has = cc in
    ap (λ b. Some b) (ap (λ b. found || b) (list_any-append (is_same_tag weakly (strong_tag tag)) ts us)
    ∙ or_assoc found (list_any (is_same_tag weakly (strong_tag tag)) ts) (list_any (is_same_tag weakly (strong_tag tag)) us)
    ∙ ap (λ b. (found || b) || list_any (is_same_tag weakly (strong_tag tag)) us) same)

pub field_read : (found weakly named : Bool) (tag : List ℕ) (field : FieldValue) (others : Option (List TagValue)) (has : Bool)
    → said_of weakly named tag field ≡ Some has
    → option_map (so found weakly tag) (with_field named field others) ≡ option_map (so (found || has) weakly tag) others
field_read found weakly true tag field others has e = both_have found weakly tag (tags_of field.1) others has e
field_read found weakly false tag field others has e =
    let none : false ≡ has = cc in
    ap (λ b. option_map (so b weakly tag) others) (sym (or_false found) ∙ ap (λ b. found || b) none)

none_of_both : (found weakly : Bool) (tag : List ℕ) (one other : Option (List TagValue))
    → option_map (list_any (is_same_tag weakly (strong_tag tag))) one ≡ None → option_map (so found weakly tag) (both one other) ≡ None
none_of_both found weakly tag None other e = refl
none_of_both found weakly tag (Some ts) other e = cc

pub field_unread : (found weakly named : Bool) (tag : List ℕ) (field : FieldValue) (others : Option (List TagValue))
    → said_of weakly named tag field ≡ None → option_map (so found weakly tag) (with_field named field others) ≡ None
field_unread found weakly true tag field others e = none_of_both found weakly tag (tags_of field.1) others e
field_unread found weakly false tag field others e = cc
