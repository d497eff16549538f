-- The elements and members of a value, one at a time.
use Rattle.std.proofs.Common.{◌≡◌, ℕ, suc, ◌+◌, ◌≤◌, List, [], ◌∷◌, ◌++◌, length, map, drop, inl, inr, Result, Ok, Err, Global, refl, sym, ap, subst, ◌∙◌, add-one}
use Rattle.std.specs.Borrow.{Bor}
use Rattle.std.proofs.lemmas.List.{map-append, length-map, drop_all}
use Rattle.json.specs.declared.value.Value.{Value as Tree}
use Rattle.json.specs.Json as json
use Rattle.json.specs.Value.{items_of, value_view, items_view as json_items, members_view as json_members}
use Rattle.serde_json.specs.Data.{Data, Items, no_items, item, Members, no_members, put}
use Rattle.serde_json.specs.View.{view, items_view}
use Rattle.serde_json.specs.declared.value.Value.{Value}
use Rattle.streetmap_placing.specs.Placed.{Becomes, ItemsBecome, MembersBecome, items_count}
use Rattle.streetmap_placing.specs.Roles.{member_role, element_role}
use Rattle.streetmap_placing.specs.declared.fault.PlacingFault.{PlacingFault}
use Rattle.streetmap_placing.specs.declared.numbers.Numbers.{Numbers}
use Rattle.streetmap_placing.specs.declared.role.Role.{Role}
use Rattle.streetmap_json.proofs.Fronts.{before, one_more, before_none}

-- ---- elements after others

-- what the remaining elements become, after those already placed
abbrev pub following : List Data → Result Items PlacingFault → Result Items PlacingFault
following ds (Ok rest) = Ok (before ds rest)
following ds (Err f) = Err f

pub after_one_more : (ds : List Data) (d : Data) (r : Result Items PlacingFault)
    → following ds (following (d ∷ []) r) ≡ following (ds ++ d ∷ []) r
after_one_more ds d (Ok rest) = ap Ok (one_more ds d rest)
after_one_more ds d (Err f) = refl

pub after_none : (r : Result Items PlacingFault) → r ≡ following [] r
after_none (Ok rest) = refl
after_none (Err f) = refl

pub count_is : (js : List json.Json) → items_count (items_of js) ≡ length js
count_is [] = refl
count_is (j ∷ js) = ap suc (count_is js)

-- ---- a step

module _ (n : Numbers) (role : Role) where
  pub next_item : (count index : ℕ) (j : json.Json) (js : json.Items) (d : Data)
      (r : Result Items PlacingFault) → Becomes n (element_role role count index) j (Ok d)
      → ItemsBecome n role count (suc index) js r
      → ItemsBecome n role count index (json.item j js) (following (d ∷ []) r)
  next_item count index j js d (Ok rest) h k = (d, (h, (rest, (k, refl))))
  next_item count index j js d (Err e) h k = inr (d, (h, inl k))

  pub no_item : (count index : ℕ) (j : json.Json) (js : json.Items) (e : PlacingFault)
      → Becomes n (element_role role count index) j (Err e)
      → ItemsBecome n role count index (json.item j js) (Err e)
  no_item count index j js e h = inl h

  pub next_member : (name : List ℕ) (j : json.Json) (ms : json.Members) (found : Members) (d : Data)
      (r : Result Members PlacingFault) → Becomes n (member_role role name) j (Ok d)
      → MembersBecome n role ms (put name d found) r
      → MembersBecome n role (json.member name j ms) found r
  next_member name j ms found d (Ok all) h k = (d, (h, k))
  next_member name j ms found d (Err e) h k = inr (d, (h, k))

  pub no_member : (name : List ℕ) (j : json.Json) (ms : json.Members) (found : Members)
      (e : PlacingFault) → Becomes n (member_role role name) j (Err e)
      → MembersBecome n role (json.member name j ms) found (Err e)
  no_member name j ms found e h = inl h

-- ---- over the values of the code

pub count_of : (xs : List (Tree Global)) → length xs ≡ items_count (json_items xs)
count_of xs = sym (count_is (map value_view xs) ∙ length-map xs value_view)

module _ (n : Numbers) (role : Role) (xs : List (Tree Global)) where
  abbrev pub Becoming : (index : ℕ) → json.Items → Result Items PlacingFault → Type 0
  Becoming index = ItemsBecome n role (items_count (json_items xs)) index

  -- the element at the index, and those after it
  pub items_step : (i : ℕ) (x : Tree Global) (w : Role) (placed pushed : List Value) (v : Value)
      → ((r : Result Items PlacingFault) → Becoming i (json_items (drop i xs)) r
      → Becoming 0 (json_items xs) (following (map view placed) r)) → drop i xs ≡ x ∷ drop (i + 1) xs
      → w ≡ element_role role (items_count (json_items xs)) i
      → Becomes n w (value_view x) (Ok (view v)) → pushed ≡ placed ++ v ∷ []
      → (r : Result Items PlacingFault) → Becoming (i + 1) (json_items (drop (i + 1) xs)) r
      → Becoming 0 (json_items xs) (following (map view pushed) r)
  items_step i x w placed pushed v inv here is one added r k =
      let count = items_count (json_items xs) in
      let later = json_items (drop (i + 1) xs) in
      let rest : Becoming (suc i) later r = subst (λ (m : ℕ). Becoming m later r) (add-one i) k in
      let first = subst (λ (q : Role). Becomes n q (value_view x) (Ok (view v))) is one in
      let both = next_item n role count i (value_view x) later (view v) r first rest in
      let there = subst
      (λ (ys : List (Tree Global)). Becoming i (json_items ys) (following (view v ∷ []) r))
      (sym here) both in
      let seen : map view placed ++ view v ∷ [] ≡ map view pushed =
      sym (ap (map view) added ∙ map-append view placed (v ∷ [])) in
      subst (Becoming 0 (json_items xs))
      (after_one_more (map view placed) (view v) r ∙ ap (λ (ds : List Data). following ds r) seen)
      (inv (following (view v ∷ []) r) there)

  pub items_fault : (i : ℕ) (x : Tree Global) (w : Role) (placed : List Value) (e : PlacingFault)
      → ((r : Result Items PlacingFault) → Becoming i (json_items (drop i xs)) r
      → Becoming 0 (json_items xs) (following (map view placed) r)) → drop i xs ≡ x ∷ drop (i + 1) xs
      → w ≡ element_role role (items_count (json_items xs)) i → Becomes n w (value_view x) (Err e)
      → Becoming 0 (json_items xs) (Err e)
  items_fault i x w placed e inv here is one =
      let count = items_count (json_items xs) in
      let first = subst (λ (q : Role). Becomes n q (value_view x) (Err e)) is one in
      let there = subst (λ (ys : List (Tree Global)). Becoming i (json_items ys) (Err e)) (sym here)
      (no_item n role count i (value_view x) (json_items (drop (i + 1) xs)) e first) in
      inv (Err e) there

  pub items_end : (i : ℕ) (placed : List Value)
      → ((r : Result Items PlacingFault) → Becoming i (json_items (drop i xs)) r
      → Becoming 0 (json_items xs) (following (map view placed) r)) → length xs ≤ i
      → Becoming 0 (json_items xs) (Ok (items_view placed))
  items_end i placed inv end =
      let none : [] ≡ drop i xs = sym (drop_all i xs end) in
      let last = subst (λ (ys : List (Tree Global)). Becoming i (json_items ys) (Ok no_items)) none
      refl in
      subst (λ (ds : Items). Becoming 0 (json_items xs) (Ok ds)) (before_none placed)
      (inv (Ok no_items) last)

abbrev pub Named : Type 0
Named = Bor (List ℕ) × Tree Global

module _ (n : Numbers) (role : Role) (xs : List Named) where
  -- the member at the index, and those after it
  pub members_step : (i : ℕ) (x : Named) (w : Role) (found more : Members) (v : Value)
      → ((r : Result Members PlacingFault) → MembersBecome n role (json_members (drop i xs)) found r
      → MembersBecome n role (json_members xs) no_members r) → drop i xs ≡ x ∷ drop (i + 1) xs
      → w ≡ member_role role x.0.now → Becomes n w (value_view x.1) (Ok (view v))
      → more ≡ put x.0.now (view v) found
      → (r : Result Members PlacingFault) → MembersBecome n role (json_members (drop (i + 1) xs))
      more r → MembersBecome n role (json_members xs) no_members r
  members_step i x w found more v inv here is one added r k =
      let later = json_members (drop (i + 1) xs) in
      let rest = subst (λ (ms : Members). MembersBecome n role later ms r) added k in
      let first = subst (λ (q : Role). Becomes n q (value_view x.1) (Ok (view v))) is one in
      let both = next_member n role x.0.now (value_view x.1) later found (view v) r first rest in
      inv r (subst (λ (ys : List Named). MembersBecome n role (json_members ys) found r) (sym here)
      both)
