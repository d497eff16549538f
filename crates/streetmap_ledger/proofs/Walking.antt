-- A walk over the pages of a collection misses nothing and repeats nothing.
use Rattle.std.proofs.Common.{◌≡◌, ℕ, zero, suc, ◌-◌, ◌<◌, ◌≤◌, List, [], ◌∷◌, ◌++◌, Bool, true, false, cond, T, Option, None, Some, length, take, drop, get_or}
use Rattle.std.proofs.Common.{map, nat_lt, refl, sym, ap, subst, ◌∙◌, arith, append-nil, length-drop}
use Rattle.std.specs.Prelude.{filter, slice_get, All}
use Rattle.std.specs.Option.{option_map}
use Rattle.std.specs.Ordering.{is_gt, is_lt, is_eq, ordering_reverse}
use Rattle.std.specs.declared.cmp.Ordering.{Ordering}
use Rattle.std.specs.declared.cmp.Ordering.TheVariants.{Less, Equal, Greater}
use Rattle.std.specs.Cmp.Lexicographic.{nat_list_cmp_total}
use Rattle.std.specs.FinMap.{get, entries, entries_sorted, values, find, is_sorted, get-entries}
use Rattle.std.specs.FinMap.Entries.{below_all}
use Rattle.std.proofs.lemmas.Cmp.{tied_itself}
use Rattle.std.proofs.lemmas.List.{take_all, take-append-drop}
use Rattle.std.proofs.lemmas.Option.{slice_get_read}
use Rattle.std.proofs.lemmas.List.Elements.{All-nil, All-cons}
use Rattle.std.proofs.lemmas.Bool.Decides.{nat_tests}
use Rattle.streetmap_geojson.specs.FeatureValue.{FeatureValue}
use Rattle.streetmap_query.specs.QueryValue.{QueryValue}
use Rattle.streetmap_batch.specs.Text.{Text, text_cmp}
use Rattle.streetmap_ledger.specs.State.{Features}
use Rattle.streetmap_ledger.specs.Pages.{PageValue, selects, selected, comes_after, following, last_id, saturated}
use Rattle.streetmap_ledger.specs.Walks.{page_after, IsWalk, ends, goes_on, shown, WalksShowAll}
use Rattle.streetmap_ledger.proofs.TextMaps.{one_text}
use Rattle.streetmap_ledger.proofs.TextMaps.{first, second, none_below}

-- ---- the order of ids
greater : (a b : Text) → text_cmp a b ≡ Less → is_gt (text_cmp b a) ≡ true
greater a b e = ap is_gt (nat_list_cmp_total.antisymm b a ∙ ap ordering_reverse e)

turned : (r s : Ordering) → s ≡ ordering_reverse r → is_gt r ≡ true → s ≡ Less
turned Less s e h = cc
turned Equal s e h = cc
turned Greater s e h = e

less : (a b : Text) → is_gt (text_cmp b a) ≡ true → text_cmp a b ≡ Less
less a b h = turned (text_cmp b a) (text_cmp a b) (nat_list_cmp_total.antisymm a b) h

-- the id is below those of all the features
abbrev Below : Text → List FeatureValue → Type 0
Below id [] = Unit {0}
Below id (f ∷ fs) = (text_cmp id f.id ≡ Less) × Below id fs

-- the features are in order of ids
abbrev Ascends : List FeatureValue → Type 0
Ascends [] = Unit {0}
Ascends (f ∷ fs) = Below f.id fs × Ascends fs

-- the last one of a list that is not empty
abbrev end_of : FeatureValue → List FeatureValue → FeatureValue
end_of f [] = f
end_of f (g ∷ gs) = end_of g gs

end_at : (f : FeatureValue) (fs : List FeatureValue) (d : FeatureValue) → get_or (f ∷ fs) (length fs) d ≡ end_of f fs
end_at f [] d = refl
end_at f (g ∷ gs) d = end_at g gs d

last_is : (f : FeatureValue) (fs : List FeatureValue) → last_id (f ∷ fs) ≡ Some (end_of f fs).id
last_is f fs =
    let at : length (f ∷ fs) - 1 ≡ length fs = omega arith in
    ap (option_map (λ (g : FeatureValue). g.id)) (ap (slice_get (f ∷ fs)) at ∙ slice_get_read (f ∷ fs) (length (f ∷ fs)) (length fs) (end_of f fs) refl
    (omega arith) (sym (end_at f fs (end_of f fs))))

-- ---- what comes after an id
all_after : (id : Text) (fs : List FeatureValue) → Below id fs → following (Some id) fs ≡ fs
all_after id [] h = refl
all_after id (f ∷ fs) h = ap (λ b. cond b (f ∷ following (Some id) fs) (following (Some id) fs)) (greater id f.id h.0) ∙ ap (λ gs. f ∷ gs) (all_after id fs h.1)

not_after : (r : Ordering) → r ≡ Less → is_gt r ≡ false
not_after r e = ap is_gt e

itself : (id : Text) → is_gt (text_cmp id id) ≡ false
itself id = ap is_gt (tied_itself nat_list_cmp_total id)

below_end : (id : Text) (f : FeatureValue) (fs : List FeatureValue) (n : ℕ) → Below id (f ∷ fs) → text_cmp id (end_of f (take n fs)).id ≡ Less
below_end id f fs zero h = h.0
below_end id f [] (suc n) h = h.0
below_end id f (g ∷ gs) (suc n) h = below_end id g gs n h.1

-- the others come after the last of the first ones
after_end : (f : FeatureValue) (fs : List FeatureValue) (n : ℕ) → Ascends (f ∷ fs) → following (Some (end_of f (take n fs)).id) (f ∷ fs) ≡ drop n fs
after_end f fs zero up = ap (λ b. cond b (f ∷ following (Some f.id) fs) (following (Some f.id) fs)) (itself f.id) ∙ all_after f.id fs up.0
after_end f [] (suc n) up = ap (λ b. cond {A = List FeatureValue} b (f ∷ []) []) (itself f.id)
after_end f (g ∷ gs) (suc n) up =
    let id = (end_of g (take n gs)).id in
    ap (λ b. cond b (f ∷ following (Some id) (g ∷ gs)) (following (Some id) (g ∷ gs))) (not_after _ (below_end f.id g gs n up.0)) ∙ after_end g gs n up.1

-- ---- filters of features in order
below_by : (id : Text) (f : FeatureValue) (gs : List FeatureValue) → text_cmp id f.id ≡ Less → Below id gs → (b : Bool) → Below id (cond b (f ∷ gs) gs)
below_by id f gs here rest true = (here, rest)
below_by id f gs here rest false = rest

below_some : (p : FeatureValue → Bool) (id : Text) (fs : List FeatureValue) → Below id fs → Below id (filter p fs)
below_some p id [] h = tt
below_some p id (f ∷ fs) h = below_by id f (filter p fs) h.0 (below_some p id fs h.1) (p f)

ascends_by : (f : FeatureValue) (gs : List FeatureValue) → Below f.id gs → Ascends gs → (b : Bool) → Ascends (cond b (f ∷ gs) gs)
ascends_by f gs low up true = (low, up)
ascends_by f gs low up false = up

ascends_some : (p : FeatureValue → Bool) (fs : List FeatureValue) → Ascends fs → Ascends (filter p fs)
ascends_some p [] up = tt
ascends_some p (f ∷ fs) up = ascends_by f (filter p fs) (below_some p f.id fs up.0) (ascends_some p fs up.1) (p f)

-- what comes after an id that comes after another, comes after that one too
after_both : (after : Option Text) (e f : FeatureValue) → comes_after after e ≡ true → comes_after (Some e.id) f ≡ true → comes_after after f ≡ true
after_both None e f h k = refl
after_both (Some id) e f h k = greater id f.id (nat_list_cmp_total.trans id e.id f.id (less id e.id h) (less e.id f.id k))

twice_by : (after : Option Text) (e f : FeatureValue) (fs : List FeatureValue) → comes_after after e ≡ true → following (Some e.id) (following after fs)
    ≡ following (Some e.id) fs → (b a : Bool) → comes_after (Some e.id) f ≡ b → comes_after after f ≡ a →
    following (Some e.id) (cond a (f ∷ following after fs) (following after fs)) ≡ cond b (f ∷ following (Some e.id) fs) (following (Some e.id) fs)
twice_by after e f fs h rest true true i j = ap (λ t. cond t (f ∷ following (Some e.id) (following after fs)) (following (Some e.id) (following after fs))) i
    ∙ ap (λ gs. f ∷ gs) rest
twice_by after e f fs h rest false true i j = ap (λ t. cond t (f ∷ following (Some e.id) (following after fs)) (following (Some e.id) (following after fs))) i
    ∙ rest
twice_by after e f fs h rest true false i j = let both : comes_after after f ≡ true = after_both after e f h i in cc
twice_by after e f fs h rest false false i j = rest

after_twice : (after : Option Text) (e : FeatureValue) (fs : List FeatureValue) → comes_after after e ≡ true → following (Some e.id) (following after fs)
    ≡ following (Some e.id) fs
after_twice after e [] h = refl
after_twice after e (f ∷ fs) h = twice_by after e f fs h (after_twice after e fs h) (comes_after (Some e.id) f) (comes_after after f) refl refl

-- all features that are kept after an id come after it
abbrev Every : (FeatureValue → Type 0) → List FeatureValue → Type 0
Every P [] = Unit {0}
Every P (f ∷ fs) = P f × Every P fs

every_by : (after : Option Text) (f : FeatureValue) (gs : List FeatureValue) → Every (λ g. comes_after after g ≡ true) gs → (b : Bool) → comes_after after f ≡ b
    → Every (λ g. comes_after after g ≡ true) (cond b (f ∷ gs) gs)
every_by after f gs rest true e = (e, rest)
every_by after f gs rest false e = rest

every_after : (after : Option Text) (fs : List FeatureValue) → Every (λ f. comes_after after f ≡ true) (following after fs)
every_after after [] = tt
every_after after (f ∷ fs) = every_by after f (following after fs) (every_after after fs) (comes_after after f) refl

every_end : (P : FeatureValue → Type 0) (f : FeatureValue) (fs : List FeatureValue) (n : ℕ) → Every P (f ∷ fs) → P (end_of f (take n fs))
every_end P f fs zero h = h.0
every_end P f [] (suc n) h = h.0
every_end P f (g ∷ gs) (suc n) h = every_end P g gs n h.1

-- ---- one page
abbrev next_of : ℕ → List FeatureValue → Option Text
next_of limit rest = cond (nat_lt limit (length rest)) (last_id (take limit rest)) None

not_more : (a b : ℕ) → nat_lt a b ≡ false → b ≤ a
not_more a b e = grind (arith, nat_tests)

more : (a b : ℕ) → nat_lt a b ≡ true → a < b
more a b e = grind (arith, nat_tests)

-- a last page shows all of the rest
shows_rest : (limit : ℕ) (rest : List FeatureValue) → 1 ≤ limit → next_of limit rest ≡ None → take limit rest ≡ rest
shows_rest limit rest some none = by (nat_lt limit (length rest)) refl none where
  nothing : (l : ℕ) (r : List FeatureValue) → 1 ≤ l → l < length r → last_id (take l r) ≡ None → take l r ≡ r
  nothing zero r one h e = absurd (omega arith)
  nothing (suc n) [] one h e = absurd (omega arith)
  nothing (suc n) (f ∷ fs) one h e = let last = last_is f (take n fs) in cc

  by : (b : Bool) → nat_lt limit (length rest) ≡ b → cond b (last_id (take limit rest)) None ≡ None → take limit rest ≡ rest
  by true is e = nothing limit rest some (more _ _ is) e
  by false is e = take_all limit rest (not_more _ _ is)

-- a page with a next id: it is full, and the others come after its last id
pub record Follows (limit : ℕ) (after : Option Text) (id : Text) (fs : List FeatureValue) : Type 0 where
  pub full : limit < length (following after fs)
  pub others : following (Some id) fs ≡ drop limit (following after fs)

follows_on : (limit : ℕ) (after : Option Text) (id : Text) (fs rest : List FeatureValue) → rest ≡ following after fs → Ascends rest →
    Every (λ f. comes_after after f ≡ true) rest → 1 ≤ limit → limit < length rest → last_id (take limit rest) ≡ Some id → following (Some id) fs
    ≡ drop limit rest
follows_on zero after id fs rest is up all one h e = absurd (omega arith)
follows_on (suc n) after id fs [] is up all one h e = absurd (omega arith)
follows_on (suc n) after id fs (f ∷ gs) is up all one h e =
    let last = end_of f (take n gs) in
    let last_id_is = last_is f (take n gs) in
    let same : last.id ≡ id = cc in
    subst (λ i. following (Some i) fs ≡ drop n gs) same
    (sym (after_twice after last fs (every_end (λ g. comes_after after g ≡ true) f gs n all)) ∙ (ap (following (Some last.id)) (sym is) ∙ after_end f gs n up))

follows : (limit : ℕ) (after : Option Text) (id : Text) (fs : List FeatureValue) → Ascends fs → 1 ≤ limit → next_of limit (following after fs) ≡ Some id →
    Follows limit after id fs
follows limit after id fs up some e = by (nat_lt limit (length (following after fs))) refl e where
  by : (b : Bool) → nat_lt limit (length (following after fs)) ≡ b → cond b (last_id (take limit (following after fs))) None ≡ Some id →
      Follows limit after id fs
  by true is h = record {
    full = more _ _ is;
    others = follows_on limit after id fs (following after fs) refl (ascends_some (comes_after after) fs up) (every_after after fs) some (more _ _ is) h;
  }
  by false is h = cc

has_next : (limit : ℕ) (rest : List FeatureValue) → 1 ≤ limit → limit < length rest → (id : Text) × (last_id (take limit rest) ≡ Some id)
has_next zero rest one h = absurd (omega arith)
has_next (suc n) [] one h = absurd (omega arith)
has_next (suc n) (f ∷ fs) one h = ((end_of f (take n fs)).id, last_is f (take n fs))

-- ---- walks
module _ (q : QueryValue) (fs : List FeatureValue) (some : 1 ≤ q.limit) (up : Ascends (selected q fs)) where
  abbrev Reports : PageValue → Type 0
  Reports p = p.matched ≡ saturated (length (selected q fs))

  walk_shows : (after : Option Text) (pages : List PageValue) → IsWalk q fs after pages → (shown pages ≡ following after (selected q fs)) × All Reports pages
  walk_shows _ _ (ends after none) = (
    append-nil _ ∙ shows_rest q.limit (following after (selected q fs)) some none,
    All-cons Reports (page_after q fs after) [] refl (All-nil Reports),
  )
  walk_shows _ _ (goes_on after id pages next walk) =
      let on = follows q.limit after id (selected q fs) up some next in
      let rest = walk_shows (Some id) pages walk in (
        ap (λ gs. take q.limit (following after (selected q fs)) ++ gs) (rest.0 ∙ on.others) ∙ take-append-drop q.limit (following after (selected q fs)),
        All-cons Reports (page_after q fs after) pages refl rest.1,
      )

  no_more : (after : Option Text) → nat_lt q.limit (length (following after (selected q fs))) ≡ false → (pages : List PageValue) × IsWalk q fs after pages
  no_more after is = (page_after q fs after ∷ [], ends after (ap (λ t. cond t (last_id (take q.limit (following after (selected q fs)))) None) is))

  -- the next id, after which fewer features follow
  next_one : (after : Option Text) → nat_lt q.limit (length (following after (selected q fs))) ≡ true → (id : Text) × ((page_after q fs after).next ≡ Some id)
      × (length (following (Some id) (selected q fs)) < length (following after (selected q fs)))
  next_one after is =
      let rest = following after (selected q fs) in
      let next = has_next q.limit rest some (more _ _ is) in
      let reported_next : (page_after q fs after).next ≡ Some next.0 = ap (λ t. cond t (last_id (take q.limit rest)) None) is ∙ next.1 in
      let on = follows q.limit after next.0 (selected q fs) up some reported_next in
      let fewer : length (following (Some next.0) (selected q fs)) ≡ length rest - q.limit = ap length on.others ∙ length-drop q.limit rest in
      let room : q.limit < length rest = more _ _ is in
      (next.0, reported_next, omega arith)

  walk_by : (n : ℕ) (after : Option Text) → length (following after (selected q fs)) ≤ n →
      ((id : Text) → length (following (Some id) (selected q fs)) < n → (pages : List PageValue) × IsWalk q fs (Some id) pages) →
      (b : Bool) → nat_lt q.limit (length (following after (selected q fs))) ≡ b → (pages : List PageValue) × IsWalk q fs after pages
  walk_by n after few later true is =
      let next = next_one after is in
      let rest = later next.0 (omega (arith, next.2)) in
      (page_after q fs after ∷ rest.0, goes_on after next.0 rest.0 next.1 rest.1)
  walk_by n after few later false is = no_more after is

  walk_from : (n : ℕ) (after : Option Text) → length (following after (selected q fs)) ≤ n → (pages : List PageValue) × IsWalk q fs after pages
  walk_from zero after few = walk_by zero after few (λ id fewer. absurd (omega arith)) (nat_lt q.limit (length (following after (selected q fs)))) refl
  walk_from (suc n) after few = walk_by (suc n) after few (λ id fewer. walk_from n (Some id) (omega arith))
      (nat_lt q.limit (length (following after (selected q fs)))) refl

-- ---- the features of a well-formed collection are in order of ids
pub is_less : (r : Ordering) → T (is_lt r) → r ≡ Less
is_less Less h = refl
is_less Equal h = absurd h
is_less Greater h = absurd h

-- each feature of the entries has its key as id
abbrev Named : List (Text × FeatureValue) → Type 0
Named [] = Unit {0}
Named (e ∷ es) = (e.1.id ≡ e.0) × Named es

named_all : (es : List (Text × FeatureValue)) → T (is_sorted text_cmp es) → ((id : Text) (f : FeatureValue) → find text_cmp id es ≡ Some f → f.id ≡ id) →
    Named es
named_all [] up named = tt
named_all (e ∷ es) up named = (
  named e.0 e.1 (ap (λ r. cond (is_eq r) (Some e.1) (find text_cmp e.0 es)) (tied_itself nat_list_cmp_total e.0)),
  named_all es (second _ _ up) (λ id f there. named id f (later id f there (text_cmp id e.0) refl)),
) where
  later : (id : Text) (f : FeatureValue) → find text_cmp id es ≡ Some f → (r : Ordering) → text_cmp id e.0 ≡ r →
      cond (is_eq (text_cmp id e.0)) (Some e.1) (find text_cmp id es) ≡ Some f
  later id f there Less is = ap (λ r. cond (is_eq r) (Some e.1) (find text_cmp id es)) is ∙ there
  later id f there Greater is = ap (λ r. cond (is_eq r) (Some e.1) (find text_cmp id es)) is ∙ there
  later id f there Equal is =
      let none : find text_cmp id es ≡ None = ap (λ k. find text_cmp k es) (one_text id e.0 is) ∙ none_below e.0 es (first _ _ up) in
      cc

below_all_ids : (id : Text) (es : List (Text × FeatureValue)) → T (below_all text_cmp id es) → Named es → Below id (map (λ e. e.1) es)
below_all_ids id [] low named = tt
below_all_ids id (e ∷ es) low named = (ap (text_cmp id) named.0 ∙ is_less _ (first _ _ low), below_all_ids id es (second _ _ low) named.1)

ascends_all : (es : List (Text × FeatureValue)) → T (is_sorted text_cmp es) → Named es → Ascends (map (λ e. e.1) es)
ascends_all [] up named = tt
ascends_all (e ∷ es) up named = (
  let P : Text → Type 0 = λ id. Below id (map (λ x. x.1) es) in
      subst P (sym named.0) (below_all_ids e.0 es (first _ _ up) named.1),
  ascends_all es (second _ _ up) named.1,
)

values_ascend : (features : Features) → ((id : Text) (f : FeatureValue) → get features id ≡ Some f → f.id ≡ id) → Ascends (values features)
values_ascend features named = ascends_all (entries features) (entries_sorted features) (named_all (entries features) (entries_sorted features)
    (λ id f there. named id f (get-entries features id ∙ there)))

after_none : (fs : List FeatureValue) → following None fs ≡ fs
after_none [] = refl
after_none (f ∷ fs) = ap (λ gs. f ∷ gs) (after_none fs)

pub walks_show_all : WalksShowAll
walks_show_all s name c q sound there some =
    let fs = values c.features in
    let up = ascends_some (selects q) fs (values_ascend c.features (λ id f e. ((sound.made name c there).holds id f e).named)) in (
      λ pages walk.
          let shows = walk_shows q fs some up None pages walk in
          record { whole = shows.0 ∙ after_none (selected q fs); matched = shows.1 },
      walk_from q fs some up (length (following None (selected q fs))) None (omega arith),
    )
