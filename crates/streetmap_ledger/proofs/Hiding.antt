-- Features that are counted and that the page does not show.
use Rattle.std.proofs.Common.{◌≡◌, ◌≤◌, ◌+◌, ℕ, All, List, [], ◌∷◌, ◌++◌, Bool, true, false, cond, IsTrue, length, take, refl, sym, ap, ◌∙◌, append-nil}
use Rattle.std.proofs.Common.{length-append, arith}
use Rattle.std.specs.Prelude.{◌||◌, ◌&&◌, filter, nat_lt}
use Rattle.std.proofs.lemmas.Bool.Decides.{nat_tests}
use Rattle.std.proofs.lemmas.List.{length-take, take-append-le}
use Rattle.std.proofs.lemmas.List.Elements.{filter-append, All-head, All-tail, All-weaker}
use Rattle.streetmap_geojson.specs.FeatureValue.{FeatureValue}
use Rattle.streetmap_query.specs.QueryValue.{QueryValue}
use Rattle.streetmap_query.specs.Views.{query_value}
use Rattle.streetmap_ledger.specs.Pages.{selects, selected, comes_after, following, rest_of, saturated}
use Rattle.streetmap_ledger.specs.Folds.{IsFoldOf, IsFull, AreHidden}
use Rattle.streetmap_ledger.specs.declared.fold.PageFold.{PageFold}

filter_all : {X : Type 0} (p : X → Bool) (xs : List X) → All (λ x. p x ≡ true) xs → filter p xs ≡ xs
filter_all p [] h = refl
filter_all {X} p (x ∷ xs) h =
    let P : X → Type 0 = λ y. p y ≡ true in
    rw (All-head P x xs h) (ap (λ l. x ∷ l) (filter_all p xs (All-tail P x xs h)))

filter_none : {X : Type 0} (p : X → Bool) (xs : List X) → All (λ x. p x ≡ false) xs → filter p xs ≡ []
filter_none p [] h = refl
filter_none {X} p (x ∷ xs) h =
    let P : X → Type 0 = λ y. p y ≡ false in
    rw (All-head P x xs h) (filter_none p xs (All-tail P x xs h))

-- either all hidden features come after the id of the query, or none does
filter_either : {X : Type 0} (p : X → Bool) (b : Bool) (xs : List X) → All (λ x. p x ≡ b) xs → filter p xs ≡ cond b xs []
filter_either p true xs h = filter_all p xs h
filter_either p false xs h = filter_none p xs h

more_selected : (q : QueryValue) (b : Bool) (fs gs : List FeatureValue) → AreHidden q b gs → selected q (fs ++ gs) ≡ selected q fs ++ gs
more_selected q b fs gs h =
    let all = All-weaker (λ (f : FeatureValue). (selects q f ≡ true) × (comes_after q.after f ≡ b)) (λ f. selects q f ≡ true) (λ f k. k.0) gs h in
    filter-append (selects q) fs gs ∙ ap (λ l. selected q fs ++ l) (filter_all (selects q) gs all)

more_rest : (q : QueryValue) (b : Bool) (fs gs : List FeatureValue) → AreHidden q b gs → rest_of q (fs ++ gs) ≡ rest_of q fs ++ cond b gs []
more_rest q b fs gs h =
    let all = All-weaker (λ (f : FeatureValue). (selects q f ≡ true) × (comes_after q.after f ≡ b)) (λ f. comes_after q.after f ≡ b) (λ f k. k.1) gs h in
    ap (following q.after) (more_selected q b fs gs h)
    ∙ (filter-append (comes_after q.after) (selected q fs) gs ∙ ap (λ l. rest_of q fs ++ l) (filter_either (comes_after q.after) b gs all))

shown_so_far : (b : Bool) (limit : ℕ) (rest gs : List FeatureValue) → (IsTrue b → limit ≤ length rest) → take limit rest ≡ take limit (rest ++ cond b gs [])
shown_so_far true limit rest gs full = sym (take-append-le limit rest gs (full refl))
shown_so_far false limit rest gs full = ap (take limit) (sym (append-nil rest))

or_no : (m : Bool) → (m || false) ≡ m
or_no true = refl
or_no false = refl

or_some : (m : Bool) (limit n k : ℕ) → m ≡ nat_lt limit n → limit ≤ n → (m || nat_lt 0 k) ≡ nat_lt limit (n + k)
or_some true limit n k is le = grind (arith, nat_tests)
or_some false limit n k is le = grind (arith, nat_tests)

more_follow : (b : Bool) (m : Bool) (limit : ℕ) (rest gs : List FeatureValue) → m ≡ nat_lt limit (length rest) → (IsTrue b → limit ≤ length rest)
    → (m || (b && nat_lt 0 (length gs))) ≡ nat_lt limit (length (rest ++ cond b gs []))
more_follow true m limit rest gs is full = or_some m limit (length rest) (length gs) is (full refl) ∙ ap (nat_lt limit) (sym (length-append rest gs))
more_follow false m limit rest gs is full = or_no m ∙ (is ∙ ap (λ l. nat_lt limit (length l)) (sym (append-nil rest)))

counted : (n : ℕ) (xs gs : List FeatureValue) → n ≡ saturated (length xs) → saturated (n + length gs) ≡ saturated (length (xs ++ gs))
counted n xs gs is = let e = length-append xs gs in omega (arith, e, is)

-- the fold holds the page of the hidden features too
pub all_hidden : (q : QueryValue) (old new : PageFold) (b : Bool) (fs gs : List FeatureValue) → IsFoldOf q old fs → AreHidden q b gs → (IsTrue b → IsFull old)
    → new.query ≡ old.query → new.features ≡ old.features → new.more ≡ (old.more || (b && nat_lt 0 (length gs))) → new.matched
    ≡ saturated (old.matched + length gs) → new.examined ≡ saturated (old.examined + length gs)
    → IsFoldOf q new (fs ++ gs)
all_hidden q old new b fs gs held hidden full query features more matched examined =
    let limit : old.query.now.limit ≡ q.limit = ap (λ (v : QueryValue). v.limit) held.is_for in
    let shown : length old.features.items ≤ length (rest_of q fs) =
    let e = ap length held.shown ∙ length-take q.limit (rest_of q fs) in omega (arith, e) in
    let room : IsTrue b → q.limit ≤ length (rest_of q fs) = λ t. let f = full t in omega (arith, limit, f, shown) in
    let rest = more_rest q b fs gs hidden in
    record {
      is_for = ap (λ x. query_value x.now) query ∙ held.is_for;
      shown = ap (λ x. x.items) features ∙ (held.shown ∙ (shown_so_far b q.limit (rest_of q fs) gs room ∙ ap (take q.limit) (sym rest)));
      matched = matched ∙ (counted old.matched (selected q fs) gs held.matched ∙ ap (λ l. saturated (length l)) (sym (more_selected q b fs gs hidden)));
      more = more ∙ (more_follow b old.more q.limit (rest_of q fs) gs held.more room ∙ ap (λ l. nat_lt q.limit (length l)) (sym rest));
      examined = examined ∙ counted old.examined fs gs held.examined;
    }
