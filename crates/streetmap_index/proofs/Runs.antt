-- Features whose outlines are next to one another.
use Rattle.std.proofs.Common.{◌≡◌, ℕ, suc, ◌+◌, ◌-◌, ◌≤◌, ◌<◌, List, [], ◌∷◌, ◌++◌, All, Bool, true, false, cond, Some, option_map, length, take, drop, get_or}
use Rattle.std.proofs.Common.{map, refl, sym, ap, ap₂, subst, length-drop, ◌∙◌, append_assoc, arith, string_bytes}
use Rattle.std.specs.Prelude.{filter, slice_get}
use Rattle.std.specs.List.{AllByRecursion}
use Rattle.std.specs.FinMap.{get, entries, values}
use Rattle.std.proofs.lemmas.List.{take_more, take_all, drop_more, drop-drop, take-append-drop}
use Rattle.std.proofs.lemmas.List.Elements.{filter-append, All-append, All-cons, All-nil, All-tail}
use Rattle.std.proofs.lemmas.Option.{slice_get_within, get_or_from_slice_get}
use Rattle.streetmap_geojson.specs.FeatureValue.{FeatureValue}
use Rattle.streetmap_query.specs.QueryValue.{QueryValue}
use Rattle.streetmap_batch.specs.Text.{Text}
use Rattle.streetmap_ledger.specs.State.{State, Features, Collection}
use Rattle.streetmap_ledger.specs.WellFormed.{HoldsFeatures}
use Rattle.streetmap_ledger.specs.Pages.{is_candidate, candidates, selected, selects, run_in, is_between}
use Rattle.streetmap_ledger.specs.Outlines.{FeatureOutlineValue}
use Rattle.streetmap_ledger.specs.Folds.{IsFoldOf, HoldsCandidates}
use Rattle.streetmap_ledger.specs.declared.outline.FeatureOutline.{FeatureOutline}
use Rattle.streetmap_ledger.specs.declared.fold.PageFold.{PageFold}
use Rattle.streetmap_outlines.specs.Outlines.{Pairs}
use Rattle.streetmap_index.specs.OutlinePages.{IsExamined, HaveIds, TakesRun}
use Rattle.streetmap_outlines.proofs.Pairing.{IsThere, each_there, parted}

abbrev id_of : FeatureOutline → Text
id_of o = string_bytes o.id

abbrev ids : List FeatureOutline → List Text
ids os = map id_of os

abbrev named : List FeatureValue → List Text
named fs = map (λ (f : FeatureValue). f.id) fs

-- ---- features that were taken one by one

-- the first of these features were taken, which have the ids of as many outlines
pub record TakenSoFar (run : List FeatureOutline) (all rest : List FeatureValue) (old now : PageFold) (place : ℕ) : Type 0 where
  pub done : List FeatureValue
  pub whole : done ++ rest ≡ all
  pub within : place ≤ length run
  pub have : HaveIds (take place run) done
  pub holds : (q : QueryValue) (met : List FeatureValue) → IsFoldOf q old met → IsFoldOf q now (met ++ done)

ids_more : (xs ys : List FeatureOutline) (fs gs : List FeatureValue) → ids xs ≡ named fs → ids ys ≡ named gs → ids (xs ++ ys) ≡ named (fs ++ gs)
ids_more [] ys [] gs p q = q
ids_more [] ys (f ∷ fs) gs p q = absurd cc
ids_more (x ∷ xs) ys [] gs p q = absurd cc
ids_more (x ∷ xs) ys (f ∷ fs) gs p q =
    let head : id_of x ≡ f.id = cc in
    let tail : ids xs ≡ named fs = cc in
    ap₂ (λ (a : Text) (l : List Text). a ∷ l) head (ids_more xs ys fs gs tail q)

pub one_more_taken : (run : List FeatureOutline) (all rest : List FeatureValue) (old mid now : PageFold) (place : ℕ) (f : FeatureValue) (o : FeatureOutline) →
    TakenSoFar run all (f ∷ rest) old mid place
    → slice_get run place ≡ Some o → string_bytes o.id ≡ f.id → ((q : QueryValue) (fs : List FeatureValue) → IsFoldOf q mid fs → IsFoldOf q now (fs ++ f ∷ []))
    → TakenSoFar run all rest old now (place + 1)
one_more_taken run all rest old mid now place f o so there id takes =
    let low = slice_get_within run place o there in
    let at = get_or_from_slice_get run place o o there in
    let next : take (place + 1) run ≡ take place run ++ o ∷ [] = take_more run place o low ∙ ap (λ (x : FeatureOutline). take place run ++ x ∷ []) at in
    record {
      done = so.done ++ f ∷ [];
      whole = append_assoc so.done (f ∷ []) rest ∙ so.whole;
      within = omega (arith, low);
      have = ap ids next ∙ ids_more (take place run) (o ∷ []) so.done (f ∷ []) so.have (λ i. id i ∷ []);
      holds = λ q met held. subst (IsFoldOf q now) (append_assoc met so.done (f ∷ [])) (takes q (met ++ so.done) (so.holds q met held));
    }

-- ---- the features of a run

-- a feature under its id is the one with the outline
pub run_is : (features : Features) (os : List FeatureOutline) (fs gs : List FeatureValue) → Pairs features os fs → HaveIds os gs →
    AllByRecursion (λ g. get features g.id ≡ Some g) gs → fs ≡ gs
run_is features [] [] [] pairs have all = refl
run_is features [] [] (g ∷ gs) pairs have all = absurd cc
run_is features [] (f ∷ fs) gs pairs have all = absurd pairs
run_is features (o ∷ os) [] gs pairs have all = absurd pairs
run_is features (o ∷ os) (f ∷ fs) [] pairs have all = absurd cc
run_is features (o ∷ os) (f ∷ fs) (g ∷ gs) pairs have all =
    let head : id_of o ≡ g.id = cc in
    let tail : ids os ≡ named gs = cc in
    let known : id_of o ≡ f.id = ap (λ (v : FeatureOutlineValue). v.id) pairs.0.known in
    let both : Some f ≡ Some g = sym pairs.0.there ∙ ap (get features) (sym known ∙ head) ∙ all.0 in
    let same : f ≡ g = cc in
    ap₂ (λ (x : FeatureValue) (l : List FeatureValue). x ∷ l) same (run_is features os fs gs pairs.1 tail all.1)

there_by : (features : Features) (test : FeatureValue → Bool) (xs : List (Text × FeatureValue)) → AllByRecursion (λ x. IsThere features x.0 x.1) xs →
    AllByRecursion (λ g. get features g.id ≡ Some g) (filter test (map (λ x. x.1) xs))
there_by features test [] h = tt
there_by features test (x ∷ xs) h = elim (test x.1) as (λ b. AllByRecursion (λ (g : FeatureValue). get features g.id ≡ Some g)
    (cond b (x.1 ∷ filter test (map (λ (y : Text × FeatureValue). y.1) xs)) (filter test (map (λ (y : Text × FeatureValue). y.1) xs)))) [
      | true ↦ (ap (get features) h.0.named ∙ h.0.there, there_by features test xs h.1)
      | false ↦ there_by features test xs h.1
    ]

-- each feature of a run is under its id
pub run_there : (s : State) (name first last : Text) (c : Collection) (gs : List FeatureValue) → get s.collections name ≡ Some c → HoldsFeatures c → Some gs
    ≡ run_in s name first last → AllByRecursion (λ g. get c.features g.id ≡ Some g) gs
run_there s name first last c gs there holds is =
    let found : Some gs ≡ Some (filter (is_between first last) (values c.features)) = is
    ∙ ap (option_map (λ (d : Collection). filter (is_between first last) (values d.features))) there in
    let same : gs ≡ filter (is_between first last) (values c.features) = cc in
    subst (AllByRecursion (λ g. get c.features g.id ≡ Some g)) (sym same) (there_by c.features (is_between first last) (entries c.features)
    (each_there c holds))

-- ---- runs one after the other

pub taken_after : (s : State) (name : Text) (front following : List FeatureOutline) (old mid new : PageFold) → TakesRun name front old mid s true →
    TakesRun name following mid new s true → TakesRun name (front ++ following) old new s true
taken_after s name front following old mid new before here t c q met fs there pairs held =
    let parts = parted c.features front following fs pairs in
    subst (IsFoldOf q new) (append_assoc met parts.firsts parts.others ∙ ap (λ l. met ++ l) parts.whole)
    (here t c q (met ++ parts.firsts) parts.others there parts.other_pairs (before t c q met parts.firsts there parts.first_pairs held))

-- ---- a page with one more run

-- the outline that comes next
pub turn : (os : List FeatureOutline) (i : ℕ) (o : FeatureOutline) → i < length os → o ≡ get_or os i o → drop i os ≡ o ∷ drop (i + 1) os
turn os i o within is = drop_more os i o within ∙ ap (λ (x : FeatureOutline). x ∷ drop (i + 1) os) (sym is)

pub examined_more : (q : QueryValue) (os : List FeatureOutline) (i : ℕ) (o : FeatureOutline) → i < length os → o ≡ get_or os i o →
    All (IsExamined q) (take i os) → IsExamined q o → All (IsExamined q) (take (i + 1) os)
examined_more q os i o low is before one =
    let next : take (i + 1) os ≡ take i os ++ o ∷ [] = take_more os i o low ∙ ap (λ (x : FeatureOutline). take i os ++ x ∷ []) (sym is) in
    subst (All (IsExamined q)) (sym next) (All-append (IsExamined q) (take i os) (o ∷ []) before (All-cons (IsExamined q) o [] one (All-nil (IsExamined q))))

-- a page examines all of them
pub all_examined : (q : QueryValue) (features : Features) (os : List FeatureOutline) (fs : List FeatureValue) → All (IsExamined q) os → Pairs features os fs →
    candidates q fs ≡ fs
all_examined q features [] [] all pairs = refl
all_examined q features [] (f ∷ fs) all pairs = absurd pairs
all_examined q features (o ∷ os) [] all pairs = absurd pairs
all_examined q features (o ∷ os) (f ∷ fs) all pairs =
    rw (all 0 o (omega arith) f pairs.0.known) (ap (λ l. f ∷ l) (all_examined q features os fs (All-tail (IsExamined q) o os all) pairs.1))

pub run_held : (q : QueryValue) (old new : PageFold) (features : Features) (os : List FeatureOutline) (met fs : List FeatureValue) → All (IsExamined q) os →
    Pairs features os fs → HoldsCandidates q old met
    → (IsFoldOf q old (candidates q met) → IsFoldOf q new (candidates q met ++ fs)) → HoldsCandidates q new (met ++ fs)
run_held q old new features os met fs all pairs held takes =
    let same : candidates q (met ++ fs) ≡ candidates q met ++ fs = filter-append (is_candidate q) met fs
    ∙ ap (λ l. candidates q met ++ l) (all_examined q features os fs all pairs) in
    record {
      holds = subst (IsFoldOf q new) (sym same) (takes held.holds);
      whole = ap (selected q) same ∙ filter-append (selects q) (candidates q met) fs ∙ ap (λ l. l ++ selected q fs) held.whole
          ∙ sym (filter-append (selects q) met fs);
    }

pub rest_is : (os : List FeatureOutline) (i : ℕ) → take (length os - i) (drop i os) ≡ drop i os
rest_is os i = take_all (length os - i) (drop i os) (omega (arith, length-drop i os))

-- the outlines of a run, from this place on, and those after it
pub run_whole : (os : List FeatureOutline) (i n : ℕ) (o : FeatureOutline) → i < length os → o ≡ get_or os i o → (o ∷ take n (drop (i + 1) os))
    ++ drop (i + 1 + n) os ≡ drop i os
run_whole os i n o low is =
    ap (λ l. o ∷ (take n (drop (i + 1) os) ++ l)) (sym (drop-drop n (i + 1) os)) ∙ ap (λ l. o ∷ l) (take-append-drop n (drop (i + 1) os))
    ∙ sym (turn os i o low is)

pub run_front : (os : List FeatureOutline) (i n : ℕ) (o : FeatureOutline) → i < length os → o ≡ get_or os i o → take (i + 1 + n - i) (drop i os) ≡ o
    ∷ take n (drop (i + 1) os)
run_front os i n o low is =
    let long : i + 1 + n - i ≡ suc n = omega arith in
    ap (λ m. take m (drop i os)) long ∙ ap (take (suc n)) (turn os i o low is)
