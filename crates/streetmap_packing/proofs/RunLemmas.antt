-- Runs: the cut of a list is unique, and it is made element by element.
use Rattle.std.proofs.Common.{◌≡◌, ◌≢◌, ℕ, ◌+◌, Bool, true, false, List, [], ◌∷◌, ◌++◌, ◌⊎◌, inl}
use Rattle.std.proofs.Common.{inr, length, refl, sym, ap, subst, ◌∙◌, arith, append_assoc}
use Rattle.std.proofs.lemmas.List.{append-nil}
use Rattle.streetmap_packing.specs.Runs.{Stops, IsLongestRun, AreRuns, TakesNoMore, AreDone}

nil_cons : {A : Type 0} {P : Type 0} (x : A) (xs : List A) → [] ≡ x ∷ xs → P
nil_cons x xs e = cc

heads : {A : Type 0} (x y : A) (xs ys : List A) → x ∷ xs ≡ y ∷ ys → x ≡ y
heads x y xs ys e = cc

tails : {A : Type 0} (x y : A) (xs ys : List A) → x ∷ xs ≡ y ∷ ys → xs ≡ ys
tails x y xs ys e = cc

-- two ways to split a list in two: us is at least as long as xs, and begins with it
abbrev Longer : {A : Type 0} → List A → List A → List A → List A → Type 0
Longer {A} xs ys us vs = (zs : List A) × (us ≡ xs ++ zs) × (ys ≡ zs ++ vs)

step : {A : Type 0} (x y : A) (xs ys us vs : List A) → x ≡ y →
    Longer xs ys us vs ⊎ Longer us vs xs ys →
    Longer (x ∷ xs) ys (y ∷ us) vs ⊎ Longer (y ∷ us) vs (x ∷ xs) ys
step x y xs ys us vs e (inl l) = inl (l.0, rw e (ap (λ t. y ∷ t) l.1), l.2)
step x y xs ys us vs e (inr l) = inr (l.0, rw e (ap (λ t. y ∷ t) l.1), l.2)

compare : {A : Type 0} (xs ys us vs : List A) → xs ++ ys ≡ us ++ vs →
    Longer xs ys us vs ⊎ Longer us vs xs ys
compare [] ys us vs e = inl (us, refl, e)
compare (x ∷ xs) ys [] vs e = inr (x ∷ xs, refl, sym e)
compare (x ∷ xs) ys (u ∷ us) vs e = step x u xs ys us vs (heads x u _ _ e)
    (compare xs ys us vs (tails x u _ _ e))

true_false : {P : Type 0} (b : Bool) → b ≡ true → b ≡ false → P
true_false b t f = cc

module _ (A : Type 0) (passes : ℕ → List A → Bool)
    (shorter : (n : ℕ) (xs ys : List A) → passes n (xs ++ ys) ≡ true → passes n xs ≡ true) where
  -- a run that stops is not a proper prefix of another run that passes
  no_longer : (n : ℕ) (run rest us vs : List A) → Stops passes n run rest → passes n us ≡ true →
      Longer run rest us vs → (run ≡ us) × (rest ≡ vs)
  no_longer n run rest us vs stops passed l = by_more l.0 rest l.1 l.2 stops where
    by_more : (zs rest : List A) → us ≡ run ++ zs → rest ≡ zs ++ vs → Stops passes n run rest →
        (run ≡ us) × (rest ≡ vs)
    by_more [] rest e f s = (sym (e ∙ append-nil run), f)
    by_more (z ∷ zs) [] e f s = nil_cons z (zs ++ vs) f
    by_more (z ∷ zs) (y ∷ rest) e f s =
        let begun : passes n ((run ++ z ∷ []) ++ zs) ≡ true = ap (passes n)
        (append_assoc run (z ∷ []) zs ∙ sym e) ∙ passed in
        let not : passes n (run ++ z ∷ []) ≡ false = ap (λ t. passes n (run ++ t ∷ []))
        (sym (heads y z _ _ f)) ∙ s in
        true_false _ (shorter n (run ++ z ∷ []) zs begun) not

  pub same_front : (n : ℕ) (xs run rest us vs : List A) → IsLongestRun passes n xs run rest →
      IsLongestRun passes n xs us vs → (run ≡ us) × (rest ≡ vs)
  same_front n xs run rest us vs a b = by (compare run rest us vs (sym a.whole ∙ b.whole)) where
    by : Longer run rest us vs ⊎ Longer us vs run rest → (run ≡ us) × (rest ≡ vs)
    by (inl l) = no_longer n run rest us vs a.stops b.passed l
    by (inr l) = let e = no_longer n us vs run rest b.stops a.passed l in (sym e.0, sym e.1)

  -- an empty list has no longest run
  no_front : {P : Type 0} (n : ℕ) (xs run rest : List A) → xs ≡ [] → IsLongestRun passes n xs run rest →
      P
  no_front n xs [] rest e f = absurd (f.some refl)
  no_front n xs (x ∷ run) rest e f = nil_cons x (run ++ rest) (sym e ∙ f.whole)

  -- what stops a run still stops it if the list is longer
  stops_with : (n : ℕ) (run rest more : List A) → Stops passes n run rest →
      TakesNoMore passes n run rest → Stops passes n run (rest ++ more)
  stops_with n run [] [] stops full = tt
  stops_with n run [] (x ∷ more) stops full = full refl x
  stops_with n run (x ∷ rest) more stops full = stops

  front_with : (n : ℕ) (xs run rest more : List A) → IsLongestRun passes n xs run rest →
      TakesNoMore passes n run rest → IsLongestRun passes n (xs ++ more) run (rest ++ more)
  front_with n xs run rest more f full = record {
    whole = ap (λ t. t ++ more) f.whole ∙ append_assoc run rest more;
    some = f.some;
    passed = f.passed;
    stops = stops_with n run rest more f.stops full;
  }

  full_with : (n : ℕ) (run rest more : List A) → TakesNoMore passes n run rest →
      TakesNoMore passes n run (rest ++ more)
  full_with n run [] more full e x = full refl x
  full_with n run (y ∷ rest) more full e x = nil_cons y (rest ++ more) (sym e)

  -- ---- the cut is unique

  pub one_way : (n : ℕ) (xs : List A) (runs others : List (List A)) → AreRuns passes n xs runs →
      AreRuns passes n xs others → runs ≡ others
  one_way n xs [] [] a b = refl
  one_way n xs [] (u ∷ us) a b = no_front n xs u b.0 a b.1
  one_way n xs (r ∷ rs) [] a b = no_front n xs r a.0 b a.1
  one_way n xs (r ∷ rs) (u ∷ us) a b =
      let same = same_front n xs r a.0 u b.0 a.1 b.1 in
      let here = subst (λ (t : List A). AreRuns passes (n + 1) t rs) same.1 a.2 in
      ap (λ t. t ∷ rs) same.0 ∙ ap (λ ts. u ∷ ts) (one_way (n + 1) b.0 rs us here b.2)

  -- ---- element by element

  pub none_done : (n : ℕ) → AreDone passes n [] [] []
  none_done n = refl

  -- one more element
  pub one_more : (n : ℕ) (xs : List A) (runs : List (List A)) (left : List A) (x : A) →
      AreDone passes n xs runs left → AreDone passes n (xs ++ x ∷ []) runs (left ++ x ∷ [])
  one_more n xs [] left x d = ap (λ t. t ++ x ∷ []) d
  one_more n xs (run ∷ runs) left x d = (
    d.0 ++ x ∷ [],
    front_with n xs run d.0 (x ∷ []) d.1 d.2,
    full_with n run d.0 (x ∷ []) d.2,
    one_more (n + 1) d.0 runs left x d.3,
  )

  -- one more run
  pub one_done : (n m : ℕ) (xs : List A) (runs : List (List A)) (run rest : List A) →
      m ≡ n + length runs → AreDone passes n xs runs (run ++ rest) → run ≢ [] →
      passes m run ≡ true → Stops passes m run rest → TakesNoMore passes m run rest →
      AreDone passes n xs (runs ++ run ∷ []) rest
  one_done n m xs [] run rest e d some passed stops full =
      let at : m ≡ n = omega arith in (
        rest,
        subst (λ (k : ℕ). IsLongestRun passes k xs run rest) at
            (record { whole = d; some = some; passed = passed; stops = stops }),
        subst
            (λ (k : ℕ). TakesNoMore passes k run rest) at full,
        refl,
      )
  one_done n m xs (r ∷ rs) run rest e d some passed stops full =
      (d.0, d.1, d.2, one_done (n + 1) m d.0 rs run rest (omega arith) d.3 some passed stops full)

  -- the end of the list
  pub all_done : (n : ℕ) (xs : List A) (runs : List (List A)) → AreDone passes n xs runs [] →
      AreRuns passes n xs runs
  all_done n xs [] d = d
  all_done n xs (r ∷ rs) d = (d.0, d.1, all_done (n + 1) d.0 rs d.3)

  pub last_short : (n m : ℕ) (xs : List A) (runs : List (List A)) (run : List A) →
      m ≡ n + length runs → AreDone passes n xs runs run → run ≢ [] → passes m run ≡ true →
      AreRuns passes n xs (runs ++ run ∷ [])
  last_short n m xs [] run e d some passed =
      let at : m ≡ n = omega arith in (
        [],
        subst (λ (k : ℕ). IsLongestRun passes k xs run []) at
            (record { whole = d ∙ sym (append-nil run); some = some; passed = passed; stops = tt }),
        refl,
      )
  last_short n m xs (r ∷ rs) run e d some passed =
      (d.0, d.1, last_short (n + 1) m d.0 rs run (omega arith) d.3 some passed)

  -- ---- longer lists

  -- the complete runs of a list are the first runs of each longer list
  pub begins_so :
      (n : ℕ) (xs more : List A) (runs : List (List A)) (left : List A) (all : List (List A)) →
      AreDone passes n xs runs left → AreRuns passes n (xs ++ more) all →
      (later : List (List A)) × (all ≡ runs ++ later) × AreRuns passes (n + length runs)
      (left ++ more) later
  begins_so n xs more [] left all d a =
      let at : n ≡ n + length {A = List A} [] = omega arith in (
        all,
        refl,
        subst (λ (k : ℕ). AreRuns passes k (left ++ more) all) at
            (subst (λ (t : List A). AreRuns passes n (t ++ more) all) d a),
      )
  begins_so n xs more (r ∷ rs) left [] d a = no_front n (xs ++ more) r (d.0 ++ more) a
      (front_with n xs r d.0 more d.1 d.2)
  begins_so n xs more (r ∷ rs) left (u ∷ us) d a =
      let same = same_front n (xs ++ more) r (d.0 ++ more) u a.0
      (front_with n xs r d.0 more d.1 d.2) a.1 in
      let next = begins_so (n + 1) d.0 more rs left us d.3
      (subst (λ (t : List A). AreRuns passes (n + 1) t us) (sym same.1) a.2) in
      let at : n + 1 + length rs ≡ n + length (r ∷ rs) = omega arith in (
        next.0,
        ap (λ t. t ∷ us) (sym same.0) ∙ ap (λ ts. r ∷ ts) next.1,
        subst
            (λ (k : ℕ). AreRuns passes k (left ++ more) next.0) at next.2,
      )
