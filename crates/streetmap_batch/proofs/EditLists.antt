-- Edits gathered from left to right.
use Rattle.std.proofs.Common.{◌≡◌, ℕ, suc, ◌+◌, ◌<◌, ◌≤◌, Bool, true, false, List, [], ◌∷◌, ◌++◌, length, Option, Some, Result, Ok, Err, refl, sym, ap, subst, ◌∙◌, arith}
use Rattle.std.specs.Prelude.{nat_le}
use Rattle.std.proofs.lemmas.Bool.{le-leb, leb-true}
use Rattle.serde_json.specs.Data.{Data, no_items}
use Rattle.streetmap_json.proofs.Fronts.{before}
use Rattle.streetmap_batch.specs.BatchValue.{EditValue}
use Rattle.streetmap_batch.specs.BatchFaults.{Fails}
use Rattle.streetmap_batch.specs.ParsedBatches.{◌>>=◌, unless, most_edits, list_of, edit_at, and_more, edits_after, keyed, batch_from}
use Rattle.streetmap_batch.specs.Names.{is_key}
use Rattle.streetmap_batch.specs.Text.{Text}
use Rattle.streetmap_batch.specs.BatchTokens.{few_edits}
use Rattle.streetmap_batch.specs.declared.batch_fault.BatchFault.{BatchFault}
use Rattle.streetmap_batch.specs.declared.batch_fault.BatchFault.TheVariants.{BadBatch, BadKey, TooManyEdits, BadFeature, Memory}

-- ---- one more edit

-- an edit after the others
abbrev and_last : Result (List EditValue) BatchFault → Result EditValue BatchFault → Result (List EditValue) BatchFault
and_last (Ok es) (Ok e) = Ok (es ++ e ∷ [])
and_last (Ok es) (Err f) = Err f
and_last (Err f) r = Err f

only_one : (r : Result EditValue BatchFault) → and_more r (Ok []) ≡ and_last (Ok []) r
only_one (Ok e) = refl
only_one (Err f) = refl

first_and_last : (r : Result EditValue BatchFault) (es : Result (List EditValue) BatchFault) (l : Result EditValue BatchFault) → and_more r (and_last es l) ≡ and_last (and_more r es) l
first_and_last (Ok e) (Ok es) (Ok l) = refl
first_and_last (Ok e) (Ok es) (Err f) = refl
first_and_last (Ok e) (Err f) l = refl
first_and_last (Err f) es l = refl

last_edit : (n : ℕ) (ds : List Data) (d : Data) → edits_after n (ds ++ d ∷ []) ≡ and_last (edits_after n ds) (edit_at (n + length ds + 1) d)
unfolding edits_after
last_edit n [] d = let place : n + 1 ≡ n + 0 + 1 = omega arith in ap (λ k. and_more (edit_at k d) (Ok [])) place ∙ only_one (edit_at (n + 0 + 1) d)
last_edit n (e ∷ ds) d =
    let place : n + 1 + length ds + 1 ≡ n + suc (length ds) + 1 = omega arith in
    ap (and_more (edit_at (n + 1) e)) (last_edit (n + 1) ds d) ∙ first_and_last (edit_at (n + 1) e) (edits_after (n + 1) ds) _
    ∙ ap (λ k. and_last (and_more (edit_at (n + 1) e) (edits_after (n + 1) ds)) (edit_at k d)) place

next_edit : (ds : List Data) (d : Data) (place : ℕ) → place ≡ length ds + 1 → edits_after 0 (ds ++ d ∷ []) ≡ and_last (edits_after 0 ds) (edit_at place d)
next_edit ds d place is = let here : 0 + length ds + 1 ≡ place = omega (arith, is) in last_edit 0 ds d ∙ ap (λ k. and_last (edits_after 0 ds) (edit_at k d)) here

fault_stays : (f : BatchFault) (es : Result (List EditValue) BatchFault) (l : Result EditValue BatchFault) → Fails f es → Fails f (and_last es l)
fault_stays Memory es l h = tt
fault_stays (BadBatch place) es l h = ap (λ r. and_last r l) h
fault_stays BadKey es l h = ap (λ r. and_last r l) h
fault_stays TooManyEdits es l h = ap (λ r. and_last r l) h
fault_stays (BadFeature place cause) es l h = ap (λ r. and_last r l) h

fault_comes : (f : BatchFault) (es : List EditValue) (l : Result EditValue BatchFault) → Fails f l → Fails f (and_last (Ok es) l)
fault_comes Memory es l h = tt
fault_comes (BadBatch place) es l h = ap (and_last (Ok es)) h
fault_comes BadKey es l h = ap (and_last (Ok es)) h
fault_comes TooManyEdits es l h = ap (and_last (Ok es)) h
fault_comes (BadFeature place cause) es l h = ap (and_last (Ok es)) h

module _ (ds : List Data) (d : Data) (place : ℕ) (following : place ≡ length ds + 1) where
  -- a fault before stays the first
  pub faulty_before : (f : BatchFault) → Fails f (edits_after 0 ds) → Fails f (edits_after 0 (ds ++ d ∷ []))
  faulty_before f h = subst (Fails f) (sym (next_edit ds d place following)) (fault_stays f (edits_after 0 ds) (edit_at place d) h)

  -- a fault of the last edit is the first
  pub faulty_last : (f : BatchFault) (es : List EditValue) → edits_after 0 ds ≡ Ok es → Fails f (edit_at place d) → Fails f (edits_after 0 (ds ++ d ∷ []))
  faulty_last f es read h = subst (Fails f) (sym (next_edit ds d place following ∙ ap (λ r. and_last r (edit_at place d)) read)) (fault_comes f es (edit_at place d) h)

  -- no fault
  pub one_more_edit : (es : List EditValue) (e : EditValue) → edits_after 0 ds ≡ Ok es → edit_at place d ≡ Ok e → edits_after 0 (ds ++ d ∷ []) ≡ Ok (es ++ e ∷ [])
  one_more_edit es e read last = next_edit ds d place following ∙ (ap (λ r. and_last r (edit_at place d)) read ∙ ap (and_last (Ok es)) last)

-- ---- the number of edits

pub few_are : (ds : List Data) → length ds ≤ most_edits → few_edits ds ≡ edits_after 0 ds
few_are ds few = ap (λ b. unless b TooManyEdits >>= λ x. edits_after 0 ds) (le-leb _ _ few)

pub too_many : (ds : List Data) → most_edits < length ds → few_edits ds ≡ Err TooManyEdits
too_many ds many = by (nat_le (length ds) most_edits) refl where
  by : (b : Bool) → nat_le (length ds) most_edits ≡ b → (unless b TooManyEdits >>= λ x. edits_after 0 ds) ≡ Err TooManyEdits
  by true is = let few = leb-true _ _ is in let never : ⊥ = omega (arith, few, many) in absurd never
  by false is = refl

-- one edit for each element
counted : (n : ℕ) (ds : List Data) (es : List EditValue) → edits_after n ds ≡ Ok es → length es ≡ length ds
unfolding edits_after
counted n [] es e = let same : [] ≡ es = cc in ap length (sym same)
counted n (d ∷ ds) es e = by (edit_at (n + 1) d) (edits_after (n + 1) ds) (counted (n + 1) ds) refl e where
  by : (r : Result EditValue BatchFault) (rs : Result (List EditValue) BatchFault) → ((xs : List EditValue) → edits_after (n + 1) ds ≡ Ok xs → length xs ≡ length ds)
      → edits_after (n + 1) ds ≡ rs → and_more r rs ≡ Ok es → length es ≡ suc (length ds)
  by (Ok x) (Ok xs) more is h = let same : x ∷ xs ≡ es = cc in ap length (sym same) ∙ ap suc (more xs is)
  by (Ok x) (Err f) more is h = absurd cc
  by (Err f) rs more is h = absurd cc

pub few_read : (ds : List Data) (es : List EditValue) → few_edits ds ≡ Ok es → length es ≤ most_edits
few_read ds es e = by (nat_le (length ds) most_edits) refl e where
  by : (b : Bool) → nat_le (length ds) most_edits ≡ b → (unless b TooManyEdits >>= λ x. edits_after 0 ds) ≡ Ok es → length es ≤ most_edits
  by true is h = let few = leb-true _ _ is in let same = counted 0 ds es h in omega (arith, few, same)
  by false is h = absurd cc

pub list_of-before : (ds : List Data) → list_of (before ds no_items) ≡ ds
list_of-before [] = refl
list_of-before (d ∷ ds) = ap (λ rest. d ∷ rest) (list_of-before ds)

-- ---- after the key

regroup : {A B C : Type 0} (r : Result A BatchFault) (e : Result B BatchFault) (f : B → Result C BatchFault) → (r >>= λ x. (e >>= f)) ≡ ((r >>= λ x. e) >>= f)
regroup (Ok x) e f = refl
regroup (Err fault) e f = refl

pub keyed_read : (stated : Option Text) (key : Text) (ds : List Data) (es : List EditValue) → stated ≡ Some key → is_key key ≡ true → few_edits ds ≡ Ok es → keyed stated ds ≡ batch_from key es
unfolding keyed
keyed_read stated key ds es is named read =
    let few : nat_le (length es) most_edits ≡ true = le-leb _ _ (few_read ds es read) in
    rw (is, named, few) (regroup (unless (nat_le (length ds) most_edits) TooManyEdits) (edits_after 0 ds) (λ edits. Ok (record { key = key; edits = edits })) ∙ ap (λ r. r >>= λ edits. Ok (record { key = key; edits = edits })) read)
