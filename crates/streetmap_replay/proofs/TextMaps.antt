-- Maps under texts, by their entries.
use Rattle.std.proofs.Common.{◌≡◌, ℕ, zero, suc, Bool, true, false, cond, T, ◌||◌}
use Rattle.std.proofs.Common.{List, [], ◌∷◌, All, map, None, Some, refl, sym, ap}
use Rattle.std.proofs.Common.{subst, ◌∙◌}
use Rattle.std.specs.Prelude.{slice_get, bytes_eq}
use Rattle.std.specs.List.{list_any}
use Rattle.std.specs.Ordering.{is_eq}
use Rattle.std.specs.declared.cmp.Ordering.{Ordering}
use Rattle.std.specs.declared.cmp.Ordering.TheVariants.{Less, Equal, Greater}
use Rattle.std.specs.Cmp.Lexicographic.{nat_list_cmp_total}
use Rattle.std.specs.FinMap.{FinMap, get, entries, entries_sorted, values, find, is_sorted}
use Rattle.std.specs.FinMap.{get-entries, same_entries_map}
use Rattle.std.specs.FinMap.Entries.{below_all}
use Rattle.std.proofs.lemmas.Cmp.{tied_itself}
use Rattle.std.proofs.lemmas.List.Elements.{All-nil, All-cons, All-head, All-tail}
use Rattle.std.proofs.lemmas.Slice.Eq.{bytes_eq-Decides}
use Rattle.streetmap_batch.specs.Text.{Text, text_cmp}
use Rattle.streetmap_ledger.proofs.TextMaps.{one_text, first, second}
use Rattle.streetmap_ledger.proofs.Serials.{not_equal as less_than}

abbrev Entries : Type 0 → Type 0
Entries X = List (Text × X)

module _ {X : Type 0} where
  -- a key below all the others is not found among them
  not_among : (k : Text) (es : Entries X) → T (below_all text_cmp k es) → find text_cmp k es ≡ None
  not_among k [] h = refl
  not_among k (e ∷ es) h =
      ap (λ b. cond b (Some e.1) (find text_cmp k es)) (less_than _ (first _ _ h))
      ∙ not_among k es (second _ _ h)

  here : (e : Text × X) (es : Entries X) → find text_cmp e.0 (e ∷ es) ≡ Some e.1
  here e es = ap (λ r. cond (is_eq r) (Some e.1) (find text_cmp e.0 es))
      (tied_itself nat_list_cmp_total e.0)

  -- what is found after the first entry is also found with it
  after_by : (e : Text × X) (es : Entries X) (k : Text) (x : X) → T (below_all text_cmp e.0 es) →
      find text_cmp k es ≡ Some x → (r : Ordering) → text_cmp k e.0 ≡ r →
      cond (is_eq r) (Some e.1) (find text_cmp k es) ≡ Some x
  after_by e es k x low there Less is = there
  after_by e es k x low there Greater is = there
  after_by e es k x low there Equal is =
      let none : find text_cmp k es ≡ None =
      ap (λ q. find text_cmp q es) (one_text k e.0 is) ∙ not_among e.0 es low in
      let both : None ≡ Some x = sym none ∙ there in absurd cc

  remaining : (e : Text × X) (es : Entries X) (k : Text) (x : X) → T (is_sorted text_cmp (e ∷ es)) →
      find text_cmp k es ≡ Some x → find text_cmp k (e ∷ es) ≡ Some x
  remaining e es k x up there = after_by e es k x (first _ _ up) there (text_cmp k e.0) refl

  -- each entry is found under its key
  each_found : (P : Text → X → Type 0) (es : Entries X) → T (is_sorted text_cmp es) →
      ((k : Text) (x : X) → find text_cmp k es ≡ Some x → P k x) → All (λ e. P e.0 e.1) es
  each_found P [] up has = All-nil (λ e. P e.0 e.1)
  each_found P (e ∷ es) up has =
      All-cons (λ e. P e.0 e.1) e es (has e.0 e.1 (here e es))
      (each_found P es (second _ _ up) (λ k x there. has k x (remaining e es k x up there)))

  pub each : (P : Text → X → Type 0) (m : FinMap text_cmp X) →
      ((k : Text) (x : X) → get m k ≡ Some x → P k x) → All (λ e. P e.0 e.1) (entries m)
  each P m has = each_found P (entries m) (entries_sorted m)
      (λ k x there. has k x (get-entries m k ∙ there))

  -- an entry at a place is found under its key
  place_found : (es : Entries X) (i : ℕ) (e : Text × X) → T (is_sorted text_cmp es) →
      slice_get es i ≡ Some e → find text_cmp e.0 es ≡ Some e.1
  place_found [] i e up h = absurd cc
  place_found (x ∷ es) zero e up h =
      let same : x ≡ e = cc in
      subst (λ (y : Text × X). find text_cmp y.0 (x ∷ es) ≡ Some y.1) same (here x es)
  place_found (x ∷ es) (suc i) e up h =
      remaining x es e.0 e.1 up (place_found es i e (second _ _ up) h)

  pub at_place : (m : FinMap text_cmp X) (i : ℕ) (e : Text × X) →
      slice_get (entries m) i ≡ Some e → get m e.0 ≡ Some e.1
  at_place m i e h = get-entries m e.0 ∙ place_found (entries m) i e (entries_sorted m) h

  -- what holds of the keys of all entries holds of a key that is found
  key_by : (P : Text → Type 0) (e : Text × X) (es : Entries X) (k : Text) (x : X) → P e.0 →
      (find text_cmp k es ≡ Some x → P k) → (r : Ordering) → text_cmp k e.0 ≡ r →
      cond (is_eq r) (Some e.1) (find text_cmp k es) ≡ Some x → P k
  key_by P e es k x p rest Less is h = rest h
  key_by P e es k x p rest Greater is h = rest h
  key_by P e es k x p rest Equal is h = subst P (sym (one_text k e.0 is)) p

  key_found : (P : Text → Type 0) (es : Entries X) (k : Text) (x : X) → All (λ e. P e.0) es →
      find text_cmp k es ≡ Some x → P k
  key_found P [] k x all h = absurd cc
  key_found P (e ∷ es) k x all h =
      key_by P e es k x (All-head (λ e. P e.0) e es all)
      (key_found P es k x (All-tail (λ e. P e.0) e es all)) (text_cmp k e.0) refl h

  pub of_key : (P : Text → Type 0) (m : FinMap text_cmp X) (k : Text) (x : X) →
      All (λ e. P e.0) (entries m) → get m k ≡ Some x → P k
  of_key P m k x all h = key_found P (entries m) k x all (sym (get-entries m k) ∙ h)

  -- a key that is among the entries is found
  abbrev pub has_key : Text → Entries X → Bool
  has_key k es = list_any (λ (e : Text × X). bytes_eq e.0 k) es

  among_by : (e : Text × X) (es : Entries X) (k : Text) →
      (has_key k es ≡ true → find text_cmp k es ≡ None → ⊥) → (b : Bool) →
      bytes_eq e.0 k ≡ b → (b || has_key k es) ≡ true → find text_cmp k (e ∷ es) ≡ None → ⊥
  among_by e es k rest true is h none =
      let same : e.0 ≡ k = (bytes_eq-Decides e.0 k).0 is in
      let found : find text_cmp k (e ∷ es) ≡ Some e.1 =
      ap (λ (q : Text). find text_cmp q (e ∷ es)) (sym same) ∙ here e es in
      let both : None ≡ Some e.1 = sym none ∙ found in absurd cc
  among_by e es k rest false is h none = rest h (by (text_cmp k e.0) none) where
    by : (r : Ordering) → cond (is_eq r) (Some e.1) (find text_cmp k es) ≡ None →
        find text_cmp k es ≡ None
    by Less f = f
    by Greater f = f
    by Equal f = absurd cc

  among : (es : Entries X) (k : Text) → has_key k es ≡ true → find text_cmp k es ≡ None → ⊥
  among [] k h none = absurd cc
  among (e ∷ es) k h none = among_by e es k (among es k) (bytes_eq e.0 k) refl h none

  pub has_key_found : (m : FinMap text_cmp X) (k : Text) → has_key k (entries m) ≡ true →
      get m k ≡ None → ⊥
  has_key_found m k h none = among (entries m) k h (sym (get-entries m k) ∙ none)

  not_key_by : (e : Text × X) (es : Entries X) (k : Text) →
      (has_key k es ≡ false → find text_cmp k es ≡ None) → (b : Bool) →
      bytes_eq e.0 k ≡ b → (b || has_key k es) ≡ false → (r : Ordering) → text_cmp k e.0 ≡ r →
      cond (is_eq r) (Some e.1) (find text_cmp k es) ≡ None
  not_key_by e es k rest true is h r tie = absurd cc
  not_key_by e es k rest false is h Less tie = rest h
  not_key_by e es k rest false is h Greater tie = rest h
  not_key_by e es k rest false is h Equal tie =
      let same : e.0 ≡ k = sym (one_text k e.0 tie) in
      let yes : bytes_eq e.0 k ≡ true = (bytes_eq-Decides e.0 k).1 same in
      let both : true ≡ false = sym yes ∙ is in absurd cc

  not_key : (es : Entries X) (k : Text) → has_key k es ≡ false → find text_cmp k es ≡ None
  not_key [] k h = refl
  not_key (e ∷ es) k h =
      not_key_by e es k (not_key es k) (bytes_eq e.0 k) refl h (text_cmp k e.0) refl

  pub no_key_none : (m : FinMap text_cmp X) (k : Text) → has_key k (entries m) ≡ false →
      get m k ≡ None
  no_key_none m k h = get-entries m k ∙ not_key (entries m) k h

  -- ---- maps whose values state their keys

  pub all_values : (Q : X → Type 0) (P : Text → X → Type 0) →
      ((k : Text) (x : X) → P k x → Q x) → (es : Entries X) → All (λ e. P e.0 e.1) es →
      All Q (map (λ e. e.1) es)
  all_values Q P so [] h = All-nil Q
  all_values Q P so (e ∷ es) h =
      All-cons Q e.1 (map (λ e. e.1) es) (so e.0 e.1 (All-head (λ e. P e.0 e.1) e es h))
      (all_values Q P so es (All-tail (λ e. P e.0 e.1) e es h))

  module _ (name : X → Text) where
    abbrev IsNamed : Text × X → Type 0
    IsNamed e = name e.1 ≡ e.0

    same_pairs : (es fs : Entries X) → All IsNamed es → All IsNamed fs →
        map (λ e. e.1) es ≡ map (λ e. e.1) fs → es ≡ fs
    same_pairs [] [] a b h = refl
    same_pairs [] (f ∷ fs) a b h = absurd cc
    same_pairs (e ∷ es) [] a b h = absurd cc
    same_pairs (e ∷ es) (f ∷ fs) a b h =
        let value : e.1 ≡ f.1 = cc in
        let values_rest : map (λ (e : Text × X). e.1) es ≡ map (λ (e : Text × X). e.1) fs = cc in
        let key : e.0 ≡ f.0 =
        sym (All-head IsNamed e es a) ∙ (ap name value ∙ All-head IsNamed f fs b) in
        let rest = same_pairs es fs (All-tail IsNamed e es a) (All-tail IsNamed f fs b)
        values_rest in
        λ i. (key i, value i) ∷ rest i

    pub same_values : (m n : FinMap text_cmp X) →
        ((k : Text) (x : X) → get m k ≡ Some x → name x ≡ k) →
        ((k : Text) (x : X) → get n k ≡ Some x → name x ≡ k) →
        values m ≡ values n → m ≡ n
    same_values m n a b h =
        same_entries_map m n (same_pairs (entries m) (entries n)
        (each (λ k x. name x ≡ k) m a) (each (λ k x. name x ≡ k) n b) h)
