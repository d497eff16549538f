-- The place of an outline among others in byte order of ids, and what an edit there does.
use Rattle.std.proofs.Common.{◌≡◌, ℕ, zero, suc, ◌+◌, ◌<◌, ◌≤◌, List, [], ◌∷◌, Bool, false, cond, T, Option, None, map, length, set, string_bytes, refl, sym}
use Rattle.std.proofs.Common.{ap, subst, ◌∙◌, arith}
use Rattle.std.specs.Prelude.{not, slice_index_or}
use Rattle.std.specs.List as list
use Rattle.std.specs.List.{HoldsAt}
use Rattle.std.specs.List.Sorted.{IsNonDecreasingBy, IsPartitionPoint}
use Rattle.std.specs.Ordering.{is_lt, is_eq, eq_by_cmp, ordering_index, ordering_reverse}
use Rattle.std.specs.declared.cmp.Ordering.{Ordering}
use Rattle.std.specs.declared.cmp.Ordering.TheVariants.{Less, Equal, Greater}
use Rattle.std.specs.Cmp.Lexicographic.{nat_list_cmp_total}
use Rattle.std.specs.FinMap.{get, entries, entries_sorted, insert, remove, put, is_sorted, from_sorted, same_map, get-entries, get-remove, get-from_sorted}
use Rattle.std.specs.FinMap.{entries-from_sorted, entries-insert}
use Rattle.std.specs.FinMap.Entries.{below_all, where_key, is_sorted-where_key, find-where_key}
use Rattle.std.proofs.lemmas.List.Sorted.{searchable_from_sorted}
use Rattle.streetmap_geojson.specs.FeatureValue.{FeatureValue}
use Rattle.streetmap_batch.specs.Text.{Text, text_cmp}
use Rattle.streetmap_ledger.specs.State.{Features}
use Rattle.streetmap_ledger.specs.Outlines.{FeatureOutlineValue, feature_outline_of}
use Rattle.streetmap_ledger.specs.OutlineView.{feature_outline_value, feature_outline_values}
use Rattle.streetmap_ledger.specs.declared.outline.FeatureOutline.{FeatureOutline}
use Rattle.streetmap_ledger.proofs.TextMaps.{one_text, first, second}
use Rattle.streetmap_outlines.specs.Outlines.{IsOutlineOf, AreOutlines}
use Rattle.streetmap_ledger.proofs.Walking.{is_less as less}

abbrev pub Entries : Type 0
Entries = List (Text × FeatureValue)

abbrev pub outlines : Entries → List FeatureOutlineValue
outlines es = map (λ e. feature_outline_of e.0 e.1) es

abbrev pub id_of : FeatureOutline → Text
id_of o = string_bytes o.id

pub head_is : (y : FeatureOutline) (ys : List FeatureOutline) (e : Text × FeatureValue) (es : Entries) → feature_outline_values (y ∷ ys) ≡ outlines (e ∷ es) →
    feature_outline_value y ≡ feature_outline_of e.0 e.1
head_is y ys e es is = cc

pub tail_is : (y : FeatureOutline) (ys : List FeatureOutline) (e : Text × FeatureValue) (es : Entries) → feature_outline_values (y ∷ ys) ≡ outlines (e ∷ es) →
    feature_outline_values ys ≡ outlines es
tail_is y ys e es is = cc

pub key_is : (y : FeatureOutline) (ys : List FeatureOutline) (e : Text × FeatureValue) (es : Entries) → feature_outline_values (y ∷ ys) ≡ outlines (e ∷ es) →
    id_of y ≡ e.0
key_is y ys e es is = ap (λ (v : FeatureOutlineValue). v.id) (head_is y ys e es is)

pub too_many : {A : Type 0} (e : Text × FeatureValue) (es : Entries) → feature_outline_values [] ≡ outlines (e ∷ es) → A
too_many e es is = absurd cc

pub too_few : {A : Type 0} (y : FeatureOutline) (ys : List FeatureOutline) → feature_outline_values (y ∷ ys) ≡ outlines [] → A
too_few y ys is = absurd cc

-- ---- the order
pub flip : (x y : Text) (r : Ordering) → text_cmp x y ≡ r → text_cmp y x ≡ ordering_reverse r
flip x y r e = nat_list_cmp_total.antisymm y x ∙ ap ordering_reverse e

ascends : (os : List FeatureOutline) (es : Entries) (k : ℕ) (d : FeatureOutline) → feature_outline_values os ≡ outlines es → T (is_sorted text_cmp es) → k + 1
    < length os → is_lt (text_cmp (id_of (slice_index_or os (k + 1) d)) (id_of (slice_index_or os k d))) ≡ false
ascends [] es k d is up h = absurd (omega arith)
ascends (y ∷ []) es k d is up h = absurd (omega arith)
ascends (y ∷ (z ∷ os)) [] k d is up h = too_few y (z ∷ os) is
ascends (y ∷ (z ∷ os)) (e ∷ []) k d is up h = too_few z os (tail_is y (z ∷ os) e [] is)
ascends (y ∷ (z ∷ os)) (e ∷ (f ∷ es)) zero d is up h =
    ap (λ a. is_lt (text_cmp a (id_of y))) (key_is z os f es (tail_is y (z ∷ os) e (f ∷ es) is))
    ∙ (ap (λ a. is_lt (text_cmp f.0 a)) (key_is y (z ∷ os) e (f ∷ es) is) ∙ ap is_lt (flip e.0 f.0 Less (less _ (first _ _ (first _ _ up)))))
ascends (y ∷ (z ∷ os)) (e ∷ (f ∷ es)) (suc k) d is up h =
    let more : suc (k + 1) ≡ suc k + 1 = omega arith in
    subst (λ n. is_lt (text_cmp (id_of (slice_index_or (y ∷ (z ∷ os)) n d)) (id_of (slice_index_or (z ∷ os) k d))) ≡ false) more
    (ascends (z ∷ os) (f ∷ es) k d (tail_is y (z ∷ os) e (f ∷ es) is) (second _ _ up) (omega arith))

rises : (os : List FeatureOutline) (es : Entries) (k : Text) → feature_outline_values os ≡ outlines es → T (is_sorted text_cmp es) →
    IsNonDecreasingBy (λ o. ordering_index (text_cmp (id_of o) k)) os
rises os es k is up = searchable_from_sorted nat_list_cmp_total id_of os k (λ i d from h. ascends os es i d is up h)

-- ---- a place where no outline is under the id
abbrev IsGap : Text → List FeatureOutline → ℕ → Type 0
IsGap k os i = IsPartitionPoint (λ o. text_cmp (id_of o) k ≡ Less) (λ o. text_cmp (id_of o) k ≡ Greater) os i

gap_later : (k : Text) (y : FeatureOutline) (ys : List FeatureOutline) (i : ℕ) → IsGap k (y ∷ ys) (suc i) → IsGap k ys i
gap_later k y ys i gap = (λ j d from to. gap.0 (suc j) d (omega arith) (omega arith), λ j d from to. gap.1 (suc j) d (omega arith) (omega arith))

gap_here : (k : Text) (y : FeatureOutline) (ys : List FeatureOutline) → IsGap k (y ∷ ys) zero → IsGap k ys zero
gap_here k y ys gap = (λ j d from to. absurd (omega arith), λ j d from to. gap.1 (suc j) d (omega arith) (omega arith))

put_gap : (os : List FeatureOutline) (es : Entries) (k : Text) (v : FeatureValue) (o : FeatureOutline) (i : ℕ) → feature_outline_values os ≡ outlines es →
    feature_outline_value o ≡ feature_outline_of k v → IsGap k os i → i ≤ length os → feature_outline_values (list.insert os i o)
    ≡ outlines (put text_cmp k v es)
put_gap [] [] k v o zero is one gap h = ap (λ x. x ∷ []) one
put_gap [] [] k v o (suc i) is one gap h = absurd (omega arith)
put_gap [] (e ∷ es) k v o i is one gap h = too_many e es is
put_gap (y ∷ ys) [] k v o i is one gap h = too_few y ys is
put_gap (y ∷ ys) (e ∷ es) k v o zero is one gap h =
    let before : text_cmp k e.0 ≡ Less = flip e.0 k Greater (ap (λ a. text_cmp a k) (sym (key_is y ys e es is)) ∙ gap.1 zero y (omega arith) (omega arith)) in
    rw before (ap (λ x. x ∷ feature_outline_values (y ∷ ys)) one ∙ ap (λ xs. feature_outline_of k v ∷ xs) is)
put_gap (y ∷ ys) (e ∷ es) k v o (suc i) is one gap h =
    let following : text_cmp k e.0 ≡ Greater = flip e.0 k Less (ap (λ a. text_cmp a k) (sym (key_is y ys e es is)) ∙ gap.0 zero y (omega arith) (omega arith))
    in
    let rest = put_gap ys es k v o i (tail_is y ys e es is) one (gap_later k y ys i gap) (omega arith) in
    rw following (ap (λ x. x ∷ feature_outline_values (list.insert ys i o)) (head_is y ys e es is) ∙ ap (λ xs. feature_outline_of e.0 e.1 ∷ xs) rest)

-- ---- the place of the outline under the id
abbrev IsPlace : Text → List FeatureOutline → ℕ → Type 0
IsPlace k os i = HoldsAt (λ o. text_cmp (id_of o) k ≡ Equal) os i

below_place : (x : Text) (os : List FeatureOutline) (es : Entries) (k : Text) (i : ℕ) → feature_outline_values os ≡ outlines es → T (below_all text_cmp x es) →
    IsPlace k os i → i < length os → text_cmp x k ≡ Less
below_place x [] es k i is up place h = absurd (omega arith)
below_place x (y ∷ ys) [] k i is up place h = too_few y ys is
below_place x (y ∷ ys) (e ∷ es) k zero is up place h =
    ap (text_cmp x) (sym (one_text (id_of y) k (place y))) ∙ (ap (text_cmp x) (key_is y ys e es is) ∙ less _ (first _ _ up))
below_place x (y ∷ ys) (e ∷ es) k (suc i) is up place h = below_place x ys es k i (tail_is y ys e es is) (second _ _ up) place (omega arith)

put_at : (os : List FeatureOutline) (es : Entries) (k : Text) (v : FeatureValue) (o : FeatureOutline) (i : ℕ) → feature_outline_values os ≡ outlines es →
    T (is_sorted text_cmp es) → feature_outline_value o ≡ feature_outline_of k v → IsPlace k os i → i < length os → feature_outline_values (set os i o)
    ≡ outlines (put text_cmp k v es)
put_at [] es k v o i is up one place h = absurd (omega arith)
put_at (y ∷ ys) [] k v o i is up one place h = too_few y ys is
put_at (y ∷ ys) (e ∷ es) k v o zero is up one place h =
    let same : e.0 ≡ k = sym (key_is y ys e es is) ∙ one_text (id_of y) k (place y) in
    let here : text_cmp k e.0 ≡ Equal = flip e.0 k Equal (ap (λ a. text_cmp a k) (sym (key_is y ys e es is)) ∙ place y) in
    rw here (ap (λ x. x ∷ feature_outline_values ys) (one ∙ ap (λ a. feature_outline_of a v) (sym same))
    ∙ ap (λ xs. feature_outline_of e.0 v ∷ xs) (tail_is y ys e es is))
put_at (y ∷ ys) (e ∷ es) k v o (suc i) is up one place h =
    let following : text_cmp k e.0 ≡ Greater = flip e.0 k Less (below_place e.0 ys es k i (tail_is y ys e es is) (first _ _ up) place (omega arith)) in
    let rest = put_at ys es k v o i (tail_is y ys e es is) (second _ _ up) one place (omega arith) in
    rw following (ap (λ x. x ∷ feature_outline_values (set ys i o)) (head_is y ys e es is) ∙ ap (λ xs. feature_outline_of e.0 e.1 ∷ xs) rest)

-- ---- without the entry under a key
abbrev pub others : Text → Text → Bool
others k x = not (eq_by_cmp text_cmp k x)

pub all_below : (k : Text) (es : Entries) → T (below_all text_cmp k es) → where_key text_cmp (others k) es ≡ es
all_below k [] h = refl
all_below k (e ∷ es) h =
    let off : text_cmp k e.0 ≡ Less = less _ (first _ _ h) in
    rw off (ap (λ xs. e ∷ xs) (all_below k es (second _ _ h)))

cut_at : (os : List FeatureOutline) (es : Entries) (k : Text) (i : ℕ) → feature_outline_values os ≡ outlines es → T (is_sorted text_cmp es) → IsPlace k os i → i
    < length os → feature_outline_values (list.remove os i) ≡ outlines (where_key text_cmp (others k) es)
cut_at [] es k i is up place h = absurd (omega arith)
cut_at (y ∷ ys) [] k i is up place h = too_few y ys is
cut_at (y ∷ ys) (e ∷ es) k zero is up place h =
    let same : e.0 ≡ k = sym (key_is y ys e es is) ∙ one_text (id_of y) k (place y) in
    let here : text_cmp k e.0 ≡ Equal = flip e.0 k Equal (ap (λ a. text_cmp a k) (sym (key_is y ys e es is)) ∙ place y) in
    rw here (tail_is y ys e es is ∙ ap outlines (sym (all_below k es (subst (λ a. T (below_all text_cmp a es)) same (first _ _ up)))))
cut_at (y ∷ ys) (e ∷ es) k (suc i) is up place h =
    let following : text_cmp k e.0 ≡ Greater = flip e.0 k Less (below_place e.0 ys es k i (tail_is y ys e es is) (first _ _ up) place (omega arith)) in
    let rest = cut_at ys es k i (tail_is y ys e es is) (second _ _ up) place (omega arith) in
    rw following (ap (λ x. x ∷ feature_outline_values (list.remove ys i)) (head_is y ys e es is) ∙ ap (λ xs. feature_outline_of e.0 e.1 ∷ xs) rest)

cut_gap : (os : List FeatureOutline) (es : Entries) (k : Text) (i : ℕ) → feature_outline_values os ≡ outlines es → IsGap k os i →
    where_key text_cmp (others k) es ≡ es
cut_gap os [] k i is gap = refl
cut_gap [] (e ∷ es) k i is gap = too_many e es is
cut_gap (y ∷ ys) (e ∷ es) k zero is gap =
    let before : text_cmp k e.0 ≡ Less = flip e.0 k Greater (ap (λ a. text_cmp a k) (sym (key_is y ys e es is)) ∙ gap.1 zero y (omega arith) (omega arith)) in
    rw before (ap (λ xs. e ∷ xs) (cut_gap ys es k zero (tail_is y ys e es is) (gap_here k y ys gap)))
cut_gap (y ∷ ys) (e ∷ es) k (suc i) is gap =
    let following : text_cmp k e.0 ≡ Greater = flip e.0 k Less (ap (λ a. text_cmp a k) (sym (key_is y ys e es is)) ∙ gap.0 zero y (omega arith) (omega arith))
    in
    rw following (ap (λ xs. e ∷ xs) (cut_gap ys es k i (tail_is y ys e es is) (gap_later k y ys i gap)))

-- a map's entries after a removal
turned : (r : Ordering) (x : Option FeatureValue) → cond (is_eq (ordering_reverse r)) None x ≡ cond (not (is_eq r)) x None
turned Less x = refl
turned Equal x = refl
turned Greater x = refl

pub entries_left : (features : Features) (k : Text) → entries (remove features k) ≡ where_key text_cmp (others k) (entries features)
entries_left features k =
    let es = entries features in
    let xs = where_key text_cmp (others k) es in
    let up = is_sorted-where_key text_cmp (others k) es (entries_sorted features) in
    ap entries (same_map nat_list_cmp_total one_text (remove features k) (from_sorted xs) (λ q.
    get-remove nat_list_cmp_total features k q
    ∙ (ap (λ r. cond (is_eq r) None (get features q)) (nat_list_cmp_total.antisymm q k)
    ∙ (turned (text_cmp k q) (get features q)
    ∙ (ap (λ o. cond (others k q) o None) (get-entries features q)
    ∙ (sym (find-where_key text_cmp (others k) q (λ x t. ap (others k) (sym (one_text q x t))) es) ∙ sym (get-from_sorted text_cmp xs q up)))))))
    ∙ entries-from_sorted text_cmp xs up

-- ---- outlines of features, which were searched for the key k
module _ (os : List FeatureOutline) (k : Text) (i : ℕ) (features : Features) (known : AreOutlines os features) where
  pub cut_in_place : IsPlace k os i → i < length os → AreOutlines (list.remove os i) (remove features k)
  cut_in_place place h = cut_at os (entries features) k i known (entries_sorted features) place h ∙ ap outlines (sym (entries_left features k))

  pub none_to_cut : (IsNonDecreasingBy (λ y. ordering_index (text_cmp (id_of y) k)) os → IsGap k os i) → AreOutlines os (remove features k)
  none_to_cut gap =
      known ∙ (ap outlines (sym (cut_gap os (entries features) k i known (gap (rises os (entries features) k known (entries_sorted features)))))
      ∙ ap outlines (sym (entries_left features k)))

  module _ (f : FeatureValue) (o : FeatureOutline) (named : k ≡ id_of o) (one : IsOutlineOf o f) where
    id : k ≡ f.id
    id = named ∙ ap (λ (v : FeatureOutlineValue). v.id) one

    pub put_in_place : IsPlace k os i → i < length os → AreOutlines (set os i o) (insert features f.id f)
    put_in_place place h =
        put_at os (entries features) f.id f o i known (entries_sorted features) one (subst (λ q. IsPlace q os i) id place) h
        ∙ ap outlines (sym (entries-insert nat_list_cmp_total features f.id f))

    pub put_in_gap : (IsNonDecreasingBy (λ y. ordering_index (text_cmp (id_of y) k)) os → IsGap k os i) → i ≤ length os →
        AreOutlines (list.insert os i o) (insert features f.id f)
    put_in_gap gap h =
        put_gap os (entries features) f.id f o i known one (subst (λ q. IsGap q os i) id (gap (rises os (entries features) k known (entries_sorted features))))
        h
        ∙ ap outlines (sym (entries-insert nat_list_cmp_total features f.id f))
