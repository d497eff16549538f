-- What an edit in the chunk that an id is for does to the outlines of all chunks.
use Rattle.std.proofs.Common.{◌≡◌, ℕ, zero, suc, ◌+◌, ◌-◌, ◌<◌, List, [], ◌∷◌, ◌++◌, Bool, true, false, T, length, take, drop, get_or, set, string_bytes, refl}
use Rattle.std.proofs.Common.{sym, ap, subst, ◌∙◌, arith, append_assoc, append-nil}
use Rattle.std.specs.Prelude.{◌&&◌, ◌≤◌, not, slice_index_or}
use Rattle.std.specs.List as list
use Rattle.std.specs.List.Sorted.{IsPartitionedBy, IsPartitionPoint}
use Rattle.std.specs.Ordering.{is_lt, is_ge}
use Rattle.std.specs.declared.cmp.Ordering.{Ordering}
use Rattle.std.specs.declared.cmp.Ordering.TheVariants.{Less, Equal, Greater}
use Rattle.std.specs.Cmp.Lexicographic.{nat_list_cmp_total}
use Rattle.std.specs.FinMap.{entries, entries_sorted, insert, remove, put, is_sorted, from_sorted, entries-from_sorted, entries-insert}
use Rattle.std.specs.FinMap.Entries.{below_all, where_key}
use Rattle.std.proofs.lemmas.List.{map-append, take-append-drop, length-drop, drop_more}
use Rattle.std.proofs.lemmas.List.Elements.{All-nil, All-head, All-tail, filter-append}
use Rattle.streetmap_geojson.specs.FeatureValue.{FeatureValue}
use Rattle.streetmap_batch.specs.Text.{Text, text_cmp}
use Rattle.streetmap_ledger.specs.State.{Features}
use Rattle.streetmap_ledger.specs.Outlines.{feature_outline_of}
use Rattle.streetmap_ledger.specs.OutlineView.{feature_outline_value, feature_outline_values}
use Rattle.streetmap_ledger.specs.declared.outline.FeatureOutline.{FeatureOutline}
use Rattle.streetmap_ledger.proofs.TextMaps.{one_text, first, second}
use Rattle.streetmap_outlines.specs.Outlines.{joined, AreOutlines, AreFilled, IsBounded, AreChunksOf}
use Rattle.streetmap_outlines.specs.Chunks.{reaches}
use Rattle.streetmap_outlines.specs.declared.chunk.Chunk.{Chunk}
use Rattle.streetmap_outlines.proofs.Places.{Entries, outlines, head_is, tail_is, key_is, too_many, too_few, flip, others, all_below, entries_left}
use Rattle.streetmap_ledger.proofs.Walking.{is_less as less}

-- ---- whether entries go on to a key
abbrev goes_to : Text → Entries → Bool
goes_to k [] = false
goes_to k (e ∷ []) = is_ge (text_cmp e.0 k)
goes_to k (e ∷ (f ∷ es)) = goes_to k (f ∷ es)

reaches_keys : (os : List FeatureOutline) (es : Entries) (k : Text) → feature_outline_values os ≡ outlines es → reaches k os ≡ goes_to k es
reaches_keys [] [] k is = refl
reaches_keys [] (e ∷ es) k is = too_many e es is
reaches_keys (y ∷ ys) [] k is = too_few y ys is
reaches_keys (y ∷ []) (e ∷ []) k is = ap (λ a. is_ge (text_cmp a k)) (key_is y [] e [] is)
reaches_keys (y ∷ []) (e ∷ (f ∷ es)) k is = too_many f es (tail_is y [] e (f ∷ es) is)
reaches_keys (y ∷ (z ∷ ys)) (e ∷ []) k is = too_few z ys (tail_is y (z ∷ ys) e [] is)
reaches_keys (y ∷ (z ∷ ys)) (e ∷ (f ∷ es)) k is = reaches_keys (z ∷ ys) (f ∷ es) k (tail_is y (z ∷ ys) e (f ∷ es) is)

pub last_reaches : (k : Text) (os : List FeatureOutline) (n : ℕ) (o : FeatureOutline) → n + 1 ≡ length os → o ≡ slice_index_or os n o →
    is_ge (text_cmp (string_bytes o.id) k) ≡ reaches k os
last_reaches k [] n o len at = absurd (omega arith)
last_reaches k (x ∷ []) zero o len at = ap (λ (y : FeatureOutline). is_ge (text_cmp (string_bytes y.id) k)) at
last_reaches k (x ∷ []) (suc n) o len at = absurd (omega arith)
last_reaches k (x ∷ (y ∷ os)) zero o len at = absurd (omega arith)
last_reaches k (x ∷ (y ∷ os)) (suc n) o len at = last_reaches k (y ∷ os) n o (omega arith) at

-- ---- entries that do not go on to a key
pub falls_short : (r : Ordering) → is_ge r ≡ false → r ≡ Less
falls_short Less h = refl
falls_short Equal h = absurd cc
falls_short Greater h = absurd cc

head_before : (k : Text) (e : Text × FeatureValue) (es : Entries) → T (is_sorted text_cmp (e ∷ es)) → goes_to k (e ∷ es) ≡ false → text_cmp e.0 k ≡ Less
head_before k e [] up h = falls_short _ h
head_before k e (f ∷ es) up h = nat_list_cmp_total.trans e.0 f.0 k (less _ (first _ _ (first _ _ up))) (head_before k f es (second _ _ up) h)

tail_short : (k : Text) (e : Text × FeatureValue) (es : Entries) → goes_to k (e ∷ es) ≡ false → goes_to k es ≡ false
tail_short k e [] h = refl
tail_short k e (f ∷ es) h = h

put_after : (k : Text) (v : FeatureValue) (es fs : Entries) → T (is_sorted text_cmp es) → goes_to k es ≡ false → put text_cmp k v (es ++ fs) ≡ es
    ++ put text_cmp k v fs
put_after k v [] fs up h = refl
put_after k v (e ∷ es) fs up h =
    let following : text_cmp k e.0 ≡ Greater = flip e.0 k Less (head_before k e es up h) in
    rw following (ap (λ xs. e ∷ xs) (put_after k v es fs (second _ _ up) (tail_short k e es h)))

cut_after : (k : Text) (es fs : Entries) → T (is_sorted text_cmp es) → goes_to k es ≡ false → where_key text_cmp (others k) (es ++ fs) ≡ es
    ++ where_key text_cmp (others k) fs
cut_after k [] fs up h = refl
cut_after k (e ∷ es) fs up h =
    let following : text_cmp k e.0 ≡ Greater = flip e.0 k Less (head_before k e es up h) in
    rw following (ap (λ xs. e ∷ xs) (cut_after k es fs (second _ _ up) (tail_short k e es h)))

-- ---- entries that go on to a key
not_after : (k : Text) (e : Text × FeatureValue) {A : Type 0} → is_ge (text_cmp e.0 k) ≡ true → text_cmp k e.0 ≡ Greater → A
not_after k e h is = let off : is_ge (text_cmp e.0 k) ≡ false = ap is_ge (flip k e.0 Greater is) in absurd cc

put_front_by : (k : Text) (v : FeatureValue) (e : Text × FeatureValue) (es fs : Entries) (r : Ordering) → text_cmp k e.0 ≡ r →
    (r ≡ Greater → put text_cmp k v (es ++ fs) ≡ put text_cmp k v es ++ fs)
    → put text_cmp k v ((e ∷ es) ++ fs) ≡ put text_cmp k v (e ∷ es) ++ fs
put_front_by k v e es fs Less is rest = rw is refl
put_front_by k v e es fs Equal is rest = rw is refl
put_front_by k v e es fs Greater is rest = rw is (ap (λ xs. e ∷ xs) (rest refl))

put_front : (k : Text) (v : FeatureValue) (es fs : Entries) → goes_to k es ≡ true → put text_cmp k v (es ++ fs) ≡ put text_cmp k v es ++ fs
put_front k v [] fs h = absurd cc
put_front k v (e ∷ []) fs h = put_front_by k v e [] fs (text_cmp k e.0) refl (λ is. not_after k e h is)
put_front k v (e ∷ (f ∷ es)) fs h = put_front_by k v e (f ∷ es) fs (text_cmp k e.0) refl (λ is. put_front k v (f ∷ es) fs h)

pub both : (a b : Bool) → T a → T b → T (a && b)
both true b p q = q
both false b p q = absurd p

before_later : (k x y : Text) (r : Ordering) → text_cmp x k ≡ r → is_ge r ≡ true → text_cmp x y ≡ Less → text_cmp k y ≡ Less
before_later k x y Less is h before = absurd cc
before_later k x y Equal is h before = ap (λ a. text_cmp a y) (sym (one_text x k is)) ∙ before
before_later k x y Greater is h before = nat_list_cmp_total.trans k x y (flip x k Greater is) before

below_later : (k x : Text) (es : Entries) → is_ge (text_cmp x k) ≡ true → T (below_all text_cmp x es) → T (below_all text_cmp k es)
below_later k x [] h up = tt
below_later k x (e ∷ es) h up =
    let here : text_cmp k e.0 ≡ Less = before_later k x e.0 (text_cmp x k) refl h (less _ (first _ _ up)) in
    both _ _ (subst (λ r. T (is_lt r)) (sym here) tt) (below_later k x es h (second _ _ up))

below_rest : (k : Text) (es fs : Entries) → T (is_sorted text_cmp (es ++ fs)) → goes_to k es ≡ true → T (below_all text_cmp k fs)
below_rest k [] fs up h = absurd cc
below_rest k (e ∷ []) fs up h = below_later k e.0 fs h (first _ _ up)
below_rest k (e ∷ (f ∷ es)) fs up h = below_rest k (f ∷ es) fs (second _ _ up) h

cut_front : (k : Text) (es fs : Entries) → T (is_sorted text_cmp (es ++ fs)) → goes_to k es ≡ true → where_key text_cmp (others k) (es ++ fs)
    ≡ where_key text_cmp (others k) es ++ fs
cut_front k es fs up h =
    filter-append (λ (e : Text × FeatureValue). others k e.0) es fs ∙ ap (λ xs. where_key text_cmp (others k) es ++ xs)
    (all_below k fs (below_rest k es fs up h))

-- ---- entries in two parts
below_front : (x : Text) (es fs : Entries) → T (below_all text_cmp x (es ++ fs)) → T (below_all text_cmp x es)
below_front x [] fs h = tt
below_front x (e ∷ es) fs h = both _ _ (first _ _ h) (below_front x es fs (second _ _ h))

pub sorted_front : (es fs : Entries) → T (is_sorted text_cmp (es ++ fs)) → T (is_sorted text_cmp es)
sorted_front [] fs h = tt
sorted_front (e ∷ es) fs h = both _ _ (below_front e.0 es fs (first _ _ h)) (sorted_front es fs (second _ _ h))

pub sorted_rest : (es fs : Entries) → T (is_sorted text_cmp (es ++ fs)) → T (is_sorted text_cmp fs)
sorted_rest [] fs h = h
sorted_rest (e ∷ es) fs h = sorted_rest es fs (second _ _ h)

pub record Split (xs ys : List FeatureOutline) (es : Entries) : Type 0 where
  pub front : Entries
  pub rest : Entries
  pub whole : front ++ rest ≡ es
  pub fronts : feature_outline_values xs ≡ outlines front
  pub rests : feature_outline_values ys ≡ outlines rest

pub split : (xs ys : List FeatureOutline) (es : Entries) → feature_outline_values (xs ++ ys) ≡ outlines es → Split xs ys es
split [] ys es is = record { front = []; rest = es; whole = refl; fronts = refl; rests = is }
split (x ∷ xs) ys [] is = too_few x (xs ++ ys) is
split (x ∷ xs) ys (e ∷ es) is =
    let more = split xs ys es (tail_is x (xs ++ ys) e es is) in
    record {
      front = e ∷ more.front;
      rest = more.rest;
      whole = ap (λ zs. e ∷ zs) more.whole;
      fronts = ap (λ z. z ∷ feature_outline_values xs) (head_is x (xs ++ ys) e es is) ∙ ap (λ zs. feature_outline_of e.0 e.1 ∷ zs) more.fronts;
      rests = more.rests;
    }

two : (xs ys : List FeatureOutline) (es fs : Entries) → feature_outline_values xs ≡ outlines es → feature_outline_values ys ≡ outlines fs →
    feature_outline_values (xs ++ ys) ≡ outlines (es ++ fs)
two xs ys es fs p q =
    map-append feature_outline_value xs ys ∙ (ap (λ a. a ++ feature_outline_values ys) p
    ∙ (ap (λ b. outlines es ++ b) q ∙ sym (map-append (λ (e : Text × FeatureValue). feature_outline_of e.0 e.1) es fs)))

-- ---- the search for an id by halving
goes_above : (k : Text) (es : Entries) → T (below_all text_cmp k es) → 0 < length es → goes_to k es ≡ true
goes_above k [] up some = absurd (omega arith)
goes_above k (e ∷ []) up some = ap is_ge (flip k e.0 Less (less _ (first _ _ up)))
goes_above k (e ∷ (f ∷ es)) up some = goes_above k (f ∷ es) (second _ _ up) (omega arith)

some_entries : (os : List FeatureOutline) (es : Entries) → feature_outline_values os ≡ outlines es → 0 < length os → 0 < length es
some_entries [] es is some = absurd (omega arith)
some_entries (y ∷ ys) [] is some = too_few y ys is
some_entries (y ∷ ys) (e ∷ es) is some = omega arith

below_back : (x : Text) (es fs : Entries) → T (below_all text_cmp x (es ++ fs)) → T (below_all text_cmp x fs)
below_back x [] fs up = up
below_back x (e ∷ es) fs up = below_back x es fs (second _ _ up)

abbrev pub HasSome : Chunk → Type 0
HasSome chunk = 0 < length chunk.outlines.items

-- each chunk reaches an id that is before all outlines
all_reach : (k : Text) (cs : List Chunk) (es : Entries) (j : ℕ) (d : Chunk) → feature_outline_values (joined cs) ≡ outlines es → T (below_all text_cmp k es) →
    AreFilled cs → j < length cs → reaches k (slice_index_or cs j d).outlines.items ≡ true
all_reach k [] es j d is up filled h = absurd (omega arith)
all_reach k (c ∷ cs) es zero d is up filled h =
    let parts = split c.outlines.items (joined cs) es is in
    let above = subst (λ zs. T (below_all text_cmp k zs)) (sym parts.whole) up in
    reaches_keys c.outlines.items parts.front k parts.fronts ∙ goes_above k parts.front (below_front k parts.front parts.rest above)
    (some_entries c.outlines.items parts.front parts.fronts (All-head HasSome c cs filled))
all_reach k (c ∷ cs) es (suc j) d is up filled h =
    let parts = split c.outlines.items (joined cs) es is in
    let above = subst (λ zs. T (below_all text_cmp k zs)) (sym parts.whole) up in
    all_reach k cs parts.rest j d parts.rests (below_back k parts.front parts.rest above) (All-tail HasSome c cs filled) (omega arith)

-- a chunk before one that does not reach an id does not reach it
none_reach : (k : Text) (cs : List Chunk) (es : Entries) (i j : ℕ) (d : Chunk) → feature_outline_values (joined cs) ≡ outlines es → T (is_sorted text_cmp es) →
    AreFilled cs → i ≤ j → j < length cs
    → reaches k (slice_index_or cs j d).outlines.items ≡ false → reaches k (slice_index_or cs i d).outlines.items ≡ false
none_reach k [] es i j d is up filled from h short = absurd (omega arith)
none_reach k (c ∷ cs) es zero zero d is up filled from h short = short
none_reach k (c ∷ cs) es (suc i) zero d is up filled from h short = absurd (omega arith)
none_reach k (c ∷ cs) es (suc i) (suc j) d is up filled from h short =
    let parts = split c.outlines.items (joined cs) es is in
    none_reach k cs parts.rest i j d parts.rests (sorted_rest parts.front parts.rest (subst (λ zs. T (is_sorted text_cmp zs)) (sym parts.whole) up))
    (All-tail HasSome c cs filled) (omega arith) (omega arith) short
none_reach k (c ∷ cs) es zero (suc j) d is up filled from h short = by (reaches k c.outlines.items) refl where
  by : (b : Bool) → reaches k c.outlines.items ≡ b → reaches k c.outlines.items ≡ false
  by false e = e
  by true e =
      let parts = split c.outlines.items (joined cs) es is in
      let both_up = subst (λ zs. T (is_sorted text_cmp zs)) (sym parts.whole) up in
      let yes = all_reach k cs parts.rest j d parts.rests (below_rest k parts.front parts.rest both_up
      (sym (reaches_keys c.outlines.items parts.front k parts.fronts) ∙ e)) (All-tail HasSome c cs filled) (omega arith) in
      absurd cc

abbrev pub falls_short_of : Text → Chunk → Bool
falls_short_of k c = not (reaches k c.outlines.items)

off : (b : Bool) → not b ≡ true → b ≡ false
off true e = absurd cc
off false e = refl

on : (b : Bool) → not b ≡ false → b ≡ true
on true e = refl
on false e = absurd cc

-- chunks of features, which were searched as the slice l for the id k
module _ (cs l : List Chunk) (searched : l ≡ cs) (k : Text) (place : ℕ) (point : IsPartitionedBy (falls_short_of k) l →
    IsPartitionPoint (λ c. falls_short_of k c ≡ true) (λ c. falls_short_of k c ≡ false) l place)
    (features : Features) (known : AreChunksOf cs features) where
  at_point : IsPartitionPoint (λ c. falls_short_of k c ≡ true) (λ c. falls_short_of k c ≡ false) cs place
  at_point =
      subst (λ xs. IsPartitionedBy (falls_short_of k) xs → IsPartitionPoint (λ c. falls_short_of k c ≡ true) (λ c. falls_short_of k c ≡ false) xs place)
      searched point
      (λ i j d from h short. ap not (none_reach k cs (entries features) i j d known.outlines (entries_sorted features) known.filled from h (off _ short)))

  pub short_before : (j : ℕ) (d : Chunk) → j < place → place ≤ length cs → reaches k (slice_index_or cs j d).outlines.items ≡ false
  short_before j d h within = off _ (at_point.0 j d (omega arith) h)

  pub reached_here : (d : Chunk) → place < length cs → reaches k (slice_index_or cs place d).outlines.items ≡ true
  reached_here d h = on _ (at_point.1 place d (omega arith) h)

-- ---- an edit under a key: of features, and of their entries
record IsEdit (k : Text) (op : Entries → Entries) (change : Features → Features) : Type 0 where
  pub reported : (features : Features) → entries (change features) ≡ op (entries features)
  pub front : (es fs : Entries) → T (is_sorted text_cmp (es ++ fs)) → goes_to k es ≡ true → op (es ++ fs) ≡ op es ++ fs
  pub following : (es fs : Entries) → T (is_sorted text_cmp es) → goes_to k es ≡ false → op (es ++ fs) ≡ es ++ op fs

put_edit : (f : FeatureValue) → IsEdit f.id (put text_cmp f.id f) (λ features. insert features f.id f)
put_edit f = record {
  reported = λ features. entries-insert nat_list_cmp_total features f.id f;
  front = λ es fs up h. put_front f.id f es fs h;
  following = λ es fs up h. put_after f.id f es fs up h;
}

cut_edit : (k : Text) → IsEdit k (where_key text_cmp (others k)) (λ features. remove features k)
cut_edit k = record {
  reported = λ features. entries_left features k;
  front = λ es fs up h. cut_front k es fs up h;
  following = λ es fs up h. cut_after k es fs up h;
}

module _ (k : Text) (op : Entries → Entries) (change : Features → Features) (edit : IsEdit k op change) where
  alone : (c new : Chunk) (es : Entries) → feature_outline_values c.outlines.items ≡ outlines es → T (is_sorted text_cmp es) →
      ((features : Features) → AreOutlines c.outlines.items features → AreOutlines new.outlines.items (change features)) →
      feature_outline_values new.outlines.items ≡ outlines (op es)
  alone c new es is up edited =
      let same = entries-from_sorted text_cmp es up in
      edited (from_sorted es) (is ∙ ap outlines (sym same)) ∙ ap outlines (edit.reported (from_sorted es) ∙ ap op same)

  in_chunk : (cs : List Chunk) (i : ℕ) (c new : Chunk) (es : Entries) → feature_outline_values (joined cs) ≡ outlines es → T (is_sorted text_cmp es)
      → ((j : ℕ) (d : Chunk) → j < i → reaches k (slice_index_or cs j d).outlines.items ≡ false)
      → ((d : Chunk) → i + 1 < length cs → reaches k (slice_index_or cs i d).outlines.items ≡ true)
      → i < length cs → c ≡ slice_index_or cs i c → ((features : Features) → AreOutlines c.outlines.items features →
      AreOutlines new.outlines.items (change features))
      → feature_outline_values (joined (set cs i new)) ≡ outlines (op es)
  in_chunk [] i c new es is up before here within at edited = absurd (omega arith)
  in_chunk (x ∷ []) (suc i) c new es is up before here within at edited = absurd (omega arith)
  in_chunk (x ∷ []) zero c new es is up before here within at edited =
      let all : feature_outline_values c.outlines.items ≡ outlines es = ap (λ (y : Chunk). feature_outline_values y.outlines.items) at
      ∙ (ap feature_outline_values (sym (append-nil x.outlines.items)) ∙ is) in
      ap feature_outline_values (append-nil new.outlines.items) ∙ alone c new es all up edited
  in_chunk (x ∷ (y ∷ cs)) zero c new es is up before here within at edited =
      let parts = split x.outlines.items (joined (y ∷ cs)) es is in
      let both_up = subst (λ zs. T (is_sorted text_cmp zs)) (sym parts.whole) up in
      let far = sym (reaches_keys x.outlines.items parts.front k parts.fronts) ∙ here x (omega arith) in
      let one = alone c new parts.front (ap (λ (z : Chunk). feature_outline_values z.outlines.items) at ∙ parts.fronts)
      (sorted_front parts.front parts.rest both_up) edited in
      two new.outlines.items (joined (y ∷ cs)) (op parts.front) parts.rest one parts.rests
      ∙ ap outlines (sym (edit.front parts.front parts.rest both_up far) ∙ ap op parts.whole)
  in_chunk (x ∷ (y ∷ cs)) (suc i) c new es is up before here within at edited =
      let parts = split x.outlines.items (joined (y ∷ cs)) es is in
      let both_up = subst (λ zs. T (is_sorted text_cmp zs)) (sym parts.whole) up in
      let near = sym (reaches_keys x.outlines.items parts.front k parts.fronts) ∙ before zero x (omega arith) in
      let rest = in_chunk (y ∷ cs) i c new parts.rest parts.rests (sorted_rest parts.front parts.rest both_up) (λ j d h. before (suc j) d (omega arith))
      (λ d h. here d (omega arith)) (omega arith) at edited in
      two x.outlines.items (joined (set (y ∷ cs) i new)) parts.front (op parts.rest) parts.fronts rest
      ∙ ap outlines (sym (edit.following parts.front parts.rest (sorted_front parts.front parts.rest both_up) near) ∙ ap op parts.whole)

pub put_in_chunk : (cs : List Chunk) (i : ℕ) (c new : Chunk) (k : Text) (features : Features) → AreOutlines (joined cs) features
    → ((j : ℕ) (d : Chunk) → j < i → reaches k (slice_index_or cs j d).outlines.items ≡ false)
    → ((d : Chunk) → i + 1 < length cs → reaches k (slice_index_or cs i d).outlines.items ≡ true)
    → i < length cs → c ≡ slice_index_or cs i c
    → (f : FeatureValue) → k ≡ f.id → ((fs : Features) → AreOutlines c.outlines.items fs → AreOutlines new.outlines.items (insert fs f.id f)) →
    AreOutlines (joined (set cs i new)) (insert features f.id f)
put_in_chunk cs i c new k features known before here within at f id edited =
    in_chunk f.id (put text_cmp f.id f) (λ fs. insert fs f.id f) (put_edit f) cs i c new (entries features) known (entries_sorted features)
    (λ j d h. subst (λ q. reaches q (slice_index_or cs j d).outlines.items ≡ false) id (before j d h))
    (λ d h. subst (λ q. reaches q (slice_index_or cs i d).outlines.items ≡ true) id (here d h)) within at edited
    ∙ ap outlines (sym (entries-insert nat_list_cmp_total features f.id f))

pub cut_in_chunk : (cs : List Chunk) (i : ℕ) (c new : Chunk) (k : Text) (features : Features) → AreOutlines (joined cs) features
    → ((j : ℕ) (d : Chunk) → j < i → reaches k (slice_index_or cs j d).outlines.items ≡ false)
    → ((d : Chunk) → i + 1 < length cs → reaches k (slice_index_or cs i d).outlines.items ≡ true)
    → i < length cs → c ≡ slice_index_or cs i c
    → ((fs : Features) → AreOutlines c.outlines.items fs → AreOutlines new.outlines.items (remove fs k)) →
    AreOutlines (joined (set cs i new)) (remove features k)
cut_in_chunk cs i c new k features known before here within at edited =
    in_chunk k (where_key text_cmp (others k)) (λ fs. remove fs k) (cut_edit k) cs i c new (entries features) known (entries_sorted features) before here within
    at edited
    ∙ ap outlines (sym (entries_left features k))

none_left : (k : Text) (es : Entries) → feature_outline_values [] ≡ outlines es → feature_outline_values [] ≡ outlines (where_key text_cmp (others k) es)
none_left k [] is = is
none_left k (e ∷ es) is = too_many e es is

-- if no chunk exists, no outline does
none_there : (features : Features) → AreChunksOf [] features → entries features ≡ []
none_there features known = by (entries features) known.outlines where
  by : (es : Entries) → feature_outline_values [] ≡ outlines es → es ≡ []
  by [] is = refl
  by (e ∷ es) is = too_many e es is

pub none_in_chunks : (cs : List Chunk) (i : ℕ) (k : Text) (features : Features) → (0 < length cs → i < length cs) → (i < length cs → ⊥) →
    AreChunksOf cs features → AreChunksOf cs (remove features k)
none_in_chunks [] i k features bound off known =
    let none = none_there features known in
    record {
      outlines = ap outlines (sym (entries_left features k ∙ ap (where_key text_cmp (others k)) none));
      filled = All-nil HasSome;
      bounded =
          All-nil IsBounded;
    }
none_in_chunks (c ∷ cs) i k features bound off known = absurd (off (bound (omega arith)))

-- ---- a chunk that is cut in two
halved : (cs : List Chunk) (i : ℕ) (old one following : Chunk) → i < length cs → old ≡ slice_index_or cs i old → one.outlines.items ++ following.outlines.items
    ≡ old.outlines.items → joined (list.insert (set cs i one) (suc i) following) ≡ joined cs
halved [] i old one following within at parts = absurd (omega arith)
halved (c ∷ []) zero old one following within at parts =
    sym (append_assoc one.outlines.items following.outlines.items []) ∙ ap (λ xs. xs ++ []) (parts ∙ ap (λ (x : Chunk). x.outlines.items) at)
halved (c ∷ (d ∷ cs)) zero old one following within at parts =
    sym (append_assoc one.outlines.items following.outlines.items (joined (d ∷ cs))) ∙ ap (λ xs. xs ++ joined (d ∷ cs))
    (parts ∙ ap (λ (x : Chunk). x.outlines.items) at)
halved (c ∷ cs) (suc i) old one following within at parts = ap (λ xs. c.outlines.items ++ xs) (halved cs i old one following (omega arith) at parts)

pub halved_at : (cs : List Chunk) (i : ℕ) (old one following : Chunk) → i < length cs → old ≡ slice_index_or cs i old → (n : ℕ) → one.outlines.items
    ≡ take n old.outlines.items → following.outlines.items ≡ drop n old.outlines.items → joined (list.insert (set cs i one) (i + 1) following) ≡ joined cs
halved_at cs i old one following within at n p q =
    let next : suc i ≡ i + 1 = omega arith in
    subst (λ m. joined (list.insert (set cs i one) m following) ≡ joined cs) next
    (halved cs i old one following within at (ap (λ xs. xs ++ following.outlines.items) p
    ∙ (ap (λ xs. take n old.outlines.items ++ xs) q ∙ take-append-drop n old.outlines.items)))

-- ---- an empty chunk that is dropped
pub empty_is : (os : List FeatureOutline) → length os ≡ 0 → os ≡ []
empty_is [] h = refl
empty_is (o ∷ os) h = absurd (omega arith)

pub shed_at : (cs : List Chunk) (i : ℕ) (c : Chunk) → i < length cs → c ≡ slice_index_or cs i c → length c.outlines.items ≡ 0 → joined (list.remove cs i)
    ≡ joined cs
shed_at [] i c within at none = absurd (omega arith)
shed_at (x ∷ []) zero c within at none = ap (λ xs. xs ++ []) (sym (empty_is x.outlines.items (ap (λ (y : Chunk). length y.outlines.items) (sym at) ∙ none)))
shed_at (x ∷ (y ∷ cs)) zero c within at none = ap (λ xs. xs ++ joined (y ∷ cs)) (sym (empty_is x.outlines.items
    (ap (λ (z : Chunk). length z.outlines.items) (sym at) ∙ none)))
shed_at (x ∷ cs) (suc i) c within at none = ap (λ xs. x.outlines.items ++ xs) (shed_at cs i c (omega arith) at none)

-- ---- what is left after a place
pub dropped_some : {X : Type 0} (os last : List X) (n : ℕ) → last ≡ drop n os → n < length os → 0 < length last
dropped_some os last n is h = let left : length last ≡ length os - n = ap length is ∙ length-drop n os in omega arith

-- ---- the chunk that comes next
pub next_chunk : (cs : List Chunk) (i : ℕ) (c : Chunk) (os : List FeatureOutline) → i < length cs → c ≡ get_or cs i c → os ≡ c.outlines.items →
    joined (drop i cs) ≡ os ++ joined (drop (i + 1) cs)
next_chunk cs i c os within is items =
    ap joined (drop_more cs i c within) ∙ (ap (λ (x : Chunk). x.outlines.items ++ joined (drop (i + 1) cs)) (sym is)
    ∙ ap (λ xs. xs ++ joined (drop (i + 1) cs)) (sym items))
