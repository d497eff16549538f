-- The order of the ids of a chunk, and which of them come after another one.
use Rattle.std.proofs.Common.{◌≡◌, ℕ, zero, suc, ◌<◌, List, [], ◌∷◌, All, Bool, true, false, T, None, Some, length, get_or, string_bytes, refl, sym, ap, subst}
use Rattle.std.proofs.Common.{◌∙◌, arith}
use Rattle.std.specs.Ordering.{is_gt}
use Rattle.std.specs.declared.cmp.Ordering.{Ordering}
use Rattle.std.specs.declared.cmp.Ordering.TheVariants.{Less, Equal, Greater}
use Rattle.std.specs.Cmp.Lexicographic.{nat_list_cmp_total}
use Rattle.std.specs.FinMap.{entries, entries_sorted, is_sorted}
use Rattle.std.specs.FinMap.Entries.{below_all}
use Rattle.std.proofs.lemmas.List.Elements.{All-nil, All-cons, All-head, All-weaker}
use Rattle.streetmap_geojson.specs.FeatureValue.{FeatureValue}
use Rattle.streetmap_query.specs.QueryValue.{QueryValue}
use Rattle.streetmap_batch.specs.Text.{Text, text_cmp}
use Rattle.streetmap_ledger.specs.State.{Features}
use Rattle.streetmap_ledger.specs.Outlines.{FeatureOutlineValue}
use Rattle.streetmap_ledger.specs.OutlineView.{feature_outline_values}
use Rattle.streetmap_ledger.specs.Pages.{comes_after}
use Rattle.streetmap_ledger.specs.declared.outline.FeatureOutline.{FeatureOutline}
use Rattle.streetmap_ledger.proofs.TextMaps.{first, second}
use Rattle.streetmap_outlines.specs.Outlines.{joined, IsOutlineOf, AreOutlines}
use Rattle.streetmap_outlines.specs.Chunks.{reaches, AreInOrder, BeginsAfter}
use Rattle.streetmap_outlines.specs.Selections.{AllComeAfter}
use Rattle.streetmap_outlines.specs.declared.chunk.Chunk.{Chunk}
use Rattle.streetmap_outlines.proofs.Places.{Entries, outlines, tail_is, key_is, too_few, flip}
use Rattle.streetmap_ledger.proofs.Walking.{is_less as less}
use Rattle.streetmap_outlines.proofs.InChunks.{split, sorted_front, sorted_rest, falls_short}

abbrev Under : (Text → Ordering) → Ordering → FeatureOutline → Type 0
Under compare r o = compare (string_bytes o.id) ≡ r

below : (k : Text) (os : List FeatureOutline) (es : Entries) → feature_outline_values os ≡ outlines es → T (below_all text_cmp k es) →
    All (Under (text_cmp k) Less) os
below k [] es is up = All-nil (Under (text_cmp k) Less)
below k (o ∷ os) [] is up = too_few o os is
below k (o ∷ os) (e ∷ es) is up =
    All-cons (Under (text_cmp k) Less) o os (ap (text_cmp k) (key_is o os e es is) ∙ less _ (first _ _ up))
    (below k os es (tail_is o os e es is) (second _ _ up))

in_order : (os : List FeatureOutline) (es : Entries) → feature_outline_values os ≡ outlines es → T (is_sorted text_cmp es) → AreInOrder os
in_order [] es is up = tt
in_order (o ∷ os) [] is up = too_few o os is
in_order (o ∷ os) (e ∷ es) is up =
    let tail = tail_is o os e es is in
    let key = key_is o os e es is in (
      subst (λ k. All (Under (text_cmp k) Less) os) (sym key) (below e.0 os es tail (first _ _ up)),
      in_order os es tail (second _ _ up),
    )

-- the outlines of each chunk are in order
one_in_order : (cs : List Chunk) (i : ℕ) (chunk : Chunk) (es : Entries) → feature_outline_values (joined cs) ≡ outlines es → T (is_sorted text_cmp es) → i
    < length cs → chunk ≡ get_or cs i chunk → AreInOrder chunk.outlines.items
one_in_order [] i chunk es is up within at = absurd (omega arith)
one_in_order (c ∷ cs) zero chunk es is up within at =
    let parts = split c.outlines.items (joined cs) es is in
    subst (λ (x : Chunk). AreInOrder x.outlines.items) (sym at) (in_order c.outlines.items parts.front parts.fronts
    (sorted_front parts.front parts.rest (subst (λ zs. T (is_sorted text_cmp zs)) (sym parts.whole) up)))
one_in_order (c ∷ cs) (suc i) chunk es is up within at =
    let parts = split c.outlines.items (joined cs) es is in
    one_in_order cs i chunk parts.rest parts.rests (sorted_rest parts.front parts.rest (subst (λ zs. T (is_sorted text_cmp zs)) (sym parts.whole) up))
    (omega arith) at

pub chunk_in_order : (cs : List Chunk) (i : ℕ) (chunk : Chunk) (features : Features) → AreOutlines (joined cs) features → i < length cs → chunk
    ≡ get_or cs i chunk → AreInOrder chunk.outlines.items
chunk_in_order cs i chunk features known within at = one_in_order cs i chunk (entries features) known (entries_sorted features) within at

-- if the last outline does not reach an id, none does
abbrev Before : Text → FeatureOutline → Type 0
Before k o = text_cmp (string_bytes o.id) k ≡ Less

none_reach : (k : Text) (os : List FeatureOutline) → AreInOrder os → reaches k os ≡ false → All (Before k) os
none_reach k [] up short = All-nil (Before k)
none_reach k (o ∷ []) up short = All-cons (Before k) o [] (falls_short _ short) (All-nil (Before k))
none_reach k (o ∷ (p ∷ os)) up short =
    let rest = none_reach k (p ∷ os) up.1 short in
    let next = All-head (Under (text_cmp (string_bytes o.id)) Less) p os up.0 in
    All-cons (Before k) o (p ∷ os) (nat_list_cmp_total.trans (string_bytes o.id) (string_bytes p.id) k next (All-head (Before k) p os rest)) rest

-- if the first outline is after an id, all are
abbrev IsAfter : Text → FeatureOutline → Type 0
IsAfter k o = text_cmp (string_bytes o.id) k ≡ Greater

greater : (r : Ordering) → is_gt r ≡ true → r ≡ Greater
greater Less h = absurd cc
greater Equal h = absurd cc
greater Greater h = refl

all_after : (k : Text) (os : List FeatureOutline) → AreInOrder os → BeginsAfter k os → All (IsAfter k) os
all_after k [] up begins = All-nil (IsAfter k)
all_after k (o ∷ os) up begins =
    let one : text_cmp (string_bytes o.id) k ≡ Greater = greater _ begins in
    let before : text_cmp k (string_bytes o.id) ≡ Less = flip (string_bytes o.id) k Greater one in
    All-cons (IsAfter k) o os one
    (All-weaker (Under (text_cmp (string_bytes o.id)) Less) (IsAfter k) (λ p next. flip k (string_bytes p.id) Less
    (nat_list_cmp_total.trans k (string_bytes o.id) (string_bytes p.id) before next)) os up.0)

-- what that says of features
abbrev ComesAfter : QueryValue → Bool → FeatureOutline → Type 0
ComesAfter q b o = (f : FeatureValue) → IsOutlineOf o f → comes_after q.after f ≡ b

after_id : (q : QueryValue) (k : Text) (r : Ordering) → q.after ≡ Some k → (o : FeatureOutline) → text_cmp (string_bytes o.id) k ≡ r → (f : FeatureValue) →
    IsOutlineOf o f → comes_after q.after f ≡ is_gt r
after_id q k r requested o at f is =
    let id : string_bytes o.id ≡ f.id = ap (λ (v : FeatureOutlineValue). v.id) is in
    ap (λ a. comes_after a f) requested ∙ (ap (λ i. is_gt (text_cmp i k)) (sym id) ∙ ap is_gt at)

pub none_comes_after : (q : QueryValue) (k : Text) → q.after ≡ Some k → (os : List FeatureOutline) → AreInOrder os → reaches k os ≡ false →
    AllComeAfter q false os
none_comes_after q k requested os up short = All-weaker (Before k) (ComesAfter q false) (after_id q k Less requested) os (none_reach k os up short)

pub all_come_after : (q : QueryValue) (k : Text) → q.after ≡ Some k → (os : List FeatureOutline) → AreInOrder os → BeginsAfter k os → AllComeAfter q true os
all_come_after q k requested os up begins = All-weaker (IsAfter k) (ComesAfter q true) (after_id q k Greater requested) os (all_after k os up begins)

pub all_come_after_none : (q : QueryValue) → q.after ≡ None → (os : List FeatureOutline) → AllComeAfter q true os
all_come_after_none q requested os k d within f is = ap (λ a. comes_after a f) requested
