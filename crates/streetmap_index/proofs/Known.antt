-- What an index knows after a change under one name.
use Rattle.std.proofs.Common.{◌≡◌, List, [], Bool, true, false, None, Some, IsSome, String, string_bytes, refl, sym, ap, subst, ◌∙◌}
use Rattle.std.specs.String.{string_cmp}
use Rattle.std.specs.Ordering.{is_eq, eq_by_cmp}
use Rattle.std.specs.declared.cmp.Ordering.{Ordering}
use Rattle.std.specs.declared.cmp.Ordering.TheVariants.{Less, Equal, Greater}
use Rattle.std.specs.declared.alloc.Global.{Global}
use Rattle.std.specs.Map.{KeepsOthers, IsKeyTest, AreApart}
use Rattle.std.specs.FinMap.{get}
use Rattle.streetmap_batch.specs.Text.{Text, text_cmp}
use Rattle.streetmap_ledger.specs.State.{State}
use Rattle.streetmap_ledger.proofs.TextMaps.{one_text}
use Rattle.streetmap_index.specs.Index.{IsOutlinedIf, AreKnown, KnowsAll, known_under}
use Rattle.streetmap_index.specs.declared.outlined.OutlinedCollection.{OutlinedCollection}

abbrev pub Known : Type 0
Known = List (String Global × OutlinedCollection)

equal_of : (r : Ordering) → is_eq r ≡ true → r ≡ Equal
equal_of Less e = cc
equal_of Equal e = refl
equal_of Greater e = cc

abbrev pub at_text : Text → String Global → Bool
at_text q k = is_eq (text_cmp q (string_bytes k))

key_test : (q : Text) → IsKeyTest (eq_by_cmp string_cmp) (at_text q)
key_test q x y h = ap (λ t. is_eq (text_cmp t (string_bytes y))) (one_text q (string_bytes x) (equal_of _ h))

apart : (q id : Text) (r : Ordering) → text_cmp q id ≡ r → is_eq r ≡ false → AreApart (at_text id) (at_text q)
apart q id r e off k h = ap (λ t. is_eq (text_cmp q t)) (sym (one_text id (string_bytes k) (equal_of _ h))) ∙ (ap is_eq e ∙ off)

-- an index of a state after a change under one name is one of a state that differs at most there
pub known_after : (es fs : Known) (s t : State) (name : Text) → KeepsOthers (eq_by_cmp string_cmp) (at_text name) es fs
    → AreKnown es s
    → ((other : Text) → is_eq (text_cmp other name) ≡ false → get t.collections other ≡ get s.collections other)
    → ((o : OutlinedCollection) → known_under name fs ≡ Some o → IsOutlinedIf o (get t.collections name))
    → AreKnown fs t
unfolding KeepsOthers
known_after es fs s t name keeps known same here other o there = by (text_cmp other name) refl where
  elsewhere : (r : Ordering) → text_cmp other name ≡ r → is_eq r ≡ false → IsOutlinedIf o (get t.collections other)
  elsewhere r e off = subst (IsOutlinedIf o) (sym (same other (ap is_eq e ∙ off))) (known other o
      (sym (keeps (at_text other) (key_test other) (apart other name r e off)) ∙ there))

  by : (r : Ordering) → text_cmp other name ≡ r → IsOutlinedIf o (get t.collections other)
  by Less e = elsewhere Less e refl
  by Greater e = elsewhere Greater e refl
  by Equal e =
      let is = one_text other name e in
      subst (λ k. IsOutlinedIf o (get t.collections k)) (sym is) (here o (ap (λ k. known_under k fs) (sym is) ∙ there))

-- if all were known, and what changed is known, all are known
pub all_known_after : (es fs : Known) (s t : State) (name : Text) → KeepsOthers (eq_by_cmp string_cmp) (at_text name) es fs
    → ((other : Text) → is_eq (text_cmp other name) ≡ false → get t.collections other ≡ get s.collections other)
    → IsSome (known_under name fs) → KnowsAll es s → KnowsAll fs t
unfolding KeepsOthers
all_known_after es fs s t name keeps same here all other c there = by (text_cmp other name) refl where
  elsewhere : (r : Ordering) → text_cmp other name ≡ r → is_eq r ≡ false → IsSome (known_under other fs)
  elsewhere r e off = subst IsSome (sym (keeps (at_text other) (key_test other) (apart other name r e off)))
      (all other c (sym (same other (ap is_eq e ∙ off)) ∙ there))

  by : (r : Ordering) → text_cmp other name ≡ r → IsSome (known_under other fs)
  by Less e = elsewhere Less e refl
  by Greater e = elsewhere Greater e refl
  by Equal e = subst (λ k. IsSome (known_under k fs)) (sym (one_text other name e)) here

pub keeps_all : (es : Known) (name : Text) → KeepsOthers (eq_by_cmp string_cmp) (at_text name) es es
unfolding KeepsOthers
keeps_all es name other test apart = refl

-- an index of nothing
pub none_known : (es : Known) → es ≡ [] → (name : Text) (o : OutlinedCollection) {A : Type 0} → known_under name es ≡ Some o → A
none_known es is name o there = let none : known_under name es ≡ None = ap (known_under name) is in absurd cc

pub nothing_known : {A : Type 0} (o : OutlinedCollection) → None ≡ Some o → A
nothing_known o e = absurd cc
