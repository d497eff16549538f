-- Finite maps under texts, after two changes at one key.
use Rattle.std.proofs.Common.{◌≡◌, Bool, true, false, cond, Option, None, Some, refl, sym, ap, ◌∙◌}
use Rattle.std.specs.Ordering.{is_eq, eq_by_cmp}
use Rattle.std.specs.declared.cmp.Ordering.{Ordering}
use Rattle.std.specs.declared.cmp.Ordering.TheVariants.{Less, Equal, Greater}
use Rattle.std.specs.Cmp.Lexicographic.{nat_list_cmp_total}
use Rattle.std.specs.FinMap.{FinMap, get, insert, remove, get-insert, get-remove, same_map}
use Rattle.streetmap_batch.specs.Text.{Text, text_cmp}
use Rattle.std.proofs.lemmas.Cmp.{tied_itself}
use Rattle.streetmap_ledger.proofs.TextMaps.{one_text}

module _ {X : Type 0} where
  -- a choice at the key k: here at k, and else what is there
  at_key : (m : FinMap text_cmp X) (k q : Text) (here : Option X) → get m k ≡ here → cond (eq_by_cmp text_cmp q k) here (get m q) ≡ get m q
  at_key m k q here h = go (text_cmp q k) refl where
    go : (r : Ordering) → text_cmp q k ≡ r → cond (is_eq r) here (get m q) ≡ get m q
    go Less e = refl
    go Greater e = refl
    go Equal e = sym (ap (get m) (one_text q k e) ∙ h)

  twice : (b : Bool) (x y z : Option X) → cond b x (cond b y z) ≡ cond b x z
  twice true x y z = refl
  twice false x y z = refl

  pub insert_same : (m : FinMap text_cmp X) (k : Text) (v : X) → get m k ≡ Some v → insert m k v ≡ m
  insert_same m k v h = same_map nat_list_cmp_total one_text _ _ (λ q. get-insert nat_list_cmp_total m k v q ∙ at_key m k q (Some v) h)

  pub insert_again : (m : FinMap text_cmp X) (k : Text) (v w : X) → insert (insert m k v) k w ≡ insert m k w
  insert_again m k v w = same_map nat_list_cmp_total one_text _ _ (λ q.
      get-insert nat_list_cmp_total (insert m k v) k w q ∙ (ap (cond (eq_by_cmp text_cmp q k) (Some w)) (get-insert nat_list_cmp_total m k v q)
      ∙ (twice (eq_by_cmp text_cmp q k) (Some w) (Some v) (get m q) ∙ sym (get-insert nat_list_cmp_total m k w q))))

  pub remove_inserted : (m : FinMap text_cmp X) (k : Text) (v : X) → get m k ≡ None → remove (insert m k v) k ≡ m
  remove_inserted m k v h = same_map nat_list_cmp_total one_text _ _ (λ q.
      get-remove nat_list_cmp_total (insert m k v) k q ∙ (ap (cond (eq_by_cmp text_cmp q k) None) (get-insert nat_list_cmp_total m k v q)
      ∙ (twice (eq_by_cmp text_cmp q k) None (Some v) (get m q) ∙ at_key m k q None h)))

  pub get_inserted : (m : FinMap text_cmp X) (k : Text) (v : X) → get (insert m k v) k ≡ Some v
  get_inserted m k v = get-insert nat_list_cmp_total m k v k ∙ ap (λ r. cond (is_eq r) (Some v) (get m k)) (tied_itself nat_list_cmp_total k)
