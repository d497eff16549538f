-- Places of slots, and which of their clients is idle the longest.
use Rattle.std.proofs.Common.{◌≡◌, ℕ, ◌<◌, ◌≤◌, List, length, get_or, set, Option, Some, None, IfSome, IfNone, slice_get, sym, ap, subst, ◌∙◌}
use Rattle.std.specs.List.{AllWithin}
use Rattle.std.proofs.lemmas.List.{get_or-set_same, length-set}
use Rattle.std.proofs.lemmas.List.Elements.{All-from_all_within, AllWithin-upto}
use Rattle.std.proofs.lemmas.Option.{get_or_from_slice_get, slice_get-get_or}
use Rattle.streetmap_connections.specs.declared.slot.Slot.{Slot}
use Rattle.streetmap_connections.specs.Slots.{IdlesFor, IsLongestIdleAt, NoneIdlesBeyond}

-- an item that was put at a place is found there
pub found_put : {A : Type 0} (xs : List A) (i : ℕ) (x : A) → i < length xs → slice_get (set xs i x) i ≡ Some x
found_put xs i x within =
    slice_get-get_or (set xs i x) i x (subst (λ n. i < n) (sym (length-set xs i x)) within)
    ∙ ap (λ y. Some y) (get_or-set_same xs i x x within)

-- a changed item that was put at a place is found there
pub found_changed : {A : Type 0} (f : A → A) (xs : List A) (i : ℕ) (was is : A) → i < length xs → was ≡ get_or xs i was → is ≡ f was → (x : A) → slice_get xs i ≡ Some x → slice_get (set xs i is) i ≡ Some (f x)
found_changed f xs i was is within at made x found =
    found_put xs i is within
    ∙ ap (λ y. Some y) (made ∙ ap f (at ∙ get_or_from_slice_get xs i x was found))

pub found_read : {A : Type 0} (xs : List A) (i : ℕ) (x : A) → i < length xs → x ≡ get_or xs i x → slice_get xs i ≡ Some x
found_read xs i x within at = slice_get-get_or xs i x within ∙ ap (λ y. Some y) (sym at)

module _ {S : Type 0} (now : ℕ) where
  pub none_beyond : (n : ℕ) (slots : List (Slot S)) (i : ℕ) → length slots ≤ i → AllWithin (λ s. (m : ℕ) → IdlesFor now s m → m ≤ n) slots 0 i → NoneIdlesBeyond now n slots
  none_beyond n slots i all most =
      let P : Slot S → Type 0 = λ s. (m : ℕ) → IdlesFor now s m → m ≤ n in
      All-from_all_within P slots (AllWithin-upto P slots 0 i (length slots) all most)

  pub longest_found : (n : ℕ) (slots : List (Slot S)) (found : Option ℕ) → IfSome found (λ place. (s : Slot S) × (slice_get slots place ≡ Some s) × IdlesFor now s n) → NoneIdlesBeyond now n slots → IfSome found (λ place. IsLongestIdleAt now slots place)
  longest_found n slots None idle none = tt
  longest_found n slots (Some place) (s, at, idles) none = (s, at, n, idles, none)

  pub none_found : (n least : ℕ) (slots : List (Slot S)) (found : Option ℕ) → IfNone found (n ≡ least) → NoneIdlesBeyond now n slots → IfNone found (NoneIdlesBeyond now least slots)
  none_found n least slots None is none = subst (λ (k : ℕ). NoneIdlesBeyond now k slots) is none
  none_found n least slots (Some place) is none = tt
