-- Clients that have a slot one after the other.
use Rattle.std.proofs.Common.{◌≡◌, ℕ, zero, suc, ◌<◌, List, [], ◌∷◌, ◌++◌, length, map, get_or, set, sym, subst, ◌∙◌, ap, append_assoc, arith}
use Rattle.std.specs.List.{flat_map, AllZip}
use Rattle.std.proofs.lemmas.List.{append-nil}
use Rattle.std.proofs.lemmas.List.Concat.{flat_map-append, flat_map_single}
use Rattle.std.proofs.lemmas.List.Folds.{flat_map-map}
use Rattle.std.proofs.lemmas.Slice.Zip.{AllZip-long}
use Rattle.streetmap_connections.specs.declared.client.Client.{Client}
use Rattle.streetmap_connections.specs.declared.slot.Slot.{Slot}
use Rattle.streetmap_connections.specs.Clients.{exchanges_of}
use Rattle.streetmap_connections.specs.History.{Exchange}
use Rattle.streetmap_connections.specs.InTurn.{Continues, IsInTurn}
use Rattle.streetmap_connections.specs.Interleaving.{GoesOnAs, IsInterleaving}
use Rattle.streetmap_connections.specs.Slots.{clients_in, exchanges_in}
use Rattle.streetmap_connections.proofs.Changed.{Differs, set_differs}
use Rattle.streetmap_connections.proofs.Interleavings.{goes_on, goes_on_then, only_one, same_goes_on, starts}

-- one more item that gives nothing yet
by_nothing : {A B : Type 0} (f : A → List B) (xs : List A) (x : A) → f x ≡ [] → flat_map f (xs ++ x ∷ []) ≡ flat_map f xs
by_nothing {B = B} f xs x nothing =
    flat_map-append f xs (x ∷ []) ∙ (ap (λ (l : List B). flat_map f xs ++ (l ++ [])) nothing ∙ append-nil (flat_map f xs))

-- the last item gives more
pub last_gives : {A B : Type 0} (f : A → List B) (xs : List A) (x y : A) (made : List B) → f y ≡ f x ++ made
    → flat_map f (xs ++ y ∷ []) ≡ flat_map f (xs ++ x ∷ []) ++ made
last_gives {B = B} f [] x y made grown = append-nil (f y) ∙ (grown ∙ ap (λ (l : List B). l ++ made) (sym (append-nil (f x))))
last_gives {B = B} f (z ∷ xs) x y made grown =
    ap (λ (l : List B). f z ++ l) (last_gives f xs x y made grown) ∙ sym (append_assoc (f z) (flat_map f (xs ++ x ∷ [])) made)

-- if the lists are the same, they are the same joined
same_joined : {A B : Type 0} (f : A → List B) (xs ys : List A) → map f ys ≡ map f xs → flat_map f ys ≡ flat_map f xs
same_joined {B = B} f xs ys same =
    sym (flat_map-map (λ (l : List B). l) f ys)
    ∙ (ap (λ (ls : List (List B)). flat_map (λ (l : List B). l) ls) same ∙ flat_map-map (λ (l : List B). l) f xs)

none_is_not_one : ¬ (length {A = ℕ} [] ≡ 1)
none_is_not_one e = omega arith

two_are_not_one : {A : Type 0} (x y : A) (zs : List A) → ¬ (length (x ∷ (y ∷ zs)) ≡ 1)
two_are_not_one x y zs e = omega arith

one_is_not_none : {A : Type 0} (x : A) (xs : List A) → ¬ (x ∷ xs ≡ [])
one_is_not_none x xs e = cc

same_first : {A : Type 0} (x y : A) (xs ys : List A) → x ∷ xs ≡ y ∷ ys → x ≡ y
same_first x y xs ys e = cc

same_others : {A : Type 0} (x y : A) (xs ys : List A) → x ∷ xs ≡ y ∷ ys → xs ≡ ys
same_others x y xs ys e = cc

abbrev list_of : {S : Type 0} → Slot S → List (List Exchange)
list_of s = exchanges_in s ∷ []

module _ {S : Type 0} where
  -- ---- the list of each slot continues

  stays : (s : Slot S) → Continues s s
  stays s = ([], sym (append-nil (exchanges_in s)))

  stays_so : (s t : Slot S) → exchanges_in t ≡ exchanges_in s → Continues s t
  stays_so s t same = ([], same ∙ sym (append-nil (exchanges_in s)))

  continues_then : (s t u : Slot S) → Continues s t → Continues t u → Continues s u
  continues_then s t u x y = (x.0 ++ y.0, y.1 ∙ (ap (λ (l : List Exchange). l ++ y.0) x.1 ∙ append_assoc (exchanges_in s) x.0 y.0))

  all_stay : (slots : List (Slot S)) → AllZip Continues slots slots
  all_stay [] = tt
  all_stay (s ∷ slots) = (stays s, all_stay slots)

  all_then : (a b c : List (Slot S)) → AllZip Continues a b → AllZip Continues b c → AllZip Continues a c
  all_then [] [] [] x y = tt
  all_then [] [] (u ∷ c) x y = absurd y
  all_then [] (t ∷ b) c x y = absurd x
  all_then (s ∷ a) [] c x y = absurd x
  all_then (s ∷ a) (t ∷ b) [] x y = absurd y
  all_then (s ∷ a) (t ∷ b) (u ∷ c) x y = (continues_then s t u x.0 y.0, all_then a b c x.1 y.1)

  all_kept : (a b : List (Slot S)) → map exchanges_in b ≡ map exchanges_in a → AllZip Continues a b
  all_kept [] [] kept = tt
  all_kept [] (t ∷ b) kept = absurd (one_is_not_none (exchanges_in t) (map exchanges_in b) kept)
  all_kept (s ∷ a) [] kept = absurd (one_is_not_none (exchanges_in s) (map exchanges_in a) (sym kept))
  all_kept (s ∷ a) (t ∷ b) kept = (
    stays_so s t (same_first (exchanges_in t) (exchanges_in s) (map exchanges_in b) (map exchanges_in a) kept),
    all_kept a b (same_others (exchanges_in t) (exchanges_in s) (map exchanges_in b) (map exchanges_in a) kept),
  )

  all_but_one_stay : (slots : List (Slot S)) (i : ℕ) (x y : Slot S) → x ≡ get_or slots i x → Continues x y → AllZip Continues slots (set slots i y)
  all_but_one_stay [] i x y is goes = tt
  all_but_one_stay (s ∷ slots) zero x y is goes = (subst (λ (z : Slot S). Continues z y) is goes, all_stay slots)
  all_but_one_stay (s ∷ slots) (suc i) x y is goes = (stays s, all_but_one_stay slots i x y is goes)

  -- ---- one slot, which was empty before

  alone_at : (b a : Slot S) (made : List Exchange) → GoesOnAs (exchanges_in b ∷ []) made (exchanges_in a ∷ []) → clients_in b ++ [] ≡ []
      → made ≡ flat_map exchanges_of (clients_in a ++ [])
  alone_at b a made goes nobody =
      let none : clients_in b ≡ [] = sym (append-nil (clients_in b)) ∙ nobody in
      let nothing : exchanges_in b ≡ [] = ap (λ (cs : List (Client S)). flat_map exchanges_of cs) none in
      let all : made ≡ exchanges_in a = only_one (goes [] (starts (exchanges_in b) nothing)) in
      all ∙ ap (λ (cs : List (Client S)). flat_map exchanges_of cs) (sym (append-nil (clients_in a)))

  served_alone : (before after : List (Slot S)) (made : List Exchange) → length after ≡ length before
      → GoesOnAs (map exchanges_in before) made (map exchanges_in after)
      → length before ≡ 1 → flat_map clients_in before ≡ [] → made ≡ flat_map exchanges_of (flat_map clients_in after)
  served_alone [] after made as_many goes one nobody = absurd (none_is_not_one one)
  served_alone (b ∷ []) [] made as_many goes one nobody = absurd (none_is_not_one as_many)
  served_alone (b ∷ []) (a ∷ []) made as_many goes one nobody = alone_at b a made goes nobody
  served_alone (b ∷ []) (a ∷ (c ∷ rest)) made as_many goes one nobody = absurd (two_are_not_one a c rest as_many)
  served_alone (b ∷ (c ∷ rest)) after made as_many goes one nobody = absurd (two_are_not_one b c rest one)

  -- ---- in turn

  in_turn_by : (before after : List (Slot S)) (made : List Exchange) → AllZip Continues before after
      → GoesOnAs (map exchanges_in before) made (map exchanges_in after) → IsInTurn before made after
  in_turn_by before after made each goes = record {
    each = each;
    interleaved = goes;
    alone = served_alone before after made (AllZip-long Continues before after each) goes;
  }

  pub in_turn_then : (a b c : List (Slot S)) (xs ys : List Exchange) → IsInTurn a xs b → IsInTurn b ys c → IsInTurn a (xs ++ ys) c
  in_turn_then a b c xs ys x y = in_turn_by a c (xs ++ ys) (all_then a b c x.each y.each)
      (goes_on_then (map exchanges_in a) (map exchanges_in b) (map exchanges_in c) xs ys x.interleaved y.interleaved)

  -- nothing was answered
  pub in_turn_kept : (before after : List (Slot S)) → map exchanges_in after ≡ map exchanges_in before → IsInTurn before [] after
  in_turn_kept before after kept =
      in_turn_by before after [] (all_kept before after kept) (same_goes_on (map exchanges_in before) (map exchanges_in after) kept)

-- one of the slots changes
module _ {S : Type 0} (slots : List (Slot S)) (i : ℕ) (x y : Slot S) (lt : i < length slots) (is : x ≡ get_or slots i x) where
  spot : Differs list_of slots (set slots i y) x y
  spot = set_differs list_of slots i x y lt is

  lists_before : map exchanges_in slots ≡ spot.front ++ (exchanges_in x ∷ spot.back)
  lists_before = sym (flat_map_single exchanges_in slots) ∙ spot.before

  lists_after : map exchanges_in (set slots i y) ≡ spot.front ++ (exchanges_in y ∷ spot.back)
  lists_after = sym (flat_map_single exchanges_in (set slots i y)) ∙ spot.after

  kept_in_slots : exchanges_in y ≡ exchanges_in x → map exchanges_in (set slots i y) ≡ map exchanges_in slots
  kept_in_slots kept = lists_after ∙ (ap (λ (l : List Exchange). spot.front ++ (l ∷ spot.back)) kept ∙ sym lists_before)

  -- one more client, with nothing answered yet
  pub newcomer_in_slots : (c : Client S) → clients_in y ≡ clients_in x ++ c ∷ [] → exchanges_of c ≡ []
      → map exchanges_in (set slots i y) ≡ map exchanges_in slots
  newcomer_in_slots c one none =
      kept_in_slots (ap (λ (cs : List (Client S)). flat_map exchanges_of cs) one ∙ by_nothing exchanges_of (clients_in x) c none)

  -- the same lists of its clients
  pub same_in_turn : map exchanges_of (clients_in y) ≡ map exchanges_of (clients_in x) → map exchanges_in (set slots i y) ≡ map exchanges_in slots
  same_in_turn same = kept_in_slots (same_joined exchanges_of (clients_in x) (clients_in y) same)

  -- the list of one slot continues
  pub grows_in_slots : (made : List Exchange) → exchanges_in y ≡ exchanges_in x ++ made → IsInTurn slots made (set slots i y)
  grows_in_slots made grown =
      let now : map exchanges_in (set slots i y) ≡ spot.front ++ ((exchanges_in x ++ made) ∷ spot.back)
      = lists_after ∙ ap (λ (l : List Exchange). spot.front ++ (l ∷ spot.back)) grown in
      in_turn_by slots (set slots i y) made (all_but_one_stay slots i x y is (made, grown))
      (λ all woven. subst (λ (ls : List (List Exchange)). IsInterleaving ls (all ++ made)) (sym now)
      (goes_on spot.front spot.back (exchanges_in x) made all
      (subst (λ (ls : List (List Exchange)). IsInterleaving ls all) lists_before woven)))
