-- Batches that were taken, and one more.
use Rattle.std.proofs.Common.{◌≡◌, ℕ, ◌+◌, List, [], ◌∷◌, ◌++◌, Option, Result, Ok, length, take}
use Rattle.std.proofs.Common.{refl, ap, subst, arith}
use Rattle.std.proofs.lemmas.List.{map-append}
use Rattle.streetmap_batch.specs.Text.{Text}
use Rattle.streetmap_batch.specs.BatchValue.{EditValue, BatchValue}
use Rattle.streetmap_packing.specs.Packs.{numbered, numbered_all}
use Rattle.streetmap_packing.specs.Underway.{edits_in}
use Rattle.streetmap_packing.proofs.PackLemmas.{numbered_append}
use Rattle.streetmap_loading.specs.Ends.{count_of_edits}
use Rattle.streetmap_loading.specs.Places.{PlacedValue, edits_of, places_of}
use Rattle.streetmap_loading.specs.Sinks.{SinkTakesAll}
use Rattle.streetmap_loading.specs.declared.load_fault.LoadFault.{LoadFault}

pub length-numbered : (key : Text) (n : ℕ) (runs : List (List EditValue)) →
    length (numbered_all key n runs) ≡ length runs
length-numbered key n [] = refl
length-numbered key n (run ∷ runs) = let e = length-numbered key (n + 1) runs in omega (arith, e)

pub edits-numbered : (key : Text) (n : ℕ) (runs : List (List EditValue)) →
    count_of_edits (numbered_all key n runs) ≡ edits_in runs
edits-numbered key n [] = refl
edits-numbered key n (run ∷ runs) = ap (λ k. length run + k) (edits-numbered key (n + 1) runs)

pub edits_more : (bs : List BatchValue) (b : BatchValue) →
    count_of_edits (bs ++ b ∷ []) ≡ count_of_edits bs + length b.edits
edits_more [] b = omega arith
edits_more (x ∷ bs) b = let e = edits_more bs b in omega (arith, e)

-- the runs with one more
pub one_numbered : (key : Text) (sent : List (List EditValue)) (run : List EditValue) →
    numbered_all key 1 (sent ++ run ∷ []) ≡ numbered_all key 1 sent ++ numbered key
    (1 + length sent) run ∷ []
one_numbered key sent run = numbered_append key 1 sent (run ∷ [])

-- edits with one more
pub edits_of_more : (xs : List PlacedValue) (p : PlacedValue) →
    edits_of (xs ++ p ∷ []) ≡ edits_of xs ++ p.edit ∷ []
edits_of_more xs p = map-append (λ (q : PlacedValue). q.edit) xs (p ∷ [])

pub places_of_more : (xs : List PlacedValue) (p : PlacedValue) →
    places_of (xs ++ p ∷ []) ≡ places_of xs ++ p.place ∷ []
places_of_more xs p = map-append (λ (q : PlacedValue). q.place) xs (p ∷ [])

-- the places of the first edits
pub first_places : (xs ys : List PlacedValue) →
    take (length (edits_of xs)) (places_of (xs ++ ys)) ≡ places_of xs
first_places [] ys = refl
first_places (x ∷ xs) ys = ap (λ t. x.place ∷ t) (first_places xs ys)

module _ {S : Type 0} (takes : S → BatchValue → Result (Option ℕ) LoadFault → S → Type 0) where
  pub takes_more :
      (first : S) (before : Option ℕ) (bs : List BatchValue) (mid : S) (serial : Option ℕ)
      (b : BatchValue) (now : Option ℕ) (last : S)
      → SinkTakesAll takes first before bs mid serial → takes mid b (Ok now) last → SinkTakesAll takes
      first
      before (bs ++ b ∷ []) last now
  takes_more first before [] mid serial b now last all one =
      (last, now, subst (λ (s : S). takes s b (Ok now) last) all.0 one, (refl, refl))
  takes_more first before (x ∷ bs) mid serial b now last all one =
      (all.0, all.1, all.2, takes_more all.0 all.1 bs mid serial b now last all.3 one)
