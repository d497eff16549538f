-- Serials that were seen.
use Rattle.std.proofs.Common.{◌≡◌, ◌≢◌, ◌+◌, ◌-◌, ◌<◌, ◌≤◌, ℕ, suc, zero, Bool, true, false, List, [], ◌∷◌, length, get_or, arith}
use Rattle.std.specs.List.{AllByRecursion}
use Rattle.sqlite_trees.specs.Tree.{IsAscending}
use Rattle.streetmap_ledger.specs.Batches.{most_batches}
use Rattle.streetmap_checking.specs.Good.{AreSerials}

-- of the first serials it is marked which they are
pub record AreSeen (serials : List ℕ) (seen : List Bool) (i : ℕ) : Type 0 where
  pub long : length seen ≡ length serials
  pub from_one : (j : ℕ) → j < i → 1 ≤ get_or serials j 0
  pub to_count : (j : ℕ) → j < i → get_or serials j 0 ≤ length serials
  pub marked : (j : ℕ) → j < i → get_or seen (get_or serials j 0 - 1) false ≡ true
  pub only : (k : ℕ) → k < length serials → get_or seen k false ≡ true → (j : ℕ) × (j < i) × (get_or serials j 0 ≡ k + 1)
  pub apart : (j k : ℕ) → j < k → k < i → get_or serials j 0 ≢ get_or serials k 0

all_by : (P : ℕ → Type 0) (xs : List ℕ) → ((j : ℕ) → j < length xs → P (get_or xs j 0)) → AllByRecursion P xs
all_by P [] each = tt
all_by P (x ∷ xs) each = (each 0 (omega arith), all_by P xs (λ j h. each (suc j) (omega (arith, h))))

by_all : (P : ℕ → Type 0) (xs : List ℕ) (j : ℕ) → j < length xs → AllByRecursion P xs → P (get_or xs j 0)
by_all P [] j h all = absurd (omega (arith, h))
by_all P (x ∷ xs) zero h all = all.0
by_all P (x ∷ xs) (suc j) h all = by_all P xs j (omega (arith, h)) all.1

ascending_by : (xs : List ℕ) → ((j k : ℕ) → j < k → k < length xs → get_or xs j 0 ≢ get_or xs k 0) → IsAscending (λ m n. m ≢ n) xs
ascending_by [] each = tt
ascending_by (x ∷ xs) each = (
  all_by (λ n. x ≢ n) xs (λ k h. each 0 (suc k) (omega arith) (omega (arith, h))),
  ascending_by xs (λ j k low h. each (suc j) (suc k) (omega (arith, low)) (omega (arith, h))),
)

by_ascending : (xs : List ℕ) (j k : ℕ) → j < k → k < length xs → IsAscending (λ m n. m ≢ n) xs → get_or xs j 0 ≢ get_or xs k 0
by_ascending [] j k low h up = absurd (omega (arith, h))
by_ascending (x ∷ xs) zero zero low h up = absurd (omega (arith, low))
by_ascending (x ∷ xs) (suc j) zero low h up = absurd (omega (arith, low))
by_ascending (x ∷ xs) zero (suc k) low h up = by_all (λ n. x ≢ n) xs k (omega (arith, h)) up.0
by_ascending (x ∷ xs) (suc j) (suc k) low h up = by_ascending xs j k (omega (arith, low)) (omega (arith, h)) up.1

-- all were seen
pub all_seen : (serials : List ℕ) (seen : List Bool) (i : ℕ) → length serials ≤ i → length serials ≤ most_batches → AreSeen serials seen i → AreSerials serials
all_seen serials seen i end few it = record {
  from_one = all_by (λ n. 1 ≤ n) serials (λ j h. it.from_one j (omega (arith, h, end)));
  to_count = all_by (λ n. n ≤ length serials) serials (λ j h. it.to_count j (omega (arith, h, end)));
  one_each = ascending_by serials (λ j k low h. it.apart j k low (omega (arith, h, end)));
  not_too_many = few;
}

-- one was seen before
pub seen_again : (serials : List ℕ) (seen : List Bool) (i : ℕ) → i < length serials → 1 ≤ get_or serials i 0 → get_or serials i 0 ≤ length serials →
    AreSeen serials seen i → get_or seen (get_or serials i 0 - 1) false ≡ true → AreSerials serials → ⊥
seen_again serials seen i low from to it on are =
    let j = it.only (get_or serials i 0 - 1) (omega (arith, from, to)) on in
    by_ascending serials j.0 i j.1 low are.one_each (omega (arith, j.2, from))
