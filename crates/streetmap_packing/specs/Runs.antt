-- Lists cut into runs, each as long as a test of it allows.
use Rattle.std.specs.Prelude.{◌≡◌, ◌≢◌, ℕ, ◌+◌, Bool, true, false, List, [], ◌∷◌, ◌++◌}

-- the run of this number does not pass with what comes next, if something does
abbrev pub Stops : {A : Type 0} → (ℕ → List A → Bool) → ℕ → List A → List A → Type 0
Stops passes n run [] = Unit {0}
Stops passes n run (x ∷ rest) = passes n (run ++ x ∷ []) ≡ false

-- the longest run at the front of a list, and the rest: it has an element, it passes, and with the
-- next element it does not
pub record IsLongestRun {A : Type 0} (passes : ℕ → List A → Bool) (n : ℕ)
    (xs run rest : List A) : Type 0 where
  pub whole : xs ≡ run ++ rest
  pub some : run ≢ []
  pub passed : passes n run ≡ true
  pub stops : Stops passes n run rest

-- the list is these runs one after the other, the first of them of this number, each the longest at
-- its front
abbrev pub AreRuns : {A : Type 0} → (ℕ → List A → Bool) → ℕ → List A → List (List A) → Type 0
AreRuns passes n xs [] = xs ≡ []
AreRuns {A} passes n xs (run ∷ runs) = (rest : List A)
    × IsLongestRun passes n xs run rest × AreRuns passes (n + 1) rest runs

-- if it is at the end, it passes with nothing that may follow
abbrev pub TakesNoMore : {A : Type 0} → (ℕ → List A → Bool) → ℕ → List A → List A → Type 0
TakesNoMore {A} passes n run rest = rest ≡ [] → (x : A) → passes n (run ++ x ∷ []) ≡ false

-- these runs are complete, whatever follows the list, and the elements that are left come after
-- them
abbrev pub AreDone : {A : Type 0} → (ℕ → List A → Bool) → ℕ → List A → List (List A) → List A →
    Type 0
AreDone passes n xs [] left = xs ≡ left
AreDone {A} passes n xs (run ∷ runs) left = (rest : List A)
    × IsLongestRun passes n xs run rest × TakesNoMore passes n run rest
    × AreDone passes (n + 1) rest runs left
