use Rattle.std.proofs.Common.{◌≡◌, ◌∙◌, ℕ, IfSome, List, [], ◌++◌, Option, None, Some, take, option_map, ap, subst}
use Rattle.std.specs.Io.Take.{take_inner, take_limit, take_remaining}
use Rattle.std.specs.declared.io.Take.{Take}
use Rattle.streetmap.proofs.texts.read_first.Goals as goal

-- what was appended to an empty text is the first bytes of the inner reader
first_bytes : (n : ℕ) (known : Option (List ℕ)) (old new : List ℕ) → old ≡ [] → IfSome (option_map (take n) known) (λ xs. new ≡ old ++ xs) →
    IfSome known (λ all. new ≡ take n all)
first_bytes n None old new e h = tt
first_bytes n (Some all) old new e h = h ∙ ap (λ l. l ++ take n all) e

taken : {R : Type 0} (remaining : R → Option (List ℕ)) (t : Take R) (reader : R) (n : ℕ) (old new : List ℕ) → take_limit t ≡ n → take_inner t ≡ reader → old
    ≡ []
    → IfSome (take_remaining remaining t) (λ xs. new ≡ old ++ xs) → IfSome (remaining reader) (λ all. new ≡ take n all)
taken {R} remaining t reader n old new limit inner e h =
    let P : ℕ → Type 0 = λ m. IfSome (remaining (take_inner t)) (λ all. new ≡ take m all) in
    let Q : R → Type 0 = λ r. IfSome (remaining r) (λ all. new ≡ take n all) in
    subst Q inner (subst P limit (first_bytes (take_limit t) (remaining (take_inner t)) old new e h))

pub returns-in-Ok : goal.returns-in-Ok
returns-in-Ok g c = taken g.R.Read.remaining c.take-first.result c.args.reader _ _ _ c.take-first.ensures.limit c.take-first.ensures.inner
    c.new-text.ensures.items c.in-Ok.ensures.bytes
