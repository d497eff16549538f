-- Edits that were packed so far: the complete runs, and the current batch.
use Rattle.std.proofs.Common.{◌≡◌, ◌≢◌, ℕ, ◌+◌, ◌<◌, ◌≤◌, Bool, true, false, ◌&&◌, leb, List, []}
use Rattle.std.proofs.Common.{◌∷◌, ◌++◌, length, refl, sym, ap, subst, arith, length-append}
use Rattle.std.proofs.lemmas.List.{append-nil}
use Rattle.std.proofs.lemmas.Bool.Decides.{nat_tests}
use Rattle.streetmap_batch.specs.Text.{Text}
use Rattle.streetmap_batch.specs.BatchValue.{EditValue}
use Rattle.streetmap_packing.specs.Runs.{TakesNoMore, AreDone}
use Rattle.streetmap_packing.specs.Underway.{Underway, edits_in}
use Rattle.streetmap_packing.specs.Packs.{numbered, numbered_all, passes, Packs}
use Rattle.streetmap_packing.proofs.RunLemmas.{one_more, one_done, all_done, last_short}
use Rattle.streetmap_packing.proofs.PackLemmas.{shorter, numbered_append}

pub nothing : (each : ℕ) (key : Text) → Underway each key [] [] []
nothing each key = record { done = refl; passing = λ some. absurd (some refl) }

false_from : (each n : ℕ) (b : Bool) → each < n → (leb n each && b) ≡ false
false_from each n b h = let over : leb n each ≡ false = grind (arith, nat_tests) in ap (λ t. t && b)
    over

-- a run of `each` edits takes no more
pub is_full : (each : ℕ) (key : Text) (n : ℕ) (run rest : List EditValue) → each ≤ length run →
    TakesNoMore (passes each key) n run rest
is_full each key n run rest many none e =
    let long = length-append run (e ∷ []) in
    false_from each (length (run ++ e ∷ [])) _ (omega (arith, long, many))

module _ (each : ℕ) (key : Text) (es : List EditValue) (sent : List (List EditValue))
    (left : List EditValue) (it : Underway each key es sent left) where
  -- an edit that the current batch takes
  pub takes_on : (e : EditValue) → passes each key (1 + length sent) (left ++ e ∷ []) ≡ true →
      Underway each key (es ++ e ∷ []) sent (left ++ e ∷ [])
  takes_on e h = record {
    done = one_more EditValue (passes each key) (shorter each key) 1 es sent left e it.done;
    passing = λ some. h;
  }

  -- an edit that it does not take
  pub sends_before : (e : EditValue) → left ≢ [] →
      passes each key (1 + length sent) (left ++ e ∷ []) ≡ false →
      passes each key (1 + length sent + 1) (e ∷ []) ≡ true →
      Underway each key (es ++ e ∷ []) (sent ++ left ∷ []) (e ∷ [])
  sends_before e some not alone =
      let long = length-append sent (left ∷ []) in
      let at : 1 + length sent + 1 ≡ 1 + length (sent ++ left ∷ []) = omega (arith, long) in
      let more = one_more EditValue (passes each key) (shorter each key) 1 es sent left e it.done in
      record {
        done = one_done EditValue (passes each key) (shorter each key) 1 (1 + length sent)
            (es ++ e ∷ []) sent left (e ∷ []) refl more some (it.passing some) not
            (λ none x. false_at e none);
        passing = λ some. subst (λ (n : ℕ). passes each key n (e ∷ []) ≡ true) at alone;
      } where
        false_at : {P : Type 0} (e : EditValue) → e ∷ [] ≡ [] → P
        false_at e none = cc

  -- a batch with as many edits as it may have
  pub sends_full : left ≢ [] → each ≤ length left → Underway each key es (sent ++ left ∷ []) []
  sends_full some many =
      let whole = subst (λ (t : List EditValue). AreDone (passes each key) 1 es sent t)
      (sym (append-nil left)) it.done in
      record {
        done = one_done EditValue (passes each key) (shorter each key) 1 (1 + length sent) es sent
            left [] refl whole some (it.passing some) tt
            (is_full each key (1 + length sent) left [] many);
        passing = λ some. absurd (some refl);
      }

  -- the end, if no edit is left
  pub packs_done : left ≡ [] → Packs each key es (numbered_all key 1 sent)
  packs_done none = (
    sent,
    all_done EditValue (passes each key) (shorter each key) 1 es sent
        (subst (λ (t : List EditValue). AreDone (passes each key) 1 es sent t) none it.done),
    refl,
  )

  one_batch :
      numbered_all key 1 (sent ++ left ∷ []) ≡ numbered_all key 1 sent ++ numbered key
      (1 + length sent) left ∷ []
  one_batch = numbered_append key 1 sent (left ∷ [])

  -- the end, if some edits are left
  pub packs_last : left ≢ [] →
      Packs each key es (numbered_all key 1 sent ++ numbered key (1 + length sent) left ∷ [])
  packs_last some = (
    sent ++ left ∷ [],
    last_short EditValue (passes each key) (shorter each key) 1
        (1 + length sent) es sent left refl it.done some (it.passing some),
    sym one_batch,
  )

-- how many edits the complete runs have
pub counts :
    (each : ℕ) (key : Text) (n : ℕ) (es : List EditValue) (sent : List (List EditValue))
    (left : List EditValue) →
    AreDone (passes each key) n es sent left → length es ≡ edits_in sent + length left
counts each key n es [] left d = let e = ap length d in omega (arith, e)
counts each key n es (run ∷ sent) left d =
    let whole = ap length d.1.whole in
    let long = length-append run d.0 in
    let rest = counts each key (n + 1) d.0 sent left d.3 in
    omega (arith, whole, long, rest)

pub one_in : (runs : List (List EditValue)) (run : List EditValue) →
    edits_in (runs ++ run ∷ []) ≡ edits_in runs + length run
one_in [] run = omega arith
one_in (r ∷ runs) run = let rest = one_in runs run in omega (arith, rest)
