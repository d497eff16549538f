-- Edits one after the other: what the first of them does to the rest.
use Rattle.std.proofs.Common.{◌≡◌, ℕ, ◌+◌, List, [], ◌∷◌, ◌++◌, ◌==◌, Bool, true, eqb-true, sym, length, Result, Ok, Err, refl, ap, ◌∙◌, arith}
use Rattle.streetmap_batch.specs.BatchValue.{EditValue}
use Rattle.streetmap_ledger.specs.State.{State, step, ◌>>=◌}
use Rattle.streetmap_ledger.specs.Batches.{edited, placed}
use Rattle.streetmap_ledger.specs.declared.reply.Refusal.{Refusal}

pub edited_more : (s t : State) (place : ℕ) (e : EditValue) (es : List EditValue) → step s e ≡ Ok t → edited place s (e ∷ es) ≡ edited (place + 1) t es
edited_more s t place e es is = ap (λ r. placed place r >>= λ u. edited (place + 1) u es) is

pub edited_stops : (s : State) (place : ℕ) (e : EditValue) (es : List EditValue) (why : Refusal) → step s e ≡ Err why → edited place s (e ∷ es)
    ≡ Err (place, why)
edited_stops s place e es why is = ap (λ r. placed place r >>= λ u. edited (place + 1) u es) is

-- edits in two parts, of which the first are made
pub edited_parts : (before after : List EditValue) (place from : ℕ) (s t : State) → edited from s before ≡ Ok t → edited place s (before ++ after)
    ≡ edited (place + length before) t after
edited_parts [] after place from s t made = let same : s ≡ t = cc in ap (λ n. edited n s after) (omega arith)
    ∙ ap (λ x. edited (place + length {A = EditValue} []) x after) same
edited_parts (e ∷ before) after place from s t made = go (step s e) refl made (λ u more. edited_parts before after (place + 1) (from + 1) u t more)
  where
    go : (r : Result State Refusal) → step s e ≡ r → (placed from r >>= λ u. edited (from + 1) u before) ≡ Ok t →
        ((u : State) → edited (from + 1) u before ≡ Ok t → edited (place + 1) u (before ++ after) ≡ edited (place + 1 + length before) t after)
        → edited place s (e ∷ (before ++ after)) ≡ edited (place + length (e ∷ before)) t after
    go (Ok u) is more rest = edited_more s u place e (before ++ after) is ∙ rest u more ∙ ap (λ n. edited n t after) (omega arith)
    go (Err why) is more rest = absurd (cc)

-- edits in two parts, of which one of the first is refused
pub edited_refused : (before after : List EditValue) (done from place : ℕ) (s : State) (why : Refusal) → edited from s before ≡ Err (place, why) →
    edited (done + from) s (before ++ after) ≡ Err (done + place, why)
edited_refused [] after done from place s why refused = absurd (cc)
edited_refused (e ∷ before) after done from place s why refused = go (step s e) refl refused
    (λ u more. edited_refused before after done (from + 1) place u why more)
  where
    go : (r : Result State Refusal) → step s e ≡ r → (placed from r >>= λ u. edited (from + 1) u before) ≡ Err (place, why) →
        ((u : State) → edited (from + 1) u before ≡ Err (place, why) → edited (done + (from + 1)) u (before ++ after) ≡ Err (done + place, why))
        → edited (done + from) s (e ∷ (before ++ after)) ≡ Err (done + place, why)
    go (Ok u) is more rest = edited_more s u (done + from) e (before ++ after) is ∙ ap (λ n. edited n u (before ++ after)) (omega arith) ∙ rest u more
    go (Err other) is more rest =
        let same : (from, other) ≡ (place, why) = cc in
        edited_stops s (done + from) e (before ++ after) other is ∙ ap (λ (p : ℕ × Refusal). Err (done + p.0, p.1)) same

pub none_left : {A : Type 0} (xs : List A) (empty : Bool) → empty ≡ (length xs == 0) → empty ≡ true → xs ≡ []
none_left [] empty is h = refl
none_left (x ∷ xs) empty is h = absurd (omega (arith, eqb-true (length (x ∷ xs)) 0 (sym is ∙ h)))
