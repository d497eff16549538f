-- Outlines that are cut into runs, and chunks of these.
use Rattle.std.proofs.Common.{◌≡◌, ℕ, List, [], ◌∷◌, ◌++◌, take, drop, reverse, sym, ap, ◌∙◌, append_assoc, append-nil}
use Rattle.std.specs.Prelude.{Vec, ◌<◌, length}
use Rattle.std.specs.declared.alloc.Global.{Global}
use Rattle.std.proofs.lemmas.List.{reverse-append, take-append-drop, map-append}
use Rattle.std.proofs.lemmas.List.Concat.{flat_map-append}
use Rattle.streetmap_ledger.specs.Outlines.{FeatureOutlineValue}
use Rattle.streetmap_ledger.specs.OutlineView.{feature_outline_value, feature_outline_values}
use Rattle.streetmap_ledger.specs.declared.outline.FeatureOutline.{FeatureOutline}
use Rattle.streetmap_outlines.specs.Outlines.{joined, joined_runs}
use Rattle.streetmap_outlines.specs.declared.chunk.Chunk.{Chunk}

abbrev pub HasOutlines : Vec FeatureOutline Global → Type 0
HasOutlines run = 0 < length run.items

-- ---- runs that are cut off from the end of outlines, the last one first
pub run_pushed : (rs ts : List (Vec FeatureOutline Global)) (last : Vec FeatureOutline Global)
    → ts ≡ rs ++ last ∷ [] → joined_runs (reverse ts) ≡ last.items ++ joined_runs (reverse rs)
run_pushed rs ts last is = ap joined_runs (ap reverse is ∙ reverse-append rs (last ∷ []))

pub run_cut_off : (os front last : List FeatureOutline) (n : ℕ)
    (rs ts : List (Vec FeatureOutline Global)) (kept : Vec FeatureOutline Global) → front ≡ take n os
    → last ≡ drop n os → kept.items ≡ last → ts ≡ rs ++ kept ∷ []
    → feature_outline_values front ++ feature_outline_values (joined_runs (reverse ts))
    ≡ feature_outline_values os ++ feature_outline_values (joined_runs (reverse rs))
run_cut_off os front last n rs ts kept p q same is =
    let following = feature_outline_values (joined_runs (reverse rs)) in
    ap (λ xs. feature_outline_values front ++ feature_outline_values xs) (run_pushed rs ts kept is)
    ∙ ap (λ vs. feature_outline_values front ++ vs)
    (map-append feature_outline_value kept.items (joined_runs (reverse rs)))
    ∙ ap (λ os. feature_outline_values front ++ (feature_outline_values os ++ following)) same
    ∙ sym (append_assoc (feature_outline_values front) (feature_outline_values last) following)
    ∙ ap (λ vs. vs ++ following) (sym (map-append feature_outline_value front last))
    ∙ ap (λ xs. feature_outline_values xs ++ following)
    (ap (λ xs. xs ++ last) p ∙ (ap (λ xs. take n os ++ xs) q ∙ take-append-drop n os))

-- ---- a chunk of the run that comes next
pub run_taken : (cs ds : List Chunk) (c : Chunk) (rest : List (Vec FeatureOutline Global))
    (run : Vec FeatureOutline Global) (all : List FeatureOutline) → ds ≡ cs ++ c ∷ []
    → c.outlines.items ≡ run.items → joined cs ++ (run.items ++ joined_runs rest) ≡ all
    → joined ds ++ joined_runs rest ≡ all
run_taken cs ds c rest run all is items so_far =
    ap (λ ds. joined ds ++ joined_runs rest) is
    ∙ ap (λ xs. xs ++ joined_runs rest) (flat_map-append (λ (x : Chunk). x.outlines.items) cs (c ∷ []))
    ∙ append_assoc (joined cs) (c.outlines.items ++ []) (joined_runs rest)
    ∙ ap (λ xs. joined cs ++ ((xs ++ []) ++ joined_runs rest)) items
    ∙ ap (λ xs. joined cs ++ (xs ++ joined_runs rest)) (append-nil run.items)
    ∙ so_far
