-- Lines of batches, one more at a time.
use Rattle.std.proofs.Common.{◌≡◌, ℕ, ◌+◌, ◌<◌, ◌≤◌, List, [], ◌∷◌, ◌++◌, length, take, get_or, sym, ap, ◌∙◌, append-nil}
use Rattle.std.proofs.lemmas.List.{take_more, take_all, map-append}
use Rattle.std.proofs.lemmas.List.Concat.{flat_map-append}
use Rattle.streetmap_ledger.specs.KeptView.{keyed_batch, keyed_batches}
use Rattle.streetmap_ledger.specs.declared.kept_batch.KeptBatch.{KeptBatch}
use Rattle.streetmap_bodies.specs.Changes.{change_line, changes_text}

pub line_more : (xs : List KeptBatch) (i : ℕ) (b : KeptBatch) → i < length xs → b ≡ get_or xs i b
    → changes_text (keyed_batches (take (i + 1) xs)) ≡ changes_text (keyed_batches (take i xs)) ++ change_line (keyed_batch b)
unfolding changes_text
line_more xs i b low is =
    let front = keyed_batches (take i xs) in
    ap (λ l. changes_text (keyed_batches l)) (take_more xs i b low ∙ ap (λ x. take i xs ++ x ∷ []) (sym is))
    ∙ (ap changes_text (map-append keyed_batch (take i xs) (b ∷ []))
    ∙ (flat_map-append change_line front (keyed_batch b ∷ [])
    ∙ ap (λ l. changes_text front ++ l) (append-nil (change_line (keyed_batch b)))))

pub all_lines : (xs : List KeptBatch) (i : ℕ) → length xs ≤ i → changes_text (keyed_batches (take i xs)) ≡ changes_text (keyed_batches xs)
all_lines xs i high = ap (λ l. changes_text (keyed_batches l)) (take_all i xs high)
