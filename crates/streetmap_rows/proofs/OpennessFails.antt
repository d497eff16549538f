-- Why the check whether a connection is open may fail.
use Rattle.std.proofs.Common.{inl, inr, ℕ, List, [], codes, refl, subst, arith}
use Rattle.sqlite.specs.declared.error.Error.{Error}
use Rattle.sqlite.specs.Order.{Row}
use Rattle.sqlite.specs.Schema.{Schema}
use Rattle.sqlite.specs.Listing.{understood}
use Rattle.sqlite.specs.State.{State as Seen, IsNotRun, KeepsCommit}
use Rattle.sqlite.proofs.Callers.{IsPlain}
use Rattle.sqlite.proofs.InsideLemmas.{unchanged_keeps}
use Rattle.sqlite_tied.specs.Compute.{everything}
use Rattle.streetmap_rows.specs.Failures.{IsOfStore}
use Rattle.streetmap_rows.proofs.StoreErrors.{failure_is}
use Rattle.streetmap_rows.proofs.Resolving.{IsWhole}

abbrev pub commit_text : List ℕ
commit_text = codes "COMMIT"

commit_plain : (schema : Schema) → IsPlain (understood schema commit_text)
unfolding understood everything
commit_plain schema = (refl, refl)

commit_whole : (schema : Schema) → IsWhole commit_text 0 (understood schema commit_text)
unfolding understood everything
commit_whole schema = (omega arith, refl)

pub commit_fails : (old new : Seen) (e : Error) → ((params : Row) → IsNotRun old new commit_text params e) → IsOfStore e
unfolding IsNotRun
commit_fails old new e h = elim (h []) [
  | inl unread ↦ elim unread.0 [
    | inl missing ↦ absurd (subst IsPlain missing.1 (commit_plain old.now.schema))
    | inr other ↦
        let bare = subst IsPlain other.1 (commit_plain old.now.schema) in
        let fits = subst (IsWhole commit_text 0) other.1 (commit_whole old.now.schema) in
        absurd (elim other.2 [ inl cut ↦ cut.0 fits.0 | inr more ↦ elim more [ inl few ↦ few.0 fits.1 | inr timeless ↦ timeless.0 bare.1 ] ])
  ]
  | inr failed ↦ failure_is e failed.0 failed.1
]

-- and it commits nothing
pub commit_keeps : (old new : Seen) (e : Error) → ((params : Row) → IsNotRun old new commit_text params e) → KeepsCommit old new
unfolding IsNotRun
commit_keeps old new e h = elim (h []) [ inl unread ↦ unchanged_keeps old new (inl unread.1) | inr failed ↦ unchanged_keeps old new (inr failed.3) ]
