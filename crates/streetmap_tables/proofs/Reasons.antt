-- The reasons of errors, along the calls.
use Rattle.std.proofs.Common.{◌≡◌, inl, inr, if◌then◌else◌, Bool, true, false, Result, Ok, Err}
use Rattle.std.proofs.Common.{IfErr, IsErrAnd, refl, sym, subst, arith}
use Rattle.sqlite.specs.State.{State as Seen, HasCleanDisk, Survives}
use Rattle.sqlite.specs.declared.error.Error.{Error}
use Rattle.sqlite_trees.specs.Tree.{Trees}
use Rattle.streetmap_rows.specs.Failures.{HasReason, is_memory}
use Rattle.streetmap_rows.proofs.ErrorReasons.{reason_still, reason_later}
use Rattle.streetmap_rows.specs.declared.fault.ReadFault.{ReadFault}
use Rattle.streetmap_rows.specs.declared.fault.ReadFault.TheVariants as read
use Rattle.streetmap_tables.specs.declared.openings.OpenFault.{OpenFault}
use Rattle.streetmap_tables.specs.declared.openings.OpenFault.TheVariants as opening
use Rattle.streetmap_tables.specs.Reasons.{IsOwn, HasReasonIn, IsReturnedFor, OpensFor}

pub unread_own : (e : Error) (f : ReadFault)
    → f ≡ (if is_memory e then read.Memory else read.Unread) → IsOwn f
unread_own e f is = subst IsOwn (sym is) (by (is_memory e))
  where
    by : (b : Bool) → IsOwn (if b then read.Memory else read.Unread)
    by true = tt
    by false = tt

pub reason_in : (old new : Seen) (e : Error) (f : ReadFault)
    → ((x : Error) → f ≡ read.Store x → x ≡ e) → HasReason old new e → HasReasonIn old new f
reason_in old new e read.Memory only come = tt
reason_in old new e (read.Store x) only come = subst (HasReason old new) (sym (only x refl)) come
reason_in old new e read.Unread only come = tt

pub reason_in_later : (old mid new : Seen) (f : ReadFault) (Commits After : Trees → Type 0)
    → Survives old mid Commits → Survives mid new After → HasCleanDisk new → HasReasonIn mid new f
    → HasReasonIn old new f
reason_in_later old mid new read.Memory Commits After first second clean come = tt
reason_in_later old mid new (read.Store e) Commits After first second clean come =
    let early : HasCleanDisk mid = omega (arith, clean, second.clean) in reason_later old mid new e Commits first early second.counts come
reason_in_later old mid new read.Unread Commits After first second clean come = tt

pub opens_for : (old mid new : Seen) (f : ReadFault) (reported : OpenFault) (Commits After : Trees → Type 0)
    → Survives old mid Commits → Survives mid new After → HasCleanDisk new → HasReasonIn old mid f
    → IsReturnedFor mid new f reported → OpensFor old new reported
opens_for old mid new f opening.NotOurs Commits After first second clean come reports = tt
opens_for old mid new f opening.NewFormat Commits After first second clean come reports = tt
opens_for old mid new f opening.Damaged Commits After first second clean come reports = tt
opens_for old mid new f (opening.Device e) Commits After first second clean come (inl is) =
    reason_still old mid new e (subst (HasReasonIn old mid) is come) second.counts
opens_for old mid new f (opening.Device e) Commits After first second clean come (inr since) =
    let early : HasCleanDisk mid = omega (arith, clean, second.clean) in reason_later old mid new e Commits first early second.counts since
opens_for old mid new f opening.Memory Commits After first second clean come reports = tt

pub opens_later : (old mid new : Seen) (reported : OpenFault) (Commits After : Trees → Type 0)
    → Survives old mid Commits → Survives mid new After → HasCleanDisk new → OpensFor mid new reported
    → OpensFor old new reported
opens_later old mid new opening.NotOurs Commits After first second clean come = tt
opens_later old mid new opening.NewFormat Commits After first second clean come = tt
opens_later old mid new opening.Damaged Commits After first second clean come = tt
opens_later old mid new (opening.Device e) Commits After first second clean come =
    let early : HasCleanDisk mid = omega (arith, clean, second.clean) in reason_later old mid new e Commits first early second.counts come
opens_later old mid new opening.Memory Commits After first second clean come = tt

-- what a `?` hands on
pub handed_in : {A : Type 0} (r : Result A ReadFault) (old new : Seen) (f : ReadFault)
    → IsErrAnd r (λ x. x ≡ f) → HasReasonIn old new f → IfErr r (HasReasonIn old new)
handed_in (Ok a) old new f is come = absurd is
handed_in (Err x) old new f is come = subst (HasReasonIn old new) (sym is) come
