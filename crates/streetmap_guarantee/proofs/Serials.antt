-- The serial of an answer.
use Rattle.std.proofs.Common.{◌≡◌, ◌≢◌, ◌∙◌, Bool, true, false, Some, refl, ap, bytes_eq}
use Rattle.std.proofs.lemmas.Slice.Eq.{bytes_eq-Decides}
use Rattle.std.specs.Prelude.{if◌then◌else◌, ◌&&◌, not}
use Rattle.streetmap_http.specs.Preconditions.{PreconditionsValue, are_readable}
use Rattle.streetmap_batch.specs.Text.{Text}
use Rattle.streetmap_ledger.specs.State.{State}
use Rattle.streetmap_ledger.specs.Kept.{batch_count}
use Rattle.streetmap_routes.specs.Operations.{OperationValue, faulty, changes_wanted, changes_path, status_wanted, status_path, path_part, query_part, operation_of, operation_with}
use Rattle.streetmap_bodies.specs.declared.request_fault.RequestFault.TheVariants.{BadCondition}
use Rattle.streetmap_web.specs.Guards.{guarded}
use Rattle.streetmap_web.specs.Site.{SiteValue}
use Rattle.streetmap_web.specs.Response.{Wanted, plainly, needs_state, response_to, response_under, state_to, with_serial, wanted_of}
use Rattle.streetmap_guarantee.specs.Serials.{with_status, wanted_with, unnumbered, SerialIsOfTheStateAfter, OtherPathsAreTheSame}

-- ---- the serial

-- what needs the state is to show the serial
is_numbered : (tags : Bool) (p : PreconditionsValue) (o : OperationValue) → needs_state (wanted_of tags true p o).operation ≡ true → (wanted_of tags true p o).numbered ≡ true
is_numbered false p o needed = refl
is_numbered true p o needed = by (needs_state o && not (are_readable p)) needed where
  by : (t : Bool) → needs_state (if t then plainly (faulty BadCondition) else record { operation = o; conditions = Some p; numbered = true }).operation ≡ true
      → (if t then plainly (faulty BadCondition) else record { operation = o; conditions = Some p; numbered = true }).numbered ≡ true
  by true e = e
  by false e = refl

both : (a b : Bool) → a ≡ true → b ≡ true → (a && b) ≡ true
both a b one two = ap (λ (t : Bool). t && b) one ∙ two

shows_number : (root : Text) (s : State) (wanted : Wanted) → wanted.numbered ≡ true → needs_state wanted.operation ≡ true
    → response_to root s wanted ≡ record (response_to root s (unnumbered wanted)) { serial = Some (batch_count (state_to s wanted)) }
shows_number root s wanted numbered needed =
    ap (λ (t : Bool). with_serial t (batch_count (state_to s wanted)) (response_under root s wanted.operation wanted.conditions))
    (both wanted.numbered (needs_state wanted.operation) numbered needed)

pub serial_is_of_the_state_after : SerialIsOfTheStateAfter
serial_is_of_the_state_after site h body s needed =
    shows_number site.root s (wanted_with site h body)
    (is_numbered site.tags h.preconditions (guarded site.guard h.token (operation_with (with_status true site).offers h.method h.target body)) needed) needed

-- ---- other paths

not_at : (path : Text) → path ≢ status_path → bytes_eq path status_path ≡ false
not_at path other = by (bytes_eq path status_path) refl where
  by : (t : Bool) → bytes_eq path status_path ≡ t → t ≡ false
  by true is = absurd (other ((bytes_eq-Decides path status_path).0 is))
  by false is = refl

same_operation : (site : SiteValue) (method target body : Text) → path_part target ≢ status_path
    → operation_with (with_status true site).offers method target body ≡ operation_with (with_status false site).offers method target body
unfolding operation_with
same_operation site method target body other =
    ap (λ (t : Bool). if site.offers.changes && bytes_eq (path_part target) changes_path then changes_wanted method (query_part target)
    else (if t then status_wanted method (query_part target) else operation_of method target body)) (not_at (path_part target) other)

same_wanted : (tags : Bool) (p : PreconditionsValue) (o : OperationValue) → unnumbered (wanted_of tags true p o) ≡ wanted_of tags false p o
same_wanted false p o = refl
same_wanted true p o = by (needs_state o && not (are_readable p)) where
  by : (t : Bool) → unnumbered (if t then plainly (faulty BadCondition) else record { operation = o; conditions = Some p; numbered = true })
      ≡ (if t then plainly (faulty BadCondition) else record { operation = o; conditions = Some p; numbered = false })
  by true = refl
  by false = refl

pub other_paths_are_the_same : OtherPathsAreTheSame
other_paths_are_the_same site h body other =
    same_wanted site.tags h.preconditions (guarded site.guard h.token (operation_with (with_status true site).offers h.method h.target body))
    ∙ ap (λ (o : OperationValue). wanted_of site.tags false h.preconditions (guarded site.guard h.token o)) (same_operation site h.method h.target body other)
