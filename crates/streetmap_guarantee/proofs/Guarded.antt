-- A service that refuses batches.
use Rattle.std.proofs.Common.{◌≡◌, ◌∙◌, Bool, true, false, Option, None, Some, refl, ap, bytes_eq}
use Rattle.std.proofs.lemmas.Slice.Eq.{bytes_eq-Decides}
use Rattle.std.specs.Prelude.{if◌then◌else◌, ◌&&◌, not}
use Rattle.streetmap_http.specs.Framing.{HeadValue, is_bare}
use Rattle.streetmap_http.specs.Preconditions.{PreconditionsValue, are_readable}
use Rattle.streetmap_batch.specs.Text.{Text}
use Rattle.streetmap_ledger.specs.State.{State}
use Rattle.streetmap_ledger.specs.Kept.{batch_count}
use Rattle.streetmap_routes.specs.Operations.{OperationValue, faulty, landing_page, api_text, conformance_classes, all_collections, one_collection, page, feature, changes, service_status, batch, operation_with}
use Rattle.streetmap_bodies.specs.declared.request_fault.RequestFault.{RequestFault}
use Rattle.streetmap_bodies.specs.declared.request_fault.RequestFault.TheVariants.{Fenced, Follower, BadCondition}
use Rattle.streetmap_web.specs.Guards.{GuardValue, free, fenced, follower, is_batch_fault, is_of_batch, refusal_by, refused_for, guarded}
use Rattle.streetmap_web.specs.Site.{SiteValue}
use Rattle.streetmap_web.specs.Response.{RequestValue, plainly, fault_response, is_batch, needs_state, verdict_on, wanted_of, request_of, response_to, state_under}
use Rattle.streetmap_web.proofs.Verdicts.{read_stays, read_by}
use Rattle.streetmap_guarantee.specs.Guarded.{with_guard, IsRefused, FencedIsUnchanged, FollowerIsUnchanged, ScriptIsServed}

-- ---- what is refused

-- if batches are refused, none is left
none_left : (fault : RequestFault) (o : OperationValue) → is_batch (refused_for (Some fault) o) ≡ false
none_left fault (batch b) = refl
none_left fault (faulty other) = by (is_batch_fault other) where
  by : (t : Bool) → is_batch (if t then faulty fault else faulty other) ≡ false
  by true = refl
  by false = refl
none_left fault landing_page = refl
none_left fault api_text = refl
none_left fault conformance_classes = refl
none_left fault all_collections = refl
none_left fault (one_collection name) = refl
none_left fault (page name q) = refl
none_left fault (feature name id) = refl
none_left fault (changes after limit) = refl
none_left fault service_status = refl

-- a batch is refused
refused_if : (fault : RequestFault) (o : OperationValue) → is_of_batch o ≡ true → refused_for (Some fault) o ≡ faulty fault
refused_if fault o e = ap (λ (t : Bool). if t then faulty fault else o) e

-- anything else stays
stays_if : (fault : RequestFault) (o : OperationValue) → is_of_batch o ≡ false → refused_for (Some fault) o ≡ o
stays_if fault o e = ap (λ (t : Bool). if t then faulty fault else o) e

-- ---- under conditions

-- conditions make no batch of anything else
no_batch_under : (tags numbered : Bool) (p : PreconditionsValue) (o : OperationValue) → is_batch o ≡ false → is_batch (wanted_of tags numbered p o).operation ≡ false
no_batch_under false numbered p o read = read
no_batch_under true numbered p o read = by (needs_state o && not (are_readable p)) where
  by : (t : Bool) → is_batch (if t then plainly (faulty BadCondition) else record { operation = o; conditions = Some p; numbered = numbered }).operation ≡ false
  by true = refl
  by false = read

-- what is no batch leaves the state as it was
kept_under : (s : State) (o : OperationValue) (conditions : Option PreconditionsValue) → is_batch o ≡ false → state_under s o conditions ≡ s
kept_under s o None read = read_stays s o read
kept_under s o (Some p) read = read_by s o (verdict_on (batch_count s) p o) read

-- a fault is answered as it is, whatever the conditions are
fault_under : (tags numbered : Bool) (p : PreconditionsValue) (fault : RequestFault) (root : Text) (s : State)
    → response_to root s (wanted_of tags numbered p (faulty fault)) ≡ fault_response fault
fault_under false false p fault root s = refl
fault_under false true p fault root s = refl
fault_under true false p fault root s = refl
fault_under true true p fault root s = refl

-- ---- requests

-- the request that wants this operation
abbrev request_for : SiteValue → HeadValue → OperationValue → RequestValue
request_for site h o = record { wanted = wanted_of site.tags site.offers.status h.preconditions o; closes = h.closes; bare = is_bare h.method }

module _ (guard : GuardValue) (site : SiteValue) (h : HeadValue) (body : Text) (fault : RequestFault)
    (says : refusal_by guard h.token ≡ Some fault) (forbidden : (fault_response fault).status ≡ 403) where
  abbrev brought : OperationValue
  brought = operation_with site.offers h.method h.target body

  guarded_so : guarded guard h.token brought ≡ refused_for (Some fault) brought
  unfolding guarded
  guarded_so = ap (λ (o : Option RequestFault). refused_for o brought) says

  left : is_batch (guarded guard h.token brought) ≡ false
  left = ap is_batch guarded_so ∙ none_left fault brought

  kept : is_batch (request_of (with_guard guard site) h body).wanted.operation ≡ false
  kept = no_batch_under site.tags site.offers.status h.preconditions (guarded guard h.token brought) left

  answered : is_of_batch brought ≡ true → (s : State) → response_to site.root s (request_of (with_guard guard site) h body).wanted ≡ fault_response fault
  answered e s =
      ap (λ (o : OperationValue). response_to site.root s (wanted_of site.tags site.offers.status h.preconditions o)) (guarded_so ∙ refused_if fault brought e)
      ∙ fault_under site.tags site.offers.status h.preconditions fault site.root s

  as_free : is_of_batch brought ≡ false → guarded guard h.token brought ≡ guarded free h.token brought
  unfolding guarded
  as_free e = guarded_so ∙ stays_if fault brought e

  pub refuses : IsRefused fault (with_guard guard site) h body
  refuses = record {
    unchanged = λ s. kept_under s (request_of (with_guard guard site) h body).wanted.operation (request_of (with_guard guard site) h body).wanted.conditions kept;
    no_batch = kept;
    refused = answered;
    status = forbidden;
    reads = λ e. ap (request_for site h) (as_free e);
  }

-- ---- services

forbids_fenced : (fault_response Fenced).status ≡ 403
unfolding fault_response
forbids_fenced = refl

forbids_follower : (fault_response Follower).status ≡ 403
unfolding fault_response
forbids_follower = refl

pub fenced_is_unchanged : FencedIsUnchanged
fenced_is_unchanged site h body = refuses fenced site h body Fenced refl forbids_fenced

-- a token that is another is refused
another : (its : Text) (token : Option Text) → (token ≡ Some its → ⊥) → refusal_by (follower its) token ≡ Some Follower
another its None other = refl
another its (Some token) other = by (bytes_eq token its) refl where
  by : (t : Bool) → bytes_eq token its ≡ t → (if t then None else Some Follower) ≡ Some Follower
  by true e = absurd (other (ap (λ (text : Text). Some text) ((bytes_eq-Decides token its).0 e)))
  by false e = refl

-- the script's own is not
own : (its : Text) (token : Option Text) → token ≡ Some its → refusal_by (follower its) token ≡ None
own its token e =
    ap (refusal_by (follower its)) e ∙ ap (λ (t : Bool). if t then None else Some Follower) ((bytes_eq-Decides its its).1 refl)

pub follower_is_unchanged : FollowerIsUnchanged
follower_is_unchanged its site h body other = refuses (follower its) site h body Follower (another its h.token other) forbids_follower

-- if no batch is refused, a request wants what it brought
unguarded : (guard : GuardValue) (token : Option Text) (o : OperationValue) → refusal_by guard token ≡ None → guarded guard token o ≡ guarded free token o
unfolding guarded
unguarded guard token o says = ap (λ (r : Option RequestFault). refused_for r o) says

pub script_is_served : ScriptIsServed
script_is_served its site h body e =
    ap (request_for site h) (unguarded (follower its) h.token (operation_with site.offers h.method h.target body) (own its h.token e))
