-- Runs continue from each other.
use Rattle.std.proofs.Common.{◌≡◌, ◌≤◌, Option, None, Some, inl, inr, List, [], ◌∷◌, ◌++◌, length, refl, sym, ap, subst, ◌∙◌, arith}
use Rattle.std.proofs.lemmas.List.{append-nil}
use Rattle.streetmap_batch.specs.BatchValue.{BatchValue}
use Rattle.streetmap_ledger.specs.State.{State}
use Rattle.streetmap_ledger.specs.Batches.{act, after_all}
use Rattle.streetmap_routes.specs.Operations.{OperationValue, faulty, landing_page, api_text, conformance_classes, all_collections, one_collection, page, feature, changes, service_status, batch}
use Rattle.streetmap_web.specs.Site.{SiteValue}
use Rattle.streetmap_http.specs.Preconditions.{PreconditionsValue}
use Rattle.streetmap_ledger.specs.Kept.{batch_count}
use Rattle.streetmap_web.specs.declared.verdict.Verdict.{Verdict}
use Rattle.streetmap_web.specs.declared.verdict.Verdict.TheVariants.{Holds, NotModified, Changed}
use Rattle.streetmap_web.specs.Response.{Wanted, state_in, state_by, state_under, state_to, verdict_on}
use Rattle.streetmap_guarantee.specs.Server.{Server, serving, failed, state_of, HasKept}
use Rattle.streetmap_guarantee.specs.Histories as seq
use Rattle.streetmap_guarantee.specs.Histories.{Step, Event, IsSequential, acknowledged}
use Rattle.streetmap_guarantee.specs.Restarts.{Runs, LeadTo}
use Rattle.streetmap_guarantee.specs.Restarts.Runs.{none, more}

-- ---- at which request a store failed

-- the state after the failure is that after the request that failed
abbrev FailedAt : Server → Type 0
FailedAt y = (before after : State) → y ≡ failed before after
    → (wanted : Wanted) × (after ≡ state_to before wanted)

serving_is_not_failed : (s before after : State) → serving s ≡ failed before after → ⊥
serving_is_not_failed s before after e = cc

same_before : (a b c d : State) → failed a b ≡ failed c d → a ≡ c
same_before a b c d e = cc

same_after : (a b c d : State) → failed a b ≡ failed c d → b ≡ d
same_after a b c d e = cc

serving_failed_nowhere : (y : Server) (s : State) → y ≡ serving s → FailedAt y
serving_failed_nowhere y s is before after e =
    absurd (serving_is_not_failed s before after (sym is ∙ e))

step_failed : (site : SiteValue) (e : Event) (x y : Server)
    → Step site e.request.wanted e.response x y → FailedAt x → FailedAt y
step_failed site e x y (seq.answered s was is now) at =
    serving_failed_nowhere y (state_to s e.request.wanted) now
step_failed site e x y (seq.out_of_memory is now) at =
    subst (λ (z : Server). FailedAt z) (sym now) at
step_failed site e x y (seq.store_failed s was has_request is now) at = λ before after there.
    let same = sym now ∙ there in (
      e.request.wanted,
      sym (same_after s (state_to s e.request.wanted) before after same)
          ∙ ap (λ (t : State). state_to t e.request.wanted)
          (same_before s (state_to s e.request.wanted) before after same),
    )
step_failed site e x y (seq.still_failed before after was is now) at =
    subst (λ (z : Server). FailedAt z) (sym now) at

history_failed : (site : SiteValue) (x y : Server) (es : List Event) → IsSequential site x es y
    → FailedAt x → FailedAt y
history_failed site x y [] h at = subst (λ (z : Server). FailedAt z) (sym h) at
history_failed site x y (e ∷ es) h at =
    history_failed site h.1 y es h.3 (step_failed site e x h.1 h.2 at)

-- ---- one batch more at most

pub after_append : (s : State) (bs cs : List BatchValue)
    → after_all s (bs ++ cs) ≡ after_all (after_all s bs) cs
after_append s [] cs = refl
after_append s (b ∷ bs) cs = after_append (act s b).state bs cs

record OneMore (s t : State) (bs : List BatchValue) : Type 0 where
  extra : List BatchValue
  few : length extra ≤ 1
  is : t ≡ after_all s (bs ++ extra)

no_more : (s t : State) (bs : List BatchValue) → t ≡ after_all s bs → OneMore s t bs
no_more s t bs is = record {
  extra = [];
  few = omega arith;
  is = is ∙ ap (λ (l : List BatchValue). after_all s l) (sym (append-nil bs));
}

by_operation : (s u t : State) (bs : List BatchValue) (operation : OperationValue) → u ≡ after_all s bs
    → t ≡ state_in u operation → OneMore s t bs
by_operation s u t bs (batch b) was is = record {
  extra = b ∷ [];
  few = omega arith;
  is = is ∙ (ap (λ (x : State). (act x b).state) was ∙ sym (after_append s bs (b ∷ [])));
}
by_operation s u t bs (faulty fault) was is = no_more s t bs (is ∙ was)
by_operation s u t bs landing_page was is = no_more s t bs (is ∙ was)
by_operation s u t bs api_text was is = no_more s t bs (is ∙ was)
by_operation s u t bs conformance_classes was is = no_more s t bs (is ∙ was)
by_operation s u t bs all_collections was is = no_more s t bs (is ∙ was)
by_operation s u t bs (one_collection name) was is = no_more s t bs (is ∙ was)
by_operation s u t bs (page name q) was is = no_more s t bs (is ∙ was)
by_operation s u t bs (feature name id) was is = no_more s t bs (is ∙ was)
by_operation s u t bs (changes after limit) was is = no_more s t bs (is ∙ was)
by_operation s u t bs service_status was is = no_more s t bs (is ∙ was)

by_verdict : (s u t : State) (bs : List BatchValue) (operation : OperationValue) (verdict : Verdict) → u ≡ after_all s bs
    → t ≡ state_by u operation verdict → OneMore s t bs
by_verdict s u t bs operation Holds was is = by_operation s u t bs operation was is
by_verdict s u t bs operation NotModified was is = no_more s t bs (is ∙ was)
by_verdict s u t bs operation Changed was is = no_more s t bs (is ∙ was)

by_conditions : (s u t : State) (bs : List BatchValue) (operation : OperationValue) (conditions : Option PreconditionsValue) → u ≡ after_all s bs
    → t ≡ state_under u operation conditions → OneMore s t bs
by_conditions s u t bs operation None was is = by_operation s u t bs operation was is
by_conditions s u t bs operation (Some p) was is = by_verdict s u t bs operation (verdict_on (batch_count u) p operation) was is

kept_by : (s t : State) (bs : List BatchValue) (y : Server) → state_of y ≡ after_all s bs
    → FailedAt y → HasKept y t → OneMore s t bs
kept_by s t bs (serving u) acts at kept = no_more s t bs (kept ∙ acts)
kept_by s t bs (failed before after) acts at (inl kept) = no_more s t bs (kept ∙ acts)
kept_by s t bs (failed before after) acts at (inr kept) =
    let requested = at before after refl in
    by_conditions s before t bs requested.0.operation requested.0.conditions acts (kept ∙ requested.1)

-- ---- all runs

pub runs_lead : {Image : Type 0} (holds : Image → State → Type 0) (site : SiteValue)
    (first last : Image) (runs : Runs holds site first last) (s : State) → holds first s
    → (t : State) × holds last t × LeadTo runs s t
runs_lead holds site first last none s held = (s, held, refl)
runs_lead holds site first last (more {left = left} run runs) s held =
    let g = run.guarantee s held in
    let found = g.survives left run.crashed in
    let at = history_failed site (serving s) g.server g.history g.sequential
    (serving_failed_nowhere (serving s) s refl) in
    let one = kept_by s found.0 (acknowledged g.history) g.server g.acts at found.2 in
    let from = after_all s (acknowledged g.history ++ one.extra) in
    let went = runs_lead holds site left last runs from
    (subst (λ (t : State). holds left t) one.is found.1) in
    (went.0, went.1, (held, one.extra, one.few, went.2))
