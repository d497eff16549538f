use Rattle.std.proofs.Common.{◌≡◌, ◌<◌, ◌+◌, ℕ, List, ◌∷◌, IsSome, length, drop, get_or, ap, sym, subst, ◌∙◌, arith}
use Rattle.std.specs.List.{AllByRecursion}
use Rattle.std.proofs.lemmas.List.{drop_more, drop_all}
use Rattle.streetmap_batch.specs.Text.{Text}
use Rattle.streetmap_ledger.specs.declared.summary.Summary.{Summary}
use Rattle.streetmap_index.specs.Index.{known_under}
use Rattle.streetmap_index.proofs.Listing.{IsNamed, all_named}
use Rattle.streetmap_index.proofs.index.Index.note.Goals as goal

-- the summary that comes next
turn : (ss : List Summary) (i : ℕ) (s : Summary) → i < length ss → s ≡ get_or ss i s → drop i ss ≡ s ∷ drop (i + 1) ss
turn ss i s within is = drop_more ss i s within ∙ ap (λ (x : Summary). x ∷ drop (i + 1) ss) (sym is)

pub loop-summary-preserved : goal.loop-summary-preserved
loop-summary-preserved c = λ rest.
    let es = c.args.self.now.known.entries in
    let ss = c.args.summaries.now in
    let i = c.loop-summary.summary-index in
    let one = c.summary-item.result in
    let here : IsNamed es one = subst (λ (k : Text). IsSome (known_under k es)) c.as_str.ensures.value
    (sym c.contains_key.ensures ∙ c.if-not-contains_key.false) in
    c.loop-summary.invariant (subst (AllByRecursion (IsNamed es)) (sym (turn ss i one (omega arith) c.summary-item.is)) (here, rest))

pub returns : goal.returns
returns c = λ s reported index.
    let es = c.args.self.now.known.entries in
    let ss = c.args.summaries.now in (
      index.0,
      λ whole. all_named es s ss reported (c.loop-summary.invariant (subst (AllByRecursion (IsNamed es))
          (sym (drop_all c.loop-summary.summary-index ss (omega arith))) tt)),
    )
