use Rattle.std.proofs.Common.{ℕ, List, All, IsTrue, length, string_bytes, refl, sym, ap, subst, ◌∙◌, arith}
use Rattle.std.proofs.lemmas.List.{take_all}
use Rattle.std.proofs.lemmas.Option.{slice_get_read}
use Rattle.streetmap_replay.specs.Alike.{is_named}
use Rattle.streetmap_ledger.specs.declared.summary.Summary.{Summary}
use Rattle.streetmap_replay.proofs.collections.find_other.Goals as goal

pub returns-then-not-is_among-clause-found : goal.returns-then-not-is_among-clause-found
returns-then-not-is_among-clause-found c = (
  c.index-theirs-place.result,
  slice_get_read c.args.theirs.now (length c.args.theirs.now) c.loop-place.place _ refl
      (omega (arith, c.loop-place-test.true)) c.index-theirs-place.is,
  ap (λ (a : Summary). is_named (string_bytes a.id) c.args.ours.now) c.index-theirs-place.is
      ∙ (ap (λ (n : List ℕ). is_named n c.args.ours.now) (sym c.as_str.ensures.value)
      ∙ (sym c.is_among.ensures ∙ c.if-not-is_among.true)),
)

pub returns-clause-none : goal.returns-clause-none
returns-clause-none c = λ none.
    subst (λ (l : List Summary). All (λ (other : Summary). IsTrue (is_named (string_bytes other.id)
    c.args.ours.now)) l) (take_all c.loop-place.place c.args.theirs.now
    (omega (arith, c.loop-place-test.false))) c.loop-place.invariant
