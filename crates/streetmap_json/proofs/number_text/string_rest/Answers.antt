use Rattle.std.proofs.Common.{◌≡◌, ℕ, Bool, true, false, eqb, get_or, refl, take, drop}
use Rattle.std.proofs.lemmas.Bool.{ne_eqb}
use Rattle.streetmap_json.specs.NumberText.{within, tokens_from, side_after}
use Rattle.streetmap_json.proofs.NumberTextTokens.{string_side, onto_all, string_goes_on, string_ends, string_is_open}
use Rattle.streetmap_json.proofs.number_text.string_rest.Goals as goal
use Rattle.streetmap_json.proofs.number_text.string_rest.Goals.{then-escaped, else-escaped+else-byte-eq34}

pub returns-then-byte-eq34-clause-first : goal.returns-then-byte-eq34-clause-first
returns-then-byte-eq34-clause-first c =
    let so_far : onto_all (take c.loop-i.i c.args.rest.now) (tokens_from within (drop c.loop-i.i c.args.rest.now)) ≡ tokens_from within c.args.rest.now = rw c.if-escaped.false at c.loop-i.invariant in
    string_ends c.args.rest.now c.loop-i.i c.loop-i-test.true c.if-byte-eq34.true so_far

side_of : (b : ℕ) (t : Bool) → eqb b 92 ≡ t → eqb b 34 ≡ false → side_after within b ≡ string_side t
side_of b true e h = rw (h, e) refl
side_of b false e h = rw (h, e) refl

pub loop-i-preserved : goal.loop-i-preserved
loop-i-preserved c =
    let rest = c.args.rest.now in
    let i = c.loop-i.i in
    let lt = c.loop-i-test.true in
    elim c.if-escaped.branch [
      | then-escaped w ↦
          string_goes_on rest i c.loop-i.escaped c.if-escaped.escaped lt (rw (w.if-escaped.true, w.escaped-is) refl) c.loop-i.invariant
      | else-escaped+else-byte-eq34 w ↦
          string_goes_on rest i c.loop-i.escaped c.if-escaped.escaped lt
          (rw (w.if-escaped.false, w.escaped-is) (side_of (get_or rest i 0) _ refl (ne_eqb (get_or rest i 0) 34 w.if-byte-eq34.false))) c.loop-i.invariant
    ]

pub returns-clause-first : goal.returns-clause-first
returns-clause-first c = string_is_open c.args.rest.now c.loop-i.i (string_side c.loop-i.escaped) c.loop-i-test.false c.loop-i.invariant
