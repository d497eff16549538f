use Rattle.std.proofs.Common.{refl, sym, ◌∙◌}
use Rattle.serde_json.specs.View.{view}
use Rattle.std.proofs.lemmas.Slice.Eq.{bytes_eq-Decides}
use Rattle.streetmap_batch.proofs.Parts.{with_edits, with_key, with_another}
use Rattle.streetmap_batch.proofs.batch_parser.Parts.read_member.Goals as goal

pub returns-in_ok-self-clause-takes : goal.returns-in_ok-self-clause-takes
returns-in_ok-self-clause-takes c ms held =
    let taken = c.in_ok-self.ensures.takes in
    let is = (bytes_eq-Decides _ _).0 (sym c.eq.ensures ∙ c.if-eq.true) in
    (taken.0, taken.1, with_edits ms c.args.self.now held c.args.name.now taken.0 is c.in_ok-self.field-0 taken.2)

pub returns-in_ok-read_value-clause-takes : goal.returns-in_ok-read_value-clause-takes
returns-in_ok-read_value-clause-takes c ms held =
    let v = c.in_ok-read_value.field-0 in
    let is = (bytes_eq-Decides _ _).0 (sym c.eq-else-eq.ensures ∙ c.if-eq-2.true) in
    (view v, c.in_ok-read_value.ensures.takes, with_key ms c.args.self.now held c.args.name.now (view v) is v refl)

pub returns-in_ok-read_value-2-clause-takes : goal.returns-in_ok-read_value-2-clause-takes
returns-in_ok-read_value-2-clause-takes c ms held =
    let v = c.in_ok-read_value-2.field-0 in
    (view v, c.in_ok-read_value-2.ensures.takes, with_another ms c.args.self.now held c.args.name.now (view v) (sym c.eq.ensures ∙ c.if-eq.false) (sym c.eq-else-eq.ensures ∙ c.if-eq-2.false))
