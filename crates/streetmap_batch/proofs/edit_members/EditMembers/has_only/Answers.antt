use Rattle.std.proofs.Common.{◌≡◌, true, false, ◌∙◌, sym, string_bytes}
use Rattle.std.specs.Prelude.{is_some}
use Rattle.std.specs.List.{list_all}
use Rattle.std.specs.Map.{keys_of}
use Rattle.streetmap_batch.specs.EditMembers.{stated_members}
use Rattle.streetmap_batch.specs.ParsedBatches.{has_only, may_have}
use Rattle.streetmap_batch.proofs.MemberFacts.{names_are}
use Rattle.streetmap_batch.proofs.edit_members.EditMembers.has_only.Goals as goal

pub returns-then-is_none : goal.returns-then-is_none
unfolding has_only stated_members
returns-then-is_none c =
    let m = c.args.self.now in
    let all : list_all (λ name. may_have c.args.format (string_bytes name)) (keys_of m.others.entries) ≡ true =
    sym c.names_pass.ensures ∙ c.if-names_pass.true in
    let none : is_some m.feature ≡ false = c.if-is_none.ensures in
    c.if-is_none.true ∙ (rw (all, none) at (names_are (may_have c.args.format) m.feature m.others.entries))

pub returns-else-is_none : goal.returns-else-is_none
unfolding has_only stated_members
returns-else-is_none c =
    let m = c.args.self.now in
    let all : list_all (λ name. may_have c.args.format (string_bytes name)) (keys_of m.others.entries) ≡ true =
    sym c.names_pass.ensures ∙ c.if-names_pass.true in
    let some : is_some m.feature ≡ true = c.if-is_none.ensures in
    c.may_have.ensures ∙ (rw (all, some) at (names_are (may_have c.args.format) m.feature m.others.entries))

pub returns-else-names_pass : goal.returns-else-names_pass
unfolding has_only stated_members
returns-else-names_pass c =
    let m = c.args.self.now in
    let all : list_all (λ name. may_have c.args.format (string_bytes name)) (keys_of m.others.entries) ≡ false =
    sym c.names_pass.ensures ∙ c.if-names_pass.false in
    c.if-names_pass.false ∙ (rw all at (names_are (may_have c.args.format) m.feature m.others.entries))
