use Rattle.std.proofs.Common.{arith}
use Rattle.streetmap_web.proofs.NoRequestYet.{none_in_head, none_in_body, none_before_head, none_before_body}
use Rattle.streetmap_web.proofs.keeper_service.cut_of.Goals as goal

pub returns-in-Head-clause-none : goal.returns-in-Head-clause-none
returns-in-Head-clause-none c = none_in_head c.args.input.now c.in-Head.ensures.holds

pub returns-in-Head-clause-not_before : goal.returns-in-Head-clause-not_before
returns-in-Head-clause-not_before c = none_before_head c.args.input.now c.saturating_add.result (omega (arith, c.saturating_add.ensures)) c.in-Head.ensures.holds

pub returns-in-Body-clause-none : goal.returns-in-Body-clause-none
returns-in-Body-clause-none c = none_in_body c.args.input.now c.in-Body.missing c.in-Body.ensures.holds

pub returns-in-Body-clause-not_before : goal.returns-in-Body-clause-not_before
returns-in-Body-clause-not_before c =
    none_before_body c.args.input.now c.saturating_add-in-Body.result c.in-Body.missing (omega (arith, c.saturating_add-in-Body.ensures)) c.in-Body.ensures.holds
