use Rattle.std.proofs.Common.{◌≡◌, take, drop}
use Rattle.streetmap_json.specs.NumberText.{within, tokens_from}
use Rattle.streetmap_json.proofs.NumberTextTokens.{string_side, onto_all}
use Rattle.streetmap_json.proofs.number_text.string_rest.Given as goal

abbrev pub invariant-loop-i : goal.invariant-loop-i
invariant-loop-i l = onto_all (take l.i l.rest) (tokens_from (string_side l.escaped) (drop l.i l.rest)) ≡ tokens_from within l.rest
