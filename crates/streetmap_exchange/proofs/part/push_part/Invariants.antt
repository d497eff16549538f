use Rattle.std.proofs.Common.{◌≡◌, ◌++◌, drop, string_bytes}
use Rattle.streetmap_exchange.specs.Exports.{part_text}
use Rattle.streetmap_exchange.proofs.part.push_part.Given as goal

-- the text so far and the text of the features that are left are the whole
abbrev pub invariant-loop-feature : goal.invariant-loop-feature
invariant-loop-feature l =
    string_bytes l.out ++ part_text l.following (drop l.feature-index l.features)
    ≡ string_bytes l.fn.out ++ part_text l.later l.features
