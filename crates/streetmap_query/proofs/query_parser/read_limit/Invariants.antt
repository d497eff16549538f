use Rattle.std.proofs.Common.{◌≡◌, true, take, min}
use Rattle.std.specs.Str.{all_ascii_digits}
use Rattle.std.specs.Str.Parse.{digits_value}
use Rattle.streetmap_query.proofs.query_parser.read_limit.Given as goal

abbrev pub invariant-loop-byte : goal.invariant-loop-byte
invariant-loop-byte l = record {
  digits : all_ascii_digits (take l.byte-index l.text) ≡ true;
  number : l.number ≡ min (digits_value 10 (take l.byte-index l.text)) 1000;
}
