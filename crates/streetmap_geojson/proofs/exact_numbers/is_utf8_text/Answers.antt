use Rattle.std.proofs.Common.{sym, string_bytes}
use Rattle.std.proofs.lemmas.Str.{is_utf8-from_IsUtf8, IsUtf8-string_bytes}
use Rattle.streetmap_geojson.proofs.exact_numbers.is_utf8_text.Goals as goal

pub returns-clause-valid : goal.returns-clause-valid
returns-clause-valid c = sym (is_utf8-from_IsUtf8 (string_bytes c.args.text.now) (IsUtf8-string_bytes c.args.text.now))
