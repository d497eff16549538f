use Rattle.std.proofs.Common.{subst, IsTrue, List, ℕ}
use Rattle.std.specs.Str.{is_utf8}
use Rattle.std.proofs.lemmas.Str.{is_utf8-from_IsUtf8, IsUtf8-string_bytes}
use Rattle.streetmap_geojson.proofs.id.Id.as_str.Goals as goal

pub returns-clause-text : goal.returns-clause-text
returns-clause-text c = subst (λ (s : List ℕ). IsTrue (is_utf8 s)) c.self.view_is (is_utf8-from_IsUtf8 _ (IsUtf8-string_bytes c.self.inside.text))
