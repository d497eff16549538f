-- The bytes of answers.
use Rattle.std.specs.Prelude.{ℕ, List, ◌++◌, string_bytes}
use Rattle.streetmap_connections.specs.declared.service.Answer.{Answer}
use Rattle.streetmap_connections.specs.declared.service.Answer.TheVariants.{Made, Fixed}

abbrev pub head_bytes : Answer → List ℕ
head_bytes (Made head body) = string_bytes head
head_bytes (Fixed head body) = head.now

abbrev pub body_bytes : Answer → List ℕ
body_bytes (Made head body) = string_bytes body
body_bytes (Fixed head body) = body.now

abbrev pub answer_text : Answer → List ℕ
answer_text answer = head_bytes answer ++ body_bytes answer
