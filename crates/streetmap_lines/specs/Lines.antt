-- The lines of the input, and what is written for them.
use Rattle.std.specs.Prelude.{ℕ, List, [], ◌∷◌, ◌++◌, Option, None, Some, take}
use Rattle.std.specs.Io.KnownBytes.{Appends}
use Rattle.serde_json.specs.Data.{Data}
use Rattle.serde_json.specs.Written.{compact_text}
use Rattle.streetmap_text_lines.specs.Lines as bounded
use Rattle.streetmap_ledger.specs.State.{State}
use Rattle.streetmap_lines.specs.Answers.{answer_to}
use Rattle.streetmap_lines.specs.Request.{request_in}

-- ---- answers

-- the answer to a line in this state; an empty line is skipped
abbrev pub line_answer : State → List ℕ → Option Data
line_answer s [] = None
line_answer s (b ∷ bs) = Some (answer_to s (request_in (b ∷ bs))).body

-- the state after a line
abbrev pub state_after : State → List ℕ → State
state_after s [] = s
state_after s (b ∷ bs) = (answer_to s (request_in (b ∷ bs))).state

-- how an answer is written: its compact JSON text, and a line feed
abbrev pub answer_text : Option Data → List ℕ
answer_text None = []
answer_text (Some body) = compact_text body ++ 10 ∷ []

-- the answers to lines, in order: each line is answered in the state after the ones before it
abbrev pub answers_of : State → List (List ℕ) → List ℕ
answers_of s [] = []
answers_of s (line ∷ lines) = answer_text (line_answer s line)
    ++ answers_of (state_after s line) lines

-- ---- lines that are too long

-- the number of lines before the first of more than 8,388,608 bytes, without its line feed; none
-- if no line is that long
abbrev pub first_too_long : List ℕ → Option ℕ
first_too_long input = bounded.first_too_long 8388608 input

-- ---- writing that ends early

-- the answers to a prefix of these lines were written, and nothing else
abbrev pub AnswersFirst : Option (List ℕ) → Option (List ℕ) → State → List (List ℕ) → Type 0
AnswersFirst old new s lines = (count : ℕ) × Appends old new (answers_of s (take count lines))
