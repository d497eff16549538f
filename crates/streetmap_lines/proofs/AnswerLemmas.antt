-- What is written for lines.
use Rattle.std.proofs.Common.{◌≡◌, ◌≢◌, ℕ, ◌+◌, List, [], ◌∷◌, ◌++◌, length, take, refl, sym, ap}
use Rattle.std.proofs.Common.{subst, ◌∙◌, arith, append_assoc, append-nil, length-append, Option}
use Rattle.std.proofs.Common.{Some, None, option_map, IfSome, Result, Ok, Err, String}
use Rattle.std.proofs.Common.{string_bytes, Global}
use Rattle.std.proofs.Math.Seq.{take-append_seam}
use Rattle.std.proofs.KnownBytes.{Appends-nil, Appends-trans}
use Rattle.std.specs.Io.KnownBytes.{Appends, IsAtEnd}
use Rattle.std.specs.Str.Lines.{lines}
use Rattle.streetmap_ledger.specs.State.{State, opening_state}
use Rattle.serde_json.specs.Data.{Data}
use Rattle.serde_json.specs.Written.{compact_text}
use Rattle.streetmap_memory.specs.Plain.{IsPlainState, plain_state}
use Rattle.streetmap_memory.specs.declared.plain.PlainKeeper.{PlainKeeper}
use Rattle.std.specs.declared.alloc.AllocError.{AllocError}
use Rattle.streetmap_ledger.specs.Model.{Model}
use Rattle.streetmap_ledger.specs.declared.reply.Cause.{Cause}
use Rattle.streetmap_ledger.specs.declared.reply.Cause.TheVariants as causes
use Rattle.streetmap_ledger.specs.declared.reply.Fault.{Fault}
use Rattle.streetmap_ledger.specs.declared.reply.Fault.TheVariants.{Memory, Device, Damaged, Reopen}
use Rattle.streetmap_lines.specs.AnswerView.{LineSays, SaysOf}
use Rattle.streetmap_lines.specs.Answers.{Answer, answer_to}
use Rattle.streetmap_lines.specs.Request.{request_in}
use Rattle.streetmap_lines.specs.Lines.{line_answer, state_after, answer_text, answers_of, first_too_long}
use Rattle.streetmap_lines.specs.Lines.{AnswersFirst}
use Rattle.streetmap_text_lines.specs.LineReads.{IsFirstLine, WhereKnown}
use Rattle.streetmap_text_lines.specs.Written.{AppendsBeginning, AppendsLess}
use Rattle.streetmap_text_lines.proofs.WriteLemmas.{beginning_longer, beginning_after}
use Rattle.streetmap_text_lines.proofs.WriteLemmas.{less_longer, less_after}

-- ---- answers

-- the text of an answer, if any, and the state that the keeper represents after it
pub record IsLineAnswer (s : State) (line : List ℕ) (text : Option (String Global)) (keeper : PlainKeeper) : Type 0 where
  pub said : option_map string_bytes text ≡ option_map compact_text (line_answer s line)
  pub state : IsPlainState keeper (state_after s line)

empty-answer : (s : State) (keeper : PlainKeeper) (o : Option (String Global)) → None ≡ o → IsPlainState keeper s → IsLineAnswer s [] o keeper
empty-answer s keeper None h represented = record { said = refl; state = represented }
empty-answer s keeper (Some text) h represented = cc

some-answer : (s : State) (keeper : PlainKeeper) (b : ℕ) (bs : List ℕ) (o : Option (String Global)) →
    LineSays s (answer_to s (request_in (b ∷ bs))) (Ok o) keeper → IsLineAnswer s (b ∷ bs) o keeper
some-answer s keeper b bs None h = absurd h
some-answer s keeper b bs (Some text) h = record { said = ap Some h.0; state = h.1 }

-- an answer without a text
none-text : (o : Option (String Global)) → ◌≡◌ {A = Result (Option (String Global)) AllocError} (Ok o) (Ok None) → None ≡ o
none-text o e = cc

pub line_answered : (s : State) (old keeper : PlainKeeper) (line : List ℕ) (o : Option (String Global)) → IsPlainState old s
    → (line ≢ [] → LineSays s (answer_to s (request_in line)) (Ok o) keeper)
    → (line ≡ [] → (◌≡◌ {A = Result (Option (String Global)) AllocError} (Ok o) (Ok None)) × ((t : State) → IsPlainState old t → IsPlainState keeper t)) →
    IsLineAnswer s line o keeper
line_answered s old keeper [] o represented h k = empty-answer s keeper o (none-text o (k refl).0) ((k refl).1 s represented)
line_answered s old keeper (b ∷ bs) o represented h k = some-answer s keeper b bs o (h (λ e. cc))

-- a keeper that represents a state represents that of its maps
pub represents_own : (keeper : PlainKeeper) (s : State) → IsPlainState keeper s → IsPlainState keeper (plain_state keeper)
represents_own keeper s h = subst (IsPlainState keeper) (sym h.is) h

-- an answer with its line feed, or nothing
pub said_text : (body : Option Data) (text : List ℕ) → Some text ≡ option_map compact_text body → text ++ 10 ∷ [] ≡ answer_text body
said_text None text e = cc
said_text (Some body) text e = let same : text ≡ compact_text body = cc in ap (λ l. l ++ 10 ∷ []) same

pub said_none : (body : Option Data) → None ≡ option_map compact_text body → [] ≡ answer_text body
said_none None e = refl
said_none (Some body) e = cc

abbrev pub state_after_all : State → List (List ℕ) → State
state_after_all s [] = s
state_after_all s (line ∷ more) = state_after_all (state_after s line) more

answers_of-append : (s : State) (xs ys : List (List ℕ)) → answers_of s (xs ++ ys) ≡ answers_of s xs ++ answers_of (state_after_all s xs) ys
answers_of-append s [] ys = refl
answers_of-append s (x ∷ xs) ys =
    let first = answer_text (line_answer s x) in
    ap (λ l. first ++ l) (answers_of-append (state_after s x) xs ys) ∙ sym (append_assoc first (answers_of (state_after s x) xs)
    (answers_of (state_after_all (state_after s x) xs) ys))

state_after_all-push : (s : State) (xs : List (List ℕ)) (x : List ℕ) → state_after_all s (xs ++ x ∷ []) ≡ state_after (state_after_all s xs) x
state_after_all-push s [] x = refl
state_after_all-push s (y ∷ ys) x = state_after_all-push (state_after s y) ys x

-- the first lines of the input are answered
pub record IsAnswered (input rest : List ℕ) (old new : Option (List ℕ)) (s : State) : Type 0 where
  pub done : List (List ℕ)
  pub all : lines input ≡ done ++ lines rest
  pub short : first_too_long input ≡ option_map (λ n. length done + n) (first_too_long rest)
  pub state : s ≡ state_after_all opening_state done
  pub written : Appends old new (answers_of opening_state done)

none-done : (o : Option ℕ) → o ≡ option_map (λ n. 0 + n) o
none-done None = refl
none-done (Some n) = let e : n ≡ 0 + n = omega arith in ap Some e

pub answered_none : (a w : Option (List ℕ)) (s : State) → s ≡ opening_state → WhereKnown a a (λ input rest. IsAnswered input rest w w s)
answered_none None w s e = tt
answered_none (Some input) w s e = record { done = []; all = refl; short = none-done (first_too_long input); state = e; written = Appends-nil w }

more-done : (m : ℕ) (o : Option ℕ) → option_map (λ n. m + n) (option_map (λ n. 1 + n) o) ≡ option_map (λ n. (m + 1) + n) o
more-done m None = refl
more-done m (Some n) = let e : m + (1 + n) ≡ (m + 1) + n = omega arith in ap Some e

line-done : (input rest later line : List ℕ) (old w1 w2 : Option (List ℕ)) (s t : State) → IsAnswered input rest old w1 s → IsFirstLine 8388608 rest line later
    → Appends w1 w2 (answer_text (line_answer s line)) → t ≡ state_after s line → IsAnswered input later old w2 t
line-done input rest later line old w1 w2 s t h f w e =
    let done = h.done ++ line ∷ [] in
    let before = answers_of opening_state h.done in
    let this = answer_text (line_answer s line) in
    let here : before ++ this ≡ answers_of opening_state done =
    ap (λ x. before ++ answer_text (line_answer x line)) h.state
    ∙ ap (λ l. before ++ l) (sym (append-nil (answer_text (line_answer (state_after_all opening_state h.done) line))))
    ∙ sym (answers_of-append opening_state h.done (line ∷ [])) in
    let counted : length done ≡ length h.done + 1 = length-append h.done (line ∷ []) in
    record {
      done = done;
      all = h.all ∙ ap (λ l. h.done ++ l) f.first ∙ sym (append_assoc h.done (line ∷ []) (lines later));
      short = h.short ∙ ap (option_map (λ n. length h.done + n)) f.short ∙ more-done (length h.done) (first_too_long later)
          ∙ ap (λ m. option_map (λ n. m + n) (first_too_long later)) (sym counted);
      state = e ∙ ap (λ x. state_after x line) h.state ∙ sym (state_after_all-push opening_state h.done line);
      written = subst (Appends old w2) here (Appends-trans old w1 w2 before this h.written w);
    }

-- one more line is answered
pub answered_more : (a b c old w1 w2 : Option (List ℕ)) (line : List ℕ) (s t : State) → WhereKnown a b (λ input rest. IsAnswered input rest old w1 s)
    → WhereKnown b c (λ input rest. IsFirstLine 8388608 input line rest) → Appends w1 w2 (answer_text (line_answer s line)) → t ≡ state_after s line
    → WhereKnown a c (λ input rest. IsAnswered input rest old w2 t)
answered_more None b c old w1 w2 line s t h f w e = tt
answered_more (Some input) None c old w1 w2 line s t h f w e = absurd h
answered_more (Some input) (Some rest) None old w1 w2 line s t h f w e = absurd f
answered_more (Some input) (Some rest) (Some later) old w1 w2 line s t h f w e = line-done input rest later line old w1 w2 s t h f w e

-- no line is left to answer
pub answered_all : (a b old w : Option (List ℕ)) (s : State) → WhereKnown a b (λ input rest. IsAnswered input rest old w s) → IsAtEnd b
    → IfSome a (λ input. Appends old w (answers_of opening_state (lines input)))
answered_all None b old w s h end = tt
answered_all (Some input) None old w s h end = absurd h
answered_all (Some input) (Some rest) old w s h end =
    subst (λ ls. Appends old w (answers_of opening_state ls)) (sym (h.all ∙ ap (λ r. h.done ++ lines r) end ∙ append-nil h.done)) h.written

-- the answers so far, and no more
pub answered_first : (a b old w : Option (List ℕ)) (s : State) → WhereKnown a b (λ input rest. IsAnswered input rest old w s)
    → IfSome a (λ input. AnswersFirst old w opening_state (lines input))
answered_first None b old w s h = tt
answered_first (Some input) None old w s h = absurd h
answered_first (Some input) (Some rest) old w s h = (
  length h.done,
  subst (λ ls. Appends old w (answers_of opening_state ls)) (sym (ap (take (length h.done)) h.all ∙ take-append_seam h.done (lines rest)))
      h.written,
)

rest-written : (input rest : List ℕ) (old w v : Option (List ℕ)) (s : State) →
    IsAnswered input rest old w s → AppendsBeginning w v (answers_of s (lines rest)) →
    AppendsBeginning old v (answers_of opening_state (lines input))
rest-written input rest old w v s h f =
    subst (AppendsBeginning old v)
    (ap (λ x. answers_of opening_state h.done ++ answers_of x (lines rest)) h.state
    ∙ sym (answers_of-append opening_state h.done (lines rest))
    ∙ ap (answers_of opening_state) (sym h.all))
    (beginning_after old w v (answers_of opening_state h.done) (answers_of s (lines rest))
    h.written f)

-- what was written is a prefix of the answers
pub answered_begun : (a b old w : Option (List ℕ)) (s : State) →
    WhereKnown a b (λ input rest. IsAnswered input rest old w s) →
    IfSome a (λ input. AppendsBeginning old w (answers_of opening_state (lines input)))
answered_begun None b old w s h = tt
answered_begun (Some input) None old w s h = absurd h
answered_begun (Some input) (Some rest) old w s h =
    rest-written input rest old w w s h ([], refl, Appends-nil w)

-- so it is if the answer to a line was written in part
pub answered_partly : (a b c old w v : Option (List ℕ)) (line : List ℕ) (s : State) →
    WhereKnown a b (λ input rest. IsAnswered input rest old w s) →
    WhereKnown b c (λ input rest. IsFirstLine 8388608 input line rest) →
    AppendsBeginning w v (answer_text (line_answer s line)) →
    IfSome a (λ input. AppendsBeginning old v (answers_of opening_state (lines input)))
answered_partly None b c old w v line s h f p = tt
answered_partly (Some input) None c old w v line s h f p = absurd h
answered_partly (Some input) (Some rest) None old w v line s h f p = absurd f
answered_partly (Some input) (Some rest) (Some later) old w v line s h f p =
    rest-written input rest old w v s h
    (subst (λ ls. AppendsBeginning w v (answers_of s ls)) (sym f.first)
    (beginning_longer w v (answer_text (line_answer s line))
    (answers_of (state_after s line) (lines later)) p))

-- and not all of them
less-written : (input rest : List ℕ) (old w v : Option (List ℕ)) (s : State) →
    IsAnswered input rest old w s → AppendsLess w v (answers_of s (lines rest)) →
    AppendsLess old v (answers_of opening_state (lines input))
less-written input rest old w v s h f =
    subst (AppendsLess old v)
    (ap (λ x. answers_of opening_state h.done ++ answers_of x (lines rest)) h.state
    ∙ sym (answers_of-append opening_state h.done (lines rest))
    ∙ ap (answers_of opening_state) (sym h.all))
    (less_after old w v (answers_of opening_state h.done) (answers_of s (lines rest))
    h.written f)

pub answered_less : (a b c old w v : Option (List ℕ)) (line : List ℕ) (s : State) →
    WhereKnown a b (λ input rest. IsAnswered input rest old w s) →
    WhereKnown b c (λ input rest. IsFirstLine 8388608 input line rest) →
    AppendsLess w v (answer_text (line_answer s line)) →
    IfSome a (λ input. AppendsLess old v (answers_of opening_state (lines input)))
answered_less None b c old w v line s h f p = tt
answered_less (Some input) None c old w v line s h f p = absurd h
answered_less (Some input) (Some rest) None old w v line s h f p = absurd f
answered_less (Some input) (Some rest) (Some later) old w v line s h f p =
    less-written input rest old w v s h
    (subst (λ ls. AppendsLess w v (answers_of s ls)) (sym f.first)
    (less_longer w v (answer_text (line_answer s line))
    (answers_of (state_after s line) (lines later)) p))

-- the one fault of a keeper that nothing shut is `Memory`, and then its state is as before
pub says_before : {K : Type 0} (model : Model K) (s : State) (answer : Answer) (fault : Fault) (keeper : K) → model.cause keeper ≡ None
    → SaysOf model s answer (Err fault) keeper → model.represents keeper s
says_before model s answer Memory keeper unshut h = h
says_before model s answer Device keeper unshut h = absurd (let bad : ◌≡◌ {A = Option Cause} None (Some causes.Device) = sym unshut ∙ h in cc)
says_before model s answer Damaged keeper unshut h = absurd h
says_before model s answer Reopen keeper unshut h = absurd h
