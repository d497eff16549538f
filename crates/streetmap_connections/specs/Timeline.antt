-- What one thread did for its connections, in the order in which it did it.
use Rattle.std.specs.Prelude.{◌≡◌, ℕ, List, [], ◌∷◌, ◌++◌}
use Rattle.streetmap_connections.specs.History.{Exchange, History, new_history}
use Rattle.streetmap_connections.specs.History.{after_receive, after_answer, after_refusal}
use Rattle.streetmap_connections.specs.History.{after_send}

-- a connection takes a step: it reads once, answers a request, refuses one, or writes once
pub data Step (old : History) (answered : List Exchange) (new : History) : Type 0 where
  reads : (bytes : List ℕ) → answered ≡ [] → new ≡ after_receive old bytes
      → Step old answered new
  answers : (e : Exchange) → answered ≡ e ∷ [] → new ≡ after_answer old e
      → Step old answered new
  refuses : (text : List ℕ) → answered ≡ [] → new ≡ after_refusal old text
      → Step old answered new
  writes : (count : ℕ) → answered ≡ [] → new ≡ after_send old count
      → Step old answered new

-- it takes steps, one after the other, in which these requests are answered
pub data Steps : (old : History) → (answered : List Exchange) → (new : History) → Type 0 where
  none : {old new : History} {answered : List Exchange} → answered ≡ [] → new ≡ old
      → Steps old answered new
  first : {old next new : History} {answered made rest : List Exchange} → Step old made next
      → Steps next rest new → answered ≡ made ++ rest → Steps old answered new

-- one of several connections takes a step, or a new one is added
pub data Happens (old : List History) (answered : List Exchange) (new : List History)
    : Type 0 where
  moves : (front back : List History) (was is : History) → old ≡ front ++ was ∷ back
      → Step was answered is → new ≡ front ++ is ∷ back → Happens old answered new
  comes : (front back : List History) → answered ≡ [] → old ≡ front ++ back
      → new ≡ front ++ new_history ∷ back → Happens old answered new

-- these steps happened, one after the other, and these requests were answered, in this order
pub data Timeline : (old : List History) → (answered : List Exchange) → (new : List History)
    → Type 0 where
  none : {old new : List History} {answered : List Exchange} → answered ≡ [] → new ≡ old
      → Timeline old answered new
  first : {old next new : List History} {answered made rest : List Exchange}
      → Happens old made next → Timeline next rest new → answered ≡ made ++ rest
      → Timeline old answered new
