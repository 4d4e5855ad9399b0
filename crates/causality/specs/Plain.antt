-- The plain network (document 01): the network without modes, limits and resets, and what of a list of steps it is fed for a phase. Assumes nothing.
use Rattle.std.specs.Prelude.{ℕ, List, [], ◌∷◌, ◌++◌, cond, ◌&&◌, eqb}
use Rattle.clock.specs.Timestamp.{zeros, tick, raised}
use Rattle.reset.specs.Steps.{Step, enter, send, recv, start, Answer, refused, entry, mode_after}
use Rattle.reset.specs.Network.{Answered}

-- A message (document 01: note): its sender's timestamp and a register number.
pub record Message : Type 0 where
  pub counts : List ℕ
  pub register : ℕ

-- Eight counts for each station, and for each link an unbounded queue of messages, the first first.
pub record Plain : Type 0 where
  pub counts : ℕ → List ℕ
  pub queue : ℕ → ℕ → List Message

-- zero and empty at first
abbrev pub plain_initial : Plain
plain_initial = record { counts = λ i. zeros; queue = λ i j. [] }

-- f with v at i; at i and j
unfoldable pub at₁ : {A : Type 0} → (ℕ → A) → ℕ → A → ℕ → A
at₁ f i v k = cond (eqb i k) v (f k)

unfoldable pub at₂ : {A : Type 0} → (ℕ → ℕ → A) → ℕ → ℕ → A → ℕ → ℕ → A
at₂ f i j v k l = cond (eqb i k && eqb j l) v (f k l)

-- What a step does there: nothing; or the entry's timestamp, the message that it took (none but for a recv), and the network after.
pub data Result : Type 0 where
  nothing : Result
  gives : List ℕ → List Message → Plain → Result

-- station i takes the first of the queue from j: no result from an empty one
abbrev pub plain_take : ℕ → ℕ → Plain → List Message → Result
plain_take i j P [] = nothing
plain_take i j P (m ∷ q) =
    let v = raised i (P.counts i) m.counts in
    gives v (m ∷ []) (record { counts = at₁ P.counts i v; queue = at₂ P.queue j i q })

-- enter, send and recv do to counts and queues what they do in the network; a start is never fed
abbrev pub plain_step : Plain → Step → Result
plain_step P (enter i g) =
    let v = tick i (P.counts i) in
    gives v [] (record { counts = at₁ P.counts i v; queue = P.queue })
plain_step P (send i j g) =
    let v = tick i (P.counts i) in
    gives v [] (record { counts = at₁ P.counts i v; queue = at₂ P.queue i j (P.queue i j ++ (record { counts = v; register = g } ∷ [])) })
plain_step P (recv i j) = plain_take i j P (P.queue j i)
plain_step P (start i) = nothing

-- ---- a list of steps
-- What is told of a step: its timestamp and the message that it took; or that it had no result.
pub data Told : Type 0 where
  stuck : Told
  told : List ℕ → List Message → Told

-- what is told of each step, up to one that has no result
abbrev pub plain_told : Plain → List Step → List Told
plain_told P [] = []
plain_told P (p ∷ ps) = elim (plain_step P p) [ nothing ↦ stuck ∷ [] | gives v m Q ↦ told v m ∷ plain_told Q ps ]

-- the network after them
abbrev pub plain_after : Plain → List Step → Plain
plain_after P [] = P
plain_after P (p ∷ ps) = elim (plain_step P p) [ nothing ↦ P | gives v m Q ↦ plain_after Q ps ]

-- ---- what it is fed for phase f
-- a in front of l where the answer is an entry of phase f
abbrev pub of_phase : {A : Type 0} → ℕ → Answer → A → List A → List A
of_phase f (refused k) a l = l
of_phase f (mode_after i m p) a l = l
of_phase f (entry e) a l = cond (eqb e.phase f) (a ∷ l) l

-- in list order and with their arguments, the steps whose answer was an entry of that phase
abbrev pub fed : ℕ → List Answered → List Step
fed f [] = []
fed f (x ∷ l) = of_phase f x.answer x.step (fed f l)
