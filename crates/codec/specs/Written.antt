-- What a call that writes into a lent buffer gives. Assumes nothing.
use Rattle.std.specs.Prelude.{ℕ, List}

-- the answer, 0 or a refusal's number, and the buffer afterwards
pub record Written : Type 0 where
  pub answer : ℕ
  pub buffer : List ℕ

-- a refusal leaves the buffer as it was
abbrev pub refused : ℕ → List ℕ → Written
refused k d = record { answer = k; buffer = d }

abbrev pub wrote : List ℕ → Written
wrote d = record { answer = 0; buffer = d }
